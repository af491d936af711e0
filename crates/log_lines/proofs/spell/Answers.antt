-- `log_lines::spell` meets its contract: what the library writes is the definition's. Assumes nothing.
use mathlib.Core.Path.{◌≡◌}
use Rattle.std.proofs.Common.{arith}
use Rattle.log_lines.proofs.Text.{spelled_none, spelled_more}
use Rattle.log_lines.proofs.spell.Goals as goal

pub loop-k-init : goal.loop-k-init
loop-k-init c = record { bytes = λ i. (c.type_inv.text i).fits; is = spelled_none _ _ c.requires }

pub loop-k-preserved : goal.loop-k-preserved
loop-k-preserved c =
    let i = c.loop-k.invariant in
    let written = rw c.unwrap.ensures at c.encode_to_slice.ensures.written in
    record { bytes = λ i. (c.type_inv.text i).fits; is = spelled_more _ _ _ _ _ c.loop-k-test.true c.loop-k.auto.k c.requires i.is (i.bytes _) written }

pub returns : goal.returns
returns c = let none : c.loop-k.k ≡ 0 = omega (arith, c.loop-k-test.false) in rw none at c.loop-k.invariant.is
