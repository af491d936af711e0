use Rattle.std.proofs.Common.{sym, ◌∙◌, arith}
use Rattle.sound_fields.proofs.Below.{passed_none, passed_more, one_fails}
use Rattle.sound.proofs.Links.{noted_none}
use Rattle.sound.proofs.chains_fine.Goals as goal

pub loop-i-init : goal.loop-i-init
loop-i-init c = (passed_none _ _, noted_none _ _)

pub returns-then-not-chain_fine : goal.returns-then-not-chain_fine
returns-then-not-chain_fine c = sym (one_fails _ _ c.loop-i.i (omega arith) (sym (rw c.tvar.ensures at c.chain_fine.ensures.fine) ∙ c.if-not-chain_fine.true))

pub loop-i-preserved : goal.loop-i-preserved
loop-i-preserved c = (passed_more _ _ _ c.loop-i.invariant.0 (omega arith) (sym (rw c.tvar.ensures at c.chain_fine.ensures.fine) ∙ c.if-not-chain_fine.false), c.chain_fine.ensures.kept)
