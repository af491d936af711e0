-- `canonical::Names::write_head` meets its contract. Assumes nothing.
use native.Mathlib.Omega.{arith}
use Rattle.definition.specs.Types.{fresh}
use Rattle.definition.specs.Canonical.{numbered, meet_in}
use Rattle.definition.specs.Subst.{as_var}
use Rattle.theorems.specs.ReadySpelled.{head_by, met_by}
use Rattle.table.specs.State.{value_of}
use Rattle.canonical.proofs.Numbers.{is_variable, no_variable, same_length, var_length}
use Rattle.canonical.proofs.NamesHeads.write_head.Goals as goal

pub write_head-requires : goal.write_head-requires
write_head-requires c = let f = c.requires.fits in (f.0.0, omega (arith, f.1, same_length c.args._loc 0 (value_of c.args.shape)))

pub number-requires : goal.number-requires
number-requires c = (c.requires.known, (is_variable c.args.shape _ (rw c.in-Some.is at (c.as_var.ensures fresh))).1 c.requires.fits.0.1)

pub write_head-requires-in-Some : goal.write_head-requires-in-Some
write_head-requires-in-Some c =
    let v = is_variable c.args.shape _ (rw c.in-Some.is at (c.as_var.ensures fresh)) in
    (tt, omega (arith, rw v.0 at c.requires.fits.1, var_length c.args._loc 0 c.in-Some.v.0 c.number.result.0))

pub returns-in-None : goal.returns-in-None
unfolding head_by met_by
returns-in-None c = λ ms k. let e = no_variable c.args.shape (rw c.in-None.is at (c.as_var.ensures fresh)) ms in rw (e.0, e.1) (c.write_head.ensures, k)

pub returns-in-Some : goal.returns-in-Some
unfolding head_by met_by numbered meet_in as_var
returns-in-Some c = λ ms k.
    let v = is_variable c.args.shape _ (rw c.in-Some.is at (c.as_var.ensures fresh)) in
    let n = c.number.ensures ms k in
    rw v.0 (rw n.0 at c.write_head-in-Some.ensures, n.1)
