-- `payload::write_shown` meets its contract. Assumes nothing.
use Rattle.payload.proofs.Payload.{wrote_nothing, length_variable, length_anything, node_fits, types_fit}
use Rattle.payload.specs.Payload.{shown}
use native.Mathlib.Omega.{arith}
use Rattle.payload.proofs.write_shown.Goals as goal

pub tvar-requires : goal.tvar-requires
tvar-requires c = omega (arith, rw c.in-Variable.is at c.requires.shows.0, c.args.st.now.lay.vars)

pub write_head-requires : goal.write_head-requires
write_head-requires c = (tt, omega (arith, length_variable c.in-Variable.loc c.tvar.result.0, c.requires.shows.1.1))

pub write_type-requires : goal.write_type-requires
write_type-requires c = let args = c.args in
    let pre = c.requires in record { all_bytes = (rw c.in-Node.is at pre.shows.0, pre.shows.1.0); fits = λ ds. omega (arith, node_fits args.show args.t _ c.in-Node.is (pre.fits ds), pre.shows.1.1) }

pub write_head-requires-in-Anything : goal.write_head-requires-in-Anything
write_head-requires-in-Anything c = (tt, omega (arith, length_anything c.in-Anything.loc, c.requires.shows.1.1))

pub write_two-requires : goal.write_two-requires
write_two-requires c = let args = c.args in
    let pre = c.requires in
    let in_use = rw c.in-Two.is at pre.shows.0 in record { in_use = (in_use.0, (in_use.1, pre.shows.1)); fits = λ ds. types_fit args.show args.t _ _ _ c.in-Two.is (pre.fits ds) }

pub returns-in-Nothing : goal.returns-in-Nothing
unfolding shown
returns-in-Nothing c = λ ds. rw c.in-Nothing.is (wrote_nothing _)

pub returns-in-Number : goal.returns-in-Number
unfolding shown
returns-in-Number c = λ ds. rw c.in-Number.is c.put_u16.ensures

pub returns-in-Variable : goal.returns-in-Variable
unfolding shown
returns-in-Variable c = λ ds. rw c.in-Variable.is (rw c.tvar.ensures at c.write_head.ensures)

pub returns-in-Node : goal.returns-in-Node
unfolding shown
returns-in-Node c = λ ds. rw c.in-Node.is (c.write_type.ensures ds)

pub returns-in-Anything : goal.returns-in-Anything
unfolding shown
returns-in-Anything c = λ ds. rw c.in-Anything.is c.write_head-in-Anything.ensures

pub returns-in-Location : goal.returns-in-Location
unfolding shown
returns-in-Location c = λ ds. rw c.in-Location.is c.put_u32.ensures

pub returns-in-Two : goal.returns-in-Two
unfolding shown
returns-in-Two c = λ ds. rw c.in-Two.is (c.write_two.ensures ds)

pub returns-in-Four : goal.returns-in-Four
unfolding shown
returns-in-Four c = λ ds. rw c.in-Four.is c.write_four.ensures
