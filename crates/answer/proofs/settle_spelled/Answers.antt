-- `answer::settle_spelled` meets its contract. Assumes nothing.
use mathlib.Core.Path.{refl}
use Rattle.snapshot.proofs.Growing.{grown_above}
use Rattle.answer.proofs.Settling.{answers_in, linked_stay}
use Rattle.answer.proofs.settle_spelled.Goals as goal

pub answer_spelled-told-requires-clause-lay : goal.answer_spelled-told-requires-clause-lay
answer_spelled-told-requires-clause-lay g c = let b = c.since-before.ensures in (c.args.st.now.lay, rw b.0 (grown_above _ _ _ _ c.requires.0.since.grown))

pub answer_spelled-told-requires-clause-still : goal.answer_spelled-told-requires-clause-still
answer_spelled-told-requires-clause-still g c = let b = c.since-before.ensures in rw (b.0, b.1.0) c.requires.1

pub invariant_of-st : goal.invariant_of-st
invariant_of-st g c =
    let b = c.since-before.ensures in
    record { lay = (rw (b.0, b.1.0, b.1.1) at c.answer_spelled-told.ensures).lay _ c.requires.0.since }

pub returns : goal.returns
returns g c =
    let b = c.since-before.ensures in
    let told = rw (b.0, b.1.0, b.1.1) at c.answer_spelled-told.ensures in
    λ m buf buf' h. let a = told.is m buf buf' h in
    answers_in _ c.args.before _ _ _ _ _ _ c.requires.0 (linked_stay _ _ _ refl refl refl c.requires.0.many a.stay) refl a
