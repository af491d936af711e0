-- `many::answer_pairs` meets its contract. Assumes nothing.
use mathlib.Core.Path.{refl}
use native.Mathlib.Omega.{arith}
use Rattle.many.proofs.Turns.{going_start, going_in, pair_room, going_on, all_answered, pair_in}
use Rattle.many.proofs.answer_pairs.Goals as goal

pub loop-i-init : goal.loop-i-init
loop-i-init c = going_start _ _ _ _ _ c.requires.noted.1 c.requires.pairs_in.1.1.1

pub answer_pair-at-requires-clause-pair_in : goal.answer_pair-at-requires-clause-pair_in
answer_pair-at-requires-clause-pair_in c =
    let g = c.loop-i.invariant in
    (pair_in (going_in g c.requires.pairs_in.1.1.0) c.loop-i-test.true c.pair_at.ensures, g.in_range)

pub answer_pair-at-requires-clause-noted : goal.answer_pair-at-requires-clause-noted
answer_pair-at-requires-clause-noted c = (omega (arith, c.loop-i.auto.saved, c.requires.noted.0), c.loop-i.invariant.noted)

pub answer_pair-at-requires-clause-room : goal.answer_pair-at-requires-clause-room
answer_pair-at-requires-clause-room c = pair_room c.loop-i.invariant c.requires.pairs_in.0 c.loop-i-test.true c.requires.room

pub loop-i-preserved : goal.loop-i-preserved
loop-i-preserved c = going_on c.loop-i.invariant c.requires.pairs_in.0 c.loop-i-test.true c.requires.room c.pair_at.ensures c.answer_pair-at.ensures c.answer_pair-at.auto.buf

pub returns : goal.returns
returns c = rw c.as_left.ensures (all_answered c.loop-i.invariant c.loop-i-test.false c.requires.pairs_in.0 refl refl)
