use Rattle.std.proofs.Common.{sym, ◌∙◌, arith, rules}
use Rattle.turns.proofs.Taken.{clash}
use Rattle.joinlog.proofs.Chain.{made_none, made_on, ran}
use Rattle.joinlog.proofs.Job.run.Goals as goal

pub loop-n-init : goal.loop-n-init
loop-n-init g c = made_none _ _ _ c.requires.at_first c.requires.room

pub returns-then-is_over : goal.returns-then-is_over
returns-then-is_over g c = ran _ c.requires.at_first (search rules) c.loop-n.invariant (λ e. clash (sym c.is_over.ensures ∙ c.if-is_over.true) e)

pub one_turn-requires : goal.one_turn-requires
one_turn-requires g c = c.loop-n.invariant.within

pub loop-n-preserved : goal.loop-n-preserved
loop-n-preserved g c =
    made_on _ c.requires.at_first (search rules) c.loop-n.invariant (sym c.is_over.ensures ∙ c.if-is_over.false) (search rules) c.one_turn.ensures.turned c.one_turn.ensures.same_room c.one_turn.ensures.bytes c.one_turn.ensures.took c.one_turn.ensures.gave

pub returns : goal.returns
returns g c = ran _ c.requires.at_first (search rules) c.loop-n.invariant (λ e. omega (arith, c.loop-n-test.false))
