-- `solve::solve_abilities` meets its contract. Assumes nothing.
use Rattle.ends.proofs.Itself.{measured_none}
use Rattle.abilities.proofs.Sets.{kept_none}
use Rattle.solve.proofs.Ready.{all_asked, all_ready}
use Rattle.solve.proofs.Answers.{abilities_refused}
use Rattle.solve.proofs.solve_abilities.Goals as goal

pub check_constraints-requires : goal.check_constraints-requires
check_constraints-requires g c = (all_asked _ c.requires.1.0, (measured_none _, kept_none _ _))

pub report_failures-requires : goal.report_failures-requires
report_failures-requires g c = let p = c.requires in
    (p.0, ((p.1.0, (all_ready _ _ _ _ c.in-Ok.ensures.kept c.in-Ok.ensures.all, p.1.1)), c.in-Ok.ensures.is))

pub settle_refusal-requires : goal.settle_refusal-requires
settle_refusal-requires g c = c.requires.0

pub returns-in-Err : goal.returns-in-Err
returns-in-Err g c = abilities_refused c.args.before _ c.in-Err.ensures (c.settle_refusal.ensures _)
