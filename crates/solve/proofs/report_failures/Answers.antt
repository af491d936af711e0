-- `solve::report_failures` meets its contract. Assumes nothing.
use Rattle.solve.proofs.Answers.{report_room, report_long, report_kept}
use Rattle.solve.proofs.report_failures.Goals as goal

pub size_failures-requires : goal.size_failures-requires
size_failures-requires g c = let p = c.requires.1.0 in record { ready = (p.0, p.1.0); given = c.requires.1.1 }

pub returns-in_default : goal.returns-in_default
returns-in_default g c = report_long _ _ c.requires.1.1 _ c.args.before _ _ _ _ c.in_default.ensures (c.settle_refusal.ensures _)

pub write_failures-len-requires : goal.write_failures-len-requires
write_failures-len-requires g c = let p = c.requires.1.0 in
    record { ready = (p.0, (p.1.0, (p.1.1.0, p.1.1.1.0))); given = c.requires.1.1; fits = report_room c.args.st.now _ c.requires.1.1 _ c.in-Some.ensures _ p.1.1.1.1 }

pub returns : goal.returns
returns g c = let p = c.requires.1 in
    rw c.as_left.ensures (report_kept _ _ p.1 _ c.in-Some.ensures _ c.args.before _ _ _ p.0.1.1.1.0 _ c.write_failures-len.ensures c.take_constraints.ensures)
