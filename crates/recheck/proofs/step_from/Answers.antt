-- `recheck::step_from` meets its contract: the record is read, and what it comes to is a refusal or a run. Assumes nothing.
use mathlib.Core.Path.{refl, sym, ◌∙◌}
use mathlib.Core.Bool.{true}
use native.Mathlib.Omega.{arith}
use lib.ListN.{length}
use Rattle.step.proofs.Stepping.{reading_arities, runs, grown, steps_refused, steps_run, begins, placed_in}
use Rattle.recheck.proofs.Marked.{least_checked, read_checked}
use Rattle.recheck.proofs.step_from.Goals as goal

pub read_record-f-requires : goal.read_record-f-requires
read_record-f-requires g c = let (e, (p, m)) = c.requires in (reading_arities p.0, (omega arith, m.1))

pub settle_refusal-requires : goal.settle_refusal-requires
settle_refusal-requires g c = let (e, (p, m)) = c.requires in rw e.0 (grown c.args.st.now _ _ p.0 p.1.0 _ _ e.1.0 e.1.1.0 e.1.1.1 c.read_record-f.ensures _ refl refl)

pub answer_checked-requires : goal.answer_checked-requires
answer_checked-requires g c =
    let (e, (p, m)) = c.requires in
    let r = c.read_record-f.ensures in
    let o = c.left_over.ensures in
    let k = runs c.read_record-f.result.read c.left_over.result _ (sym c.verdict_of.ensures ∙ c.in-Ok.is) in
    let l = least_checked _ m.0 in
    let i = placed_in c.args.st.now _ _ p.0 p.1.0 _ _ e.1.0 e.1.1.0 e.1.1.1 r true _ o _ k.0 {m = length c.args.buf.now} (omega (arith, l, p.1.1)) in
    ((i.0, p.1.1), (read_checked c.args.params.now r m.0 _ k.0, rw e.0 (begins c.args.st.now _ _ p.0 p.1.0 _ _ e.1.0 e.1.1.0 e.1.1.1 r true _ o _ k.0)))

pub returns-in-Err : goal.returns-in-Err
returns-in-Err g c =
    let (e, (p, m)) = c.requires in
    let v = sym c.verdict_of.ensures ∙ c.in-Err.is in
    let settled = c.settle_refusal.ensures c.args.buf.now in
    record { next = _; steps = (steps_refused c.args.st.now _ _ p.0 p.1.0 _ _ e.1.0 e.1.1.0 e.1.1.1 c.read_record-f.ensures true _ c.left_over.ensures (omega arith) refl v (rw e.0 at settled) refl refl).0 }

pub returns-in-Ok : goal.returns-in-Ok
returns-in-Ok g c =
    let (e, (p, m)) = c.requires in
    let o = c.left_over.ensures in
    let k = runs c.read_record-f.result.read c.left_over.result _ (sym c.verdict_of.ensures ∙ c.in-Ok.is) in
    let ends = c.answer_checked.ensures in
    record { next = _; steps = (steps_run c.args.st.now _ _ p.0 p.1.0 _ _ e.1.0 e.1.1.0 e.1.1.1 c.read_record-f.ensures true _ o _ k.0 k.1 (omega arith) refl (rw e.0 at ends) refl).0 }
