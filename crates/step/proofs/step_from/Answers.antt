-- `step::step_from` meets its contract: the record is read, and what it comes to is a refusal or a run. Assumes nothing.
use mathlib.Core.Path.{refl, sym, ◌∙◌}
use native.Mathlib.Omega.{arith}
use Rattle.step.proofs.Stepping.{reading_arities, runs, grown, steps_refused, steps_run, begins, placed_in}
use Rattle.step.proofs.step_from.Goals as goal

pub read_record-f-requires : goal.read_record-f-requires
read_record-f-requires g c = let (e, (p, l)) = c.requires in (reading_arities p.0, (p.1.1.0, l.1))

pub settle_refusal-requires : goal.settle_refusal-requires
settle_refusal-requires g c = let (e, (p, l)) = c.requires in rw e.0 (grown c.args.st.now _ _ p.0 p.1.0 _ _ e.1.0 e.1.1.0 e.1.1.1 c.read_record-f.ensures _ refl refl)

pub answer_placed-requires : goal.answer_placed-requires
answer_placed-requires g c =
    let (e, (p, l)) = c.requires in
    let r = c.read_record-f.ensures in
    let o = c.left_over.ensures in
    let k = runs c.read_record-f.result.read c.left_over.result _ (sym c.verdict_of.ensures ∙ c.in-Ok.is) in
    let i = placed_in c.args.st.now _ _ p.0 p.1.0 _ _ e.1.0 e.1.1.0 e.1.1.1 r c.args.whole _ o _ k.0 p.1.1.1 in
    ((l.0, (omega (arith, l.1, c.read_record-f.auto.names), i)), rw e.0 (begins c.args.st.now _ _ p.0 p.1.0 _ _ e.1.0 e.1.1.0 e.1.1.1 r c.args.whole _ o _ k.0))

pub returns-in-Err : goal.returns-in-Err
returns-in-Err g c =
    let (e, (p, l)) = c.requires in
    let o = c.left_over.ensures in
    let v = sym c.verdict_of.ensures ∙ c.in-Err.is in
    let settled = c.settle_refusal.ensures c.args.buf.now in
    steps_refused c.args.st.now _ _ p.0 p.1.0 _ _ e.1.0 e.1.1.0 e.1.1.1 c.read_record-f.ensures c.args.whole _ o p.1.1.0 c.place_after-next.ensures v (rw e.0 at settled) refl c.with_next-in-Err.ensures

pub returns-in-Ok : goal.returns-in-Ok
returns-in-Ok g c =
    let (e, (p, l)) = c.requires in
    let o = c.left_over.ensures in
    let k = runs c.read_record-f.result.read c.left_over.result _ (sym c.verdict_of.ensures ∙ c.in-Ok.is) in
    let ends = c.answer_placed.ensures in
    steps_run c.args.st.now _ _ p.0 p.1.0 _ _ e.1.0 e.1.1.0 e.1.1.1 c.read_record-f.ensures c.args.whole _ o _ k.0 k.1 p.1.1.0 c.place_after-next.ensures (rw e.0 at ends) c.with_next.ensures
