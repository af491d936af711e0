-- `step::rest_from` meets its contract. Assumes nothing.
use mathlib.Core.Path.{◌∙◌}
use native.Mathlib.Omega.{arith}
use Rattle.answer.proofs.Growing.{grown_now, grown_on}
use Rattle.step.proofs.Stepping.{reading_arities, words_back, splits}
use Rattle.step.proofs.rest_from.Goals as goal

pub read_record-f-requires : goal.read_record-f-requires
read_record-f-requires g c = let (e, (p, l)) = c.requires in (reading_arities p.0, (omega arith, l))

pub go_back-requires : goal.go_back-requires
go_back-requires g c = let (e, (p, l)) = c.requires in rw e.0 (grown_on _ c.args.before c.args.st.now _ (grown_now c.args.before c.args.st.now e.1.0 e.1.1.0 e.1.1.1) c.read_record-f.ensures.same c.read_record-f.ensures.grown)

pub returns : goal.returns
returns g c =
    let (e, (p, l)) = c.requires in
    let r = c.read_record-f.ensures in
    let u = c.go_back.ensures in
    let s = splits _ r c.place_after.ensures in
    record {
      same = c.write_used.ensures.0.changed.same.name ∙ u.same.name ∙ r.same.name;
      words = words_back p.0 p.1 (u.used ∙ e.1.0) (rw (e.0, e.1.0) at u.is) c.write_used.ensures.1;
      used = c.write_used.ensures.0.used ∙ u.used ∙ e.1.0;
      within = s.0;
      rest = s.1;
    }
