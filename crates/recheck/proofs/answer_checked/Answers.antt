-- `recheck::answer_checked` meets its contract. Assumes nothing.
use borrow.Enum.Refused.{opened}
use mathlib.Core.Path.{◌≡◌, refl, ap, ◌∙◌}
use Rattle.fields.specs.declared.Bind.TheVariants as b
use Rattle.fields.specs.declared.Look.TheVariants as l
use Rattle.fields.specs.declared.What.TheVariants as q
use Rattle.fields.specs.Noded.{noded}
use Rattle.answer.proofs.Growing.{noted_since}
use Rattle.table.proofs.Did.{linked}
use Rattle.step.proofs.Replying.{WasRun, run_settles, reply_ran}
use Rattle.recheck.proofs.Marked.{was_two, was_look, not_bind, not_look, not_what}
use Rattle.recheck.proofs.answer_checked.Goals as goal
use Rattle.recheck.proofs.answer_checked.Goals.{in-Bind-Two, in-Look-One, in_default, in_default-via-in-Bind+in_default, in_default-via-in-Look+in_default, in_default-via-in_default}

pub run_two-ran-requires : goal.run_two-ran-requires
run_two-ran-requires g c =
    let a = c.in-Bind-Two in
    let e : c.args.what ≡ q.Bind (b.Two a.m a.lhs a.rhs) = a.is ∙ ap q.Bind (rw a.is at a.field-0-is) in
    record { nodes = rw e at c.requires.0.0; mark = rw e at c.requires.1.0 }

pub run_look-ran-requires : goal.run_look-ran-requires
run_look-ran-requires g c =
    let a = c.in-Look-One in
    let e : c.args.what ≡ q.Look (l.One a.m a.t) = a.is ∙ ap q.Look (rw a.is at a.field-0-is) in
    record { node = rw e at c.requires.0.0; mark = rw e at c.requires.1.0 }

pub settle-requires : goal.settle-requires
settle-requires g c =
    let k : WasRun c.args.params.now c.args.st.now c.match-what.st c.match-what.ran (noded c.args.names.now c.args.what) = elim c.match-what.branch [
      | in-Bind-Two w ↦ let a = w.in-Bind-Two in was_two _ _ (a.is ∙ ap q.Bind (rw a.is at a.field-0-is)) (rw (w.st-is, w.ran-is) w.run_two-ran.ensures)
      | in-Look-One w ↦ let a = w.in-Look-One in was_look _ _ (a.is ∙ ap q.Look (rw a.is at a.field-0-is)) (rw (w.st-is, w.ran-is) w.run_look-ran.ensures)
      | in_default w ↦ elim w.in_default.branch [
        | in_default-via-in-Bind+in_default x ↦ let a = x.in_default in not_bind _ _ c.requires.1.0 a.is (rw a.is at (opened a.in-SN-own.keys2))
        | in_default-via-in-Look+in_default x ↦ let a = x.in_default in not_look _ _ c.requires.1.0 a.is (rw a.is at a.in-TS-own.keys2)
        | in_default-via-in_default x ↦ not_what _ _ c.requires.1.0 (opened x.in_default.in-SD-own.keys3)
      ]
    ] in
    run_settles c.requires.1.1.from k _ refl refl c.args.buf.now c.requires.0.1

pub returns : goal.returns
returns g c =
    let k : WasRun c.args.params.now c.args.st.now c.match-what.st c.match-what.ran (noded c.args.names.now c.args.what) = elim c.match-what.branch [
      | in-Bind-Two w ↦ let a = w.in-Bind-Two in was_two _ _ (a.is ∙ ap q.Bind (rw a.is at a.field-0-is)) (rw (w.st-is, w.ran-is) w.run_two-ran.ensures)
      | in-Look-One w ↦ let a = w.in-Look-One in was_look _ _ (a.is ∙ ap q.Look (rw a.is at a.field-0-is)) (rw (w.st-is, w.ran-is) w.run_look-ran.ensures)
      | in_default w ↦ elim w.in_default.branch [
        | in_default-via-in-Bind+in_default x ↦ let a = x.in_default in not_bind _ _ c.requires.1.0 a.is (rw a.is at (opened a.in-SN-own.keys2))
        | in_default-via-in-Look+in_default x ↦ let a = x.in_default in not_look _ _ c.requires.1.0 a.is (rw a.is at a.in-TS-own.keys2)
        | in_default-via-in_default x ↦ not_what _ _ c.requires.1.0 (opened x.in_default.in-SD-own.keys3)
      ]
    ] in
    let same = linked c.settle.ensures.same k.ran.left.same in
    record {
      name = same.name;
      noted = noted_since c.requires.1.1.from.saved c.requires.1.1.from.since same;
      is = λ x b. reply_ran b k c.settle.ensures refl;
    }
