-- `step::answer_placed` meets its contract. Assumes nothing.
use mathlib.Core.Path.{refl, ap}
use Rattle.fields.specs.Noded.{unfolded, unfolded_links, tparams, noded, bind_of, pairs_of, add_of, binds, looks, adds}
use Rattle.answer.proofs.Growing.{noted_since}
use Rattle.run.proofs.Arms.{narrow}
use Rattle.step.proofs.Replying.{WasRun, as_other, some_room, run_settles, reply_ran, ready_settles, reply_ready, solve_saved, solve_sound, reply_solved, expand_asks, expanded_same, reply_expanded, range_placed, reply_many, kept_asks, kept_sound, kept_noted, reply_kept}
use Rattle.run.specs.Dispatch.{tail_of}
use Rattle.step.proofs.answer_placed.Goals as goal
use Rattle.step.proofs.answer_placed.Goals.{in-Bind, in-Look+in-One+in-UF, in-Look+in-One+in-UL, in-Look+in-TS, in-Add}
use Rattle.table.proofs.Did.{linked, linked_now}

pub answer_declared-requires : goal.answer_declared-requires
answer_declared-requires g c = let e = c.in-SD.is in let h = rw e at c.requires in ((h.0.1.1.0.1, h.0.1.1.1), h.1)

pub solve-requires : goal.solve-requires
solve-requires g c = let h = rw c.in-SV.is at c.requires in let b = h.1.from in record { saved = (solve_saved b, (h.0.0, h.0.1.1.1)); holds_sound = solve_sound b }

pub expand-requires : goal.expand-requires
expand-requires g c = let h = rw c.in-XP.is at c.requires in expand_asks h.1.from _ refl refl c.args.buf.now h.0.1.1.1 h.0.1.1.0

pub run_bind-ran-requires : goal.run_bind-ran-requires
run_bind-ran-requires g c = rw c.in-Bind.is at c.requires.0.1.1.0

pub run_unfold-requires : goal.run_unfold-requires
run_unfold-requires g c = rw (c.in-Look.is, c.in-One.is) at c.requires.0.1.1.0

pub run_unfold_links-requires : goal.run_unfold_links-requires
run_unfold_links-requires g c = rw (c.in-Look.is, c.in-One.is) at c.requires.0.1.1.0

pub settle_ready-requires : goal.settle_ready-requires
settle_ready-requires g c = let h = rw (c.in-Look.is, c.in-One.is, c.in-RD.is) at c.requires in ready_settles h.1.from _ refl refl c.args.buf.now h.0.1.1.1 h.0.1.1.0

pub settle_ready-requires-in-CN : goal.settle_ready-requires-in-CN
settle_ready-requires-in-CN g c = let h = rw (c.in-Look.is, c.in-One.is, c.in-CN.is) at c.requires in ready_settles h.1.from _ refl refl c.args.buf.now h.0.1.1.1 h.0.1.1.0

pub run_tparams-requires : goal.run_tparams-requires
run_tparams-requires g c = let h = rw (c.in-Look.is, c.in-TS.is) at c.requires.0.1.1.0 in (h.1, h.0)

pub settle-requires : goal.settle-requires
settle-requires g c =
    let k : WasRun c.args.params.now c.args.st.now c.match-what.st c.match-what.ran (noded c.args.names.now c.args.what) = elim c.match-what.branch [
      | in-Bind w ↦ record { what = binds (bind_of w.in-Bind.x); is = ap (noded c.args.names.now) w.in-Bind.is; ran = rw (w.st-is, w.ran-is) w.run_bind-ran.ensures }
      | in-Look+in-One+in-UF w ↦ record { what = looks (unfolded w.in-One.t); is = rw (w.in-Look.is, w.in-One.is, w.in-UF.is) refl; ran = rw (w.st-is, w.ran-is) (narrow w.run_unfold.ensures) }
      | in-Look+in-One+in-UL w ↦ record { what = looks (unfolded_links w.in-One.t); is = rw (w.in-Look.is, w.in-One.is, w.in-UL.is) refl; ran = rw (w.st-is, w.ran-is) (narrow w.run_unfold_links.ensures) }
      | in-Look+in-TS w ↦ record { what = looks (tparams (pairs_of w.in-TS.ps) w.in-TS.t); is = rw (w.in-Look.is, w.in-TS.is) refl; ran = rw (w.st-is, w.ran-is) (narrow w.run_tparams.ensures) }
      | in-Add w ↦ record { what = adds (add_of w.in-Add.x); is = ap (noded c.args.names.now) w.in-Add.is; ran = rw (w.st-is, w.ran-is) (narrow w.run_add-ran.ensures) }
    ] in
    run_settles c.requires.1.from k _ refl refl c.args.buf.now (some_room c.args.what c.requires.0.1.1.1)

pub answer_pairs-requires : goal.answer_pairs-requires
answer_pairs-requires g c =
    let h = rw c.in-MJ.is at c.requires in
    let b = h.1.from in
    record { pairs_in = (h.0.1.1.0.0, (h.0.1.0, (h.0.1.1.0.1, range_placed _ _ b))); noted = (h.0.0, noted_since {s = c.args.st.now} b.saved b.since (linked_now _)); room = h.0.1.1.1 }

pub answer_kept-requires : goal.answer_kept-requires
answer_kept-requires g c =
    let h = rw c.in-KP.is at c.requires in
    let b = h.1.from in
    record { known = kept_asks _ _ b h.0.1.1.0 h.0.1.0; as_sound = (kept_sound _ _ b, h.0.1.1.1) }

pub returns-in-MJ : goal.returns-in-MJ
returns-in-MJ g c = let a = c.answer_pairs.ensures in record { name = a.name; noted = a.noted; is = λ x b. reply_many _ _ (rw c.in-MJ.is at b) a }

pub returns-in-KP : goal.returns-in-KP
returns-in-KP g c = let k = c.answer_kept.ensures in record { name = (k.keeps.clears.same).name; noted = kept_noted k _; is = λ x b. reply_kept _ _ (rw c.in-KP.is at b) k }

pub returns-in-SD : goal.returns-in-SD
returns-in-SD g c = record { name = c.answer_declared.ensures.name; noted = c.answer_declared.ensures.noted; is = λ x b. c.answer_declared.ensures.is x (rw c.in-SD.is at b) }

pub returns-in-RD : goal.returns-in-RD
unfolding tail_of
returns-in-RD g c =
    let h = rw (c.in-Look.is, c.in-One.is, c.in-RD.is) at c.requires.1 in
    record {
      name = (c.settle_ready.ensures.same).name;
      noted = noted_since h.from.saved h.from.since (c.settle_ready.ensures.same);
      is = λ x b. let d = rw (c.in-Look.is, c.in-One.is, c.in-RD.is) at b in as_other d refl refl (reply_ready d c.settle_ready.ensures refl);
    }

pub returns-in-CN : goal.returns-in-CN
unfolding tail_of
returns-in-CN g c =
    let h = rw (c.in-Look.is, c.in-One.is, c.in-CN.is) at c.requires.1 in
    record {
      name = (c.settle_ready-in-CN.ensures.same).name;
      noted = noted_since h.from.saved h.from.since (c.settle_ready-in-CN.ensures.same);
      is = λ x b. let d = rw (c.in-Look.is, c.in-One.is, c.in-CN.is) at b in as_other d refl refl (reply_ready d c.settle_ready-in-CN.ensures refl);
    }

pub returns-in-SV : goal.returns-in-SV
returns-in-SV g c =
    let h = rw c.in-SV.is at c.requires.1 in
    record {
      name = (c.solve.ensures.same).name;
      noted = noted_since h.from.saved h.from.since (c.solve.ensures.same);
      is = λ x b. let d = rw c.in-SV.is at b in as_other d refl refl (reply_solved d c.solve.ensures);
    }

pub returns-in-XP : goal.returns-in-XP
returns-in-XP g c =
    let h = rw c.in-XP.is at c.requires.1 in
    record {
      name = (expanded_same h.from c.expand.ensures).name;
      noted = noted_since h.from.saved h.from.since (expanded_same h.from c.expand.ensures);
      is = λ x b. let d = rw c.in-XP.is at b in as_other d refl refl (reply_expanded d c.expand.ensures refl);
    }

pub returns : goal.returns
returns g c =
    let k : WasRun c.args.params.now c.args.st.now c.match-what.st c.match-what.ran (noded c.args.names.now c.args.what) = elim c.match-what.branch [
      | in-Bind w ↦ record { what = binds (bind_of w.in-Bind.x); is = ap (noded c.args.names.now) w.in-Bind.is; ran = rw (w.st-is, w.ran-is) w.run_bind-ran.ensures }
      | in-Look+in-One+in-UF w ↦ record { what = looks (unfolded w.in-One.t); is = rw (w.in-Look.is, w.in-One.is, w.in-UF.is) refl; ran = rw (w.st-is, w.ran-is) (narrow w.run_unfold.ensures) }
      | in-Look+in-One+in-UL w ↦ record { what = looks (unfolded_links w.in-One.t); is = rw (w.in-Look.is, w.in-One.is, w.in-UL.is) refl; ran = rw (w.st-is, w.ran-is) (narrow w.run_unfold_links.ensures) }
      | in-Look+in-TS w ↦ record { what = looks (tparams (pairs_of w.in-TS.ps) w.in-TS.t); is = rw (w.in-Look.is, w.in-TS.is) refl; ran = rw (w.st-is, w.ran-is) (narrow w.run_tparams.ensures) }
      | in-Add w ↦ record { what = adds (add_of w.in-Add.x); is = ap (noded c.args.names.now) w.in-Add.is; ran = rw (w.st-is, w.ran-is) (narrow w.run_add-ran.ensures) }
    ] in
    let same = linked c.settle.ensures.same k.ran.left.same in
    record {
      name = same.name;
      noted = noted_since c.requires.1.from.saved c.requires.1.from.since same;
      is = λ x b. reply_ran b k c.settle.ensures refl;
    }
