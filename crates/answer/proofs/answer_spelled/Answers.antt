-- `answer::answer_spelled` meets its contract. Assumes nothing.
use mathlib.Core.List.{[]}
use Rattle.snapshot.specs.Back.{rows_of}
use Rattle.answer.proofs.Settling.{given_back}
use Rattle.answer.proofs.Cases.{spelled_back, spelled_refused}
use Rattle.answer.proofs.answer_spelled.Goals as goal

pub returns-in-Ok : goal.returns-in-Ok
returns-in-Ok c = let args = c.args in
    let back = given_back _ _ _ _ _ c.requires.lay.0 c.requires.still c.give_back.ensures in
    rw c.as_before.ensures
    (record {
      is = λ m buf buf' h. spelled_back args.w.now args.u args.before.used (rows_of args.before) buf _ buf' m _ (rw c.in-Ok.is at h) back;
      lay = λ w₀ s. (back.0 w₀ s).0;
    })

pub returns-in-Err : goal.returns-in-Err
returns-in-Err c = let args = c.args in
    record {
      is = λ m buf buf' h. spelled_refused args.w.now args.u args.before.used (rows_of args.before) buf _ buf' m _ _ (rw c.in-Err.is at h) (c.refuse.ensures buf);
      lay = λ w₀ s. ((c.refuse.ensures []).settled w₀ s).lay;
    }
