-- `many::answer_from` meets its contract. Assumes nothing.
use mathlib.Core.Path.{refl, sym, ap}
use Prim.Native.Nat.{◌+◌, ◌≤◌, ◌<◌}
use native.Mathlib.Omega.{arith}
use lib.ListN.{length, length-drop}
use Rattle.std.proofs.Common.{rules}
use Rattle.std.proofs.lemmas.List.{take_rest}
use Rattle.definition.specs.Write.{u16}
use Rattle.definition.specs.Step as step
use Rattle.answer.proofs.Calls.{kept_never}
use Rattle.many.proofs.Bytes.{filled_size, payload_size, head_wrote}
use Rattle.many.proofs.Answered.{run_bytes, grown, small, told, still_noted, named, more_nodes, declares, in_range, wrote_pair}
use Rattle.many.proofs.answer_from.Goals as goal

pub run_case-ran-requires : goal.run_case-ran-requires
run_case-ran-requires g c = c.requires.1.0.0

pub settle-a-requires : goal.settle-a-requires
settle-a-requires g c =
    let (e, (p, l)) = c.requires in
    let r = c.run_case-ran.ensures in
    let long = ap length (take_rest c.args.buf.now (c.args.at + 3)) in (
      rw e.0 (grown e.1.1.0 e.1.1.1 c.args.pair r c.args.before e.1.0 refl),
      ((r.tells, (run_bytes e.1.1.0 e.1.1.1 c.args.pair r p.1, omega (arith, long, length-drop (c.args.at + 3) c.args.buf.now, l))), λ t e f. kept_never r.kept_is f),
    )

pub put_head-requires : goal.put_head-requires
put_head-requires g c =
    let (e, (p, l)) = c.requires in
    let a = rw e.0 at c.settle-a.ensures in
    let n : c.settle-a.result.number < 100 = small e.1.1.0 e.1.1.1 c.args.pair c.run_case-ran.ensures a e.1.0 refl in
    let room : c.args.at + 3 + c.settle-a.result.len ≤ length c.args.buf.now = omega (arith, l, a.few) in
    (omega arith, (omega (arith, a.few), omega (arith, filled_size c.args.buf.now c.args.at c.settle-a.result.len _ room c.settle-a.auto.buf a.rest)))

pub overflow_add-result : goal.overflow_add-result
unfolding u16
overflow_add-result g c =
    let room : c.put_head.result + c.settle-a.result.len ≤ length c.args.buf.now = omega (arith, c.put_head.ensures.next_is, c.requires.1.1, c.settle-a.ensures.few) in
    search rules

pub returns : goal.returns
unfolding u16
returns g c =
    let (e, (p, l)) = c.requires in
    let r = c.run_case-ran.ensures in
    let a = rw e.0 at c.settle-a.ensures in
    let room : c.args.at + 3 + c.settle-a.result.len ≤ length c.args.buf.now = omega (arith, l, a.few) in
    let w = head_wrote c.args.buf.now c.args.at c.settle-a.result.len _ room c.settle-a.auto.buf a.rest _ _ _ refl c.put_head.ensures in
    record {
      name = named e.1.1.0 e.1.1.1 c.args.pair r a e.1.0 refl;
      noted = still_noted e.1.1.0 e.1.1.1 c.args.pair r a e.1.0 refl;
      nodes = more_nodes e.1.1.0 e.1.1.1 c.args.pair r a e.1.0 refl;
      declares = declares e.1.1.0 e.1.1.1 c.args.pair r a e.1.0 refl;
      in_range = in_range e.1.1.0 e.1.1.1 c.args.pair r a e.1.0 refl p.1;
      few = omega (arith, c.put_head.ensures.next_is, a.few);
      is = λ ds. sym (ap (λ (x : step.Answer). x.state) (told e.1.1.0 e.1.1.1 c.args.pair r a e.1.0 refl ds));
      bytes = wrote_pair e.1.1.0 e.1.1.1 c.args.pair r a e.1.0 refl (payload_size c.args.buf.now c.args.at c.settle-a.result.len _ room c.settle-a.auto.buf a.rest) w;
    }
