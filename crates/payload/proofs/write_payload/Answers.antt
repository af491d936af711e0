-- `payload::write_payload` meets its contract. Assumes nothing.
use mathlib.Core.List.{[]}
use native.Mathlib.Omega.{arith}
use Prim.Native.Nat.{◌-◌}
use Rattle.std.proofs.Common.{rules}
use Rattle.payload.specs.Payload.{shown}
use Rattle.table.specs.Did.{held}
use Rattle.payload.proofs.Payload.{tail_few, unpaid, tail_room, paid}
use Rattle.payload.proofs.write_payload.Goals as goal

pub overflow_sub-tail_size : goal.overflow_sub-tail_size
overflow_sub-tail_size c = omega (arith, c.tail_size.ensures, tail_few c.args.tail)

pub shown_size-requires : goal.shown_size-requires
shown_size-requires c = (c.requires.0, (omega (arith, c.tail_size.ensures, tail_few c.args.tail), omega arith))

pub returns-in_err-shown_size : goal.returns-in_err-shown_size
returns-in_err-shown_size c = λ ds. unpaid c.args.tail (shown c.args.show c.args.t (held c.args.st.now ds)) (4096 - c.tail_size.result) (omega (arith, c.tail_size.ensures, tail_few c.args.tail)) _ (c.in_err-shown_size.ensures ds) (search rules)

pub put_tail-requires : goal.put_tail-requires
put_tail-requires c = tail_room c.args.tail (shown c.args.show c.args.t (held c.args.st.now [])) (4096 - c.tail_size.result) (omega (arith, c.tail_size.ensures, tail_few c.args.tail)) c.requires.1.1 (c.in_ok-shown_size.ensures []).1 (c.write_shown-end.ensures [])

pub returns : goal.returns
returns c = λ ds. paid c.args.tail (shown c.args.show c.args.t (held c.args.st.now ds)) (4096 - c.tail_size.result) (omega (arith, c.tail_size.ensures, tail_few c.args.tail)) c.requires.1.1 (c.in_ok-shown_size.ensures ds).1 (c.write_shown-end.ensures ds) c.put_tail.ensures
