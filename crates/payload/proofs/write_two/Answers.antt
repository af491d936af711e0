-- `payload::write_two` meets its contract. Assumes nothing.
use Rattle.payload.proofs.Payload.{first_room, two_room, wrote_two}
use Rattle.table.specs.Did.{held}
use Rattle.definition.specs.Write.{write}
use native.Mathlib.Omega.{arith}
use Rattle.payload.proofs.write_two.Goals as goal

pub write_type-next-requires : goal.write_type-next-requires
write_type-next-requires c = let args = c.args in
    let pre = c.requires in record { all_bytes = (pre.in_use.0, pre.in_use.1.1.0); fits = λ ds. omega (arith, first_room (write (held args.st.now ds) args.a) (write (held args.st.now ds) args.b) 4096 (pre.fits ds), pre.in_use.1.1.1) }

pub write_type-requires : goal.write_type-requires
write_type-requires c = let args = c.args in
    let pre = c.requires in record { all_bytes = (pre.in_use.1.0, pre.in_use.1.1.0); fits = λ ds. two_room args.buf.now (write (held args.st.now ds) args.a) (write (held args.st.now ds) args.b) _ _ (omega (arith, pre.fits ds, pre.in_use.1.1.1)) (c.write_type-next.ensures ds) }

pub returns : goal.returns
returns c = let args = c.args in
    let pre = c.requires in
    let write_type = c.write_type-next in
    λ ds. wrote_two args.buf.now (write (held args.st.now ds) args.a)
    (write (held args.st.now ds) args.b) _ _ _ _ (omega (arith, pre.fits ds, pre.in_use.1.1.1))
    (write_type.ensures ds) (c.write_type.ensures ds)
