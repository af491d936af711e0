-- `payload::put_tail` meets its contract. Assumes nothing.
use native.Mathlib.Omega.{arith}
use lib.ListN.{length}
use Prim.Native.Nat.{◌+◌, ◌≤◌}
use Rattle.std.specs.Prelude.{None}
use Rattle.definition.specs.Write.{u32}
use Rattle.payload.specs.Payload.{tail_bytes}
use Rattle.payload.proofs.Payload.{wrote_none}
use Rattle.payload.proofs.put_tail.Goals as goal

pub put_u32-requires : goal.put_u32-requires
unfolding u32
put_u32-requires c = rw c.in-Some.is at c.requires

pub returns-in-None : goal.returns-in-None
returns-in-None c = let h : c.args.at + length (tail_bytes None) ≤ length c.args.buf.now = rw c.in-None.is at c.requires in rw c.in-None.is (wrote_none _ _ (omega (arith, h)))

pub returns-in-Some : goal.returns-in-Some
returns-in-Some c = rw c.in-Some.is c.put_u32.ensures
