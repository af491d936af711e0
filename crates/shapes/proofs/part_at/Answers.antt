-- `shapes::part_at` meets its contract. Assumes nothing.
use borrow.Enum.Refused.{opened}
use mathlib.Core.List.{List}
use mathlib.Core.Path.{ap}
use Prim.Native.Nat.{ℕ}
use lib.ListN.{get_or}
use Rattle.shapes.proofs.Parts.{part_ref, part_apply, no_parts}
use Rattle.shapes.proofs.part_at.Goals as goal

pub returns-in-Ref : goal.returns-in-Ref
returns-in-Ref g c = λ ds l. part_ref _ _ _ _ _ c.in-Ref.is l

pub returns-in-Apply : goal.returns-in-Apply
returns-in-Apply g c = λ ds l. part_apply _ _ _ _ _ c.in-Apply.is l (c.arg_at.ensures ds)

pub returns-in_default : goal.returns-in_default
returns-in_default g c = λ ds l. ap (λ (x : List ℕ). get_or x c.args.i 0) (no_parts c.args.s (opened c.in_default.in_default-own.keys3) _)
