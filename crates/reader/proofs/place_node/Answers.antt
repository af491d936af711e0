-- `reader::place_node` meets its contract. Assumes nothing.
use borrow.Enum.Refused.{opened}
use lib.Seq.{get_or-take}
use native.Mathlib.Omega.{arith}
use mathlib.Core.Path.{◌≡◌, refl, ap}
use mathlib.Core.List.{List, [], ◌∷◌}
use Prim.Native.Nat.{ℕ}
use denote.Enum.Declared.{tag_of}
use types.Run.{OneOf}
use Rattle.definition.specs.Types as d
use Rattle.definition.specs.Store.{sp}
use Rattle.table.proofs.Did.{did_is}
use Rattle.table.specs.contracts.Shape.{the_type}
use Rattle.table.specs.declared.Shape.{Shape}
use Rattle.table.specs.State.{value_of, Flat}
use Rattle.shapes.proofs.Tags.{other_shapes}
use Rattle.reader.specs.Taken.{put_node, with_parts}
use Rattle.reader.proofs.place_node.Goals as goal

-- a shape without parts
abbrev Bare : Shape → Type 0
Bare h = OneOf (0 ∷ 2 ∷ 4 ∷ 5 ∷ 6 ∷ []) (tag_of the_type h)

bare-flat : (n : ℕ) (h : Shape) → Bare h → Flat n h
bare-flat n = other_shapes (0 ∷ 2 ∷ 4 ∷ 5 ∷ 6 ∷ []) (Flat n) tt tt (λ id a. tt) tt (λ v. tt) tt tt

bare-value : (tys : List ℕ) (h : Shape) → Bare h → value_of h ≡ with_parts h tys
bare-value tys = other_shapes (0 ∷ 2 ∷ 4 ∷ 5 ∷ 6 ∷ []) (λ h. value_of h ≡ with_parts h tys) refl tt (λ id a. refl) tt (λ v. refl) refl refl

bare-put : (loc : ℕ) (h : Shape) (tys : List ℕ) (s : d.State) → Bare h → sp s loc (value_of h) ≡ put_node loc h tys s
unfolding put_node
bare-put loc h tys s k = ap (λ (v : d.TypeValue). sp s loc v) (bare-value tys h k)

pub push_node-requires : goal.push_node-requires
push_node-requires c = c.requires.1 0 (rw c.in-Ref.is (omega arith))

pub push_apply-requires : goal.push_apply-requires
push_apply-requires c = let pre = c.requires in record { few = rw c.in-Apply.is at pre.0; below = rw c.in-Apply.is at pre.1 }

pub push_node-requires-in_default : goal.push_node-requires-in_default
push_node-requires-in_default c = bare-flat _ c.args.head.shape (opened c.in_default.in_default-own.keys3)

pub returns-in-Ref : goal.returns-in-Ref
unfolding put_node
returns-in-Ref c = did_is (λ ds k. rw (c.in-Ref.is, get_or-take 1 c.args.parts 0 0 (omega arith)) refl) c.push_node.ensures

pub returns-in-Apply : goal.returns-in-Apply
unfolding put_node
returns-in-Apply c = did_is (λ ds k. rw c.in-Apply.is refl) c.push_apply.ensures

pub returns-in_default : goal.returns-in_default
returns-in_default c = did_is (λ ds k. bare-put _ c.args.head.shape _ _ (opened c.in_default.in_default-own.keys3)) c.push_node-in_default.ensures
