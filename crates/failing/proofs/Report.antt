-- One failure as bytes, written head first, and that declarations do not show in it. Assumes nothing.
use mathlib.Core.Path.{◌≡◌, refl, ap, subst, fun_ext}
use mathlib.Core.List.{List, ◌∷◌, ◌++◌}
use Prim.Native.Nat.{ℕ, zero, suc, ◌+◌, ◌%◌, ◌<◌, ◌≤◌}
use native.Mathlib.Omega.{arith}
use lib.ListN.{length}
use Rattle.definition.specs.Types as d
use Rattle.definition.specs.Types.{State, Struct, Spanned, TypeValue}
use Rattle.definition.specs.Store.{args_at, with_args, node, type_at, loc_of, spanned, with_structs}
use Rattle.definition.specs.Subst.{parts}
use Rattle.definition.specs.Constraints.{failure, ability_failure}
use Rattle.definition.specs.Write.{Bytes, u32, write, write_spanned, write_down, head, each}
use Rattle.table.specs.State.{view, seen}
use Rattle.table.specs.declared.Used.{Used}
use Rattle.failing.specs.Failing.{code_of, why, failing}
use Rattle.failing.specs.declared.Wanted.{Wanted}
use Rattle.failing.specs.declared.Failing.{Failing}
use Rattle.failing.specs.declared.Failing.TheVariants.{Node, Anything, Lacks}
use Rattle.writer.proofs.Put.{Joined}

-- ---- a failure's bytes

module _ (s : State) where
  pub node_is : (f : Failing) (what : Wanted) (loc t : ℕ) → f ≡ Node what loc t → Joined (code_of what ∷ u32 loc) (write s t) (failing f s)
  unfolding failure write
  node_is f what loc t e = record { is = rw e refl }

  pub anything_is : (f : Failing) (what : Wanted) (loc at : ℕ) → f ≡ Anything what loc at → Joined (code_of what ∷ u32 loc) (head at d.Anything) (failing f s)
  unfolding failure write_spanned write_down head each parts u32
  anything_is f what loc at e = record { is = rw e refl }

  -- of a row for an ability: what stands after the location, and after the ability
  unfoldable pub type_and : ℕ → Bytes → Bytes
  type_and t y = write s t ++ y

  pub type_is : (t : ℕ) (y : Bytes) → Joined (write s t) y (type_and t y)
  unfolding type_and
  type_is t y = record { is = refl }

  pub lacks_is : (loc ability t : ℕ) (y : Bytes) → Joined (4 ∷ u32 loc) (ability ∷ type_and t y) (ability_failure s loc ability (spanned s t) y)
  unfolding type_and ability_failure write u32
  lacks_is loc ability t y = record { is = refl }

-- ---- declarations do not show in a failure

write_down_same : (n : ℕ) (s : State) (ds es : List Struct) (x : Spanned TypeValue) → write_down n (with_structs s ds) x ≡ write_down n (with_structs s es) x
unfolding write_down with_structs spanned loc_of type_at node with_args args_at
write_down_same zero s ds es x = refl
write_down_same (suc n) s ds es x = ap (λ (f : ℕ → Bytes). head x.loc x.value ++ each f (parts x.value)) (fun_ext (λ p. write_down_same n s ds es (spanned (with_structs s ds) p)))

module _ (w : List ℕ) (u : Used) (ds es : List Struct) where
  same : (x : Spanned TypeValue) → write_spanned (seen w u ds) x ≡ write_spanned (seen w u es) x
  unfolding write_spanned seen with_structs
  same x = write_down_same _ (view w u) ds es x

  pub failing_same : (f : Failing) → failing f (seen w u ds) ≡ failing f (seen w u es)
  unfolding failure ability_failure seen with_structs spanned loc_of type_at node with_args args_at
  failing_same (Node what loc t) = ap (λ (b : Bytes). code_of what ∷ u32 loc ++ b) (same (spanned (seen w u ds) t))
  failing_same (Anything what loc at) = ap (λ (b : Bytes). code_of what ∷ u32 loc ++ b) (same (record { loc = at; value = d.Anything }))
  failing_same (Lacks loc ability t place) = ap (λ (b : Bytes). 4 ∷ u32 loc ++ (ability ∷ b ++ why place)) (same (spanned (seen w u ds) t))

  pub fits_same : (f : Failing) (next m : ℕ) → next + length (failing f (seen w u ds)) ≤ m → next + length (failing f (seen w u es)) ≤ m
  fits_same f next m h = subst (λ (b : Bytes). next + length b ≤ m) (failing_same f) h

-- a failure's code is a byte as it stands
pub small : (code : ℕ) → code < 4 → code % 256 ≡ code
small code h = omega arith
