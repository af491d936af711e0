-- How many bytes one failure has. Assumes nothing.
use Rattle.std.specs.Prelude.{Option}
use mathlib.Core.Path.{◌≡◌, refl, sym, subst, ◌∙◌}
use mathlib.Core.List.{[], ◌∷◌, ◌++◌}
use Prim.Native.Nat.{ℕ, ◌+◌}
use native.Mathlib.Omega.{arith}
use lib.ListN.{length, length-append}
use Rattle.definition.specs.Types.{State}
use Rattle.definition.specs.Store.{spanned}
use Rattle.definition.specs.Subst.{parts}
use Rattle.definition.specs.Constraints.{failure, ability_failure}
use Rattle.definition.specs.Write.{u32, write, write_spanned, write_down, head, each}
use Rattle.failing.specs.Failing.{code_of, why, failing}
use Rattle.failing.specs.declared.Wanted.{Wanted}
use Rattle.failing.specs.declared.Failing.{Failing}
use Rattle.failing.specs.declared.Failing.TheVariants.{Node, Anything, Lacks}
use Rattle.writer.specs.Bytes.{Capped}

-- ---- one that asks for no abilities

module _ (s : State) (f : Failing) (room : ℕ) (r : Option ℕ) where
  pub size_node : (what : Wanted) (loc t : ℕ) → f ≡ Node what loc t → Capped room (5 + length (write s t)) r → Capped room (length (failing f s)) r
  unfolding failure u32 write
  size_node what loc t e is = subst (λ (m : ℕ). Capped room m r) (rw e (sym (length-append (code_of what ∷ u32 loc) (write s t)))) is

  pub size_anything : (what : Wanted) (loc at : ℕ) → f ≡ Anything what loc at → Capped room 10 r → Capped room (length (failing f s)) r
  unfolding failure u32 write_spanned write_down head each parts
  size_anything what loc at e is = rw e is

  pub size_lacks : (loc ability t y : ℕ) (place : Option ℕ) → f ≡ Lacks loc ability t place → y ≡ length (why place) → Capped room (6 + y + length (write s t)) r → Capped room (length (failing f s)) r
  unfolding ability_failure u32 write
  size_lacks loc ability t y place e ye is =
      let a : length (ability_failure s loc ability (spanned s t) (why place)) ≡ 6 + length (write s t ++ why place) = length-append (4 ∷ u32 loc ++ (ability ∷ [])) (write s t ++ why place) in
      let b = length-append (write s t) (why place) in
      let c : 6 + y + length (write s t) ≡ length (ability_failure s loc ability (spanned s t) (why place)) = omega (arith, a, b, ye) in
      subst (λ (m : ℕ). Capped room m r) (c ∙ rw e refl) is
