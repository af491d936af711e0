-- The variable that a shape is, and its parts, as the code finds them. Assumes nothing.
use mathlib.Core.Path.{◌≡◌, refl, ap}
use mathlib.Core.Bool.{Bool, false}
use mathlib.Core.List.{[], ◌∷◌}
use Rattle.std.specs.Prelude.{Option, None, Some}
use Prim.Native.Nat.{ℕ, zero, suc, ◌<◌}
use native.Mathlib.Omega.{arith}
use lib.Dec.{eqb}
use lib.ListN.{get_or}
use denote.Enum.Declared.{tag_of}
use types.Run.{OneOf}
use Rattle.definition.specs.Types as d
use Rattle.definition.specs.Types.{State}
use Rattle.definition.specs.Store.{args_at, with_args}
use Rattle.definition.specs.Subst.{as_var, parts}
use Rattle.definition.specs.Join.{is_var}
use Rattle.names.specs.declared.TVar.{TVar}
use Rattle.table.specs.Rows.{places}
use Rattle.table.specs.State.{shape_of}
use Rattle.table.specs.declared.Applied.{Applied}
use Rattle.table.specs.declared.Shape.{Shape}
use Rattle.table.specs.declared.Shape.TheVariants.{Ref, Apply}
use Rattle.table.specs.contracts.Shape.{the_type}
use Rattle.std.specs.Option.{option_eq}
use Rattle.names.specs.contracts.TVarPartialEq.TheImpl.{eq-value}
use Rattle.shapes.specs.Parts.{next, part_count}
use Rattle.shapes.proofs.Tags.{other_shapes}

pub no_var : (s : Shape) → OneOf (0 ∷ 1 ∷ 2 ∷ 3 ∷ 5 ∷ 6 ∷ []) (tag_of the_type s) → (st : State) → None ≡ as_var (with_args st (shape_of s))
unfolding as_var with_args
no_var = other_shapes (0 ∷ 1 ∷ 2 ∷ 3 ∷ 5 ∷ 6 ∷ []) (λ s. (st : State) → None ≡ as_var (with_args st (shape_of s))) (λ st. refl) (λ m t st. refl) (λ id a st. refl) (λ a st. refl) tt (λ st. refl) (λ st. refl)

pub var_is : (v : ℕ) (x : d.TypeValue) (o : Option ℕ) → o ≡ as_var x → elim o [ None ↦ false | Some y ↦ eqb y v ] ≡ is_var v x
unfolding is_var
var_is v x o e = ap (λ (o : Option ℕ). elim o [ None ↦ false | Some y ↦ eqb y v ]) e

-- `==` on the variable that a shape is
pub same_next : (o : Option TVar) (v : TVar) → option_eq eq-value.it o (Some v) ≡ elim (next o) [ None ↦ false | Some y ↦ eqb y v.0 ]
same_next None v = refl
same_next (Some x) v = refl

ref_at : (s : State) (m : Bool) (t i : ℕ) → i < 1 → t ≡ get_or (parts (with_args s (d.Ref m t))) i 0
unfolding parts with_args
ref_at s m t zero h = refl
ref_at s m t (suc i) h = absurd (omega arith)

pub part_ref : (s : State) (sh : Shape) (m : Bool) (t i : ℕ) → sh ≡ Ref m t → i < part_count (shape_of sh) → t ≡ get_or (parts (with_args s (shape_of sh))) i 0
part_ref s sh m t i e h = rw e (ref_at s m t i (rw e at h))

pub part_apply : (s : State) (sh : Shape) (a : Applied) (i r : ℕ) → sh ≡ Apply a → i < part_count (shape_of sh)
    → ((m : ℕ) → i < m → r ≡ get_or (args_at s (places a.first m)) i 0) → r ≡ get_or (parts (with_args s (shape_of sh))) i 0
unfolding parts with_args places
part_apply s sh a i r e h f = rw e (f a.many (rw e at h))

pub no_parts : (s : Shape) → OneOf (0 ∷ 2 ∷ 4 ∷ 5 ∷ 6 ∷ []) (tag_of the_type s) → (st : State) → [] ≡ parts (with_args st (shape_of s))
unfolding parts with_args
no_parts = other_shapes (0 ∷ 2 ∷ 4 ∷ 5 ∷ 6 ∷ []) (λ s. (st : State) → [] ≡ parts (with_args st (shape_of s))) (λ st. refl) tt (λ id a st. refl) tt (λ v st. refl) (λ st. refl) (λ st. refl)
