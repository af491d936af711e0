-- R-11: what KP keeps, and the state that it leaves. Assumes nothing: these are definitions.
use mathlib.Core.List.{Memᴰ}
use Rattle.std.specs.Prelude.{◌≡◌, ◌||◌, ◌∷◌, ◌++◌, ◌+◌, if◌then◌else◌, ◌&&◌}
use Rattle.definition.specs.Types.{Bool, false, List, [], map, Option, None, Some, ℕ, zero, suc, length, get_or, leb, ltb, eqb}
use Rattle.definition.specs.Types.{Shape, UnitType, Ref, Param, Apply, Var, Anything, UnresolvedError, Places, Cell, unbound, State}
use Rattle.definition.specs.Types.{Constraint, AbilityConstraint, NumericConstraint, BitsConstraint, OrderedConstraint, BaseTypeConstraint, SingleTypeConstraint}
use Rattle.definition.specs.Store.{count, taken, node, type_at, get, any_of}
use Rattle.definition.specs.Subst.{parts}
use Rattle.definition.specs.Join.{is_var}
use Rattle.definition.specs.Write.{Bytes, u16, each}

-- ---- constraints, whichever they are
unfoldable pub constraint_type : Constraint → ℕ
constraint_type (AbilityConstraint loc ty abilities) = ty
constraint_type (NumericConstraint loc ty) = ty
constraint_type (BitsConstraint loc ty) = ty
constraint_type (OrderedConstraint loc ty) = ty
constraint_type (BaseTypeConstraint loc ty) = ty
constraint_type (SingleTypeConstraint loc ty) = ty

unfoldable pub of_type : (ℕ → ℕ) → Constraint → Constraint
of_type f (AbilityConstraint loc ty abilities) = AbilityConstraint loc (f ty) abilities
of_type f (NumericConstraint loc ty) = NumericConstraint loc (f ty)
of_type f (BitsConstraint loc ty) = BitsConstraint loc (f ty)
of_type f (OrderedConstraint loc ty) = OrderedConstraint loc (f ty)
of_type f (BaseTypeConstraint loc ty) = BaseTypeConstraint loc (f ty)
of_type f (SingleTypeConstraint loc ty) = SingleTypeConstraint loc (f ty)

-- ---- what is kept, in words: the listed variables, the constraints' types, and whatever both reach
pub data Thing : Type 0 where
  a_node a_variable : ℕ → Thing

pub data Kept (s : State) (listed : List ℕ) : Thing → Type 0 where
  a_listed_one : {v : ℕ} → Memᴰ v listed → Kept s listed (a_variable v)
  of_a_constraint : {c : Constraint} → Memᴰ c s.constraints → Kept s listed (a_node (constraint_type c))
  its_binding : {v t : ℕ} → Kept s listed (a_variable v) → get s v ≡ Some t → Kept s listed (a_node t)
  its_part : {t p : ℕ} → Kept s listed (a_node t) → Memᴰ p (parts (type_at s t)) → Kept s listed (a_node p)
  its_variable : {t v : ℕ} → Kept s listed (a_node t) → type_at s t ≡ Var v → Kept s listed (a_variable v)

-- ---- .. and as lists, by rising number (theorems: these and no others)
pub record Reach : Type 0 where
  pub nodes : List ℕ
  pub vars : List ℕ

-- the numbers below n with f
unfoldable pub those_below : ℕ → (ℕ → Bool) → List ℕ
those_below zero f = []
those_below (suc n) f = those_below n f ++ (if f n then n ∷ [] else [])

unfoldable pub one_of : List ℕ → ℕ → Bool
one_of xs x = any_of (λ y. eqb x y) xs

unfoldable pub bound_to : State → ℕ → ℕ → Bool
bound_to s t v = elim (get s v) [ None ↦ false | Some b ↦ eqb b t ]

-- what one step reaches is kept too
unfoldable pub round : State → Reach → Reach
round s r = record {
  nodes = those_below (count s) (λ t. one_of r.nodes t || any_of (λ v. bound_to s t v) r.vars || any_of (λ p. one_of (parts (type_at s p)) t) r.nodes);
  vars = those_below (taken s) (λ v. one_of r.vars v || any_of (λ t. is_var v (type_at s t)) r.nodes);
}

unfoldable pub rounds : ℕ → State → Reach → Reach
rounds zero s r = r
rounds (suc n) s r = rounds n s (round s r)

-- each round but the last keeps something more
unfoldable pub reach : State → List ℕ → Reach
reach s listed = rounds (count s + taken s) s (record {
  nodes = those_below (count s) (λ t. any_of (λ ty. eqb t ty) (map (λ c. constraint_type c) s.constraints));
  vars = those_below (taken s) (λ v. one_of listed v);
})

-- ---- survivors slide down: the new number is how many kept ones were below
unfoldable pub slid : List ℕ → ℕ → ℕ
slid [] x = 0
slid (y ∷ kept) x = if ltb y x then suc (slid kept x) else slid kept x

-- the argument places of the kept nodes
unfoldable pub has_place : State → ℕ → ℕ → Bool
has_place s i t = elim (node s t).value [
  | UnitType ↦ false
  | Ref m p ↦ false
  | Param id a ↦ false
  | Apply k n p ↦ leb p.first i && ltb i (p.first + p.many)
  | Var v ↦ false
  | Anything ↦ false
  | UnresolvedError ↦ false
]

unfoldable pub kept_places : State → Reach → List ℕ
kept_places s r = those_below (length s.args) (λ i. any_of (λ t. has_place s i t) r.nodes)

unfoldable pub slid_shape : List ℕ → List ℕ → List ℕ → Shape Places → Shape Places
slid_shape nodes places vars UnitType = UnitType
slid_shape nodes places vars (Ref m t) = Ref m (slid nodes t)
slid_shape nodes places vars (Param id a) = Param id a
slid_shape nodes places vars (Apply k n p) = Apply k n (record { first = slid places p.first; many = p.many })
slid_shape nodes places vars (Var v) = Var (slid vars v)
slid_shape nodes places vars Anything = Anything
slid_shape nodes places vars UnresolvedError = UnresolvedError

unfoldable pub slid_binding : List ℕ → Option ℕ → Option ℕ
slid_binding nodes b = elim b [ None ↦ None | Some t ↦ Some (slid nodes t) ]

unfoldable pub clear_all : State → Reach → List ℕ → State
clear_all s r places = record {
  nodes = map (λ t. record { loc = (node s t).loc; value = slid_shape r.nodes places r.vars (node s t).value }) r.nodes;
  args = map (λ i. slid r.nodes (get_or s.args i 0)) places;
  vars = map (λ v. let c : Cell = get_or s.vars v unbound in record { binding = slid_binding r.nodes c.binding; numeric = c.numeric; need = c.need }) r.vars;
  constraints = map (λ c. of_type (slid r.nodes) c) s.constraints;
  structs = s.structs;
}

unfoldable pub cleared : State → List ℕ → State
cleared s listed = let r : Reach = reach s listed in clear_all s r (kept_places s r)

-- old and new number of each surviving variable
unfoldable pub survivors : List ℕ → Bytes
survivors vars = each (λ v. u16 v ++ u16 (slid vars v)) vars

-- where a variable goes; none if it goes away
unfoldable pub moved : State → List ℕ → ℕ → Option ℕ
moved s listed v = let vars : List ℕ = (reach s listed).vars in if one_of vars v then Some (slid vars v) else None
