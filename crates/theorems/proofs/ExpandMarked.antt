-- XP is 17 exactly where reading the type, which does not run into itself, comes to a list or struct with a mark. Assumes nothing.
use mathlib.Core.Path.{◌≡◌, refl, sym, ◌∙◌, subst}
use mathlib.Core.Logic.{◌↔◌, inl, inr}
use mathlib.Core.Bool.{Bool, true, false}
use mathlib.Core.List.Memᴰ
use mathlib.Core.List.{List, [], ◌∷◌, Memᴰ}
use Rattle.std.specs.Prelude.{Option, None, Some}
use Prim.Native.Nat.{ℕ, zero, suc, ◌*◌}
use Rattle.definition.specs.Types.{Multiple, Builtin, ModuleType, TypeValue, UnitType, Ref, Param, Apply, Var, Anything, UnresolvedError, State, runs_into_itself, already_expanded, Result, ok, refused, ◌>>=◌}
use Rattle.definition.specs.Store.{count, taken, type_at, loc_of, get}
use Rattle.definition.specs.Subst.{as_var, parts, next_of, forward, forward_tvar, reaches_itself}
use Rattle.definition.specs.Write.{Bytes, head}
use Rattle.definition.specs.Abilities.{infer_abilities}
use Rattle.definition.specs.Expand.{Expanded, uninferred, expand_types, under, expand_marked, expand_value, expand, expand_type}
use Rattle.theorems.proofs.DemandTracks.{never}
use Rattle.theorems.proofs.SoundFacts.{facts}
use Rattle.theorems.proofs.LawsChains.{as_var_is, next_some, next_none}
use Rattle.theorems.proofs.ExpandNine.{walk_comes}
use Rattle.definition.specs.Final.{Marked, marked_list, marked_struct, ReachesMarked, is_marked, through_binding, through_part, Came, came_ok, came_17, ExpandSeventeen}
use Rattle.theorems.proofs.BookAbilities.{not_itself}

-- ---- along a chain

-- the binding of a variable that reaches a marked one
pub record Bound (S : State) (v : ℕ) : Type 0 where
  pub to : ℕ
  pub bound : get S v ≡ Some to
  pub reaches : ReachesMarked S (type_at S to)

var_bound : (S : State) (v : ℕ) (x : TypeValue) → x ≡ Var v → ReachesMarked S x → Bound S v
unfolding parts
var_bound S v x e (is_marked marked_list) = never (cc)
var_bound S v x e (is_marked marked_struct) = never (cc)
var_bound S v x e (through_binding {v = w} {t = t} g d) = let q : w ≡ v = cc in record { to = t; bound = subst (λ (y : ℕ). get S y ≡ Some t) q g; reaches = d }
var_bound S v x e (through_part {p = p} i d) = absurd (Memᴰ.not-nil (subst (λ (y : TypeValue). Memᴰ p (parts y)) e i))

end_bound : (S : State) (n v : ℕ) → ReachesMarked S (Var v) → Bound S (forward n S v)
unfolding forward
end_bound S zero v d = var_bound S v (Var v) refl d
end_bound S (suc n) v d = go (var_bound S v (Var v) refl d) (λ w x. end_bound S n w x)
  where
    onward : (b : Bound S v) (o : Option ℕ) → as_var (type_at S b.to) ≡ o → ((w : ℕ) → ReachesMarked S (Var w) → Bound S (forward n S w)) → Bound S (elim o [ None ↦ v | Some next ↦ forward n S next ])
    onward b None e k = b
    onward b (Some w) e k = k w (subst (λ (y : TypeValue). ReachesMarked S y) (as_var_is (type_at S b.to) w e) b.reaches)

    go : Bound S v → ((w : ℕ) → ReachesMarked S (Var w) → Bound S (forward n S w)) → Bound S (elim (next_of S v) [ None ↦ v | Some next ↦ forward n S next ])
    go b k = rw (next_some S v b.to b.bound) (onward b (as_var (type_at S b.to)) refl k)

abbrev step_on : State → ℕ → ℕ → Option ℕ → ℕ
step_on S n v o = elim o [ None ↦ v | Some next ↦ forward n S next ]

-- .. and back from the end
from_end : (S : State) (n v T : ℕ) → get S (forward n S v) ≡ Some T → ReachesMarked S (type_at S T) → ReachesMarked S (Var v)
unfolding forward
from_end S zero v T g d = through_binding g d
from_end S (suc n) v T g d = go (get S v) refl (λ w q. from_end S n w T q d)
  where
    onward : (t : ℕ) → get S v ≡ Some t → (o : Option ℕ) → as_var (type_at S t) ≡ o → get S (elim o [ None ↦ v | Some next ↦ forward n S next ]) ≡ Some T → ((w : ℕ) → get S (forward n S w) ≡ Some T → ReachesMarked S (Var w)) → ReachesMarked S (Var v)
    onward t h None e q k = through_binding q d
    onward t h (Some w) e q k = through_binding h (subst (λ (y : TypeValue). ReachesMarked S y) (sym (as_var_is (type_at S t) w e)) (k w q))

    go : (o : Option ℕ) → get S v ≡ o → ((w : ℕ) → get S (forward n S w) ≡ Some T → ReachesMarked S (Var w)) → ReachesMarked S (Var v)
    go (Some t) h k = onward t h (as_var (type_at S t)) refl (subst (λ (o : Option ℕ). get S (step_on S n v o) ≡ Some T) (next_some S v t h) g) k
    go None h k = through_binding (subst (λ (o : Option ℕ). get S (step_on S n v o) ≡ Some T) (next_none S v h) g) d

-- ---- what the walk finds

pub data Found (S : State) (P : Type 0) : Result Expanded → Type 0 where
  found_none : {x : Expanded} → (P → ⊥) → Found S P (ok x)
  found_17 : P → Found S P (refused already_expanded)
  found_9 : Found S P (refused runs_into_itself)

found_as : {S : State} {P Q : Type 0} {m : Result Expanded} → (P → Q) → (Q → P) → Found S P m → Found S Q m
found_as f g (found_none h) = found_none (λ q. h (g q))
found_as f g (found_17 p) = found_17 (f p)
found_as f g found_9 = found_9

under_found : {S : State} {P : Type 0} (h : Bytes) {m : Result Expanded} → Found S P m → Found S P (under h m)
unfolding under ◌>>=◌
under_found h (found_none q) = found_none q
under_found h (found_17 p) = found_17 p
under_found h found_9 = found_9

-- some of a list of types
abbrev SomeMarked : State → List ℕ → Type 0
SomeMarked S ts = (p : ℕ) × Memᴰ p ts × ReachesMarked S (type_at S p)

first_found : {S : State} {t : ℕ} {ts : List ℕ} (make : Expanded → Expanded → Expanded) {m n : Result Expanded} → Found S (ReachesMarked S (type_at S t)) m → Found S (SomeMarked S ts) n
    → Found S (SomeMarked S (t ∷ ts)) (m >>= (λ (a : Expanded). n >>= (λ (b : Expanded). ok (make a b))))
unfolding ◌>>=◌
first_found {S} {t} {ts} make (found_none h) (found_none k) = found_none (λ q. elim (Memᴰ.cases_cons q.1) [ inl e ↦ h (subst (λ (y : ℕ). ReachesMarked S (type_at S y)) e q.2) | inr i ↦ k (q.0, i, q.2) ])
first_found make (found_none h) (found_17 p) = found_17 (p.0, Memᴰ.tail p.1, p.2)
first_found make (found_none h) found_9 = found_9
first_found {t = t} make (found_17 d) q = found_17 (t, Memᴰ.head refl, d)
first_found make found_9 q = found_9

module _ (S : State) (f : ℕ → Result Expanded) (h : (t : ℕ) → Found S (ReachesMarked S (type_at S t)) (f t)) where
  types_found : (ts : List ℕ) → Found S (SomeMarked S ts) (expand_types f ts)
  unfolding expand_types
  types_found [] = found_none (λ q. Memᴰ.not-nil q.1)
  types_found (t ∷ ts) = first_found _ (h t) (types_found ts)

  -- one that is no marked one and no variable reaches it by a part
  by_part : (x : TypeValue) → (Marked x → ⊥) → ((v : ℕ) → x ≡ Var v → ⊥) → ReachesMarked S x → SomeMarked S (parts x)
  by_part x n v (is_marked m) = absurd (n m)
  by_part x n v (through_binding {v = w} g d) = absurd (v w refl)
  by_part x n v (through_part {p = p} i d) = (p, i, d)

  parts_found : (x : TypeValue) → (Marked x → ⊥) → ((v : ℕ) → x ≡ Var v → ⊥) → {m : Result Expanded} → Found S (SomeMarked S (parts x)) m → Found S (ReachesMarked S x) m
  parts_found x n v q = found_as (λ p. through_part p.1 p.2) (λ d. by_part x n v d) q

  -- only a name is marked, and no builtin
  abbrev list_or_struct : TypeValue → Bool
  list_or_struct UnitType = false
  list_or_struct (Ref m t) = false
  list_or_struct (Param id a) = false
  list_or_struct (Apply None n tys) = false
  list_or_struct (Apply (Some set) (Builtin b) tys) = false
  list_or_struct (Apply (Some set) (Multiple n) tys) = true
  list_or_struct (Apply (Some set) (ModuleType n) tys) = true
  list_or_struct (Var v) = false
  list_or_struct Anything = false
  list_or_struct UnresolvedError = false

  marked_so : {x : TypeValue} → Marked x → list_or_struct x ≡ true
  marked_so marked_list = refl
  marked_so marked_struct = refl

  unmarked : (x : TypeValue) → list_or_struct x ≡ false → Marked x → ⊥
  unmarked x e m = never (let z = marked_so m in cc)

  none_found : (x : TypeValue) {e : Expanded} → list_or_struct x ≡ false → parts x ≡ [] → ((v : ℕ) → x ≡ Var v → ⊥) → Found S (ReachesMarked S x) (ok e)
  none_found x e p v = parts_found x (unmarked x e) v (found_none (λ q. Memᴰ.not-nil (subst (λ (l : List ℕ). Memᴰ q.0 l) p q.1)))

  var_found : (v l : ℕ) (o : Option ℕ) → get S (forward_tvar S v) ≡ o → Found S (ReachesMarked S (Var v)) (elim o [ None ↦ ok (record { type = head l UnresolvedError; codes = uninferred l }) | Some T ↦ f T ])
  unfolding forward_tvar
  var_found v l None g = found_none (λ d. never (let b = end_bound S (taken S) v d in let z = sym g ∙ b.bound in cc))
  var_found v l (Some T) g = found_as (λ d. from_end S (taken S) v T g d)
      (λ d. let b = end_bound S (taken S) v d in let e : b.to ≡ T = (let z = sym b.bound ∙ g in cc) in subst (λ (t : ℕ). ReachesMarked S (type_at S t)) e b.reaches) (h T)

  one_found : (t : ℕ) {m : Result Expanded} → Found S (ReachesMarked S (type_at S t)) m → Found S (SomeMarked S (t ∷ [])) m
  one_found t q = found_as (λ d. (t, Memᴰ.head refl, d)) (λ p. elim (Memᴰ.cases_cons p.1) [ inl e ↦ subst (λ (y : ℕ). ReachesMarked S (type_at S y)) e p.2 | inr i ↦ absurd (Memᴰ.not-nil i) ]) q

  value_found : (ty l : ℕ) (x : TypeValue) → Found S (ReachesMarked S x) (expand_value f S ty l x)
  unfolding expand_value expand_marked parts
  value_found ty l UnitType = none_found UnitType refl refl (λ v e. never (cc))
  value_found ty l UnresolvedError = none_found UnresolvedError refl refl (λ v e. never (cc))
  value_found ty l Anything = none_found Anything refl refl (λ v e. never (cc))
  value_found ty l (Param id a) = none_found (Param id a) refl refl (λ v e. never (cc))
  value_found ty l (Ref m t) = parts_found (Ref m t) (unmarked (Ref m t) refl) (λ v e. never (cc)) (one_found t (under_found (head l (Ref m t)) (h t)))
  value_found ty l (Var v) = var_found v l (get S (forward_tvar S v)) refl
  value_found ty l (Apply (Some set) (Builtin b) tys) = parts_found (Apply (Some set) (Builtin b) tys) (unmarked _ refl) (λ v e. never (cc)) (under_found (head l (Apply (Some set) (Builtin b) tys)) (types_found tys))
  value_found ty l (Apply (Some set) (Multiple n) tys) = found_17 (is_marked marked_list)
  value_found ty l (Apply (Some set) (ModuleType n) tys) = found_17 (is_marked marked_struct)
  value_found ty l (Apply None n tys) = parts_found (Apply None n tys) (unmarked (Apply None n tys) refl) (λ v e. never (cc)) (under_found (head l (Apply (Some (infer_abilities S ty)) n tys)) (types_found tys))

expand_found : (S : State) (n t : ℕ) → Found S (ReachesMarked S (type_at S t)) (expand n S t)
unfolding expand
expand_found S zero t = found_9
expand_found S (suc n) t = value_found S (λ p. expand n S p) (λ p. expand_found S n p) t (loc_of S t) (type_at S t)

pub seventeen : {S : State} {P : Type 0} {m : Result Expanded} → Found S P m → Came m → (m ≡ refused already_expanded) ↔ P
seventeen (found_none h) came_ok = (λ e. never (cc), λ p. absurd (h p))
seventeen found_9 c = elim c [ ]
seventeen (found_17 p) came_17 = (λ e. p, λ q. refl)

pub type_found : (S : State) (t : ℕ) → reaches_itself S t ≡ false → Found S (ReachesMarked S (type_at S t)) (expand_type S t)
unfolding expand_type
type_found S t e = rw (e, expand_type) (expand_found S (2 * count S) t)

pub expand_seventeen : (s : State) → ExpandSeventeen s
unfolding ExpandSeventeen
expand_seventeen s h t i r = let n = not_itself (facts s h) t i r in seventeen (type_found s t n) (walk_comes (facts s h) t i n)
