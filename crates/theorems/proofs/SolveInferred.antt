-- What infer_abilities gives. Where two functions give the parts equal sets and the declarations are equal, one level gives equal sets (`value_on`); so by induction
-- on the levels any two numbers of levels in which reading the type is over give the same (`levels`). Assumes nothing.
use mathlib.Core.Path.{◌≡◌, refl, ap}
use mathlib.Core.Bool.{Bool, true, false, not, ◌&&◌}
use mathlib.Core.List.{List, [], ◌∷◌}
use Rattle.std.specs.Prelude.{Option, None, Some}
use Prim.Native.Nat.{ℕ, zero, suc, ◌≤◌}
use native.Mathlib.Omega.{arith}
use Rattle.definition.specs.Types.{TypeName, Multiple, Builtin, ModuleType, UnitType, Ref, Param, Apply, Var, Anything, UnresolvedError, TypeValue, Spanned, State}
use Rattle.definition.specs.Store.{count, type_at, spanned, get, all_of}
use Rattle.definition.specs.Subst.{as_var, parts, forward_tvar, unfold_var, unfold_type, goes_on_to, ends_in, reaches_itself}
use Rattle.definition.specs.Instantiate.{struct_tparams}
use Rattle.definition.specs.Abilities.{has, select, those, from_abilities, requires, struct_abilities, declared_abilities, counts, first_lacking, lacking, granted, infer_value, infer, infer_abilities, by_argument, rule}
use Rattle.theorems.proofs.DemandTracks.{never}
use Rattle.theorems.proofs.DemandOrder.{All}
use Rattle.theorems.proofs.SoundFacts.{elim_l, elim_r, not_false}
use Rattle.theorems.proofs.Erase.{bool_same}

-- ---- equal sets of the parts

select_on : (f g : ℕ → Bool) → ((a : ℕ) → f a ≡ g a) → (l : List ℕ) → select f l ≡ select g l
unfolding select
select_on f g h [] = refl
select_on f g h (a ∷ l) = bool_same (g a) (f a) (h a) (ap (λ (r : List ℕ). a ∷ r) (select_on f g h l)) (select_on f g h l)

pub those_on : (f g : ℕ → Bool) → ((a : ℕ) → f a ≡ g a) → those f ≡ those g
unfolding those
those_on f g h = select_on f g h _

first_on : (c c' f g : ℕ → Bool) (P : ℕ → Type 0) → ((i : ℕ) → c i ≡ c' i) → ((t : ℕ) → P t → f t ≡ g t) → (i : ℕ) (tys : List ℕ) → All P tys → first_lacking c f i tys ≡ first_lacking c' g i tys
unfolding first_lacking
first_on c c' f g P u h i [] a = refl
first_on c c' f g P u h i (t ∷ tys) a = bool_same (c' i && g t) (c i && f t) (rw (u i, h t a.0) refl) refl (first_on c c' f g P u h (suc i) tys a.1)

module _ (s s' : State) (d : s.structs ≡ s'.structs) where
  declared_same : (n : TypeName) → declared_abilities s n ≡ declared_abilities s' n
  unfolding declared_abilities struct_abilities
  declared_same (Multiple n) = refl
  declared_same (Builtin b) = refl
  declared_same (ModuleType n) = rw d refl

  counts_same : (n : TypeName) (i : ℕ) → counts s n i ≡ counts s' n i
  unfolding counts struct_tparams
  counts_same (Multiple n) i = refl
  counts_same (Builtin b) i = refl
  counts_same (ModuleType n) i = rw d refl

  module _ (f g : ℕ → ℕ) (P : ℕ → Type 0) (h : (t : ℕ) → P t → f t ≡ g t) where
    lacking_on : (n : TypeName) (tys : List ℕ) → All P tys → (needed : ℕ) → lacking f s n tys needed ≡ lacking g s' n tys needed
    unfolding lacking
    lacking_on n tys a needed = first_on (counts s n) (counts s' n) (λ t. not (has (f t) needed)) (λ t. not (has (g t) needed)) P (counts_same n) (λ t p. rw (h t p) refl) 0 tys a

    granted_on : (n : TypeName) (tys : List ℕ) → All P tys → (ability : ℕ) → granted f s n tys ability ≡ granted g s' n tys ability
    unfolding granted
    granted_on n tys a ability = rw (declared_same n, lacking_on n tys a (requires ability)) refl

    pub value_on : (x : TypeValue) → All P (parts x) → infer_value f s x ≡ infer_value g s' x
    unfolding infer_value parts
    value_on UnitType a = refl
    value_on (Ref m t) a = refl
    value_on (Var v) a = refl
    value_on UnresolvedError a = refl
    value_on Anything a = refl
    value_on (Param id b) a = refl
    value_on (Apply (Some b) n tys) a = refl
    value_on (Apply None n tys) a = ap from_abilities (those_on (granted f s n tys) (granted g s' n tys) (granted_on n tys a))

  every : (tys : List ℕ) → All (λ t. Unit {0}) tys
  every [] = tt
  every (t ∷ tys) = (tt, every tys)

  pub value_same : (f g : ℕ → ℕ) → ((t : ℕ) → f t ≡ g t) → (x : TypeValue) → infer_value f s x ≡ infer_value g s' x
  value_same f g h x = value_on f g (λ t. Unit {0}) (λ t u. h t) x (every (parts x))

  pub rule_same : ((t : ℕ) → infer_abilities s t ≡ infer_abilities s' t) → (ability : ℕ) (x : TypeValue) → rule s ability x ≡ rule s' ability x
  unfolding rule
  rule_same h ability UnitType = refl
  rule_same h ability (Ref m t) = refl
  rule_same h ability (Var v) = refl
  rule_same h ability UnresolvedError = refl
  rule_same h ability Anything = refl
  rule_same h ability (Param id b) = refl
  rule_same h ability (Apply k n tys) = bool_same (has (declared_abilities s' n) ability) (has (declared_abilities s n) ability) (ap (λ (set : ℕ). has set ability) (declared_same n))
      (ap by_argument (lacking_on (λ t. infer_abilities s t) (λ t. infer_abilities s' t) (λ t. Unit {0}) (λ t u. h t) n tys (every tys) (requires ability))) refl

-- ---- more levels than reading needs

module _ (S : State) where
  both : (f g : ℕ → Bool) (l : List ℕ) → all_of f l ≡ true → all_of g l ≡ true → All (λ p. (f p ≡ true) × (g p ≡ true)) l
  unfolding all_of
  both f g [] d e = tt
  both f g (p ∷ l) d e = ((elim_l (f p) (all_of f l) d, elim_l (g p) (all_of g l) e), both f g l (elim_r (f p) (all_of f l) d) (elim_r (g p) (all_of g l) e))

  levels : (n m t : ℕ) → ends_in n S t ≡ true → ends_in m S t ≡ true → infer n S t ≡ infer m S t
  unfolding ends_in infer goes_on_to
  levels zero m t d e = never (cc)
  levels (suc n) zero t d e = never (cc)
  levels (suc n) (suc m) t d e = value_on S S refl (λ p. infer n S p) (λ p. infer m S p) (λ p. (ends_in n S p ≡ true) × (ends_in m S p ≡ true)) (λ p h. levels n m p h.0 h.1)
      (unfold_type S (spanned S t)).value (both (λ p. ends_in n S p) (λ p. ends_in m S p) (parts (unfold_type S (spanned S t)).value) d e)

  each_more : (f g : ℕ → Bool) → ((p : ℕ) → f p ≡ true → g p ≡ true) → (l : List ℕ) → all_of f l ≡ true → all_of g l ≡ true
  unfolding all_of
  each_more f g h [] e = refl
  each_more f g h (p ∷ l) e = rw (h p (elim_l (f p) (all_of f l) e), all_of) (each_more f g h l (elim_r (f p) (all_of f l) e))

  pub more : (n m t : ℕ) → n ≤ m → ends_in n S t ≡ true → ends_in m S t ≡ true
  unfolding ends_in
  more zero m t l e = never (cc)
  more (suc n) zero t l e = absurd (omega arith)
  more (suc n) (suc m) t l e = each_more (λ p. ends_in n S p) (λ p. ends_in m S p) (λ p h. more n m p (omega arith) h) (goes_on_to S t) e

  pub infer_enough : (n m t : ℕ) → n ≤ m → ends_in n S t ≡ true → infer m S t ≡ infer n S t
  infer_enough n m t l e = levels m n t (more n m t l e) e

  -- infer_abilities as the Rust has it, without a count of levels
  pub infer_is : (t : ℕ) → reaches_itself S t ≡ false → infer_abilities S t ≡ infer_value (λ p. infer_abilities S p) S (unfold_type S (spanned S t)).value
  unfolding infer_abilities reaches_itself infer
  infer_is t e = let d = not_false (ends_in (count S) S t) e in levels (count S) (suc (count S)) t d (more (count S) (suc (count S)) t (omega arith) d)

-- ---- a type as unfolded

pub unfolded : (S : State) (P : TypeValue → Type 0) → P Anything → ((t : ℕ) → P (type_at S t)) → (t : ℕ) → P (unfold_type S (spanned S t)).value
unfolding unfold_type unfold_var spanned
unfolded S P any h t = go (as_var (type_at S t))
  where
    bound : (loc : ℕ) (o : Option ℕ) → P (unfold_var S loc o).value
    bound loc None = any
    bound loc (Some u) = h u

    go : (o : Option ℕ) → P (elim o as (λ x. Spanned TypeValue) [ None ↦ spanned S t | Some i ↦ unfold_var S (spanned S t).loc (get S (forward_tvar S i)) ]).value
    go None = h t
    go (Some i) = bound (spanned S t).loc (get S (forward_tvar S i))
