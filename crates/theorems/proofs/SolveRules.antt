-- The rule that decides a missing ability, in the Book's words; 16 is met of a marked type alone; every inferred set is at most 15. `Decides` holds of the rule that
-- is given, case by case from what agrees with the Book on the arguments, and of one rule at most (`once`). 16 is brought down to one ability that is asked for and
-- contradicted (`those_refused`, `sixteen_of`). Assumes nothing.
use mathlib.Core.Path.{◌≡◌, refl, sym, ap, ◌∙◌, subst}
use mathlib.Core.Logic.{◌↔◌, ◌⊎◌, inl, inr}
use mathlib.Core.Bool.{Bool, true, false, not, ◌&&◌}
use mathlib.Core.List.{List, [], ◌∷◌}
use Rattle.std.specs.Prelude.{Option, None, Some}
use Prim.Native.Nat.{ℕ, zero, suc, ◌+◌, ◌≤◌, ◌<◌}
use native.Mathlib.Decide.{dec_lt}
use native.Mathlib.Omega.{arith}
use lib.ListN.{length, get_or}
use borrow.Author.Tests.{leb-true}
use Rattle.definition.specs.Types.{TypeName, AbilityMark, UnitType, Ref, Param, Apply, Var, Anything, UnresolvedError, TypeValue, Spanned, Refusal, runs_into_itself, mark_contradicted, State, Result, refused}
use Rattle.definition.specs.Store.{count, type_at, spanned}
use Rattle.definition.specs.Subst.{parts, unfold_type, reaches_itself}
use Rattle.definition.specs.Trees.{arity, is_set, is_mark, is_name, mark_fits}
use Rattle.definition.specs.Sound.{is_u32, sound}
use Rattle.definition.specs.Rank.{RunsIntoItself}
use Rattle.definition.specs.Abilities.{all, references, collection, has, select, those, from_abilities, requires, declared_abilities, counts, is_none, lacking, granted, infer_value, infer, infer_abilities, Rule, declaration, argument, contradicted, by_argument, rule}
use Rattle.definition.specs.Book.{Ability, copy, drop, store, key, bit, needed, Declares, Phantom, Has}
use Rattle.definition.specs.Constraints.{missing, by_rule, in_turn, solve_ability_constraint}
use Rattle.definition.specs.Write.{Bytes}
use Rattle.theorems.proofs.DemandTracks.{never}
use Rattle.theorems.proofs.SolveInTurn.{Tells, turn_first, turn_later, turn_refused}
use Rattle.theorems.proofs.DemandOrder.{All, Sound}
use Rattle.theorems.proofs.SoundFacts.{and_l, and_r, unnot, not_false, facts}
use Rattle.theorems.proofs.SoundRanges.{ShapeIn, value_in}
use Rattle.theorems.proofs.SoundKept.{ranges_of}
use Rattle.theorems.proofs.DemandRuns.{Declared}
use Rattle.theorems.proofs.SolveInferred.{infer_is, unfolded}
use Rattle.theorems.proofs.BookAbilities.{requires_bit, some_lack, declared_is, is_declared, counted, not_phantom, Agrees, all_get, ArgsHave, none_lacking, named_is, Filled, unfolds, not_itself, parts_agree}

-- ---- the rule in the Book's words

pub data Grants (s : State) (a : Ability) : TypeValue → Type 0 where
  grants : {k : AbilityMark} {n : TypeName} {tys : List ℕ} → Declares s n a → Grants s a (Apply k n tys)

abbrev is_name_shape : TypeValue → Bool
is_name_shape UnitType = false
is_name_shape (Ref m t) = false
is_name_shape (Param id a) = false
is_name_shape (Apply k n tys) = true
is_name_shape (Var v) = false
is_name_shape Anything = false
is_name_shape UnresolvedError = false

name_of : {s : State} {a : Ability} {x : TypeValue} → Grants s a x → is_name_shape x ≡ true
name_of (grants d) = refl

no_grant : {s : State} {a : Ability} (x : TypeValue) → is_name_shape x ≡ false → Grants s a x → ⊥
no_grant x e g = let n = name_of g in never (cc)

-- what decides that the unfolded type lacks the ability
pub data Decides (s : State) (a : Ability) : TypeValue → Rule → Type 0 where
  by_declaration : {x : TypeValue} → ¬ Grants s a x → Decides s a x declaration
  -- argument i is the first that counts and has not what is needed
  by_place : {k : AbilityMark} {n : TypeName} {tys : List ℕ} {i : ℕ} → Declares s n a → i < length tys → ¬ Phantom s n i → ¬ Has s (needed a) (type_at s (get_or tys i 0))
      → ((j : ℕ) → j < i → ¬ Phantom s n j → Has s (needed a) (type_at s (get_or tys j 0))) → Decides s a (Apply k n tys) (argument i)
  by_none : {k : AbilityMark} {n : TypeName} {tys : List ℕ} → Declares s n a → ((i : ℕ) → i < length tys → ¬ Phantom s n i → Has s (needed a) (type_at s (get_or tys i 0))) → Decides s a (Apply k n tys) contradicted

-- one rule at most
once : {s : State} {a : Ability} {x : TypeValue} {r r' : Rule} → Decides s a x r → Decides s a x r' → r ≡ r'
once (by_declaration g) (by_declaration g') = refl
once (by_declaration g) (by_place d l p h b) = absurd (g (grants d))
once (by_declaration g) (by_none d h) = absurd (g (grants d))
once (by_place d l p h b) (by_declaration g) = absurd (g (grants d))
once (by_place {i = i} d l p h b) (by_place {i = j} d' l' p' h' b') = elim (dec_lt i j) [
  | yes k ↦ absurd (h (b' i k p))
  | no k ↦ elim (dec_lt j i) [ yes m ↦ absurd (h' (b j m p')) | no m ↦ ap argument (let e : i ≡ j = omega arith in e) ]
]
once (by_place {i = i} d l p h b) (by_none d' g) = absurd (h (g i l p))
once (by_none d g) (by_declaration g') = absurd (g' (grants d))
once (by_none d g) (by_place {i = i} d' l p h b) = absurd (h (g i l p))
once (by_none d g) (by_none d' g') = refl

module _ (S : State) where
  abbrev sets : ℕ → ℕ
  sets p = infer_abilities S p

  placed : {k : AbilityMark} (n : TypeName) (tys : List ℕ) → length tys ≡ arity S n → All (Agrees S sets) tys → (a : Ability) → Declares S n a → (p : ℕ) → lacking sets S n tys (bit (needed a)) ≡ Some p → Decides S a (Apply k n tys) (argument p)
  unfolding lacking
  placed {k} n tys many h a d p e =
      let w : ℕ → Bool = λ ty. not (has (sets ty) (bit (needed a))) in
      let (j, q, r) = some_lack (counts S n) w 0 tys p e in
      let z : 0 + j ≡ j = omega arith in
      let u : j ≡ p = omega (arith, q) in
      subst (λ i. Decides S a (Apply k n tys) (argument i)) u (by_place d r.within (not_phantom S {n = n} {i = j} (rw z at r.counts_there))
      (λ g. let y = (all_get S (Agrees S sets) tys h j r.within (needed a)).1 g in let n = unnot (has (sets (get_or tys j 0)) (bit (needed a))) r.lacks_there in never (cc))
      (λ i l f. let y : 0 + i ≡ i = omega arith in (all_get S (Agrees S sets) tys h i (omega (arith, r.within)) (needed a)).0 (not_false _ (r.before i l (rw y (counted S n i (omega (arith, l, r.within, many)) f))))))

  decides : (x : TypeValue) → Filled S x → All (Agrees S sets) (parts x) → (a : Ability) → Decides S a x (rule S (bit a) x)
  unfolding rule parts by_argument ArgsHave
  decides UnitType q h a = by_declaration (no_grant UnitType refl)
  decides (Ref m t) q h a = by_declaration (no_grant (Ref m t) refl)
  decides (Var v) q h a = by_declaration (no_grant (Var v) refl)
  decides UnresolvedError q h a = by_declaration (no_grant UnresolvedError refl)
  decides Anything q h a = by_declaration (no_grant Anything refl)
  decides (Param id b) q h a = by_declaration (no_grant (Param id b) refl)
  decides (Apply k n tys) q h a = go (has (declared_abilities S n) (bit a)) refl (lacking sets S n tys (requires (bit a))) refl
    where
      ungranted : has (declared_abilities S n) (bit a) ≡ false → Grants S a (Apply k n tys) → ⊥
      ungranted d (grants g) = let y = is_declared S g in never (cc)

      go : (b : Bool) → has (declared_abilities S n) (bit a) ≡ b → (o : Option ℕ) → lacking sets S n tys (requires (bit a)) ≡ o → Decides S a (Apply k n tys) (elim b [ false ↦ declaration | true ↦ by_argument o ])
      go false d o e = by_declaration (ungranted d)
      go true d None e = by_none (declared_is S n a d) (none_lacking S sets n tys (q k n tys refl) h (needed a) (rw (requires_bit a) at e))
      go true d (Some p) e = placed n tys (q k n tys refl) h a (declared_is S n a d) p (rw (requires_bit a) at e)

pub rule_decides : {ar : TypeName → ℕ} {S : State} → Sound ar S → Declared ar S → (t : ℕ) → t < count S → ¬ RunsIntoItself S (type_at S t) → (a : Ability) (r : Rule)
    → (rule S (bit a) (unfold_type S (spanned S t)).value ≡ r) ↔ Decides S a (unfold_type S (spanned S t)).value r
rule_decides {S = S} s k t i n a r =
    let d = decides S (unfold_type S (spanned S t)).value (unfolds s k t i).filled (parts_agree s k t i (not_itself s t i n)) a in
    ((λ e. subst (Decides S a (unfold_type S (spanned S t)).value) e d), λ d'. once d d')

pub rule_is : (s : State) → sound s ≡ true → (t : ℕ) → t < count s → ¬ RunsIntoItself s (type_at s t) → (a : Ability) (r : Rule)
    → (rule s (bit a) (unfold_type s (spanned s t)).value ≡ r) ↔ Decides s a (unfold_type s (spanned s t)).value r
rule_is s h t i n a r = rule_decides (facts s h) (λ n. refl) t i n a r

-- ---- in turn over the abilities that pass a test

abbrev IsBit : ℕ → Type 0
IsBit x = (a : Ability) × (bit a ≡ x)

-- one ability gives y, or tells failures
abbrev Only : Refusal → Result Bytes → Type 0
Only y m = (m ≡ refused y) ⊎ Tells m

module _ (f : ℕ → Result Bytes) (g : ℕ → Bool) (y : Refusal) where
  -- an ability that passes the test is refused so
  abbrev pub SomeRefused : Type 0
  SomeRefused = (a : Ability) × (g (bit a) ≡ true) × (f (bit a) ≡ refused y)

  select_refused : (l : List ℕ) → All IsBit l → in_turn f (select g l) ≡ refused y → SomeRefused
  unfolding select in_turn
  select_refused [] b e = never (cc)
  select_refused (x ∷ l) b e = go (g x) refl e (λ d. select_refused l b.1 d)
    where
      at : g x ≡ true → (f x ≡ refused y) ⊎ (Tells (f x) × (in_turn f (select g l) ≡ refused y)) → (in_turn f (select g l) ≡ refused y → SomeRefused) → SomeRefused
      at p (inl q) h = let (a, e) = b.0 in (a, rw e p, rw e q)
      at p (inr t) h = h t.1

      go : (c : Bool) → g x ≡ c → in_turn f (elim c as (λ y. List ℕ) [ true ↦ x ∷ select g l | false ↦ select g l ]) ≡ refused y → (in_turn f (select g l) ≡ refused y → SomeRefused) → SomeRefused
      go true p e h = at p (turn_refused f x (select g l) e) h
      go false p e h = h e

  pub those_refused : in_turn f (those g) ≡ refused y → SomeRefused
  unfolding those
  those_refused e = select_refused (1 ∷ 2 ∷ 4 ∷ 8 ∷ []) ((copy, refl), ((drop, refl), ((store, refl), ((key, refl), tt)))) e

  here : (x : ℕ) (l : List ℕ) → g x ≡ true → f x ≡ refused y → in_turn f (select g (x ∷ l)) ≡ refused y
  unfolding select
  here x l p q = rw (p, select) (turn_first f x (select g l) q)

  later : (x : ℕ) (l : List ℕ) → Only y (f x) → in_turn f (select g l) ≡ refused y → in_turn f (select g (x ∷ l)) ≡ refused y
  unfolding select
  later x l o e = go (g x) o
    where
      go : (c : Bool) → Only y (f x) → in_turn f (elim c as (λ y. List ℕ) [ true ↦ x ∷ select g l | false ↦ select g l ]) ≡ refused y
      go true (inl q) = turn_first f x (select g l) q
      go true (inr t) = turn_later f x (select g l) t e
      go false o = e

  pub refused_those : ((x : ℕ) → Only y (f x)) → SomeRefused → in_turn f (those g) ≡ refused y
  unfolding those
  refused_those o (copy, p, q) = here 1 _ p q
  refused_those o (drop, p, q) = later 1 _ (o 1) (here 2 _ p q)
  refused_those o (store, p, q) = later 1 _ (o 1) (later 2 _ (o 2) (here 4 _ p q))
  refused_those o (key, p, q) = later 1 _ (o 1) (later 2 _ (o 2) (later 4 _ (o 4) (here 8 _ p q)))

-- ---- 16 of a marked type alone

pub data Marked : TypeValue → Type 0 where
  marked : {set : ℕ} {n : TypeName} {tys : List ℕ} → Marked (Apply (Some set) n tys)

module _ (S : State) where
  value_marked : (a : Ability) (x : TypeValue) → has (infer_value (sets S) S x) (bit a) ≡ false → rule S (bit a) x ≡ contradicted → Marked x
  unfolding rule by_argument is_none
  value_marked a UnitType h r = never (cc)
  value_marked a (Ref m t) h r = never (cc)
  value_marked a (Var v) h r = never (cc)
  value_marked a UnresolvedError h r = never (cc)
  value_marked a Anything h r = never (cc)
  value_marked a (Param id set) h r = never (cc)
  value_marked a (Apply (Some set) n tys) h r = marked
  value_marked a (Apply None n tys) h r =
      never (go (has (declared_abilities S n) (bit a)) (lacking (sets S) S n tys (bit (needed a))) (sym (named_is S (sets S) n tys a) ∙ h) (lacking (sets S) S n tys (requires (bit a))) (rw (requires_bit a) refl) r)
    where
      go : (b : Bool) (o : Option ℕ) → b && is_none o ≡ false → (o' : Option ℕ) → o' ≡ o → ◌≡◌ {A = Rule} (elim b [ false ↦ declaration | true ↦ by_argument o' ]) contradicted → ◌≡◌ {A = ℕ} 0 1
      go true o h None e r = never (let z : is_none o ≡ true = rw (← e) refl in cc)
      go true o h (Some i) e r = never (cc)
      go false o h o' e r = never (cc)

  -- the failure for one ability
  abbrev pub lack : ℕ → ℕ → ℕ → Result Bytes
  lack loc t ability = by_rule S loc ability (unfold_type S (spanned S t)) (rule S ability (unfold_type S (spanned S t)).value)

  -- asked for, and not there
  abbrev pub lost : ℕ → ℕ → ℕ → Bool
  lost t wanted ability = has wanted ability && not (has (infer_abilities S t) ability)

  pub rule_refused : (loc ability : ℕ) (t : Spanned TypeValue) (r : Rule) {x : Refusal} → by_rule S loc ability t r ≡ refused x → (r ≡ contradicted) × (x ≡ mark_contradicted)
  unfolding by_rule
  rule_refused loc ability t declaration e = never (cc)
  rule_refused loc ability t (argument i) e = never (cc)
  rule_refused loc ability t contradicted {x} e = (refl, (let d : x ≡ mark_contradicted = cc in d))

  pub rule_only : (loc ability : ℕ) (t : Spanned TypeValue) (r : Rule) → Only mark_contradicted (by_rule S loc ability t r)
  unfolding by_rule
  rule_only loc ability t declaration = inr (_, refl)
  rule_only loc ability t (argument i) = inr (_, refl)
  rule_only loc ability t contradicted = inl refl

  pub sixteen_of : (loc t wanted : ℕ) → solve_ability_constraint S loc t wanted ≡ refused mark_contradicted
      → (reaches_itself S t ≡ false) × ((a : Ability) × (lost t wanted (bit a) ≡ true) × (rule S (bit a) (unfold_type S (spanned S t)).value ≡ contradicted))
  unfolding solve_ability_constraint missing
  sixteen_of loc t wanted e = go (reaches_itself S t) refl e
    where
      go : (b : Bool) → reaches_itself S t ≡ b → ◌≡◌ {A = Result Bytes} (elim b [ true ↦ refused runs_into_itself | false ↦ in_turn (lack loc t) (those (lost t wanted)) ]) (refused mark_contradicted)
          → (reaches_itself S t ≡ false) × ((a : Ability) × (lost t wanted (bit a) ≡ true) × (rule S (bit a) (unfold_type S (spanned S t)).value ≡ contradicted))
      go true d e = never (cc)
      go false d e = let (a, g, h) = those_refused (lack loc t) (lost t wanted) mark_contradicted e in (d, (a, g, (rule_refused loc (bit a) _ _ h).0))

  pub unmarked_never_16 : (loc t wanted : ℕ) → solve_ability_constraint S loc t wanted ≡ refused mark_contradicted → Marked (unfold_type S (spanned S t)).value
  unmarked_never_16 loc t wanted e =
      let (d, (a, g, r)) = sixteen_of loc t wanted e in
      value_marked a (unfold_type S (spanned S t)).value (ap (λ (set : ℕ). has set (bit a)) (sym (infer_is S t d)) ∙ unnot _ (and_r (has wanted (bit a)) (not (has (infer_abilities S t) (bit a))) g)) r

-- ---- sets

total : (f : ℕ → Bool) (l : List ℕ) → from_abilities (select f l) ≤ from_abilities l
unfolding from_abilities select
total f [] = omega arith
total f (x ∷ l) = go (f x) (total f l)
  where
    go : (b : Bool) → from_abilities (select f l) ≤ from_abilities l → from_abilities (elim b as (λ y. List ℕ) [ true ↦ x ∷ select f l | false ↦ select f l ]) ≤ x + from_abilities l
    go true h = omega (arith, h)
    go false h = omega (arith, h)

pub those_fit : (f : ℕ → Bool) → from_abilities (those f) ≤ 15
unfolding those from_abilities
those_fit f = total f (1 ∷ 2 ∷ 4 ∷ 8 ∷ [])

value_fits : (S : State) (f : ℕ → ℕ) (x : TypeValue) → ShapeIn S x → infer_value f S x ≤ 15
unfolding infer_value all references collection is_mark
value_fits S f UnitType h = omega arith
value_fits S f (Ref m t) h = omega arith
value_fits S f (Var v) h = omega arith
value_fits S f UnresolvedError h = omega arith
value_fits S f Anything h = omega arith
value_fits S f (Param id a) h = leb-true a 15 (and_r (is_u32 id) (is_set a) h)
value_fits S f (Apply (Some a) n tys) h = leb-true a 15 (and_l (is_set a) (is_name S n) (and_l (is_mark (Some a) && is_name S n) (mark_fits (Some a) n) h))
value_fits S f (Apply None n tys) h = those_fit (granted f S n tys)

pub sets_fit : (S : State) → sound S ≡ true → (n t : ℕ) → infer n S t ≤ 15
unfolding infer all
sets_fit S h zero t = omega arith
sets_fit S h (suc n) t = unfolded S (λ x. infer_value (λ p. infer n S p) S x ≤ 15) (value_fits S (λ p. infer n S p) Anything tt) (λ u. value_fits S (λ p. infer n S p) (type_at S u) (value_in (ranges_of S h) u)) t
