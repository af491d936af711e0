-- What a name's declaration and the sets of its arguments come to: which arguments count, the first that lacks, what is granted. Assumes nothing.
-- First which arguments count, then the first that lacks, by its place, then what is granted and the rule that says why not.
use mathlib.Core.Path.{◌≡◌, refl, sym, ap, ◌∙◌}
use mathlib.Core.Bool.{Bool, true, false, not, ◌&&◌, ◌||◌}
use mathlib.Core.List.{List, [], ◌∷◌}
use Rattle.std.specs.Prelude.{Option, None, Some}
use Prim.Native.Nat.{ℕ, zero, suc, ◌+◌, ◌≤◌, ◌<◌}
use native.Mathlib.Omega.{arith}
use native.Mathlib.Numerals.{add-one}
use lib.Dec.{eqb, ltb}
use lib.ListN.{length, get_or, drop, drop_of_length-le, get_or-eq_default}
use lib.Seq.{drop-cons}
use Rattle.std.specs.List.{list_any, find, range_with_len}
use Rattle.std.specs.Option.{MatchOption}
use Rattle.std.proofs.lemmas.List.{get_or_default}
use Rattle.definition.specs.Types as d
use Rattle.std.specs.Prelude.{if◌then◌else◌}
use Rattle.definition.specs.Types.{Struct}
use Rattle.definition.specs.Store.{args_at, with_structs, any_of}
use Rattle.definition.specs.Instantiate.{struct_tparams}
use Rattle.definition.specs.Abilities.{has, select, those, from_abilities, requires, declared_abilities, counts, first_lacking, is_none, lacking, granted, infer_abilities, declaration, by_argument, rule}
use Rattle.names.specs.Names.{name_of}
use Rattle.table.specs.Rows.{struct_table}
use Rattle.table.specs.State.{seen, FoundIn}
use Rattle.table.specs.Did.{held}
use Rattle.table.specs.declared.state.State.{State}
use Rattle.table.specs.State.{args_of}
use Rattle.table.specs.declared.Applied.{Applied}
use Rattle.abilities.specs.Kept.{Knows, ArgsReady}
use Rattle.abilities.specs.Rules.{lacks_at, is_contradicted}

-- ---- which arguments count

module _ (s : State) (params : List (List ℕ)) (ds : List Struct) (k : Knows s params ds) (n i : ℕ) where
  -- past the parameters nothing counts
  pub counts_past : length (get_or ds n struct_table.blank).params ≤ i → false ≡ counts (held s ds) (d.ModuleType n) i
  unfolding counts struct_tparams seen with_structs
  counts_past h = sym (ap (λ (x : ℕ). ltb x 16) (get_or-eq_default (get_or ds n struct_table.blank).params 16 h))

  pub counts_byte : i < length (get_or ds n struct_table.blank).params → ltb (get_or (get_or params n []) i 0) 16 ≡ counts (held s ds) (d.ModuleType n) i
  unfolding counts struct_tparams seen with_structs
  counts_byte h = ap (λ (x : ℕ). ltb x 16) (k.bytes n i h ∙ get_or_default (get_or ds n struct_table.blank).params i 0 16 h)

-- ---- the first that lacks

first_hit : (c f : ℕ → Bool) (i t : ℕ) (ts : List ℕ) → (c i && f t) ≡ true → first_lacking c f i (t ∷ ts) ≡ Some i
unfolding first_lacking
first_hit c f i t ts e = rw (e, first_lacking) refl

first_miss : (c f : ℕ → Bool) (i t : ℕ) (ts : List ℕ) → (c i && f t) ≡ false → first_lacking c f i (t ∷ ts) ≡ first_lacking c f (suc i) ts
unfolding first_lacking
first_miss c f i t ts e = rw (e, first_lacking) refl

first_none : (c f : ℕ → Bool) (i : ℕ) → None ≡ first_lacking c f i []
unfolding first_lacking
first_none c f i = refl

-- the first argument that lacks, by the places from i on
found_from : (c f : ℕ → Bool) (ts : List ℕ) (n i : ℕ) → i + n ≡ length ts → find (λ k. c k && f (get_or ts k 0)) (range_with_len i n) ≡ first_lacking c f i (drop i ts)
found_from c f ts zero i e = first_none c f i ∙ ap (first_lacking c f i) (sym (drop_of_length-le ts {i = i} (omega arith)))
found_from c f ts (suc n) i e = by (c i && f (get_or ts i 0)) refl (found_from c f ts n (i + 1) (omega arith))
  where
    here : drop i ts ≡ get_or ts i 0 ∷ drop (suc i) ts
    here = drop-cons ts i 0 (omega arith)

    by : (b : Bool) → (c i && f (get_or ts i 0)) ≡ b → find (λ k. c k && f (get_or ts k 0)) (range_with_len (i + 1) n) ≡ first_lacking c f (i + 1) (drop (i + 1) ts)
        → find (λ k. c k && f (get_or ts k 0)) (range_with_len i (suc n)) ≡ first_lacking c f i (drop i ts)
    by true z rest = rw z (sym (ap (first_lacking c f i) here ∙ first_hit c f i (get_or ts i 0) (drop (suc i) ts) z))
    by false z rest = rw z (rest ∙ ap (λ (k : ℕ). first_lacking c f k (drop k ts)) (add-one i) ∙ sym (ap (first_lacking c f i) here ∙ first_miss c f i (get_or ts i 0) (drop (suc i) ts) z))

pub first_found : (s : State) (params : List (List ℕ)) (sets : List ℕ) (a : Applied) (needed : ℕ) → ArgsReady s params sets a → (ds : List Struct)
    → find (lacks_at (held s ds) a needed) (range_with_len 0 a.many) ≡ lacking (λ t. infer_abilities (held s ds) t) (held s ds) (name_of a.n) (args_at (held s ds) (args_of a)) needed
unfolding lacking
first_found s params sets a needed r ds = found_from (counts (held s ds) (name_of a.n)) (λ ty. not (has (infer_abilities (held s ds) ty) needed)) (args_at (held s ds) (args_of a)) a.many 0 (omega (arith, r.many_is ds))

-- a place of the first n
pub place_in : (n : ℕ) (r : Option ℕ) → MatchOption r ((k : ℕ) → 0 ≤ k → k < n → Unit {0}) (λ i. (0 ≤ i) × (i < n) × Unit {0} × ((k : ℕ) → 0 ≤ k → k < i → Unit {0})) → n ≤ 8 → FoundIn 8 r
place_in n None m l = tt
place_in n (Some i) m l = omega (arith, m.1)

-- ---- what is granted, and the rule

pub is_false : (b : Bool) → not b ≡ true → b ≡ false
is_false true z = let n : false ≡ true = z in cc
is_false false z = refl

is_true : (b : Bool) → not b ≡ false → b ≡ true
is_true true z = refl
is_true false z = let n : true ≡ false = z in cc

pub requires_some : (ability : ℕ) → 0 < ability → 0 < requires ability
unfolding requires
requires_some ability p = by (eqb ability 8)
  where
    by : (b : Bool) → 0 < (if b then 4 else ability)
    by true = omega arith
    by false = p

-- the declared set, and whether it has the ability
module _ (s : d.State) (n : d.TypeName) (ability set : ℕ) (e : set ≡ declared_abilities s n) (b : Bool) (f : b ≡ has set ability) where
  lacks_it : not b ≡ true → has (declared_abilities s n) ability ≡ false
  lacks_it z = ap (λ (x : ℕ). has x ability) (sym e) ∙ sym f ∙ is_false b z

  has_it : not b ≡ false → has (declared_abilities s n) ability ≡ true
  has_it z = ap (λ (x : ℕ). has x ability) (sym e) ∙ sym f ∙ is_true b z

  pub rule_not : (k : d.AbilityMark) (tys : List ℕ) → not b ≡ true → declaration ≡ rule s ability (d.Apply k n tys)
  unfolding rule
  rule_not k tys z = rw (lacks_it z, rule) refl

  pub rule_by : (k : d.AbilityMark) (tys : List ℕ) → not b ≡ false → (o : Option ℕ) (needed : ℕ) → needed ≡ requires ability → o ≡ lacking (λ t. infer_abilities s t) s n tys needed → by_argument o ≡ rule s ability (d.Apply k n tys)
  unfolding rule
  rule_by k tys z o needed r g = rw (has_it z, rule) (ap by_argument (g ∙ ap (lacking (λ t. infer_abilities s t) s n tys) r))

-- what neither the declaration nor an argument takes away is granted
pub granted_is : (s : d.State) (k : d.AbilityMark) (n : d.TypeName) (tys : List ℕ) (ability : ℕ) → is_contradicted (rule s ability (d.Apply k n tys)) ≡ granted (λ t. infer_abilities s t) s n tys ability
unfolding is_contradicted rule by_argument granted is_none
granted_is s k n tys ability = by (has (declared_abilities s n) ability) (lacking (λ t. infer_abilities s t) s n tys (requires ability))
  where
    by : (b : Bool) (o : Option ℕ) → is_contradicted (elim b [ false ↦ declaration | true ↦ by_argument o ]) ≡ (b && is_none o)
    by false o = refl
    by true None = refl
    by true (Some i) = refl

-- ---- the sum of what passes a test

one_more : (test : ℕ → Bool) (x : ℕ) (l : List ℕ) → from_abilities (select test (x ∷ l)) ≡ (if test x then x else 0) + from_abilities (select test l)
unfolding from_abilities select
one_more test x l = by (test x)
  where
    by : (b : Bool) → from_abilities (elim b [ true ↦ x ∷ select test l | false ↦ select test l ]) ≡ (if b then x else 0) + from_abilities (select test l)
    by true = refl
    by false = omega arith

none_left : (test : ℕ → Bool) → from_abilities (select test []) ≡ 0
unfolding from_abilities select
none_left test = refl

pub sum_of : (test : ℕ → Bool) (a b c e : ℕ) → a ≡ (if test 1 then 1 else 0) → b ≡ (if test 2 then 2 else 0) → c ≡ (if test 4 then 4 else 0) → e ≡ (if test 8 then 8 else 0) → a + b + c + e ≡ from_abilities (those test)
unfolding those
sum_of test a b c e p q r s =
    let z = none_left test in
    let x = one_more test 8 [] in
    let y = one_more test 4 (8 ∷ []) in
    let v = one_more test 2 (4 ∷ 8 ∷ []) in
    let w = one_more test 1 (2 ∷ 4 ∷ 8 ∷ []) in
    omega arith

-- ---- whether one that passes a test passes another

one_of : (g : ℕ → Bool) (x : ℕ) (r : List ℕ) (b c : Bool) → g x ≡ c → any_of g (elim b [ true ↦ x ∷ r | false ↦ r ]) ≡ ((b && c) || any_of g r)
unfolding any_of
one_of g x r true true e = rw (e, any_of) refl
one_of g x r true false e = rw (e, any_of) refl
one_of g x r false c e = refl

any_select : (g test : ℕ → Bool) (x : ℕ) (l : List ℕ) → any_of g (select test (x ∷ l)) ≡ ((test x && g x) || any_of g (select test l))
unfolding select
any_select g test x l = one_of g x (select test l) (test x) (g x) refl

any_nothing : (g test : ℕ → Bool) → any_of g (select test []) ≡ false
unfolding select any_of
any_nothing g test = refl

or_false : (b : Bool) → (b || false) ≡ b
or_false true = refl
or_false false = refl

pub any_those : (g test : ℕ → Bool) → ((test 1 && g 1) || ((test 2 && g 2) || ((test 4 && g 4) || (test 8 && g 8)))) ≡ any_of g (those test)
unfolding those
any_those g test =
    sym
    (any_select g test 1 (2 ∷ 4 ∷ 8 ∷ [])
    ∙ ap (λ (b : Bool). (test 1 && g 1) || b)
    (any_select g test 2 (4 ∷ 8 ∷ [])
    ∙ ap (λ (b : Bool). (test 2 && g 2) || b)
    (any_select g test 4 (8 ∷ [])
    ∙ ap (λ (b : Bool). (test 4 && g 4) || b)
    (any_select g test 8 [] ∙ ap (λ (b : Bool). (test 8 && g 8) || b) (any_nothing g test) ∙ or_false (test 8 && g 8)))))

-- none passes the first, so none passes both
pub none_of : (g test : ℕ → Bool) → (test 1 || (test 2 || (test 4 || test 8))) ≡ false → false ≡ any_of g (those test)
none_of g test e = by (test 1) (test 2) (test 4) (test 8) e ∙ any_those g test
  where
    by : (a b c f : Bool) → (a || (b || (c || f))) ≡ false → false ≡ ((a && g 1) || ((b && g 2) || ((c && g 4) || (f && g 8))))
    by true b c f z = let n : true ≡ false = z in cc
    by false true c f z = let n : true ≡ false = z in cc
    by false false true f z = let n : true ≡ false = z in cc
    by false false false true z = let n : true ≡ false = z in cc
    by false false false false z = refl

-- ---- a test of the four abilities in turn

abbrev pub four : List ℕ
four = 1 ∷ 2 ∷ 4 ∷ 8 ∷ []

pub any_four : (test : ℕ → Bool) → list_any test four ≡ (test 1 || (test 2 || (test 4 || test 8)))
any_four test = ap (λ (b : Bool). test 1 || (test 2 || (test 4 || b))) (or_false (test 8))
