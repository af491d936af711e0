-- R-5: every answer 0 of XP is the final type that 02 has, and its codes; there is one at most. Assumes nothing.
use mathlib.Core.Path.{◌≡◌, refl, sym, ap, ◌∙◌, subst}
use mathlib.Core.Logic.{◌↔◌}
use mathlib.Core.Bool.{Bool, true, false}
use mathlib.Core.List.{List, [], ◌∷◌, ◌++◌, append_assoc, append-nil, Memᴰ}
use Rattle.std.specs.Prelude.{Option, None, Some}
use Prim.Native.Nat.{ℕ, zero, suc, ◌+◌, ◌*◌, ◌/◌, ◌%◌, ◌≤◌, ◌<◌}
use native.Mathlib.Omega.{arith}
use lib.Dec.{eqb}
use borrow.Author.Tests.{eqb-true, eqb-false}
use Rattle.definition.specs.Types.{TypeName, Multiple, Builtin, ModuleType, TypeValue, UnitType, Ref, Param, Apply, Var, Anything, UnresolvedError, State, Refusal, runs_into_itself, Result, ok, refused, ◌>>=◌}
use Rattle.definition.specs.Store.{count, type_at, loc_of, get, spanned}
use Rattle.definition.specs.Subst.{as_var, parts, next_in, next_of, forward_tvar, unfold_type, reaches_itself}
use Rattle.definition.specs.Rank.{Meets, meets_bound, meets_part, RunsIntoItself}
use Rattle.definition.specs.Write.{Bytes, u32, apply_head, head}
use Rattle.definition.specs.Abilities.{has, select, those, from_abilities, granted, infer_value, infer, infer_abilities}
use Rattle.definition.specs.Expand.{Expanded, uninferred, expand_types, under, expand_marked, expand_value, expand, expand_type}
use Rattle.definition.specs.Trees.{Tree, unit_tree, anything_tree, error_tree, param_tree, Trees}
use Rattle.definition.specs.Book.{Ability, copy, drop, store, key, InSet, Has}
use Rattle.definition.specs.Final.{Content, no_content, content, content_on, SetOf, Finally, final_unit, final_any, final_error, final_param, final_ref, final_bound, final_open, final_name, final_builtin, AllFinally, final_none, final_each, spelled, spelled_all, codes_of, FinalOnce}
use Rattle.theorems.proofs.DemandTracks.{never, Ends, here, hop}
use Rattle.theorems.proofs.DemandOrder.{All, All_map, Sound, next_bound, chain}
use Rattle.theorems.proofs.TotalReading.{reaches_is_runs}
use Rattle.theorems.proofs.DemandRuns.{Declared}
use Rattle.theorems.proofs.BookAbilities.{not_itself, abilities_agree}

-- ---- a variable's content

next_is : (S : State) (v t : ℕ) → get S v ≡ Some t → next_of S v ≡ as_var (type_at S t)
unfolding next_of next_in
next_is S v t g = rw g refl

pub content_of : (S : State) {v e : ℕ} → Ends S v e → Content S v (get S e)
content_of S {v} (here n) = go (get S v) refl
  where
    go : (o : Option ℕ) → get S v ≡ o → Content S v o
    go None g = no_content g
    go (Some t) g = content g (sym (next_is S v t g) ∙ n)
content_of S (hop {v = v} {w = w} n d) = let b = next_bound S v w n in content_on b.1 b.2 (content_of S d)

var_not : (x : TypeValue) {w : ℕ} → x ≡ Var w → as_var x ≡ None → ⊥
unfolding as_var
var_not x {w} e n = never (let z : as_var (Var w) ≡ None = subst (λ (y : TypeValue). as_var y ≡ None) e n in cc)

content_once : (S : State) {v : ℕ} {c c' : Option ℕ} → Content S v c → Content S v c' → c ≡ c'
content_once S (no_content g) (no_content g') = refl
content_once S (no_content g) (content g' n) = never (cc)
content_once S (no_content g) (content_on g' e d) = never (cc)
content_once S (content g n) (no_content g') = never (cc)
content_once S (content g n) (content g' n') = sym g ∙ g'
content_once S (content {p = p} g n) (content_on {p = p'} g' e d) = let q : p ≡ p' = cc in absurd (var_not (type_at S p') e (subst (λ (y : ℕ). as_var (type_at S y) ≡ None) q n))
content_once S (content_on g e d) (no_content g') = never (cc)
content_once S (content_on {p = p} g e d) (content {p = p'} g' n) = let q : p' ≡ p = cc in absurd (var_not (type_at S p) e (subst (λ (y : ℕ). as_var (type_at S y) ≡ None) q n))
content_once S {c' = c'} (content_on {w = w} {p = p} g e d) (content_on {w = w'} {p = p'} g' e' d') =
    let q : p' ≡ p = cc in
    let f : Var w' ≡ Var w = sym e' ∙ ap (λ (y : ℕ). type_at S y) q ∙ e in
    let k : w' ≡ w = cc in
    content_once S d (subst (λ (u : ℕ). Content S u c') k d')

-- ---- sets

bit_same : (x y : ℕ) → ((eqb (x % 2) 1 ≡ true) ↔ (eqb (y % 2) 1 ≡ true)) → x % 2 ≡ y % 2
bit_same x y h = go (eqb (x % 2) 1) (eqb (y % 2) 1) refl refl
  where
    go : (a b : Bool) → eqb (x % 2) 1 ≡ a → eqb (y % 2) 1 ≡ b → x % 2 ≡ y % 2
    go true true e f = eqb-true (x % 2) 1 e ∙ sym (eqb-true (y % 2) 1 f)
    go true false e f = never (let z = h.0 e in cc)
    go false true e f = never (let z = h.1 f in cc)
    go false false e f = let i = eqb-false (x % 2) 1 e in let j = eqb-false (y % 2) 1 f in zeros i j
      where
        zeros : (x % 2 ≡ 1 → ⊥) → (y % 2 ≡ 1 → ⊥) → x % 2 ≡ y % 2
        zeros i j = zero_of x i ∙ sym (zero_of y j)
          where
            zero_of : (u : ℕ) → (u % 2 ≡ 1 → ⊥) → u % 2 ≡ 0
            zero_of u i = by (u % 2) refl (omega arith)
              where
                by : (m : ℕ) → u % 2 ≡ m → m < 2 → u % 2 ≡ 0
                by zero e l = e
                by (suc zero) e l = absurd (i e)
                by (suc (suc m)) e l = absurd (omega (arith, l))

bits : (m : ℕ) → m ≤ 15 → m / 1 % 2 + 2 * (m / 2 % 2) + 4 * (m / 4 % 2) + 8 * (m / 8 % 2) ≡ m
bits zero h = refl
bits (suc zero) h = refl
bits (suc (suc zero)) h = refl
bits (suc (suc (suc zero))) h = refl
bits (suc (suc (suc (suc zero)))) h = refl
bits (suc (suc (suc (suc (suc zero))))) h = refl
bits (suc (suc (suc (suc (suc (suc zero)))))) h = refl
bits (suc (suc (suc (suc (suc (suc (suc zero))))))) h = refl
bits (suc (suc (suc (suc (suc (suc (suc (suc zero)))))))) h = refl
bits (suc (suc (suc (suc (suc (suc (suc (suc (suc zero))))))))) h = refl
bits (suc (suc (suc (suc (suc (suc (suc (suc (suc (suc zero)))))))))) h = refl
bits (suc (suc (suc (suc (suc (suc (suc (suc (suc (suc (suc zero))))))))))) h = refl
bits (suc (suc (suc (suc (suc (suc (suc (suc (suc (suc (suc (suc zero)))))))))))) h = refl
bits (suc (suc (suc (suc (suc (suc (suc (suc (suc (suc (suc (suc (suc zero))))))))))))) h = refl
bits (suc (suc (suc (suc (suc (suc (suc (suc (suc (suc (suc (suc (suc (suc zero)))))))))))))) h = refl
bits (suc (suc (suc (suc (suc (suc (suc (suc (suc (suc (suc (suc (suc (suc (suc zero))))))))))))))) h = refl
bits (suc (suc (suc (suc (suc (suc (suc (suc (suc (suc (suc (suc (suc (suc (suc (suc m)))))))))))))))) h = absurd (omega (arith, h))

sets_same : (m n : ℕ) → m ≤ 15 → n ≤ 15 → ((a : Ability) → InSet a m ↔ InSet a n) → m ≡ n
unfolding has
sets_same m n h i f = sym (bits m h) ∙ rw (bit_same (m / 1) (n / 1) (f copy), bit_same (m / 2) (n / 2) (f drop), bit_same (m / 4) (n / 4) (f store), bit_same (m / 8) (n / 8) (f key)) refl ∙ bits n i

set_once : {S : State} {x : TypeValue} {m n : ℕ} → SetOf S x m → SetOf S x n → m ≡ n
set_once {m = m} {n = n} p q = sets_same m n p.is_a_set q.is_a_set (λ a. (λ e. (q.exactly a).1 ((p.exactly a).0 e), λ e. (p.exactly a).1 ((q.exactly a).0 e)))

select_few : (f : ℕ → Bool) (l : List ℕ) → from_abilities (select f l) ≤ from_abilities l
unfolding select from_abilities
select_few f [] = omega arith
select_few f (a ∷ l) = go (f a) (select_few f l)
  where
    go : (b : Bool) → from_abilities (select f l) ≤ from_abilities l → from_abilities (elim b [ true ↦ a ∷ select f l | false ↦ select f l ]) ≤ a + from_abilities l
    go true h = omega (arith, h)
    go false h = omega (arith, h)

those_few : (f : ℕ → Bool) → from_abilities (those f) ≤ 15
unfolding those from_abilities
those_few f = select_few f (1 ∷ 2 ∷ 4 ∷ 8 ∷ [])

infer_few : (S : State) (k t : ℕ) {n : TypeName} {tys : List ℕ} → type_at S t ≡ Apply None n tys → infer (suc k) S t ≤ 15
unfolding infer unfold_type spanned as_var infer_value
infer_few S k t {n} {tys} e = rw e (those_few (granted (λ p. infer k S p) S n tys))

inferred_few : (S : State) (t : ℕ) → t < count S → {n : TypeName} {tys : List ℕ} → type_at S t ≡ Apply None n tys → infer_abilities S t ≤ 15
unfolding infer_abilities
inferred_few S t h e = go (count S) h
  where
    go : (k : ℕ) → t < k → infer k S t ≤ 15
    go zero l = absurd (omega (arith, l))
    go (suc k) l = infer_few S k t e

-- ---- one at most

mutual
  pub final_once : {S : State} {t : ℕ} {x : TypeValue} {T T' : Tree} {ls ls' : List ℕ} → Finally S t x T ls → Finally S t x T' ls' → (T ≡ T') × (ls ≡ ls')
  final_once (final_unit e) (final_unit f) = (ap unit_tree (sym e ∙ f), refl)
  final_once (final_any e) (final_any f) = (ap anything_tree (sym e ∙ f), refl)
  final_once (final_error e) (final_error f) = (ap error_tree (sym e ∙ f), refl)
  final_once (final_param {id = id} {a = a} e) (final_param f) = (ap (λ (l : ℕ). param_tree l id a) (sym e ∙ f), refl)
  final_once (final_ref {l = l} {m = m} {T = T} e d) (final_ref {l = k} f d') = let c = final_once d d' in let q : l ≡ k = sym e ∙ f in (rw (q, c.0) refl, c.1)
  final_once {S = S} {T' = T'} {ls' = ls'} (final_bound {p = p} c d) (final_bound {p = p'} c' d') =
      let e = content_once S c c' in
      let q : p' ≡ p = cc in
      final_once d (subst (λ (y : ℕ). Finally S y (type_at S y) T' ls') q d')
  final_once {S = S} (final_bound c d) (final_open f c') = never (let e = content_once S c c' in cc)
  final_once {S = S} (final_open f c) (final_bound c' d) = never (let e = content_once S c c' in cc)
  final_once (final_open {l = l} e c) (final_open {l = k} f c') = let q : l ≡ k = sym e ∙ f in (ap error_tree q, ap (λ (y : ℕ). y ∷ []) q)
  final_once (final_name {l = l} {set = set} e p d) (final_name {l = k} {set = set'} f p' d') = let c = all_once d d' in let q : set ≡ set' = set_once p p' in let o : l ≡ k = sym e ∙ f in (rw (o, q, c.0) refl, c.1)
  final_once (final_builtin {l = l} e d) (final_builtin {l = k} f d') = let c = all_once d d' in let o : l ≡ k = sym e ∙ f in (rw (o, c.0) refl, c.1)

  all_once : {S : State} {ps : List ℕ} {Ts Ts' : Trees} {ls ls' : List ℕ} → AllFinally S ps Ts ls → AllFinally S ps Ts' ls' → (Ts ≡ Ts') × (ls ≡ ls')
  all_once final_none final_none = (refl, refl)
  all_once (final_each {ls = ls} {ms = ms} d ds q) (final_each {ls = ls'} {ms = ms'} d' ds' q') =
      let e = final_once d d' in
      let f = all_once ds ds' in
      let o : ls ++ ms ≡ ls' ++ ms' = rw (e.1, f.1) refl in
      (rw (e.0, f.0) refl, sym q ∙ o ∙ q')

pub one_final : (s : State) → FinalOnce s
unfolding FinalOnce
one_final s t x T T' ls ls' d d' = final_once d d'

-- ---- what the walk gives

pub data Expands (S : State) (t : ℕ) (x : TypeValue) : Result Expanded → Type 0 where
  expands : {T : Tree} {ls : List ℕ} {e : Expanded} → Finally S t x T ls → e.type ≡ spelled T → e.codes ≡ codes_of ls → Expands S t x (ok e)
  expands_not : {r : Refusal} → Expands S t x (refused r)

data AllExpands (S : State) (ps : List ℕ) : Result Expanded → Type 0 where
  all_expands : {Ts : Trees} {ls : List ℕ} {e : Expanded} → AllFinally S ps Ts ls → e.type ≡ spelled_all Ts → e.codes ≡ codes_of ls → AllExpands S ps (ok e)
  all_not : {r : Refusal} → AllExpands S ps (refused r)

codes_append : (ls ms : List ℕ) → codes_of (ls ++ ms) ≡ codes_of ls ++ codes_of ms
unfolding codes_of
codes_append [] ms = refl
codes_append (l ∷ ls) ms = ap (λ (y : Bytes). 5 ∷ u32 l ++ y) (codes_append ls ms) ∙ ap (λ (y : Bytes). 5 ∷ y) (sym (append_assoc (u32 l) (codes_of ls) (codes_of ms)))

first_of : {S : State} {p : ℕ} {ps : List ℕ} {m n : Result Expanded} → Expands S p (type_at S p) m → AllExpands S ps n
    → AllExpands S (p ∷ ps) (m >>= (λ (a : Expanded). n >>= (λ (b : Expanded). ok (record { type = a.type ++ b.type; codes = a.codes ++ b.codes }))))
unfolding ◌>>=◌ spelled
first_of (expands {ls = ls} {e = a} d e f) (all_expands {ls = ms} {e = b} ds g h) = all_expands {e = record { type = a.type ++ b.type; codes = a.codes ++ b.codes }} (final_each d ds refl) (rw (e, g) refl) (rw (f, h) (sym (codes_append ls ms)))
first_of (expands d e f) all_not = all_not
first_of expands_not q = all_not

module _ {ar : TypeName → ℕ} {S : State} (s : Sound ar S) where
  abbrev Clear : ℕ → Type 0
  Clear p = (p < count S) × ¬ RunsIntoItself S (type_at S p)

  abbrev Good : (ℕ → Result Expanded) → Type 0
  Good f = (p : ℕ) → Clear p → Expands S p (type_at S p) (f p)

  types_good : (f : ℕ → Result Expanded) → Good f → (ps : List ℕ) → All Clear ps → AllExpands S ps (expand_types f ps)
  unfolding expand_types spelled codes_of
  types_good f g [] h = all_expands {e = record { type = []; codes = [] }} final_none refl refl
  types_good f g (p ∷ ps) h = first_of (g p h.0) (types_good f g ps h.1)

  under_ref : {t p : ℕ} {m : Bool} {x : Result Expanded} → Expands S p (type_at S p) x → Expands S t (Ref m p) (under (head (loc_of S t) (Ref m p)) x)
  unfolding under ◌>>=◌ spelled head
  under_ref {t} {p} {m} (expands {e = a} d f g) = expands {e = record { type = head (loc_of S t) (Ref m p) ++ a.type; codes = a.codes }} (final_ref refl d) (ap (λ (y : Bytes). head (loc_of S t) (Ref m p) ++ y) f) g
  under_ref expands_not = expands_not

  under_name : {t set : ℕ} {n : TypeName} {ps : List ℕ} {x : Result Expanded} → SetOf S (Apply None n ps) set → AllExpands S ps x → Expands S t (Apply None n ps) (under (head (loc_of S t) (Apply (Some set) n ps)) x)
  unfolding under ◌>>=◌ spelled head
  under_name {t} {set} {n} {ps} q (all_expands {e = a} d f g) = expands {e = record { type = head (loc_of S t) (Apply (Some set) n ps) ++ a.type; codes = a.codes }} (final_name refl q d) (ap (λ (y : Bytes). apply_head (loc_of S t) (Some set) n ++ y) f) g
  under_name q all_not = expands_not

  under_builtin : {t set b : ℕ} {ps : List ℕ} {x : Result Expanded} → AllExpands S ps x → Expands S t (Apply (Some set) (Builtin b) ps) (under (head (loc_of S t) (Apply (Some set) (Builtin b) ps)) x)
  unfolding under ◌>>=◌ spelled head
  under_builtin {t} {set} {b} {ps} (all_expands {e = a} d f g) = expands {e = record { type = head (loc_of S t) (Apply (Some set) (Builtin b) ps) ++ a.type; codes = a.codes }} (final_builtin refl d) (ap (λ (y : Bytes). apply_head (loc_of S t) (Some set) (Builtin b) ++ y) f) g
  under_builtin all_not = expands_not

  content_meets : {u v T : ℕ} → Content S v (Some T) → Meets S u (type_at S T) → Meets S u (Var v)
  content_meets (content g n) m = meets_bound g m
  content_meets {u} (content_on g e d) m = meets_bound g (subst (λ (y : TypeValue). Meets S u y) (sym e) (content_meets d m))

  bound_good : {t v p : ℕ} {x : Result Expanded} → Content S v (Some p) → Expands S p (type_at S p) x → Expands S t (Var v) x
  bound_good c (expands d f g) = expands (final_bound c d) f g
  bound_good c expands_not = expands_not

  module _ (f : ℕ → Result Expanded) (g : Good f) (t : ℕ) (h : t < count S) where
    var_good : (v : ℕ) → ¬ RunsIntoItself S (Var v) → (o : Option ℕ) → Content S v o → ((T : ℕ) → o ≡ Some T → T < count S)
        → Expands S t (Var v) (elim o [ None ↦ ok (record { type = head (loc_of S t) UnresolvedError; codes = uninferred (loc_of S t) }) | Some T ↦ f T ])
    unfolding spelled codes_of uninferred
    var_good v n None c i = expands {e = record { type = head (loc_of S t) UnresolvedError; codes = uninferred (loc_of S t) }} (final_open refl c) refl (ap (λ (y : Bytes). 5 ∷ y) (sym (append-nil (u32 (loc_of S t)))))
    var_good v n (Some T) c i = bound_good c (g T (i T refl, λ l. n (record { variable = l.variable; meets = content_meets c l.meets; itself = l.itself })))

    parts_clear : (x : TypeValue) → ¬ RunsIntoItself S x → (ps : List ℕ) → ((p : ℕ) → Memᴰ p ps → Memᴰ p (parts x)) → All (λ p. p < count S) ps → All Clear ps
    parts_clear x n [] k i = tt
    parts_clear x n (p ∷ ps) k i = ((i.0, λ l. n (record { variable = l.variable; meets = meets_part (k p (Memᴰ.head refl)) l.meets; itself = l.itself })), parts_clear x n ps (λ q m. k q (Memᴰ.tail m)) i.1)

    inside : (x : TypeValue) → type_at S t ≡ x → All (λ p. p < count S) (parts x)
    inside x e = subst (λ (y : TypeValue). All (λ p. p < count S) (parts y)) e (All_map {P = λ p. p < t} (λ p l. omega (arith, h, l)) (parts (type_at S t)) (s.parts_below t h))

    set_is : Declared ar S → (n : TypeName) (ps : List ℕ) → type_at S t ≡ Apply None n ps → ¬ RunsIntoItself S (type_at S t) → SetOf S (Apply None n ps) (infer_abilities S t)
    set_is k n ps e r = record { is_a_set = inferred_few S t h e; exactly = λ a. let p = abilities_agree s k t h (not_itself s t h r) a in (λ q. subst (λ (y : TypeValue). Has S a y) e (p.0 q), λ q. p.1 (subst (λ (y : TypeValue). Has S a y) (sym e) q)) }

    level : Declared ar S → (x : TypeValue) → type_at S t ≡ x → ¬ RunsIntoItself S x → Expands S t x (expand_value f S t (loc_of S t) x)
    unfolding expand_value expand_marked parts spelled codes_of
    level k UnitType e n = expands {e = record { type = head (loc_of S t) UnitType; codes = [] }} (final_unit refl) refl refl
    level k UnresolvedError e n = expands {e = record { type = head (loc_of S t) UnresolvedError; codes = [] }} (final_error refl) refl refl
    level k Anything e n = expands {e = record { type = head (loc_of S t) Anything; codes = [] }} (final_any refl) refl refl
    level k (Param id a) e n = expands {e = record { type = head (loc_of S t) (Param id a); codes = [] }} (final_param refl) refl refl
    level k (Ref m p) e n = under_ref (g p (parts_clear (Ref m p) n (p ∷ []) (λ q i. i) (inside (Ref m p) e)).0)
    level k (Var v) e n = let c = chain s v (s.var_in t v h e) in var_good v n (get S (forward_tvar S v)) (content_of S c) (λ T o. s.bind_in (forward_tvar S v) T o)
    level k (Apply (Some set) (Builtin b) ps) e n = under_builtin (types_good f g ps (parts_clear (Apply (Some set) (Builtin b) ps) n ps (λ q i. i) (inside (Apply (Some set) (Builtin b) ps) e)))
    level k (Apply (Some set) (Multiple b) ps) e n = expands_not
    level k (Apply (Some set) (ModuleType b) ps) e n = expands_not
    level k (Apply None name ps) e n = under_name (set_is k name ps e (subst (λ (y : TypeValue). ¬ RunsIntoItself S y) (sym e) n)) (types_good f g ps (parts_clear (Apply None name ps) n ps (λ q i. i) (inside (Apply None name ps) e)))

  pub expand_good : Declared ar S → (n : ℕ) → Good (λ t. expand n S t)
  unfolding expand
  expand_good k zero t h = expands_not
  expand_good k (suc n) t h = level (λ p. expand n S p) (expand_good k n) t h.0 k (type_at S t) refl h.1

  pub type_good : Declared ar S → (t : ℕ) → t < count S → Expands S t (type_at S t) (expand_type S t)
  unfolding expand_type
  type_good k t h = go (reaches_itself S t) refl
    where
      go : (b : Bool) → reaches_itself S t ≡ b → Expands S t (type_at S t) (elim b [ true ↦ refused runs_into_itself | false ↦ expand (2 * count S) S t ])
      go true e = expands_not
      go false e = expand_good k (2 * count S) t (h, λ l. never (let z = (reaches_is_runs s t h).1 l in cc))
