-- infer_abilities gives just the abilities that the Move Book gives a type. A set put together of abilities has those that it is put together of; one level agrees
-- with the Book where the parts do (`found`, `had`); a variable has what its chain's end has (`down`, `up`); so all levels agree by induction on their number.
-- Assumes nothing.
use mathlib.Core.Path.{◌≡◌, refl, sym, ap, ◌∙◌, subst}
use mathlib.Core.Logic.{◌↔◌}
use mathlib.Core.Bool.{Bool, true, false, not, ◌&&◌}
use mathlib.Core.List.{List, [], ◌∷◌}
use Rattle.std.specs.Prelude.{Option, None, Some}
use Prim.Native.Nat.{ℕ, zero, suc, ◌+◌, ◌<◌}
use native.Mathlib.Omega.{arith}
use lib.ListN.{length, get_or}
use Rattle.std.proofs.lemmas.List.{get_or_default}
use lib.Dec.{ltb, eqb}
use borrow.Author.Tests.{eqb-true, eqb-false, ne_eqb, ltb-true, ltb-false}
use Rattle.std.specs.Prelude.{if◌then◌else◌}
use Rattle.definition.specs.Types.{AbilityMark, TypeName, Multiple, Builtin, ModuleType, UnitType, Ref, Param, Apply, Var, Anything, UnresolvedError, TypeValue, State}
use Rattle.definition.specs.Store.{count, type_at, loc_of, spanned, get, all_of}
use Rattle.definition.specs.Subst.{as_var, parts, forward_tvar, next_in, next_of, unfold_var, unfold_type, goes_on_to, ends_in, reaches_itself}
use Rattle.definition.specs.Instantiate.{struct_tparams}
use Rattle.definition.specs.Trees.{arity}
use Rattle.definition.specs.Sound.{sound}
use Rattle.definition.specs.Rank.{RunsIntoItself}
use Rattle.definition.specs.Abilities.{all, primitives, references, signer, collection, has, select, those, from_abilities, requires, builtin_abilities, declared_abilities, counts, first_lacking, is_none, lacking, granted, infer_value, infer, infer_abilities}
use Rattle.definition.specs.Book.{Ability, copy, drop, store, key, bit, InSet, needed, NotKey, is_copy, is_drop, is_store, Declares, list_declares, signer_declares, builtin_declares, struct_declares, Phantom, is_phantom}
use Rattle.definition.specs.Book.{Has, unit_has, reference_copy, reference_drop, parameter_has, named_has, bound_has, marked_has, open_has, any_has, error_has}
use Rattle.theorems.proofs.DemandTracks.{never, Ends, here, hop, Kind, k_any, k_var, k_solid, kind}
use Rattle.theorems.proofs.DemandOrder.{All, Sound, next_bound, chain}
use Rattle.theorems.proofs.Soundness.{and}
use Rattle.theorems.proofs.SoundFacts.{and_l, and_r, elim_l, elim_r, not_false, facts}
use Rattle.theorems.proofs.DemandReading.{any_plain}
use Rattle.theorems.proofs.TotalReading.{type_is_in, reaches_is_runs}
use Rattle.theorems.proofs.DemandRuns.{Declared}
use Rattle.theorems.proofs.SolveInferred.{more}

-- ---- sets

sums : (a b c d : Bool) → let set : ℕ = from_abilities (select (λ x. if eqb x 1 then a else if eqb x 2 then b else if eqb x 4 then c else d) (1 ∷ 2 ∷ 4 ∷ 8 ∷ [])) in (has set 1 ≡ a) × (has set 2 ≡ b) × (has set 4 ≡ c) × (has set 8 ≡ d)
unfolding has select from_abilities
sums true true true true = (refl, refl, refl, refl)
sums true true true false = (refl, refl, refl, refl)
sums true true false true = (refl, refl, refl, refl)
sums true true false false = (refl, refl, refl, refl)
sums true false true true = (refl, refl, refl, refl)
sums true false true false = (refl, refl, refl, refl)
sums true false false true = (refl, refl, refl, refl)
sums true false false false = (refl, refl, refl, refl)
sums false true true true = (refl, refl, refl, refl)
sums false true true false = (refl, refl, refl, refl)
sums false true false true = (refl, refl, refl, refl)
sums false true false false = (refl, refl, refl, refl)
sums false false true true = (refl, refl, refl, refl)
sums false false true false = (refl, refl, refl, refl)
sums false false false true = (refl, refl, refl, refl)
sums false false false false = (refl, refl, refl, refl)

pub those_has : (f : ℕ → Bool) (a : Ability) → has (from_abilities (those f)) (bit a) ≡ f (bit a)
unfolding those select from_abilities
those_has f copy = (sums (f 1) (f 2) (f 4) (f 8)).0
those_has f drop = (sums (f 1) (f 2) (f 4) (f 8)).1
those_has f store = (sums (f 1) (f 2) (f 4) (f 8)).2
those_has f key = (sums (f 1) (f 2) (f 4) (f 8)).3

pub all_has : (a : Ability) → InSet a all
unfolding has all
all_has copy = refl
all_has drop = refl
all_has store = refl
all_has key = refl

pub requires_bit : (a : Ability) → requires (bit a) ≡ bit (needed a)
unfolding requires
requires_bit copy = refl
requires_bit drop = refl
requires_bit store = refl
requires_bit key = refl

in_7 : {a : Ability} → NotKey a → InSet a 7
unfolding has
in_7 is_copy = refl
in_7 is_drop = refl
in_7 is_store = refl

of_7 : (a : Ability) → InSet a 7 → NotKey a
unfolding has
of_7 copy e = is_copy
of_7 drop e = is_drop
of_7 store e = is_store
of_7 key e = never (cc)

-- ---- the first argument that lacks

pub unless : (a b : Bool) → a && b ≡ false → a ≡ true → b ≡ false
unless true b e d = e
unless false b e d = never (cc)

not_both : (a b : Bool) → (a ≡ true → b ≡ false) → a && b ≡ false
not_both true b h = h refl
not_both false b h = refl

module _ (c f : ℕ → Bool) where
  pub none_lack : (i : ℕ) (tys : List ℕ) → first_lacking c f i tys ≡ None → (j : ℕ) → j < length tys → c (i + j) ≡ true → f (get_or tys j 0) ≡ false
  unfolding first_lacking
  none_lack i [] e j l k = absurd (omega arith)
  none_lack i (t ∷ tys) e j l k = go (c i && f t) refl e j l k (λ e j l k. none_lack (suc i) tys e j l k)
    where
      go : (b : Bool) → c i && f t ≡ b → ◌≡◌ {A = Option ℕ} (elim b [ true ↦ Some i | false ↦ first_lacking c f (suc i) tys ]) None → (j : ℕ) → j < length (t ∷ tys) → c (i + j) ≡ true
          → (first_lacking c f (suc i) tys ≡ None → (j : ℕ) → j < length tys → c (suc i + j) ≡ true → f (get_or tys j 0) ≡ false) → f (get_or (t ∷ tys) j 0) ≡ false
      go true d e j l k h = never (cc)
      go false d e zero l k h = let z : i + 0 ≡ i = omega arith in unless (c i) (f t) d (rw z at k)
      go false d e (suc j) l k h = let z : i + suc j ≡ suc i + j = omega arith in h e j (omega arith) (rw z at k)

  pub lack_none : (i : ℕ) (tys : List ℕ) → ((j : ℕ) → j < length tys → c (i + j) ≡ true → f (get_or tys j 0) ≡ false) → first_lacking c f i tys ≡ None
  unfolding first_lacking
  lack_none i [] h = refl
  lack_none i (t ∷ tys) h = let z : i + 0 ≡ i = omega arith in
      rw (not_both (c i) (f t) (λ k. h 0 (omega arith) (rw z k)), first_lacking) (lack_none (suc i) tys (λ j l k. let y : i + suc j ≡ suc i + j = omega arith in h (suc j) (omega arith) (rw y k)))

  -- at place j of the list, whose first place is i
  pub record FirstLack (i : ℕ) (tys : List ℕ) (j : ℕ) : Type 0 where
    pub within : j < length tys
    pub counts_there : c (i + j) ≡ true
    pub lacks_there : f (get_or tys j 0) ≡ true
    pub before : (k : ℕ) → k < j → c (i + k) ≡ true → f (get_or tys k 0) ≡ false

  pub some_lack : (i : ℕ) (tys : List ℕ) (p : ℕ) → first_lacking c f i tys ≡ Some p → (j : ℕ) × (p ≡ i + j) × FirstLack i tys j
  unfolding first_lacking
  some_lack i [] p e = never (cc)
  some_lack i (t ∷ tys) p e = go (c i && f t) refl e (λ d. some_lack (suc i) tys p d)
    where
      earlier : c i && f t ≡ false → (j : ℕ) → FirstLack (suc i) tys j → (k : ℕ) → k < suc j → c (i + k) ≡ true → f (get_or (t ∷ tys) k 0) ≡ false
      earlier d j r zero l k = let z : i + 0 ≡ i = omega arith in unless (c i) (f t) d (rw z at k)
      earlier d j r (suc m) l k = let z : i + suc m ≡ suc i + m = omega arith in r.before m (omega arith) (rw z at k)

      go : (b : Bool) → c i && f t ≡ b → ◌≡◌ {A = Option ℕ} (elim b [ true ↦ Some i | false ↦ first_lacking c f (suc i) tys ]) (Some p)
          → (first_lacking c f (suc i) tys ≡ Some p → (j : ℕ) × (p ≡ suc i + j) × FirstLack (suc i) tys j) → (j : ℕ) × (p ≡ i + j) × FirstLack i (t ∷ tys) j
      go true d e h =
          let q : i ≡ p = cc in
          let z : i + 0 ≡ i = omega arith in
          (0, omega (arith, q), record { within = omega arith; counts_there = rw z (and_l (c i) (f t) d); lacks_there = and_r (c i) (f t) d; before = λ k l m. absurd (omega arith) })
      go false d e h =
          let (j, q, r) = h e in
          let z : i + suc j ≡ suc i + j = omega arith in
          (suc j, omega (arith, q), record { within = omega (arith, r.within); counts_there = rw z r.counts_there; lacks_there = r.lacks_there; before = earlier d j r })

-- ---- declarations

module _ (s : State) where
  only_drop : (b : ℕ) → b ≡ 1 → (a : Ability) → InSet a 2 → Declares s (Builtin b) a
  unfolding has
  only_drop b d copy e = never (cc)
  only_drop b d drop e = signer_declares d
  only_drop b d store e = never (cc)
  only_drop b d key e = never (cc)

  builtin_declared : (b : ℕ) (a : Ability) → InSet a (builtin_abilities b) → Declares s (Builtin b) a
  unfolding builtin_abilities signer collection primitives
  builtin_declared b a e = go (eqb b 1) refl e
    where
      seven : (o : Bool) → InSet a (if o then 7 else 7) → NotKey a
      seven true e = of_7 a e
      seven false e = of_7 a e

      go : (o : Bool) → eqb b 1 ≡ o → InSet a (if o then 2 else if eqb b 5 then 7 else 7) → Declares s (Builtin b) a
      go true d e = only_drop b (eqb-true b 1 d) a e
      go false d e = builtin_declares (eqb-false b 1 d) (seven (eqb b 5) e)

  pub declared_is : (n : TypeName) (a : Ability) → InSet a (declared_abilities s n) → Declares s n a
  unfolding declared_abilities collection
  declared_is (Multiple n) a e = list_declares (of_7 a e)
  declared_is (Builtin b) a e = builtin_declared b a e
  declared_is (ModuleType n) a e = struct_declares e

  pub is_declared : {n : TypeName} {a : Ability} → Declares s n a → InSet a (declared_abilities s n)
  unfolding declared_abilities builtin_abilities signer collection primitives has
  is_declared (list_declares c) = in_7 c
  is_declared (signer_declares e) = rw e refl
  is_declared (builtin_declares {b = b} {a = a} d c) = rw (ne_eqb b 1 d) (go (eqb b 5))
    where
      go : (o : Bool) → InSet a (if o then 7 else 7)
      go true = in_7 c
      go false = in_7 c
  is_declared (struct_declares e) = e

  pub counted : (n : TypeName) (i : ℕ) → i < arity s n → ¬ Phantom s n i → counts s n i ≡ true
  unfolding counts arity
  counted (Multiple n) i l h = refl
  counted (Builtin b) i l h = refl
  counted (ModuleType n) i l h = go (ltb (get_or (struct_tparams s n) i 16) 16) refl
    where
      go : (b : Bool) → ltb (get_or (struct_tparams s n) i 16) 16 ≡ b → b ≡ true
      go true e = refl
      go false e = absurd (h (is_phantom (rw (get_or_default (struct_tparams s n) i 16 0 l) at (ltb-false (get_or (struct_tparams s n) i 16) 16 e))))

  plain_parameter : (ps : List ℕ) (i : ℕ) → get_or ps i 16 < 16 → get_or ps i 0 < 16
  plain_parameter [] i h = absurd (omega (arith, h))
  plain_parameter (p ∷ ps) zero h = h
  plain_parameter (p ∷ ps) (suc i) h = plain_parameter ps i h

  pub not_phantom : {n : TypeName} {i : ℕ} → counts s n i ≡ true → ¬ Phantom s n i
  unfolding counts
  not_phantom {i = i} e (is_phantom {n = n} l) = let k = plain_parameter (struct_tparams s n) i (ltb-true (get_or (struct_tparams s n) i 16) 16 e) in absurd (omega (arith, k, l))

  -- ---- one level

  -- f gives just what the type p has
  abbrev pub Agrees : (ℕ → ℕ) → ℕ → Type 0
  Agrees f p = (a : Ability) → InSet a (f p) ↔ Has s a (type_at s p)

  pub all_get : (P : ℕ → Type 0) (tys : List ℕ) → All P tys → (i : ℕ) → i < length tys → P (get_or tys i 0)
  all_get P [] h i l = absurd (omega arith)
  all_get P (t ∷ tys) h zero l = h.0
  all_get P (t ∷ tys) h (suc i) l = all_get P tys h.1 i (omega arith)

  -- every argument that counts has what is needed
  unfoldable pub ArgsHave : TypeName → List ℕ → Ability → Type 0
  ArgsHave n tys a = (i : ℕ) → i < length tys → ¬ Phantom s n i → Has s a (type_at s (get_or tys i 0))

  is_none_of : (o : Option ℕ) → is_none o ≡ true → o ≡ None
  unfolding is_none
  is_none_of None e = refl
  is_none_of (Some i) e = never (cc)

  pub none_lacking : (f : ℕ → ℕ) (n : TypeName) (tys : List ℕ) → length tys ≡ arity s n → All (Agrees f) tys → (a : Ability) → lacking f s n tys (bit a) ≡ None → ArgsHave n tys a
  unfolding lacking ArgsHave
  none_lacking f n tys many h a e i l p =
      let z : 0 + i ≡ i = omega arith in
      let w : ℕ → Bool = λ ty. not (has (f ty) (bit a)) in
      (all_get (Agrees f) tys h i l a).0 (not_false _ (none_lack (counts s n) w 0 tys e i l (rw z (counted n i (omega (arith, l, many)) p))))

  pub lacking_none : (f : ℕ → ℕ) (n : TypeName) (tys : List ℕ) → All (Agrees f) tys → (a : Ability) → ArgsHave n tys a → lacking f s n tys (bit a) ≡ None
  unfolding lacking ArgsHave
  lacking_none f n tys h a g =
      let w : ℕ → Bool = λ ty. not (has (f ty) (bit a)) in
      lack_none (counts s n) w 0 tys (λ i l k. let z : 0 + i ≡ i = omega arith in ap not ((all_get (Agrees f) tys h i l a).1 (g i l (not_phantom {n = n} {i = i} (rw z at k)))))

  pub named_is : (f : ℕ → ℕ) (n : TypeName) (tys : List ℕ) (a : Ability) → has (infer_value f s (Apply None n tys)) (bit a) ≡ has (declared_abilities s n) (bit a) && is_none (lacking f s n tys (bit (needed a)))
  unfolding infer_value granted
  named_is f n tys a = rw (← (requires_bit a)) (those_has (granted f s n tys) a)

  -- as many arguments as parameters
  abbrev pub Filled : TypeValue → Type 0
  Filled x = (k : AbilityMark) (n : TypeName) (tys : List ℕ) → x ≡ Apply k n tys → length tys ≡ arity s n

  found : (f : ℕ → ℕ) (x : TypeValue) → as_var x ≡ None → Filled x → All (Agrees f) (parts x) → (a : Ability) → InSet a (infer_value f s x) → Has s a x
  unfolding infer_value parts collection references has as_var ArgsHave
  found f UnitType p q h a e = unit_has (of_7 a e)
  found f (Ref m t) p q h copy e = reference_copy
  found f (Ref m t) p q h drop e = reference_drop
  found f (Ref m t) p q h store e = never (cc)
  found f (Ref m t) p q h key e = never (cc)
  found f (Var v) p q h a e = never (cc)
  found f UnresolvedError p q h a e = error_has
  found f Anything p q h a e = any_has
  found f (Param id set) p q h a e = parameter_has e
  found f (Apply (Some set) n tys) p q h a e = marked_has e
  found f (Apply None n tys) p q h a e =
      let g = sym (named_is f n tys a) ∙ e in
      let b = has (declared_abilities s n) (bit a) in
      let c = is_none (lacking f s n tys (bit (needed a))) in
      named_has (declared_is n a (and_l b c g)) (none_lacking f n tys (q None n tys refl) h (needed a) (is_none_of _ (and_r b c g)))

  had : (f : ℕ → ℕ) {a : Ability} (x : TypeValue) → as_var x ≡ None → All (Agrees f) (parts x) → Has s a x → InSet a (infer_value f s x)
  unfolding infer_value parts collection references has as_var is_none ArgsHave
  had f UnitType p h (unit_has c) = in_7 c
  had f (Ref m t) p h reference_copy = refl
  had f (Ref m t) p h reference_drop = refl
  had f {a} (Var v) p h d = all_has a
  had f {a} UnresolvedError p h d = all_has a
  had f {a} Anything p h d = all_has a
  had f (Param id set) p h (parameter_has e) = e
  had f (Apply (Some set) n tys) p h (marked_has e) = e
  had f {a} (Apply None n tys) p h (named_has m d) = named_is f n tys a ∙ and (is_declared m) (ap is_none (lacking_none f n tys h (needed a) d))

-- ---- a type and what it unfolds to

module _ (S : State) where
  down : {a : Ability} {v e : ℕ} → Ends S v e → (loc : ℕ) → Has S a (Var v) → Has S a (unfold_var S loc (get S e)).value
  unfolding unfold_var spanned
  down (here n) loc (bound_has g h) = rw g h
  down (here n) loc (open_has g) = rw g any_has
  down {a} (hop {v = v} {w = w} n d) loc (bound_has {t = t} g h) =
      let b = next_bound S v w n in
      let e : b.0 ≡ t = let k = b.1 in cc in
      down d loc (subst (Has S a) b.2 (rw e h))
  down (hop {v = v} {w = w} n d) loc (open_has g) = let k = (next_bound S v w n).1 in never (cc)

  up : {a : Ability} {v e : ℕ} → Ends S v e → (loc : ℕ) → Has S a (unfold_var S loc (get S e)).value → Has S a (Var v)
  unfolding unfold_var spanned
  up {a} {v} (here n) loc h = go (get S v) refl h
    where
      go : (o : Option ℕ) → get S v ≡ o → Has S a (unfold_var S loc o).value → Has S a (Var v)
      go None g h = open_has g
      go (Some t) g h = bound_has g h
  up {a} (hop {v = v} {w = w} n d) loc h = let b = next_bound S v w n in bound_has b.1 (subst (Has S a) (sym b.2) (up d loc h))

  pub record Unfolds (t : ℕ) (x : TypeValue) : Type 0 where
    pub plain : as_var x ≡ None
    pub filled : Filled S x
    pub inside : All (λ p. p < count S) (parts x)
    pub to_has : (a : Ability) → Has S a (type_at S t) → Has S a x
    pub from_has : (a : Ability) → Has S a x → Has S a (type_at S t)

pub not_itself : {ar : TypeName → ℕ} {S : State} → Sound ar S → (t : ℕ) → t < count S → ¬ RunsIntoItself S (type_at S t) → reaches_itself S t ≡ false
not_itself {S = S} s t i r = go (reaches_itself S t) refl
  where
    go : (b : Bool) → reaches_itself S t ≡ b → b ≡ false
    go true e = absurd (r ((reaches_is_runs s t i).0 e))
    go false e = refl

module _ {ar : TypeName → ℕ} {S : State} (s : Sound ar S) (d : Declared ar S) where
  filled_at : (t : ℕ) → t < count S → Filled S (type_at S t)
  filled_at t i k n tys e = s.arity t k n tys i e ∙ sym (d n)

  pub unfolds : (t : ℕ) → t < count S → Unfolds S t (unfold_type S (spanned S t)).value
  unfolding unfold_type spanned unfold_var as_var parts next_of next_in
  unfolds t i = go (kind (type_at S t))
    where
      plain_one : as_var (type_at S t) ≡ None → Unfolds S t (unfold_type S (spanned S t)).value
      plain_one e = rw (e, unfold_type) (record { plain = e; filled = filled_at t i; inside = (type_is_in s i).parts_in; to_has = λ a h. h; from_has = λ a h. h })

      end : (v : ℕ) → type_at S t ≡ Var v → (o : Option ℕ) → get S (forward_tvar S v) ≡ o → Unfolds S t (unfold_var S (loc_of S t) o).value
      end v e None g = record { plain = refl; filled = λ k n tys q. never (cc); inside = tt; to_has = λ a h. any_has; from_has = λ a h. subst (Has S a) (sym e) (up S (chain s v (s.var_in t v i e)) 0 (rw g any_has)) }
      end v e (Some T) g =
          let c = chain s v (s.var_in t v i e) in
          let n : next_in S (Some T) ≡ None = rw g at (s.chains v (s.var_in t v i e)) in
          record {
            plain = n;
            filled = filled_at T (s.bind_in _ T g);
            inside = (type_is_in s (s.bind_in _ T g)).parts_in;
            to_has = λ a h. rw g at (down S c 0 (subst (Has S a) e h));
            from_has = λ a h. subst (Has S a) (sym e) (up S c 0 (rw g h));
          }

      go : Kind (type_at S t) → Unfolds S t (unfold_type S (spanned S t)).value
      go (k_any e) = plain_one (rw e any_plain)
      go (k_var {v = v} e) = rw (e, unfold_type) (end v e (get S (forward_tvar S v)) refl)
      go (k_solid h n) = plain_one n

  -- ---- all levels

  all_agree : (n : ℕ) (ps : List ℕ) → All (λ p. p < count S) ps → all_of (λ p. ends_in n S p) ps ≡ true → ((p : ℕ) → p < count S → ends_in n S p ≡ true → Agrees S (λ q. infer n S q) p) → All (Agrees S (λ q. infer n S q)) ps
  unfolding all_of
  all_agree n [] i e f = tt
  all_agree n (p ∷ ps) i e f = (f p i.0 (elim_l (ends_in n S p) _ e), all_agree n ps i.1 (elim_r (ends_in n S p) (all_of (λ p. ends_in n S p) ps) e) f)

  agree : (n t : ℕ) → t < count S → ends_in n S t ≡ true → Agrees S (λ p. infer n S p) t
  unfolding ends_in infer goes_on_to
  agree zero t i e a = never (cc)
  agree (suc n) t i e a =
      let x = (unfold_type S (spanned S t)).value in
      let u = unfolds t i in
      let h = all_agree n (parts x) u.inside e (λ p j f. agree n p j f) in
      (λ k. u.from_has a (found S (λ p. infer n S p) x u.plain u.filled h a k), λ d. had S (λ p. infer n S p) x u.plain h (u.to_has a d))

  pub abilities_agree : (t : ℕ) → t < count S → reaches_itself S t ≡ false → Agrees S (λ p. infer_abilities S p) t
  unfolding infer_abilities reaches_itself
  abilities_agree t i e = agree (count S) t i (not_false (ends_in (count S) S t) e)

  pub parts_agree : (t : ℕ) → t < count S → reaches_itself S t ≡ false → All (Agrees S (λ p. infer_abilities S p)) (parts (unfold_type S (spanned S t)).value)
  unfolding infer_abilities reaches_itself ends_in goes_on_to
  parts_agree t i e =
      let f = not_false (ends_in (count S) S t) e in
      all_agree (count S) (parts (unfold_type S (spanned S t)).value) (unfolds t i).inside (more S (count S) (suc (count S)) t (omega arith) f) (λ p j g. agree (count S) p j g)

pub abilities_are : (S : State) → sound S ≡ true → (t : ℕ) → t < count S → ¬ RunsIntoItself S (type_at S t) → (a : Ability) → InSet a (infer_abilities S t) ↔ Has S a (type_at S t)
abilities_are S h t i r a = abilities_agree (facts S h) (λ n. refl) t i (not_itself (facts S h) t i r) a
