-- R-5: a final type has no variable, a mark on every name, and fields in range, so that it is read back. Assumes nothing.
use mathlib.Core.Path.{◌≡◌, refl, ap, ◌∙◌, subst}
use mathlib.Core.Logic.{◌≢◌}
use mathlib.Core.Bool.{Bool, true, false, not, ◌&&◌, ◌||◌}
use mathlib.Core.List.{List, [], ◌∷◌}
use Rattle.std.specs.Prelude.{None, Some}
use Prim.Native.Nat.{ℕ, suc, ◌≤◌, ◌<◌}
use native.Mathlib.Omega.{arith}
use lib.ListN.{length}
use borrow.Author.Tests.{le-leb, ne_eqb}
use Rattle.definition.specs.Types.{TypeName, Multiple, Builtin, ModuleType, TypeValue, Ref, Param, Apply, State, max_structs, ok}
use Rattle.definition.specs.Store.{count, type_at, loc_of, any_of}
use Rattle.definition.specs.Subst.{parts}
use Rattle.definition.specs.Join.{integers, is_numeric}
use Rattle.definition.specs.Instantiate.{builtin_tparams}
use Rattle.definition.specs.Abilities.{has}
use Rattle.definition.specs.Write.{Bytes, IsBytes}
use Rattle.definition.specs.Reader.{got}
use Rattle.definition.specs.Trees.{Tree, Trees, is_mark, is_name, mark_fits, has_drop, arity}
use Rattle.definition.specs.Record.{XP, read_record}
use Rattle.definition.specs.Sound.{sound}
use Rattle.definition.specs.Book.{drop, InSet, builtin_declares, is_drop, named_has}
use Rattle.definition.specs.Final.{Content, content, content_on, SetOf, Finally, final_unit, final_any, final_error, final_param, final_ref, final_bound, final_open, final_name, final_builtin, AllFinally, final_none, final_each, spelled, Shown, Nested}
use Rattle.definition.specs.Final.{Whole, whole_unit, whole_any, whole_error, whole_param, whole_ref, whole_name, AllWhole, whole_none, whole_each, FinalWhole, ExpandedReads}
use Rattle.theorems.proofs.DemandTracks.{never}
use Rattle.theorems.proofs.DemandOrder.{All, All_map, Sound}
use Rattle.theorems.proofs.LawsPost.{Post, p_ok}
use Rattle.theorems.proofs.DemandWent.{WentTo}
use Rattle.theorems.proofs.DemandRuns.{arity_same, place_went}
use Rattle.theorems.proofs.SoundFacts.{and_l, and_r, facts}
use Rattle.theorems.proofs.Soundness.{and}
use Rattle.theorems.proofs.SoundKept.{ranges_of}
use Rattle.theorems.proofs.SoundRanges.{U32, ShapeIn, Ranges, value_in, loc_of_in}
use Rattle.theorems.proofs.SoundRead.{size, Fine, fine_unit, fine_anything, fine_error, fine_ref, fine_param, fine_apply, Fines, fine_none, fine_then, TreeIn, TreesIn, ReadWell, given, well_read}
use Rattle.theorems.proofs.TotalWalk.{Ends, e_ok, In, place_run}
use Rattle.theorems.proofs.ExpandRead.{record_back}
use Rattle.theorems.proofs.SoundRanges.{name_known}

-- ---- no variable, a mark on every name

mutual
  pub whole_of : {S : State} {t : ℕ} {x : TypeValue} {T : Tree} {ls : List ℕ} → Finally S t x T ls → Whole T
  whole_of (final_unit e) = whole_unit
  whole_of (final_any e) = whole_any
  whole_of (final_error e) = whole_error
  whole_of (final_param e) = whole_param
  whole_of (final_ref e d) = whole_ref (whole_of d)
  whole_of (final_bound c d) = whole_of d
  whole_of (final_open e c) = whole_error
  whole_of (final_name e q ds) = whole_name (all_whole_of ds)
  whole_of (final_builtin e ds) = whole_name (all_whole_of ds)

  all_whole_of : {S : State} {ps : List ℕ} {Ts : Trees} {ls : List ℕ} → AllFinally S ps Ts ls → AllWhole Ts
  all_whole_of final_none = whole_none
  all_whole_of (final_each d ds e) = whole_each (whole_of d) (all_whole_of ds)

pub final_whole : (s : State) → FinalWhole s
unfolding FinalWhole
final_whole s t x T ls d = whole_of d

-- ---- fields in range

all_size : {S : State} {ps : List ℕ} {Ts : Trees} {ls : List ℕ} → AllFinally S ps Ts ls → size Ts ≡ length ps
all_size final_none = refl
all_size (final_each d ds e) = ap suc (all_size ds)

-- an integer type is no signer and no vector
not_signer : (b : ℕ) → is_numeric (Builtin b) ≡ true → b ≢ 1
unfolding is_numeric any_of integers
not_signer b h e = never (let z : is_numeric (Builtin 1) ≡ true = subst (λ (y : ℕ). is_numeric (Builtin y) ≡ true) e h in cc)

not_vector : (b : ℕ) → is_numeric (Builtin b) ≡ true → b ≢ 5
unfolding is_numeric any_of integers
not_vector b h e = never (let z : is_numeric (Builtin 5) ≡ true = subst (λ (y : ℕ). is_numeric (Builtin y) ≡ true) e h in cc)

no_arguments : (S : State) (b : ℕ) → is_numeric (Builtin b) ≡ true → arity S (Builtin b) ≡ 0
unfolding arity builtin_tparams
no_arguments S b h = rw (ne_eqb b 5 (not_vector b h)) refl

drop_is : (set : ℕ) → InSet drop set → has_drop (Some set) ≡ true
unfolding has_drop has
drop_is set h = h

or_right : (a b : Bool) → (a ≡ true → b ≡ true) → not a || b ≡ true
or_right true b f = f refl
or_right false b f = refl

module _ (S P : State) (w : Sound (arity S) P) (r : Ranges S P) where
  builtin_fits : (set b : ℕ) (ps : List ℕ) → length ps ≡ arity S (Builtin b) → SetOf P (Apply None (Builtin b) ps) set → mark_fits (Some set) (Builtin b) ≡ true
  unfolding mark_fits
  builtin_fits set b ps e q = or_right (is_numeric (Builtin b)) (has_drop (Some set)) (λ h.
      drop_is set ((q.exactly drop).1 (named_has (builtin_declares (not_signer b h) is_drop) (λ i l n. absurd (omega (arith, l, e, no_arguments S b h))))))

  mark_in : (set : ℕ) (n : TypeName) (ps : List ℕ) → length ps ≡ arity S n → SetOf P (Apply None n ps) set → mark_fits (Some set) n ≡ true
  unfolding mark_fits is_numeric
  mark_in set (Builtin b) ps e q = builtin_fits set b ps e q
  mark_in set (Multiple b) ps e q = refl
  mark_in set (ModuleType b) ps e q = refl

  set_in : (set : ℕ) → set ≤ 15 → is_mark (Some set) ≡ true
  unfolding is_mark
  set_in set h = le-leb set 15 h

  loc_in : (t l : ℕ) → loc_of P t ≡ l → U32 l
  loc_in t l e = subst U32 e (loc_of_in r t)

  content_in : {v p : ℕ} → Content P v (Some p) → p < count P
  content_in (content {v = v} {p = p} g n) = w.bind_in v p g
  content_in (content_on g e d) = content_in d

  inside : (t : ℕ) (x : TypeValue) → t < count P → type_at P t ≡ x → All (λ p. p < count P) (parts x)
  inside t x h e = subst (λ (y : TypeValue). All (λ p. p < count P) (parts y)) e (All_map {P = λ p. p < t} (λ p l. omega (arith, h, l)) (parts (type_at P t)) (w.parts_below t h))

  shape_of : (t : ℕ) (x : TypeValue) → type_at P t ≡ x → ShapeIn S x
  shape_of t x e = subst (λ (y : TypeValue). ShapeIn S y) e (value_in r t)

  mutual
    unfolding parts TreeIn

    pub fine_of : {t : ℕ} {x : TypeValue} {T : Tree} {ls : List ℕ} → Finally P t x T ls → t < count P → type_at P t ≡ x → Fine (arity S) 0 T
    fine_of (final_unit e) h q = fine_unit
    fine_of (final_any e) h q = fine_anything
    fine_of (final_error e) h q = fine_error
    fine_of (final_param e) h q = fine_param
    fine_of {t} {x} (final_ref {p = p} {m = m} e d) h q = fine_ref (fine_of d (inside t (Ref m p) h q).0 refl)
    fine_of (final_bound c d) h q = fine_of d (content_in c) refl
    fine_of (final_open e c) h q = fine_error
    fine_of {t} (final_name {n = n} {ps = ps} e s ds) h q = fine_apply (fines_of ds (inside t (Apply None n ps) h q)) (all_size ds ∙ w.arity t None n ps h q)
    fine_of {t} (final_builtin {set = set} {b = b} {ps = ps} e ds) h q = fine_apply (fines_of ds (inside t (Apply (Some set) (Builtin b) ps) h q)) (all_size ds ∙ w.arity t (Some set) (Builtin b) ps h q)

    fines_of : {ps : List ℕ} {Ts : Trees} {ls : List ℕ} → AllFinally P ps Ts ls → All (λ p. p < count P) ps → Fines (arity S) 0 Ts
    fines_of final_none h = fine_none
    fines_of (final_each d ds e) h = fine_then (fine_of d h.0 refl) (fines_of ds h.1)

  mutual
    unfolding parts TreeIn

    pub tree_in : {t : ℕ} {x : TypeValue} {T : Tree} {ls : List ℕ} → Finally P t x T ls → t < count P → type_at P t ≡ x → TreeIn S T
    tree_in {t} (final_unit {l = l} e) h q = loc_in t l e
    tree_in {t} (final_any {l = l} e) h q = loc_in t l e
    tree_in {t} (final_error {l = l} e) h q = loc_in t l e
    tree_in {t} (final_param {l = l} {id = id} {a = a} e) h q = (loc_in t l e, shape_of t (Param id a) q)
    tree_in {t} (final_ref {l = l} {p = p} {m = m} e d) h q = (loc_in t l e, tree_in d (inside t (Ref m p) h q).0 refl)
    tree_in (final_bound c d) h q = tree_in d (content_in c) refl
    tree_in {t} (final_open {l = l} e c) h q = loc_in t l e
    tree_in {t} (final_name {l = l} {set = set} {n = n} {ps = ps} e s ds) h q =
        (loc_in t l e, and (and (set_in set s.is_a_set) (and_r (is_mark None) (is_name S n) (and_l (is_mark None && is_name S n) (mark_fits None n) (shape_of t (Apply None n ps) q)))) (mark_in set n ps (w.arity t None n ps h q) s), trees_in ds (inside t (Apply None n ps) h q))
    tree_in {t} (final_builtin {l = l} {set = set} {b = b} {ps = ps} e ds) h q = (loc_in t l e, shape_of t (Apply (Some set) (Builtin b) ps) q, trees_in ds (inside t (Apply (Some set) (Builtin b) ps) h q))

    trees_in : {ps : List ℕ} {Ts : Trees} {ls : List ℕ} → AllFinally P ps Ts ls → All (λ p. p < count P) ps → TreesIn S Ts
    trees_in final_none h = tt
    trees_in (final_each d ds e) h = (tree_in d h.0 refl, trees_in ds h.1)

-- ---- equal declarations

module _ (s s' : State) (e : s.structs ≡ s'.structs) where
  mutual
    unfolding TreeIn

    tree_same : {T : Tree} → Whole T → TreeIn s T → TreeIn s' T
    tree_same whole_unit h = h
    tree_same whole_any h = h
    tree_same whole_error h = h
    tree_same whole_param h = h
    tree_same (whole_ref w) h = (h.0, tree_same w h.1)
    tree_same (whole_name {set = set} {n = n} w) h = (h.0, subst (λ (b : Bool). is_mark (Some set) && b && mark_fits (Some set) n ≡ true) (name_known s s' e n) h.1, trees_same w h.2)

    trees_same : {Ts : Trees} → AllWhole Ts → TreesIn s Ts → TreesIn s' Ts
    trees_same whole_none h = h
    trees_same (whole_each w ws) h = (tree_same w h.0, trees_same ws h.1)

-- ---- what XP shows is read back

module _ (s s' : State) (bytes : Bytes) (tree : Tree) (p : Bytes) (are : IsBytes bytes) (c : read_record s bytes ≡ got (XP tree) []) (h : sound s ≡ true) (x : Shown s tree p) (e : s.structs ≡ s'.structs) where
  record Ready : Type 0 where
    sound_there : Sound (arity s) x.placed
    ranges_there : Ranges s x.placed
    node_in : x.node < count x.placed

  ready : Ready
  ready = go (rw c at (well_read (Unit {0}) s bytes (λ z. are)))
    where
      both : Post (arity s) s (WentTo (arity s) s) (ok (x.placed, x.node)) → Ends true (In (Unit {0}) s true) (λ (y : State × ℕ). In (Unit {0}) s true y.0) (ok (x.placed, x.node)) → Ready
      both (p_ok g w) (e_ok i) = record { sound_there = w.sound; ranges_there = i tt; node_in = w.t_in }

      go : {n : ℕ} → ReadWell (Unit {0}) s n (got (XP tree) []) → Ready
      go (given f i l) = both (rw x.build_gives at (place_went f.0 (facts s h) (omega arith))) (rw x.build_gives at (place_run (Unit {0}) s true {E = In (Unit {0}) s true} tree (λ u. f.1 tt) s (λ u. ranges_of s h)))

  pub final_fine : Fine (arity s) 0 x.final
  final_fine = fine_of s x.placed ready.sound_there ready.ranges_there x.is_final ready.node_in refl

  pub final_in : TreeIn s' x.final
  final_in = tree_same s s' e (whole_of x.is_final) (tree_in s x.placed ready.sound_there ready.ranges_there x.is_final ready.node_in refl)

  few : length s'.structs ≤ max_structs
  few = subst (λ (l : List _). length l ≤ max_structs) e (ranges_of s h).few_structs

  pub back : Nested 64 x.final → length (spelled x.final) ≤ 4094 → read_record s' (88 ∷ 80 ∷ spelled x.final) ≡ got (XP x.final) []
  back d l = record_back s' few (λ n. arity_same s' s e n) (whole_of x.is_final) final_fine final_in d l

pub expanded_reads : (s s' : State) → ExpandedReads s s'
unfolding ExpandedReads
expanded_reads s s' bytes buffer tree p b c h x e d l = back s s' bytes tree p b c h x e d l
