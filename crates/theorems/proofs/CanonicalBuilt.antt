-- R-12: a tree that is placed stands, as read without its locations, and takes a node a tag and a place an argument. Assumes nothing.
use mathlib.Core.Path.{◌≡◌, refl, subst}
use mathlib.Core.Logic.{◌⊎◌, inl, inr}
use mathlib.Core.List.Memᴰ
use mathlib.Core.List.{List, [], ◌++◌, Memᴰ}
use Rattle.std.specs.Prelude.{None}
use Prim.Native.Nat.{ℕ, ◌+◌, ◌≤◌}
use native.Mathlib.Omega.{arith}
use Rattle.definition.specs.Types.{TypeName, TypeValue, UnitType, Param, Var, Anything, UnresolvedError, State}
use Rattle.definition.specs.Store.{taken, type_at, get, args_of}
use Rattle.definition.specs.Subst.{parts}
use Rattle.definition.specs.Rank.{ReadType, ReadTypes}
use Rattle.definition.specs.Rank.{Reads, reads_unit, reads_reference, reads_parameter, reads_named, reads_open, reads_any, reads_error, ReadsAll, reads_none, reads_each, Meets, meets_it, meets_bound, meets_part}
use Rattle.definition.specs.Trees.{Tree, Trees}
use Rattle.definition.specs.Build.{build, build_all}
use Rattle.definition.specs.Agree.{tags, tags_all, places, places_all, variables, variables_all}
use Rattle.theorems.proofs.DemandTracks.{never}
use Rattle.theorems.proofs.DemandOrder.{Sound}
use Rattle.theorems.proofs.DemandCalls.{var_ok}
use Rattle.theorems.proofs.DemandWent.{unit_ok, any_ok, error_ok, param_ok}
use Rattle.theorems.proofs.SoundRead.{size, Fine, fine_unit, fine_anything, fine_error, fine_ref, fine_param, fine_apply, fine_var, Fines, fine_none, fine_then}
use Rattle.theorems.proofs.ReadyTold.{Reads as Gives, bind, as_many}
use Rattle.theorems.proofs.CanonicalSpelled.{Stands, st_unit, st_any, st_error, st_param, st_var, st_ref, st_named, AllStand, st_none, st_each}
use Rattle.theorems.proofs.CanonicalReady.{StandsFor, AllFor, node_stands, ref_stands, named_stands, none_stand, next_to, below}
use Rattle.theorems.proofs.CanonicalRead.{read_of, reads_of}

-- ---- what stands is read so, where its variables are unbound

module _ (S : State) where
  mutual
    unfolding parts

    pub stands_reads : {x : TypeValue} {r : ReadType} → Stands S x r → ((v : ℕ) → Meets S v x → get S v ≡ None) → Reads S x r
    stands_reads st_unit h = reads_unit
    stands_reads st_any h = reads_any
    stands_reads st_error h = reads_error
    stands_reads st_param h = reads_parameter
    stands_reads (st_var {v = v}) h = reads_open (h v meets_it)
    stands_reads (st_ref d) h = reads_reference (stands_reads d (λ v m. h v (meets_part (Memᴰ.head refl) m)))
    stands_reads (st_named ds) h = reads_named (all_stand_read ds (λ v p i m. h v (meets_part i m)))

    all_stand_read : {ts : List ℕ} {rs : ReadTypes} → AllStand S ts rs → ((v p : ℕ) → Memᴰ p ts → Meets S v (type_at S p) → get S v ≡ None) → ReadsAll S ts rs
    all_stand_read st_none h = reads_none
    all_stand_read (st_each {t = t} d ds) h = reads_each (stands_reads d (λ v m. h v t (Memᴰ.head refl) m)) (all_stand_read ds (λ v p i m. h v p (Memᴰ.tail i) m))

  mutual
    unfolding parts variables variables_all

    -- and only its variables are met
    pub stands_meets : {x : TypeValue} {r : ReadType} → Stands S x r → ((w : ℕ) → Memᴰ w (variables r) → get S w ≡ None) → (v : ℕ) → Meets S v x → Memᴰ v (variables r)
    stands_meets st_unit h v (meets_part i m) = absurd (Memᴰ.not-nil i)
    stands_meets st_any h v (meets_part i m) = absurd (Memᴰ.not-nil i)
    stands_meets st_error h v (meets_part i m) = absurd (Memᴰ.not-nil i)
    stands_meets st_param h v (meets_part i m) = absurd (Memᴰ.not-nil i)
    stands_meets st_var h v meets_it = Memᴰ.head refl
    stands_meets (st_var {v = w}) h v (meets_bound g m) = never (let e = h w (Memᴰ.head refl) in cc)
    stands_meets st_var h v (meets_part i m) = absurd (Memᴰ.not-nil i)
    stands_meets (st_ref {t = t} d) h v (meets_part {p = p} i m) = stands_meets d h v (one p (Memᴰ.cases_cons i) m)
      where
        one : (p : ℕ) → (p ≡ t) ⊎ Memᴰ p [] → Meets S v (type_at S p) → Meets S v (type_at S t)
        one p (inl e) m = subst (λ (q : ℕ). Meets S v (type_at S q)) e m
        one p (inr n) m = absurd (Memᴰ.not-nil n)
    stands_meets (st_named ds) h v (meets_part {p = p} i m) = all_stand_meet ds h v p i m

    all_stand_meet : {ts : List ℕ} {rs : ReadTypes} → AllStand S ts rs → ((w : ℕ) → Memᴰ w (variables_all rs) → get S w ≡ None) → (v p : ℕ) → Memᴰ p ts → Meets S v (type_at S p) → Memᴰ v (variables_all rs)
    all_stand_meet st_none h v p i m = absurd (Memᴰ.not-nil i)
    all_stand_meet (st_each {t = t} {ts = ts} {r = r} {rs = rs} d ds) h v p i m =
        go (Memᴰ.cases_cons i) (λ n. stands_meets d (λ w n. h w (Memᴰ.append_left (variables_all rs) n)) v n) (λ n. all_stand_meet ds (λ w k. h w (Memᴰ.append_right (variables r) k)) v p n m)
      where
        go : (p ≡ t) ⊎ Memᴰ p ts → (Meets S v (type_at S t) → Memᴰ v (variables r)) → (Memᴰ p ts → Memᴰ v (variables_all rs)) → Memᴰ v (variables r ++ variables_all rs)
        go (inl e) f g = Memᴰ.append_left (variables_all rs) (f (subst (λ (q : ℕ). Meets S v (type_at S q)) e m))
        go (inr n) f g = Memᴰ.append_right (variables r) (g n)

-- ---- placing

module _ {ar : TypeName → ℕ} where
  places_are : {vars : ℕ} {ts : Trees} → Fines ar vars ts → below (reads_of ts) + size ts ≡ places_all (reads_of ts)
  unfolding places below reads_of
  places_are fine_none = refl
  places_are (fine_then f fs) = omega (arith, places_are fs)

  mutual
    unfolding build build_all read_of reads_of tags places below args_of parts

    -- with a node for each tag, and the places
    pub places_tree : {vars : ℕ} {t : Tree} → Fine ar vars t → {S : State} → Sound ar S → vars ≤ taken S → Gives ar (StandsFor (read_of t)) S (tags (read_of t)) (places (read_of t)) (build t S)
    places_tree (fine_unit {loc = loc}) s h = node_stands s loc UnitType unit_ok st_unit tt
    places_tree (fine_anything {loc = loc}) s h = node_stands s loc Anything any_ok st_any tt
    places_tree (fine_error {loc = loc}) s h = node_stands s loc UnresolvedError error_ok st_error tt
    places_tree (fine_ref {loc = loc} {mut = mut} {t = t} f) {S} s h = as_many _ _ _ _ (omega arith) (omega arith) (ref_stands loc mut (tags (read_of t)) (places (read_of t)) (places_tree f s h))
    places_tree (fine_param {loc = loc} {id = id} {abilities = a}) s h = node_stands s loc (Param id a) (param_ok id a) st_param tt
    places_tree (fine_apply {loc = loc} {k = k} {n = n} {ts = ts} fs e) {S} s h =
        as_many _ _ _ _ (omega arith) (places_are fs) (named_stands loc k n (size ts) (tags_all (reads_of ts)) (below (reads_of ts)) e (places_trees fs s h))
    places_tree (fine_var {loc = loc} {v = v} l) s h = node_stands s loc (Var v) (var_ok v (omega (arith, l, h))) st_var tt

    places_trees : {vars : ℕ} {ts : Trees} → Fines ar vars ts → {S : State} → Sound ar S → vars ≤ taken S → Gives ar (AllFor (size ts) (reads_of ts)) S (tags_all (reads_of ts)) (below (reads_of ts)) (build_all ts S)
    places_trees fine_none {S} s h = none_stand s
    places_trees (fine_then {t = t} {ts = ts} f fs) s h =
        let first : ReadType = read_of t in let others : ReadTypes = reads_of ts in
        bind (tags first) (places first) (tags_all others) (below others) _ (places_tree f s h) (λ S1 u a i.
        next_to (tags_all others) (below others) a.grown.sound_after i (places_trees fs a.grown.sound_after (omega (arith, h, a.grown.quiet.q_vars))))
