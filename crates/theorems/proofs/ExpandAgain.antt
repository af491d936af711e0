-- R-5: XP of a final type that is sent back is 17 if a list or struct is in it, else the same bytes and no code. Assumes nothing.
-- A tree that is placed stands as it is (`At`); it is then its own final type, and what reading comes to is in it.
use mathlib.Core.Path.{◌≡◌, refl, sym, ap, ◌∙◌, subst}
use mathlib.Core.Logic.{◌↔◌, ◌≢◌, ◌⊎◌, inl, inr}
use mathlib.Core.Bool.{Bool, true, false}
use mathlib.Core.List.Memᴰ
use mathlib.Core.List.{List, [], ◌∷◌, ◌++◌, append-nil, Memᴰ}
use Rattle.std.specs.Prelude.{None, Some}
use Prim.Native.Nat.{ℕ, suc, ◌≤◌, ◌<◌}
use native.Mathlib.Omega.{arith}
use lib.ListN.{length}
use borrow.Author.Tests.{le-leb}
use Rattle.definition.specs.Types.{TypeName, Multiple, Builtin, ModuleType, TypeValue, UnitType, Ref, Param, Apply, Var, Anything, UnresolvedError, Node, State, full, already_expanded, Result, ok, err, refused, ◌>>=◌}
use Rattle.definition.specs.Store.{count, type_at, loc_of, with_node, sp}
use Rattle.definition.specs.Subst.{parts, reaches_itself}
use Rattle.definition.specs.Rank.{Meets, meets_it, meets_bound, meets_part}
use Rattle.definition.specs.Write.{Bytes}
use Rattle.definition.specs.Expand.{Expanded, expand_type}
use Rattle.definition.specs.Reader.{got}
use Rattle.definition.specs.Trees.{Tree, unit_tree, anything_tree, error_tree, ref_tree, param_tree, apply_tree, Trees, no_trees, ◌then◌, arity}
use Rattle.definition.specs.Record.{XP, read_record}
use Rattle.definition.specs.Build.{build, build_all}
use Rattle.definition.specs.Sound.{sound}
use Rattle.definition.specs.Step.{number_of_refusal, refusal, answer, step, Answer, answer_within, behind}
use Rattle.definition.specs.Final.{Finally, final_unit, final_any, final_error, final_param, final_ref, final_builtin, AllFinally, final_none, final_each, spelled, codes_of, Marked, marked_list, marked_struct, ReachesMarked, is_marked, through_binding, through_part, Came, came_ok, came_17}
use Rattle.definition.specs.Final.{Whole, whole_unit, whole_any, whole_error, whole_param, whole_ref, whole_name, AllWhole, whole_none, whole_each, Contains, a_list, a_struct, in_ref, in_argument, SomeContain, in_first, in_later, ExpandAgain}
use Rattle.theorems.proofs.Laws.{structs_node, node_old, node_new}
use Rattle.theorems.proofs.DemandTracks.{never}
use Rattle.theorems.proofs.DemandOrder.{All, All_map, Sound}
use Rattle.theorems.proofs.DemandSteps.{Quiet, quiet_refl, quiet_trans, NodeOk}
use Rattle.theorems.proofs.DemandCalls.{new_node}
use Rattle.theorems.proofs.DemandWent.{ref_ok, apply_ok, unit_ok, any_ok, error_ok, param_ok}
use Rattle.theorems.proofs.DemandRuns.{Declared, arity_same}
use Rattle.theorems.proofs.SoundRoom.{Room, room, no_room, sp_room}
use Rattle.theorems.proofs.SoundFacts.{facts}
use Rattle.theorems.proofs.SoundRead.{size, Fine, fine_unit, fine_anything, fine_error, fine_ref, fine_param, fine_apply, fine_var, Fines, fine_none, fine_then}
use Rattle.theorems.proofs.TotalReading.{reaches_is_runs}
use Rattle.theorems.proofs.ExpandMarked.{type_found, seventeen}
use Rattle.theorems.proofs.ExpandFinal.{Expands, expands, type_good, final_once}
use Rattle.theorems.proofs.ExpandRecord.{shown, then_expand, run_is, sound_is, answered}
use Rattle.theorems.proofs.ExpandWhole.{whole_of, final_fine, back}
use Rattle.theorems.proofs.LawsAnswer.{with_is}
use Rattle.theorems.proofs.ExpandNine.{walk_comes}

-- ---- a tree that stands at a node, locations and all. No variable is in it

mutual
  data At (s : State) : ℕ → Tree → Type 0 where
    at_unit : {t l : ℕ} → type_at s t ≡ UnitType → loc_of s t ≡ l → At s t (unit_tree l)
    at_any : {t l : ℕ} → type_at s t ≡ Anything → loc_of s t ≡ l → At s t (anything_tree l)
    at_error : {t l : ℕ} → type_at s t ≡ UnresolvedError → loc_of s t ≡ l → At s t (error_tree l)
    at_param : {t l id a : ℕ} → type_at s t ≡ Param id a → loc_of s t ≡ l → At s t (param_tree l id a)
    at_ref : {t l p : ℕ} {m : Bool} {T : Tree} → type_at s t ≡ Ref m p → loc_of s t ≡ l → At s p T → At s t (ref_tree l m T)
    at_name : {t l set : ℕ} {n : TypeName} {ps : List ℕ} {Ts : Trees} → type_at s t ≡ Apply (Some set) n ps → loc_of s t ≡ l → AllAt s ps Ts → At s t (apply_tree l (Some set) n Ts)

  data AllAt (s : State) : List ℕ → Trees → Type 0 where
    at_none : AllAt s [] no_trees
    at_each : {p : ℕ} {ps : List ℕ} {T : Tree} {Ts : Trees} → At s p T → AllAt s ps Ts → AllAt s (p ∷ ps) (◌then◌ T Ts)

-- a part of a shape
part_of : (x y : TypeValue) {p : ℕ} → x ≡ y → Memᴰ p (parts y) → Memᴰ p (parts x)
part_of x y {p} e m = subst (λ (z : TypeValue). Memᴰ p (parts z)) (sym e) m

no_part : (x y : TypeValue) {p : ℕ} → x ≡ y → parts y ≡ [] → Memᴰ p (parts x) → ⊥
no_part x y {p} e n m = Memᴰ.not-nil (subst (λ (l : List ℕ). Memᴰ p l) (ap parts e ∙ n) m)

single : (Q : ℕ → Type 0) {p u : ℕ} → Memᴰ u (p ∷ []) → Q u → Q p
single Q i q = elim (Memᴰ.cases_cons i) [ inl e ↦ subst Q e q | inr j ↦ absurd (Memᴰ.not-nil j) ]

-- a marked list or struct
abbrev IsMarked : TypeValue → Type 0
IsMarked UnitType = ⊥
IsMarked (Ref m t) = ⊥
IsMarked (Param id a) = ⊥
IsMarked (Apply None n tys) = ⊥
IsMarked (Apply (Some set) (Builtin b) tys) = ⊥
IsMarked (Apply (Some set) (Multiple n) tys) = Unit {0}
IsMarked (Apply (Some set) (ModuleType n) tys) = Unit {0}
IsMarked (Var v) = ⊥
IsMarked Anything = ⊥
IsMarked UnresolvedError = ⊥

marked_so : {x : TypeValue} → Marked x → IsMarked x
marked_so marked_list = tt
marked_so marked_struct = tt

-- ---- it has one final type, itself; what reading comes to is in it

module _ {S : State} where
  mutual
    at_final : {t : ℕ} {T : Tree} {x : TypeValue} → At S t T → (Contains T → ⊥) → type_at S t ≡ x → Finally S t x T []
    at_final {t} (at_unit {l = l} e f) n q = subst (λ (y : TypeValue). Finally S t y (unit_tree l) []) (sym e ∙ q) (final_unit f)
    at_final {t} (at_any {l = l} e f) n q = subst (λ (y : TypeValue). Finally S t y (anything_tree l) []) (sym e ∙ q) (final_any f)
    at_final {t} (at_error {l = l} e f) n q = subst (λ (y : TypeValue). Finally S t y (error_tree l) []) (sym e ∙ q) (final_error f)
    at_final {t} (at_param {l = l} {id = id} {a = a} e f) n q = subst (λ (y : TypeValue). Finally S t y (param_tree l id a) []) (sym e ∙ q) (final_param f)
    at_final {t} (at_ref {l = l} {m = m} {T = T} e f d) n q = subst (λ (y : TypeValue). Finally S t y (ref_tree l m T) []) (sym e ∙ q) (final_ref f (at_final d (λ c. n (in_ref c)) refl))
    at_final {t} (at_name {l = l} {set = set} {n = Builtin b} {Ts = Ts} e f ds) n q = subst (λ (y : TypeValue). Finally S t y (apply_tree l (Some set) (Builtin b) Ts) []) (sym e ∙ q) (final_builtin f (all_final ds (λ c. n (in_argument c))))
    at_final {t} (at_name {l = l} {set = set} {n = Multiple b} {Ts = Ts} e f ds) n q = absurd (n a_list)
    at_final {t} (at_name {l = l} {set = set} {n = ModuleType b} {Ts = Ts} e f ds) n q = absurd (n a_struct)

    all_final : {ps : List ℕ} {Ts : Trees} → AllAt S ps Ts → (SomeContain Ts → ⊥) → AllFinally S ps Ts []
    all_final at_none n = final_none
    all_final (at_each d ds) n = final_each {ls = []} {ms = []} (at_final d (λ c. n (in_first c)) refl) (all_final ds (λ c. n (in_later c))) refl

  mutual
    unfolding parts

    contains_marked : {t : ℕ} {T : Tree} → At S t T → Contains T → ReachesMarked S (type_at S t)
    contains_marked (at_ref {p = p} e f d) (in_ref c) = through_part {p = p} (part_of _ _ e (Memᴰ.head refl)) (contains_marked d c)
    contains_marked (at_name e f ds) a_list = subst (λ (y : TypeValue). ReachesMarked S y) (sym e) (is_marked marked_list)
    contains_marked (at_name e f ds) a_struct = subst (λ (y : TypeValue). ReachesMarked S y) (sym e) (is_marked marked_struct)
    contains_marked (at_name e f ds) (in_argument c) = let z = some_marked ds c in through_part {p = z.0} (part_of _ _ e z.1) z.2
    contains_marked d c = elim c [ ]

    some_marked : {ps : List ℕ} {Ts : Trees} → AllAt S ps Ts → SomeContain Ts → (p : ℕ) × Memᴰ p ps × ReachesMarked S (type_at S p)
    some_marked at_none c = elim c [ ]
    some_marked (at_each {p = p} d ds) (in_first c) = (p, Memᴰ.head refl, contains_marked d c)
    some_marked (at_each d ds) (in_later c) = let z = some_marked ds c in (z.0, Memᴰ.tail z.1, z.2)

  -- a shape that is no variable meets what its parts meet
  by_parts : (v : ℕ) {x : TypeValue} → ((w : ℕ) → x ≡ Var w → ⊥) → ((p : ℕ) → Memᴰ p (parts x) → Meets S v (type_at S p) → ⊥) → Meets S v x → ⊥
  by_parts v n k meets_it = n v refl
  by_parts v n k (meets_bound {w = w} g m) = n w refl
  by_parts v n k (meets_part {p = p} i m) = k p i m

  mutual
    unfolding parts

    at_meets : (v : ℕ) {t : ℕ} {T : Tree} → At S t T → Meets S v (type_at S t) → ⊥
    at_meets v (at_unit e f) m = by_parts v (λ w q. never (cc)) (λ p i k. no_part _ _ e refl i) m
    at_meets v (at_any e f) m = by_parts v (λ w q. never (cc)) (λ p i k. no_part _ _ e refl i) m
    at_meets v (at_error e f) m = by_parts v (λ w q. never (cc)) (λ p i k. no_part _ _ e refl i) m
    at_meets v (at_param e f) m = by_parts v (λ w q. never (cc)) (λ p i k. no_part _ _ e refl i) m
    at_meets v {t} (at_ref {p = p} e f d) m = by_parts v (λ w q. never (cc)) (λ u i k. at_meets v d (single (λ y. Meets S v (type_at S y)) (subst (λ (y : TypeValue). Memᴰ u (parts y)) e i) k)) m
    at_meets v (at_name e f ds) m = by_parts v (λ w q. never (cc)) (λ u i k. all_meet v ds u (subst (λ (y : TypeValue). Memᴰ u (parts y)) e i) k) m

    all_meet : (v : ℕ) {ps : List ℕ} {Ts : Trees} → AllAt S ps Ts → (u : ℕ) → Memᴰ u ps → Meets S v (type_at S u) → ⊥
    all_meet v at_none u i m = Memᴰ.not-nil i
    all_meet v (at_each {p = p} d ds) u i m = elim (Memᴰ.cases_cons i) [ inl e ↦ at_meets v d (subst (λ (y : ℕ). Meets S v (type_at S y)) e m) | inr j ↦ all_meet v ds u j m ]

  -- a marked one that is reached, by the shape
  reach_by : {x : TypeValue} → ((w : ℕ) → x ≡ Var w → ⊥) → ReachesMarked S x → IsMarked x ⊎ ((p : ℕ) × Memᴰ p (parts x) × ReachesMarked S (type_at S p))
  reach_by n (is_marked m) = inl (marked_so m)
  reach_by n (through_binding {v = v} g d) = absurd (n v refl)
  reach_by n (through_part {p = p} i d) = inr (p, i, d)

  -- .. where the shape is known
  reach_at : (x y : TypeValue) → x ≡ y → ((w : ℕ) → y ≡ Var w → ⊥) → ReachesMarked S x → IsMarked y ⊎ ((p : ℕ) × Memᴰ p (parts y) × ReachesMarked S (type_at S p))
  reach_at x y e n d = reach_by n (subst (λ (z : TypeValue). ReachesMarked S z) e d)

  nothing_reached : (y : TypeValue) → (IsMarked y → ⊥) → parts y ≡ [] → IsMarked y ⊎ ((p : ℕ) × Memᴰ p (parts y) × ReachesMarked S (type_at S p)) → ⊥
  nothing_reached y n q (inl m) = n m
  nothing_reached y n q (inr z) = no_part y y refl q z.1

  reach_one : {p : ℕ} → ⊥ ⊎ ((u : ℕ) × Memᴰ u (p ∷ []) × ReachesMarked S (type_at S u)) → ReachesMarked S (type_at S p)
  reach_one (inl z) = absurd z
  reach_one (inr z) = single (λ y. ReachesMarked S (type_at S y)) z.1 z.2

  mutual
    unfolding parts

    marked_contains : {t : ℕ} {T : Tree} → At S t T → ReachesMarked S (type_at S t) → Contains T
    marked_contains {t} (at_unit e f) d = absurd (nothing_reached UnitType (λ m. m) refl (reach_at (type_at S t) UnitType e (λ w q. never (cc)) d))
    marked_contains {t} (at_any e f) d = absurd (nothing_reached Anything (λ m. m) refl (reach_at (type_at S t) Anything e (λ w q. never (cc)) d))
    marked_contains {t} (at_error e f) d = absurd (nothing_reached UnresolvedError (λ m. m) refl (reach_at (type_at S t) UnresolvedError e (λ w q. never (cc)) d))
    marked_contains {t} (at_param {id = id} {a = a} e f) d = absurd (nothing_reached (Param id a) (λ m. m) refl (reach_at (type_at S t) (Param id a) e (λ w q. never (cc)) d))
    marked_contains {t} (at_ref {p = p} {m = m} {T = T} e f a) d = in_ref (marked_contains a (reach_one (reach_at (type_at S t) (Ref m p) e (λ w q. never (cc)) d)))
    marked_contains {t} (at_name {set = set} {n = Builtin b} {ps = ps} {Ts = Ts} e f ds) d = in_argument (only (λ u i k. some_contains ds u i k) (reach_at (type_at S t) (Apply (Some set) (Builtin b) ps) e (λ w q. never (cc)) d))
      where
        only : ((u : ℕ) → Memᴰ u ps → ReachesMarked S (type_at S u) → SomeContain Ts) → ⊥ ⊎ ((u : ℕ) × Memᴰ u ps × ReachesMarked S (type_at S u)) → SomeContain Ts
        only k (inl z) = absurd z
        only k (inr z) = k z.0 z.1 z.2
    marked_contains (at_name {n = Multiple b} e f ds) d = a_list
    marked_contains (at_name {n = ModuleType b} e f ds) d = a_struct

    some_contains : {ps : List ℕ} {Ts : Trees} → AllAt S ps Ts → (u : ℕ) → Memᴰ u ps → ReachesMarked S (type_at S u) → SomeContain Ts
    some_contains at_none u i d = absurd (Memᴰ.not-nil i)
    some_contains (at_each {p = p} a as') u i d = elim (Memᴰ.cases_cons i) [ inl e ↦ in_first (marked_contains a (subst (λ (y : ℕ). ReachesMarked S (type_at S y)) e d)) | inr j ↦ in_later (some_contains as' u j d) ]

-- ---- a tree placed stands

record Kept (ar : TypeName → ℕ) (S S' : State) : Type 0 where
  sound_after : Sound ar S'
  quiet : Quiet S S'
  same_loc : (i : ℕ) → i < count S → loc_of S' i ≡ loc_of S i
  same_structs : S'.structs ≡ S.structs

kept_refl : {ar : TypeName → ℕ} {S : State} → Sound ar S → Kept ar S S
kept_refl {S = S} s = record { sound_after = s; quiet = quiet_refl S; same_loc = λ i h. refl; same_structs = refl }

kept_trans : {ar : TypeName → ℕ} {S S' S'' : State} → Kept ar S S' → Kept ar S' S'' → Kept ar S S''
kept_trans a b = record { sound_after = b.sound_after; quiet = quiet_trans a.quiet b.quiet; same_loc = λ i h. b.same_loc i (omega (arith, h, a.quiet.q_nodes)) ∙ a.same_loc i h; same_structs = b.same_structs ∙ a.same_structs }

loc_old : (s : State) (l : ℕ) (x : TypeValue) (i : ℕ) → i < count s → loc_of (with_node s l x) i ≡ loc_of s i
unfolding loc_of
loc_old s l x i h = ap (λ (n : Node). n.loc) (node_old s l x i h)

loc_new : (s : State) (l : ℕ) (x : TypeValue) → loc_of (with_node s l x) (count s) ≡ l
unfolding loc_of
loc_new s l x = ap (λ (n : Node). n.loc) (node_new s l x)

module _ {ar : TypeName → ℕ} {S S' : State} (s : Sound ar S) (a : Kept ar S S') where
  inside : (t : ℕ) (x : TypeValue) → t < count S → type_at S t ≡ x → All (λ p. p < count S) (parts x)
  inside t x h e = subst (λ (y : TypeValue). All (λ p. p < count S) (parts y)) e (All_map {P = λ p. p < t} (λ p l. omega (arith, h, l)) (parts (type_at S t)) (s.parts_below t h))

  mutual
    unfolding parts

    stays : {t : ℕ} {T : Tree} → t < count S → At S t T → At S' t T
    stays {t} h (at_unit e f) = at_unit (a.quiet.q_kept t h ∙ e) (a.same_loc t h ∙ f)
    stays {t} h (at_any e f) = at_any (a.quiet.q_kept t h ∙ e) (a.same_loc t h ∙ f)
    stays {t} h (at_error e f) = at_error (a.quiet.q_kept t h ∙ e) (a.same_loc t h ∙ f)
    stays {t} h (at_param e f) = at_param (a.quiet.q_kept t h ∙ e) (a.same_loc t h ∙ f)
    stays {t} h (at_ref {p = p} {m = m} e f d) = at_ref (a.quiet.q_kept t h ∙ e) (a.same_loc t h ∙ f) (stays (inside t (Ref m p) h e).0 d)
    stays {t} h (at_name {set = set} {n = n} {ps = ps} e f ds) = at_name (a.quiet.q_kept t h ∙ e) (a.same_loc t h ∙ f) (all_stay (inside t (Apply (Some set) n ps) h e) ds)

    all_stay : {ps : List ℕ} {Ts : Trees} → All (λ p. p < count S) ps → AllAt S ps Ts → AllAt S' ps Ts
    all_stay h at_none = at_none
    all_stay h (at_each d ds) = at_each (stays h.0 d) (all_stay h.1 ds)

-- placed, or no room
data Placed (ar : TypeName → ℕ) (S : State) (T : Tree) : Result (State × ℕ) → Type 0 where
  placed : {S' : State} {t : ℕ} → Kept ar S S' → t < count S' → At S' t T → Placed ar S T (ok (S', t))
  no_place : Placed ar S T (refused full)

data AllPlaced (ar : TypeName → ℕ) (S : State) (Ts : Trees) : Result (State × List ℕ) → Type 0 where
  all_placed : {S' : State} {ts : List ℕ} → Kept ar S S' → All (λ t. t < count S') ts → length ts ≡ size Ts → AllAt S' ts Ts → AllPlaced ar S Ts (ok (S', ts))
  no_places : AllPlaced ar S Ts (refused full)

module _ {ar : TypeName → ℕ} where
  sp_placed : {S : State} → Sound ar S → (l : ℕ) (x : TypeValue) → NodeOk ar S x → {T : Tree} → (Kept ar S (with_node S l x) → type_at (with_node S l x) (count S) ≡ x → loc_of (with_node S l x) (count S) ≡ l → At (with_node S l x) (count S) T) → Placed ar S T (sp S l x)
  sp_placed {S} s l x o {T} f = go (sp_room S l x)
    where
      go : {P : Type 0} {m : Result (State × ℕ)} → Room P (with_node S l x, count S) m → Placed ar S T m
      go (room e) =
          let n = new_node s l x o in
          let k : Kept ar S (with_node S l x) = record { sound_after = n.sound; quiet = n.quiet; same_loc = λ i h. loc_old S l x i h; same_structs = structs_node S l x } in
          placed {t = count S} k n.t_in (f k n.is (loc_new S l x))
      go (no_room q) = no_place

  placed_from : {S S' : State} {T : Tree} {m : Result (State × ℕ)} → Kept ar S S' → Placed ar S' T m → Placed ar S T m
  placed_from a (placed b h d) = placed (kept_trans a b) h d
  placed_from a no_place = no_place

  ref_placed : (S : State) (l : ℕ) (m : Bool) {T : Tree} {x : Result (State × ℕ)} → Placed ar S T x → Placed ar S (ref_tree l m T) (x >>= (λ (y : State × ℕ). sp y.0 l (Ref m y.1)))
  unfolding ◌>>=◌
  ref_placed S l m (placed {S' = S1} {t = u} a h d) = placed_from a (sp_placed a.sound_after l (Ref m u) (ref_ok m u h) (λ k e f. at_ref e f (stays a.sound_after k h d)))
  ref_placed S l m no_place = no_place

  name_placed : (S : State) (l set : ℕ) (n : TypeName) {Ts : Trees} {x : Result (State × List ℕ)} → size Ts ≡ ar n → AllPlaced ar S Ts x → Placed ar S (apply_tree l (Some set) n Ts) (x >>= (λ (y : State × List ℕ). sp y.0 l (Apply (Some set) n y.1)))
  unfolding ◌>>=◌
  name_placed S l set n e (all_placed {S' = S1} {ts = us} a h q d) = placed_from a (sp_placed a.sound_after l (Apply (Some set) n us) (apply_ok (Some set) n us h (q ∙ e)) (λ k i f. at_name i f (all_stay a.sound_after k h d)))
  name_placed S l set n e no_places = no_place

  first_of : {S : State} {T : Tree} {Ts : Trees} {m : Result (State × ℕ)} (f : State → Result (State × List ℕ)) → Placed ar S T m → ((S1 : State) → Kept ar S S1 → AllPlaced ar S1 Ts (f S1))
      → AllPlaced ar S (◌then◌ T Ts) (m >>= (λ (x : State × ℕ). f x.0 >>= (λ (y : State × List ℕ). ok (y.0, x.1 ∷ y.1))))
  unfolding ◌>>=◌
  first_of {S} {T} {Ts} f (placed {S' = S1} {t = u} a h d) g = second (f S1) (g S1 a)
    where
      second : (m : Result (State × List ℕ)) → AllPlaced ar S1 Ts m → AllPlaced ar S (◌then◌ T Ts) (m >>= (λ (y : State × List ℕ). ok (y.0, u ∷ y.1)))
      second (ok (S2, us)) (all_placed b hs e ds) = all_placed {ts = u ∷ us} (kept_trans a b) (omega (arith, h, b.quiet.q_nodes), hs) (ap suc e) (at_each (stays a.sound_after b h d) ds)
      second (err z x) q = elim q [ ]
      second (refused x) no_places = no_places
  first_of f no_place g = no_places

  mutual
    unfolding build build_all

    tree_placed : {vars : ℕ} {T : Tree} → Whole T → Fine ar vars T → {S : State} → Sound ar S → Placed ar S T (build T S)
    tree_placed (whole_unit {l = l}) f s = sp_placed s l UnitType unit_ok (λ k e q. at_unit e q)
    tree_placed (whole_any {l = l}) f s = sp_placed s l Anything any_ok (λ k e q. at_any e q)
    tree_placed (whole_error {l = l}) f s = sp_placed s l UnresolvedError error_ok (λ k e q. at_error e q)
    tree_placed (whole_param {l = l} {id = id} {a = a}) f s = sp_placed s l (Param id a) (param_ok id a) (λ k e q. at_param e q)
    tree_placed (whole_ref {l = l} {m = m} w) (fine_ref f) {S} s = ref_placed S l m (tree_placed w f s)
    tree_placed (whole_name {l = l} {set = set} {n = n} w) (fine_apply f e) {S} s = name_placed S l set n e (trees_placed w f s)

    trees_placed : {vars : ℕ} {Ts : Trees} → AllWhole Ts → Fines ar vars Ts → {S : State} → Sound ar S → AllPlaced ar S Ts (build_all Ts S)
    trees_placed whole_none f {S} s = all_placed (kept_refl s) tt refl at_none
    trees_placed (whole_each {Ts = Ts} w ws) (fine_then f fs) s = first_of (λ S1. build_all Ts S1) (tree_placed w f s) (λ S1 b. trees_placed ws fs b.sound_after)

-- ---- XP of it

-- equal declarations
module _ (s s' : State) (e : s'.structs ≡ s.structs) where
  mutual
    fine_there : {vars : ℕ} {T : Tree} → Fine (arity s) vars T → Fine (arity s') vars T
    fine_there fine_unit = fine_unit
    fine_there fine_anything = fine_anything
    fine_there fine_error = fine_error
    fine_there (fine_ref f) = fine_ref (fine_there f)
    fine_there fine_param = fine_param
    fine_there (fine_apply {n = n} f q) = fine_apply (fines_there f) (q ∙ sym (arity_same s s' e n))
    fine_there (fine_var l) = fine_var l

    fines_there : {vars : ℕ} {Ts : Trees} → Fines (arity s) vars Ts → Fines (arity s') vars Ts
    fines_there fine_none = fine_none
    fines_there (fine_then f fs) = fine_then (fine_there f) (fines_there fs)

fits : (s : State) (p : Bytes) → length p ≤ 4096 → ((answer s (ok (s, p))).number ≡ 0) × ((answer s (ok (s, p))).payload ≡ p)
unfolding answer answer_within behind
fits s p h = rw (with_is s 0 p s, le-leb (length p) 4096 h) (refl, refl)

is_17 : (s : State) → (answer s (refused already_expanded)).number ≡ 17
unfolding answer answer_within refusal number_of_refusal
is_17 s = refl

module _ (S : State) (T : Tree) (few : length (spelled T) ≤ 4094) where
  -- what is answered
  abbrev Again : Answer → Type 0
  Again a = (Contains T → a.number ≡ 17) × ((Contains T → ⊥) → (a.number ≡ 0) × (a.payload ≡ spelled T))

  module _ {ar : TypeName → ℕ} (S1 : State) (w : Sound ar S1) (declared : Declared ar S1) (t : ℕ) (h : t < count S1) (d : At S1 t T) where
    clear : reaches_itself S1 t ≡ false
    clear = go (reaches_itself S1 t) refl
      where
        go : (b : Bool) → reaches_itself S1 t ≡ b → b ≡ false
        go true e = let l = (reaches_is_runs w t h).0 e in absurd (at_meets l.variable d l.meets)
        go false e = refl

    marked_as : (expand_type S1 t ≡ refused already_expanded) ↔ ReachesMarked S1 (type_at S1 t)
    marked_as = seventeen (type_found S1 t clear) (walk_comes w t h clear)

    by_came : (m : Result Expanded) → expand_type S1 t ≡ m → Came m → Expands S1 t (type_at S1 t) m → Again (answer S (shown S m))
    unfolding ◌>>=◌ codes_of
    by_came (ok x) q came_ok (expands {T = U} {ls = ls} f g k) = (
      λ c. never (let z = sym q ∙ marked_as.1 (contains_marked d c) in cc),
      λ n. let o = final_once f (at_final d n refl) in let p : x.type ++ x.codes ≡ spelled T = rw (g, k, o.0, o.1) (append-nil (spelled T)) in rw p (fits S (spelled T) (omega (arith, few))),
    )
    by_came (err z x) q c e = elim c [ ]
    by_came (refused x) q came_17 e = (λ c. is_17 S, λ n. absurd (n (marked_contains d (marked_as.0 q))))

    again_at : Again (answer S (shown S (expand_type S1 t)))
    again_at = by_came (expand_type S1 t) refl (walk_comes w t h clear) (type_good w declared t h)

  by_placed : (m : Result (State × ℕ)) → Placed (arity S) S T m → m ≢ refused full → Again (answer S (then_expand S m))
  unfolding ◌>>=◌
  by_placed (ok (S1, t)) (placed k h d) n = again_at S1 k.sound_after (λ n. arity_same S S1 k.same_structs n) t h d
  by_placed (err z x) p n = elim p [ ]
  by_placed (refused x) no_place n = absurd (n refl)

pub expand_again : (s s' : State) → ExpandAgain s s'
unfolding ExpandAgain
expand_again s s' bytes buffer buffer' tree p b c h x e d l u n =
    let T = x.final in
    let r : read_record s' (88 ∷ 80 ∷ spelled T) ≡ got (XP T) [] = back s s' bytes tree p b c h x e d l in
    let z : sound s' ≡ true = sound_is s' (88 ∷ 80 ∷ spelled T) buffer' T u r in
    let a : step s' (88 ∷ 80 ∷ spelled T) buffer' ≡ answer s' (then_expand s' (build T s')) = answered s' (88 ∷ 80 ∷ spelled T) buffer' T u r ∙ ap (λ (m : Result (State × Bytes)). answer s' m) (run_is s' T) in
    let w : Fine (arity s') 0 T = fine_there s s' (sym e) (final_fine s s' bytes tree p b c h x e) in
    rw a (by_placed s' T l (build T s') (tree_placed (whole_of x.is_final) w (facts s' z)) n)
