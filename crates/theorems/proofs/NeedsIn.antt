-- What placing a type without variables takes, and what instantiating it takes: exactly that, or 7 is given. Assumes nothing.
-- First what each takes, by the tree; then the tree that stands at a node; then placing, by the tree; then instantiating, by the tree that stands there. What is known of the
-- states between is NoFailIn's.
use mathlib.Core.Path.{◌≡◌, refl, sym, ap, ◌∙◌, subst}
use mathlib.Core.Bool.{Bool}
use mathlib.Core.List.{List, [], ◌∷◌}
use Prim.Native.Nat.{ℕ, zero, suc, ◌+◌, ◌*◌, ◌≤◌, ◌<◌}
use native.Mathlib.Omega.{arith}
use lib.ListN.{length}
use Rattle.definition.specs.Types.{TypeName, AbilityMark, TypeValue, UnitType, Ref, Param, Apply, Var, Anything, UnresolvedError, State}
use Rattle.definition.specs.Store.{count, taken, type_at, loc_of, args_of, map_types}
use Rattle.definition.specs.Subst.{as_var, parts}
use Rattle.definition.specs.Trees.{Tree, unit_tree, anything_tree, error_tree, ref_tree, param_tree, apply_tree, var_tree, Trees, no_trees, ◌then◌}
use Rattle.definition.specs.Build.{build, build_all}
use Rattle.definition.specs.Instantiate.{tparam_constraints, join_args, instantiate_type_args, instantiate_apply, instantiate_value, instantiate_down}
use Rattle.definition.specs.Needs.{Needs}
use Rattle.theorems.proofs.Laws.{get_beyond}
use Rattle.theorems.proofs.DemandOrder.{All, All_map, Sound}
use Rattle.theorems.proofs.LawsPost.{Grown, grown_refl, grown_trans}
use Rattle.theorems.proofs.DemandCalls.{var_ok}
use Rattle.theorems.proofs.SoundRead.{size, Fine, fine_unit, fine_anything, fine_error, fine_ref, fine_param, fine_apply, fine_var, Fines, fine_none, fine_then}
use Rattle.theorems.proofs.DemandWent.{ref_ok, apply_ok, unit_ok, any_ok, error_ok, param_ok}
use Rattle.theorems.proofs.DemandRuns.{WentAll, Declared, declared_on, tparams_many, make_tparams_went, type_args_went, instantiate_down_went}
use Rattle.theorems.proofs.JoinWrites.{wrote, wrote_all, name_size, head_size, wrote_of, var_wrote, ref_wrote, apply_wrote, wrote_kept, wrote_all_kept}
use Rattle.theorems.proofs.NeedsExact.{four, sum, ExactAnd, exact_ok, more_none, exact_as, exact_map, exact_with, exact_post, exact_bind}
use Rattle.theorems.proofs.TotalNoFailIn.{NodeAt, sp_exact, merged, merges, VarsFrom, join_args_exact, add_exact, make_exact, Tparams, pairs_in, for_each, tparams_exact, Fresh, Freshes, map_sure, pairs_of, inst_sure, num_beyond}

-- ---- what each takes

unfoldable mutual
  -- placing
  pub placed : Tree → Needs
  placed (unit_tree loc) = four 1 0 0 0
  placed (anything_tree loc) = four 1 0 0 0
  placed (error_tree loc) = four 1 0 0 0
  placed (ref_tree loc mut t) = sum (placed t) (four 1 0 0 0)
  placed (param_tree loc id abilities) = four 1 0 0 0
  placed (apply_tree loc k n ts) = sum (placed_all ts) (four 1 (size ts) 0 0)
  placed (var_tree loc v) = four 1 0 0 0

  pub placed_all : Trees → Needs
  placed_all no_trees = four 0 0 0 0
  placed_all (◌then◌ t ts) = sum (placed t) (placed_all ts)

-- the join of an argument's variable with it
unfoldable pub merging : Tree → Needs
merging (unit_tree loc) = four 0 0 0 0
merging (anything_tree loc) = four 4 0 1 0
merging (error_tree loc) = four 0 0 0 0
merging (ref_tree loc mut t) = four 0 0 0 0
merging (param_tree loc id abilities) = four 0 0 0 0
merging (apply_tree loc k n ts) = four 0 0 0 0
merging (var_tree loc v) = four 0 0 0 0

unfoldable pub merging_all : Trees → Needs
merging_all no_trees = four 0 0 0 0
merging_all (◌then◌ t ts) = sum (merging t) (merging_all ts)

unfoldable mutual
  -- instantiating
  pub made : Tree → Needs
  made (unit_tree loc) = four 0 0 0 0
  made (anything_tree loc) = four 1 0 1 0
  made (error_tree loc) = four 0 0 0 0
  made (ref_tree loc mut t) = sum (made t) (four 1 0 0 1)
  made (param_tree loc id abilities) = four 0 0 0 0
  made (apply_tree loc k n ts) = sum (for_each (size ts)) (sum (made_all ts) (sum (merging_all ts) (four 1 (size ts) 0 0)))
  made (var_tree loc v) = four 0 0 0 0

  pub made_all : Trees → Needs
  made_all no_trees = four 0 0 0 0
  made_all (◌then◌ t ts) = sum (made t) (made_all ts)

-- the bytes that the result is written in: every argument is a variable
unfoldable pub shown : Tree → ℕ
shown (unit_tree loc) = 5
shown (anything_tree loc) = 7
shown (error_tree loc) = 5
shown (ref_tree loc mut t) = 6 + shown t
shown (param_tree loc id abilities) = 10
shown (apply_tree loc k n ts) = name_size n + 7 * size ts
shown (var_tree loc v) = 7

-- ---- the tree that stands at a node

mutual
  pub data Holds (S : State) : ℕ → Tree → Type 0 where
    holds_unit : {x loc : ℕ} → type_at S x ≡ UnitType → Holds S x (unit_tree loc)
    holds_anything : {x loc : ℕ} → type_at S x ≡ Anything → Holds S x (anything_tree loc)
    holds_error : {x loc : ℕ} → type_at S x ≡ UnresolvedError → Holds S x (error_tree loc)
    holds_ref : {x y loc : ℕ} {mut : Bool} {t : Tree} → type_at S x ≡ Ref mut y → Holds S y t → Holds S x (ref_tree loc mut t)
    holds_param : {x loc id abilities : ℕ} → type_at S x ≡ Param id abilities → Holds S x (param_tree loc id abilities)
    holds_apply : {x loc : ℕ} {k : AbilityMark} {n : TypeName} {ys : List ℕ} {ts : Trees} → type_at S x ≡ Apply k n ys → Hold S ys ts → Holds S x (apply_tree loc k n ts)
    holds_var : {x loc v : ℕ} → type_at S x ≡ Var v → Holds S x (var_tree loc v)

  pub data Hold (S : State) : List ℕ → Trees → Type 0 where
    hold_none : Hold S [] no_trees
    hold_then : {x : ℕ} {xs : List ℕ} {t : Tree} {ts : Trees} → Holds S x t → Hold S xs ts → Hold S (x ∷ xs) (◌then◌ t ts)

hold_many : {S : State} {xs : List ℕ} {ts : Trees} → Hold S xs ts → length xs ≡ size ts
hold_many hold_none = refl
hold_many (hold_then h hs) = ap suc (hold_many hs)

module _ {ar : TypeName → ℕ} {S S' : State} (s : Sound ar S) (g : Grown S S') where
  mutual
    unfolding parts

    pub holds_keep : {x : ℕ} {t : Tree} → x < count S → Holds S x t → Holds S' x t
    holds_keep {x} i (holds_unit e) = holds_unit (g.g_kept x i ∙ e)
    holds_keep {x} i (holds_anything e) = holds_anything (g.g_kept x i ∙ e)
    holds_keep {x} i (holds_error e) = holds_error (g.g_kept x i ∙ e)
    holds_keep {x} i (holds_ref {y = y} e h) = let b : y < x = (rw e at (s.parts_below x i)).0 in holds_ref (g.g_kept x i ∙ e) (holds_keep (omega arith) h)
    holds_keep {x} i (holds_param e) = holds_param (g.g_kept x i ∙ e)
    holds_keep {x} i (holds_apply {ys = ys} e hs) = let b : All (λ p. p < x) ys = rw e at (s.parts_below x i) in holds_apply (g.g_kept x i ∙ e) (hold_keep (All_map (λ p l. omega arith) ys b) hs)
    holds_keep {x} i (holds_var e) = holds_var (g.g_kept x i ∙ e)

    pub hold_keep : {xs : List ℕ} {ts : Trees} → All (λ x. x < count S) xs → Hold S xs ts → Hold S' xs ts
    hold_keep a hold_none = hold_none
    hold_keep a (hold_then h hs) = hold_then (holds_keep a.0 h) (hold_keep a.1 hs)

-- ---- placing

pub record Placed (ar : TypeName → ℕ) (S : State) (t : Tree) (a : State × ℕ) : Type 0 where
  pub sound : Sound ar a.0
  pub grown : Grown S a.0
  pub t_in : a.1 < count a.0
  pub holds : Holds a.0 a.1 t

record Placed_all (ar : TypeName → ℕ) (S : State) (ts : Trees) (a : State × List ℕ) : Type 0 where
  sound : Sound ar a.0
  grown : Grown S a.0
  ts_in : All (λ x. x < count a.0) a.1
  hold : Hold a.0 a.1 ts

new_placed : {ar : TypeName → ℕ} {S S1 : State} {sh : TypeValue} {t : Tree} {a : State × ℕ} → Grown S S1 → NodeAt ar S1 sh a → Holds a.0 a.1 t → Placed ar S t a
new_placed g w h = record { sound = w.new.sound; grown = grown_trans g w.grown; t_in = w.new.t_in; holds = h }

module _ {ar : TypeName → ℕ} {vars : ℕ} where
  mutual
    unfolding build build_all placed placed_all args_of

    pub build_exact : {t : Tree} → Fine ar vars t → {S : State} → Sound ar S → vars ≤ taken S → ExactAnd S (placed t) (Placed ar S t) (build t S)
    build_exact (fine_unit {loc = loc}) {S} s h = exact_map (λ a w. new_placed (grown_refl S) w (holds_unit w.new.is)) (sp_exact s loc UnitType unit_ok)
    build_exact (fine_anything {loc = loc}) {S} s h = exact_map (λ a w. new_placed (grown_refl S) w (holds_anything w.new.is)) (sp_exact s loc Anything any_ok)
    build_exact (fine_error {loc = loc}) {S} s h = exact_map (λ a w. new_placed (grown_refl S) w (holds_error w.new.is)) (sp_exact s loc UnresolvedError error_ok)
    build_exact (fine_ref {loc = loc} {mut = mut} f) s h = exact_bind _ (build_exact f s h) (λ a p.
        exact_map (λ b w. new_placed p.grown w (holds_ref w.new.is (holds_keep p.sound w.grown p.t_in p.holds))) (sp_exact p.sound loc (Ref mut a.1) (ref_ok mut a.1 p.t_in)))
    build_exact (fine_param {loc = loc} {id = id} {abilities = b}) {S} s h = exact_map (λ a w. new_placed (grown_refl S) w (holds_param w.new.is)) (sp_exact s loc (Param id b) (param_ok id b))
    build_exact (fine_apply {loc = loc} {k = k} {n = n} {ts = ts} fs e) {S} s h = exact_bind {k = four 1 (size ts) 0 0} _ (build_all_exact fs s h) (λ a p.
        let many = hold_many p.hold in
        exact_as (exact_map (λ b w. new_placed p.grown w (holds_apply w.new.is (hold_keep p.sound w.grown p.ts_in p.hold))) (sp_exact p.sound loc (Apply k n a.1) (apply_ok k n a.1 p.ts_in (many ∙ e))))
        (record { same_nodes = refl; same_places = many; same_variables = refl; same_constraints = refl }))
    build_exact (fine_var {loc = loc} {v = v} l) {S} s h = exact_map (λ a w. new_placed (grown_refl S) w (holds_var w.new.is)) (sp_exact s loc (Var v) (var_ok v (omega arith)))

    build_all_exact : {ts : Trees} → Fines ar vars ts → {S : State} → Sound ar S → vars ≤ taken S → ExactAnd S (placed_all ts) (Placed_all ar S ts) (build_all ts S)
    build_all_exact fine_none {S} s h = exact_ok (more_none S) (record { sound = s; grown = grown_refl S; ts_in = tt; hold = hold_none })
    build_all_exact (fine_then f fs) s h = exact_as (exact_bind _ (build_exact f s h) (λ a p. exact_bind _ (build_all_exact fs p.sound (omega (arith, p.grown.g_vars))) (λ b q. exact_ok (more_none b.0) (record {
      sound = q.sound;
      grown = grown_trans p.grown q.grown;
      ts_in = (omega (arith, p.t_in, q.grown.g_nodes), q.ts_in);
      hold = hold_then (holds_keep p.sound q.grown p.t_in p.holds) q.hold;
    })))) (omega arith)

-- ---- instantiating

-- an argument instantiated is an open variable just if it was `_`
data Opens (S : State) : List ℕ → Trees → Type 0 where
  opens_none : Opens S [] no_trees
  opens_then : {u : ℕ} {us : List ℕ} {t : Tree} {ts : Trees} → merged (type_at S u) ≡ merging t → Opens S us ts → Opens S (u ∷ us) (◌then◌ t ts)

opens_many : {S : State} {us : List ℕ} {ts : Trees} → Opens S us ts → length us ≡ size ts
opens_many opens_none = refl
opens_many (opens_then e o) = ap suc (opens_many o)

merges_are : {S : State} (vs : List ℕ) {us : List ℕ} {ts : Trees} → length vs ≡ length us → Opens S us ts → merges S vs us ≡ merging_all ts
unfolding merging_all
merges_are [] e opens_none = refl
merges_are [] e (opens_then m o) = absurd (omega arith)
merges_are (v ∷ vs) e opens_none = absurd (omega arith)
merges_are (v ∷ vs) e (opens_then m o) = rw (m, merges_are vs (omega arith) o) refl

pairs_all : (tys cs : List ℕ) → length tys ≡ length cs → pairs_in tys cs ≡ length tys
pairs_all [] cs e = refl
pairs_all (ty ∷ tys) [] e = absurd (omega arith)
pairs_all (ty ∷ tys) (c ∷ cs) e = ap suc (pairs_all tys cs (omega arith))

vars_wrote : {ar : TypeName → ℕ} {S : State} (a : ℕ) → Sound ar S → (us : List ℕ) → VarsFrom S a us → wrote_all S us ≡ 7 * length us
unfolding VarsFrom wrote_all
vars_wrote a s [] v = refl
vars_wrote a s (u ∷ us) v = let h = var_wrote s u v.0.1.0 v.0.1.1 v.0.0 in let t = vars_wrote a s us v.1 in omega arith

module _ (ar : TypeName → ℕ) where
  -- the result of instantiating t
  abbrev pub Opened : Tree → State × ℕ → Type 0
  Opened t a = (merged (type_at a.0 a.1) ≡ merging t) × (wrote a.0 a.1 ≡ shown t)

  abbrev pub InstAt : Tree → Type 0
  InstAt t = (n : ℕ) (S : State) (x : ℕ) → Sound ar S → Declared ar S → x < count S → x < n → Holds S x t → ExactAnd S (made t) (Opened t) (instantiate_down n S x)

  abbrev LevelAt : Tree → Type 0
  LevelAt t = (n : ℕ) (S : State) (x : ℕ) → Sound ar S → Declared ar S → x < count S → x ≤ n → Holds S x t
      → ExactAnd S (made t) (Opened t) (instantiate_value (λ s t. instantiate_down n s t) S x (loc_of S x) (type_at S x))

  abbrev MapAt : Trees → Type 0
  MapAt ts = (n : ℕ) (S : State) (xs : List ℕ) → Sound ar S → Declared ar S → All (λ x. x < count S) xs → All (λ x. x < n) xs → Hold S xs ts
      → ExactAnd S (made_all ts) (λ r. Opens r.0 r.1 ts) (map_types (λ s t. instantiate_down n s t) S xs)

  by_level : (t : Tree) → LevelAt t → InstAt t
  unfolding instantiate_down
  by_level t l zero S x s d i j h = absurd (omega arith)
  by_level t l (suc n) S x s d i j h = l n S x s d i (omega arith) h

  -- with what NoFailIn says of it
  pub inst_full : (t : Tree) → InstAt t → (n : ℕ) (S : State) (x : ℕ) → Sound ar S → Declared ar S → x < count S → x < n → Holds S x t → ExactAnd S (made t) (λ a. Fresh ar S a × Opened t a) (instantiate_down n S x)
  inst_full t f n S x s d i j h = exact_with (inst_sure n S x s d i) (f n S x s d i j h) (λ a p q. (q, p))

  map_full : (ts : Trees) → MapAt ts → (n : ℕ) (S : State) (xs : List ℕ) → Sound ar S → Declared ar S → All (λ x. x < count S) xs → All (λ x. x < n) xs → Hold S xs ts
      → ExactAnd S (made_all ts) (λ r. Freshes ar S r × Opens r.0 r.1 ts) (map_types (λ s t. instantiate_down n s t) S xs)
  map_full ts f n S xs s d i j hs = exact_with (map_sure (λ s t. instantiate_down n s t) (λ S t s d i. inst_sure n S t s d i) xs s d i) (f n S xs s d i j hs) (λ r o q. (q, o))

  unit_level : (loc : ℕ) → LevelAt (unit_tree loc)
  unfolding instantiate_value made merging as_var shown parts head_size wrote_all
  unit_level loc n S x s d i j (holds_unit e) = rw e (exact_ok {a = (S, x)} (more_none S) (rw (e, merged) refl, wrote_of s x UnitType e i))

  anything_level : (loc : ℕ) → LevelAt (anything_tree loc)
  unfolding instantiate_value made merging as_var shown parts head_size wrote_all
  anything_level loc n S x s d i j (holds_anything e) = rw e (exact_map (λ A a. (rw (a.is, merged) refl, var_wrote a.steady.after A.1 (taken S) a.is a.t_in)) (make_exact s (loc_of S x)))

  error_level : (loc : ℕ) → LevelAt (error_tree loc)
  unfolding instantiate_value made merging as_var shown parts head_size wrote_all
  error_level loc n S x s d i j (holds_error e) = rw e (exact_ok {a = (S, x)} (more_none S) (rw (e, merged) refl, wrote_of s x UnresolvedError e i))

  param_level : (loc id abilities : ℕ) → LevelAt (param_tree loc id abilities)
  unfolding instantiate_value made merging as_var shown parts head_size wrote_all
  param_level loc id abilities n S x s d i j (holds_param e) = rw e (exact_ok {a = (S, x)} (more_none S) (rw (e, merged) refl, wrote_of s x (Param id abilities) e i))

  ref_level : (loc : ℕ) (mut : Bool) (t : Tree) → InstAt t → LevelAt (ref_tree loc mut t)
  unfolding instantiate_value made merging as_var shown parts args_of
  ref_level loc mut t f n S x s d i j (holds_ref {y = y} e h) =
      let b : y < x = (rw e at (s.parts_below x i)).0 in
      rw e (exact_as (
      exact_bind _ (add_exact s _ (omega arith)) (λ A a.
      let z = a.steady in
      exact_bind _ (inst_full t f n A y z.after (declared_on d z.grown) (omega (arith, z.grown.g_nodes)) (omega arith) (holds_keep s z.grown (omega arith) h)) (λ B q.
      exact_map (λ C w. (rw (w.new.is, merged) refl, ref_wrote w.new.sound C.1 mut B.1 w.new.is w.new.t_in ∙ ap (λ (k : ℕ). 6 + k) (wrote_kept q.0.steady.after w.new.sound w.grown B.1 q.0.t_in ∙ q.1.1)))
      (sp_exact q.0.steady.after (loc_of S x) (Ref mut B.1) (ref_ok mut B.1 q.0.t_in))))) (omega arith))

  no_args : MapAt no_trees
  unfolding map_types made_all
  no_args n S [] s d i j hold_none = exact_ok (more_none S) opens_none
  no_args n S (x ∷ xs) s d i j h = elim h [ ]

  then_args : (t : Tree) (ts : Trees) → InstAt t → MapAt ts → MapAt (◌then◌ t ts)
  unfolding map_types made_all
  then_args t ts f fs n S [] s d i j h = elim h [ ]
  then_args t ts f fs n S (x ∷ xs) s d i j (hold_then h hs) = exact_as (
      exact_bind _ (inst_full t f n S x s d i.0 j.0 h) (λ A a.
      let z = a.0.steady in
      exact_bind _ (map_full ts fs n A.0 xs z.after (declared_on d z.grown) (All_map (λ p l. omega (arith, z.grown.g_nodes)) xs i.1) j.1 (hold_keep s z.grown i.1 hs)) (λ B q.
      exact_ok (more_none B.0) (opens_then (ap (λ (v : TypeValue). merged v) (q.0.steady.grown.g_kept A.1 a.0.t_in) ∙ a.1.0) q.1)))) (omega arith)

  args_exact : (ts : Trees) → MapAt ts → (loc : ℕ) (name : TypeName) (cs : List ℕ) (n : ℕ) (S : State) (xs : List ℕ) → Sound ar S → Declared ar S → All (λ x. x < count S) xs → All (λ x. x < n) xs
      → length xs ≡ length cs → Hold S xs ts → ExactAnd S (sum (for_each (size ts)) (sum (made_all ts) (merging_all ts))) (λ r. VarsFrom r.0 (taken S) r.1) (instantiate_type_args (λ s t. instantiate_down n s t) S loc name xs cs)
  unfolding instantiate_type_args
  args_exact ts fs loc name cs n S xs s d i j e hs =
      let all : pairs_in xs cs ≡ size ts = pairs_all xs cs e ∙ hold_many hs in
      exact_as (exact_bind _ (exact_post {R = λ r. (length r.1 ≡ length xs) × Tparams ar S r} (make_tparams_went loc name xs cs s e) (tparams_exact loc name xs cs s) (λ S1 vs g w p. (w.many, p))) (λ A a.
      let z = a.1.steady in
      exact_bind _ (map_full ts fs n A.0 xs z.after (declared_on d z.grown) (All_map (λ p l. omega (arith, z.grown.g_nodes)) xs i) j (hold_keep s z.grown i hs)) (λ B q.
      let y = q.0.steady in
      subst (λ (k : Needs). ExactAnd B.0 k (λ r. VarsFrom r.0 (taken S) r.1) (join_args B.0 A.1 B.1)) (merges_are A.1 (a.0 ∙ hold_many hs ∙ sym (opens_many q.1)) q.1)
      (exact_map (λ r w. w.are) (join_args_exact A.1 B.1 y.after y.grown.g_vars (omega arith)
      (pairs_of y.grown refl (λ v l k. q.0.olds v k ∙ a.1.gets v ∙ get_beyond S v l) (λ v l. y.marks v ∙ z.marks v ∙ num_beyond S v l) a.1.tvars q.0.shapes)))))) (omega arith)

  apply_level : (loc : ℕ) (k : AbilityMark) (name : TypeName) (ts : Trees) → MapAt ts → LevelAt (apply_tree loc k name ts)
  unfolding instantiate_value instantiate_apply made merging as_var shown args_of parts
  apply_level loc k name ts fs n S x s d i j (holds_apply {ys = ys} e hs) =
      let b : All (λ p. p < x) ys = rw e at (s.parts_below x i) in
      let long : length ys ≡ ar name = s.arity x k name ys i e in
      let fits : length ys ≡ length (tparam_constraints S name) = long ∙ sym (d name) ∙ sym (tparams_many S name) in
      let here : All (λ p. p < count S) ys = All_map (λ p l. omega arith) ys b in
      let many : length ys ≡ size ts = hold_many hs in
      rw e (exact_as (
      exact_bind {k = four 1 (size ts) 0 0} _ (exact_post {R = λ r. WentAll ar S (length ys) r.0 r.1 × VarsFrom r.0 (taken S) r.1}
      (type_args_went (λ s t. instantiate_down n s t) (λ S t s d i. instantiate_down_went n S t s d i) (loc_of S x) name ys (tparam_constraints S name) s d here fits)
      (args_exact ts fs (loc_of S x) name (tparam_constraints S name) n S ys s d here (All_map (λ p l. omega arith) ys b) fits hs) (λ S1 us g w o. (w, o))) (λ C c.
      let w1 = c.0 in
      let sevens : wrote_all C.0 C.1 ≡ 7 * size ts = vars_wrote (taken S) w1.sound C.1 c.1 ∙ ap (λ (k : ℕ). 7 * k) (w1.many ∙ many) in
      exact_as (exact_map (λ D w. (rw (w.new.is, merged) refl, apply_wrote w.new.sound D.1 k name C.1 w.new.is w.new.t_in ∙ ap (λ (k : ℕ). name_size name + k) (wrote_all_kept w1.sound w.new.sound w.grown C.1 w1.ts_in ∙ sevens)))
      (sp_exact w1.sound (loc_of S x) (Apply k name C.1) (apply_ok k name C.1 w1.ts_in (w1.many ∙ long))))
      (record { same_nodes = refl; same_places = w1.many ∙ many; same_variables = refl; same_constraints = refl }))) (omega arith))

  mutual
    pub inst_exact : {t : Tree} → Fine ar 0 t → InstAt t
    inst_exact (fine_unit {loc = loc}) = by_level _ (unit_level loc)
    inst_exact (fine_anything {loc = loc}) = by_level _ (anything_level loc)
    inst_exact (fine_error {loc = loc}) = by_level _ (error_level loc)
    inst_exact (fine_ref {loc = loc} {mut = mut} {t = t} f) = by_level _ (ref_level loc mut t (inst_exact f))
    inst_exact (fine_param {loc = loc} {id = id} {abilities = a}) = by_level _ (param_level loc id a)
    inst_exact (fine_apply {loc = loc} {k = k} {n = n} {ts = ts} fs e) = by_level _ (apply_level loc k n ts (map_exact fs))
    inst_exact (fine_var l) = absurd (omega (arith, l))

    map_exact : {ts : Trees} → Fines ar 0 ts → MapAt ts
    map_exact fine_none = no_args
    map_exact (fine_then {t = t} {ts = ts} f fs) = then_args t ts (inst_exact f) (map_exact fs)
