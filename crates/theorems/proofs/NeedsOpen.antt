-- IN of a type with a variable inside is 7 or 11. Assumes nothing.
-- By the tree that stands at a node: what comes before the variable takes exactly so much, or 7 is given (NeedsIn); at the variable 11 is.
use mathlib.Core.Path.{◌≡◌, refl}
use mathlib.Core.Bool.{Bool, true}
use mathlib.Core.List.{List, [], ◌∷◌}
use Rattle.std.specs.Prelude.{Option}
use Prim.Native.Nat.{ℕ, zero, suc, ◌<◌}
use native.Mathlib.Omega.{arith}
use Rattle.definition.specs.Types.{TypeName, AbilityMark, State, full, open_variable, Result, refused, ◌>>=◌}
use Rattle.definition.specs.Store.{count, taken, loc_of, map_types}
use Rattle.definition.specs.Subst.{parts}
use Rattle.definition.specs.Trees.{Tree, unit_tree, anything_tree, error_tree, ref_tree, param_tree, apply_tree, var_tree, Trees, no_trees, ◌then◌, arity}
use Rattle.definition.specs.Instantiate.{tparam_constraints, instantiate_type_args, instantiate_apply, instantiate_value, instantiate_down, instantiate}
use Rattle.definition.specs.Record.{IN}
use Rattle.definition.specs.Needs.{Needs}
use Rattle.definition.specs.Sound.{sound}
use Rattle.definition.specs.Step.{run}
use Rattle.theorems.proofs.DemandTracks.{never}
use Rattle.theorems.proofs.DemandOrder.{All, All_map, Sound}
use Rattle.theorems.proofs.SoundFacts.{facts}
use Rattle.theorems.proofs.SoundRead.{Fine, fine_ref, fine_apply, Fines, fine_then}
use Rattle.theorems.proofs.DemandRuns.{Declared, declared_on}
use Rattle.theorems.proofs.NeedsExact.{Exact, exact_ok, exact_full}
use Rattle.theorems.proofs.TotalNoFailIn.{add_exact, tparams_exact}
use Rattle.theorems.proofs.NeedsIn.{Holds, holds_ref, holds_apply, holds_var, Hold, hold_then, holds_keep, hold_keep, build_exact, inst_full, inst_exact}
use Rattle.theorems.proofs.Needs.{VarIn, var_under, var_among, VarsIn, var_first, var_later, closed, Told, told_none, told_some, leaf, not_leaf, not_none, needs_told}

pub data SevenOrEleven {A : Type 0} : Result A → Type 0 where
  is_seven : SevenOrEleven (refused full)
  is_eleven : SevenOrEleven (refused open_variable)

stop_here : {A B : Type 0} {m : Result A} (f : A → Result B) → SevenOrEleven m → SevenOrEleven (m >>= f)
unfolding ◌>>=◌
stop_here f is_seven = is_seven
stop_here f is_eleven = is_eleven

stop_later : {A B : Type 0} {S : State} {n : Needs} {after : A → State} {P : A → Type 0} {m : Result A} (f : A → Result B) → Exact S n after P m → ((a : A) → P a → SevenOrEleven (f a)) → SevenOrEleven (m >>= f)
unfolding ◌>>=◌
stop_later f (exact_ok {a = a} t p) h = h a p
stop_later f (exact_full g) h = is_seven

module _ (ar : TypeName → ℕ) (vars : ℕ) where
  abbrev Stops : Tree → Type 0
  Stops t = Fine ar vars t → VarIn t → (n : ℕ) (S : State) (x : ℕ) → Sound ar S → Declared ar S → x < count S → x < n → Holds S x t → SevenOrEleven (instantiate_down n S x)

  abbrev AllStop : Trees → Type 0
  AllStop ts = Fines ar vars ts → VarsIn ts → (n : ℕ) (S : State) (xs : List ℕ) → Sound ar S → Declared ar S → All (λ x. x < count S) xs → All (λ x. x < n) xs → Hold S xs ts
      → SevenOrEleven (map_types (λ s t. instantiate_down n s t) S xs)

  leaf_stops : (t : Tree) → leaf t ≡ true → Stops t
  leaf_stops t l f v n S x s d i j h = never (let z = not_leaf v in cc)

  var_stops : (loc v : ℕ) → Stops (var_tree loc v)
  unfolding instantiate_down instantiate_value
  var_stops loc v f w zero S x s d i j h = absurd (omega arith)
  var_stops loc v f w (suc n) S x s d i j (holds_var e) = rw e is_eleven

  ref_stops : (loc : ℕ) (mut : Bool) (t : Tree) → Stops t → Stops (ref_tree loc mut t)
  unfolding instantiate_down instantiate_value parts
  ref_stops loc mut t stops (fine_ref f) (var_under v) zero S x s d i j h = absurd (omega arith)
  ref_stops loc mut t stops (fine_ref f) (var_under v) (suc n) S x s d i j (holds_ref {y = y} e h) =
      let b : y < x = (rw e at (s.parts_below x i)).0 in
      rw e (stop_later _ (add_exact s _ (omega arith)) (λ A a.
      let z = a.steady in
      stop_here _ (stops f v n A y z.after (declared_on d z.grown) (omega (arith, z.grown.g_nodes)) (omega arith) (holds_keep s z.grown (omega arith) h))))

  apply_stops : (loc : ℕ) (k : AbilityMark) (name : TypeName) (ts : Trees) → AllStop ts → Stops (apply_tree loc k name ts)
  unfolding instantiate_down instantiate_value instantiate_apply instantiate_type_args parts
  apply_stops loc k name ts stops (fine_apply fs m) (var_among v) zero S x s d i j h = absurd (omega arith)
  apply_stops loc k name ts stops (fine_apply fs m) (var_among v) (suc n) S x s d i j (holds_apply {ys = ys} e hs) =
      let b : All (λ p. p < x) ys = rw e at (s.parts_below x i) in
      rw e (stop_here _ (stop_later _ (tparams_exact (loc_of S x) name ys (tparam_constraints S name) s) (λ A a.
      let z = a.steady in
      stop_here _ (stops fs v n A.0 ys z.after (declared_on d z.grown) (All_map (λ p l. omega (arith, z.grown.g_nodes)) ys b) (All_map (λ p l. omega arith) ys b) (hold_keep s z.grown (All_map (λ p l. omega arith) ys b) hs)))))

  none_stop : AllStop no_trees
  none_stop fs v n S xs s d i j hs = let h = not_none v in absurd (omega arith)

  then_stop : (t : Tree) (ts : Trees) → Stops t → AllStop ts → AllStop (◌then◌ t ts)
  unfolding map_types
  then_stop t ts stops all (fine_then f fs) v n S [] s d i j h = elim h [ ]
  then_stop t ts stops all (fine_then f fs) v n S (x ∷ xs) s d i j (hold_then h hs) = go (needs_told t)
    where
      later : (VarIn t → ⊥) → VarsIn (◌then◌ t ts) → VarsIn ts
      later c (var_first w) = absurd (c w)
      later c (var_later w) = w

      go : {o : Option Needs} → Told t o → SevenOrEleven (map_types (λ s t. instantiate_down n s t) S (x ∷ xs))
      go (told_none w) = stop_here _ (stops f w n S x s d i.0 j.0 h)
      go (told_some m c q) = stop_later _ (inst_full ar t (inst_exact ar (closed ar vars f c)) n S x s d i.0 j.0 h) (λ A a.
          let z = a.0.steady in
          stop_here _ (all fs (later c v) n A.0 xs z.after (declared_on d z.grown) (All_map (λ p l. omega (arith, z.grown.g_nodes)) xs i.1) j.1 (hold_keep s z.grown i.1 hs)))

  mutual
    tree_stops : (t : Tree) → Stops t
    tree_stops (unit_tree loc) = leaf_stops _ refl
    tree_stops (anything_tree loc) = leaf_stops _ refl
    tree_stops (error_tree loc) = leaf_stops _ refl
    tree_stops (ref_tree loc mut t) = ref_stops loc mut t (tree_stops t)
    tree_stops (param_tree loc id abilities) = leaf_stops _ refl
    tree_stops (apply_tree loc k n ts) = apply_stops loc k n ts (trees_stop ts)
    tree_stops (var_tree loc v) = var_stops loc v

    trees_stop : (ts : Trees) → AllStop ts
    trees_stop no_trees = none_stop
    trees_stop (◌then◌ t ts) = then_stop t ts (tree_stops t) (trees_stop ts)

pub IN_of_a_variable : (s : State) → sound s ≡ true → (t : Tree) → Fine (arity s) (taken s) t → VarIn t → SevenOrEleven (run s (IN t))
unfolding run instantiate
IN_of_a_variable s h t f v = stop_later _ (build_exact f (facts s h) (omega arith)) (λ a p.
    stop_here _ (tree_stops (arity s) (taken s) t f v (suc a.1) a.0 a.1 p.sound (declared_on {ar = arity s} {S = s} (λ n. refl) p.grown) p.t_in (omega arith) p.holds))
