-- R-3: RM tells what IN takes, and tells it of every type without variables. Assumes nothing.
-- By the tree: nothing is told where a variable is inside, and else the sum of what placing and instantiating take. NeedsIn shows that they do.
use mathlib.Core.Path.{◌≡◌, refl, subst}
use mathlib.Core.Logic.{◌↔◌}
use mathlib.Core.Bool.{Bool, true, false}
use Rattle.std.specs.Prelude.{Option, None, Some}
use Prim.Native.Nat.{ℕ, suc, ◌*◌, ◌≤◌, ◌<◌}
use native.Mathlib.Omega.{arith}
use lib.ListN.{length}
use Rattle.definition.specs.Types.{TypeName, Multiple, Builtin, ModuleType, AbilityMark, State, full, Result, ok, refused}
use Rattle.definition.specs.Store.{taken}
use Rattle.definition.specs.Instantiate.{instantiate}
use Rattle.definition.specs.Write.{Bytes, write}
use Rattle.definition.specs.Trees.{Tree, unit_tree, anything_tree, error_tree, ref_tree, param_tree, apply_tree, var_tree, Trees, no_trees, ◌then◌, arity}
use Rattle.definition.specs.Record.{IN}
use Rattle.definition.specs.Needs.{Needs, takes, ◌plus◌, merge, needs, needs_args}
use Rattle.definition.specs.Sound.{sound}
use Rattle.definition.specs.Step.{run}
use Rattle.theorems.proofs.DemandTracks.{never}
use Rattle.theorems.proofs.SoundFacts.{facts}
use Rattle.theorems.proofs.Soundness.{sound_is}
use Rattle.theorems.proofs.SoundRead.{size, Fine, fine_unit, fine_anything, fine_error, fine_ref, fine_param, fine_apply, fine_var, Fines, fine_none, fine_then}
use Rattle.theorems.proofs.DemandRuns.{declared_on}
use Rattle.theorems.proofs.JoinWrites.{wrote, name_size}
use Rattle.theorems.proofs.JoinAnswers.{tree_size, trees_size}
use Rattle.theorems.proofs.NeedsExact.{four, sum, Same, Fits, Within, More, exact_ok, exact_full, ExactAnd, more_none, exact_as, exact_bind}
use Rattle.theorems.proofs.NeedsIn.{placed, placed_all, merging, merging_all, made, made_all, shown, build_exact, inst_exact}

-- ---- a variable inside

mutual
  pub data VarIn : Tree → Type 0 where
    var_here : {loc v : ℕ} → VarIn (var_tree loc v)
    var_under : {loc : ℕ} {mut : Bool} {t : Tree} → VarIn t → VarIn (ref_tree loc mut t)
    var_among : {loc : ℕ} {k : AbilityMark} {n : TypeName} {ts : Trees} → VarsIn ts → VarIn (apply_tree loc k n ts)

  pub data VarsIn : Trees → Type 0 where
    var_first : {t : Tree} {ts : Trees} → VarIn t → VarsIn (◌then◌ t ts)
    var_later : {t : Tree} {ts : Trees} → VarsIn ts → VarsIn (◌then◌ t ts)

module _ (ar : TypeName → ℕ) (vars : ℕ) where
  mutual
    pub closed : {t : Tree} → Fine ar vars t → (VarIn t → ⊥) → Fine ar 0 t
    closed fine_unit c = fine_unit
    closed fine_anything c = fine_anything
    closed fine_error c = fine_error
    closed (fine_ref f) c = fine_ref (closed f (λ v. c (var_under v)))
    closed fine_param c = fine_param
    closed (fine_apply fs e) c = fine_apply (all_closed fs (λ v. c (var_among v))) e
    closed (fine_var l) c = absurd (c var_here)

    all_closed : {ts : Trees} → Fines ar vars ts → (VarsIn ts → ⊥) → Fines ar 0 ts
    all_closed fine_none c = fine_none
    all_closed (fine_then f fs) c = fine_then (closed f (λ v. c (var_first v))) (all_closed fs (λ v. c (var_later v)))

-- ---- what is told: none just where a variable is inside, and else what placing and instantiating take

pub data Told (t : Tree) : Option Needs → Type 0 where
  told_none : VarIn t → Told t None
  told_some : (n : Needs) → (VarIn t → ⊥) → Same (sum (placed t) (made t)) n → Told t (Some n)

-- of arguments, with the place and the variable, node, place and constraints of each
pub data ToldArgs (ts : Trees) : Option Needs → Type 0 where
  args_none : VarsIn ts → ToldArgs ts None
  args_some : (n : Needs) → (VarsIn ts → ⊥) → Same n (sum (four (size ts) (2 * size ts) (size ts) (2 * size ts)) (sum (merging_all ts) (sum (placed_all ts) (made_all ts)))) → ToldArgs ts (Some n)

abbrev pub leaf : Tree → Bool
leaf (unit_tree loc) = true
leaf (anything_tree loc) = true
leaf (error_tree loc) = true
leaf (ref_tree loc mut t) = false
leaf (param_tree loc id abilities) = true
leaf (apply_tree loc k n ts) = false
leaf (var_tree loc v) = false

pub not_leaf : {t : Tree} → VarIn t → leaf t ≡ false
not_leaf var_here = refl
not_leaf (var_under v) = refl
not_leaf (var_among v) = refl

pub not_none : {ts : Trees} → VarsIn ts → 0 < size ts
not_none (var_first v) = omega arith
not_none (var_later v) = omega arith

merge_is : (t : Tree) → merge t ≡ Some (merging t)
unfolding merge merging
merge_is (unit_tree loc) = refl
merge_is (anything_tree loc) = refl
merge_is (error_tree loc) = refl
merge_is (ref_tree loc mut t) = refl
merge_is (param_tree loc id abilities) = refl
merge_is (apply_tree loc k n ts) = refl
merge_is (var_tree loc v) = refl

ref_told : (loc : ℕ) (mut : Bool) (t : Tree) {o : Option Needs} → Told t o → Told (ref_tree loc mut t) (takes 2 0 0 1 plus o)
unfolding ◌plus◌ placed made
ref_told loc mut t (told_none v) = told_none (var_under v)
ref_told loc mut t (told_some n c e) = told_some (sum (four 2 0 0 1) n) (λ v. c (inside v)) (omega (arith, e.same_nodes, e.same_places, e.same_variables, e.same_constraints))
  where
    inside : VarIn (ref_tree loc mut t) → VarIn t
    inside (var_under v) = v

apply_told : (loc : ℕ) (k : AbilityMark) (n : TypeName) (ts : Trees) {o : Option Needs} → ToldArgs ts o → Told (apply_tree loc k n ts) (takes 2 0 0 0 plus o)
unfolding ◌plus◌ placed made
apply_told loc k n ts (args_none v) = told_none (var_among v)
apply_told loc k n ts (args_some m c e) = told_some (sum (four 2 0 0 0) m) (λ v. c (inside v)) (omega (arith, e.same_nodes, e.same_places, e.same_variables, e.same_constraints))
  where
    inside : VarIn (apply_tree loc k n ts) → VarsIn ts
    inside (var_among v) = v

then_told : (t : Tree) (ts : Trees) {o p : Option Needs} → Told t o → ToldArgs ts p → ToldArgs (◌then◌ t ts) (takes 1 2 1 2 plus Some (merging t) plus o plus p)
unfolding ◌plus◌ placed_all made_all merging_all
then_told t ts (told_none v) q = args_none (var_first v)
then_told t ts (told_some n c e) (args_none v) = args_none (var_later v)
then_told t ts (told_some n c e) (args_some m d f) = args_some (sum (sum (sum (four 1 2 1 2) (merging t)) n) m) (λ v. apart v) (omega (arith, e.same_nodes, e.same_places, e.same_variables, e.same_constraints, f.same_nodes, f.same_places, f.same_variables, f.same_constraints))
  where
    apart : VarsIn (◌then◌ t ts) → ⊥
    apart (var_first v) = c v
    apart (var_later v) = d v

leaf_told : (t : Tree) (n : Needs) → leaf t ≡ true → Same (sum (placed t) (made t)) n → Told t (Some n)
leaf_told t n l e = told_some n (λ v. never (let z = not_leaf v in cc)) e

mutual
  unfolding needs needs_args placed made placed_all made_all merging_all

  pub needs_told : (t : Tree) → Told t (needs t)
  needs_told (unit_tree loc) = leaf_told _ (four 1 0 0 0) refl (omega arith)
  needs_told (anything_tree loc) = leaf_told _ (four 2 0 1 0) refl (omega arith)
  needs_told (error_tree loc) = leaf_told _ (four 1 0 0 0) refl (omega arith)
  needs_told (ref_tree loc mut t) = ref_told loc mut t (needs_told t)
  needs_told (param_tree loc id abilities) = leaf_told _ (four 1 0 0 0) refl (omega arith)
  needs_told (apply_tree loc k n ts) = apply_told loc k n ts (args_told ts)
  needs_told (var_tree loc v) = told_none var_here

  pub args_told : (ts : Trees) → ToldArgs ts (needs_args ts)
  args_told no_trees = args_some (four 0 0 0 0) (λ v. let h = not_none v in omega arith) (omega arith)
  args_told (◌then◌ t ts) = rw (merge_is t) (then_told t ts (needs_told t) (args_told ts))

-- each of the four is at most two for each byte that the type is read from
pub record Few (n : Needs) (bytes : ℕ) : Type 0 where
  pub few_nodes : n.nodes ≤ 2 * bytes
  pub few_places : n.places ≤ 2 * bytes
  pub few_variables : n.variables ≤ 2 * bytes
  pub few_constraints : n.constraints ≤ 2 * bytes

name_bytes : (n : TypeName) → 7 ≤ name_size n
unfolding name_size
name_bytes (Multiple n) = omega arith
name_bytes (Builtin b) = omega arith
name_bytes (ModuleType n) = omega arith

mutual
  unfolding placed placed_all merging merging_all made made_all tree_size trees_size

  -- as an argument
  few_of : (t : Tree) → Few (sum (sum (four 1 2 1 2) (merging t)) (sum (placed t) (made t))) (tree_size t)
  few_of (unit_tree loc) = omega arith
  few_of (anything_tree loc) = omega arith
  few_of (error_tree loc) = omega arith
  few_of (ref_tree loc mut t) = let f = few_of t in omega arith
  few_of (param_tree loc id abilities) = omega arith
  few_of (apply_tree loc k n ts) = let f = few_args ts in omega (arith, name_bytes n)
  few_of (var_tree loc v) = omega arith

  few_args : (ts : Trees) → Few (sum (four (size ts) (2 * size ts) (size ts) (2 * size ts)) (sum (merging_all ts) (sum (placed_all ts) (made_all ts)))) (trees_size ts)
  few_args no_trees = omega arith
  few_args (◌then◌ t ts) = let f = few_of t in let g = few_args ts in omega arith

pub needs_few : (t : Tree) (n : Needs) → needs t ≡ Some n → Few n (tree_size t)
needs_few t n e = go (needs_told t) e
  where
    go : {o : Option Needs} → Told t o → o ≡ Some n → Few n (tree_size t)
    go (told_none v) d = never (cc)
    go (told_some m c q) d = let k : m ≡ n = cc in let f = few_of t in subst (λ (x : Needs). Few x (tree_size t)) k (omega (arith, q.same_nodes, q.same_places, q.same_variables, q.same_constraints))

-- none is told just where a variable is inside
pub needs_none : (t : Tree) → (needs t ≡ None) ↔ VarIn t
needs_none t = (λ e. inside (needs_told t) e, λ v. nothing (needs_told t) v)
  where
    inside : {o : Option Needs} → Told t o → o ≡ None → VarIn t
    inside (told_none v) e = v
    inside (told_some n c d) e = never (cc)

    nothing : {o : Option Needs} → Told t o → VarIn t → o ≡ None
    nothing (told_none w) v = refl
    nothing (told_some n c d) v = absurd (c v)

-- ---- IN

run_exact : (s : State) → sound s ≡ true → {t : Tree} → Fine (arity s) 0 t → ExactAnd s (sum (placed t) (made t)) (λ r. length r.1 ≡ shown t) (run s (IN t))
unfolding run instantiate wrote
run_exact s h f = exact_as (
    exact_bind _ (build_exact f (facts s h) (omega arith)) (λ a p.
    exact_bind _ (inst_exact (arity s) f (suc a.1) a.0 a.1 p.sound (declared_on {ar = arity s} {S = s} (λ n. refl) p.grown) p.t_in (omega arith) p.holds) (λ b o.
    exact_ok {a = (b.0, write b.0 b.1)} (more_none b.0) o.1))) (omega arith)

-- each of the four fits, IN succeeds and takes just that; or one does not, and IN is refused with 7
pub data Foretold (s : State) (n : Needs) (t : Tree) : Result (State × Bytes) → Type 0 where
  it_fits : {s' : State} {payload : Bytes} → Fits s n → More s n s' → length payload ≡ shown t → Foretold s n t (ok (s', payload))
  it_does_not : (Fits s n → ⊥) → Foretold s n t (refused full)

within : (s : State) → sound s ≡ true → Within s
within s h = let i = (sound_is s).0 h in record { nodes_within = i.few_nodes; places_within = i.few_args; variables_within = i.few_vars; constraints_within = i.few_constraints }

taken_all : {s s' : State} {n : Needs} → Within s → More s n s' → Fits s n
taken_all w m = let v = m.still w in record {
  nodes_fit = omega (arith, v.nodes_within, m.more_nodes);
  places_fit = omega (arith, v.places_within, m.more_places);
  variables_fit = omega (arith, v.variables_within, m.more_variables);
  constraints_fit = omega (arith, v.constraints_within, m.more_constraints);
}

of_exact : {s : State} {n : Needs} {t : Tree} → Within s → {m : Result (State × Bytes)} → ExactAnd s n (λ r. length r.1 ≡ shown t) m → Foretold s n t m
of_exact w (exact_ok m l) = it_fits (taken_all w m) m l
of_exact w (exact_full f) = it_does_not f

pub foretold : (s : State) → sound s ≡ true → (t : Tree) → Fine (arity s) (taken s) t → (n : Needs) → needs t ≡ Some n → Foretold s n t (run s (IN t))
foretold s h t f n e = go (needs_told t) e
  where
    go : {o : Option Needs} → Told t o → o ≡ Some n → Foretold s n t (run s (IN t))
    go (told_none v) d = never (cc)
    go (told_some m c q) d = let k : m ≡ n = cc in of_exact (within s h) (exact_as (run_exact s h (closed (arity s) (taken s) f c)) (subst (λ (x : Needs). Same (sum (placed t) (made t)) x) k q))
