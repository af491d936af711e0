-- R-11: KP leaves the fields of the rows in range, whether or not the state is sound; and its payload always fits. Assumes nothing.
use mathlib.Core.Path.{◌≡◌, refl, ap}
use mathlib.Core.Bool.{true}
use mathlib.Core.List.{List, [], ◌∷◌, map}
use Prim.Native.Nat.{ℕ, ◌*◌, ◌≤◌}
use native.Mathlib.Omega.{arith}
use lib.ListN.{length, length-append, length-map}
use Rattle.definition.specs.Types.{Shape, UnitType, Ref, Param, Apply, Var, Anything, UnresolvedError, Places, unbound, State, max_vars}
use Rattle.definition.specs.Types.{Constraint, AbilityConstraint, NumericConstraint, BitsConstraint, OrderedConstraint, BaseTypeConstraint, SingleTypeConstraint}
use Rattle.definition.specs.Store.{node}
use Rattle.definition.specs.Sound.{sound}
use Rattle.definition.specs.Write.{Bytes, u16, each}
use Rattle.definition.specs.Step.{max_payload, answer_with, answer_within, behind, tail_of, apart, most_of, run, reply}
use Rattle.definition.specs.Record.{KP}
use Rattle.definition.specs.Keep.{of_type, reach, slid, kept_places, slid_shape, clear_all, cleared, survivors}
use Rattle.theorems.proofs.DemandOrder.{All}
use Rattle.theorems.proofs.Soundness.{le_test, sound_is}
use Rattle.theorems.proofs.SoundRanges.{ShapeIn, NodeIn, CellIn, ConstraintIn, Ranges, node_in, all_get, unbound_in}
use Rattle.theorems.proofs.KeepReach.{ranged, few_vars}
use Rattle.theorems.proofs.KeepSame.{constraints_left}
use Rattle.theorems.proofs.KeepSound.{few_nodes_left, few_vars_left, few_places_left}

all_mapped : {A B : Type 0} (P : B → Type 0) (f : A → B) → ((a : A) → P (f a)) → (l : List A) → All P (map f l)
all_mapped P f h [] = tt
all_mapped P f h (a ∷ l) = (h a, all_mapped P f h l)

all_through : {A B : Type 0} (P : A → Type 0) (Q : B → Type 0) (f : A → B) → ((a : A) → P a → Q (f a)) → (l : List A) → All P l → All Q (map f l)
all_through P Q f h [] p = tt
all_through P Q f h (a ∷ l) p = (h a p.0, all_through P Q f h l p.1)

shape_slid : (b : State) (nodes places vars : List ℕ) (x : Shape Places) → ShapeIn b x → ShapeIn b (slid_shape nodes places vars x)
unfolding slid_shape
shape_slid b nodes places vars UnitType h = tt
shape_slid b nodes places vars (Ref m t) h = tt
shape_slid b nodes places vars (Param id a) h = h
shape_slid b nodes places vars (Apply k n p) h = h
shape_slid b nodes places vars (Var v) h = tt
shape_slid b nodes places vars Anything h = tt
shape_slid b nodes places vars UnresolvedError h = tt

constraint_slid : (g : ℕ → ℕ) (c : Constraint) → ConstraintIn c → ConstraintIn (of_type g c)
unfolding of_type
constraint_slid g (AbilityConstraint loc ty abilities) h = h
constraint_slid g (NumericConstraint loc ty) h = h
constraint_slid g (BitsConstraint loc ty) h = h
constraint_slid g (OrderedConstraint loc ty) h = h
constraint_slid g (BaseTypeConstraint loc ty) h = h
constraint_slid g (SingleTypeConstraint loc ty) h = h

pub keep_ranges : {b s : State} (listed : List ℕ) → Ranges b s → Ranges b (cleared s listed)
unfolding cleared clear_all
keep_ranges {b} {s} listed r = record {
  few_nodes = omega (arith, r.few_nodes, few_nodes_left s listed);
  few_args = omega (arith, r.few_args, few_places_left s listed);
  few_vars = omega (arith, r.few_vars, few_vars_left s listed);
  few_constraints = let e = ap length (constraints_left s listed) in omega (arith, r.few_constraints, length-map s.constraints (λ c. of_type (λ t. slid (reach s listed).nodes t) c));
  few_structs = r.few_structs;
  extra = r.extra;
  declared = r.declared;
  nodes_in = all_mapped (NodeIn b) _ (λ t. record { loc_in = (node_in r t).loc_in; shape_in = shape_slid b (reach s listed).nodes (kept_places s (reach s listed)) (reach s listed).vars (node s t).value (node_in r t).shape_in }) (reach s listed).nodes;
  cells_in = all_mapped CellIn _ (λ v. let c = all_get CellIn unbound s.vars r.cells_in unbound_in v in record { mark_in = c.mark_in; need_in = c.need_in }) (reach s listed).vars;
  constraints_in = all_through ConstraintIn ConstraintIn _ (constraint_slid (slid (reach s listed).nodes)) s.constraints r.constraints_in;
  structs_in = r.structs_in;
}

-- ---- four bytes each

each_four : (f : ℕ → Bytes) → ((v : ℕ) → length (f v) ≡ 4) → (l : List ℕ) → length (each f l) ≡ 4 * length l
unfolding each
each_four f h [] = omega arith
each_four f h (v ∷ l) = omega (arith, length-append (f v) (each f l), h v, each_four f h l)

pub survivors_four : (vars : List ℕ) → length (survivors vars) ≡ 4 * length vars
unfolding survivors u16
survivors_four vars = each_four _ (λ v. refl) vars

-- at most 1,024 of them: KP, once read, is never 14
pub survivors_fit : (s : State) → sound s ≡ true → (listed : List ℕ) → length (survivors (reach s listed).vars) ≤ max_payload
unfolding max_vars max_payload
survivors_fit s h listed = omega (arith, survivors_four (reach s listed).vars, few_vars s (ranged s listed), ((sound_is s).0 h).few_vars)

pub KP_answers : (s : State) → sound s ≡ true → (listed : List ℕ) → reply s (KP listed) ≡ record { number = 0; payload = survivors (reach s listed).vars; state = cleared s listed }
unfolding reply run apart most_of tail_of behind answer_within answer_with
KP_answers s h listed = rw (le_test (length (survivors (reach s listed).vars)) max_payload (survivors_fit s h listed)) refl
