-- A run that takes exactly so much of the four tables, or is refused with 7 where that does not fit. Such runs go one after the other by adding. Assumes nothing.
-- The counts first, then the rules for a run, `?` last. That what was taken fits follows at the end: a success keeps the counts within their limits.
use mathlib.Core.Path.{◌≡◌}
use mathlib.Core.List.{[], ◌∷◌, ◌++◌}
use Rattle.std.specs.Prelude.{Option, None, Some}
use Prim.Native.Nat.{ℕ, ◌+◌, ◌≤◌, ◌<◌}
use native.Mathlib.Omega.{arith}
use lib.ListN.{length, length-append}
use Rattle.definition.specs.Types.{TypeName, TypeValue, Constraint, State, max_nodes, max_args, max_vars, max_constraints, full, Result, ok, refused, ◌>>=◌}
use Rattle.definition.specs.Store.{count, taken, with_vars, with_constraints, insert, args_of, with_node, with_var}
use Rattle.definition.specs.Needs.{Needs}
use Rattle.theorems.proofs.Laws.{count_with_node, taken_with_node, taken_with_var, taken_insert}
use Rattle.theorems.proofs.DemandTracks.{never}
use Rattle.theorems.proofs.SoundRoom.{Room, room, no_room}
use Rattle.theorems.proofs.LawsPost.{Grown, Post, p_ok, p_err, p_refused}
use Rattle.theorems.proofs.TotalNoFail.{Sure, sure_ok, sure_refused}

abbrev pub four : ℕ → ℕ → ℕ → ℕ → Needs
four nodes places variables constraints = record { nodes = nodes; places = places; variables = variables; constraints = constraints }

abbrev pub sum : Needs → Needs → Needs
sum m n = four (m.nodes + n.nodes) (m.places + n.places) (m.variables + n.variables) (m.constraints + n.constraints)

pub record Same (m n : Needs) : Type 0 where
  pub same_nodes : m.nodes ≡ n.nodes
  pub same_places : m.places ≡ n.places
  pub same_variables : m.variables ≡ n.variables
  pub same_constraints : m.constraints ≡ n.constraints

-- n is no more than what is left
pub record Fits (S : State) (n : Needs) : Type 0 where
  pub nodes_fit : count S + n.nodes ≤ max_nodes
  pub places_fit : length S.args + n.places ≤ max_args
  pub variables_fit : taken S + n.variables ≤ max_vars
  pub constraints_fit : length S.constraints + n.constraints ≤ max_constraints

-- the four counts are within their limits
pub record Within (S : State) : Type 0 where
  pub nodes_within : count S ≤ max_nodes
  pub places_within : length S.args ≤ max_args
  pub variables_within : taken S ≤ max_vars
  pub constraints_within : length S.constraints ≤ max_constraints

-- n more are in use, within the limits
pub record More (S : State) (n : Needs) (S' : State) : Type 0 where
  pub more_nodes : count S' ≡ count S + n.nodes
  pub more_places : length S'.args ≡ length S.args + n.places
  pub more_variables : taken S' ≡ taken S + n.variables
  pub more_constraints : length S'.constraints ≡ length S.constraints + n.constraints
  pub still : Within S → Within S'

-- a success takes n and has P; else n does not fit, and 7 is given
pub data Exact {A : Type 0} (S : State) (n : Needs) (after : A → State) (P : A → Type 0) : Result A → Type 0 where
  exact_ok : {a : A} → More S n (after a) → P a → Exact S n after P (ok a)
  exact_full : (Fits S n → ⊥) → Exact S n after P (refused full)

-- of a state and something else
abbrev pub ExactAnd : {B : Type 0} → State → Needs → (State × B → Type 0) → Result (State × B) → Type 0
ExactAnd S n P m = Exact S n (λ x. x.0) P m

pub more_none : (S : State) → More S (four 0 0 0 0) S
more_none S = record { more_nodes = omega arith; more_places = omega arith; more_variables = omega arith; more_constraints = omega arith; still = λ w. w }

pub more_node : (S : State) (l : ℕ) (sh : TypeValue) → (count S < max_nodes) × (length S.args + length (args_of sh) ≤ max_args) → More S (four 1 (length (args_of sh)) 0 0) (with_node S l sh)
unfolding with_node
more_node S l sh h =
    let n = count_with_node S l sh in
    let p = length-append S.args (args_of sh) in
    let v = taken_with_node S l sh in
    record { more_nodes = omega arith; more_places = p; more_variables = omega arith; more_constraints = omega arith; still = λ w. record { nodes_within = omega arith; places_within = omega arith; variables_within = w.variables_within; constraints_within = w.constraints_within } }

pub more_var : (S : State) → taken S < max_vars → More S (four 0 0 1 0) (with_var S)
unfolding with_var with_vars
more_var S h =
    let v = taken_with_var S in
    record { more_nodes = omega arith; more_places = omega arith; more_variables = omega arith; more_constraints = omega arith; still = λ w. record { nodes_within = w.nodes_within; places_within = w.places_within; variables_within = omega arith; constraints_within = w.constraints_within } }

pub more_constraint : (S : State) (c : Constraint) → length S.constraints < max_constraints → More S (four 0 0 0 1) (with_constraints S (S.constraints ++ (c ∷ [])))
unfolding with_constraints
more_constraint S c h =
    let e = length-append S.constraints (c ∷ []) in
    record { more_nodes = omega arith; more_places = omega arith; more_variables = omega arith; more_constraints = e; still = λ w. record { nodes_within = w.nodes_within; places_within = w.places_within; variables_within = w.variables_within; constraints_within = omega arith } }

pub more_insert : (S : State) (x t : ℕ) → More S (four 0 0 0 0) (insert S x t)
unfolding insert with_vars
more_insert S x t =
    let v = taken_insert S x t in
    record { more_nodes = omega arith; more_places = omega arith; more_variables = omega arith; more_constraints = omega arith; still = λ w. record { nodes_within = w.nodes_within; places_within = w.places_within; variables_within = omega arith; constraints_within = w.constraints_within } }

pub more_trans : {S S' S'' : State} {m n : Needs} → More S m S' → More S' n S'' → More S (sum m n) S''
more_trans a b = record {
  more_nodes = omega (arith, a.more_nodes, b.more_nodes);
  more_places = omega (arith, a.more_places, b.more_places);
  more_variables = omega (arith, a.more_variables, b.more_variables);
  more_constraints = omega (arith, a.more_constraints, b.more_constraints);
  still = λ w. b.still (a.still w);
}

fits_first : {S : State} (m n : Needs) → Fits S (sum m n) → Fits S m
fits_first m n f = record { nodes_fit = omega (arith, f.nodes_fit); places_fit = omega (arith, f.places_fit); variables_fit = omega (arith, f.variables_fit); constraints_fit = omega (arith, f.constraints_fit) }

fits_rest : {S S' : State} {m : Needs} (n : Needs) → More S m S' → Fits S (sum m n) → Fits S' n
fits_rest n a f = record {
  nodes_fit = omega (arith, a.more_nodes, f.nodes_fit);
  places_fit = omega (arith, a.more_places, f.places_fit);
  variables_fit = omega (arith, a.more_variables, f.variables_fit);
  constraints_fit = omega (arith, a.more_constraints, f.constraints_fit);
}

module _ {A : Type 0} {after : A → State} {P : A → Type 0} where
  pub exact_room : {S : State} {n : Needs} {R : Type 0} {a : A} {m : Result A} → Room R a m → (Fits S n → R) → (R → More S n (after a)) → P a → Exact S n after P m
  exact_room (room r) f g p = exact_ok (g r) p
  exact_room (no_room e) f g p = exact_full (λ h. e (f h))

  pub exact_as : {S : State} {n n' : Needs} {m : Result A} → Exact S n after P m → Same n n' → Exact S n' after P m
  exact_as (exact_ok {a = a} t p) e = exact_ok {a = a} (record {
    more_nodes = omega (arith, e.same_nodes, t.more_nodes);
    more_places = omega (arith, e.same_places, t.more_places);
    more_variables = omega (arith, e.same_variables, t.more_variables);
    more_constraints = omega (arith, e.same_constraints, t.more_constraints);
    still = t.still;
  }) p
  exact_as (exact_full f) e = exact_full (λ h. f (record {
    nodes_fit = omega (arith, e.same_nodes, h.nodes_fit);
    places_fit = omega (arith, e.same_places, h.places_fit);
    variables_fit = omega (arith, e.same_variables, h.variables_fit);
    constraints_fit = omega (arith, e.same_constraints, h.constraints_fit);
  }))

  pub exact_map : {S : State} {n : Needs} {Q : A → Type 0} {m : Result A} → ((a : A) → P a → Q a) → Exact S n after P m → Exact S n after Q m
  exact_map f (exact_ok {a = a} t p) = exact_ok t (f a p)
  exact_map f (exact_full g) = exact_full g

  -- .. and what is known of the success elsewhere
  pub exact_with : {S : State} {n : Needs} {Q R : A → Type 0} {m : Result A} → Sure Q m → Exact S n after P m → ((a : A) → P a → Q a → R a) → Exact S n after R m
  exact_with (sure_ok {a = a} q) (exact_ok t p) f = exact_ok t (f a p q)
  exact_with q (exact_full g) f = exact_full g

  pub exact_sure : {S : State} {n : Needs} {m : Result A} → Exact S n after P m → Sure P m
  exact_sure (exact_ok t p) = sure_ok p
  exact_sure (exact_full g) = sure_refused

  pub exact_from : {S S' : State} {n k : Needs} {m : Result A} → More S n S' → Exact S' k after P m → Exact S (sum n k) after P m
  exact_from t (exact_ok u p) = exact_ok (more_trans t u) p
  exact_from {k = k} t (exact_full f) = exact_full (λ h. f (fits_rest k t h))

  pub exact_eq : {C : Type 0} {S : State} {n : Needs} {m : Result C} (a : C) (f : C → Result A) → m ≡ ok a → Exact S n after P (f a) → Exact S n after P (m >>= f)
  unfolding ◌>>=◌
  exact_eq a f e h = rw e h

  pub exact_none : {S : State} {n : Needs} (o : Option ℕ) {x : Result A} (f : ℕ → Result A) → o ≡ None → Exact S n after P x → Exact {A = A} S n after P (elim o [ None ↦ x | Some t ↦ f t ])
  exact_none None f e h = h
  exact_none (Some t) f e h = never (cc)

pub exact_post : {B : Type 0} {ar : TypeName → ℕ} {S : State} {n : Needs} {P : State → B → Type 0} {Q R : State × B → Type 0} {m : Result (State × B)} → Post ar S P m → ExactAnd S n Q m
    → ((s : State) (b : B) → Grown S s → P s b → Q (s, b) → R (s, b)) → ExactAnd S n R m
exact_post (p_ok g p) (exact_ok t q) f = exact_ok t (f _ _ g p q)
exact_post (p_err g p) e f = elim e [ ]
exact_post p_refused (exact_full h) f = exact_full h

-- `?`: if the sum does not fit, the first does not, or the rest does not after it
pub exact_bind : {A C : Type 0} {S : State} {n k : Needs} {after : A → State} {after' : C → State} {P : A → Type 0} {Q : C → Type 0} {m : Result A} (f : A → Result C)
    → Exact S n after P m → ((a : A) → P a → Exact (after a) k after' Q (f a)) → Exact S (sum n k) after' Q (m >>= f)
unfolding ◌>>=◌
exact_bind f (exact_ok {a = a} t p) h = exact_from t (h a p)
exact_bind {n = n} {k = k} f (exact_full g) h = exact_full (λ r. g (fits_first n k r))
