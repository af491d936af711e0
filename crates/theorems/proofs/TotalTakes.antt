-- How many nodes and variables a call takes, and that with so much space it is not refused. Assumes nothing.
-- `Space` and `Took` count nodes and variables; `Takes` says of a run that it takes no more, or is refused with 7. Then the small steps, and rules to put runs together.
use mathlib.Core.Path.{◌≡◌, refl}
use mathlib.Core.List.{[]}
use Rattle.std.specs.Prelude.{Option, None, Some}
use Prim.Native.Nat.{ℕ, ◌+◌, ◌≤◌, ◌<◌}
use native.Mathlib.Omega.{arith}
use lib.ListN.{length, length-append}
use Rattle.definition.specs.Types.{TypeName, TypeValue, Anything, State, max_nodes, max_args, max_vars, full, Result, ok, refused, ◌>>=◌}
use Rattle.definition.specs.Store.{count, taken, get, insert, args_of, with_node, with_var, with_vars, sp, next_tvar}
use Rattle.definition.specs.Join.{type_of}
use Rattle.theorems.proofs.Laws.{count_with_node, taken_with_node, taken_with_var, count_insert, taken_insert, SameButMarks, count_same}
use Rattle.theorems.proofs.SoundRoom.{Room, room, no_room, sp_room, tvar_room}
use Rattle.theorems.proofs.LawsPost.{Grown, Post, p_ok, p_refused}

-- space for n nodes and v variables
pub record Space (S : State) (n v : ℕ) : Type 0 where
  pub nodes_left : count S + n ≤ max_nodes
  pub vars_left : taken S + v ≤ max_vars
  pub places_fit : length S.args ≤ max_args

-- at most n nodes and v variables are taken, and no argument place
pub record Took (S : State) (n v : ℕ) (S' : State) : Type 0 where
  pub nodes : count S' ≤ count S + n
  pub vars : taken S' ≤ taken S + v
  pub places : length S'.args ≡ length S.args

-- a success takes no more than that, and has P; else there is no space for so much, and 7 is given
pub data Takes {A : Type 0} (S : State) (n v : ℕ) (after : A → State) (P : A → Type 0) : Result A → Type 0 where
  takes_ok : {a : A} → Took S n v (after a) → P a → Takes S n v after P (ok a)
  takes_full : (Space S n v → ⊥) → Takes S n v after P (refused full)

-- of a state and something else
abbrev pub TakesAnd : {B : Type 0} → State → ℕ → ℕ → (State → B → Type 0) → Result (State × B) → Type 0
TakesAnd S n v P m = Takes S n v (λ x. x.0) (λ x. P x.0 x.1) m

pub took_none : (S : State) (n v : ℕ) → Took S n v S
took_none S n v = record { nodes = omega arith; vars = omega arith; places = refl }

pub took_insert : (S : State) (x t : ℕ) → Took S 0 0 (insert S x t)
unfolding insert with_vars
took_insert S x t = record { nodes = omega (arith, count_insert S x t); vars = omega (arith, taken_insert S x t); places = refl }

pub took_marks : {S S' : State} → SameButMarks S S' → Took S 0 0 S'
took_marks m = record { nodes = omega (arith, count_same m.m_nodes); vars = omega (arith, m.m_taken); places = rw m.m_nodes.same_args refl }

pub took_trans : {S S' S'' : State} {n v k w : ℕ} → Took S n v S' → Took S' k w S'' → Took S (n + k) (v + w) S''
took_trans a b = record { nodes = omega (arith, a.nodes, b.nodes); vars = omega (arith, a.vars, b.vars); places = cc (a.places, b.places) }

module _ {A : Type 0} {after : A → State} {P : A → Type 0} where
  pub takes_from : {S S' : State} {n v k w : ℕ} {m : Result A} → Took S n v S' → Takes S' k w after P m → Takes S (n + k) (v + w) after P m
  takes_from t (takes_ok u p) = takes_ok (took_trans t u) p
  takes_from t (takes_full f) =
      takes_full (λ r. f (record { nodes_left = omega (arith, t.nodes, r.nodes_left); vars_left = omega (arith, t.vars, r.vars_left); places_fit = omega (arith, t.places, r.places_fit) }))

  pub takes_more : {S : State} {n v n' v' : ℕ} {m : Result A} → n ≤ n' → v ≤ v' → Takes S n v after P m → Takes S n' v' after P m
  takes_more h i (takes_ok {a = a} t p) = takes_ok {a = a} (record { nodes = omega (arith, t.nodes); vars = omega (arith, t.vars); places = t.places }) p
  takes_more h i (takes_full f) = takes_full (λ r. f (record { nodes_left = omega (arith, r.nodes_left); vars_left = omega (arith, r.vars_left); places_fit = r.places_fit }))

  pub takes_map : {S : State} {n v : ℕ} {Q : A → Type 0} {m : Result A} → ((a : A) → P a → Q a) → Takes S n v after P m → Takes S n v after Q m
  takes_map f (takes_ok {a = a} t p) = takes_ok t (f a p)
  takes_map f (takes_full g) = takes_full g

  pub takes_eq : {C : Type 0} {S : State} {n v : ℕ} {m : Result C} (a : C) (f : C → Result A) → m ≡ ok a → Takes S n v after P (f a) → Takes S n v after P (m >>= f)
  unfolding ◌>>=◌
  takes_eq a f e h = rw e h

-- `?`, where what follows takes k nodes and w variables
pub takes_bind : {A C : Type 0} {S : State} {n v : ℕ} {after : A → State} {after' : C → State} {P : A → Type 0} {Q : C → Type 0} {m : Result A} (k w : ℕ) (f : A → Result C)
    → Takes S n v after P m → ((a : A) → P a → Takes (after a) k w after' Q (f a)) → Takes S (n + k) (v + w) after' Q (m >>= f)
unfolding ◌>>=◌
takes_bind k w f (takes_ok {a = a} t p) h = takes_from t (h a p)
takes_bind k w f (takes_full g) h = takes_full (λ r. g (record { nodes_left = omega (arith, r.nodes_left); vars_left = omega (arith, r.vars_left); places_fit = r.places_fit }))

-- .. with what is known of the state
pub takes_post : {B C : Type 0} {ar : TypeName → ℕ} {S : State} {n v : ℕ} {after' : C → State} {P : State → B → Type 0} {Q : C → Type 0} {m : Result (State × B)} (k w : ℕ) (f : State × B → Result C)
    → TakesAnd S n v (λ s b. Unit {0}) m → Post ar S P m → ((s : State) (b : B) → Grown S s → P s b → Takes s k w after' Q (f (s, b))) → Takes S (n + k) (v + w) after' Q (m >>= f)
unfolding ◌>>=◌
takes_post k w f (takes_ok {a = a} t u) (p_ok g p) h = takes_from t (h a.0 a.1 g p)
takes_post k w f (takes_full g) p_refused h = takes_full (λ r. g (record { nodes_left = omega (arith, r.nodes_left); vars_left = omega (arith, r.vars_left); places_fit = r.places_fit }))

-- ---- the steps

pub sp_takes : (S : State) (l : ℕ) (sh : TypeValue) → args_of sh ≡ [] → TakesAnd S 1 0 (λ s t. Unit {0}) (sp S l sh)
unfolding with_node
sp_takes S l sh e = go (sp_room S l sh)
  where
    go : {m : Result (State × ℕ)} → Room ((count S < max_nodes) × (length S.args + length (args_of sh) ≤ max_args)) (with_node S l sh, count S) m → TakesAnd S 1 0 (λ s t. Unit {0}) m
    go (room p) = takes_ok {a = (with_node S l sh, count S)} (record { nodes = omega (arith, count_with_node S l sh); vars = omega (arith, taken_with_node S l sh); places = simp (length-append, e) (omega arith) }) tt
    go (no_room n) = takes_full (λ r. n (omega (arith, r.nodes_left), rw e (omega (arith, r.places_fit))))

pub next_takes : (S : State) → TakesAnd S 0 1 (λ s t. Unit {0}) (next_tvar S)
unfolding with_var with_vars
next_takes S = go (tvar_room S)
  where
    go : {m : Result (State × ℕ)} → Room (taken S < max_vars) (with_var S, taken S) m → TakesAnd S 0 1 (λ s t. Unit {0}) m
    go (room p) = takes_ok {a = (with_var S, taken S)} (record { nodes = omega arith; vars = omega (arith, taken_with_var S); places = refl }) tt
    go (no_room n) = takes_full (λ r. n (omega (arith, r.vars_left)))

pub type_of_takes : (S : State) (loc e : ℕ) → TakesAnd S 1 0 (λ s t. Unit {0}) (type_of S loc e)
unfolding type_of args_of
type_of_takes S loc e = go (get S e)
  where
    go : (o : Option ℕ) → TakesAnd {B = ℕ} S 1 0 (λ s t. Unit {0}) (elim o [ None ↦ sp S loc Anything | Some t ↦ ok (S, t) ])
    go None = sp_takes S loc Anything refl
    go (Some t) = takes_ok {a = (S, t)} (took_none S 1 0) tt
