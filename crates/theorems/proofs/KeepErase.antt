-- R-11 with R-4: KP asks no location. With all locations set to 0 it keeps the same ones, shows the same bytes, and leaves the same state with locations set to 0 (`cleared_erase`). Assumes nothing.
use mathlib.Core.Path.{◌≡◌, refl, sym, ap, ◌∙◌}
use mathlib.Core.Bool.{Bool, ◌||◌}
use mathlib.Core.List.{List, [], ◌∷◌, map, map-map}
use Prim.Native.Nat.{ℕ, zero, suc, ◌+◌}
use lib.ListN.{length, get_or, get_or-map}
use lib.Dec.{eqb}
use Rattle.definition.specs.Types.{Node, Cell, unbound, State, Constraint, AbilityConstraint, NumericConstraint, BitsConstraint, OrderedConstraint, BaseTypeConstraint, SingleTypeConstraint}
use Rattle.definition.specs.Store.{count, taken, node, type_at, any_of}
use Rattle.definition.specs.Subst.{parts}
use Rattle.definition.specs.Join.{is_var}
use Rattle.definition.specs.Keep.{constraint_type, of_type, Reach, those_below, one_of, bound_to, round, rounds, reach, slid, has_place, kept_places, slid_shape, slid_binding, clear_all, cleared, survivors, moved}
use Rattle.theorems.proofs.Erase.{erase_node, erase_cell, erase_constraint, erase, count_erase, taken_erase, args_erase, node_erase, value_erase, get_erase, any_erase}
use Rattle.theorems.proofs.KeepLists.{those_same}

map_same : {A B : Type 0} (f g : A → B) → ((a : A) → f a ≡ g a) → (l : List A) → map f l ≡ map g l
map_same f g h [] = refl
map_same f g h (a ∷ l) = rw (h a, map_same f g h l) refl

those_alike : (n m : ℕ) (f g : ℕ → Bool) → n ≡ m → ((x : ℕ) → f x ≡ g x) → those_below n f ≡ those_below m g
those_alike n m f g e h = rw e (those_same m f g (λ x l. h x))

type_erased : (c : Constraint) → constraint_type (erase_constraint c) ≡ constraint_type c
unfolding constraint_type
type_erased (AbilityConstraint loc ty abilities) = refl
type_erased (NumericConstraint loc ty) = refl
type_erased (BitsConstraint loc ty) = refl
type_erased (OrderedConstraint loc ty) = refl
type_erased (BaseTypeConstraint loc ty) = refl
type_erased (SingleTypeConstraint loc ty) = refl

of_type_erased : (g : ℕ → ℕ) (c : Constraint) → of_type g (erase_constraint c) ≡ erase_constraint (of_type g c)
unfolding of_type
of_type_erased g (AbilityConstraint loc ty abilities) = refl
of_type_erased g (NumericConstraint loc ty) = refl
of_type_erased g (BitsConstraint loc ty) = refl
of_type_erased g (OrderedConstraint loc ty) = refl
of_type_erased g (BaseTypeConstraint loc ty) = refl
of_type_erased g (SingleTypeConstraint loc ty) = refl

reach_eq : {a b c d : List ℕ} → a ≡ b → c ≡ d → ◌≡◌ {A = Reach} (record { nodes = a; vars = c }) (record { nodes = b; vars = d })
reach_eq e f = rw (e, f) refl

module _ (s : State) where
  bound_erase : (t v : ℕ) → bound_to (erase s) t v ≡ bound_to s t v
  unfolding bound_to
  bound_erase t v = rw (get_erase s v, bound_to) refl

  node_test_erase : (r : Reach) (t : ℕ) → (one_of r.nodes t || any_of (λ v. bound_to (erase s) t v) r.vars || any_of (λ p. one_of (parts (type_at (erase s) p)) t) r.nodes)
      ≡ (one_of r.nodes t || any_of (λ v. bound_to s t v) r.vars || any_of (λ p. one_of (parts (type_at s p)) t) r.nodes)
  node_test_erase r t =
      let a : any_of (λ v. bound_to (erase s) t v) r.vars ≡ any_of (λ v. bound_to s t v) r.vars = any_erase (λ v. bound_to (erase s) t v) (λ v. bound_to s t v) (λ v. bound_erase t v) r.vars in
      let b : any_of (λ p. one_of (parts (type_at (erase s) p)) t) r.nodes ≡ any_of (λ p. one_of (parts (type_at s p)) t) r.nodes = any_erase (λ p. one_of (parts (type_at (erase s) p)) t) (λ p. one_of (parts (type_at s p)) t) (λ p. rw (value_erase s p) refl) r.nodes in
      rw (a, b) refl

  var_test_erase : (r : Reach) (v : ℕ) → (one_of r.vars v || any_of (λ t. is_var v (type_at (erase s) t)) r.nodes) ≡ (one_of r.vars v || any_of (λ t. is_var v (type_at s t)) r.nodes)
  var_test_erase r v = rw (any_erase (λ t. is_var v (type_at (erase s) t)) (λ t. is_var v (type_at s t)) (λ t. rw (value_erase s t) refl) r.nodes) refl

  round_erase : (r : Reach) → round (erase s) r ≡ round s r
  unfolding round
  round_erase r = reach_eq
      (those_alike (count (erase s)) (count s) _ _ (count_erase s) (λ t. node_test_erase r t))
      (those_alike (taken (erase s)) (taken s) _ _ (taken_erase s) (λ v. var_test_erase r v))

  rounds_erase : (n : ℕ) (r : Reach) → rounds n (erase s) r ≡ rounds n s r
  unfolding rounds
  rounds_erase zero r = refl
  rounds_erase (suc n) r = rw (round_erase r) (rounds_erase n (round s r))

  types_erase : map (λ c. constraint_type c) (erase s).constraints ≡ map (λ c. constraint_type c) s.constraints
  unfolding erase
  types_erase = map-map (λ c. constraint_type c) erase_constraint s.constraints ∙ map_same (λ c. constraint_type (erase_constraint c)) (λ c. constraint_type c) type_erased s.constraints

  pub reach_erase : (listed : List ℕ) → reach (erase s) listed ≡ reach s listed
  unfolding reach
  reach_erase listed =
      let a : count (erase s) + taken (erase s) ≡ count s + taken s = rw (count_erase s, taken_erase s) refl in
      let b = reach_eq
      (those_alike (count (erase s)) (count s) (λ t. any_of (λ ty. eqb t ty) (map (λ c. constraint_type c) (erase s).constraints)) (λ t. any_of (λ ty. eqb t ty) (map (λ c. constraint_type c) s.constraints)) (count_erase s) (λ t. rw types_erase refl))
      (those_alike (taken (erase s)) (taken s) (λ v. one_of listed v) (λ v. one_of listed v) (taken_erase s) (λ v. refl)) in
      rw (a, b) (rounds_erase (count s + taken s) _)

  has_place_erase : (i t : ℕ) → has_place (erase s) i t ≡ has_place s i t
  unfolding has_place
  has_place_erase i t = rw (node_erase s t, has_place) refl

  places_erase : (r : Reach) → kept_places (erase s) r ≡ kept_places s r
  unfolding kept_places
  places_erase r = those_alike (length (erase s).args) (length s.args) _ _ (ap length (args_erase s)) (λ i. any_erase (λ t. has_place (erase s) i t) (λ t. has_place s i t) (λ t. has_place_erase i t) r.nodes)

  module _ (r : Reach) (places : List ℕ) where
    nodes_erase : map (λ t. record { loc = (node (erase s) t).loc; value = slid_shape r.nodes places r.vars (node (erase s) t).value }) r.nodes
        ≡ map erase_node (map (λ t. record { loc = (node s t).loc; value = slid_shape r.nodes places r.vars (node s t).value }) r.nodes)
    nodes_erase =
        map_same (λ t. record { loc = (node (erase s) t).loc; value = slid_shape r.nodes places r.vars (node (erase s) t).value }) (λ t. erase_node (record { loc = (node s t).loc; value = slid_shape r.nodes places r.vars (node s t).value }))
        (λ t. rw (node_erase s t) refl) r.nodes
        ∙ sym (map-map erase_node (λ t. record { loc = (node s t).loc; value = slid_shape r.nodes places r.vars (node s t).value }) r.nodes)

    cell_of : List Cell → ℕ → Cell
    cell_of cells v = let c : Cell = get_or cells v unbound in record { binding = slid_binding r.nodes c.binding; numeric = c.numeric; need = c.need }

    cells_erase : map (cell_of (map erase_cell s.vars)) r.vars ≡ map erase_cell (map (cell_of s.vars) r.vars)
    unfolding cell_of
    cells_erase =
        map_same (cell_of (map erase_cell s.vars)) (λ v. erase_cell (cell_of s.vars v)) (λ v. rw (get_or-map erase_cell s.vars v unbound) refl) r.vars
        ∙ sym (map-map erase_cell (cell_of s.vars) r.vars)

    asked_erase : map (λ c. of_type (slid r.nodes) c) (map erase_constraint s.constraints) ≡ map erase_constraint (map (λ c. of_type (slid r.nodes) c) s.constraints)
    asked_erase =
        map-map (λ c. of_type (slid r.nodes) c) erase_constraint s.constraints
        ∙ map_same (λ c. of_type (slid r.nodes) (erase_constraint c)) (λ c. erase_constraint (of_type (slid r.nodes) c)) (λ c. of_type_erased (slid r.nodes) c) s.constraints
        ∙ sym (map-map erase_constraint (λ c. of_type (slid r.nodes) c) s.constraints)

    state_eq : {a a' : List Node} {b : List ℕ} {c c' : List Cell} {d d' : List Constraint} → a ≡ a' → c ≡ c' → d ≡ d'
        → ◌≡◌ {A = State} (record { nodes = a; args = b; vars = c; constraints = d; structs = s.structs }) (record { nodes = a'; args = b; vars = c'; constraints = d'; structs = s.structs })
    state_eq e g h = rw (e, g, h) refl

    clear_erase : clear_all (erase s) r places ≡ erase (clear_all s r places)
    unfolding clear_all erase cell_of
    clear_erase = state_eq nodes_erase cells_erase asked_erase

  pub cleared_erase : (listed : List ℕ) → cleared (erase s) listed ≡ erase (cleared s listed)
  unfolding cleared
  cleared_erase listed = rw (reach_erase listed, places_erase (reach s listed)) (clear_erase (reach s listed) (kept_places s (reach s listed)))

  -- .. and shows the same, and sends each variable to the same number
  pub shown_erase : (listed : List ℕ) → survivors (reach (erase s) listed).vars ≡ survivors (reach s listed).vars
  shown_erase listed = rw (reach_erase listed) refl

  pub moved_erase : (listed : List ℕ) (v : ℕ) → moved (erase s) listed v ≡ moved s listed v
  unfolding moved
  moved_erase listed v = rw (reach_erase listed) refl
