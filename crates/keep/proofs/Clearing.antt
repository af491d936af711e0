-- What is marked in a sound state is what KP keeps, and the rows that slid down are the state that it leaves. Assumes nothing.
-- First a sound state's facts as the marks ask for them; then the lists of `reach`; then the new numbers; then table by table.
use mathlib.Core.Path.{◌≡◌, refl, sym, ap, ◌∙◌}
use mathlib.Core.Bool.{Bool, true, false}
use mathlib.Core.List.{List, [], ◌∷◌, ◌++◌, map, Memᴰ}
use Prim.Native.Nat.{ℕ, zero, suc, ◌+◌, ◌<◌}
use native.Mathlib.Omega.{arith}
use Rattle.std.proofs.lemmas.List.{map-append}
use Rattle.definition.specs.Types as d
use Rattle.definition.specs.Types.{Struct, Places, Var, unbound}
use Rattle.definition.specs.Store.{count, taken, node, type_at, with_args, args_at, get, with_structs}
use Rattle.definition.specs.Subst.{parts}
use Rattle.definition.specs.Write.{Bytes, each}
use Rattle.definition.specs.Keep.{Thing, a_node, a_variable, Kept, a_listed_one, of_a_constraint, its_binding, its_part, its_variable, constraint_type, of_type, Reach, those_below, bound_to, round, rounds, reach, has_place, kept_places, clear_all, cleared}
use Rattle.theorems.proofs.SoundFacts.{facts}
use Rattle.theorems.proofs.TotalFinite.{all_at}
use Rattle.theorems.proofs.KeepLists.{mem_those, those_mem, those_same}
use Rattle.theorems.proofs.KeepReach.{Ranged, ranged, TakenAll, kept_is, type_of_constraint}
use Rattle.table.specs.Tab.{tab}
use Rattle.table.specs.State.{seen}
use Rattle.table.specs.Did.{held, tables}
use Rattle.table.specs.declared.state.State.{State}
use Rattle.table.proofs.Pushed.{count_view, taken_view}
use Rattle.keep.specs.Marked.{Stays, Reaching}
use Rattle.keep.specs.Numbered.{among}
use Rattle.keep.specs.Keeps.{AsSound}
use Rattle.keep.specs.declared.marks.Marks.{Marks}

-- ---- lists

pub map_on : {B : Type 0} (f g : ℕ → B) (l : List ℕ) → ((x : ℕ) → Memᴰ x l → f x ≡ g x) → map f l ≡ map g l
map_on f g [] h = refl
map_on f g (x ∷ l) h = rw (h x (Memᴰ.head refl), map_on f g l (λ y m. h y (Memᴰ.tail m))) refl

pub each_on : (f g : ℕ → Bytes) (l : List ℕ) → ((x : ℕ) → Memᴰ x l → f x ≡ g x) → each f l ≡ each g l
unfolding each
each_on f g [] h = refl
each_on f g (x ∷ l) h = rw (h x (Memᴰ.head refl), each_on f g l (λ y m. h y (Memᴰ.tail m))) refl

pub all_tab : {B : Type 0} (h : ℕ → B) (n : ℕ) → map h (those_below n (λ i. true)) ≡ tab n h
unfolding those_below tab
all_tab h zero = refl
all_tab h (suc n) = map-append h (those_below n (λ i. true)) (n ∷ []) ∙ ap (λ (l : List _). l ++ (h n ∷ [])) (all_tab h n)

pub map_tab : {A B : Type 0} (g : A → B) (f : ℕ → A) (n : ℕ) → map g (tab n f) ≡ tab n (λ i. g (f i))
unfolding tab
map_tab g f zero = refl
map_tab g f (suc n) = map-append g (tab n f) (f n ∷ []) ∙ ap (λ (l : List _). l ++ (g (f n) ∷ [])) (map_tab g f n)

same_test : (a b : Bool) → (a ≡ true → b ≡ true) → (b ≡ true → a ≡ true) → a ≡ b
same_test true b f g = sym (f refl)
same_test false true f g = g refl
same_test false false f g = refl

pub of_type_same : (f g : ℕ → ℕ) (c : d.Constraint) → f (constraint_type c) ≡ g (constraint_type c) → of_type f c ≡ of_type g c
unfolding constraint_type of_type
of_type_same f g (d.AbilityConstraint loc ty abilities) e = rw e refl
of_type_same f g (d.NumericConstraint loc ty) e = rw e refl
of_type_same f g (d.BitsConstraint loc ty) e = rw e refl
of_type_same f g (d.OrderedConstraint loc ty) e = rw e refl
of_type_same f g (d.BaseTypeConstraint loc ty) e = rw e refl
of_type_same f g (d.SingleTypeConstraint loc ty) e = rw e refl

-- ---- declarations do not matter

module _ (s : d.State) (ds : List Struct) (listed : List ℕ) where
  round_here : (r : Reach) → round (with_structs s ds) r ≡ round s r
  unfolding round with_structs type_at node with_args args_at bound_to get
  round_here r = refl

  rounds_here : (n : ℕ) (r : Reach) → rounds n (with_structs s ds) r ≡ rounds n s r
  unfolding rounds
  rounds_here zero r = refl
  rounds_here (suc n) r = ap (rounds n (with_structs s ds)) (round_here r) ∙ rounds_here n (round s r)

  pub reach_here : reach (with_structs s ds) listed ≡ reach s listed
  unfolding reach with_structs
  reach_here = rounds_here (count s + taken s) _

  all_here : (r : Reach) → clear_all (with_structs s ds) r (kept_places (with_structs s ds) r) ≡ with_structs (clear_all s r (kept_places s r)) ds
  unfolding clear_all kept_places has_place with_structs node
  all_here r = refl

  pub cleared_here : cleared (with_structs s ds) listed ≡ with_structs (cleared s listed) ds
  unfolding cleared
  cleared_here = ap (λ (r : Reach). clear_all (with_structs s ds) r (kept_places (with_structs s ds) r)) reach_here ∙ all_here (reach s listed)

  kept_there : {x : Thing} → Kept s listed x → Kept (with_structs s ds) listed x
  unfolding with_structs type_at node with_args args_at get
  kept_there (a_listed_one m) = a_listed_one m
  kept_there (of_a_constraint m) = of_a_constraint m
  kept_there (its_binding k e) = its_binding (kept_there k) e
  kept_there (its_part k m) = its_part (kept_there k) m
  kept_there (its_variable k e) = its_variable (kept_there k) e

  kept_here : {x : Thing} → Kept (with_structs s ds) listed x → Kept s listed x
  unfolding with_structs type_at node with_args args_at get
  kept_here (a_listed_one m) = a_listed_one m
  kept_here (of_a_constraint m) = of_a_constraint m
  kept_here (its_binding k e) = its_binding (kept_here k) e
  kept_here (its_part k m) = its_part (kept_here k) m
  kept_here (its_variable k e) = its_variable (kept_here k) e

-- ---- a sound state

module _ (st : State) (a : AsSound st) where
  pub reaching : Reaching (tables st)
  unfolding seen with_structs type_at node with_args args_at get
  reaching =
      let f = facts (held st a.structs) a.is_sound in
      record {
        few = let l = st.lay.nodes in omega (arith, l, count_view st.words.now st.used);
        few_vars = let l = st.lay.vars in omega (arith, l, taken_view st.words.now st.used);
        vars = f.var_in;
        bound = f.bind_in;
        below = λ t p l m. let b : p < t = all_at (λ q. q < t) (parts (type_at (tables st) t)) (f.parts_below t l) p m in omega (arith, b, l);
        constraints = λ c m. rw (type_of_constraint c) (f.constraints_on.on c m);
      }

  -- ---- what is marked is what `reach` lists
  module _ (listed : List ℕ) (known : (v : ℕ) → Memᴰ v listed → v < st.used.vars) (m : Marks) (h : Stays (tables st) listed m) where
    unfoldable pub s₀ : d.State
    s₀ = held st a.structs

    pub taken_all : TakenAll s₀ listed
    unfolding s₀ seen with_structs
    taken_all v k = let l = known v k in omega (arith, l, taken_view st.words.now st.used)

    node_marked : (g : Ranged s₀ (reach s₀ listed)) (t : ℕ) → t < count s₀ → g.of_nodes t ≡ among m.nodes t
    unfolding s₀ seen
    node_marked g t l = same_test (g.of_nodes t) (among m.nodes t)
        (λ e. h.all (a_node t) (kept_here (tables st) a.structs listed ((kept_is s₀ a.is_sound listed taken_all (a_node t)).0 (rw g.nodes_are (mem_those (count s₀) g.of_nodes t l e)))))
        (λ e. (those_mem (count s₀) g.of_nodes t (rw (← g.nodes_are) ((kept_is s₀ a.is_sound listed taken_all (a_node t)).1 (kept_there (tables st) a.structs listed (h.kept (a_node t) e))))).1)

    var_marked : (g : Ranged s₀ (reach s₀ listed)) (v : ℕ) → v < taken s₀ → g.of_vars v ≡ among m.vars v
    unfolding s₀ seen
    var_marked g v l = same_test (g.of_vars v) (among m.vars v)
        (λ e. h.all (a_variable v) (kept_here (tables st) a.structs listed ((kept_is s₀ a.is_sound listed taken_all (a_variable v)).0 (rw g.vars_are (mem_those (taken s₀) g.of_vars v l e)))))
        (λ e. (those_mem (taken s₀) g.of_vars v (rw (← g.vars_are) ((kept_is s₀ a.is_sound listed taken_all (a_variable v)).1 (kept_there (tables st) a.structs listed (h.kept (a_variable v) e))))).1)

    pub nodes_marked : (reach (tables st) listed).nodes ≡ those_below st.used.nodes (among m.nodes)
    unfolding s₀ seen with_structs
    nodes_marked =
        let g = ranged s₀ listed in
        ap (λ (r : Reach). r.nodes) (sym (reach_here (tables st) a.structs listed)) ∙ g.nodes_are ∙ those_same (count s₀) g.of_nodes (among m.nodes) (node_marked g) ∙ ap (λ (n : ℕ). those_below n (among m.nodes)) (count_view st.words.now st.used)

    pub vars_marked : (reach (tables st) listed).vars ≡ those_below st.used.vars (among m.vars)
    unfolding s₀ seen with_structs
    vars_marked =
        let g = ranged s₀ listed in
        ap (λ (r : Reach). r.vars) (sym (reach_here (tables st) a.structs listed)) ∙ g.vars_are ∙ those_same (taken s₀) g.of_vars (among m.vars) (var_marked g) ∙ ap (λ (n : ℕ). those_below n (among m.vars)) (taken_view st.words.now st.used)
