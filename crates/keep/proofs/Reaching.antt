-- What is reached is marked: lists of things one after the other, what one thing reaches, and the walk over all that is not looked into yet. Assumes nothing.
use mathlib.Core.Path.{◌≡◌, refl, sym, ap, subst, ◌∙◌}
use mathlib.Core.Logic.{◌⊎◌, inl, inr}
use mathlib.Core.Bool.{true, false}
use mathlib.Core.List.{List, [], ◌∷◌, Memᴰ}
use mathlib.Core.List.Memᴰ
use Prim.Native.Nat.{ℕ, zero, suc, ◌+◌, ◌≤◌, ◌<◌}
use native.Mathlib.Omega.{arith}
use native.Mathlib.Decide.{ℕ_discrete}
use lib.ListN.{length, get_or, take, length-take}
use lib.Seq.{get_or-take}
use Rattle.std.proofs.lemmas.Bool.{false≢true}
use Rattle.definition.specs.Types as d
use Rattle.definition.specs.Types.{Var}
use Rattle.std.specs.Prelude.{Option, None, Some}
use Rattle.definition.specs.Store.{count, type_at, get, node, with_args, args_at, with_structs}
use Rattle.definition.specs.Subst.{as_var, parts}
use Rattle.definition.specs.Keep.{Thing, a_node, a_variable, constraint_type, Kept, a_listed_one, of_a_constraint, its_binding, its_part, its_variable}
use Rattle.theorems.proofs.LawsChains.{as_var_is}
use Rattle.names.specs.declared.TVar.{TVar}
use Rattle.table.specs.Rows.{constraint_table}
use Rattle.table.specs.State.{node_of, shape_of, constraint_of, seen}
use Rattle.table.specs.Did.{held, tables}
use Rattle.table.specs.declared.Node.{Node}
use Rattle.table.specs.declared.Constraint.{Constraint}
use Rattle.table.specs.declared.state.State.{State}
use Rattle.table.proofs.Laws.{value_seen}
use Rattle.table.proofs.Pushed.{count_view, constraints_view, taken_view}
use Rattle.shapes.specs.Parts.{next}
use Rattle.keep.specs.Marked.{thing_of, marked, Open, ahead, Fits, Blank, Grown, MarksAll, Popped, Before, Next, to_binding, to_part, to_variable, constraint_node, InTables, Reaching, Draining, Stays}
use Rattle.keep.specs.declared.marks.Marks.{Marks}
use Rattle.keep.specs.declared.marks.Thing as code
use Rattle.keep.specs.declared.marks.Thing.TheVariants as code_thing
use Rattle.keep.proofs.Marking.{grown_none, grown_trans, grown_as}

-- ---- one after the other

module _ (f : ℕ → Thing) where
  pub before_none : {m : Marks} → Fits m → MarksAll (Before f 0) m m
  before_none h = record { grown = grown_none h; all = λ x b. absurd (omega (arith, b.1)) }

  pub before_more : {m m' m'' : Marks} {i : ℕ} → MarksAll (Before f i) m m' → MarksAll (λ x. x ≡ f i) m' m'' → MarksAll (Before f (i + 1)) m m''
  before_more {m'' = m''} {i = i} a b = record {
    grown = grown_trans (grown_as (λ x k. (k.0, omega (arith, k.1), k.2)) a.grown) (grown_as (λ x e. (i, omega arith, e)) b.grown);
    all = λ x k. by x k (ℕ_discrete k.0 i);
  }
    where
      by : (x : Thing) (k : Before f (i + 1) x) → Dec (k.0 ≡ i) → marked m'' x ≡ true
      by x k (yes e) = b.all x (k.2 ∙ ap f e)
      by x k (no e) = b.grown.stay x (a.all x (k.0, omega (arith, k.1, e), k.2))

  pub before_all : {m m' : Marks} {i n : ℕ} → MarksAll (Before f i) m m' → i ≡ n → MarksAll (Before f n) m m'
  before_all a e = rw (← e) a

pub marks_as : {x y : Thing} {m m' : Marks} → x ≡ y → MarksAll (λ z. z ≡ x) m m' → MarksAll (λ z. z ≡ y) m m'
marks_as {m = m} {m' = m'} e a = subst (λ (y : Thing). MarksAll (λ z. z ≡ y) m m') e a

some_is : {a b : ℕ} → Some a ≡ Some b → a ≡ b
some_is {a = a} e = ap (λ (o : Option ℕ). elim o [ None ↦ a | Some x ↦ x ]) e

pub its_var : {o : Option TVar} {v w : TVar} {m m' m'' : Marks} → m'' ≡ m' → o ≡ Some w → o ≡ Some v → MarksAll (λ x. x ≡ a_variable w.0) m m' → marked m'' (a_variable v.0) ≡ true
its_var {w = w} d e f a = rw d (a.all _ (ap a_variable (some_is (ap next (sym f ∙ e)))))

-- ---- a state's words: what is asked of them is the same whatever the declarations are

module _ (st : State) where
  type_here : (ds : List d.Struct) (t : ℕ) → type_at (held st ds) t ≡ type_at (tables st) t
  unfolding type_at node with_args args_at seen with_structs
  type_here ds t = refl

  pub binding_here : (ds : List d.Struct) (v : ℕ) → get (held st ds) v ≡ get (tables st) v
  unfolding get seen with_structs
  binding_here ds v = refl

  pub constraint_here : (i r : ℕ) (c : Constraint) → ((ds : List d.Struct) → constraint_of c ≡ get_or (held st ds).constraints i constraint_table.blank) → r ≡ constraint_type (constraint_of c) → a_node r ≡ constraint_node (tables st) i
  unfolding seen with_structs
  constraint_here i r c e f = ap a_node (f ∙ ap constraint_type (e []))

pub entry_in : {A : Type 0} (d : A) (l : List A) (i : ℕ) → i < length l → Memᴰ (get_or l i d) l
entry_in d [] i h = absurd (omega arith)
entry_in d (x ∷ l) zero h = Memᴰ.head refl
entry_in d (x ∷ l) (suc i) h = Memᴰ.tail (entry_in d l i (omega arith))

pub place_at : {A : Type 0} (d : A) (l : List A) (p : A) → Memᴰ p l → (i : ℕ) × (i < length l) × (get_or l i d ≡ p)
place_at d [] p m = absurd (Memᴰ.not-nil m)
place_at d (x ∷ l) p m = elim (Memᴰ.cases_cons m) [ inl e ↦ (0, omega arith, sym e) | inr k ↦ (let i = place_at d l p k in (suc i.0, omega (arith, i.1), i.2)) ]

none_some : {b : ℕ} → ◌≡◌ {A = Option ℕ} None (Some b) → ⊥
none_some e = false≢true (ap (λ (o : Option ℕ). elim o [ None ↦ false | Some x ↦ true ]) e)

node_is : {t u : ℕ} → a_node t ≡ a_node u → t ≡ u
node_is e = ap number e
  where
    number : Thing → ℕ
    number (a_node t) = t
    number (a_variable v) = v

module _ (st : State) (r : Reaching (tables st)) where
  pub constraint_low : (i t : ℕ) → i < st.used.constraints → a_node t ≡ constraint_node (tables st) i → t < 2048
  constraint_low i t h e =
      let n = constraints_view st.words.now st.used in
      let l = r.constraints _ (entry_in constraint_table.blank (tables st).constraints i (rw n h)) in
      let q = node_is e in
      omega (arith, r.few, l, q)

  -- ---- what a thing reaches at once

  module _ (t : ℕ) (lt : t < st.used.nodes) (n : Node) (is : (ds : List d.Struct) → node_of n ≡ node (held st ds) t) where
    type_is : type_at (tables st) t ≡ with_args (held st []) (shape_of n.shape)
    type_is = sym (type_here st [] t) ∙ value_seen st.words.now st.used t n is []

    -- the variable that it is, if it is one
    module _ (o : Option TVar) (of : (s : d.State) → next o ≡ as_var (with_args s (shape_of n.shape))) where
      as_var_here : as_var (type_at (tables st) t) ≡ next o
      as_var_here = ap as_var type_is ∙ sym (of (held st []))

    pub var_here : (v : TVar) → ((s : d.State) → next (Some v) ≡ as_var (with_args s (shape_of n.shape))) → type_at (tables st) t ≡ Var v.0
    var_here v of = as_var_is (type_at (tables st) t) v.0 (as_var_here (Some v) of)

    pub var_low : (v : TVar) → ((s : d.State) → next (Some v) ≡ as_var (with_args s (shape_of n.shape))) → v.0 < 1024
    var_low v of = let k = r.vars t v.0 (rw (count_view st.words.now st.used) lt) (var_here v of) in omega (arith, k, r.few_vars)

    pub marks_var : {m m' : Marks} (v : TVar) → ((s : d.State) → next (Some v) ≡ as_var (with_args s (shape_of n.shape))) → MarksAll (λ x. x ≡ a_variable v.0) m m' → Grown (λ x. Next (tables st) (a_node t) x) m m'
    marks_var v of a = grown_as (λ x e. rw e (to_variable {t = t} {v = v.0} (var_here v of))) a.grown

    module _ (ps : List ℕ) (listed : (ds : List d.Struct) → ps ≡ parts (type_at (held st ds) t)) where
      parts_here : ps ≡ parts (type_at (tables st) t)
      parts_here = listed [] ∙ ap parts (type_here st [] t)

      pub parts_low : (k : ℕ) → k < length ps → get_or ps k 0 < 2048
      parts_low k h =
          let m : Memᴰ (get_or ps k 0) (parts (type_at (tables st) t)) = rw (← parts_here) (entry_in 0 ps k h) in
          let q = r.below t (get_or ps k 0) (rw (count_view st.words.now st.used) lt) m in
          omega (arith, q, r.few)

      part_at : (p : ℕ) → Memᴰ p (parts (type_at (tables st) t)) → Before (λ k. a_node (get_or ps k 0)) (length ps) (a_node p)
      part_at p m = let i = place_at 0 ps p (rw parts_here m) in (i.0, i.1, ap a_node (sym i.2))

      at_part : (x : Thing) → Before (λ k. a_node (get_or ps k 0)) (length ps) x → Next (tables st) (a_node t) x
      at_part x b = rw b.2 (to_part {t = t} {p = get_or ps b.0 0} (rw (← parts_here) (entry_in 0 ps b.0 b.1)))

      -- its parts are marked, and before them the variable that it is, if it is one
      pub marks_parts : {m m' m'' : Marks} (o : Option TVar) → ((s : d.State) → next o ≡ as_var (with_args s (shape_of n.shape))) → Grown (λ x. Next (tables st) (a_node t) x) m m' → ((v : TVar) → o ≡ Some v → marked m' (a_variable v.0) ≡ true)
          → MarksAll (Before (λ k. a_node (get_or ps k 0)) (length ps)) m' m'' → MarksAll (Next (tables st) (a_node t)) m m''
      unfolding as_var
      marks_parts {m' = m'} {m'' = m''} o of g var b = record { grown = grown_trans g (grown_as at_part b.grown); all = all }
        where
          all : (x : Thing) → Next (tables st) (a_node t) x → marked m'' x ≡ true
          all _ (to_part {p = p} k) = b.all (a_node p) (part_at p k)
          all _ (to_variable {v = v} e) = by o (sym (as_var_here o of) ∙ ap as_var e) var
            where
              by : (o : Option TVar) → next o ≡ Some v → ((w : TVar) → o ≡ Some w → marked m' (a_variable w.0) ≡ true) → marked m'' (a_variable v) ≡ true
              by None z f = absurd (none_some z)
              by (Some w) z f = rw (← (some_is z)) (b.grown.stay (a_variable w.0) (f w refl))

  -- ---- a thing taken off: what it reaches

  pub node_low : (t : ℕ) {x : code.Thing} → x ≡ code_thing.Node t → InTables (tables st) (thing_of x) → t < st.used.nodes
  node_low t e h = let l : t < count (tables st) = rw e at h in omega (arith, l, count_view st.words.now st.used)

  pub at_binding : (v : ℕ) (o : Option ℕ) → ((ds : List d.Struct) → o ≡ get (held st ds) v) → get (tables st) v ≡ o
  at_binding v o e = sym (e [] ∙ binding_here st [] v)

  pub binding_low : (v t : ℕ) → get (tables st) v ≡ Some t → t < 2048
  binding_low v t e = let b = r.bound v t e in omega (arith, b, r.few)

  pub marks_binding : (v t : ℕ) {m m' : Marks} → get (tables st) v ≡ Some t → MarksAll (λ x. x ≡ a_node t) m m' → MarksAll (Next (tables st) (a_variable v)) m m'
  marks_binding v t {m' = m'} e a = record { grown = grown_as (λ x d. rw d (to_binding {v = v} {t = t} e)) a.grown; all = all }
    where
      all : (x : Thing) → Next (tables st) (a_variable v) x → marked m' x ≡ true
      all _ (to_binding {t = u} f) = a.all (a_node u) (ap a_node (some_is (sym f ∙ e)))

  pub marks_no_binding : (v : ℕ) {m : Marks} → Fits m → get (tables st) v ≡ None → MarksAll (Next (tables st) (a_variable v)) m m
  marks_no_binding v {m = m} f e = record { grown = grown_none f; all = all }
    where
      all : (x : Thing) → Next (tables st) (a_variable v) x → marked m x ≡ true
      all _ (to_binding {t = u} g) = absurd (none_some (sym e ∙ g))

-- ---- all that is marked is looked into

module _ (s : d.State) (r : Reaching s) (listed : List ℕ) where
  next_inside : (x y : Thing) → InTables s x → Next s x y → InTables s y
  next_inside _ _ i (to_binding {v = v} {t = t} e) = r.bound v t e
  next_inside _ _ i (to_part {t = t} {p = p} m) = r.below t p i m
  next_inside _ _ i (to_variable {t = t} {v = v} e) = r.vars t v i e

  next_kept : (x y : Thing) → Kept s listed x → Next s x y → Kept s listed y
  next_kept _ _ k (to_binding e) = its_binding k e
  next_kept _ _ k (to_part m) = its_part k m
  next_kept _ _ k (to_variable e) = its_variable k e

  -- x is taken off, and what it reaches is marked
  pub drained_more : {m m' m'' : Marks} (x : code.Thing) → Draining s listed m → Popped m x m' → MarksAll (Next s (thing_of x)) m' m'' → Draining s listed m''
  drained_more {m = m} {m' = m'} {m'' = m''} x d p a = record { fits = a.grown.fits; inside = λ y e. inside y (a.grown.fresh y e); kept = λ y e. kept y (a.grown.fresh y e); listed_ones = λ v k. later (a_variable v) (d.listed_ones v k); constraints = λ c k. later (a_node (constraint_type c)) (d.constraints c k); closed = λ y z e n. closed y z (a.grown.fresh y e) n }
    where
      was : (y : Thing) → marked m' y ≡ true → marked m y ≡ true
      was y e = sym (p.same y) ∙ e

      later : (y : Thing) → marked m y ≡ true → marked m'' y ≡ true
      later y e = a.grown.stay y (p.same y ∙ e)

      x_marked : marked m (thing_of x) ≡ true
      x_marked = d.fits.open_marked (thing_of x) p.was_open

      inside : (y : Thing) → (marked m' y ≡ true) ⊎ (Open m'' y × Next s (thing_of x) y) → InTables s y
      inside y (inl e) = d.inside y (was y e)
      inside y (inr n) = next_inside (thing_of x) y (d.inside (thing_of x) x_marked) n.1

      kept : (y : Thing) → (marked m' y ≡ true) ⊎ (Open m'' y × Next s (thing_of x) y) → Kept s listed y
      kept y (inl e) = d.kept y (was y e)
      kept y (inr n) = next_kept (thing_of x) y (d.kept (thing_of x) x_marked) n.1

      still : (y z : Thing) → Next s y z → (Open m' y ⊎ (y ≡ thing_of x)) → (marked m'' z ≡ true) ⊎ Open m'' y
      still y z n (inl o) = inr (a.grown.stay_open y o)
      still y z n (inr e) = inl (a.all z (subst (λ (w : Thing). Next s w z) e n))

      closed : (y z : Thing) → (marked m' y ≡ true) ⊎ (Open m'' y × Next s (thing_of x) y) → Next s y z → (marked m'' z ≡ true) ⊎ Open m'' y
      closed y z (inr o) n = inr o.0
      closed y z (inl e) n = elim (d.closed y z (was y e) n) [ inl f ↦ inl (later z f) | inr o ↦ still y z n (p.others y o) ]

  pub drained_steps : {m m' m'' : Marks} (i : ℕ) (x : code.Thing) → i + ahead m ≤ 3072 → Popped m x m' → MarksAll (Next s (thing_of x)) m' m'' → (i + 1) + ahead m'' ≤ 3072
  drained_steps i x h p a = omega (arith, h, p.less, a.grown.no_more)

  -- nothing is looked into yet
  pub draining_none : {m m' m'' : Marks} (f g : ℕ → Thing) (n k : ℕ) → Blank m → MarksAll (Before f n) m m' → MarksAll (Before g k) m' m''
      → ((x : Thing) → Before f n x ⊎ Before g k x → InTables s x × Kept s listed x)
      → ((v : ℕ) → Memᴰ v listed → Before f n (a_variable v)) → ((c : d.Constraint) → Memᴰ c s.constraints → Before g k (a_node (constraint_type c))) → Draining s listed m''
  draining_none {m = m} {m' = m'} {m'' = m''} f g n k b a c each vars types = record {
    fits = c.grown.fits;
    inside = λ x e. (each x (of x e).1).0;
    kept = λ x e. (each x (of x e).1).1;
    listed_ones = λ v d. c.grown.stay (a_variable v) (a.all (a_variable v) (vars v d));
    constraints = λ t d. c.all (a_node (constraint_type t)) (types t d);
    closed = λ x y e h. inr (of x e).0;
  }
    where
      first : (x : Thing) → (marked m x ≡ true) ⊎ (Open m' x × Before f n x) → Open m' x × Before f n x
      first x (inl e) = absurd (false≢true (sym (b.none x) ∙ e))
      first x (inr o) = o

      by : (x : Thing) → (marked m' x ≡ true) ⊎ (Open m'' x × Before g k x) → Open m'' x × (Before f n x ⊎ Before g k x)
      by x (inl e) = let o = first x (a.grown.fresh x e) in (c.grown.stay_open x o.0, inl o.1)
      by x (inr o) = (o.0, inr o.1)

      of : (x : Thing) → marked m'' x ≡ true → Open m'' x × (Before f n x ⊎ Before g k x)
      of x e = by x (c.grown.fresh x e)

  -- all is looked into
  pub drained : {m : Marks} → Draining s listed m → m.many ≡ 0 → Stays s listed m
  drained {m = m} d none = record { long_nodes = d.fits.long_nodes; long_vars = d.fits.long_vars; inside = d.inside; kept = d.kept; all = all }
    where
      next : (x y : Thing) → marked m x ≡ true → Next s x y → marked m y ≡ true
      next x y e n = elim (d.closed x y e n) [ inl f ↦ f | inr o ↦ absurd (omega (arith, o.1, none)) ]

      all : (x : Thing) → Kept s listed x → marked m x ≡ true
      all _ (a_listed_one {v = v} k) = d.listed_ones v k
      all _ (of_a_constraint {c = c} k) = d.constraints c k
      all _ (its_binding {v = v} {t = t} k e) = next (a_variable v) (a_node t) (all (a_variable v) k) (to_binding e)
      all _ (its_part {t = t} {p = p} k h) = next (a_node t) (a_node p) (all (a_node t) k) (to_part h)
      all _ (its_variable {t = t} {v = v} k e) = next (a_node t) (a_variable v) (all (a_node t) k) (to_variable e)

-- what is listed and what the constraints are on
module _ (st : State) (r : Reaching (tables st)) (vars : List ℕ) (n : ℕ) (fit : n ≤ length vars) (in_use : (k : ℕ) → k < n → get_or vars k 0 < st.used.vars) where
  taken_at : (k : ℕ) → k < n → Memᴰ (get_or vars k 0) (take n vars)
  taken_at k h = rw (← get_or-take n vars k 0 h) (entry_in 0 (take n vars) k (rw (length-take n vars) (omega (arith, fit, h))))

  pub begun : {m m' m'' : Marks} → Blank m → MarksAll (Before (λ k. a_variable (get_or vars k 0)) n) m m' → MarksAll (Before (constraint_node (tables st)) st.used.constraints) m' m'' → Draining (tables st) (take n vars) m''
  begun b a c = draining_none (tables st) r (take n vars) (λ k. a_variable (get_or vars k 0)) (constraint_node (tables st)) n st.used.constraints b a c each listed types
    where
      each : (x : Thing) → Before (λ k. a_variable (get_or vars k 0)) n x ⊎ Before (constraint_node (tables st)) st.used.constraints x → InTables (tables st) x × Kept (tables st) (take n vars) x
      each x (inl k) = rw k.2 (rw (taken_view st.words.now st.used) (in_use k.0 k.1), a_listed_one (taken_at k.0 k.1))
      each x (inr k) = let h = entry_in constraint_table.blank (tables st).constraints k.0 (rw (constraints_view st.words.now st.used) k.1) in rw k.2 (r.constraints _ h, of_a_constraint h)

      listed : (v : ℕ) → Memᴰ v (take n vars) → Before (λ k. a_variable (get_or vars k 0)) n (a_variable v)
      listed v m =
          let i = place_at 0 (take n vars) v m in
          let l : i.0 < n = omega (arith, length-take n vars, i.1) in
          (i.0, l, ap a_variable (sym i.2 ∙ get_or-take n vars i.0 0 l))

      constraint_thing : d.Constraint → Thing
      constraint_thing c = a_node (constraint_type c)

      types : (c : d.Constraint) → Memᴰ c (tables st).constraints → Before (constraint_node (tables st)) st.used.constraints (a_node (constraint_type c))
      types c m = let i = place_at constraint_table.blank (tables st).constraints c m in (i.0, omega (arith, i.1, constraints_view st.words.now st.used), ap constraint_thing (sym i.2))
