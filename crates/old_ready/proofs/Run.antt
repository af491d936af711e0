-- ready_tvars: the parts one after the other (table's walk, over the parts of a node as it was), and the whole run, as the code goes about them. Assumes nothing.
use mathlib.Core.Path.{◌≡◌, refl, sym, ap, ap₂, ◌∙◌, subst}
use mathlib.Core.Bool.{Bool, true, false}
use mathlib.Core.List.{List, [], ◌∷◌}
use Rattle.std.specs.Prelude.{Ok, Err, None, Some}
use Rattle.std.specs.Prelude as core
use Prim.Native.Nat.{ℕ, ◌+◌, ◌*◌, ◌<◌, ◌≤◌}
use native.Mathlib.Omega.{arith}
use lib.ListN.{length, get_or, set, take, get_or-append}
use lib.Seq.{get_or-take}
use denote.Enum.Declared.{tag_of}
use types.Run.{OneOf}
use Rattle.definition.specs.Types as d
use Rattle.definition.specs.Types.{Struct, Places, Result, ok, ◌>>=◌}
use Rattle.definition.specs.Store.{count, node, nowhere, args_at, with_args, type_at, loc_of, sp, with_structs}
use Rattle.definition.specs.Subst.{parts, reaches_itself, ready, ready_tvars}
use Rattle.names.specs.Names.{mark_of, name_of}
use Rattle.names.specs.declared.TVar.{TVar}
use Rattle.table.specs.State.{shape_of, node_of, outcome, seen, Below, Grown, Front, Any, Parts as PartsIn}
use Rattle.table.specs.Did.{held, tables, Linked, Did}
use Rattle.table.specs.declared.state.State.{State}
use Rattle.table.specs.declared.state.Stop.{Stop}
use Rattle.table.specs.declared.state.Stop.TheVariants.{Refused}
use Rattle.table.specs.declared.Node.{Node}
use Rattle.table.specs.declared.Shape.{Shape}
use Rattle.table.specs.declared.Applied.{Applied}
use Rattle.table.specs.declared.Shape.TheVariants.{Ref as RefS, Apply as ApplyS}
use Rattle.refusals.specs.declared.Refusal.TheVariants.{RunsIntoItself}
use Rattle.table.specs.contracts.Shape.{the_type}
use Rattle.table.proofs.Did.{linked_now, linked, did_now, did_is, to_when, of_when, stop_none}
use Rattle.table.proofs.Grown.{still_in, args_kept, loc_is, value_is}
use Rattle.table.proofs.Walk.{rest, Walked, walk_start, walk_stop, walk_more, walk_end, walk_parts}
use Rattle.table.proofs.Pushed.{count_view, count_seen}
use Rattle.shapes.specs.Parts.{part_count}
use Rattle.shapes.proofs.Tags.{other_shapes}
use Rattle.shapes.proofs.Nodes.{Low, at_node, below_low, many_parts, part_is}
use Rattle.ends.proofs.Itself.{few_parts}
use Rattle.history.specs.Past.{as_rows, Within}
use Rattle.history.specs.declared.Past.{Past}
use Rattle.old_ready.specs.Ready.{rebuilt, rebuilt_at, by_parts, by_parts_at, HasParts, landed, LandingIn, Lands}
use Rattle.old_ready.specs.declared.Landing.{Landing}
use Rattle.old_ready.specs.declared.Landing.TheVariants.{Parts as PartsL, Open as OpenL}
use Rattle.old_ready.proofs.Within.{within_now, within_on}

-- ---- the type anew

pub rebuilt_plain : (s : Shape) → OneOf (0 ∷ 2 ∷ 4 ∷ 5 ∷ 6 ∷ []) (tag_of the_type s) → (t : ℕ) (tys : List ℕ) (st : d.State) (loc : ℕ) → ok (st, t) ≡ rebuilt st t loc (with_args st (shape_of s)) tys
unfolding rebuilt with_args
rebuilt_plain = other_shapes (0 ∷ 2 ∷ 4 ∷ 5 ∷ 6 ∷ []) (λ s. (t : ℕ) (tys : List ℕ) (st : d.State) (loc : ℕ) → ok (st, t) ≡ rebuilt st t loc (with_args st (shape_of s)) tys)
    (λ t tys st loc. refl) tt (λ id a t tys st loc. refl) tt (λ v t tys st loc. refl) (λ t tys st loc. refl) (λ t tys st loc. refl)

module _ (s : State) (t : ℕ) (i : t < s.used.nodes) (n : Node) (e : (ds : List Struct) → node_of n ≡ node (held s ds) t) where
  pub part_of : (j r : ℕ) → ((ds : List Struct) → j < part_count (shape_of n.shape) → r ≡ get_or (parts (with_args (held s ds) (shape_of n.shape))) j 0)
      → (ds : List Struct) → j < length (parts (type_at (held s ds) t)) → r ≡ get_or (parts (type_at (held s ds) t)) j 0
  part_of j r f ds l =
      let a = at_node s.words.now s.used t (part_count (shape_of n.shape)) n s.lay i e refl in
      part_is a j r (rw (many_parts a ds) at l) f ds

  anew : (tys : List ℕ) (ds : List Struct) → rebuilt (held s ds) t n.loc (with_args (held s ds) (shape_of n.shape)) tys ≡ rebuilt_at (held s ds) t tys
  unfolding rebuilt_at
  anew tys ds =
      ap (λ (l : ℕ). rebuilt (held s ds) t l (with_args (held s ds) (shape_of n.shape)) tys) (loc_is (held s ds) t n (e ds))
      ∙ ap (λ (x : d.TypeValue). rebuilt (held s ds) t (loc_of (held s ds) t) x tys) (value_is (held s ds) t n (e ds))

  pub anew_stays : (tys : List ℕ) → ((s : d.State) (loc : ℕ) → ok (s, t) ≡ rebuilt s t loc (with_args s (shape_of n.shape)) tys) → Did s s (Ok t) (λ s. rebuilt_at s t tys)
  unfolding outcome
  anew_stays tys f = did_now i (λ ds k. f (held s ds) n.loc ∙ anew tys ds)

  module _ (many : ℕ) (p : HasParts s t many) where
    module _ (m : Bool) (x : ℕ) (z : n.shape ≡ RefS m x) where
      ref_one : many ≡ 1
      unfolding parts with_args
      ref_one = sym (p []) ∙ sym (ap (λ (y : d.TypeValue). length (parts y)) (value_is (held s []) t n (e []))) ∙ rw z refl

      pub ref_in : (tys : List ℕ) → PartsIn s.used.nodes tys many → get_or tys 0 0 < s.used.nodes
      ref_in tys k = k.below 0 (let o = ref_one in omega arith)

      pub anew_ref : (tys : List ℕ) {v : State} {r : core.Result ℕ Stop} → Did s v r (λ s. sp s n.loc (d.Ref m (get_or tys 0 0))) → Did s v r (λ s. rebuilt_at s t (take many tys))
      unfolding rebuilt with_args
      anew_ref tys a = did_is (λ ds k.
          let o = ref_one in
          let l : 0 < many = omega arith in
          sym (rw (z, get_or-take many tys 0 0 l) refl) ∙ anew (take many tys) ds) a

    pub anew_apply : (a : Applied) → n.shape ≡ ApplyS a → (tys : List ℕ) {v : State} {r : core.Result ℕ Stop} → Did s v r (λ s. sp s n.loc (d.Apply (mark_of a.k) (name_of a.n) (take many tys)))
        → Did s v r (λ s. rebuilt_at s t (take many tys))
    unfolding rebuilt with_args
    anew_apply a z tys f = did_is (λ ds x. sym (rw z refl) ∙ anew (take many tys) ds) f

-- ---- a node of a state that has grown

front_at : {A : Type 0} (l m : List A) (a : A) (i : ℕ) → Front l m → i < length l → get_or m i a ≡ get_or l i a
front_at l m a i f h = rw f.is (get_or-append l f.rest a i h)

shape_kept : {s t : d.State} (x : ℕ) (sh : d.Shape Places) → Grown s t → Below s.args x sh → with_args t sh ≡ with_args s sh
unfolding with_args
shape_kept x d.UnitType g b = refl
shape_kept x (d.Ref m p) g b = refl
shape_kept x (d.Param id a) g b = refl
shape_kept x (d.Apply k n p) g b = ap (d.Apply k n) (args_kept _ _ p g b.1.0)
shape_kept x (d.Var v) g b = refl
shape_kept x d.Anything g b = refl
shape_kept x d.UnresolvedError g b = refl

type_view : (s : State) (t : ℕ) (ds : List Struct) → type_at (held s ds) t ≡ type_at (tables s) t
unfolding type_at with_args args_at node seen with_structs
type_view s t ds = refl

-- the parts of node t, and the node anew with other parts, whatever the state is by then
abbrev pub parts_of : State → ℕ → List ℕ
parts_of s t = parts (type_at (tables s) t)

unfoldable pub anew_with : State → ℕ → List ℕ → d.State → Result (d.State × ℕ)
anew_with s t tys x = rebuilt x t (loc_of (tables s) t) (type_at (tables s) t) tys

module _ (s₀ s : State) (t : ℕ) (i : t < s₀.used.nodes) (g : Grown (tables s₀) (tables s)) where
  node_kept : (ds : List Struct) → node (held s ds) t ≡ node (tables s₀) t
  unfolding node seen with_structs
  node_kept ds = front_at (tables s₀).nodes (tables s).nodes nowhere t g.nodes (omega (arith, count_view s₀.words.now s₀.used))

  value_kept : (ds : List Struct) → type_at (held s ds) t ≡ type_at (tables s₀) t
  unfolding type_at with_args args_at seen with_structs
  value_kept ds =
      ap (λ (x : d.Node). with_args (tables s) x.value) (node_kept ds) ∙ shape_kept t (node (tables s₀) t).value g (s₀.lay.inside.parts t (omega (arith, count_view s₀.words.now s₀.used)))

  pub anew_kept : {v : State} {r : core.Result ℕ Stop} (tys : List ℕ) → Did s v r (λ s. rebuilt_at s t tys) → Did s v r (anew_with s₀ t tys)
  unfolding rebuilt_at anew_with loc_of
  anew_kept tys a = did_is (λ ds k. ap₂ (λ (x : d.Node) (y : d.TypeValue). rebuilt (held s ds) t x.loc y tys) (node_kept ds) (value_kept ds)) a

-- ---- the parts, one after the other

-- i parts are ready, in the same words, and no more entries were added than there was room for
pub record Readied (left : ℕ) (p₀ : Past) (t many : ℕ) (p : Past) (tys : List ℕ) (i : ℕ) : Type 0 where
  pub same : Linked (as_rows p₀) (as_rows p)
  pub walked : Walked Any (ready left) (anew_with (as_rows p₀) t) (parts_of (as_rows p₀) t) many (as_rows p₀).words.now (as_rows p₀).used (as_rows p).words.now (as_rows p).used tys i
  pub within : Within p₀ p

module _ (p₀ : Past) (t many : ℕ) (in_nodes : t < p₀.st.used.nodes) (has : HasParts (as_rows p₀) t many) where
  below : Below (tables (as_rows p₀)).args t (node (tables (as_rows p₀)) t).value
  below = (as_rows p₀).lay.inside.parts t (omega (arith, count_view (as_rows p₀).words.now (as_rows p₀).used))

  low : Low (tables (as_rows p₀)) t (node (tables (as_rows p₀)) t).value
  low = below_low (tables (as_rows p₀)) t (node (tables (as_rows p₀)) t).value below

  long : length (parts_of (as_rows p₀) t) ≡ many
  long = sym (ap (λ (x : d.TypeValue). length (parts x)) (type_view (as_rows p₀) t [])) ∙ has []

  counted : many ≡ part_count (node (tables (as_rows p₀)) t).value
  unfolding type_at
  counted = sym long ∙ low.many

  pub readied_start : (left : ℕ) {tys : List ℕ} → length tys ≡ 8 → Readied left p₀ t many p₀ tys 0
  readied_start left e = record {
    same = linked_now (as_rows p₀);
    walked = walk_start (as_rows p₀).lay long (rw counted (few_parts (tables (as_rows p₀)).args t (node (tables (as_rows p₀)) t).value below)) e;
    within = within_now p₀;
  }

  -- the walk over the parts is a level of ready_tvars
  walked_is : (left : ℕ) {v : State} {r : core.Result ℕ Stop} → Did (as_rows p₀) v r (rest (ready left) (anew_with (as_rows p₀) t) [] (parts_of (as_rows p₀) t)) → Did (as_rows p₀) v r (λ s. by_parts_at (λ s t. ready left s t) s t)
  unfolding by_parts_at by_parts rest anew_with type_at loc_of with_args args_at node seen with_structs
  walked_is left a = did_is (λ ds k. refl) a

  module _ {left i : ℕ} {tys : List ℕ} {p : Past} (g : Readied left p₀ t many p tys i) where
    grown : Grown (tables (as_rows p₀)) (tables (as_rows p))
    grown = g.walked.changed.grown

    pub readied_in : t < p.st.used.nodes
    readied_in = still_in _ _ _ _ _ grown in_nodes

    pub readied_has : HasParts (as_rows p) t many
    readied_has ds = ap (λ (x : d.TypeValue). length (parts x)) (value_kept (as_rows p₀) (as_rows p) t in_nodes grown ds) ∙ long

    module _ (lt : i < many) {x : ℕ} (e : (ds : List Struct) → i < length (parts (type_at (held (as_rows p) ds) t)) → x ≡ get_or (parts (type_at (held (as_rows p) ds) t)) i 0) where
      part_kept : x ≡ get_or (parts_of (as_rows p₀) t) i 0
      part_kept = e [] (rw (readied_has []) lt) ∙ ap (λ (x : d.TypeValue). get_or (parts x) i 0) (value_kept (as_rows p₀) (as_rows p) t in_nodes grown [])

      pub readied_part : x < p.st.used.nodes
      unfolding type_at
      readied_part = still_in _ _ _ _ x grown (omega (arith, in_nodes, part_kept, low.low i (rw counted at lt)))

      module _ (q : Past) where
        pub readied_stop : {y : Stop} {r : core.Result ℕ Stop} → Did (as_rows p) (as_rows q) (Err y) (λ s. ready left s x) × Within p q → r ≡ Err y
            → Did (as_rows p₀) (as_rows q) r (λ s. by_parts_at (λ s t. ready left s t) s t) × Within p₀ q
        readied_stop {y} a z = (
          rw z (walked_is left (of_when (linked a.0.changed.same g.same) (walk_stop g.walked {b = None} lt part_kept (to_when a.0) (sym (stop_none y)) refl))),
          within_on p₀ p q a.1 g.within,
        )

        pub readied_more : {y at : ℕ} → Did (as_rows p) (as_rows q) (Ok y) (λ s. ready left s x) × Within p q → at ≡ i → Readied left p₀ t many q (set tys at y) (i + 1)
        readied_more {y} a z = record {
          same = linked a.0.changed.same g.same;
          walked = walk_more g.walked {b = Some y} lt part_kept (to_when a.0) refl refl z;
          within = within_on p₀ p q a.1 g.within;
        }

    module _ (no_more : many ≤ i) where
      pub readied_parts : PartsIn p.st.used.nodes tys many
      readied_parts = walk_parts g.walked no_more

      pub readied_end : (q : Past) {r : core.Result ℕ Stop} → Did (as_rows p) (as_rows q) r (λ s. rebuilt_at s t (take many tys)) × Within p q
          → Did (as_rows p₀) (as_rows q) r (λ s. by_parts_at (λ s t. ready left s t) s t) × Within p₀ q
      readied_end q a = (
        walked_is left (of_when (linked a.0.changed.same g.same) (walk_end g.walked no_more (to_when (anew_kept (as_rows p₀) (as_rows p) t in_nodes grown (take many tys) a.0)))),
        within_on p₀ p q a.1 g.within,
      )

-- ---- a landing

module _ (s : State) (t calls : ℕ) (r : core.Result Landing Stop) (g : Lands s t calls r) where
  lands_at : (x : core.Result Landing Stop) → r ≡ x → (ds : List Struct) → landed (held s ds) x ≡ ready calls (held s ds) t
  lands_at x z ds = sym (ap (landed (held s ds)) z) ∙ g.is ds

  pub lands_stop : (e : Stop) → r ≡ Err e → {a : core.Result ℕ Stop} → a ≡ Err e → Did s s a (λ s. ready calls s t)
  lands_stop e z q = rw q (did_now (subst (LandingIn s calls) z g.inside) (λ ds k. lands_at (Err e) z ds))

  pub lands_open : (loc : ℕ) (v : TVar) → r ≡ Ok (OpenL loc v) → {x : State} {a : core.Result ℕ Stop} → Did s x a (λ s. sp s loc (d.Var v.0)) → Did s x a (λ s. ready calls s t)
  lands_open loc v z f = did_is (λ ds k. lands_at (Ok (OpenL loc v)) z ds) f

  module _ (x many left : ℕ) (z : r ≡ Ok (PartsL x many left)) where
    pub lands_in : LandingIn s calls (Ok (PartsL x many left))
    lands_in = subst (LandingIn s calls) z g.inside

    pub lands_parts : {v : State} {a : core.Result ℕ Stop} → Did s v a (λ s. by_parts_at (λ s t. ready left s t) s x) → Did s v a (λ s. ready calls s t)
    lands_parts f = did_is (λ ds k. lands_at (Ok (PartsL x many left)) z ds) f

-- ---- the whole run

module _ (s : State) (t : ℕ) (b : Bool) (e : (ds : List Struct) → b ≡ reaches_itself (held s ds) t) where
  pub run_stop : b ≡ true → Did s s (Err (Refused RunsIntoItself)) (λ s. ready_tvars s t)
  unfolding outcome ready_tvars
  run_stop z = did_now tt (λ ds k. sym (let y = sym (e ds) ∙ z in rw (y, ready_tvars) refl))

  pub run_on : b ≡ false → {v : State} {r : core.Result ℕ Stop} → Did s v r (λ x. ready (s.used.nodes * 2) x t) → Did s v r (λ x. ready_tvars x t)
  unfolding ready_tvars
  run_on z a = did_is (λ ds k.
      let y = sym (e ds) ∙ z in
      let n : s.used.nodes * 2 ≡ 2 * count (held s ds) = rw (count_seen s.words.now s.used ds) (omega arith) in
      ap (λ (k : ℕ). ready k (held s ds) t) n ∙ sym (rw (y, ready_tvars) refl)) a
