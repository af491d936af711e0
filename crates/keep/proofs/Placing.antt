-- The argument places that stay. Assumes nothing.
use mathlib.Core.Path.{◌≡◌, refl, sym, ap, ◌∙◌}
use mathlib.Core.Bool.{Bool, true, false, ◌||◌, ◌&&◌}
use mathlib.Core.List.{List, [], ◌∷◌, ◌++◌}
use Prim.Native.Nat.{ℕ, ◌+◌, ◌≤◌, ◌<◌}
use native.Mathlib.Omega.{arith}
use lib.ListN.{length, get_or}
use lib.Dec.{leb, ltb}
use Rattle.definition.specs.Types as d
use Rattle.definition.specs.Types.{Places}
use Rattle.definition.specs.Store.{any_of, node, with_structs}
use Rattle.definition.specs.Keep.{those_below, has_place}
use Rattle.table.specs.Rows.{places}
use Rattle.table.specs.State.{node_of, shape_of, seen}
use Rattle.table.specs.Did.{held, tables}
use Rattle.table.specs.declared.Applied.{Applied}
use Rattle.table.specs.declared.Shape.{Shape}
use Rattle.table.specs.declared.Shape.TheVariants.{Unit as UnitS, Ref, Param, Apply, Var, Anything, UnresolvedError}
use Rattle.table.specs.declared.Node.{Node}
use Rattle.table.specs.declared.state.State.{State}
use Rattle.table.proofs.Parts.{named}
use Rattle.keep.specs.Numbered.{among}
use Rattle.keep.specs.Placed.{MarksRun, MarksPlaces, PlacesMarked}
use Rattle.keep.proofs.Sliding.{those_next, those_not}

-- whether place i is one of a shape's
unfoldable pub in_shape : ℕ → d.Shape Places → Bool
in_shape i x = elim x [
  | d.UnitType ↦ false
  | d.Ref m p ↦ false
  | d.Param id a ↦ false
  | d.Apply k n p ↦ leb p.first i && ltb i (p.first + p.many)
  | d.Var v ↦ false
  | d.Anything ↦ false
  | d.UnresolvedError ↦ false
]

or_false : (b : Bool) → b ≡ b || false
or_false true = refl
or_false false = refl

any_both : (f : ℕ → Bool) (l m : List ℕ) → any_of f (l ++ m) ≡ any_of f l || any_of f m
unfolding any_of
any_both f [] m = refl
any_both f (x ∷ l) m = by (f x) (any_both f l m)
  where
    by : (b : Bool) → any_of f (l ++ m) ≡ any_of f l || any_of f m → (elim b [ true ↦ true | false ↦ any_of f (l ++ m) ]) ≡ (elim b [ true ↦ true | false ↦ any_of f l ]) || any_of f m
    by true e = refl
    by false e = e

any_one : (f : ℕ → Bool) (x : ℕ) → any_of f (x ∷ []) ≡ f x
unfolding any_of
any_one f x = by (f x)
  where
    by : (b : Bool) → (elim b [ true ↦ true | false ↦ false ]) ≡ b
    by true = refl
    by false = refl

module _ (st : State) (t : ℕ) (lt : t < st.used.nodes) (n : Node) (is : (ds : List d.Struct) → node_of n ≡ node (held st ds) t) where
  its : (i : ℕ) → has_place (tables st) i t ≡ in_shape i (shape_of n.shape)
  unfolding has_place seen with_structs node in_shape
  its i = ap (λ (x : d.Node). in_shape i x.value) (sym (is []))

  module _ (a : Applied) (e : n.shape ≡ Apply a) where
    pub run_fits : (l : List Bool) → length l ≡ 4097 → a.first + a.many ≤ length l
    run_fits l h = let p = (named st.words.now st.used t n st.lay lt is a e).placed.inside in let q = st.lay.args in omega (arith, h, p, q, Rattle.table.proofs.Pushed.args_view st.words.now st.used)

    pub marks_its : {l l' : List Bool} → MarksRun a.first a.many l l' → MarksPlaces (tables st) t l l'
    unfolding places in_shape
    marks_its {l = l} m = record { long = m.long; each = λ i. m.each i ∙ ap (λ (b : Bool). get_or l i false || b) (sym (its i ∙ ap (λ (x : Shape). in_shape i (shape_of x)) e)) }

  pub marks_none : ((a : Applied) → n.shape ≡ Apply a → ⊥) → {l : List Bool} → MarksPlaces (tables st) t l l
  unfolding in_shape
  marks_none none {l} = record { long = refl; each = λ i. or_false (get_or l i false) ∙ ap (λ (b : Bool). get_or l i false || b) (sym (its i ∙ by i n.shape none)) }
    where
      by : (i : ℕ) (x : Shape) → ((a : Applied) → x ≡ Apply a → ⊥) → in_shape i (shape_of x) ≡ false
      by i UnitS f = refl
      by i (Ref m p) f = refl
      by i (Param id a) f = refl
      by i (Apply a) f = absurd (f a refl)
      by i (Var v) f = refl
      by i Anything f = refl
      by i UnresolvedError f = refl

module _ (s : d.State) (nodes : List Bool) where
  pub marked_none : {l : List Bool} → length l ≡ 4097 → ((i : ℕ) → get_or l i false ≡ false) → PlacesMarked s nodes 0 l
  unfolding those_below any_of
  marked_none e f = record { long = e; each = f }

  module _ {t : ℕ} {l : List Bool} (m : PlacesMarked s nodes t l) where
    pub marked_more : {l' : List Bool} → among nodes t ≡ true → MarksPlaces s t l l' → PlacesMarked s nodes (t + 1) l'
    marked_more e a = record {
      long = a.long ∙ m.long;
      each = λ i. a.each i ∙ ap (λ (b : Bool). b || has_place s i t) (m.each i)
          ∙ sym (ap (λ (ts : List ℕ). any_of (λ t. has_place s i t) ts) (those_next t (among nodes) e) ∙ any_both (λ t. has_place s i t) (those_below t (among nodes)) (t ∷ []) ∙ ap (λ (b : Bool). any_of (λ t. has_place s i t) (those_below t (among nodes)) || b) (any_one (λ t. has_place s i t) t));
    }

    pub marked_not : among nodes t ≡ false → PlacesMarked s nodes (t + 1) l
    marked_not e = record { long = m.long; each = λ i. m.each i ∙ sym (ap (λ (ts : List ℕ). any_of (λ t. has_place s i t) ts) (those_not t (among nodes) e)) }
