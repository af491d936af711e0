-- The parts of a node, as they stand side by side in the words: the places of a named type, the one field of a reference. Assumes nothing.
use mathlib.Core.Path.{◌≡◌, refl, sym, ap, ◌∙◌}
use mathlib.Core.Bool.{Bool, true, false}
use mathlib.Core.List.{List, [], ◌∷◌}
use Prim.Native.Nat.{ℕ, zero, suc, ◌+◌, ◌*◌, ◌%◌, ◌≤◌, ◌<◌}
use native.Mathlib.Omega.{arith}
use lib.Dec.{eqb, ltb}
use lib.ListN.{length, get_or, take, drop, length-take, length-drop}
use lib.Seq.{get_or-take, get_or-drop}
use Rattle.std.proofs.lemmas.List.{ext_get_or}
use Rattle.std.specs.Prelude.{if◌then◌else◌}
use Rattle.definition.specs.Types as d
use Rattle.definition.specs.Types.{Struct, Places}
use Rattle.definition.specs.Store.{node, type_at, with_args, with_structs, args_at}
use Rattle.definition.specs.Subst.{parts}
use Rattle.table.specs.Rows.{places, read_mark, read_name, read_shape}
use Rattle.table.specs.State.{shape_of, args_of, node_of, node_words_at, seen, Lay}
use Rattle.table.specs.declared.Applied.{Applied}
use Rattle.table.specs.declared.Shape.{Shape}
use Rattle.table.specs.declared.Shape.TheVariants.{Unit as UnitS, Ref, Param, Apply, Var, Anything, UnresolvedError}
use Rattle.table.specs.declared.Node.{Node}
use Rattle.table.specs.declared.Used.{Used}
use Rattle.table.proofs.Fields.{node_made, arg_read}
use Rattle.table.proofs.Grown.{args_length, value_is}
use Rattle.table.proofs.Parts.{below_it}
use Rattle.table.proofs.Pushed.{args_view}

-- n words from word `at` on are the list l
cut_out : (w : List ℕ) (at n : ℕ) (l : List ℕ) → at + n ≤ length w → length l ≡ n → ((i : ℕ) → i < n → get_or l i 0 ≡ get_or w (at + i) 0) → take n (drop at w) ≡ l
cut_out w at n l h m e =
    let k : length (take n (drop at w)) ≡ n = simp (length-take, length-drop) (omega arith) in
    ext_get_or 0 (take n (drop at w)) l (k ∙ sym m) (λ i p. let q : i < n = omega (arith, p, k) in get_or-take n (drop at w) i 0 q ∙ get_or-drop at w i 0 ∙ sym (e i q))

-- ---- a reference's word

inner_or : ℕ → d.Shape Places → ℕ
inner_or x d.UnitType = x
inner_or x (d.Ref m t) = t
inner_or x (d.Param id a) = x
inner_or x (d.Apply k n p) = x
inner_or x (d.Var v) = x
inner_or x d.Anything = x
inner_or x d.UnresolvedError = x

either : (x : ℕ) (b : Bool) (s t : d.Shape Places) → inner_or x s ≡ x → inner_or x t ≡ x → inner_or x (if b then s else t) ≡ x
either x true s t e f = e
either x false s t e f = f

module _ (tag a b c k : ℕ) where
  abbrev from_7 : d.Shape Places
  from_7 = if eqb tag 7 then d.Anything else d.UnresolvedError

  abbrev from_6 : d.Shape Places
  from_6 = if eqb tag 6 then d.Var (a % 65536) else from_7

  abbrev from_3 : d.Shape Places
  from_3 = if ltb tag 6 then d.Apply (read_mark a) (read_name tag b) (places c k) else from_6

  abbrev from_2 : d.Shape Places
  from_2 = if eqb tag 2 then d.Param a (b % 256) else from_3

  abbrev from_1 : d.Shape Places
  from_1 = if eqb tag 1 then d.Ref (eqb a 1) b else from_2

  inner_word : inner_or b (read_shape tag a b c k) ≡ b
  unfolding read_shape inner_or
  inner_word =
      either b (eqb tag 0) d.UnitType from_1 refl (either b (eqb tag 1) (d.Ref (eqb a 1) b) from_2 refl (either b (eqb tag 2) (d.Param a (b % 256)) from_3 refl
      (either b (ltb tag 6) (d.Apply (read_mark a) (read_name tag b) (places c k)) from_6 refl (either b (eqb tag 6) (d.Var (a % 65536)) from_7 refl
      (either b (eqb tag 7) d.Anything d.UnresolvedError refl refl)))))

module _ (w : List ℕ) (u : Used) (t : ℕ) (n : Node) (lay : Lay w u) (in_use : t < u.nodes) (node_is : (ds : List Struct) → node_of n ≡ node (seen w u ds) t) where
  -- the type is what its shape is
  typed : (ds : List Struct) (sh : Shape) → n.shape ≡ sh → parts (with_args (seen w u ds) (shape_of sh)) ≡ parts (type_at (seen w u ds) t)
  typed ds sh e = ap (λ (x : Shape). parts (with_args (seen w u ds) (shape_of x))) (sym e) ∙ ap parts (value_is (seen w u ds) t n (node_is ds))

  inner_is : (m : Bool) (p : ℕ) → n.shape ≡ Ref m p → get_or w (5 + t * 6 + 3) 0 ≡ p
  unfolding inner_or
  inner_is m p e =
      let r = node_words_at w t in
      let made = node_made w u [] t r (read_shape r.tag r.a r.b r.c r.d) in_use refl refl in
      let same : read_shape r.tag r.a r.b r.c r.d ≡ d.Ref m p = ap (λ (x : d.Node). x.value) (made ∙ sym (node_is [])) ∙ ap shape_of e in
      sym (inner_word r.tag r.a r.b r.c r.d) ∙ ap (inner_or r.b) same

  pub parts_ref : (m : Bool) (p : ℕ) → n.shape ≡ Ref m p → (ds : List Struct) → take 1 (drop (5 + t * 6 + 3) w) ≡ parts (type_at (seen w u ds) t)
  unfolding parts with_args
  parts_ref m p e ds = cut_out w (5 + t * 6 + 3) 1 (p ∷ []) (omega (arith, lay.size, lay.nodes, in_use)) refl (λ i h. one i h) ∙ typed ds (Ref m p) e
    where
      one : (i : ℕ) → i < 1 → get_or (p ∷ []) i 0 ≡ get_or w (5 + t * 6 + 3 + i) 0
      one zero h = sym (ap (λ (x : ℕ). get_or w x 0) (let z : 5 + t * 6 + 3 + 0 ≡ 5 + t * 6 + 3 = omega arith in z) ∙ inner_is m p e)
      one (suc i) h = absurd (omega arith)

  module _ (a : Applied) (e : n.shape ≡ Apply a) where
    pub places_fit : a.first + a.many ≤ u.args
    unfolding places
    places_fit = let b = below_it w u t n lay in_use node_is (Apply a) e in omega (arith, b.1.0, args_view w u)

    args_many : (ds : List Struct) → length (args_at (seen w u ds) (args_of a)) ≡ a.many
    unfolding seen with_structs places
    args_many ds = args_length (seen w u ds) (args_of a) (omega (arith, places_fit, args_view w u))

    pub parts_apply : (ds : List Struct) → take a.many (drop (12293 + a.first) w) ≡ parts (type_at (seen w u ds) t)
    unfolding parts with_args
    parts_apply ds = cut_out w (12293 + a.first) a.many (args_at (seen w u ds) (args_of a)) (omega (arith, lay.size, lay.args, places_fit)) (args_many ds) (λ i h. arg i h) ∙ typed ds (Apply a) e
      where
        arg : (i : ℕ) → i < a.many → get_or (args_at (seen w u ds) (args_of a)) i 0 ≡ get_or w (12293 + a.first + i) 0
        arg i h = arg_read w u ds a.first a.many i h (omega (arith, places_fit)) ∙ ap (λ (x : ℕ). get_or w x 0) (let z : 12293 + (a.first + i) ≡ 12293 + a.first + i = omega arith in z)

  pub parts_none : ((m : Bool) (p : ℕ) → ¬ (n.shape ≡ Ref m p)) → ((a : Applied) → ¬ (n.shape ≡ Apply a)) → (ds : List Struct) → [] ≡ parts (type_at (seen w u ds) t)
  unfolding parts with_args
  parts_none not_ref not_apply ds = go n.shape refl
    where
      go : (sh : Shape) → n.shape ≡ sh → [] ≡ parts (type_at (seen w u ds) t)
      go UnitS e = typed ds UnitS e
      go (Ref m p) e = absurd (not_ref m p e)
      go (Param id a) e = typed ds (Param id a) e
      go (Apply a) e = absurd (not_apply a e)
      go (Var v) e = typed ds (Var v) e
      go Anything e = typed ds Anything e
      go UnresolvedError e = typed ds UnresolvedError e
