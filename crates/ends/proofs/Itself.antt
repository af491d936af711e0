-- The test for a type that runs into itself, by the levels of the nodes that reading goes on to. Assumes nothing.
use mathlib.Core.Path.{◌≡◌, refl, sym, ap, ◌∙◌, subst}
use mathlib.Core.Bool.{Bool, true, false, not}
use mathlib.Core.List.{List, []}
use Prim.Native.Nat.{ℕ, zero, suc, ◌+◌, ◌-◌, ◌<◌, ◌≤◌}
use native.Mathlib.Nat.{not-suc-le-zero}
use native.Mathlib.Decide.{ℕ_discrete, dec_lt}
use native.Mathlib.Omega.{arith}
use Rattle.std.specs.Prelude.{Option, None, Some, max}
use Rattle.std.specs.Option.{is_some}
use lib.ListN.{length, get_or, set, length-set, replicate, length-replicate}
use lib.Seq.{get_or-set_same, get_or-set_other}
use Rattle.definition.specs.Types as d
use Rattle.definition.specs.Types.{Struct, Places, Spanned, TypeValue}
use Rattle.definition.specs.Store.{count, node, with_args, spanned, all_of}
use Rattle.definition.specs.Subst.{parts, unfold_type, goes_on_to, ends_in, reaches_itself}
use Rattle.table.specs.State.{shape_of, node_of, Below}
use Rattle.table.specs.Did.{held}
use Rattle.table.specs.declared.state.State.{State}
use Rattle.table.specs.declared.Node.{Node}
use Rattle.table.specs.declared.Shape.{Shape}
use Rattle.table.specs.declared.Shape.TheVariants.{Anything as AnythingS}
use Rattle.shapes.specs.Parts.{part_count}
use Rattle.subst.specs.Answers.{unfolded, UnfoldedIn, Unfolds}
use Rattle.ends.specs.Itself.{Goes_on, EndsAt, Measured, Levels, Soon}
use Rattle.subst.specs.declared.Unfolded.{Unfolded}
use Rattle.subst.specs.declared.Unfolded.TheVariants.{Node as NodeU, Anything}
use Rattle.subst.proofs.Lists.{zero_at}
use Rattle.ends.proofs.Lists.{all_all, all_one}
use Rattle.table.proofs.Grown.{value_is}
use Rattle.table.proofs.Pushed.{count_seen}
use Rattle.shapes.proofs.Nodes.{Low, below_low, inside_seen}

-- ---- where reading goes on

pub few_parts : (args : List ℕ) (t : ℕ) (sh : d.Shape Places) → Below args t sh → part_count sh ≤ 8
few_parts args t d.UnitType b = omega arith
few_parts args t (d.Ref m p) b = omega arith
few_parts args t (d.Param id a) b = omega arith
few_parts args t (d.Apply k n p) b = b.0
few_parts args t (d.Var v) b = omega arith
few_parts args t d.Anything b = omega arith
few_parts args t d.UnresolvedError b = omega arith

value_goes : (s : d.State) (t : ℕ) (v : TypeValue) → v ≡ (unfold_type s (spanned s t)).value → parts v ≡ goes_on_to s t
unfolding goes_on_to
value_goes s t v e = ap parts e

module _ (s : State) (t : ℕ) (r : Unfolded) (f : Unfolds s r (λ s. spanned s t)) where
  unfolded_value : (y : Unfolded) → r ≡ y → (ds : List Struct) → (unfolded y (held s ds)).value ≡ (unfold_type (held s ds) (spanned (held s ds) t)).value
  unfolded_value y z ds = ap (λ (x : Spanned TypeValue). x.value) (sym (ap (λ (x : Unfolded). unfolded x (held s ds)) z) ∙ f.is ds)

  pub goes_node : (x : ℕ) → r ≡ NodeU x → x < s.used.nodes → (n : Node) → ((ds : List Struct) → node_of n ≡ node (held s ds) x) → Goes_on s t n.shape
  unfolding spanned
  goes_node x z l n e = record {
    value = value;
    few = few_parts (held s []).args x (shape_of n.shape) (below []);
    is = is;
    many = λ ds. sym (ap length (is ds)) ∙ (low ds).many;
    inside = λ ds i p. rw (← is ds) (let q = (low ds).low i p in omega arith);
  }
    where
      value : (ds : List Struct) → with_args (held s ds) (shape_of n.shape) ≡ (unfold_type (held s ds) (spanned (held s ds) t)).value
      value ds = value_is (held s ds) x n (e ds) ∙ unfolded_value (NodeU x) z ds

      is : (ds : List Struct) → parts (with_args (held s ds) (shape_of n.shape)) ≡ goes_on_to (held s ds) t
      is ds = value_goes (held s ds) t _ (value ds)

      below : (ds : List Struct) → Below (held s ds).args x (shape_of n.shape)
      below ds =
          let k : x < count (held s ds) = rw (count_seen s.words.now s.used ds) l in
          let v : shape_of n.shape ≡ (node (held s ds) x).value = ap (λ (y : d.Node). y.value) (e ds) in
          rw v ((inside_seen s.words.now s.used ds s.lay).parts x k)

      low : (ds : List Struct) → Low (held s ds) x (shape_of n.shape)
      low ds = below_low (held s ds) x (shape_of n.shape) (below ds)

  pub goes_anything : (loc : ℕ) → r ≡ Anything loc → Goes_on s t AnythingS
  unfolding parts with_args
  goes_anything loc z = record { value = value; few = omega arith; is = is; many = λ ds. ap length (sym (is ds)); inside = λ ds i p. absurd (not-suc-le-zero p) }
    where
      value : (ds : List Struct) → d.Anything ≡ (unfold_type (held s ds) (spanned (held s ds) t)).value
      value ds = unfolded_value (Anything loc) z ds

      is : (ds : List Struct) → [] ≡ goes_on_to (held s ds) t
      is ds = value_goes (held s ds) t d.Anything (value ds)

pub unfolded_node : {n x : ℕ} {r : Unfolded} → UnfoldedIn n r → r ≡ NodeU x → x < n
unfolded_node {n} h z = subst (λ (y : Unfolded). UnfoldedIn n y) z h

-- part i, as part_at gives it
module _ {s : State} {t : ℕ} {sh : Shape} {many i : ℕ} (g : Goes_on s t sh) (many_is : many ≡ part_count (shape_of sh)) (p : ℕ) (l : i < many)
    (e : (ds : List Struct) → i < part_count (shape_of sh) → p ≡ get_or (parts (with_args (held s ds) (shape_of sh))) i 0) where
  counted : i < part_count (shape_of sh)
  counted = rw (← many_is) l

  part_is : (ds : List Struct) → p ≡ get_or (goes_on_to (held s ds) t) i 0
  part_is ds = e ds counted ∙ ap (λ (x : List ℕ). get_or x i 0) (g.is ds)

  pub goes_part : p < s.used.nodes
  goes_part = rw (part_is []) (g.inside [] i counted)

-- ---- one level

ends_suc : (m : ℕ) (s : d.State) (t : ℕ) → ends_in (suc m) s t ≡ all_of (λ p. ends_in m s p) (goes_on_to s t)
unfolding ends_in
ends_suc m s t = refl

ends_zero : (s : d.State) (t : ℕ) → ends_in 0 s t ≡ false
unfolding ends_in
ends_zero s t = refl

-- ---- the loop over the parts

-- the parts before i are over in `high` levels, and the parts together not in fewer
pub record Read (s : State) (t left : ℕ) (sh : Shape) (many : ℕ) (heights : List ℕ) (high i : ℕ) : Type 0 where
  pub in_nodes : t < s.used.nodes
  pub room : left ≤ s.used.nodes
  pub some_left : 0 < left
  pub goes : Goes_on s t sh
  pub many_is : many ≡ part_count (shape_of sh)
  pub measured : Measured s heights
  pub over : (ds : List Struct) (j : ℕ) → j < i → (m : ℕ) → high ≤ m → ends_in m (held s ds) (get_or (goes_on_to (held s ds) t) j 0) ≡ true
  pub no_fewer : (ds : List Struct) (m : ℕ) → m < high → all_of (λ p. ends_in m (held s ds) p) (goes_on_to (held s ds) t) ≡ false

pub read_none : (s : State) (t left : ℕ) (sh : Shape) (many : ℕ) (heights : List ℕ) → t < s.used.nodes → left ≤ s.used.nodes → (left ≡ 0 → ⊥) → Goes_on s t sh → many ≡ part_count (shape_of sh) → Measured s heights
    → Read s t left sh many heights 0 0
read_none s t left sh many heights i r n g e m = record {
  in_nodes = i;
  room = r;
  some_left = omega arith;
  goes = g;
  many_is = e;
  measured = m;
  over = λ ds j p. absurd (not-suc-le-zero p);
  no_fewer = λ ds m p. absurd (not-suc-le-zero p);
}

-- an answer that is known already
pub levels_known : (s : State) (t left : ℕ) (heights : List ℕ) → Measured s heights → 0 < get_or heights t 0 → Levels s t left (Some (get_or heights t 0))
levels_known s t left heights m p = record { over = λ n z. let e : get_or heights t 0 ≡ n = cc in rw (← e) (m.ends t p); not_over = λ z. cc }

-- no levels are left
pub levels_none : (s : State) (t left : ℕ) → left ≡ 0 → Levels s t left None
levels_none s t left z = record { over = λ n q. cc; not_over = λ y ds. ap (λ (n : ℕ). ends_in n (held s ds) t) z ∙ ends_zero (held s ds) t }

module _ {s : State} {t left : ℕ} {sh : Shape} {many : ℕ} {heights : List ℕ} {high i : ℕ} (h : Read s t left sh many heights high i) where
  one_less : (n : ℕ) → 0 < n → n ≡ suc (n - 1)
  one_less n p = omega arith

  all_parts : (ds : List Struct) → ends_in left (held s ds) t ≡ all_of (λ p. ends_in (left - 1) (held s ds) p) (goes_on_to (held s ds) t)
  all_parts ds = ap (λ (n : ℕ). ends_in n (held s ds) t) (one_less left h.some_left) ∙ ends_suc (left - 1) (held s ds) t

  module _ (p : ℕ) (l : i < many) (e : (ds : List Struct) → i < part_count (shape_of sh) → p ≡ get_or (parts (with_args (held s ds) (shape_of sh))) i 0) where
    is_part : (ds : List Struct) → p ≡ get_or (goes_on_to (held s ds) t) i 0
    is_part = part_is h.goes h.many_is p l e

    in_list : (ds : List Struct) → i < length (goes_on_to (held s ds) t)
    in_list ds = rw (h.goes.many ds) (counted h.goes h.many_is p l e)

    part_out : (ds : List Struct) (m : ℕ) → ends_in m (held s ds) p ≡ false → all_of (λ q. ends_in m (held s ds) q) (goes_on_to (held s ds) t) ≡ false
    part_out ds m f = all_one (λ q. ends_in m (held s ds) q) (goes_on_to (held s ds) t) i (in_list ds) (sym (ap (λ (q : ℕ). ends_in m (held s ds) q) (is_part ds)) ∙ f)

    module _ (x : Option ℕ) (r : Levels s p (left - 1) x) where
      -- this part is not over
      pub levels_out : x ≡ None → Levels s t left None
      levels_out z = record { over = λ n q. cc; not_over = λ y ds. all_parts ds ∙ part_out ds (left - 1) (r.not_over z ds) }

      pub read_more : (n : ℕ) → x ≡ Some n → (high' : ℕ) → high' ≡ max high n → (heights' : List ℕ) → Measured s heights' → Read s t left sh many heights' high' (i + 1)
      read_more n z high' k heights' c = record {
        in_nodes = h.in_nodes;
        room = h.room;
        some_left = h.some_left;
        goes = h.goes;
        many_is = h.many_is;
        measured = c;
        over = λ ds j q m b. over_more ds j q m b (ℕ_discrete j i);
        no_fewer = λ ds m q. fewer ds m q (dec_lt m high);
      }
        where
          ends : EndsAt s p n
          ends = r.over n z

          over_more : (ds : List Struct) (j : ℕ) → j < i + 1 → (m : ℕ) → high' ≤ m → Dec (j ≡ i) → ends_in m (held s ds) (get_or (goes_on_to (held s ds) t) j 0) ≡ true
          over_more ds j q m b (yes y) = rw (y, ← is_part ds) (ends.ends ds m (omega arith))
          over_more ds j q m b (no y) = h.over ds j (omega arith) m (omega arith)

          fewer : (ds : List Struct) (m : ℕ) → m < high' → Dec (m < high) → all_of (λ q. ends_in m (held s ds) q) (goes_on_to (held s ds) t) ≡ false
          fewer ds m q (yes y) = h.no_fewer ds m y
          fewer ds m q (no y) = part_out ds m (ends.no_fewer ds m (omega arith))

  -- all parts are read
  module _ (l : many ≤ i) where
    -- .. and take too many levels
    pub levels_over : s.used.nodes ≤ high → Levels s t left None
    levels_over b = record { over = λ n q. cc; not_over = λ y ds. all_parts ds ∙ h.no_fewer ds (left - 1) (let a = h.room in let c = h.some_left in omega arith) }

    ends_by : (ds : List Struct) (m : ℕ) → high + 1 ≤ m → ends_in m (held s ds) t ≡ true
    ends_by ds zero q = absurd (omega arith)
    ends_by ds (suc m) q =
        ends_suc m (held s ds) t
        ∙ all_all (λ p. ends_in m (held s ds) p) (goes_on_to (held s ds) t) (λ j k.
        let a = h.goes.many ds in
        let b = h.many_is in
        h.over ds j (omega arith) m (omega arith))

    ends_not : (ds : List Struct) (m : ℕ) → m < high + 1 → ends_in m (held s ds) t ≡ false
    ends_not ds zero q = ends_zero (held s ds) t
    ends_not ds (suc m) q = ends_suc m (held s ds) t ∙ h.no_fewer ds m (omega arith)

    pub ends_here : high < s.used.nodes → EndsAt s t (high + 1)
    ends_here b = record { few = omega arith; ends = ends_by; no_fewer = ends_not }

    pub levels_here : high < s.used.nodes → Levels s t left (Some (high + 1))
    levels_here b = record { over = λ n z. let e : high + 1 ≡ n = cc in rw (← e) (ends_here b); not_over = λ z. cc }

-- ---- the heights

pub measured_more : (s : State) (t n : ℕ) (heights : List ℕ) → Measured s heights → t < 2048 → EndsAt s t n → Measured s (set heights t n)
measured_more s t n heights m l e = record { size = length-set heights t n ∙ m.size; ends = λ x p. by x p (ℕ_discrete x t) }
  where
    by : (x : ℕ) → 0 < get_or (set heights t n) x 0 → Dec (x ≡ t) → EndsAt s x (get_or (set heights t n) x 0)
    by x p (yes y) = rw (y, get_or-set_same heights t n 0 (rw m.size l)) e
    by x p (no y) =
        let z = get_or-set_other heights t x n 0 y in
        rw z (m.ends x (rw z at p))

pub measured_none : (s : State) → Measured s (replicate 2048 0)
measured_none s = record { size = length-replicate {A = ℕ} 2048 0; ends = λ t p. absurd (let z = zero_at 2048 t (dec_lt t 2048) in omega arith) }

-- ---- the whole test

pub reaches_is : (s : State) (t : ℕ) (r : Option ℕ) → Levels s t s.used.nodes r → (b : Bool) → is_some r ≡ not b → (ds : List Struct) → b ≡ reaches_itself (held s ds) t
unfolding reaches_itself
reaches_is s t None r true e ds = sym (rw (count_seen s.words.now s.used ds, r.not_over refl ds) refl)
reaches_is s t None r false e ds = cc
reaches_is s t (Some n) r true e ds = cc
reaches_is s t (Some n) r false e ds = let h = r.over n refl in sym (rw (count_seen s.words.now s.used ds, h.ends ds s.used.nodes h.few) refl)

-- ---- few parts

pub soon_none : (s : State) (t left : ℕ) → Soon s t left None
soon_none s t left = record { over = λ n p. cc }

-- the parts before i are over in one level less
pub record Few (s : State) (t left : ℕ) (sh : Shape) (many i : ℕ) : Type 0 where
  pub some_left : 0 < left
  pub goes : Goes_on s t sh
  pub many_is : many ≡ part_count (shape_of sh)
  pub over : (ds : List Struct) (j : ℕ) → j < i → ends_in (left - 1) (held s ds) (get_or (goes_on_to (held s ds) t) j 0) ≡ true

pub few_none : (s : State) (t left : ℕ) (sh : Shape) (many : ℕ) → (left ≡ 0 → ⊥) → Goes_on s t sh → many ≡ part_count (shape_of sh) → Few s t left sh many 0
few_none s t left sh many n g e = record { some_left = omega arith; goes = g; many_is = e; over = λ ds j p. absurd (not-suc-le-zero p) }

module _ {s : State} {t left : ℕ} {sh : Shape} {many i : ℕ} (h : Few s t left sh many i) where
  module _ (p : ℕ) (l : i < many) (e : (ds : List Struct) → i < part_count (shape_of sh) → p ≡ get_or (parts (with_args (held s ds) (shape_of sh))) i 0) where
    pub few_more : (r : Option ℕ) → Soon s p (left - 1) r → (rest : ℕ) → r ≡ Some rest → Few s t left sh many (i + 1)
    few_more r q rest z = record { some_left = h.some_left; goes = h.goes; many_is = h.many_is; over = λ ds j k. by ds j k (ℕ_discrete j i) }
      where
        by : (ds : List Struct) (j : ℕ) → j < i + 1 → Dec (j ≡ i) → ends_in (left - 1) (held s ds) (get_or (goes_on_to (held s ds) t) j 0) ≡ true
        by ds j k (yes y) = rw (y, ← part_is h.goes h.many_is p l e ds) (q.over rest z ds)
        by ds j k (no y) = h.over ds j (omega arith)

  pub few_all : many ≤ i → (r : Option ℕ) → Soon s t left r
  few_all l r = record {
    over = λ rest p ds.
        let n : left ≡ suc (left - 1) = (let q = h.some_left in omega arith) in
        ap (λ (k : ℕ). ends_in k (held s ds) t) n
        ∙ ends_suc (left - 1) (held s ds) t
        ∙ all_all (λ q. ends_in (left - 1) (held s ds) q) (goes_on_to (held s ds) t) (λ j k.
        let a = h.goes.many ds in
        let b = h.many_is in
        h.over ds j (omega arith));
  }

pub reaches_soon : (s : State) (t : ℕ) (r : Option ℕ) → Soon s t s.used.nodes r → is_some r ≡ true → (ds : List Struct) → false ≡ reaches_itself (held s ds) t
unfolding reaches_itself
reaches_soon s t None q p ds = cc
reaches_soon s t (Some n) q p ds = sym (rw (count_seen s.words.now s.used ds, q.over n refl ds) refl)
