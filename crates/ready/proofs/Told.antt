-- The answers of RD and CN without a new node, as the code goes about it: where a type leads, and sums over its types, part by part. Assumes nothing.
use mathlib.Core.Path.{◌≡◌, refl, sym, ap, ◌∙◌, subst}
use mathlib.Core.Bool.{Bool, true, false}
use mathlib.Core.List.{List, [], ◌∷◌, ◌++◌, append-nil, append_assoc}
use Rattle.std.specs.Prelude.{Option, None, Some, Ok, Err, if◌then◌else◌}
use Prim.Native.Nat.{ℕ, zero, suc, ◌+◌, ◌-◌, ◌≤◌, ◌<◌}
use native.Mathlib.Nat.{not-suc-le-zero}
use native.Mathlib.Decide.{ℕ_discrete}
use native.Mathlib.Numerals.{add-one}
use native.Mathlib.Omega.{arith}
use lib.ListN.{length, get_or, take, drop, length-append, take-append-drop}
use lib.Seq.{take-suc, take_all}
use Rattle.definition.specs.Types as d
use Rattle.definition.specs.Types.{Struct, Places, Spanned, TypeValue, Result, ok, refused, full, runs_into_itself, max_nodes, max_args}
use Rattle.definition.specs.Store.{count, taken, node, type_at, loc_of, spanned, get, with_args, with_structs, all_of, args_of}
use Rattle.definition.specs.Subst.{as_var, parts, next_in, next_of, forward, forward_tvar, ends_in, reaches_itself}
use Rattle.definition.specs.Write.{Bytes, u16, u32, head}
use Rattle.definition.specs.Canonical.{Spelled, spell_each}
use Rattle.theorems.specs.ReadySpelled.{Spelling, head_by, met_by, spelled_with, led_var, led, spell_led, led_bytes, total, summed, new_nodes, new_places, head_size, one, room_for, spell_ready}
use Rattle.theorems.proofs.ReadyTold.{Fits, led_plain, led_at, led_goes, fits_room, room_fits, head_size_is, by_size, each_size, spelled_size, spelled_few}
use Rattle.theorems.proofs.SoundFacts.{not_false, of_each}
use Rattle.names.specs.declared.TVar.{TVar}
use Rattle.names.specs.declared.AbilitySet.{AbilitySet}
use Rattle.names.specs.declared.TypeName.{TypeName}
use Rattle.table.specs.Rows.{places}
use Rattle.table.specs.State.{shape_of, value_of, node_of, view, seen}
use Rattle.table.specs.Did.{held, tables}
use Rattle.table.specs.declared.Used.{Used}
use Rattle.table.specs.declared.state.State.{State}
use Rattle.table.specs.declared.Node.{Node}
use Rattle.table.specs.declared.Applied.{Applied}
use Rattle.table.specs.declared.Shape.{Shape}
use Rattle.table.specs.declared.Shape.TheVariants.{Apply as ApplyS}
use Rattle.table.proofs.Grown.{loc_is}
use Rattle.table.proofs.Pushed.{count_seen, args_seen}
use Rattle.shapes.specs.Parts.{next, part_count}
use Rattle.shapes.proofs.Nodes.{At, counted, inside_seen, many_parts, part_is}
use Rattle.subst.proofs.Laws.{var_of}
use Rattle.ends.specs.Leads.{led_as, LedTo, unfolds_to}
use Rattle.ends.specs.declared.chains.Led.{Led}
use Rattle.ends.specs.declared.chains.Led.TheVariants.{Node as NodeL, Open}
use Rattle.ends.proofs.Itself.{few_parts, unfolded_node}
use Rattle.ends.proofs.Lists.{all_all}
use Rattle.writer.specs.Bytes.{put, Wrote}
use Rattle.writer.proofs.Put.{put_nothing, put_put}
use Rattle.writer.proofs.Turns.{head_same}
use Rattle.canonical.specs.Named.{Numbered, AllNumbered}
use Rattle.canonical.proofs.Numbers.{head_by_same, met_by_same}
use Rattle.ready.specs.Spell.{nodes_of, places_of, Owns, Small, added, SumsOf, Measures, Goes, Spells, spelt, too_long, stopped}
use Rattle.refusals.specs.declared.Refusal.TheVariants.{Full, RunsIntoItself, AnswerTooLong}
use Rattle.ready.specs.declared.Sums.{Sums}

-- ---- a type without its parts

pub owns_apply : (sh : Shape) (a : Applied) (size : ℕ) → sh ≡ ApplyS a → ((loc : ℕ) → size ≡ length (head loc (value_of sh))) × (size ≤ 10)
    → Owns sh (record { types = 1; bytes = size; nodes = 1; places = a.many })
unfolding places
owns_apply sh a size e h = record { types_is = refl; bytes_is = h.0; few = h.1; nodes_is = rw e refl; places_is = rw e refl }

-- what a type's value and its stored shape take
nodes_same : (s : d.State) (x : d.Shape Places) → new_nodes (with_args s x) ≡ nodes_of x
unfolding new_nodes with_args
nodes_same s d.UnitType = refl
nodes_same s (d.Ref m t) = refl
nodes_same s (d.Param id a) = refl
nodes_same s (d.Apply k n p) = refl
nodes_same s (d.Var v) = refl
nodes_same s d.Anything = refl
nodes_same s d.UnresolvedError = refl

places_same : (s : d.State) (x : d.Shape Places) → length (parts (with_args s x)) ≡ part_count x → new_places (with_args s x) ≡ places_of x
unfolding new_places args_of with_args parts
places_same s d.UnitType e = refl
places_same s (d.Ref m t) e = refl
places_same s (d.Param id a) e = refl
places_same s (d.Apply k n p) e = e
places_same s (d.Var v) e = refl
places_same s d.Anything e = refl
places_same s d.UnresolvedError e = refl

places_few : (x : d.Shape Places) → places_of x ≤ part_count x
places_few d.UnitType = omega arith
places_few (d.Ref m t) = omega arith
places_few (d.Param id a) = omega arith
places_few (d.Apply k n p) = omega arith
places_few (d.Var v) = omega arith
places_few d.Anything = omega arith
places_few d.UnresolvedError = omega arith

nodes_few : (x : d.Shape Places) → nodes_of x ≤ 1
nodes_few d.UnitType = omega arith
nodes_few (d.Ref m t) = omega arith
nodes_few (d.Param id a) = omega arith
nodes_few (d.Apply k n p) = omega arith
nodes_few (d.Var v) = omega arith
nodes_few d.Anything = omega arith
nodes_few d.UnresolvedError = omega arith

-- ---- sums, up to part i

total_more : (f : ℕ → ℕ) (a b : List ℕ) → total f (a ++ b) ≡ total f a + total f b
unfolding total
total_more f [] b = omega arith
total_more f (t ∷ ts) b = omega (arith, total_more f ts b)

total_one : (f : ℕ → ℕ) (t : ℕ) → total f (t ∷ []) ≡ f t
unfolding total
total_one f t = omega arith

-- of the type x, and of its parts before i in n levels
unfoldable pub partly : ℕ → d.State → TypeValue → ℕ → (TypeValue → ℕ) → ℕ
partly n s x i f = f x + total (λ p. summed f n s p) (take i (parts x))

module _ (n : ℕ) (s : d.State) (x : TypeValue) (f : TypeValue → ℕ) where
  partly_none : partly n s x 0 f ≡ f x
  unfolding partly total
  partly_none = omega arith

  partly_more : (i : ℕ) → i < length (parts x) → partly n s x (i + 1) f ≡ partly n s x i f + summed f n s (get_or (parts x) i 0)
  unfolding partly
  partly_more i h =
      let g : ℕ → ℕ = λ p. summed f n s p in
      rw (add-one i, take-suc (parts x) i 0 h) (omega (arith, total_more g (take i (parts x)) (get_or (parts x) i 0 ∷ []), total_one g (get_or (parts x) i 0)))

  partly_all : (i : ℕ) → length (parts x) ≤ i → (t : ℕ) → (led s (spanned s t)).value ≡ x → partly n s x i f ≡ summed f (suc n) s t
  unfolding partly summed
  partly_all i h t e = rw (e, take_all i (parts x) h) refl

  partly_in : (i t : ℕ) → (led s (spanned s t)).value ≡ x → partly n s x i f ≤ summed f (suc n) s t
  unfolding partly summed
  partly_in i t e =
      let g : ℕ → ℕ = λ p. summed f n s p in
      let z : total g (parts x) ≡ total g (take i (parts x)) + total g (drop i (parts x)) = ap (total g) (sym (take-append-drop i (parts x))) ∙ total_more g (take i (parts x)) (drop i (parts x)) in
      rw e (omega (arith, z))

-- ---- type t, in `left` levels

one_level : (below : ℕ) (s : d.State) (t : ℕ) → ends_in (suc below) s t ≡ all_of (λ p. ends_in below s p) (parts (led s (spanned s t)).value)
unfolding ends_in
one_level below s t = ap (λ (ps : List ℕ). all_of (λ p. ends_in below s p) ps) (sym (led_goes s t))

no_levels : (s : d.State) (t left : ℕ) → left ≡ 0 → ends_in left s t ≡ false
unfolding ends_in
no_levels s t left e = rw e refl

some_types : (below : ℕ) (s : d.State) (t : ℕ) → 0 < summed one (suc below) s t
unfolding summed one
some_types below s t = omega arith

-- an open variable
open_sums : (n : ℕ) (s : d.State) (t v : ℕ) → (led s (spanned s t)).value ≡ d.Var v → SumsOf (λ f. summed f (suc n) s t) (record { types = 1; bytes = 7; nodes = 1; places = 0 })
unfolding summed total parts one head_size head u32 u16 new_nodes new_places args_of
open_sums n s t v e = record { types = rw e (omega arith); bytes = rw e (omega arith); nodes = rw e (omega arith); places = rw e (omega arith) }

-- the parts of a node are few
few : (s : State) {x many : ℕ} {sh : Shape} → At s.words.now s.used x sh many → part_count (shape_of sh) ≤ 8
few s {x} {sh = sh} a = few_parts (held s []).args x (shape_of sh) (rw (a.shape []) ((inside_seen s.words.now s.used [] s.lay).parts x (counted a [])))

pub leads_in : {s : State} {t x : ℕ} {r : Led} → LedTo s t r → r ≡ NodeL x → x < s.used.nodes
leads_in l z = unfolded_node l.unfolds.inside (ap unfolds_to z)

module _ {s : State} {t left budget : ℕ} where
  measures_some : (m : Sums) → ((ds : List Struct) → (ends_in left (held s ds) t ≡ true) × SumsOf (λ f. summed f left (held s ds) t) m) → (m.types ≤ budget) × Small m → Measures s t left budget (Some m)
  measures_some m h i = record {
    over = λ k z ds. let e : m ≡ k = cc in rw (← e) (h ds);
    small = λ k z. let e : m ≡ k = cc in rw (← e) i;
    out = λ z. cc;
  }

  measures_none : ((ds : List Struct) → ends_in left (held s ds) t ≡ true → budget < summed one left (held s ds) t) → Measures s t left budget None
  measures_none h = record { over = λ k z. cc; small = λ k z. cc; out = λ z. h }

  pub measures_zero : left < 1 → Measures s t left budget None
  measures_zero l = measures_none (λ ds e. let z : ◌≡◌ {A = Bool} true false = sym e ∙ no_levels (held s ds) t left (omega arith) in cc)

  pub measures_short : (below : ℕ) → left ≡ below + 1 → budget ≡ 0 → Measures s t left budget None
  measures_short below e z = measures_none (λ ds y. rw (z, e, add-one below) (some_types below (held s ds) t))

  pub measures_open : (below : ℕ) → left ≡ below + 1 → 0 < budget → (loc : ℕ) (v : TVar) (r : Led) → r ≡ Open loc v → LedTo s t r → Measures s t left budget (Some (record { types = 1; bytes = 7; nodes = 1; places = 0 }))
  unfolding all_of parts
  measures_open below e p loc v r z l = measures_some _ all (omega arith, record { bytes = omega arith; nodes = omega arith; places = omega arith })
    where
      is : (ds : List Struct) → (led (held s ds) (spanned (held s ds) t)).value ≡ d.Var v.0
      is ds = ap (λ (x : Spanned TypeValue). x.value) (sym (l.is ds) ∙ ap (λ (x : Led). led_as x (held s ds)) z)

      all : (ds : List Struct) → (ends_in left (held s ds) t ≡ true) × SumsOf (λ f. summed f left (held s ds) t) (record { types = 1; bytes = 7; nodes = 1; places = 0 })
      all ds = rw (e, add-one below) (rw (one_level below (held s ds) t, is ds) refl, open_sums below (held s ds) t v.0 (is ds))

-- t leads to node x with so many parts; its type and those of the parts before i come to m, and these parts are over
pub record Summing (s : State) (t x below budget many : ℕ) (m : Sums) (i : ℕ) : Type 0 where
  pub leads : (ds : List Struct) → (led (held s ds) (spanned (held s ds) t)).value ≡ type_at (held s ds) x
  pub has : (ds : List Struct) → length (parts (type_at (held s ds) x)) ≡ many
  pub sums : (ds : List Struct) → SumsOf (partly below (held s ds) (type_at (held s ds) x) i) m
  pub over : (ds : List Struct) (j : ℕ) → j < i → ends_in below (held s ds) (get_or (parts (type_at (held s ds) x)) j 0) ≡ true
  pub within : m.types ≤ budget
  pub small : Small m

module _ {s : State} {t x many : ℕ} {sh : Shape} (a : At s.words.now s.used x sh many) where
  pub summing_none : (below budget : ℕ) → 0 < budget → (r : Led) → r ≡ NodeL x → LedTo s t r → (m : Sums) → Owns sh m → Summing s t x below budget many m 0
  unfolding spanned one head_size
  summing_none below budget p r z l m o = record {
    leads = λ ds. ap (λ (y : Spanned TypeValue). y.value) (sym (l.is ds) ∙ ap (λ (y : Led). led_as y (held s ds)) z);
    has = many_parts a;
    sums = λ ds.
        let none = λ (f : TypeValue → ℕ). sym (partly_none below (held s ds) (type_at (held s ds) x) f) in
        record {
          types = o.types_is ∙ none one;
          bytes = o.bytes_is 0 ∙ ap length (sym (head_same (held s ds) 0 sh) ∙ ap (head 0) (a.is ds)) ∙ none head_size;
          nodes = o.nodes_is ∙ sym (nodes_same (held s ds) (shape_of sh)) ∙ ap new_nodes (a.is ds) ∙ none new_nodes;
          places = o.places_is ∙ sym (places_same (held s ds) (shape_of sh) (ap (λ (y : TypeValue). length (parts y)) (a.is ds) ∙ many_parts a ds ∙ a.many_is)) ∙ ap new_places (a.is ds) ∙ none new_places;
        };
    over = λ ds j q. absurd (not-suc-le-zero q);
    within = omega (arith, o.types_is);
    small = record { bytes = omega (arith, o.few, o.types_is); nodes = omega (arith, o.types_is, o.nodes_is, nodes_few (shape_of sh)); places = omega (arith, o.types_is, o.places_is, places_few (shape_of sh), few s a) };
  }

  module _ {below budget i : ℕ} {m : Sums} (h : Summing s t x below budget many m i) where
    module _ (p : ℕ) (l : i < many) (e : (ds : List Struct) → i < part_count (shape_of sh) → p ≡ get_or (parts (with_args (held s ds) (shape_of sh))) i 0) where
      at : (ds : List Struct) → p ≡ get_or (parts (type_at (held s ds) x)) i 0
      at = part_is a i p l e

      more_by : (ds : List Struct) (f : TypeValue → ℕ) → partly below (held s ds) (type_at (held s ds) x) (i + 1) f ≡ partly below (held s ds) (type_at (held s ds) x) i f + summed f below (held s ds) p
      more_by ds f = partly_more below (held s ds) (type_at (held s ds) x) f i (rw (h.has ds) l) ∙ ap (λ (q : ℕ). partly below (held s ds) (type_at (held s ds) x) i f + summed f below (held s ds) q) (sym (at ds))

      -- part i has too many types
      pub summing_out : {left : ℕ} → left ≡ below + 1 → {r : Option Sums} → Measures s p below (budget - m.types) r → r ≡ None → Measures s t left budget None
      summing_out y g z = measures_none (λ ds q.
          let ends : all_of (λ o. ends_in below (held s ds) o) (parts (type_at (held s ds) x)) ≡ true = (let k = q in rw (y, add-one below, one_level below (held s ds) t, h.leads ds) at k) in
          let one_ends : ends_in below (held s ds) p ≡ true = rw (at ds) (of_each (λ o. ends_in below (held s ds) o) 0 (parts (type_at (held s ds) x)) ends i (rw (h.has ds) l)) in
          rw (y, add-one below) (omega (arith, g.out z ds one_ends, more_by ds one, (h.sums ds).types, partly_in below (held s ds) (type_at (held s ds) x) one (i + 1) t (h.leads ds), h.within)))

      module _ {r : Option Sums} (g : Measures s p below (budget - m.types) r) (more : Sums) (z : r ≡ Some more) where
        pub summing_fits : budget ≤ 65536 → m.types + more.types ≤ 65536
        summing_fits b = omega (arith, (g.small more z).0, h.within)

        pub summing_more : Summing s t x below budget many (added m more) (i + 1)
        summing_more =
            let k = g.small more z in
            record {
              leads = h.leads;
              has = h.has;
              sums = λ ds.
                  let o = (g.over more z ds).1 in
                  let q = h.sums ds in
                  record {
                    types = omega (arith, o.types, q.types, more_by ds one);
                    bytes = omega (arith, o.bytes, q.bytes, more_by ds head_size);
                    nodes = omega (arith, o.nodes, q.nodes, more_by ds new_nodes);
                    places = omega (arith, o.places, q.places, more_by ds new_places);
                  };
              over = λ ds j q. over ds j q (ℕ_discrete j i);
              within = omega (arith, k.0, h.within);
              small = record { bytes = omega (arith, h.small.bytes, k.1.bytes); nodes = omega (arith, h.small.nodes, k.1.nodes); places = omega (arith, h.small.places, k.1.places) };
            }
          where
            over : (ds : List Struct) (j : ℕ) → j < i + 1 → Dec (j ≡ i) → ends_in below (held s ds) (get_or (parts (type_at (held s ds) x)) j 0) ≡ true
            over ds j q (yes y) = rw (y, ← at ds) (g.over more z ds).0
            over ds j q (no y) = h.over ds j (omega arith)

    pub summing_all : many ≤ i → {left : ℕ} → left ≡ below + 1 → Measures s t left budget (Some m)
    summing_all l y = measures_some m (λ ds.
        let n : (f : TypeValue → ℕ) → partly below (held s ds) (type_at (held s ds) x) i f ≡ summed f (suc below) (held s ds) t = λ f. partly_all below (held s ds) (type_at (held s ds) x) f i (rw (h.has ds) l) t (h.leads ds) in
        rw (y, add-one below) (
          rw (one_level below (held s ds) t, h.leads ds) (all_all (λ p. ends_in below (held s ds) p) (parts (type_at (held s ds) x)) (λ j k. h.over ds j (omega (arith, h.has ds)))),
          record { types = (h.sums ds).types ∙ n one; bytes = (h.sums ds).bytes ∙ n head_size; nodes = (h.sums ds).nodes ∙ n new_nodes; places = (h.sums ds).places ∙ n new_places },
        )) (h.within, h.small)

-- ---- the bytes

-- what was written in front of them is no matter
snoc_spelled : Spelled → Spelled → Spelled
snoc_spelled a b = record { bytes = a.bytes ++ b.bytes; met = b.met }

each_snoc : (f : List ℕ → ℕ → Spelled) (ms ps : List ℕ) (p : ℕ) → spell_each f ms (ps ++ p ∷ []) ≡ snoc_spelled (spell_each f ms ps) (f (spell_each f ms ps).met p)
unfolding spell_each snoc_spelled
each_snoc f ms [] p = rw (append-nil (f ms p).bytes) refl
each_snoc f ms (q ∷ ps) p = rw (each_snoc f (f ms q).met ps p, append_assoc) refl

module _ (how : Spelling) (n : ℕ) (s : d.State) (ms : List ℕ) (loc : ℕ) (x : TypeValue) where
  -- the type x, up to its part i
  unfoldable pub front : ℕ → Spelled
  front i = let below = spell_each (λ m p. spell_led how n s m p) (met_by how ms x) (take i (parts x)) in record { bytes = head_by how ms loc x ++ below.bytes; met = below.met }

  front_none : front 0 ≡ record { bytes = head_by how ms loc x; met = met_by how ms x }
  unfolding front spell_each
  front_none = rw (append-nil (head_by how ms loc x)) refl

  front_more : (i : ℕ) → i < length (parts x) → front (i + 1) ≡ snoc_spelled (front i) (spell_led how n s (front i).met (get_or (parts x) i 0))
  unfolding front snoc_spelled
  front_more i h = rw (add-one i, take-suc (parts x) i 0 h, each_snoc (λ m p. spell_led how n s m p) (met_by how ms x) (take i (parts x)) (get_or (parts x) i 0), append_assoc) refl

  front_all : (i : ℕ) → length (parts x) ≤ i → front i ≡ spelled_with how (λ m p. spell_led how n s m p) ms loc x
  unfolding front spelled_with
  front_all i h = rw (take_all i (parts x) h) refl

  front_size : (i : ℕ) → length (front i).bytes ≡ partly n s x i head_size
  unfolding front partly
  front_size i =
      length-append (head_by how ms loc x) _
      ∙ omega (arith, by_size how ms loc x, each_size (λ m p. spell_led how n s m p) (λ p. summed head_size n s p) (λ m p. spelled_size how n s m p) (met_by how ms x) (take i (parts x)))

-- a part's bytes after those before it
after_wrote : (a b : Bytes) (buf buf' buf'' : List ℕ) (at next next' : ℕ) → at + length (a ++ b) ≤ length buf → Wrote buf at a buf' next → Wrote buf' next b buf'' next' → Wrote buf at (a ++ b) buf'' next'
after_wrote a b buf buf' buf'' at next next' fits h g = record {
  next_is = omega (arith, length-append a b, h.next_is, g.next_is);
  is = g.is ∙ ap (λ (l : List ℕ). put l next b) h.is ∙ ap (λ (j : ℕ). put (put buf at a) j b) h.next_is ∙ put_put buf at a b (omega (arith, fits, length-append a b));
}

no_levels_left : (how : Spelling) (left : ℕ) (s : d.State) (ms : List ℕ) (t : ℕ) → left ≡ 0 → spell_led how left s ms t ≡ record { bytes = []; met = ms }
unfolding spell_led
no_levels_left how left s ms t e = rw e refl

-- ---- variables that have a place in the table

module _ (s : d.State) (numbered : (t : ℕ) → t < count s → Numbered (type_at s t)) (inside : (v t : ℕ) → get s v ≡ Some t → t < count s) where
  var_low : (x : TypeValue) (v : ℕ) → as_var x ≡ Some v → Numbered x → v < 1024
  unfolding as_var
  var_low d.UnitType v e h = absurd (let z : ◌≡◌ {A = ℕ} 0 1 = cc in omega (arith, z))
  var_low (d.Ref m t) v e h = absurd (let z : ◌≡◌ {A = ℕ} 0 1 = cc in omega (arith, z))
  var_low (d.Param id a) v e h = absurd (let z : ◌≡◌ {A = ℕ} 0 1 = cc in omega (arith, z))
  var_low (d.Apply k n p) v e h = absurd (let z : ◌≡◌ {A = ℕ} 0 1 = cc in omega (arith, z))
  var_low (d.Var w) v e h = let q : w ≡ v = cc in omega (arith, h, q)
  var_low d.Anything v e h = absurd (let z : ◌≡◌ {A = ℕ} 0 1 = cc in omega (arith, z))
  var_low d.UnresolvedError v e h = absurd (let z : ◌≡◌ {A = ℕ} 0 1 = cc in omega (arith, z))

  next_low : (v w : ℕ) → next_of s v ≡ Some w → w < 1024
  unfolding next_of next_in
  next_low v w e = go (get s v) refl e
    where
      go : (o : Option ℕ) → get s v ≡ o → next_in s o ≡ Some w → w < 1024
      go None g e = absurd (let z : ◌≡◌ {A = ℕ} 0 1 = cc in omega (arith, z))
      go (Some t) g e = var_low (type_at s t) w e (numbered t (inside v t g))

  end_low : (n v : ℕ) → v < 1024 → forward n s v < 1024
  unfolding forward
  end_low zero v h = h
  end_low (suc n) v h = go (next_of s v) refl (λ w l. end_low n w l)
    where
      go : (o : Option ℕ) → next_of s v ≡ o → ((w : ℕ) → w < 1024 → forward n s w < 1024) → (elim o [ None ↦ v | Some next ↦ forward n s next ]) < 1024
      go None e k = h
      go (Some w) e k = k w (next_low v w e)

  led_low : (t : ℕ) → t < count s → Numbered (led s (spanned s t)).value
  unfolding led led_var forward_tvar spanned
  led_low t h = go (as_var (type_at s t)) refl
    where
      var : (v : ℕ) → v < 1024 → (o : Option ℕ) → get s (forward_tvar s v) ≡ o → Numbered (led_var s (loc_of s t) (forward_tvar s v) o).value
      var v l None g = end_low (taken s) v l
      var v l (Some x) g = numbered x (inside (forward_tvar s v) x g)

      go : (o : Option ℕ) → as_var (type_at s t) ≡ o → Numbered (led s (spanned s t)).value
      go None e = rw (e, led) (numbered t h)
      go (Some v) e = rw (e, led) (var v (var_low (type_at s t) v e (numbered t h)) (get s (forward_tvar s v)) refl)

-- in a state that the words hold
args_numbered : (s : d.State) (x : d.Shape Places) → Numbered x → Numbered (with_args s x)
unfolding with_args
args_numbered s d.UnitType h = tt
args_numbered s (d.Ref m t) h = tt
args_numbered s (d.Param id a) h = tt
args_numbered s (d.Apply k n p) h = tt
args_numbered s (d.Var v) h = h
args_numbered s d.Anything h = tt
args_numbered s d.UnresolvedError h = tt

module _ (s : State) (h : AllNumbered (tables s)) where
  types_numbered : (t : ℕ) → t < count (held s []) → Numbered (type_at (held s []) t)
  unfolding AllNumbered node type_at seen with_structs
  types_numbered t l = args_numbered (held s []) (node (held s []) t).value (h t l)

  pub end_numbered : (t : ℕ) → t < s.used.nodes → (loc : ℕ) (v : TVar) (r : Led) → r ≡ Open loc v → LedTo s t r → v.0 < 1024
  end_numbered t i loc v r z l =
      let e : (led (held s []) (spanned (held s []) t)).value ≡ d.Var v.0 = ap (λ (x : Spanned TypeValue). x.value) (sym (l.is []) ∙ ap (λ (x : Led). led_as x (held s [])) z) in
      let q = led_low (held s []) types_numbered (λ w u g. (inside_seen s.words.now s.used [] s.lay).bindings w u g) t (rw (count_seen s.words.now s.used []) i) in
      subst (λ (x : TypeValue). Numbered x) e q

pub shape_numbered : {w : List ℕ} {u : Used} {t : ℕ} {sh : Shape} {n : ℕ} → At w u t sh n → AllNumbered (view w u) → Numbered (shape_of sh)
unfolding AllNumbered seen with_structs node
shape_numbered {t = t} a b = rw (a.shape []) (b t (counted a []))

-- ---- type t, up to its part i

-- heads of any kind, which know the variables that were met
module _ (how : Spelling) {H : Type 0} (met : H → List ℕ → Type 0) where
  pub record Going (s : State) (x below many : ℕ) (h₀ : H) (buf₀ : List ℕ) (at : ℕ) (h : H) (buf : List ℕ) (next i : ℕ) : Type 0 where
    pub left : i ≤ many
    pub size : length buf ≡ length buf₀
    pub is : (ds : List Struct) (ms : List ℕ) → met h₀ ms → Goes met (front how below (held s ds) ms (loc_of (held s ds) x) (type_at (held s ds) x) i) buf₀ at h buf next

  module _ (s : State) (t left : ℕ) (h₀ : H) (buf₀ : List ℕ) (at : ℕ) (known : (ms : List ℕ) × met h₀ ms) (fits : (ds : List Struct) → at + summed head_size left (held s ds) t ≤ length buf₀) where
    -- no level is left
    pub goes_none : left ≡ 0 → (ds : List Struct) (ms : List ℕ) → met h₀ ms → Goes met (spell_led how left (held s ds) ms t) buf₀ at h₀ buf₀ at
    goes_none e ds ms k = rw (no_levels_left how left (held s ds) ms t e) (record { wrote = record { next_is = omega arith; is = put_nothing buf₀ at (omega (arith, fits ds)) }; knows = k })

    module _ (below : ℕ) (e : left ≡ below + 1) (r : Led) (l : LedTo s t r) where
      -- an open variable
      module _ (loc : ℕ) (v : TVar) (z : r ≡ Open loc v) where
        open_is : (ds : List Struct) → led (held s ds) (spanned (held s ds) t) ≡ record { loc = loc; value = d.Var v.0 }
        open_is ds = sym (l.is ds) ∙ ap (λ (x : Led). led_as x (held s ds)) z

        pub open_fits : at + length (head loc (d.Var v.0)) ≤ length buf₀
        unfolding head u32 u16
        open_fits = omega (arith, fits [], rw (← add-one below, ← e) at (open_sums below (held s []) t v.0 (ap (λ (x : Spanned TypeValue). x.value) (open_is []))).bytes)

        pub goes_open : {h : H} {buf : List ℕ} {next : ℕ} → ((ms : List ℕ) → met h₀ ms → Wrote buf₀ at (head_by how ms loc (d.Var v.0)) buf next × met h (met_by how ms (d.Var v.0)))
            → (ds : List Struct) (ms : List ℕ) → met h₀ ms → Goes met (spell_led how left (held s ds) ms t) buf₀ at h buf next
        unfolding spell_led spelled_with parts spell_each
        goes_open g ds ms k = rw (e, add-one below, open_is ds, append-nil (head_by how ms loc (d.Var v.0))) (record { wrote = (g ms k).0; knows = (g ms k).1 })

      -- a node with so many parts
      module _ (x : ℕ) (z : r ≡ NodeL x) {sh : Shape} {many : ℕ} (a : At s.words.now s.used x sh many) where
        node_is : (ds : List Struct) → led (held s ds) (spanned (held s ds) t) ≡ spanned (held s ds) x
        node_is ds = sym (l.is ds) ∙ ap (λ (y : Led). led_as y (held s ds)) z

        value_is : (ds : List Struct) → (led (held s ds) (spanned (held s ds) t)).value ≡ type_at (held s ds) x
        unfolding spanned
        value_is ds = ap (λ (y : Spanned TypeValue). y.value) (node_is ds)

        room : (ds : List Struct) (i : ℕ) → at + partly below (held s ds) (type_at (held s ds) x) i head_size ≤ length buf₀
        room ds i = omega (arith, fits ds, rw (← add-one below, ← e) at (partly_in below (held s ds) (type_at (held s ds) x) head_size i t (value_is ds)))

        same_value : (ds : List Struct) (ms : List ℕ) (loc : ℕ) → (head_by how ms loc (value_of sh) ≡ head_by how ms loc (type_at (held s ds) x)) × (met_by how ms (value_of sh) ≡ met_by how ms (type_at (held s ds) x))
        same_value ds ms loc = (
          sym (head_by_same how (held s ds) ms loc sh) ∙ ap (λ (y : TypeValue). head_by how ms loc y) (a.is ds),
          sym (met_by_same how (held s ds) ms sh) ∙ ap (λ (y : TypeValue). met_by how ms y) (a.is ds),
        )

        pub head_fits : (loc : ℕ) → at + length (head loc (value_of sh)) ≤ length buf₀
        head_fits loc =
            let q = sym (ap length (head_same (held s []) loc sh)) ∙ ap (λ (y : TypeValue). length (head loc y)) (a.is []) ∙ head_size_is loc (type_at (held s []) x) in
            omega (arith, room [] 0, q, partly_none below (held s []) (type_at (held s []) x) head_size)

        pub going_none : (loc : ℕ) → ((ds : List Struct) → loc ≡ loc_of (held s ds) x) → {h : H} {buf : List ℕ} {next : ℕ}
            → ((ms : List ℕ) → met h₀ ms → Wrote buf₀ at (head_by how ms loc (value_of sh)) buf next × met h (met_by how ms (value_of sh))) → length buf ≡ length buf₀ → Going s x below many h₀ buf₀ at h buf next 0
        going_none loc q {h} {buf} {next} g b = record {
          left = omega arith;
          size = b;
          is = λ ds ms k.
              let v = same_value ds ms loc in
              rw (front_none how below (held s ds) ms (loc_of (held s ds) x) (type_at (held s ds) x), ← q ds, ← v.0, ← v.1) (record { wrote = (g ms k).0; knows = (g ms k).1 });
        }

        module _ {h : H} {buf : List ℕ} {next i : ℕ} (g : Going s x below many h₀ buf₀ at h buf next i) where
          pub knows_then : (ms : List ℕ) × met h ms
          knows_then = (_, (g.is [] known.0 known.1).knows)

          pub going_all : many ≤ i → (ds : List Struct) (ms : List ℕ) → met h₀ ms → Goes met (spell_led how left (held s ds) ms t) buf₀ at h buf next
          unfolding spell_led spanned
          going_all j ds ms k =
              rw (e, add-one below, node_is ds, ← front_all how below (held s ds) ms (loc_of (held s ds) x) (type_at (held s ds) x) i (omega (arith, j, many_parts a ds))) (g.is ds ms k)

          module _ (p : ℕ) (j : i < many) (part : (ds : List Struct) → i < part_count (shape_of sh) → p ≡ get_or (parts (with_args (held s ds) (shape_of sh))) i 0) where
            here : (ds : List Struct) → p ≡ get_or (parts (type_at (held s ds) x)) i 0
            here = part_is a i p j part

            longer : (ds : List Struct) → partly below (held s ds) (type_at (held s ds) x) (i + 1) head_size ≡ partly below (held s ds) (type_at (held s ds) x) i head_size + summed head_size below (held s ds) p
            longer ds =
                partly_more below (held s ds) (type_at (held s ds) x) head_size i (omega (arith, j, many_parts a ds))
                ∙ ap (λ (q : ℕ). partly below (held s ds) (type_at (held s ds) x) i head_size + summed head_size below (held s ds) q) (sym (here ds))

            stands : (ds : List Struct) → next ≡ at + partly below (held s ds) (type_at (held s ds) x) i head_size
            stands ds = (g.is ds known.0 known.1).wrote.next_is ∙ ap (λ (k : ℕ). at + k) (front_size how below (held s ds) known.0 (loc_of (held s ds) x) (type_at (held s ds) x) i)

            pub part_fits : (ds : List Struct) → next + summed head_size below (held s ds) p ≤ length buf
            part_fits ds = omega (arith, g.size, stands ds, longer ds, room ds (i + 1))

            pub going_more : {h' : H} {buf' : List ℕ} {next' : ℕ} → ((ds : List Struct) (ms : List ℕ) → met h ms → Goes met (spell_led how below (held s ds) ms p) buf next h' buf' next') → length buf' ≡ length buf
                → Going s x below many h₀ buf₀ at h' buf' next' (i + 1)
            unfolding snoc_spelled
            going_more f b = record {
              left = omega (arith, j);
              size = b ∙ g.size;
              is = λ ds ms k.
                  let s' = held s ds in
                  let y = type_at s' x in
                  let l = loc_of s' x in
                  let o = g.is ds ms k in
                  let w = f ds (front how below s' ms l y i).met o.knows in
                  let q = front_more how below s' ms l y i (omega (arith, j, many_parts a ds)) in
                  let z : get_or (parts y) i 0 ≡ p = sym (here ds) in
                  let fit : at + length (front how below s' ms l y (i + 1)).bytes ≤ length buf₀ = omega (arith, front_size how below s' ms l y (i + 1), room ds (i + 1)) in
                  rw (q, z) (record { wrote = after_wrote _ _ buf₀ buf _ at next _ (rw (q, z) at fit) o.wrote w.wrote; knows = w.knows });
            }

-- ---- RD and CN

-- how: as the record asks for it
module _ (how : Spelling) where
  told_ended : (s : d.State) (t : ℕ) → ends_in (count s) s t ≡ true
      → spell_ready how s t ≡ (if room_for s (summed new_nodes (count s) s t) (summed new_places (count s) s t) then ok (led_bytes how (count s) s t) else refused full)
  unfolding spell_ready reaches_itself
  told_ended s t e = rw (spell_ready, e) refl

  -- .. with the count known
  told_in : (s : d.State) (t n : ℕ) → count s ≡ n → ends_in n s t ≡ true → spell_ready how s t ≡ (if room_for s (summed new_nodes n s t) (summed new_places n s t) then ok (led_bytes how n s t) else refused full)
  told_in s t n c e = rw (← c) (told_ended s t (rw c e))

  ends_for : (s : d.State) (t n : ℕ) → count s ≡ n → ends_in (count s) s t ≡ true → ends_in n s t ≡ true
  ends_for s t n c e = rw (← c) e

  told_itself : (s : d.State) (t : ℕ) → reaches_itself s t ≡ true → spell_ready how s t ≡ refused runs_into_itself
  unfolding spell_ready
  told_itself s t e = rw (e, spell_ready) refl

  no_fit : (s : d.State) (nodes places : ℕ) → (Fits s nodes places → ⊥) → room_for s nodes places ≡ false
  no_fit s nodes places h = go (room_for s nodes places) refl
    where
      go : (b : Bool) → room_for s nodes places ≡ b → b ≡ false
      go true e = absurd (h (room_fits s nodes places e))
      go false e = refl

  module _ (s : State) (t : ℕ) where
    abbrev Ended : List Struct → Type 0
    Ended ds = ends_in s.used.nodes (held s ds) t ≡ true

    abbrev SumFor : (TypeValue → ℕ) → List Struct → ℕ
    SumFor f ds = summed f s.used.nodes (held s ds) t

    told : (ds : List Struct) → Ended ds → spell_ready how (held s ds) t ≡ (if room_for (held s ds) (SumFor new_nodes ds) (SumFor new_places ds) then ok (led_bytes how s.used.nodes (held s ds) t) else refused full)
    told ds e = told_in (held s ds) t s.used.nodes (count_seen s.words.now s.used ds) e

    told_full : (ds : List Struct) → Ended ds → (s.used.nodes + SumFor new_nodes ds ≤ 2048 → s.used.args + SumFor new_places ds ≤ 4096 → ⊥) → spell_ready how (held s ds) t ≡ refused full
    unfolding max_nodes max_args
    told_full ds e h = told ds e ∙ rw (no_fit (held s ds) (SumFor new_nodes ds) (SumFor new_places ds) (λ f. h (omega (arith, f.0, count_seen s.words.now s.used ds)) (omega (arith, f.1, args_seen s.words.now s.used ds)))) refl

    told_bytes : (ds : List Struct) → Ended ds → s.used.nodes + SumFor new_nodes ds ≤ 2048 → s.used.args + SumFor new_places ds ≤ 4096 → spell_ready how (held s ds) t ≡ ok (led_bytes how s.used.nodes (held s ds) t)
    unfolding max_nodes max_args
    told_bytes ds e n p =
        let r : room_for (held s ds) (SumFor new_nodes ds) (SumFor new_places ds) ≡ true = fits_room (held s ds) (SumFor new_nodes ds) (SumFor new_places ds) (omega (arith, n, count_seen s.words.now s.used ds), omega (arith, p, args_seen s.words.now s.used ds)) in
        told ds e ∙ rw r refl

    -- what was measured
    module _ {m : Sums} (h : (ds : List Struct) → Ended ds × SumsOf (λ f. SumFor f ds) m) where
      pub spells_no_node : {buf : List ℕ} → 2048 - s.used.nodes < m.nodes → (ds : List Struct) → Spells (spell_ready how (held s ds) t) buf buf (Err Full)
      spells_no_node l ds = stopped (told_full ds (h ds).0 (λ n p. absurd (omega (arith, l, n, (h ds).1.nodes)))) refl

      pub spells_no_place : {buf : List ℕ} → 4096 - s.used.args < m.places → (ds : List Struct) → Spells (spell_ready how (held s ds) t) buf buf (Err Full)
      spells_no_place l ds = stopped (told_full ds (h ds).0 (λ n p. absurd (omega (arith, l, p, (h ds).1.places)))) refl

      pub long_is : (ds : List Struct) → length (led_bytes how s.used.nodes (held s ds) t) ≡ m.bytes
      long_is ds = spelled_size how s.used.nodes (held s ds) [] t ∙ sym (h ds).1.bytes

      module _ (n : m.nodes ≤ 2048 - s.used.nodes) (p : m.places ≤ 4096 - s.used.args) where
        bytes_are : (ds : List Struct) → spell_ready how (held s ds) t ≡ ok (led_bytes how s.used.nodes (held s ds) t)
        bytes_are ds = told_bytes ds (h ds).0 (omega (arith, s.lay.nodes, n, (h ds).1.nodes)) (omega (arith, s.lay.args, p, (h ds).1.places))

        pub spells_long : {buf : List ℕ} → 4096 < m.bytes → (ds : List Struct) → Spells (spell_ready how (held s ds) t) buf buf (Err AnswerTooLong)
        spells_long l ds = too_long (bytes_are ds) (rw (long_is ds) l) refl

        pub spells_bytes : m.bytes ≤ 4096 → {buf buf' : List ℕ} {len : ℕ} → ((ds : List Struct) → Wrote buf 0 (led_bytes how s.used.nodes (held s ds) t) buf' len) → (ds : List Struct) → Spells (spell_ready how (held s ds) t) buf buf' (Ok len)
        spells_bytes l w ds = spelt (bytes_are ds) (rw (long_is ds) (omega (arith, l))) (w ds)

    pub spells_itself : (b : Bool) → ((ds : List Struct) → b ≡ reaches_itself (held s ds) t) → b ≡ true → (buf : List ℕ) (ds : List Struct) → Spells (spell_ready how (held s ds) t) buf buf (Err RunsIntoItself)
    spells_itself b e z buf ds = stopped (told_itself (held s ds) t (sym (e ds) ∙ z)) refl

    -- it is over in as many levels as there are nodes
    ended : (b : Bool) → ((ds : List Struct) → b ≡ reaches_itself (held s ds) t) → b ≡ false → (ds : List Struct) → Ended ds
    unfolding reaches_itself
    ended b e z ds = ends_for (held s ds) t s.used.nodes (count_seen s.words.now s.used ds) (not_false (ends_in (count (held s ds)) (held s ds) t) (sym (e ds) ∙ z))

    -- more types than there is room for
    pub spells_many : (b : Bool) → ((ds : List Struct) → b ≡ reaches_itself (held s ds) t) → b ≡ false → {r : Option Sums} {most : ℕ} → 6145 ≤ most → Measures s t s.used.nodes most r → r ≡ None → (buf : List ℕ) (ds : List Struct) → Spells (spell_ready how (held s ds) t) buf buf (Err Full)
    spells_many b e z enough g y buf ds =
        let k = ended b e z ds in
        stopped (told_full ds k (λ n p. absurd (omega (arith, enough, g.out y ds k, spelled_few s.used.nodes (held s ds) t, n, p)))) refl
