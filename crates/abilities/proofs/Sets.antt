-- The walk that keeps a set for each node: the parts first, then the node's own. Assumes nothing.
-- First that the parts of a type whose reading ends have readings that end; then the table of sets (`Kept`); then the loop's invariant `Walked`: the sets of the parts before i are known.
use mathlib.Core.Path.{◌≡◌, refl, sym, ap, ◌∙◌, subst}
use mathlib.Core.Bool.{Bool, true, false}
use mathlib.Core.List.{List, [], ◌∷◌}
use Prim.Native.Nat.{ℕ, zero, suc, ◌+◌, ◌-◌, ◌≤◌, ◌<◌, ◌%◌}
use native.Mathlib.Nat.{not-suc-le-zero}
use native.Mathlib.Decide.{ℕ_discrete, dec_lt}
use native.Mathlib.Omega.{arith}
use lib.ListN.{length, get_or, set, length-set, replicate, length-replicate}
use lib.Seq.{get_or-set_same, get_or-set_other}
use denote.Enum.Declared.{tag_of}
use types.Run.{OneOf}
use Rattle.definition.specs.Types as d
use Rattle.definition.specs.Types.{Struct}
use Rattle.definition.specs.Store.{count, with_args, all_of}
use Rattle.definition.specs.Subst.{parts, goes_on_to, ends_in, reaches_itself}
use Rattle.definition.specs.Abilities.{infer_value, infer_abilities, declaration, rule}
use Rattle.theorems.proofs.SolveInferred.{infer_is}
use Rattle.table.specs.Rows.{places}
use Rattle.table.specs.State.{shape_of}
use Rattle.table.specs.Did.{held}
use Rattle.table.specs.declared.state.State.{State}
use Rattle.table.specs.declared.Shape.{Shape}
use Rattle.table.specs.contracts.Shape.{the_type}
use Rattle.table.specs.declared.Shape.TheVariants.{Apply}
use Rattle.table.specs.declared.Applied.{Applied}
use Rattle.shapes.proofs.Tags.{other_shapes}
use Rattle.ends.specs.Itself.{Goes_on}
use Rattle.table.proofs.Pushed.{count_seen}
use Rattle.ends.proofs.Lists.{all_one}
use Rattle.subst.proofs.Lists.{zero_at}
use Rattle.abilities.specs.Kept.{Knows, parts_of, part_count, Ends, HasSet, Kept, PartsKept, Ready, ArgsReady, Inferred}

-- ---- the parts of a type whose reading is over

all_true : (f : ℕ → Bool) (l : List ℕ) (i : ℕ) → i < length l → all_of f l ≡ true → f (get_or l i 0) ≡ true
all_true f l i h e = by (f (get_or l i 0)) refl
  where
    by : (b : Bool) → f (get_or l i 0) ≡ b → f (get_or l i 0) ≡ true
    by true z = z
    by false z = let y = all_one f l i h z in cc

pub parts_over : (s : d.State) (m t i : ℕ) → i < length (goes_on_to s t) → ends_in (suc m) s t ≡ true → ends_in m s (get_or (goes_on_to s t) i 0) ≡ true
unfolding ends_in
parts_over s m t i h e = all_true (λ p. ends_in m s p) (goes_on_to s t) i h e

not_at_once : (s : d.State) (t : ℕ) → ends_in 0 s t ≡ true → ⊥
unfolding ends_in
not_at_once s t e = let z : ◌≡◌ {A = Bool} false true = e in let n : ◌≡◌ {A = ℕ} 0 1 = cc in omega arith

pub some_left : (s : State) (left t : ℕ) → Ends s left t → 0 < left
some_left s zero t e = absurd (not_at_once (held s []) t (e.over [] 0 (omega arith)))
some_left s (suc left) t e = omega arith

pub no_circle : (s : d.State) (t : ℕ) → ends_in (count s) s t ≡ true → reaches_itself s t ≡ false
unfolding reaches_itself
no_circle s t e = rw e refl

-- ---- the table

-- no set is known
pub kept_none : (s : State) (params : List (List ℕ)) → Kept s params (replicate 2048 0)
kept_none s params = record {
  size = length-replicate {A = ℕ} 2048 0;
  is = λ t h. absurd (let z = zero_at 2048 t (dec_lt t 2048) in omega arith);
  below = λ t h. absurd (let z = zero_at 2048 t (dec_lt t 2048) in omega arith);
}

-- the parts of node t, if its set is known
pub kept_ready : (s : State) (params : List (List ℕ)) (sets : List ℕ) (t : ℕ) (sh : Shape) → Goes_on s t sh → Kept s params sets
    → ((ds : List Struct) (i : ℕ) → i < length (goes_on_to (held s ds) t) → HasSet sets (get_or (goes_on_to (held s ds) t) i 0)) → Ready s params sets (parts_of sh) (part_count sh)
kept_ready s params sets t sh g k h = record {
  size = k.size;
  few = g.few;
  many_is = λ ds. ap length (g.is ds) ∙ g.many ds;
  inside = λ ds i l. rw (g.is ds) (omega (arith, g.inside ds i l, s.lay.nodes));
  is = λ ds kn i l. rw (g.is ds) (k.is (get_or (goes_on_to (held s ds) t) i 0) (h ds i (rw (g.many ds) l)) ds kn);
}

-- .. of a name: its arguments
pub ready_args : (s : State) (params : List (List ℕ)) (sets : List ℕ) (sh : Shape) (a : Applied) → Ready s params sets (parts_of sh) (part_count sh) → sh ≡ Apply a → ArgsReady s params sets a
unfolding parts with_args places
ready_args s params sets sh a r e = subst (λ (x : Shape). Ready s params sets (parts_of x) (part_count x)) e r

-- ---- the loop over the parts

-- the sets of the parts before i are known
pub record Walked (s : State) (params : List (List ℕ)) (t left : ℕ) (sets₀ : List ℕ) (sh : Shape) (many : ℕ) (sets : List ℕ) (i : ℕ) : Type 0 where
  pub in_nodes : t < s.used.nodes
  pub ends : Ends s left t
  pub goes : Goes_on s t sh
  pub many_is : many ≡ part_count sh
  pub le : i ≤ many
  pub kept : Kept s params sets
  pub still : (x : ℕ) → HasSet sets₀ x → HasSet sets x
  pub known : (ds : List Struct) (j : ℕ) → j < i → HasSet sets (get_or (goes_on_to (held s ds) t) j 0)

pub walk_none : (s : State) (params : List (List ℕ)) (t left : ℕ) (sets : List ℕ) (sh : Shape) (many : ℕ) → t < s.used.nodes → Ends s left t → Goes_on s t sh → many ≡ part_count sh → Kept s params sets
    → Walked s params t left sets sh many sets 0
walk_none s params t left sets sh many l e g m k = record { in_nodes = l; ends = e; goes = g; many_is = m; le = omega arith; kept = k; still = λ x y. y; known = λ ds j p. absurd (not-suc-le-zero p) }

-- a set that is known already
pub inferred_known : (s : State) (params : List (List ℕ)) (t : ℕ) (sets : List ℕ) → Kept s params sets → HasSet sets t → Inferred s params t sets sets
inferred_known s params t sets k h = record { kept = k; here = h; still = λ x y. y }

module _ {s : State} {params : List (List ℕ)} {t left : ℕ} {sets₀ : List ℕ} {sh : Shape} {many : ℕ} {sets : List ℕ} {i : ℕ} (h : Walked s params t left sets₀ sh many sets i) where
  module _ (l : i < many) (p : ℕ) (e : (ds : List Struct) → i < part_count sh → p ≡ get_or (parts (with_args (held s ds) (shape_of sh))) i 0) where
    counted : i < part_count sh
    counted = rw (← h.many_is) l

    part_is : (ds : List Struct) → p ≡ get_or (goes_on_to (held s ds) t) i 0
    part_is ds = e ds counted ∙ ap (λ (x : List ℕ). get_or x i 0) (h.goes.is ds)

    pub walk_part : p < s.used.nodes
    walk_part = rw (part_is []) (h.goes.inside [] i counted)

    pub walk_ends : Ends s (left - 1) p
    walk_ends = record {
      few = omega (arith, h.ends.few);
      over = λ ds m q. rw (part_is ds) (parts_over (held s ds) m t i (rw (h.goes.many ds) counted) (h.ends.over ds (suc m) (omega arith)));
    }

    pub walk_more : (sets' : List ℕ) → Inferred s params p sets sets' → Walked s params t left sets₀ sh many sets' (i + 1)
    walk_more sets' f = record {
      in_nodes = h.in_nodes;
      ends = h.ends;
      goes = h.goes;
      many_is = h.many_is;
      le = omega arith;
      kept = f.kept;
      still = λ x y. f.still x (h.still x y);
      known = λ ds j q. by ds j q (ℕ_discrete j i);
    }
      where
        by : (ds : List Struct) (j : ℕ) → j < i + 1 → Dec (j ≡ i) → HasSet sets' (get_or (goes_on_to (held s ds) t) j 0)
        by ds j q (yes y) = rw (y, ← part_is ds) f.here
        by ds j q (no y) = f.still _ (h.known ds j (omega arith))

  -- the sets of all parts are known
  pub walk_parts : many ≤ i → PartsKept s t sets
  walk_parts l = record {
    over = λ ds. no_circle (held s ds) t (h.ends.over ds (count (held s ds)) (omega (arith, count_seen s.words.now s.used ds, h.ends.few)));
    known = λ ds j q. h.known ds j (omega (arith, h.goes.many ds, h.many_is));
  }

  pub walk_done : (sets' : List ℕ) → Inferred s params t sets sets' → Inferred s params t sets₀ sets'
  walk_done sets' f = record { kept = f.kept; here = f.here; still = λ x y. f.still x (h.still x y) }

-- ---- the node's own set

module _ {s : State} {params : List (List ℕ)} {t : ℕ} {sets : List ℕ} {sh : Shape} (in_nodes : t < s.used.nodes) (k : Kept s params sets) (p : PartsKept s t sets) (g : Goes_on s t sh) where
  module _ (a : ℕ) (small : a < 256) (is : (ds : List Struct) → Knows s params ds → a ≡ infer_value (λ t. infer_abilities (held s ds) t) (held s ds) (with_args (held s ds) (shape_of sh))) where
    set_is : (ds : List Struct) → Knows s params ds → a ≡ infer_abilities (held s ds) t
    set_is ds kn =
        is ds kn
        ∙ ap (infer_value (λ t. infer_abilities (held s ds) t) (held s ds)) (g.value ds)
        ∙ sym (infer_is (held s ds) t (p.over ds))

    here_is : get_or (set sets t (256 + a)) t 0 ≡ 256 + a
    here_is = get_or-set_same sets t (256 + a) 0 (omega (arith, k.size, in_nodes, s.lay.nodes))

    more_known : (x : ℕ) → HasSet sets x → HasSet (set sets t (256 + a)) x
    more_known x y = by (ℕ_discrete x t)
      where
        by : Dec (x ≡ t) → HasSet (set sets t (256 + a)) x
        by (yes e) = rw (e, here_is) (omega arith)
        by (no e) = rw (get_or-set_other sets t x (256 + a) 0 e) y

    was_known : (x : ℕ) → (x ≡ t → ⊥) → HasSet (set sets t (256 + a)) x → HasSet sets x
    was_known x e y = rw (get_or-set_other sets t x (256 + a) 0 e) at y

    pub inferred_here : Inferred s params t sets (set sets t (256 + a))
    inferred_here = record {
      kept = record {
        size = length-set sets t (256 + a) ∙ k.size;
        is = λ x y ds kn. is_at x y ds kn (ℕ_discrete x t);
        below = λ x y ds j q. more_known _ (below_at x y ds j q (ℕ_discrete x t));
      };
      here = rw here_is (omega arith);
      still = more_known;
    }
      where
        is_at : (x : ℕ) → HasSet (set sets t (256 + a)) x → (ds : List Struct) → Knows s params ds → Dec (x ≡ t) → get_or (set sets t (256 + a)) x 0 % 256 ≡ infer_abilities (held s ds) x
        is_at x y ds kn (yes e) = rw (e, here_is) ((let z : (256 + a) % 256 ≡ a = omega arith in z) ∙ set_is ds kn)
        is_at x y ds kn (no e) = rw (get_or-set_other sets t x (256 + a) 0 e) (k.is x (was_known x e y) ds kn)

        below_at : (x : ℕ) → HasSet (set sets t (256 + a)) x → (ds : List Struct) (j : ℕ) → j < length (goes_on_to (held s ds) x) → Dec (x ≡ t) → HasSet sets (get_or (goes_on_to (held s ds) x) j 0)
        below_at x y ds j q (yes e) = rw e (p.known ds j (rw e at q))
        below_at x y ds j q (no e) = k.below x (was_known x e y) ds j q

-- ---- the rule of a type that has no name

pub rule_plain : (s : Shape) → OneOf (0 ∷ 1 ∷ 2 ∷ 4 ∷ 5 ∷ 6 ∷ []) (tag_of the_type s) → (st : d.State) (ability : ℕ) → declaration ≡ rule st ability (with_args st (shape_of s))
unfolding rule with_args
rule_plain = other_shapes (0 ∷ 1 ∷ 2 ∷ 4 ∷ 5 ∷ 6 ∷ []) (λ s. (st : d.State) (ability : ℕ) → declaration ≡ rule st ability (with_args st (shape_of s))) (λ st b. refl) (λ m t st b. refl)
    (λ id a st b. refl) tt (λ v st b. refl) (λ st b. refl) (λ st b. refl)
