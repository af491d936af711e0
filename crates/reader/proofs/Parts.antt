-- The parts of a type read and placed one after the other. Assumes nothing.
use mathlib.Core.Path.{◌≡◌, refl, sym, ap, ◌∙◌, subst}
use mathlib.Core.Bool.{Bool, true, false}
use mathlib.Core.List.{List, [], ◌∷◌, ◌++◌, append-nil, append_assoc}
use Prim.Native.Nat.{ℕ, suc, ◌+◌, ◌<◌}
use native.Mathlib.Omega.{arith}
use lib.ListN.{length, get_or}
use lib.Dec.{ltb, leb}
use Rattle.definition.specs.Types as d
use Rattle.std.specs.Prelude as std
use Rattle.std.specs.Prelude.{Option, Some, None, Ok, Err, is_none, unwrap_or, if◌then◌else◌}
use Rattle.std.specs.Result.{result_ok}
use Rattle.definition.specs.Types.{State, Refusal, max_nodes, max_args, full, Result, ok, err, refused, ◌>>=◌}
use Rattle.definition.specs.Store.{count, args_of, with_node, sp}
use Rattle.definition.specs.Write.{Bytes}
use Rattle.definition.specs.Reader.{Read, got, not_read, Reader, give, go_on}
use Rattle.definition.specs.Reader as r
use Rattle.definition.specs.Trees.{Tree, apply_tree, Trees, ◌then◌, read_trees}
use Rattle.names.specs.Names.{mark_of, name_of}
use Rattle.definition.specs.Build.{build, build_all}
use Rattle.table.specs.declared.Shape.{Shape}
use Rattle.table.specs.declared.Shape.TheVariants.{Unit as UnitS, Ref, Param, Apply, Var, Anything, UnresolvedError}
use Rattle.table.specs.State.{outcome, NodesIn}
use Rattle.table.specs.declared.state.Stop.{Stop}
use Rattle.table.specs.declared.state.Stop.TheVariants.{Failed, Refused}
use Rattle.heads.specs.Fields.{many_parts, tree_of}
use Rattle.reader.specs.Taken.{Placed, stopped, placed, place_read, part_of, PlacedSo, with_parts, put_node}

pub never : {A : Type 0} → ◌≡◌ {A = ℕ} 0 1 → A
never e = absurd (omega arith)

-- ---- after the parts, the node

abbrev pub then_node : ℕ → Shape → Placed (List ℕ) → Placed ℕ
then_node loc h (stopped x) = stopped x
then_node loc h (placed p bytes) = placed (p >>= (λ (s, tys). sp s loc (with_parts h tys))) bytes

abbrev leaf_node : ℕ → Shape → Bool → Bytes → State → Type 0
leaf_node loc h over l s = placed (if over then refused full else sp s loc (with_parts h [])) l ≡ then_node loc h (placed (if over then refused full else ok (s, [])) l)

leaf_is : (loc : ℕ) (h : Shape) (over : Bool) (l : Bytes) (s : State) → leaf_node loc h over l s
unfolding ◌>>=◌
leaf_is loc h true l s = refl
leaf_is loc h false l s = refl

-- one part
ref_is : (loc : ℕ) (m : Bool) (t : ℕ) (over : Bool) (part : Reader Tree) (l : Bytes) (s : State)
    → place_read over build (go_on (read_trees 1 part l) (λ ts. give (tree_of loc (Ref m t) ts))) s ≡ then_node loc (Ref m t) (place_read over build_all (read_trees 1 part l) s)
unfolding read_trees r.◌>>=◌ ◌>>=◌ go_on give place_read build build_all
ref_is loc m t over part l s = by (part l) over
  where
    placing : (p : Result (State × ℕ)) (k : Bytes)
        → ◌≡◌ {A = Placed ℕ} (placed (p >>= (λ (s, u). sp s loc (d.Ref m u))) k) (placed (p >>= (λ (s, u). (ok (s, [])) >>= (λ (s, us). ok (s, u ∷ us))) >>= (λ (s, tys). sp s loc (d.Ref m (get_or tys 0 0)))) k)
    placing (ok (s, u)) k = refl
    placing (err s e) k = refl
    placing (refused y) k = refl

    by : (x : Read Tree) (over : Bool) → place_read over build (go_on (go_on x (λ t bytes. go_on (read_trees 0 part bytes) (λ ts. give (◌then◌ t ts)))) (λ ts. give (tree_of loc (Ref m t) ts))) s
        ≡ then_node loc (Ref m t) (place_read over build_all (go_on x (λ t bytes. go_on (read_trees 0 part bytes) (λ ts. give (◌then◌ t ts)))) s)
    by (got x k) true = refl
    by (got x k) false = placing (build x s) k
    by (not_read y) over = refl

apply_is : (loc : ℕ) (h : Shape) (k : d.AbilityMark) (n : d.TypeName) (over : Bool) (x : Read Trees) (s : State) → ((tys : List ℕ) → with_parts h tys ≡ d.Apply k n tys)
    → place_read over build (go_on x (λ ts. give (apply_tree loc k n ts))) s ≡ then_node loc h (place_read over build_all x s)
unfolding ◌>>=◌ go_on give place_read build
apply_is loc h k n true (got ts l) s e = refl
apply_is loc h k n false (got ts l) s e = placing (build_all ts s)
  where
    placing : (p : Result (State × List ℕ)) → ◌≡◌ {A = Placed ℕ} (placed (p >>= (λ (s, tys). sp s loc (d.Apply k n tys))) l) (placed (p >>= (λ (s, tys). sp s loc (with_parts h tys))) l)
    placing (ok (s, tys)) = ap (λ (v : d.TypeValue). placed (sp s loc v) l) (sym (e tys))
    placing (err s y) = refl
    placing (refused y) = refl
apply_is loc h k n over (not_read y) s e = refl

pub node_after : (h : Shape) (loc : ℕ) (over : Bool) (part : Reader Tree) (l : Bytes) (s : State)
    → place_read over build (go_on (read_trees (many_parts h) part l) (λ ts. give (tree_of loc h ts))) s ≡ then_node loc h (place_read over build_all (read_trees (many_parts h) part l) s)
unfolding read_trees go_on give place_read build build_all
node_after UnitS loc over part l s = leaf_is loc UnitS over l s
node_after (Ref m t) loc over part l s = ref_is loc m t over part l s
node_after (Param id a) loc over part l s = leaf_is loc (Param id a) over l s
node_after (Apply a) loc over part l s = apply_is loc (Apply a) (mark_of a.k) (name_of a.n) over (read_trees a.many part l) s (λ tys. refl)
node_after (Var v) loc over part l s = leaf_is loc (Var v) over l s
node_after Anything loc over part l s = leaf_is loc Anything over l s
node_after UnresolvedError loc over part l s = leaf_is loc UnresolvedError over l s

-- ---- one part more

-- the parts xs, and those that follow
abbrev pub onward : List ℕ → Placed (List ℕ) → Placed (List ℕ)
onward xs (stopped x) = stopped x
onward xs (placed p bytes) = placed (p >>= (λ (s, ys). ok (s, xs ++ ys))) bytes

onward_onward : (xs ys : List ℕ) (p : Placed (List ℕ)) → onward xs (onward ys p) ≡ onward (xs ++ ys) p
unfolding ◌>>=◌
onward_onward xs ys (stopped x) = refl
onward_onward xs ys (placed (ok (s, zs)) l) = ap (λ (k : List ℕ). placed (ok (s, k)) l) (sym (append_assoc xs ys zs))
onward_onward xs ys (placed (err s e) l) = refl
onward_onward xs ys (placed (refused x) l) = refl

pub onward_none : (p : Placed (List ℕ)) → p ≡ onward [] p
unfolding ◌>>=◌
onward_none (stopped x) = refl
onward_none (placed (ok (s, zs)) l) = refl
onward_none (placed (err s e) l) = refl
onward_none (placed (refused x) l) = refl

-- once space has ended, it does not matter what was placed before
over_any : (xs ys : List ℕ) (x : Read Trees) (s s' : State) → onward xs (place_read true build_all x s) ≡ onward ys (place_read true build_all x s')
unfolding place_read ◌>>=◌
over_any xs ys (got ts l) s s' = refl
over_any xs ys (not_read x) s s' = refl

module _ (part : Reader Tree) (m : ℕ) where
  abbrev more : Read Tree → Read Trees
  more x = go_on x (λ t l. go_on (read_trees m part l) (λ ts. give (◌then◌ t ts)))

  step_at : (x : Read Tree) (over : Bool) (s s' : State) (t : ℕ) (k : Bytes) → placed (ok (s', t)) k ≡ place_read over build x s
      → place_read over build_all (more x) s ≡ onward (t ∷ []) (place_read false build_all (read_trees m part k) s')
  unfolding place_read go_on give build_all ◌>>=◌
  step_at (not_read y) over s s' t k e = never (cc)
  step_at (got a l) true s s' t k e = never (cc)
  step_at (got a l) false s s' t k e =
      let p : build a s ≡ ok (s', t) = cc in
      let q : l ≡ k = cc in
      rw q (by (read_trees m part k) p)
    where
      by : (y : Read Trees) → build a s ≡ ok (s', t) → place_read false build_all (go_on y (λ ts. give (◌then◌ a ts))) s ≡ onward (t ∷ []) (place_read false build_all y s')
      by (got ts j) p = rw p refl
      by (not_read z) p = refl

  step_over : (x : Read Tree) (over : Bool) (s s' : State) (k : Bytes) → placed (refused full) k ≡ place_read over build x s
      → place_read over build_all (more x) s ≡ place_read true build_all (read_trees m part k) s'
  unfolding place_read go_on give build_all ◌>>=◌
  step_over (not_read y) over s s' k e = never (cc)
  step_over (got a l) true s s' k e =
      let q : l ≡ k = cc in
      rw q (by (read_trees m part k))
    where
      by : (y : Read Trees) → place_read true build_all (go_on y (λ ts. give (◌then◌ a ts))) s ≡ place_read true build_all y s'
      by (got ts j) = refl
      by (not_read z) = refl
  step_over (got a l) false s s' k e =
      let p : build a s ≡ refused full = cc in
      let q : l ≡ k = cc in
      rw q (by (read_trees m part k) p)
    where
      by : (y : Read Trees) → build a s ≡ refused full → place_read false build_all (go_on y (λ ts. give (◌then◌ a ts))) s ≡ place_read true build_all y s'
      by (got ts j) p = rw p refl
      by (not_read z) p = refl

  step_stop : (x : Read Tree) (over : Bool) (s : State) (y : Refusal) → stopped y ≡ place_read over build x s → stopped y ≡ place_read over build_all (more x) s
  unfolding place_read go_on
  step_stop (not_read z) over s y e = ap stopped (cc)
  step_stop (got a l) over s y e = never (cc)

-- ---- what the loop makes of an answer

pub turn : (part : Reader Tree) (m : ℕ) (l : Bytes) (over : Bool) (s s' : State) (o : Option ℕ) (k : Bytes) (xs : List ℕ) → part_of (Ok o) s' k ≡ place_read over build (part l) s
    → onward xs (place_read over build_all (read_trees (suc m) part l) s) ≡ onward (xs ++ (unwrap_or o 0 ∷ [])) (place_read (is_none o) build_all (read_trees m part k) s')
unfolding read_trees r.◌>>=◌
turn part m l over s s' (Some t) k xs e = ap (λ (q : Placed (List ℕ)). onward xs q) (step_at part m (part l) over s s' t k e) ∙ onward_onward xs (t ∷ []) (place_read false build_all (read_trees m part k) s')
turn part m l over s s' None k xs e = ap (λ (q : Placed (List ℕ)). onward xs q) (step_over part m (part l) over s s' k e) ∙ over_any xs (xs ++ (0 ∷ [])) (read_trees m part k) s' s'

pub stop : (part : Reader Tree) (m : ℕ) (l : Bytes) (over : Bool) (s : State) (x : Refusal) (xs : List ℕ) (loc : ℕ) (h : Shape) → stopped x ≡ place_read over build (part l) s
    → stopped x ≡ then_node loc h (onward xs (place_read over build_all (read_trees (suc m) part l) s))
unfolding read_trees r.◌>>=◌
stop part m l over s x xs loc h e = ap (λ (q : Placed (List ℕ)). then_node loc h (onward xs q)) (step_stop part m (part l) over s x e)

-- a node was placed: there was space before
pub at_open : (over : Bool) (x : Read Tree) (s s' : State) (t : ℕ) (k : Bytes) → placed (ok (s', t)) k ≡ place_read over build x s → over ≡ false
unfolding place_read
at_open false x s s' t k e = refl
at_open true (got a l) s s' t k e = never (cc)
at_open true (not_read y) s s' t k e = never (cc)

-- no part is left
pub none_left : (part : Reader Tree) (l : Bytes) (over : Bool) (s : State) (xs : List ℕ) (loc : ℕ) (h : Shape)
    → then_node loc h (onward xs (place_read over build_all (read_trees 0 part l) s)) ≡ placed (if over then refused full else put_node loc h xs s) l
unfolding read_trees give place_read build_all put_node ◌>>=◌
none_left part l true s xs loc h = refl
none_left part l false s xs loc h = ap (λ (k : List ℕ). placed (sp s loc (with_parts h k)) l) (append-nil xs)

-- ---- a node is placed, or there is no space

abbrev Fine : Result (State × ℕ) → Type 0
Fine (ok x) = Unit {0}
Fine (err s e) = ⊥
Fine (refused x) = x ≡ full

sp_fine : (a b : Bool) (x : State × ℕ) → Fine (if a then (if b then ok x else refused full) else refused full)
sp_fine true true x = tt
sp_fine true false x = refl
sp_fine false b x = refl

put_fine : (loc : ℕ) (h : Shape) (tys : List ℕ) (s : State) → Fine (put_node loc h tys s)
unfolding put_node sp
put_fine loc h tys s =
    let v = with_parts h tys in
    sp_fine (ltb (count s) max_nodes) (leb (length s.args + length (args_of v)) max_args) (with_node s loc v, count s)

-- what an answer of a step stands for
pub found_is : (r : std.Result ℕ Stop) (loc : ℕ) (h : Shape) (tys : List ℕ) (s s' : State) (l : Bytes) → outcome r s' ≡ put_node loc h tys s → part_of (Ok (result_ok r)) s' l ≡ placed (put_node loc h tys s) l
unfolding outcome
found_is r loc h tys s s' l e = by r e (subst Fine (sym e) (put_fine loc h tys s))
  where
    by : (r : std.Result ℕ Stop) → outcome r s' ≡ put_node loc h tys s → Fine (outcome r s') → part_of (Ok (result_ok r)) s' l ≡ placed (put_node loc h tys s) l
    by (Ok t) e f = ap (λ (q : Result (State × ℕ)). placed q l) e
    by (Err (Failed x)) e f = absurd f
    by (Err (Refused x)) e f = ap (λ (y : d.Refusal). placed (refused y) l) (sym f) ∙ ap (λ (q : Result (State × ℕ)). placed q l) e

pub found_in : (r : std.Result ℕ Stop) (n : ℕ) → NodesIn n r → PlacedSo (Ok (result_ok r)) (λ t. t < n)
found_in (Ok t) n i = i
found_in (Err e) n i = tt
