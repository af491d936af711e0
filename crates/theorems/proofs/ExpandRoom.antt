-- R-5: placing a tree takes a node a tag and a place an argument, and finds no room exactly where so much is not left. Assumes nothing.
use mathlib.Core.Path.{◌≡◌, refl, ap, ◌∙◌}
use mathlib.Core.Logic.{◌↔◌}
use mathlib.Core.List.{List, [], ◌∷◌}
use Prim.Native.Nat.{ℕ, suc, ◌+◌, ◌≤◌, ◌<◌}
use native.Mathlib.Omega.{arith}
use lib.ListN.{length, length-append}
use Rattle.definition.specs.Types.{TypeValue, UnitType, Ref, Param, Apply, Var, Anything, UnresolvedError, State, full, max_nodes, max_args, Result, ok, err, refused, ◌>>=◌}
use Rattle.definition.specs.Store.{count, with_node, args_of, sp}
use Rattle.definition.specs.Trees.{Tree, unit_tree, anything_tree, error_tree, ref_tree, param_tree, apply_tree, var_tree, Trees, no_trees, ◌then◌}
use Rattle.definition.specs.Build.{build, build_all}
use Rattle.definition.specs.Final.{nodes_for, nodes_for_all, places_for, places_for_all, RoomFor, Placing}
use Rattle.theorems.proofs.Laws.{count_with_node}
use Rattle.theorems.proofs.DemandTracks.{never}
use Rattle.theorems.proofs.SoundRoom.{Room, room, no_room, sp_room}
use Rattle.theorems.proofs.SoundRead.{size}

-- n nodes and k places are left
abbrev Left : State → ℕ → ℕ → Type 0
Left S n k = (count S + n ≤ max_nodes) × (length S.args + k ≤ max_args)

-- just so many are taken, and were left; or they are not left
data Took (S : State) (n k : ℕ) : Result (State × ℕ) → Type 0 where
  took : {S' : State} {t : ℕ} → count S' ≡ count S + n → length S'.args ≡ length S.args + k → Left S n k → Took S n k (ok (S', t))
  none_left : (Left S n k → ⊥) → Took S n k (refused full)

-- .. by as many types
data AllTook (S : State) (many n k : ℕ) : Result (State × List ℕ) → Type 0 where
  all_took : {S' : State} {ts : List ℕ} → length ts ≡ many → count S' ≡ count S + n → length S'.args + many ≡ length S.args + k → AllTook S many n k (ok (S', ts))
  all_none : (Left S n k → ⊥) → AllTook S many n k (refused full)

args_with_node : (s : State) (l : ℕ) (x : TypeValue) → length (with_node s l x).args ≡ length s.args + length (args_of x)
unfolding with_node
args_with_node s l x = length-append s.args (args_of x)

sp_took : (S : State) (l : ℕ) (x : TypeValue) → Took S 1 (length (args_of x)) (sp S l x)
sp_took S l x = go (sp_room S l x)
  where
    go : {m : Result (State × ℕ)} → Room ((count S < max_nodes) × (length S.args + length (args_of x) ≤ max_args)) (with_node S l x, count S) m → Took S 1 (length (args_of x)) m
    go (room e) = took {S' = with_node S l x} {t = count S} (omega (arith, count_with_node S l x)) (args_with_node S l x) (omega (arith, e.0), e.1)
    go (no_room q) = none_left (λ w. q (omega (arith, w.0), w.1))

-- a node after what is below it
took_from : {S S' : State} (n k : ℕ) {n' k' a b : ℕ} {m : Result (State × ℕ)} → count S' ≡ count S + n → length S'.args ≡ length S.args + k → n + n' ≡ a → k + k' ≡ b → Took S' n' k' m → Took S a b m
took_from n k i j p q (took {S' = S2} {t = t} e f l) = took {S' = S2} {t = t} (omega (arith, i, e, p)) (omega (arith, j, f, q)) (omega (arith, i, p, l.0), omega (arith, j, q, l.1))
took_from n k i j p q (none_left f) = none_left (λ w. f (omega (arith, i, p, w.0), omega (arith, j, q, w.1)))

ref_took : (S : State) (l : ℕ) (f : ℕ → TypeValue) {n k : ℕ} {x : Result (State × ℕ)} → ((t : ℕ) → length (args_of (f t)) ≡ 0) → Took S n k x → Took S (suc n) k (x >>= (λ (y : State × ℕ). sp y.0 l (f y.1)))
unfolding ◌>>=◌
ref_took S l f {n} {k} z (took {S' = S1} {t = t} i j w) = took_from n k i j (omega arith) (omega (arith, z t)) (sp_took S1 l (f t))
ref_took S l f z (none_left q) = none_left (λ w. q (omega (arith, w.0), w.1))

name_took : (S : State) (l : ℕ) (f : List ℕ → TypeValue) {many n k : ℕ} {x : Result (State × List ℕ)} → ((ts : List ℕ) → args_of (f ts) ≡ ts) → AllTook S many n k x → Took S (suc n) k (x >>= (λ (y : State × List ℕ). sp y.0 l (f y.1)))
unfolding ◌>>=◌
name_took S l f {many} {n} {k} z (all_took {S' = S1} {ts = ts} e i j) = last (sp_took S1 l (f ts))
  where
    as_many : length (args_of (f ts)) ≡ many
    as_many = ap (λ (u : List ℕ). length u) (z ts) ∙ e

    last : {m : Result (State × ℕ)} → Took S1 1 (length (args_of (f ts))) m → Took S (suc n) k m
    last (took {S' = S2} {t = t} g h w) = took {S' = S2} {t = t} (omega (arith, g, i)) (omega (arith, h, j, as_many)) (omega (arith, i, w.0), omega (arith, j, as_many, w.1))
    last (none_left q) = none_left (λ w. q (omega (arith, i, w.0), omega (arith, j, as_many, w.1)))
name_took S l f z (all_none q) = none_left (λ w. q (omega (arith, w.0), w.1))

first_of : {S : State} {many n k n' k' : ℕ} {m : Result (State × ℕ)} (f : State → Result (State × List ℕ)) → Took S n k m → ((S1 : State) → AllTook S1 many n' k' (f S1))
    → AllTook S (suc many) (n + n') (suc (k + k')) (m >>= (λ (x : State × ℕ). f x.0 >>= (λ (y : State × List ℕ). ok (y.0, x.1 ∷ y.1))))
unfolding ◌>>=◌
first_of {S} {many} {n} {k} {n'} {k'} f (took {S' = S1} {t = u} i j w) g = second (f S1) (g S1)
  where
    second : (m : Result (State × List ℕ)) → AllTook S1 many n' k' m → AllTook S (suc many) (n + n') (suc (k + k')) (m >>= (λ (y : State × List ℕ). ok (y.0, u ∷ y.1)))
    second (ok (S2, us)) (all_took e i' j') = all_took {S' = S2} {ts = u ∷ us} (ap suc e) (omega (arith, i, i')) (omega (arith, j, j'))
    second (err z x) c = elim c [ ]
    second (refused x) (all_none q) = all_none (λ w. q (omega (arith, i, w.0), omega (arith, j, w.1)))
first_of f (none_left q) g = all_none (λ w. q (omega (arith, w.0), omega (arith, w.1)))

mutual
  unfolding build build_all nodes_for nodes_for_all places_for places_for_all args_of

  tree_took : (T : Tree) (S : State) → Took S (nodes_for T) (places_for T) (build T S)
  tree_took (unit_tree l) S = sp_took S l UnitType
  tree_took (anything_tree l) S = sp_took S l Anything
  tree_took (error_tree l) S = sp_took S l UnresolvedError
  tree_took (ref_tree l m t) S = ref_took S l (λ p. Ref m p) (λ p. refl) (tree_took t S)
  tree_took (param_tree l id a) S = sp_took S l (Param id a)
  tree_took (apply_tree l k n ts) S = name_took S l (λ ps. Apply k n ps) (λ ps. refl) (trees_took ts S)
  tree_took (var_tree l v) S = sp_took S l (Var v)

  trees_took : (Ts : Trees) (S : State) → AllTook S (size Ts) (nodes_for_all Ts) (places_for_all Ts) (build_all Ts S)
  trees_took no_trees S = all_took {S' = S} {ts = []} refl (omega arith) (omega arith)
  trees_took (◌then◌ t ts) S = first_of (λ S1. build_all ts S1) (tree_took t S) (λ S1. trees_took ts S1)

pub placing : (s : State) → Placing s
unfolding Placing
placing s tree = go (build tree s) (tree_took tree s)
  where
    go : (m : Result (State × ℕ)) → Took s (nodes_for tree) (places_for tree) m → (m ≡ refused full) ↔ (¬ RoomFor s tree)
    go (ok (S1, t)) (took i j w) = (λ e. never (cc), λ n. absurd (n w))
    go (err z x) c = elim c [ ]
    go (refused x) (none_left q) = (λ e w. q w, λ n. refl)
