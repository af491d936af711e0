-- 01, 'Nodes: reading takes one per tag': the types of a record placed as nodes, parts before their node. Assumes nothing: these are definitions.
use Rattle.std.specs.Prelude.{◌∷◌}
use Rattle.definition.specs.Types.{List, [], ℕ, UnitType, Ref, Param, Apply, Var, Anything, UnresolvedError, State, Result, ok, ◌>>=◌}
use Rattle.definition.specs.Store.{sp}
use Rattle.definition.specs.Join.{TypingCase}
use Rattle.definition.specs.Trees.{Tree, unit_tree, anything_tree, error_tree, ref_tree, param_tree, apply_tree, var_tree, Trees, no_trees, ◌then◌}

unfoldable mutual
  pub build : Tree → State → Result (State × ℕ)
  build (unit_tree loc) s = sp s loc UnitType
  build (anything_tree loc) s = sp s loc Anything
  build (error_tree loc) s = sp s loc UnresolvedError
  build (ref_tree loc mut t) s = do (s, t) ← build t s; sp s loc (Ref mut t)
  build (param_tree loc id abilities) s = sp s loc (Param id abilities)
  build (apply_tree loc k n ts) s = do (s, tys) ← build_all ts s; sp s loc (Apply k n tys)
  build (var_tree loc v) s = sp s loc (Var v)

  pub build_all : Trees → State → Result (State × List ℕ)
  build_all no_trees s = ok (s, [])
  build_all (◌then◌ t ts) s = do (s, t) ← build t s; (s, ts) ← build_all ts s; ok (s, t ∷ ts)

-- TS's arguments, from left to right, each with its parameter's id
unfoldable pub build_pairs : List (ℕ × Tree) → State → Result (State × List (ℕ × ℕ))
build_pairs [] s = ok (s, [])
build_pairs ((id, t) ∷ pairs) s = do (s, t) ← build t s; (s, pairs) ← build_pairs pairs s; ok (s, (id, t) ∷ pairs)

-- MJ's types, from left to right over all pairs
unfoldable pub build_many : List (TypingCase × Tree × Tree) → State → Result (State × List (TypingCase × ℕ × ℕ))
build_many [] s = ok (s, [])
build_many ((case, t1, t2) ∷ pairs) s = do
  (s, lhs) ← build t1 s
  (s, rhs) ← build t2 s
  (s, pairs) ← build_many pairs s
  ok (s, (case, lhs, rhs) ∷ pairs)
