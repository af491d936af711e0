-- The fields of a type as read. Assumes nothing: these are definitions.
use Rattle.std.specs.Prelude.{◌≡◌, not, List, [], ℕ, ◌≤◌, length, get_or, Option, Some, None, Result, Ok, Err, IfOk, if◌then◌else◌}
use Rattle.definition.specs.Types as d
use Rattle.definition.specs.Types.{State, Struct, malformed}
use Rattle.definition.specs.Store.{taken}
use Rattle.definition.specs.Write.{Bytes}
use Rattle.definition.specs.Reader.{Read, not_read, Reader, give, refuse, go_on, ◌>>=◌}
use Rattle.definition.specs.Trees.{Tree, unit_tree, anything_tree, error_tree, ref_tree, param_tree, apply_tree, var_tree, Trees, no_trees, ◌then◌, read_trees, mark_fits, arity}
use Rattle.names.specs.Names.{mark_of, name_of}
use Rattle.names.specs.declared.AbilitySet.{AbilitySet}
use Rattle.table.specs.declared.Shape.{Shape}
use Rattle.table.specs.declared.Shape.TheVariants.{Unit as UnitS, Ref, Param, Apply, Var, Anything, UnresolvedError}
use Rattle.refusals.specs.Refusals.{refusal_of}
use Rattle.refusals.specs.declared.Refusal.{Refusal}
use Rattle.heads.specs.declared.Head.{Head}

abbrev pub marked : Option (Option AbilitySet) → Option d.AbilityMark
marked (Some k) = Some (mark_of k)
marked None = None

-- ---- a type's tag, location and fields; its parts follow

-- how many parts
abbrev pub many_parts : Shape → ℕ
many_parts UnitS = 0
many_parts (Ref m t) = 1
many_parts (Param id a) = 0
many_parts (Apply a) = a.many
many_parts (Var v) = 0
many_parts Anything = 0
many_parts UnresolvedError = 0

-- eight at most
abbrev pub Few : Result Shape Refusal → Type 0
Few r = IfOk r (λ h. many_parts h ≤ 8)

abbrev pub first_tree : Trees → Tree
first_tree no_trees = error_tree 0
first_tree (◌then◌ t ts) = t

-- with these parts
abbrev pub tree_of : ℕ → Shape → Trees → Tree
tree_of loc UnitS ts = unit_tree loc
tree_of loc (Ref m t) ts = ref_tree loc m (first_tree ts)
tree_of loc (Param id a) ts = param_tree loc id.0 a.0
tree_of loc (Apply a) ts = apply_tree loc (mark_of a.k) (name_of a.n) ts
tree_of loc (Var v) ts = var_tree loc v.0
tree_of loc Anything ts = anything_tree loc
tree_of loc UnresolvedError ts = error_tree loc

-- what stands after an ability mark and a name
unfoldable pub read_args : State → Reader Tree → ℕ → d.AbilityMark → d.TypeName → Reader Tree
read_args s part loc k n = if not (mark_fits k n) then refuse malformed else do
  ts ← read_trees (arity s n) part
  give (apply_tree loc k n ts)

-- the tree of a location and a shape, once `part` has read the parts
abbrev pub parts_read : ℕ → Result Shape Refusal → Bytes → Reader Tree → Read Tree
parts_read loc (Ok h) l part = go_on (read_trees (many_parts h) part l) (λ ts. give (tree_of loc h ts))
parts_read loc (Err e) l part = not_read (refusal_of e)

abbrev pub tree_read : Result Head Refusal → Bytes → Reader Tree → Read Tree
tree_read (Ok h) l part = parts_read h.loc (Ok h.shape) l part
tree_read (Err e) l part = not_read (refusal_of e)

-- what reading asks of a state: so many variables are taken, and these are the structs
pub record Knows (s : State) (known : ℕ) (ds : List Struct) : Type 0 where
  pub vars : taken s ≡ known
  pub structs : s.structs ≡ ds

-- no struct has more than eight parameters, as in a sound state
unfoldable pub Arities : List Struct → Type 0
Arities ds = (n : ℕ) → length (get_or ds n (record { abilities = 0; params = [] })).params ≤ 8
