-- A reading to some depth: it ends also where a variable reaches itself, and what lies deeper is left out. Assumes nothing: these are definitions.
use mathlib.Core.List.{List, [], ◌∷◌}
use Rattle.std.specs.Prelude.{None, Some}
use Prim.Native.Nat.{ℕ, zero, suc}
use Rattle.definition.specs.Types.{TypeValue, UnitType, Ref, Param, Apply, Var, Anything, UnresolvedError, State}
use Rattle.definition.specs.Store.{type_at, get}
use Rattle.definition.specs.Subst.{forward_tvar, parts}
use Rattle.definition.specs.Rank.{ReadType, any, open_var, unresolved, unit, reference, parameter, named, ReadTypes, no_types, ◌and◌}
use Rattle.theorems.proofs.DemandOrder.{All}

-- a chain end stands for its binding, or for itself
unfoldable pub end_shape : State → ℕ → TypeValue
end_shape s e = elim (get s e) [ None ↦ Var e | Some t ↦ type_at s t ]

-- a bound variable is replaced by its binding
unfoldable pub follow : State → TypeValue → TypeValue
follow s (Var v) = end_shape s (forward_tvar s v)
follow s UnitType = UnitType
follow s (Ref m t) = Ref m t
follow s (Param id a) = Param id a
follow s (Apply k n tys) = Apply k n tys
follow s Anything = Anything
follow s UnresolvedError = UnresolvedError

unfoldable pub read_all : (ℕ → ReadType) → List ℕ → ReadTypes
read_all f [] = no_types
read_all f (t ∷ ts) = ◌and◌ (f t) (read_all f ts)

unfoldable pub read_shape : (ℕ → ReadType) → TypeValue → ReadType
read_shape f UnitType = unit
read_shape f (Ref m t) = reference m (f t)
read_shape f (Param id a) = parameter id a
read_shape f (Apply k n tys) = named k n (read_all f tys)
read_shape f (Var v) = open_var v
read_shape f Anything = any
read_shape f UnresolvedError = unresolved

-- the shape, read n levels deep, with the type `rest` wherever it goes deeper. The levels of two such readings meet only each other: `rest` stands beside `rest`
unfoldable pub unrolled : ReadType → ℕ → State → TypeValue → ReadType
unrolled rest zero s shape = rest
unrolled rest (suc n) s shape = read_shape (λ p. unrolled rest n s (type_at s p)) (follow s shape)

-- it goes no deeper: reading the shape ends within n levels
unfoldable pub EndsWithin : State → ℕ → TypeValue → Type 0
EndsWithin s zero shape = ⊥
EndsWithin s (suc n) shape = All (λ p. EndsWithin s n (type_at s p)) (parts (follow s shape))
