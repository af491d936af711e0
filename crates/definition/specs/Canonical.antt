-- 02, R-12: a type as bytes that say nothing of locations, nor which unbound variables stand in it, only where one stands again.
-- Assumes nothing: these are definitions.
use Rattle.std.specs.Prelude.{◌∷◌, ◌++◌, if◌then◌else◌}
use Rattle.definition.specs.Types.{List, [], None, Some, ℕ, zero, suc, eqb, UnitType, Ref, Param, Apply, Var, Anything, UnresolvedError, TypeValue, State}
use Rattle.definition.specs.Store.{count, type_at}
use Rattle.definition.specs.Subst.{as_var, parts}
use Rattle.definition.specs.Write.{Bytes, head}

-- ---- the variables met, in the order of their first appearance
-- a variable's number is its place among them; the next one's, if it is new
unfoldable pub number_of : List ℕ → ℕ → ℕ
number_of [] v = 0
number_of (w ∷ met) v = if eqb w v then 0 else suc (number_of met v)

unfoldable pub meet : List ℕ → ℕ → List ℕ
meet [] v = v ∷ []
meet (w ∷ met) v = if eqb w v then w ∷ met else w ∷ meet met v

unfoldable pub meet_in : List ℕ → TypeValue → List ℕ
meet_in met t = elim (as_var t) [ None ↦ met | Some v ↦ meet met v ]

-- without the variable's own number
unfoldable pub numbered : List ℕ → TypeValue → TypeValue
numbered met UnitType = UnitType
numbered met (Ref m t) = Ref m t
numbered met (Param id a) = Param id a
numbered met (Apply k n tys) = Apply k n tys
numbered met (Var v) = Var (number_of met v)
numbered met Anything = Anything
numbered met UnresolvedError = UnresolvedError

-- ---- the spelling, from left to right
pub record Spelled : Type 0 where
  pub bytes : Bytes
  pub met : List ℕ

unfoldable pub spell_each : (List ℕ → ℕ → Spelled) → List ℕ → List ℕ → Spelled
spell_each spell met [] = record { bytes = []; met = met }
spell_each spell met (t ∷ ts) = let first = spell met t in let rest = spell_each spell first.met ts in
    record { bytes = first.bytes ++ rest.bytes; met = rest.met }

-- n levels of parts, every location 0
unfoldable pub spell : ℕ → State → List ℕ → ℕ → Spelled
spell zero s met t = record { bytes = []; met = met }
spell (suc n) s met t = let below = spell_each (λ met p. spell n s met p) (meet_in met (type_at s t)) (parts (type_at s t)) in
    record { bytes = head 0 (numbered met (type_at s t)) ++ below.bytes; met = below.met }

-- of a type that has no bound variable; as many levels as `write`
unfoldable pub canonical : State → ℕ → Bytes
canonical s t = (spell (suc (count s)) s [] t).bytes
