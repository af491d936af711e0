-- 02, R-10: a type's parts in the order in which a record spells them, and how many of them the occurs walk looks at. Assumes nothing: these are definitions.
use Rattle.std.specs.Prelude.{◌∷◌, if◌then◌else◌}
use Rattle.definition.specs.Types.{Bool, List, [], ℕ, zero, suc, leb, State}
use Rattle.definition.specs.Store.{type_at}
use Rattle.definition.specs.Subst.{parts}
use Rattle.definition.specs.Join.{is_var}
use Rattle.definition.specs.Write.{each}

-- the nodes of a type, one for each tag of its spelling, from left to right: the whole type, then its parts. A shared node stands there each time. n levels
unfoldable pub spelled : ℕ → State → ℕ → List ℕ
spelled zero s t = []
spelled (suc n) s t = t ∷ each (λ p. spelled n s p) (parts (type_at s t))

-- how many there are up to the first with f, itself included; all, if none has it
unfoldable pub first_place : (ℕ → Bool) → List ℕ → ℕ
first_place f [] = 0
first_place f (t ∷ ts) = if f t then 1 else suc (first_place f ts)

unfoldable pub max_looked : ℕ
max_looked = 4096

unfoldable pub cut : ℕ → ℕ
cut n = if leb n max_looked then n else max_looked

-- the place of the first tvar in the spelling of ty, the whole type being 1, or the number of all parts: counted up to 4,096
unfoldable pub looked_at : State → ℕ → ℕ → ℕ
looked_at subst tvar ty = cut (first_place (λ t. is_var tvar (type_at subst t)) (spelled (suc ty) subst ty))
