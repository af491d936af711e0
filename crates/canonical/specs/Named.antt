-- The variables that were met, as the code keeps them: a table of numbers, and how many there are. Assumes nothing: these are definitions.
use Rattle.std.specs.Prelude.{◌≡◌, List, [], ◌∷◌, ℕ, zero, suc, ◌+◌, ◌<◌, length, get_or}
use Rattle.definition.specs.Types.{Shape, UnitType, Ref, Param, Apply, Var, Anything, UnresolvedError, State}
use Rattle.definition.specs.Store.{count, node}
use Rattle.definition.specs.Canonical.{number_of}
use Rattle.theorems.specs.ReadySpelled as r
use Rattle.canonical.specs.declared.Names.{Names}
use Rattle.canonical.specs.declared.Spelling.{Spelling}
use Rattle.canonical.specs.declared.Spelling.TheVariants.{Located, Canonical}

abbrev pub spelling_of : Spelling → r.Spelling
spelling_of Located = r.Located
spelling_of Canonical = r.Canonical

-- a variable that has a place in the table
abbrev pub Numbered : {A : Type 0} → Shape A → Type 0
Numbered UnitType = Unit {0}
Numbered (Ref m t) = Unit {0}
Numbered (Param id a) = Unit {0}
Numbered (Apply k n p) = Unit {0}
Numbered (Var v) = v < 1024
Numbered Anything = Unit {0}
Numbered UnresolvedError = Unit {0}

-- .. so in every node, as in a sound state
unfoldable pub AllNumbered : State → Type 0
AllNumbered s = (t : ℕ) → t < count s → Numbered (node s t).value

-- how many numbers are not 0
unfoldable pub filled : List ℕ → ℕ
filled [] = 0
filled (zero ∷ l) = filled l
filled (suc n ∷ l) = suc (filled l)

-- the table has just these variables, by their first appearance
pub record Named (n : Names) (met : List ℕ) : Type 0 where
  pub long : length n.numbers ≡ 1024
  pub many : n.many ≡ length met
  pub all : filled n.numbers ≡ length met
  pub old : (v : ℕ) → v < 1024 → 0 < get_or n.numbers v 0 → (get_or n.numbers v 0 ≡ number_of met v + 1) × (number_of met v < length met)
  pub new : (v : ℕ) → v < 1024 → get_or n.numbers v 0 ≡ 0 → number_of met v ≡ length met
