-- Which argument places stay. Assumes nothing: these are definitions.
use Rattle.std.specs.Prelude.{◌≡◌, Bool, false, ◌||◌, ◌&&◌, List, ℕ, ◌+◌, leb, ltb, length, get_or}
use Rattle.definition.specs.Types as d
use Rattle.definition.specs.Store.{any_of}
use Rattle.definition.specs.Keep.{those_below, has_place}
use Rattle.keep.specs.Numbered.{among}

-- those from `first` on are marked besides
pub record MarksRun (first many : ℕ) (places places' : List Bool) : Type 0 where
  pub long : length places' ≡ length places
  pub each : (i : ℕ) → get_or places' i false ≡ get_or places i false || (leb first i && ltb i (first + many))

-- .. those of node t
pub record MarksPlaces (s : d.State) (t : ℕ) (places places' : List Bool) : Type 0 where
  pub long : length places' ≡ length places
  pub each : (i : ℕ) → get_or places' i false ≡ get_or places i false || has_place s i t

-- of the first n nodes, the places of those that stay are marked
pub record PlacesMarked (s : d.State) (nodes : List Bool) (n : ℕ) (places : List Bool) : Type 0 where
  pub long : length places ≡ 4097
  pub each : (i : ℕ) → get_or places i false ≡ any_of (λ t. has_place s i t) (those_below n (among nodes))
