-- What the record around the slow engine gives, outright, whatever it is lent. Assumes nothing: these are definitions.
use Rattle.std.specs.Prelude.{◌&&◌, ◌||◌, Bool, true, false, List, [], ℕ, eqb, leb, get_or}
use Rattle.definition.specs.Write.{Bytes}
use Rattle.sound.specs.Lent.{lent_sound}
use Rattle.engine.specs.Public.{LentAnswer, lent_step}

abbrev pub begins : Bytes → ℕ → ℕ → Bool
begins bytes a b = eqb (get_or bytes 0 0) a && eqb (get_or bytes 1 0) b

-- the mark is JN, SU, UF or RD
unfoldable pub is_checked : Bytes → Bool
is_checked bytes = begins bytes 74 78 || begins bytes 83 85 || begins bytes 85 70 || begins bytes 82 68

-- nothing is changed
unfoldable pub lent_refused : List ℕ → List (List ℕ) → ℕ → LentAnswer
lent_refused w params number = record { number = number; payload = []; words = w; params = params }

-- of the four marks the main engine's answer; any other is 5, after 15
unfoldable pub check_step : List ℕ → List (List ℕ) → Bytes → ℕ → LentAnswer
check_step w params bytes room = elim (is_checked bytes) [
  | true ↦ lent_step w params bytes room
  | false ↦ elim (leb 4096 room && lent_sound w params) [
    | true ↦ lent_refused w params 5
    | false ↦ lent_refused w params 15
  ]
]
