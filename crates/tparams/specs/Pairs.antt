-- Parameter ids and their arguments, which stand in two arrays, as the definition's list of pairs. Assumes nothing: these are definitions.
use Rattle.std.specs.Prelude.{List, [], ◌∷◌, ℕ, zero, suc, get_or}
use Rattle.std.specs.Prelude.{Option, None, Some}
use Rattle.names.specs.declared.TParamID.{TParamID}
use Rattle.table.specs.Out.{Out}
use Rattle.refusals.specs.declared.Refusal.TheVariants.{NoArgument}
use Rattle.table.specs.declared.state.Stop.TheVariants.{Refused}
use Rattle.std.specs.Prelude.{Ok, Err}

abbrev pub id_at : List TParamID → ℕ → ℕ
id_at ids i = (get_or ids i (record { 0 = 0 })).0

-- n pairs, from place i on
unfoldable pub pairs : List TParamID → List ℕ → ℕ → ℕ → List (ℕ × ℕ)
pairs ids args i zero = []
pairs ids args i (suc n) = (id_at ids i, get_or args i 0) ∷ pairs ids args (suc i) n

-- a parameter's argument, or 12
abbrev pub answer : Option ℕ → Out
answer None = Err (Refused NoArgument)
answer (Some t) = Ok t
