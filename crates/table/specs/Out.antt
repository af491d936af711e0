-- What a step answers, and that beside the counts after it. Assumes nothing: these are definitions.
use Rattle.std.specs.Prelude.{ℕ, Result}
use Rattle.table.specs.declared.state.Stop.{Stop}
use Rattle.table.specs.declared.Used.{Used}

-- a number, or why there is none
abbrev pub Out : Type 0
Out = Result ℕ Stop

pub record Outcome : Type 0 where
  pub out : Out
  pub used : Used
