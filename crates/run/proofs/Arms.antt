-- What is run whatever the declarations are is so for those in K. Assumes nothing.
use mathlib.Core.Bool.{Bool}
use mathlib.Core.List.{List}
use Prim.Native.Nat.{ℕ}
use Rattle.definition.specs.Types as d
use Rattle.definition.specs.Types.{Struct, Result}
use Rattle.definition.specs.Write.{Bytes}
use Rattle.table.specs.State.{Any}
use Rattle.table.specs.declared.state.State.{State}
use Rattle.table.proofs.Steps.{refines_among}
use Rattle.answer.specs.declared.Ran.{Ran}
use Rattle.run.specs.Runs.{Runs}

pub narrow : {s t : State} {r : Ran} {K : List Struct → Type 0} {kept : Bool} {step : d.State → Result (d.State × ℕ)} {run : d.State → d.State → Result (d.State × Bytes)} {tail : d.State → Bytes} → Runs Any s t r kept step run tail → Runs K s t r kept step run tail
narrow c = record { left = record { same = c.left.same; step = refines_among (λ ds k. tt) c.left.step }; tells = c.tells; kept_is = c.kept_is; is = λ ds k before. c.is ds tt before; tail_is = c.tail_is }
