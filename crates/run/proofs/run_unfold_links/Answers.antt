-- `run::run_unfold_links` meets its contract. Assumes nothing.
use mathlib.Core.Path.{ap}
use Rattle.std.specs.Prelude.{Some}
use Rattle.definition.specs.Write.{u32}
use Rattle.run.specs.Runs.{unfold_tail}
use Rattle.run.specs.Dispatch.{run_of, step_of, tail_of}
use Rattle.run.proofs.Laws.{ran_unfolded, ran_anything}
use Rattle.run.proofs.run_unfold_links.Goals as goal

pub returns-in-Node : goal.returns-in-Node
unfolding run_of step_of tail_of unfold_tail
returns-in-Node c = ran_unfolded (Some c.unfold_links-links.result) (unfold_tail c.args.t) (λ ds. ap u32 (c.unfold_links-links.ensures ds)) _ _ _ c.unfold_type.ensures c.in-Node.is c.counted.ensures

pub returns-in-Anything : goal.returns-in-Anything
unfolding run_of step_of tail_of unfold_tail
returns-in-Anything c = ran_anything (Some c.unfold_links-links.result) (unfold_tail c.args.t) (λ ds. ap u32 (c.unfold_links-links.ensures ds)) _ _ _ c.unfold_type.ensures c.in-Anything.is c.counted-in-Anything.ensures
