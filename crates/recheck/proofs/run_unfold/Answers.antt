-- `recheck::run_unfold` meets its contract. Assumes nothing.
use mathlib.Core.Path.{refl}
use Rattle.std.specs.Prelude.{None}
use Rattle.run.specs.Dispatch.{run_of, step_of, tail_of}
use Rattle.run.specs.Runs.{no_tail}
use Rattle.run.proofs.Laws.{ran_unfolded, ran_anything}
use Rattle.recheck.proofs.Running.{unfolds_loaded}
use Rattle.recheck.proofs.run_unfold.Goals as goal

pub unfold_type-requires : goal.unfold_type-requires
unfold_type-requires c = rw c.start-past.ensures.used c.requires

pub returns-in-Node : goal.returns-in-Node
unfolding run_of step_of tail_of
returns-in-Node c = ran_unfolded None no_tail (λ ds. refl) _ _ _ (unfolds_loaded _ c.start-past.ensures c.unfold_type.ensures) c.in-Node.is c.shown.ensures

pub returns-in-Anything : goal.returns-in-Anything
unfolding run_of step_of tail_of
returns-in-Anything c = ran_anything None no_tail (λ ds. refl) _ _ _ (unfolds_loaded _ c.start-past.ensures c.unfold_type.ensures) c.in-Anything.is c.shown-in-Anything.ensures
