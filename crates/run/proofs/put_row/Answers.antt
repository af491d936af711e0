-- `run::put_row` meets its contract. Assumes nothing.
use native.Mathlib.Omega.{arith}
use Rattle.run.proofs.Laws.{found_below, row_set}
use Rattle.run.proofs.put_row.Goals as goal

pub bounds-params-wide : goal.bounds-params-wide
bounds-params-wide c = omega (arith, c.wide.ensures, found_below _ 256 _ c.requires c.in-Some.is)

pub returns-in-Some : goal.returns-in-Some
returns-in-Some c = row_set _ _ _ _ _ c.wide.ensures c.in-Some.is
