-- `keep::slide::renumber_constraints` meets its contract. Assumes nothing.
use mathlib.Core.Bool.{true}
use Rattle.table.specs.Rows.{row, constraint_table, read_constraint}
use Rattle.keep.specs.Slid.{Slid}
use Rattle.keep.specs.Numbered.{new_constraint}
use Rattle.keep.proofs.slide.renumber_constraints.Given as goal

abbrev pub invariant-loop-i : goal.invariant-loop-i
invariant-loop-i l = Slid constraint_table (λ i. true) (λ i. new_constraint l.new (read_constraint (row constraint_table l.initial.w i))) l.initial.w l.w l.i l.i
