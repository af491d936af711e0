-- `keep::slide::slide_vars` meets its contract. Assumes nothing.
use Rattle.table.specs.Rows.{row, var_table, read_cell}
use Rattle.keep.specs.Slid.{Slid}
use Rattle.keep.specs.Numbered.{among, new_cell}
use Rattle.keep.proofs.slide.slide_vars.Given as goal

abbrev pub invariant-loop-v : goal.invariant-loop-v
invariant-loop-v l = Slid var_table (among l.stays) (λ v. new_cell l.new (read_cell (row var_table l.initial.w v))) l.initial.w l.w l.v l.k
