-- `keep::slide::slide_places` meets its contract. Assumes nothing.
use lib.ListN.{get_or}
use Rattle.table.specs.Rows.{row, arg_table, read_arg}
use Rattle.keep.specs.Slid.{Slid}
use Rattle.keep.specs.Numbered.{among}
use Rattle.keep.proofs.slide.slide_places.Given as goal

abbrev pub invariant-loop-i : goal.invariant-loop-i
invariant-loop-i l = Slid arg_table (among l.stays) (λ i. get_or l.new.nodes (read_arg (row arg_table l.initial.w i)) 0) l.initial.w l.w l.i l.k
