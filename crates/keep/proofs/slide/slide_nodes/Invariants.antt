-- `keep::slide::slide_nodes` meets its contract. Assumes nothing.
use Rattle.table.specs.Rows.{row, node_table, read_node}
use Rattle.keep.specs.Slid.{Slid}
use Rattle.keep.specs.Numbered.{among, new_node}
use Rattle.keep.proofs.slide.slide_nodes.Given as goal

abbrev pub invariant-loop-t : goal.invariant-loop-t
invariant-loop-t l = Slid node_table (among l.stays) (λ t. new_node l.new (read_node (row node_table l.initial.w t))) l.initial.w l.w l.t l.k
