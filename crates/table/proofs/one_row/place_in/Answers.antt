-- `table::one_row::place_in` meets its contract. Assumes nothing.
use mathlib.Core.Path.{sym, ap}
use Rattle.table.specs.Rows.{read_arg}
use Rattle.table.proofs.Fields.{arg_row}
use Rattle.table.proofs.one_row.place_in.Goals as goal

pub returns : goal.returns
unfolding read_arg
returns c = rw c.wide.ensures (sym (ap read_arg (arg_row c.args.w.now c.args.i)))
