-- `table::one_row::put_place` meets its contract. Assumes nothing.
use mathlib.Core.Path.{refl}
use Rattle.table.specs.Rows.{arg_words, read_arg}
use Rattle.table.proofs.one_row.put_place.Goals as goal

pub returns : goal.returns
unfolding arg_words read_arg
returns c = record { words = _; wrote = c.put_row.ensures; written = record { is = refl; again = refl } }
