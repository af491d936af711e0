-- `keep::marks::Marks::new` meets its contract. Assumes nothing.
use Rattle.keep.proofs.Marking.{blank}
use Rattle.keep.proofs.marks.Marks.new.Goals as goal

pub returns : goal.returns
returns c = blank
