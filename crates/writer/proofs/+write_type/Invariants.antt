-- `writer::write_type` meets its contract. Assumes nothing.
-- By the node's number, which falls from a type to its parts. Invariant `Goes_on`: if the head stands in the buffer, so do the parts before i after it.
use Rattle.writer.proofs.Turns.{Goes_on}
use Rattle.definition.specs.Write.{write}
use Rattle.writer.proofs.+write_type.Given as goal

abbrev pub decreases-write_type : goal.decreases-write_type
decreases-write_type l = l.t

abbrev pub invariant-loop-i : goal.invariant-loop-i
invariant-loop-i l = Goes_on write l.st.words.now l.st.used l.t l.n l.at l.initial.buf l.initial.next l.buf l.next l.i
