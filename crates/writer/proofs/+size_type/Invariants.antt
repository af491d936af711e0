-- `writer::size_type` meets its contract. Assumes nothing.
-- By the node's number, which falls from a type to its parts. Invariant `Sizing`: of the room is left what the head and the parts before i leave.
use Rattle.writer.proofs.Turns.{Sizing}
use Rattle.writer.proofs.+size_type.Given as goal

abbrev pub decreases-size_type : goal.decreases-size_type
decreases-size_type l = l.t

abbrev pub invariant-loop-i : goal.invariant-loop-i
invariant-loop-i l = Sizing l.st.words.now l.st.used l.t l.room l.i-end l.left l.i
