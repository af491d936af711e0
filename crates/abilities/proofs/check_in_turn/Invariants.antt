-- `abilities::check_in_turn` meets its contract. Assumes nothing.
-- Invariant `Passed`: none of the constraints before i is refused. One that is gives its number (`passed_stop`), else it is one more (`passed_more`).
use Rattle.abilities.proofs.Checked.{Passed}
use Rattle.abilities.proofs.check_in_turn.Given as goal

abbrev pub invariant-loop-i : goal.invariant-loop-i
invariant-loop-i g l = Passed (g.S.ReadState.state l.chains.st.now) l.params l.initial.sets l.heights l.sets l.i
