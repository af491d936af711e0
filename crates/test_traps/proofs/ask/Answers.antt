-- `test_traps::ask` is safe and ends: what the walks ask follows from the test for a sound state. Assumes nothing.
use mathlib.Core.Path.{sym, ◌∙◌}
use native.Mathlib.Omega.{arith}
use Rattle.sound.proofs.Tested.{lent_says, lent_sized}
use Rattle.sound.proofs.Lays.{lent_lay}
use Rattle.test_traps.proofs.ask.Goals as goal

pub used_of-u-requires : goal.used_of-u-requires
used_of-u-requires c = (lent_sized _ _ (lent_says _ _ (sym c.sound_state.ensures ∙ c.if-not-sound_state.false))).size

pub new-st-requires : goal.new-st-requires
new-st-requires c = rw c.used_of-u.ensures (lent_lay _ _ (lent_says _ _ (sym c.sound_state.ensures ∙ c.if-not-sound_state.false)))

pub walks-requires : goal.walks-requires
walks-requires c = rw c.new-st.ensures.1 (omega (arith, c.in_ok-last.ensures.0, c.in_ok-last.ensures.1))
