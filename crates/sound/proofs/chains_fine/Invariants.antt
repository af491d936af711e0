-- `sound::chains_fine` meets its contract. Assumes nothing.
use Rattle.sound.specs.Chains.{chain_fine, Noted}
use Rattle.sound_fields.proofs.Below.{Passed}
use Rattle.sound.proofs.chains_fine.Given as goal

abbrev pub invariant-loop-i : goal.invariant-loop-i
invariant-loop-i l = Passed l.lent.used.vars (chain_fine l.lent.words.now l.lent.used) l.i × Noted l.lent.words.now l.lent.used l.lengths
