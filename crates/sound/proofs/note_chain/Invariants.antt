-- `sound::note_chain` meets its contract. Assumes nothing.
-- Invariant: what is noted is right (`Noted`), and from the current variable the chain has as many bindings more as turns are left (`Links`). A turn notes one length and goes one binding on.
use Prim.Native.Nat.{◌-◌}
use Rattle.sound.specs.Chains.{Links, Noted}
use Rattle.sound.proofs.note_chain.Given as goal

abbrev pub invariant-loop-done : goal.invariant-loop-done
invariant-loop-done l = Noted l.lent.words.now l.lent.used l.lengths × Links l.lent.words.now l.lent.used l.cur.0 (l.n - l.done)
