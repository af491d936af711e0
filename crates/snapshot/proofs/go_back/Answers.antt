-- `snapshot::go_back` meets its contract. Assumes nothing.
use Rattle.snapshot.proofs.Growing.{grown_above}
use Rattle.snapshot.proofs.go_back.Goals as goal

pub undo-requires : goal.undo-requires
undo-requires g c = let b = c.since-before.ensures in (c.args.st.now.lay, rw b.0 (grown_above _ _ _ _ c.requires.since.grown))
