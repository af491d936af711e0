-- `ready::spell_far` meets its contract. Assumes nothing.
use native.Mathlib.Omega.{arith}
use Rattle.ends.proofs.Ends.{noted_none}
use Rattle.canonical.specs.Named.{spelling_of}
use Rattle.ready.proofs.Told.{spells_itself, spells_many}
use Rattle.ready.proofs.spell_far.Goals as goal

pub note_ends-requires : goal.note_ends-requires
note_ends-requires c = noted_none

pub returns-then-never_over : goal.returns-then-never_over
returns-then-never_over c = spells_itself (spelling_of c.args.spelling) c.args.st.now c.args.t _ c.never_over.ensures c.if-never_over.true _

pub returns-in-None : goal.returns-in-None
returns-in-None c = spells_many (spelling_of c.args.spelling) c.args.st.now c.args.t _ c.never_over.ensures c.if-never_over.false (omega arith) c.measure.ensures c.in-None.is _
