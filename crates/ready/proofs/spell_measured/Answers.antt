-- `ready::spell_measured` meets its contract. Assumes nothing.
use native.Mathlib.Omega.{arith}
use Rattle.canonical.specs.Named.{spelling_of}
use Rattle.ready.proofs.Told.{spells_no_node, spells_no_place, long_is, spells_long, spells_bytes}
use Rattle.ready.proofs.spell_measured.Goals as goal

pub returns-then-used-m : goal.returns-then-used-m
returns-then-used-m c = spells_no_node (spelling_of c.args.spelling) c.args.chains.now.st.now c.args.t c.requires.measured c.if-used-m.true

pub returns-then-used-m-2 : goal.returns-then-used-m-2
returns-then-used-m-2 c = spells_no_place (spelling_of c.args.spelling) c.args.chains.now.st.now c.args.t c.requires.measured c.if-used-m-2.true

pub returns-then-m-gt-MAX_PAYLOAD : goal.returns-then-m-gt-MAX_PAYLOAD
returns-then-m-gt-MAX_PAYLOAD c = spells_long (spelling_of c.args.spelling) c.args.chains.now.st.now c.args.t c.requires.measured c.if-used-m.false c.if-used-m-2.false c.if-m-gt-MAX_PAYLOAD.true

pub write_by-requires-clause-fits : goal.write_by-requires-clause-fits
write_by-requires-clause-fits c ds = omega (arith, (c.requires.measured ds).1.bytes, c.if-m-gt-MAX_PAYLOAD.false, c.requires.in_use.1.1)

pub returns : goal.returns
returns c = spells_bytes (spelling_of c.args.spelling) c.args.chains.now.st.now c.args.t c.requires.measured c.if-used-m.false c.if-used-m-2.false c.if-m-gt-MAX_PAYLOAD.false c.write_by.ensures
