-- `keep::survivors::write_survivors` meets its contract. Assumes nothing.
use native.Mathlib.Omega.{arith}
use Rattle.keep.specs.Numbered.{among}
use Rattle.keep.proofs.Numbering.{pairs_none, pair_fits, pairs_more, pairs_not}
use Rattle.keep.proofs.survivors.write_survivors.Goals as goal

pub loop-v-init : goal.loop-v-init
loop-v-init c = pairs_none c.args.numbers.now (among c.args.vars.now)

pub loop-v-preserved-then-not-vars-wide : goal.loop-v-preserved-then-not-vars-wide
loop-v-preserved-then-not-vars-wide c = pairs_not c.args.numbers.now (among c.args.vars.now) c.loop-v.invariant (omega (arith, c.loop-v-test.true, c.requires.0)) c.requires.1.1 (rw c.wide.ensures at c.if-not-vars-wide.true)

pub write_pair-next-requires : goal.write_pair-next-requires
write_pair-next-requires c = pair_fits c.args.numbers.now (among c.args.vars.now) c.loop-v.invariant (omega (arith, c.loop-v-test.true, c.requires.0)) c.requires.1.1

pub loop-v-preserved : goal.loop-v-preserved
loop-v-preserved c = pairs_more c.args.numbers.now (among c.args.vars.now) c.loop-v.invariant (omega (arith, c.loop-v-test.true, c.requires.0)) c.requires.1.1 (rw c.wide.ensures at c.if-not-vars-wide.false) (rw c.number_of.ensures at c.write_pair-next.ensures)
