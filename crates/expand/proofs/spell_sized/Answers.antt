-- `expand::spell_sized` meets its contract. Assumes nothing.
use Rattle.abilities.proofs.Sets.{kept_none}
use Rattle.expand.proofs.Walks.{kept_fit, halves_wrote}
use Rattle.expand.proofs.spell_sized.Goals as goal

pub infer-requires : goal.infer-requires
infer-requires c = (c.requires.in_use.0, (c.requires.ends, kept_none _ _))

pub write-next-requires-clause-kept : goal.write-next-requires-clause-kept
write-next-requires-clause-kept c = (kept_fit c.infer.ensures.kept c.requires.in_use.1.1.0, c.infer.ensures.here)

pub write-requires-clause-kept : goal.write-requires-clause-kept
write-requires-clause-kept c = (kept_fit c.infer.ensures.kept c.requires.in_use.1.1.0, c.infer.ensures.here)

pub returns : goal.returns
returns c = halves_wrote c.args.t _ c.infer.ensures.kept c.infer.ensures.here c.requires.in_use.1.1.1 c.requires.fits c.write-next.ensures c.write.ensures
