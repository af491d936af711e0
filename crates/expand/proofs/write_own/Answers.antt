-- `expand::write_own` meets its contract. Assumes nothing.
use native.Mathlib.Omega.{arith}
use Rattle.definition.specs.Expand.{uninferred}
use Rattle.definition.specs.Write.{u32}
use Rattle.expand.specs.Told.{own}
use Rattle.expand.proofs.Walks.{codes_none, codes_var, wrote_none}
use Rattle.expand.proofs.write_own.Goals as goal

pub write_head-requires : goal.write_head-requires
unfolding own
write_head-requires c = let p = rw c.in-Types.is at c.requires in (rw c.finally.ensures.0 p.0, rw c.finally.ensures.1 p.1)

pub put_tag-requires : goal.put_tag-requires
unfolding uninferred u32
put_tag-requires c = let p = rw (c.in-Codes.is, codes_var _ _ c.as_var.ensures _ c.in-Some.is c.args.set.0 c.args.loc) at c.requires.1 in omega (arith, p)

pub returns-in-Types : goal.returns-in-Types
unfolding own
returns-in-Types c = rw (c.in-Types.is, ← c.finally.ensures.1) c.write_head.ensures

pub returns-in-None : goal.returns-in-None
returns-in-None c = let p = rw c.in-Codes.is at c.requires.1 in
    rw c.in-Codes.is (wrote_none (codes_none _ _ c.as_var.ensures c.in-None.is c.args.set.0 c.args.loc) p)

pub returns-in-Some : goal.returns-in-Some
unfolding uninferred
returns-in-Some c = rw (c.in-Codes.is, codes_var _ _ c.as_var.ensures _ c.in-Some.is c.args.set.0 c.args.loc) c.put_tag.ensures
