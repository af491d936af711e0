use mathlib.Core.Path.{refl}
use Rattle.std.proofs.Common.{rules}
use Rattle.table.proofs.Walk.{walk_parts}
use Rattle.instantiate.proofs.JoinLaws.{joins_start, joins_in, joins_err, joins_more, joins_end}
use Rattle.instantiate.proofs.join_args.Goals as goal

pub loop-i-init : goal.loop-i-init
loop-i-init c = joins_start c.requires.0 c.requires.1 c.min-c.ensures (search rules) refl

pub join-requires : goal.join-requires
join-requires c = joins_in c.loop-i.invariant _ refl c.loop-i-test.true

pub returns-in_err-parts : goal.returns-in_err-parts
returns-in_err-parts c = joins_err c.loop-i.invariant c.requires.0 c.requires.1 c.min-c.ensures refl c.loop-i-test.true c.in_err-parts.ensures (search rules)

pub loop-i-preserved : goal.loop-i-preserved
loop-i-preserved c = joins_more c.loop-i.invariant refl c.loop-i-test.true c.in_ok-parts.ensures

pub push_apply-requires : goal.push_apply-requires
push_apply-requires c = walk_parts c.loop-i.invariant.walked c.loop-i-test.false

pub returns : goal.returns
returns c = joins_end c.loop-i.invariant c.requires.0 c.requires.1 c.min-c.ensures c.loop-i-test.false c.push_apply.ensures
