use mathlib.Core.Path.{refl}
use Rattle.std.proofs.Common.{rules}
use Rattle.instantiate.proofs.MadeLaws.{made_start, made_err, made_more, made_end}
use Rattle.instantiate.proofs.make_tparams.Goals as goal

pub loop-i-init : goal.loop-i-init
loop-i-init c = made_start c.requires c.tparam_count.ensures c.min-many.ensures refl

pub returns-in_err-tvars : goal.returns-in_err-tvars
returns-in_err-tvars c = made_err c.loop-i.invariant c.loop-i-test.true c.arg_at-t.ensures c.ability_at-abilities.ensures c.in_err-tvars.ensures (search rules)

pub loop-i-preserved : goal.loop-i-preserved
loop-i-preserved c = made_more c.loop-i.invariant c.loop-i-test.true c.arg_at-t.ensures c.ability_at-abilities.ensures c.in_ok-tvars.ensures refl

pub returns : goal.returns
returns c = made_end c.loop-i.invariant c.loop-i-test.false
