use Rattle.subst.proofs.Laws.{chain_start, chain_end, chain_on, chain_out}
use mathlib.Core.Path.{refl}
use Rattle.subst.proofs.forward_tvar.Goals as goal

pub loop-link-init : goal.loop-link-init
loop-link-init g c = chain_start _ _

pub returns-in_default : goal.returns-in_default
returns-in_default g c = chain_end c.loop-link.invariant _ c.next_of.ensures c.in_default.is _ refl refl

pub loop-link-preserved : goal.loop-link-preserved
loop-link-preserved g c = chain_on c.loop-link.invariant _ c.next_of.ensures (rw c.used-link-end.ensures at c.loop-link-test.true) _ c.in-Some.is

pub returns : goal.returns
returns g c = chain_out c.loop-link.invariant (rw c.used-link-end.ensures at c.loop-link-test.false) _ refl refl
