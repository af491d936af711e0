use mathlib.Core.Path.{refl}
use Rattle.subst.proofs.Laws.{chain_start, chain_end, chain_on, chain_out}
use Rattle.old_subst.proofs.forward_tvar.Goals as goal

pub loop-link-init : goal.loop-link-init
loop-link-init c = chain_start _ _

-- what the laws say of the links is of no use here
pub returns-in_default : goal.returns-in_default
returns-in_default c = (chain_end c.loop-link.invariant _ c.next_of.ensures c.in_default.is (record { tvar = c.loop-link.cur; links = c.loop-link._link }) refl refl).tvar_is

pub loop-link-preserved : goal.loop-link-preserved
loop-link-preserved c = chain_on c.loop-link.invariant _ c.next_of.ensures c.loop-link-test.true _ c.in-Some.is

pub returns : goal.returns
returns c = (chain_out c.loop-link.invariant c.loop-link-test.false (record { tvar = c.loop-link.cur; links = c.loop-link._link }) refl refl).tvar_is
