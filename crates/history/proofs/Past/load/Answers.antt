use mathlib.Core.Path.{refl}
use Rattle.history.proofs.Loading.{none_loaded, no_mark_loaded, load_holds, load_loads}
use Rattle.history.proofs.Past.load.Goals as goal

pub loop-i-init : goal.loop-i-init
loop-i-init c = (none_loaded _ _ refl, no_mark_loaded _ _ refl)

pub load_binding-bound-requires : goal.load_binding-bound-requires
load_binding-bound-requires c = (rw c.new-st.ensures.1.0 c.loop-i-test.true, c.loop-i.invariant.0)

pub load_mark-requires : goal.load_mark-requires
load_mark-requires c = (rw c.new-st.ensures.1.0 c.loop-i-test.true, c.loop-i.invariant.1)

pub loop-i-preserved : goal.loop-i-preserved
loop-i-preserved c = (c.load_binding-bound.ensures, c.load_mark.ensures)

pub invariant_of-result : goal.invariant_of-result
invariant_of-result c =
    let e = c.new-st.ensures in
    record { holds = load_holds c.new-st.result _ _ _ c.loop-i.i _ _ _ e.0 e.1.0 c.loop-i.invariant c.loop-i-test.false c.loop-i.auto.i-end c.wide.ensures }

pub returns : goal.returns
returns c =
    let e = c.new-st.ensures in
    (load_loads c.new-st.result _ _ _ c.loop-i.i _ _ _ e.0 e.1.0 c.loop-i.invariant c.loop-i-test.false c.loop-i.auto.i-end c.wide.ensures _, e.1.1.0)
