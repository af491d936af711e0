use Rattle.history.proofs.Back.{no_binding_yet, binding_on, bindings_out}
use Rattle.history.proofs.rows.write_bindings.Goals as goal

pub loop-i-init : goal.loop-i-init
loop-i-init c = no_binding_yet _ _

pub loop-i-preserved : goal.loop-i-preserved
loop-i-preserved c = binding_on c.loop-i.invariant c.requires.1 c.loop-i-test.true c.write_binding.ensures

pub returns : goal.returns
returns c = bindings_out c.loop-i.invariant c.loop-i-test.false c.loop-i.auto.i-end
