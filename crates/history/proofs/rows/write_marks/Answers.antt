use Rattle.history.proofs.Back.{no_mark_yet, mark_on, marks_out}
use Rattle.history.proofs.rows.write_marks.Goals as goal

pub loop-i-init : goal.loop-i-init
loop-i-init c = no_mark_yet _ _

pub loop-i-preserved : goal.loop-i-preserved
loop-i-preserved c = mark_on c.loop-i.invariant c.requires.1 c.loop-i-test.true c.write_mark.ensures

pub returns : goal.returns
returns c = marks_out c.loop-i.invariant c.loop-i-test.false c.loop-i.auto.i-end
