use native.Mathlib.Omega.{arith}
use Rattle.ends.proofs.Itself.{read_more, levels_none, levels_out, levels_over, levels_here, ends_here, measured_more}
use Rattle.ends.proofs.chains.Chains.+levels.Goals as goal

pub returns-in_err-below : goal.returns-in_err-below
returns-in_err-below g t c = (rw c.from_residual.ensures (levels_none _ _ _ (omega (arith, c.in_err-below.ensures))), c.requires.1.1)

pub returns-in_err-n : goal.returns-in_err-n
returns-in_err-n g t c =
    let levels = c.levels.ensures in
    let part = rw c.in_ok-below.ensures.1 at levels.0 in (
      rw c.from_residual-in_err-n.ensures (levels_out c.loop-i.invariant _ c.loop-i-test.true c.part_at-p.ensures _ part c.in_err-n.was),
      levels.1,
    )

pub loop-i-preserved : goal.loop-i-preserved
loop-i-preserved g t c =
    let levels = c.levels.ensures in
    let part = rw c.in_ok-below.ensures.1 at levels.0 in
    read_more c.loop-i.invariant _ c.loop-i-test.true c.part_at-p.ensures _ part _ c.in_ok-n.was _
    c.max-high.ensures _ levels.1

pub returns-then-used-high : goal.returns-then-used-high
returns-then-used-high g t c = (levels_over c.loop-i.invariant c.loop-i-test.false (rw c.used.ensures at c.if-used-high.true), c.loop-i.invariant.measured)

pub returns : goal.returns
returns g t c = let h = c.loop-i.invariant in (
  levels_here h c.loop-i-test.false (rw c.used.ensures at c.if-used-high.false),
  measured_more _ _ _ _ h.measured (omega (arith, c.requires.0, (g.S.ReadState.state c.args.self.now.st.now).lay.nodes)) (ends_here h c.loop-i-test.false (rw c.used.ensures at c.if-used-high.false)),
)
