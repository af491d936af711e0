-- `failing::size_failing` meets its contract. Assumes nothing.
use mathlib.Core.Path.{refl}
use native.Mathlib.Omega.{arith}
use Rattle.std.specs.Prelude.{Some, None}
use Rattle.table.specs.Did.{held}
use Rattle.failing.proofs.Sizes.{size_node, size_anything, size_lacks}
use Rattle.failing.proofs.size_failing.Goals as goal

pub returns-then-room-lt10 : goal.returns-then-room-lt10
returns-then-room-lt10 c = λ ds. size_anything (held c.args.st.now ds) _ c.args.room None _ _ _ c.in-Anything.is c.if-room-lt10.true

pub returns-in-Node : goal.returns-in-Node
returns-in-Node c = λ ds. size_node (held c.args.st.now ds) _ c.args.room c.size_around.result _ _ _ c.in-Node.is (c.size_around.ensures ds)

pub returns-else-room-lt10 : goal.returns-else-room-lt10
returns-else-room-lt10 c = λ ds. size_anything (held c.args.st.now ds) _ c.args.room (Some 10) _ _ _ c.in-Anything.is (refl, omega (arith, c.if-room-lt10.false))

pub returns-in-Lacks : goal.returns-in-Lacks
returns-in-Lacks c = λ ds. size_lacks (held c.args.st.now ds) _ c.args.room c.size_around-in-Lacks.result _ _ _ _ _ c.in-Lacks.is c.why_size.ensures.0 (c.size_around-in-Lacks.ensures ds)
