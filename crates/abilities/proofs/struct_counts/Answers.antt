-- `abilities::struct_counts` meets its contract. Assumes nothing.
use mathlib.Core.Path.{◌∙◌}
use native.Mathlib.Omega.{arith}
use borrow.Author.Tests.{le-ltb}
use Rattle.abilities.proofs.Laws.{counts_past, counts_byte}
use Rattle.abilities.proofs.struct_counts.Goals as goal

pub returns-else-i-struct_at : goal.returns-else-i-struct_at
returns-else-i-struct_at g c = λ ds k. le-ltb _ _ c.if-i-struct_at.false ∙ counts_past (g.S.ReadState.state c.args.st.now) _ ds k _ _ (let e = (c.struct_at.ensures ds k.rows).1 in omega (arith, c.if-i-struct_at.false))

pub returns-else-at-ge256 : goal.returns-else-at-ge256
returns-else-at-ge256 g c = λ ds k. rw (c.wide-at.ensures, c.wide.ensures) (counts_byte (g.S.ReadState.state c.args.st.now) _ ds k _ _ (let e = (c.struct_at.ensures ds k.rows).1 in omega (arith, c.if-i-struct_at.true)))
