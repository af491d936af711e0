-- `failing::write_failing` meets its contract. Assumes nothing.
use mathlib.Core.List.{[]}
use Rattle.definition.specs.Write.{u32}
use Rattle.table.specs.Did.{held}
use Rattle.writer.proofs.Put.{first_fits, rest_fits, both_wrote}
use Rattle.failing.proofs.Report.{node_is, anything_is}
use Rattle.failing.proofs.write_failing.Goals as goal

pub put_code-next-requires : goal.put_code-next-requires
unfolding u32
put_code-next-requires c = first_fits _ _ _ (node_is (held c.args.st.now []) c.args.f _ _ _ c.in-Node.is) _ _ (c.requires.fits [])

pub write_type-requires-clause-fits : goal.write_type-requires-clause-fits
write_type-requires-clause-fits c = λ ds. rest_fits _ _ _ (node_is (held c.args.st.now ds) c.args.f _ _ _ c.in-Node.is) _ _ (c.requires.fits ds) _ _ c.put_code-next.ensures

pub put_code-next-requires-in-Anything : goal.put_code-next-requires-in-Anything
unfolding u32
put_code-next-requires-in-Anything c = first_fits _ _ _ (anything_is (held c.args.st.now []) c.args.f _ _ _ c.in-Anything.is) _ _ (c.requires.fits [])

pub write_head-requires : goal.write_head-requires
write_head-requires c = (tt, rest_fits _ _ _ (anything_is (held c.args.st.now []) c.args.f _ _ _ c.in-Anything.is) _ _ (c.requires.fits []) _ _ c.put_code-next-in-Anything.ensures)

pub returns-in-Node : goal.returns-in-Node
returns-in-Node c = λ ds. both_wrote _ _ _ (node_is (held c.args.st.now ds) c.args.f _ _ _ c.in-Node.is) _ _ (c.requires.fits ds) _ _ c.put_code-next.ensures _ _ (c.write_type.ensures ds)

pub returns-in-Anything : goal.returns-in-Anything
returns-in-Anything c = λ ds. both_wrote _ _ _ (anything_is (held c.args.st.now ds) c.args.f _ _ _ c.in-Anything.is) _ _ (c.requires.fits ds) _ _ c.put_code-next-in-Anything.ensures _ _ c.write_head.ensures
