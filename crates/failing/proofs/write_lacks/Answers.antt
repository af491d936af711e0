-- `failing::write_lacks` meets its contract. Assumes nothing.
use mathlib.Core.List.{[]}
use Rattle.definition.specs.Write.{u32}
use Rattle.table.specs.Did.{held}
use Rattle.failing.specs.Failing.{why}
use Rattle.writer.proofs.Put.{first_fits, rest_fits, both_wrote}
use Rattle.writer.proofs.Heads.{one_more}
use Rattle.failing.proofs.Report.{type_is, type_and, lacks_is}
use Rattle.failing.proofs.write_lacks.Goals as goal

pub put_tag-head-requires : goal.put_tag-head-requires
unfolding u32
put_tag-head-requires c = let args = c.args in
    first_fits _ _ _ (lacks_is (held args.st.now []) args.loc args.ability args.t (why args.place)) _ _ (c.requires.fits [])

pub put_bytes-next-requires : goal.put_bytes-next-requires
put_bytes-next-requires c = let args = c.args in
    let s = held args.st.now [] in
    let y = why args.place in
    let after = rest_fits _ _ _ (lacks_is s args.loc args.ability args.t y) _ _ (c.requires.fits []) _ _ c.put_tag-head.ensures in
    first_fits _ _ _ (one_more args.ability (type_and s args.t y)) _ _ after

pub write_type-end-requires-clause-fits : goal.write_type-end-requires-clause-fits
write_type-end-requires-clause-fits c = let args = c.args in
    let y = why args.place in
    λ ds.
    let s = held args.st.now ds in
    let after = rest_fits _ _ _ (lacks_is s args.loc args.ability args.t y) _ _ (c.requires.fits ds) _ _ c.put_tag-head.ensures in
    first_fits _ _ _ (type_is s args.t y) _ _ (rest_fits _ _ _ (one_more args.ability (type_and s args.t y)) _ _ after _ _ c.put_bytes-next.ensures)

pub put_why-requires : goal.put_why-requires
put_why-requires c = let args = c.args in
    let s = held args.st.now [] in
    let y = why args.place in
    let after = rest_fits _ _ _ (lacks_is s args.loc args.ability args.t y) _ _ (c.requires.fits []) _ _ c.put_tag-head.ensures in
    let last = rest_fits _ _ _ (one_more args.ability (type_and s args.t y)) _ _ after _ _ c.put_bytes-next.ensures in
    (c.requires.inside.1.0, rest_fits _ _ _ (type_is s args.t y) _ _ last _ _ (c.write_type-end.ensures []))

pub returns : goal.returns
returns c = let args = c.args in
    let y = why args.place in
    λ ds.
    let s = held args.st.now ds in
    let head = lacks_is s args.loc args.ability args.t y in
    let more = one_more args.ability (type_and s args.t y) in
    let after = rest_fits _ _ _ head _ _ (c.requires.fits ds) _ _ c.put_tag-head.ensures in
    let last = rest_fits _ _ _ more _ _ after _ _ c.put_bytes-next.ensures in
    both_wrote _ _ _ head _ _ (c.requires.fits ds) _ _ c.put_tag-head.ensures _ _
    (both_wrote _ _ _ more _ _ after _ _ c.put_bytes-next.ensures _ _
    (both_wrote _ _ _ (type_is s args.t y) _ _ last _ _ (c.write_type-end.ensures ds) _ _ c.put_why.ensures))
