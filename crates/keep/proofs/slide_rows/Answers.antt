-- `keep::slide_rows` meets its contract. Assumes nothing.
use mathlib.Core.Path.{refl}
use Rattle.keep.proofs.Leaving.{slides_args, slides_vars, slides_constraints, left_lay, left_view}
use Rattle.keep.proofs.Keeping.{clears}
use Rattle.keep.proofs.slide_rows.Goals as goal

pub slide_places-args-requires : goal.slide_places-args-requires
slide_places-args-requires g c = (slides_args c.requires c.slide_nodes-nodes.ensures, c.requires.placed.long)

pub slide_vars-vars-requires : goal.slide_vars-vars-requires
slide_vars-vars-requires g c = (slides_vars c.requires c.slide_nodes-nodes.ensures c.slide_places-args.ensures, c.requires.stays.long_vars)

pub renumber_constraints-requires : goal.renumber_constraints-requires
renumber_constraints-requires g c = slides_constraints c.requires c.slide_nodes-nodes.ensures c.slide_places-args.ensures c.slide_vars-vars.ensures

pub invariant_of-st : goal.invariant_of-st
invariant_of-st g c = record { lay = left_lay c.requires c.slide_nodes-nodes.ensures c.slide_places-args.ensures c.slide_vars-vars.ensures c.renumber_constraints.ensures }

pub returns : goal.returns
returns g c = clears g.listed refl refl refl (left_view c.requires c.slide_nodes-nodes.ensures c.slide_places-args.ensures c.slide_vars-vars.ensures c.renumber_constraints.ensures)
