-- `subst::check_num_type` meets its contract. Assumes nothing.
use Rattle.shapes.specs.Parts.{next}
use Rattle.definition.specs.Join.{num_shape}
use Rattle.subst.proofs.Laws.{var_of, num_plain, num_open, num_bound}
use mathlib.Core.Path.{sym, ap, ◌∙◌}
use Rattle.table.proofs.Grown.{value_is}
use Rattle.subst.proofs.check_num_type.Goals as goal

pub returns-in-None : goal.returns-in-None
returns-in-None g c = let node_at = c.node_at-n in
    let as_var = c.as_var in
    λ ds. c.num_shape.ensures _ ∙ ap (num_shape c.args.need) (value_is _ _ node_at.result (node_at.ensures ds)) ∙ num_plain _ _ _
    (var_of _ _ node_at.result as_var.result (node_at.ensures ds) as_var.ensures ∙ ap next
    c.in-None.is)

pub returns-in-None-bound_at : goal.returns-in-None-bound_at
returns-in-None-bound_at g c = let node_at = c.node_at-n in
    let as_var = c.as_var in
    λ ds. c.is_num_var.ensures ds ∙ num_open _ _ _ _
    (var_of _ _ node_at.result as_var.result (node_at.ensures ds) as_var.ensures ∙ ap next c.in-Some.is)
    _ (c.forward_tvar.ensures.tvar_is ds)
    (sym (c.bound_at.ensures ds) ∙ c.in-None-bound_at.is)

pub returns-in-Some-bound_at : goal.returns-in-Some-bound_at
returns-in-Some-bound_at g c = let node_at = c.node_at-n in
    let as_var = c.as_var in
    let forward_tvar = c.forward_tvar in
    λ ds. c.num_node.ensures ds ∙ num_bound _ _ _ _
    (var_of _ _ node_at.result as_var.result (node_at.ensures ds) as_var.ensures ∙ ap next c.in-Some.is)
    _ _ (forward_tvar.ensures.tvar_is ds)
    (sym (c.bound_at.ensures ds) ∙ c.in-Some-bound_at.is)
