-- `old_subst::join_bind_tvar` meets its contract. Assumes nothing.
use mathlib.Core.Path.{◌∙◌}
use Rattle.history.proofs.Asked.{used_of, spends_none}
use Rattle.subst.proofs.Laws.{binds_failed, binds_used, binds_anything, binds_stored}
use Rattle.old_subst.proofs.join_bind_tvar.Goals as goal

pub used_tvars-requires : goal.used_tvars-requires
used_tvars-requires c = c.requires.0

pub returns-then-not-check_num_tvar : goal.returns-then-not-check_num_tvar
returns-then-not-check_num_tvar c = (binds_failed _ _ _ _ c.check_num_tvar.ensures c.if-not-check_num_tvar.true, spends_none c.args.past.now _)

pub returns-in-Met : goal.returns-in-Met
returns-in-Met c = (
  binds_used _ _ _ _ c.check_num_tvar.ensures c.if-not-check_num_tvar.false (λ ds. used_of c.args.past.now ds _ _ _ ∙ c.in-Met.ensures.is ds),
  spends_none c.args.past.now _,
)

pub returns-else-not-is_anything : goal.returns-else-not-is_anything
returns-else-not-is_anything c =
    let node_at = c.node_at-n in (
      binds_anything _ _ _ _ c.check_num_tvar.ensures c.if-not-check_num_tvar.false (λ ds. used_of c.args.past.now ds _ _ _ ∙ c.in_default.ensures.is ds) node_at.result node_at.ensures _
          c.is_anything.ensures c.if-not-is_anything.false,
      spends_none c.args.past.now _,
    )

pub returns-then-not-is_anything : goal.returns-then-not-is_anything
returns-then-not-is_anything c =
    let node_at = c.node_at-n in (
      binds_stored _ _ _ _ c.check_num_tvar.ensures c.if-not-check_num_tvar.false (λ ds. used_of c.args.past.now ds _ _ _ ∙ c.in_default.ensures.is ds) node_at.result
          node_at.ensures _ c.is_anything.ensures c.bind_var.ensures.0
          c.if-not-is_anything.true,
      c.bind_var.ensures.1,
    )
