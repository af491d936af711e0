-- `subst::check_num_tvar` meets its contract. Assumes nothing.
use Rattle.subst.proofs.Laws.{num_marked, num_any}
use mathlib.Core.Path.{sym, ap, ◌∙◌}
use mathlib.Core.Bool.{not}
use Rattle.subst.proofs.check_num_tvar.Goals as goal

pub returns-then-not-is_num_var : goal.returns-then-not-is_num_var
returns-then-not-is_num_var g c = λ ds. ap not c.if-not-is_num_var.true ∙ num_any _ _ _ (sym (c.is_num_var.ensures ds) ∙ c.if-not-is_num_var.true)

pub returns-else-not-is_num_var : goal.returns-else-not-is_num_var
returns-else-not-is_num_var g c = λ ds. c.check_num_type.ensures ds ∙ num_marked _ _ _ _ (c.need_at.ensures ds) (sym (c.is_num_var.ensures ds) ∙ c.if-not-is_num_var.false)
