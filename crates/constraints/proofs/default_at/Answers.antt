-- `constraints::default_at` meets its contract. Assumes nothing.
use mathlib.Core.Path.{ap, ◌∙◌}
use Rattle.definition.specs.Store.{need_of}
use Rattle.definition.specs.Constraints.{default_builtin}
use Rattle.table.specs.Did.{held}
use Rattle.constraints.proofs.default_at.Goals as goal

pub returns : goal.returns
returns g c = λ ds. c.default_builtin.ensures ∙ ap default_builtin (c.need_at.ensures ds ∙ ap (need_of (held (g.S.ReadState.state c.args.st.now) ds)) (c.forward_tvar.ensures.tvar_is ds))
