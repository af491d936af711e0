-- `solve::solve_all` meets its contract. Assumes nothing.
use mathlib.Core.Path.{sym, ◌∙◌}
use Rattle.solve.proofs.Ready.{none_asked}
use Rattle.solve.proofs.Answers.{none_refused}
use Rattle.solve.proofs.solve_all.Goals as goal

pub report_failures-requires : goal.report_failures-requires
report_failures-requires g c = let p = c.requires in
    let none = sym c.if-any_asks.false ∙ c.any_asks.ensures in
    (p.0, ((p.1.0, (none_asked _ _ _ _ none, p.1.1)), λ ds k. none_refused c.args.st.now (sym none) ds))
