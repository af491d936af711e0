-- `abilities::any_asks` meets its contract. Assumes nothing.
use Rattle.std.proofs.Common.{◌∙◌, refl, rules, tests, arith}
use Rattle.std.proofs.lemmas.Iterator.{YieldsList-from_range}
use Rattle.std.proofs.lemmas.Iterator.Search.{any_from_yields_List}
use mathlib.Core.Path.{ap}
use Rattle.table.specs.Did.{tables}
use Rattle.table.specs.declared.Used.{Used}
use Rattle.abilities.proofs.Asking.{asks_at, asked_at, asks_all}
use Rattle.abilities.proofs.any_asks.Goals as goal

pub returns : goal.returns
returns g c =
    let st = (g.S.ReadState.state c.args.st.now) in
    let many = ap (λ (u : Used). u.constraints) c.used.ensures in
    any_from_yields_List (asks_at (tables st).constraints) _ _ _ c.any.ensures.ran (YieldsList-from_range 0 _ _ refl (omega (arith, many))) (λ x b q k. search (rules, tests, asked_at))
    ∙ asks_all st
