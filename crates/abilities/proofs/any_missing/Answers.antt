-- `abilities::any_missing` meets its contract. Assumes nothing.
use Rattle.std.proofs.Common.{◌∙◌, ◌∷◌, [], rules, tests}
use Rattle.std.proofs.lemmas.Iterator.{YieldsList-from_slice}
use Rattle.std.proofs.lemmas.Iterator.Search.{any_from_yields_List}
use Rattle.table.specs.Did.{held}
use Rattle.abilities.specs.Rules.{misses, any_misses}
use Rattle.abilities.proofs.Laws.{any_four}
use Rattle.abilities.proofs.any_missing.Goals as goal

pub returns : goal.returns
unfolding any_misses
returns g c = λ ds k.
    let test = misses (held (g.S.ReadState.state c.args.st.now) ds) c.args.a.ty c.args.a.set.0 in
    any_from_yields_List {all = 1 ∷ 2 ∷ 4 ∷ 8 ∷ []} test _ _ _ c.any.ensures.ran (YieldsList-from_slice _ cc) (λ x b q m. search (rules, tests))
    ∙ any_four test
