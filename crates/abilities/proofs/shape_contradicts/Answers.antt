-- `abilities::shape_contradicts` meets its contract. Assumes nothing.
use mathlib.Core.Bool.{◌&&◌}
use Prim.Native.Nat.{ℕ}
use Rattle.std.proofs.Common.{◌∙◌, ◌∷◌, [], rules, tests}
use Rattle.std.proofs.lemmas.Iterator.{YieldsList-from_slice}
use Rattle.std.proofs.lemmas.Iterator.Search.{any_from_yields_List}
use Rattle.definition.specs.Constraints.{missing}
use Rattle.table.specs.Did.{held}
use Rattle.abilities.specs.Rules.{misses, clashes}
use Rattle.abilities.proofs.Laws.{any_four, any_those}
use Rattle.abilities.proofs.shape_contradicts.Goals as goal

pub returns : goal.returns
unfolding missing
returns g c = λ ds k.
    let s = held (g.S.ReadState.state c.args.st.now) ds in
    let lacks = misses s c.args.a.ty c.args.a.set.0 in
    let test = λ (ability : ℕ). lacks ability && clashes s c.args.a.ty ability in
    any_from_yields_List {all = 1 ∷ 2 ∷ 4 ∷ 8 ∷ []} test _ _ _ c.any.ensures.ran (YieldsList-from_slice _ cc) (λ x b q m. search (rules, tests))
    ∙ any_four test
    ∙ any_those (clashes s c.args.a.ty) lacks
