-- `sound_tables::params_fine` meets its contract. Assumes nothing.
use Rattle.std.proofs.Common.{◌∙◌, sym, rules, tests, arith}
use Rattle.std.proofs.lemmas.Iterator.{YieldsList-from_slice}
use Rattle.std.proofs.lemmas.Iterator.Search.{all_from_yields_List}
use Rattle.sound_fields.proofs.Below.{fails_l, passes}
use Rattle.sound_tables.proofs.Params.{blank, params_split}
use Rattle.sound_tables.proofs.params_fine.Goals as goal

pub returns-then-given_fine : goal.returns-then-given_fine
returns-then-given_fine c =
    let lent = c.args.lent.now in
    all_from_yields_List blank _ _ _ c.all.ensures.ran (YieldsList-from_slice _ cc) (λ x b q k. search (rules, tests))
    ∙ passes _ _ (sym c.given_fine.ensures ∙ c.if-given_fine.true)
    ∙ sym (params_split lent.words.now lent.used c.args.params.now (search rules) (omega arith))

pub returns-else-given_fine : goal.returns-else-given_fine
returns-else-given_fine c =
    let lent = c.args.lent.now in
    c.if-given_fine.false
    ∙ sym (params_split lent.words.now lent.used c.args.params.now (search rules) (omega arith) ∙ fails_l _ _ (sym c.given_fine.ensures ∙ c.if-given_fine.false))
