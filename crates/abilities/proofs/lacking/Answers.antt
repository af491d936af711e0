-- `abilities::lacking` meets its contract. Assumes nothing.
use Rattle.std.proofs.Common.{◌∙◌, sym, refl, rules, tests, arith}
use Rattle.std.proofs.lemmas.Iterator.{YieldsList-from_range, first_from_Range}
use Rattle.std.proofs.lemmas.Iterator.Adapters.{option_map_id}
use Rattle.std.proofs.lemmas.Iterator.Search.{find_from_yields_List}
use Rattle.table.specs.Did.{held}
use Rattle.abilities.specs.Rules.{lacks_at}
use Rattle.abilities.proofs.Laws.{first_found, place_in}
use Rattle.abilities.proofs.lacking.Goals as goal

pub returns : goal.returns
returns g c = let st = (g.S.ReadState.state c.args.st.now) in
    let ran = c.find.ensures.ran in (
      place_in _ _ (first_from_Range _ _ _ _ (λ i. Unit {0}) (λ i. Unit {0}) ran (λ x q m. tt) (λ x q m. search rules)) c.requires.0.few,
      λ ds k.
          sym (option_map_id _)
          ∙ find_from_yields_List (lacks_at (held st ds) c.args.a c.args.needed) _ _ _ ran (YieldsList-from_range 0 _ _ refl (omega arith)) (λ x b q m. search (rules, tests))
          ∙ first_found st _ _ c.args.a _ c.requires.0 ds,
    )
