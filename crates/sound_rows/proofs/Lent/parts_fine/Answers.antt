-- `sound_rows::Lent::parts_fine` meets its contract. Assumes nothing.
use Rattle.std.proofs.Common.{◌≡◌, ℕ, ◌+◌, ◌-◌, ◌∙◌, ap, rules, tests, arith, get_or, ltb}
use Rattle.std.proofs.lemmas.Iterator.{YieldsList-from_slice}
use Rattle.std.proofs.lemmas.Iterator.Search.{all_from_yields_List}
use Rattle.sound_fields.specs.Fields.{all_below}
use Rattle.sound_rows.specs.Rows.{part_fine}
use Rattle.sound_fields.proofs.Below.{all_between, same_below}
use Rattle.sound_rows.proofs.Lent.parts_fine.Goals as goal

pub returns : goal.returns
unfolding part_fine
returns c =
    let w = c.args.self.now.words.now in
    let at = 12293 + c.args.c in
    let n : at + c.args.d - at ≡ c.args.d = omega arith in
    all_from_yields_List (λ x. ltb x c.args.t) _ _ _ c.all.ensures.ran (YieldsList-from_slice _ cc) (λ x b q k. search (rules, tests))
    ∙ all_between (λ x. ltb x c.args.t) 0 w at (at + c.args.d) (omega arith)
    ∙ ap (λ (k : ℕ). all_below k (λ i. ltb (get_or w (at + i) 0) c.args.t)) n
    ∙ same_below c.args.d _ _ (λ i p. let e : at + i ≡ 12293 + (c.args.c + i) = omega arith in ap (λ (k : ℕ). ltb (get_or w k 0) c.args.t) e)
