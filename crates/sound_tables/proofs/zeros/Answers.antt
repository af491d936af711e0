-- `sound_tables::zeros` meets its contract. Assumes nothing.
use Rattle.std.proofs.Common.{◌≡◌, ◌∙◌, ℕ, ap, eqb, bit_or, rules}
use Rattle.std.specs.List.{fold, between}
use Rattle.sound_fields.proofs.Below.{all_between}
use Rattle.sound_fields.proofs.Ors.{or_folded}
use Rattle.sound_tables.specs.Tables.{zeros, zero_at}
use Rattle.sound_tables.proofs.zeros.Goals as goal

pub returns : goal.returns
unfolding zeros zero_at
returns c =
    let part = between c.args.first c.args.last c.args.w.now in
    let e : c.fold.result ≡ fold (λ a x. bit_or a x) 0 part = search rules in
    ap (λ (x : ℕ). eqb x 0) e ∙ or_folded (λ x. x) part 0 ∙ all_between (λ x. eqb x 0) 0 c.args.w.now c.args.first c.args.last c.requires.1
