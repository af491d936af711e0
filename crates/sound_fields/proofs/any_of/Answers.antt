-- `sound_fields::any_of` meets its contract. Assumes nothing.
use Rattle.std.proofs.Common.{◌≡◌, ◌∙◌, ap, rules, bit_or, eqb, ℕ, length}
use Rattle.std.specs.List.{fold}
use Rattle.sound_fields.proofs.Below.{no_bytes}
use Rattle.sound_fields.proofs.Ors.{or_folded}
use Rattle.sound_fields.proofs.any_of.Goals as goal

pub returns : goal.returns
returns c =
    let e : c.fold.result ≡ fold (λ a x. bit_or a x) 0 c.args.bytes = search rules in
    let n : length c.args.bytes ≡ 8 = search rules in
    ap (λ (x : ℕ). eqb x 0) e ∙ or_folded (λ x. x) c.args.bytes 0 ∙ no_bytes _ n
