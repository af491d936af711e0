-- `snapshot::copy_all` meets its contract. Assumes nothing.
use Rattle.std.proofs.Common.{◌+◌, ℕ, ◌≡◌, get_or, ap, sym, ◌∙◌, arith}
use Rattle.std.proofs.lemmas.List.{ext_get_or}
use Rattle.snapshot.proofs.copy_all.Goals as goal

pub returns : goal.returns
returns c =
    let copied = c.copy_words.ensures in
    let long = copied.size ∙ c.requires in
    ext_get_or 0 _ _ long (λ i h. let e : 0 + i ≡ i = omega arith in
    ap (λ (k : ℕ). get_or c.copy_words.new.w k 0) (sym e) ∙ copied.here i (omega (arith, long, h)))
