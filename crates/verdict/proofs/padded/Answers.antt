-- `verdict::padded` meets its contract. Assumes nothing.
use Rattle.std.proofs.Common.{rules, arith, refl, ◌∙◌, ap, ℕ, ◌-◌, ◌<◌, ◌≡◌, length}
use lib.ListN.{get_or}
use Rattle.table.proofs.Rows.{wrote_mid}
use Rattle.verdict.proofs.Padding.{padding_all}
use Rattle.verdict.proofs.padded.Goals as goal

pub returns : goal.returns
returns c =
    let bytes = c.args.params.bytes in
    let long : length bytes ≡ 8 = search rules in
    let zeros = c.fill.new.self in
    let from : c.from.result ≡ c.args.params.many = c.from.ensures in
    let size : length zeros ≡ 8 - c.from.result = search rules in
    let zero : (k : ℕ) → k < 8 - c.from.result → get_or zeros k 0 ≡ 0 = search rules in
    let w = wrote_mid bytes c.from.result (8 - c.from.result) zeros zeros (omega (arith, size, long, c.requires, from)) size refl in (
      padding_all bytes c.args.params.many _ 8
          (record {
            from = c.requires;
            within = omega arith;
            size = w.size ∙ long;
            front = λ k l. w.there k (λ j p e. omega (arith, from, e, l));
            zeros = λ k ge lt. ap (λ (x : ℕ). get_or (borrow.Rule.Slice.PartMut.put_mid c.from.result (8 - c.from.result) bytes zeros) x 0) (omega (arith, from, ge)) ∙ w.here (k - c.from.result) (omega (arith, size, from, ge, lt)) ∙ zero (k - c.from.result) (omega (arith, from, ge, lt));
          })
          (omega arith),
      long,
    )
