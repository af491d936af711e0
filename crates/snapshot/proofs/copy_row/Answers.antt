-- `snapshot::copy_row` meets its contract. Assumes nothing.
use Rattle.std.proofs.Common.{arith, rules, refl}
use Rattle.std.proofs.lemmas.List.{places}
use Rattle.snapshot.proofs.Parts.{wrote_part}
use Rattle.snapshot.proofs.Copying.{copied_row}
use Rattle.snapshot.proofs.copy_row.Goals as goal

pub returns-then-v-n : goal.returns-then-v-n
returns-then-v-n c =
    let p = c.requires in
    let lt = c.if-v-n.true in
    let long = c.copy_from_slice.ensures.len in
    let after = c.copy_from_slice.ensures.after in
    copied_row lt (wrote_part _ _ 5 _ _ (omega (arith, p.0, lt)) (search rules) (λ k q. refl)) (λ k q. search (rules, places))
