-- `snapshot::save_rows` meets its contract. Assumes nothing.
use Rattle.std.proofs.Common.{arith, rules}
use Rattle.std.proofs.lemmas.List.{places}
use Rattle.snapshot.proofs.Parts.{wrote_long}
use Rattle.snapshot.proofs.Saving.{old_saved, all_saved}
use Rattle.snapshot.proofs.save_rows.Goals as goal

pub returns-then-n-vars : goal.returns-then-n-vars
returns-then-n-vars c =
    let p = c.requires in
    old_saved c.args.st.now _ _ _ (omega (arith, c.min-n.ensures)) (omega (arith, c.min-n.ensures)) p.1 c.copy_touched.ensures c.if-n-vars.true

pub returns : goal.returns
returns c =
    let p = c.requires in
    all_saved c.args.st.now _ _ _ (omega (arith, c.min-n.ensures)) (omega (arith, c.min-n.ensures)) p.1 c.copy_touched.ensures _ _
    (wrote_long (search (rules, places)) c.copy_words.ensures) (λ k q. search (rules, places))
