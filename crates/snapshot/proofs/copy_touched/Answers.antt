-- `snapshot::copy_touched` meets its contract: row by row, or all of them. Assumes nothing.
use Rattle.std.proofs.Common.{rules}
use Rattle.std.proofs.lemmas.List.{places}
use Rattle.snapshot.proofs.Parts.{wrote_long}
use Rattle.snapshot.proofs.Copying.{copied_none, copied_one, copied_two, copied_three, copied_all}
use Rattle.snapshot.proofs.copy_touched.Goals as goal

pub returns-in-Nothing : goal.returns-in-Nothing
returns-in-Nothing c = rw c.in-Nothing.is copied_none

pub returns-in-One : goal.returns-in-One
returns-in-One c = rw c.in-One.is (copied_one c.copy_row.ensures)

pub returns-in-Two : goal.returns-in-Two
returns-in-Two c = rw c.in-Two.is (copied_two c.copy_row-in-Two.ensures c.copy_row-in-Two-2.ensures)

pub returns-in-Three : goal.returns-in-Three
returns-in-Three c = rw c.in-Three.is (copied_three c.copy_row-in-Three.ensures c.copy_row-in-Three-2.ensures c.copy_row-in-Three-3.ensures)

pub returns-in-Any : goal.returns-in-Any
returns-in-Any c =
    let p = c.requires in
    rw c.in-Any.is (copied_all (wrote_long (search (rules, places)) c.copy_words.ensures) (λ k q. search (rules, places)))
