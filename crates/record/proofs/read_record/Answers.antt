-- `record::read_record` meets its contract. Assumes nothing.
use Rattle.std.proofs.Common.{List, take, refl, ap, ◌∙◌, arith, length-drop, length-take}
use Prim.Native.Nat.{ℕ}
use lib.Seq.{take_all}
use Rattle.record.proofs.Whole.{whole_is}
use Rattle.record.proofs.read_record.Goals as goal

pub read_fields-read-requires-clause-short : goal.read_fields-read-requires-clause-short
read_fields-read-requires-clause-short c = rw c.new-r.ensures (simp length-take (omega arith))

pub returns : goal.returns
returns c = whole_is _ _ c.requires.1.0 (c.new-r.ensures ∙ ap (λ (l : List ℕ). take 4096 l) (take_all _ _ (simp length-drop (omega arith)))) c.read_fields-read.ensures.is (rw c.saturating_sub.ensures refl)
