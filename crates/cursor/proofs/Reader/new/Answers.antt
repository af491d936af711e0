-- `cursor::Reader::new` meets its contract. Assumes nothing.
use Rattle.std.proofs.Common.{◌≡◌, List, ℕ, length, take, min, refl, sym, ◌∙◌, arith}
use native.Mathlib.Decide.{dec_lt}
use lib.Seq.{take_all}
use Rattle.cursor.proofs.Reader.new.Goals as goal

take_min : (l : List ℕ) (n m : ℕ) → m ≡ min (length l) n → take m l ≡ take n l
take_min l n m e = elim (dec_lt n (length l)) [
  | yes h ↦ let z : m ≡ n = omega arith in rw z refl
  | no h ↦ take_all m l (omega arith) ∙ sym (take_all n l (omega arith))
]

pub returns : goal.returns
returns c = take_min _ _ _ c.min-end.ensures
