-- `cursor::Reader::u8` meets its contract. Assumes nothing.
use Rattle.std.proofs.Common.{rules, refl}
use Rattle.cursor.proofs.Next.{next_1}
use Rattle.cursor.proofs.Reader.u8.Goals as goal

pub returns-in_err-byte-clause-is : goal.returns-in_err-byte-clause-is
returns-in_err-byte-clause-is c = let h = next_1 _ _ _ c.array.ensures in search rules

pub returns-clause-is : goal.returns-clause-is
returns-clause-is c = rw (← next_1 _ _ _ c.array.ensures, c.in_ok-byte.was) refl
