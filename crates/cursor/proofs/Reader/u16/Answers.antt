-- `cursor::Reader::u16` meets its contract. Assumes nothing.
use Rattle.std.proofs.Common.{rules, ap, arith}
use Rattle.definition.specs.Reader.{got}
use Rattle.cursor.proofs.Next.{next_2}
use Rattle.cursor.proofs.Reader.u16.Goals as goal

pub returns-in_err-bytes-clause-is : goal.returns-in_err-bytes-clause-is
returns-in_err-bytes-clause-is c = let h = next_2 _ _ _ c.array.ensures in search rules

pub returns-clause-is : goal.returns-clause-is
returns-clause-is c = rw (← next_2 _ _ _ c.array.ensures, c.in_ok-bytes.was) (ap (λ n. got n c.array.new.self.left.now) (omega arith))
