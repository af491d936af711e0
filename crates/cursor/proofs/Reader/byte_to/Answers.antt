-- `cursor::Reader::byte_to` meets its contract. Assumes nothing.
use Rattle.std.proofs.Common.{rules, refl}
use borrow.Author.Tests.{le-leb, lt-leb}
use Rattle.definition.specs.Reader.{byte_if, ◌>>=◌, go_on, give, refuse}
use Rattle.cursor.proofs.Reader.byte_to.Goals as goal

pub returns-in_err-byte-clause-is : goal.returns-in_err-byte-clause-is
unfolding byte_if ◌>>=◌ go_on
returns-in_err-byte-clause-is c = search rules

pub returns-then-max-from-clause-is : goal.returns-then-max-from-clause-is
unfolding byte_if ◌>>=◌ go_on refuse
returns-then-max-from-clause-is c = rw (← c.u8.ensures.is, c.in_ok-byte.was, lt-leb _ _ (rw c.from.ensures at c.if-max-from.true)) refl

pub returns-clause-is : goal.returns-clause-is
unfolding byte_if ◌>>=◌ go_on give
returns-clause-is c = rw (← c.u8.ensures.is, c.in_ok-byte.was, le-leb _ _ (rw c.from.ensures at c.if-max-from.false)) refl
