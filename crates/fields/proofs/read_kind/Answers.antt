-- `fields::read_kind` meets its contract. Assumes nothing.
use Rattle.std.proofs.Common.{rules, arith, refl}
use Rattle.definition.specs.Reader.{◌>>=◌, go_on, give, refuse, byte_if, read_one}
use borrow.Author.Tests.{lt-leb}
use Rattle.definition.specs.Record.{read_kind}
use Rattle.fields.proofs.read_kind.Goals as goal

pub returns-in_err-u8-clause-is : goal.returns-in_err-u8-clause-is
unfolding read_kind read_one byte_if ◌>>=◌ go_on
returns-in_err-u8-clause-is c = search rules

pub returns-in-0-clause-is : goal.returns-in-0-clause-is
unfolding read_kind read_one byte_if ◌>>=◌ go_on give
returns-in-0-clause-is c = rw (← c.u8.ensures.is, c.in_ok-u8.was, c.in-0.is) refl

pub returns-in-1-clause-is : goal.returns-in-1-clause-is
unfolding read_kind read_one byte_if ◌>>=◌ go_on give
returns-in-1-clause-is c = rw (← c.u8.ensures.is, c.in_ok-u8.was, c.in-1.is) refl

pub returns-in-2-clause-is : goal.returns-in-2-clause-is
unfolding read_kind read_one byte_if ◌>>=◌ go_on give
returns-in-2-clause-is c = rw (← c.u8.ensures.is, c.in_ok-u8.was, c.in-2.is) refl

pub returns-in_default-clause-is : goal.returns-in_default-clause-is
unfolding read_kind read_one byte_if ◌>>=◌ go_on refuse
returns-in_default-clause-is c = rw (← c.u8.ensures.is, c.in_ok-u8.was, lt-leb c.in_ok-u8.field-0 2 (omega arith)) refl
