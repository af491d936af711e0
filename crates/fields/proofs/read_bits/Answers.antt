-- `fields::read_bits` meets its contract. Assumes nothing.
use Rattle.std.proofs.Common.{rules, arith, refl}
use Rattle.definition.specs.Reader.{◌>>=◌, go_on, give, refuse}
use borrow.Author.Tests.{le-leb, lt-leb}
use Rattle.definition.specs.Record.{read_bits}
use Rattle.fields.proofs.read_bits.Goals as goal

pub returns-in_err-bits-clause-is : goal.returns-in_err-bits-clause-is
unfolding read_bits ◌>>=◌ go_on
returns-in_err-bits-clause-is c = search rules

pub returns-in-1-to-256-clause-is : goal.returns-in-1-to-256-clause-is
unfolding read_bits ◌>>=◌ go_on give
returns-in-1-to-256-clause-is c = rw (← c.u16.ensures.is, c.in_ok-bits.was, le-leb 1 c.in_ok-bits.bits (omega arith), le-leb c.in_ok-bits.bits 256 (omega arith)) refl

pub returns-in_default-clause-is : goal.returns-in_default-clause-is
unfolding read_bits ◌>>=◌ go_on refuse
returns-in_default-clause-is c = rw (← c.u16.ensures.is, c.in_ok-bits.was, lt-leb 1 c.in_ok-bits.bits (omega arith)) refl

pub returns-in_default-2-clause-is : goal.returns-in_default-2-clause-is
unfolding read_bits ◌>>=◌ go_on refuse
returns-in_default-2-clause-is c = rw (← c.u16.ensures.is, c.in_ok-bits.was, le-leb 1 c.in_ok-bits.bits (omega arith), lt-leb c.in_ok-bits.bits 256 (omega arith)) refl
