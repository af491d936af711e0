-- `cursor::Reader::name_below` meets its contract. Assumes nothing.
use Rattle.std.proofs.Common.{rules, refl, arith}
use borrow.Author.Tests.{lt-ltb, le-ltb}
use Rattle.definition.specs.Reader.{name_below, ◌>>=◌, go_on, give, refuse}
use Rattle.cursor.proofs.Reader.name_below.Goals as goal

pub returns-in_err-name-clause-is : goal.returns-in_err-name-clause-is
unfolding name_below ◌>>=◌ go_on
returns-in_err-name-clause-is c = search rules

pub returns-then-from-known-clause-is : goal.returns-then-from-known-clause-is
unfolding name_below ◌>>=◌ go_on give
returns-then-from-known-clause-is c = rw (← c.u16.ensures.is, c.in_ok-name.was, lt-ltb c.in_ok-name.name c.args.known (omega arith)) refl

pub returns-else-from-known-clause-is : goal.returns-else-from-known-clause-is
unfolding name_below ◌>>=◌ go_on refuse
returns-else-from-known-clause-is c = rw (← c.u16.ensures.is, c.in_ok-name.was, le-ltb c.in_ok-name.name c.args.known (omega arith)) refl
