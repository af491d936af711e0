-- `heads::list_fields` meets its contract. Assumes nothing.
use Rattle.std.proofs.Common.{rules, refl}
use Rattle.definition.specs.Join.{is_numeric}
use Rattle.definition.specs.Reader.{◌>>=◌, go_on}
use Rattle.definition.specs.Trees.{arity, mark_fits}
use Rattle.heads.specs.Fields.{read_args}
use Rattle.heads.proofs.Named.{list_is}
use Rattle.heads.proofs.list_fields.Goals as goal

pub returns-in_err-k-clause-begins : goal.returns-in_err-k-clause-begins
unfolding ◌>>=◌ go_on
returns-in_err-k-clause-begins c = λ s loc part. rw (list_is s part loc _) (search rules)

pub returns-in_err-byte_to-clause-begins : goal.returns-in_err-byte_to-clause-begins
unfolding ◌>>=◌ go_on
returns-in_err-byte_to-clause-begins c = λ s loc part. rw (list_is s part loc _, ← c.read_mark.ensures.is, c.in_ok-k.was) (search rules)

pub returns-clause-begins : goal.returns-clause-begins
unfolding read_args arity mark_fits ◌>>=◌ go_on is_numeric
returns-clause-begins c = λ s loc part. rw (list_is s part loc _, ← c.read_mark.ensures.is, c.in_ok-k.was, ← c.byte_to.ensures.is, c.in_ok-byte_to.was, ← c.from-n.ensures) refl
