-- `heads::builtin_fields` meets its contract. Assumes nothing.
use Rattle.std.proofs.Common.{rules, refl}
use Rattle.definition.specs.Types.{max_builtin}
use Rattle.definition.specs.Reader.{◌>>=◌, go_on, refuse}
use Rattle.definition.specs.Trees.{arity}
use Rattle.heads.specs.Fields.{read_args}
use Rattle.heads.proofs.Named.{builtin_is}
use Rattle.heads.proofs.builtin_fields.Goals as goal

pub returns-in_err-k-clause-begins : goal.returns-in_err-k-clause-begins
unfolding ◌>>=◌ go_on
returns-in_err-k-clause-begins c = λ s loc part. rw (builtin_is s part loc _) (search rules)

pub returns-in_err-byte_to-clause-begins : goal.returns-in_err-byte_to-clause-begins
unfolding ◌>>=◌ go_on max_builtin
returns-in_err-byte_to-clause-begins c = λ s loc part. rw (builtin_is s part loc _, ← c.read_mark.ensures.is, c.in_ok-k.was) (search rules)

pub returns-then-not-fits-clause-begins : goal.returns-then-not-fits-clause-begins
unfolding read_args ◌>>=◌ go_on refuse max_builtin
returns-then-not-fits-clause-begins c = λ s loc part.
    rw (builtin_is s part loc _, ← c.read_mark.ensures.is, c.in_ok-k.was, ← c.byte_to.ensures.is, c.in_ok-byte_to.was, ← c.from-n.ensures, ← c.fits.ensures, c.if-not-fits.true) refl

pub returns-clause-begins : goal.returns-clause-begins
unfolding read_args arity ◌>>=◌ go_on max_builtin
returns-clause-begins c = λ s loc part.
    rw (builtin_is s part loc _, ← c.read_mark.ensures.is, c.in_ok-k.was, ← c.byte_to.ensures.is, c.in_ok-byte_to.was, ← c.from-n.ensures, ← c.fits.ensures, c.if-not-fits.false, ← c.builtin_tparams-many.ensures.0) refl
