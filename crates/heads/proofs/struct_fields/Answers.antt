-- `heads::struct_fields` meets its contract. Assumes nothing.
use Rattle.std.proofs.Common.{rules, refl}
use Rattle.definition.specs.Join.{is_numeric}
use Rattle.definition.specs.Instantiate.{struct_tparams}
use Rattle.definition.specs.Trees.{arity, mark_fits}
use Rattle.definition.specs.Reader.{◌>>=◌, go_on}
use Rattle.heads.specs.Fields.{read_args}
use Rattle.heads.proofs.Named.{struct_is}
use Rattle.heads.proofs.Heads.{declares_self, arity_fits}
use Rattle.heads.proofs.struct_fields.Goals as goal

pub returns-in_err-k-clause-begins : goal.returns-in_err-k-clause-begins
unfolding ◌>>=◌ go_on
returns-in_err-k-clause-begins g c = λ s de loc part. rw (struct_is s part loc _) (search rules)

pub returns-in_err-name_below-clause-begins : goal.returns-in_err-name_below-clause-begins
unfolding ◌>>=◌ go_on
returns-in_err-name_below-clause-begins g c = λ s de loc part. rw (struct_is s part loc _, ← c.read_mark.ensures.is, c.in_ok-k.was, de.many) (search rules)

pub returns-clause-begins : goal.returns-clause-begins
unfolding read_args arity struct_tparams mark_fits is_numeric ◌>>=◌ go_on
returns-clause-begins g c = λ s de loc part.
    rw (
      struct_is s part loc _,
      ← c.read_mark.ensures.is,
      c.in_ok-k.was,
      de.many,
      ← (rw c.used.ensures at c.name_below.ensures.is),
      c.in_ok-name_below.was,
      ← c.from-n.ensures,
      (c.struct_at-many.ensures s.structs de).1,
    ) refl

pub returns-clause-few : goal.returns-clause-few
returns-clause-few g c = arity_fits _ _ _ _ c.requires (c.struct_at-many.ensures _ (declares_self _ _)).1
