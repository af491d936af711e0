-- `heads::ref_fields` meets its contract. Assumes nothing.
use Rattle.std.proofs.Common.{rules, refl, ◌∙◌}
use Rattle.definition.specs.Reader.{◌>>=◌, go_on, give, read_bool, read_one, read_two}
use Rattle.heads.proofs.Rest.{read_one as one_part}
use Rattle.heads.proofs.Heads.{under_ref_is}
use Rattle.heads.proofs.ref_fields.Goals as goal

pub returns-in_err-x-clause-begins : goal.returns-in_err-x-clause-begins
unfolding read_two read_bool read_one ◌>>=◌ go_on
returns-in_err-x-clause-begins c = λ loc part. search rules

pub returns-then-is_doubled-clause-begins : goal.returns-then-is_doubled-clause-begins
unfolding read_two read_bool read_one ◌>>=◌ go_on give
returns-then-is_doubled-clause-begins c = λ loc part.
    rw (← c.byte_to.ensures.is, c.in_ok-x.was, under_ref_is c.args.left _ _ c.is_doubled.ensures part, c.if-is_doubled.true) refl

pub returns-clause-begins : goal.returns-clause-begins
unfolding read_two read_bool read_one ◌>>=◌ go_on give
returns-clause-begins c = λ loc part.
    one_part part _ _ ∙ rw (← c.byte_to.ensures.is, c.in_ok-x.was, under_ref_is c.args.left _ _ c.is_doubled.ensures part, c.if-is_doubled.false) refl
