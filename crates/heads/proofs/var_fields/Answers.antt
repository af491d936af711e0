-- `heads::var_fields` meets its contract. Assumes nothing.
use Rattle.std.proofs.Common.{rules, refl}
use Rattle.definition.specs.Reader.{◌>>=◌, go_on, give, read_one}
use Rattle.definition.specs.Trees.{read_trees}
use Rattle.heads.proofs.var_fields.Goals as goal

pub returns-in_err-v-clause-begins : goal.returns-in_err-v-clause-begins
unfolding read_one ◌>>=◌ go_on
returns-in_err-v-clause-begins c = λ s e loc part. rw e (search rules)

pub returns-clause-begins : goal.returns-clause-begins
unfolding read_one ◌>>=◌ go_on give read_trees
returns-clause-begins c = λ s e loc part. rw (e, ← c.name_below.ensures.is, c.in_ok-v.was) refl
