-- `heads::param_fields` meets its contract. Assumes nothing.
use Rattle.std.proofs.Common.{rules}
use Rattle.definition.specs.Reader.{read_two, ◌>>=◌, go_on, give}
use Rattle.definition.specs.Trees.{read_trees}
use Rattle.heads.proofs.param_fields.Goals as goal

pub returns-in_err-id-clause-begins : goal.returns-in_err-id-clause-begins
unfolding read_two ◌>>=◌ go_on
returns-in_err-id-clause-begins c = λ loc part. search rules

pub returns-in_err-abilities-clause-begins : goal.returns-in_err-abilities-clause-begins
unfolding read_two ◌>>=◌ go_on
returns-in_err-abilities-clause-begins c = λ loc part. search rules

pub returns-clause-begins : goal.returns-clause-begins
unfolding read_two read_trees ◌>>=◌ go_on give
returns-clause-begins c = λ loc part. search rules
