-- `heads::fields` meets its contract. Assumes nothing.
use Rattle.std.proofs.Common.{◌≡◌, refl, arith}
use Rattle.definition.specs.Trees.{by_tag, read_trees}
use Rattle.definition.specs.Reader.{go_on, give}
use Rattle.heads.proofs.fields.Goals as goal

pub returns-in-0-clause-begins : goal.returns-in-0-clause-begins
unfolding by_tag read_trees go_on give
returns-in-0-clause-begins g c = λ s ds de kn loc part. rw c.in-0.is refl

pub returns-in-1-clause-begins : goal.returns-in-1-clause-begins
unfolding by_tag
returns-in-1-clause-begins g c = λ s ds de kn loc part. rw c.in-1.is (c.ref_fields.ensures.begins loc part)

pub returns-in-2-clause-begins : goal.returns-in-2-clause-begins
unfolding by_tag
returns-in-2-clause-begins g c = λ s ds de kn loc part. rw c.in-2.is (c.param_fields.ensures.begins loc part)

pub returns-in-3-clause-begins : goal.returns-in-3-clause-begins
unfolding by_tag
returns-in-3-clause-begins g c = λ s ds de kn loc part. rw c.in-3.is (c.builtin_fields.ensures.begins s loc part)

pub returns-in-4-clause-begins : goal.returns-in-4-clause-begins
unfolding by_tag
returns-in-4-clause-begins g c = λ s ds de kn loc part. rw c.in-4.is (c.list_fields.ensures.begins s loc part)

pub returns-in-5-clause-begins : goal.returns-in-5-clause-begins
unfolding by_tag
returns-in-5-clause-begins g c = λ s ds de kn loc part. rw c.in-5.is (c.struct_fields.ensures.begins s (rw kn.structs de) loc part)

pub returns-in-6-clause-begins : goal.returns-in-6-clause-begins
unfolding by_tag
returns-in-6-clause-begins g c = λ s ds de kn loc part. rw c.in-6.is (c.var_fields.ensures.begins s kn.vars loc part)

pub returns-in-7-clause-begins : goal.returns-in-7-clause-begins
unfolding by_tag read_trees go_on give
returns-in-7-clause-begins g c = λ s ds de kn loc part. rw c.in-7.is refl

pub returns-in_default-clause-begins : goal.returns-in_default-clause-begins
unfolding by_tag read_trees go_on give
returns-in_default-clause-begins g c = let e : c.args.tag ≡ 8 = omega (arith, c.requires.is_tag) in λ s ds de kn loc part. rw e refl
