-- `heads::read_head` meets its contract. Assumes nothing.
use Rattle.std.proofs.Common.{rules, ◌<◌, arith}
use Rattle.definition.specs.Reader.{go_on}
use Rattle.heads.proofs.Heads.{read_deep, no_nest}
use Rattle.heads.proofs.read_head.Goals as goal

pub returns-then-nest-eq0-clause-reads : goal.returns-then-nest-eq0-clause-reads
returns-then-nest-eq0-clause-reads g c = λ s ds de kn. no_nest _ s _ c.if-nest-eq0.true

pub returns-in_err-tag-clause-reads : goal.returns-in_err-tag-clause-reads
unfolding go_on
returns-in_err-tag-clause-reads g c = let p : 0 < c.args.nest = omega (arith, c.if-nest-eq0.false) in
    λ s ds de kn. rw (read_deep c.args.nest s _ p) (search rules)

pub returns-in_err-loc-clause-reads : goal.returns-in_err-loc-clause-reads
unfolding go_on
returns-in_err-loc-clause-reads g c = let p : 0 < c.args.nest = omega (arith, c.if-nest-eq0.false) in
    λ s ds de kn. rw (read_deep c.args.nest s _ p, ← c.byte_to.ensures.is, c.in_ok-tag.was) (search rules)

pub returns-in_err-shape-clause-reads : goal.returns-in_err-shape-clause-reads
unfolding go_on
returns-in_err-shape-clause-reads g c = let p : 0 < c.args.nest = omega (arith, c.if-nest-eq0.false) in
    λ s ds de kn. rw (read_deep c.args.nest s _ p) (search rules)

pub returns-clause-reads : goal.returns-clause-reads
unfolding go_on
returns-clause-reads g c = let p : 0 < c.args.nest = omega (arith, c.if-nest-eq0.false) in
    λ s ds de kn. rw (read_deep c.args.nest s _ p) (search rules)
