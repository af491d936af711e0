-- `constraints::by_rule` meets its contract. Assumes nothing.
use Rattle.std.proofs.Common.{refl, subst}
use Rattle.definition.specs.Constraints.{by_rule}
use Rattle.abilities.specs.Rules.{bytes_of}
use Rattle.abilities.specs.Rules.{RuleIn}
use Rattle.constraints.proofs.by_rule.Goals as goal

pub returns-in-Declaration : goal.returns-in-Declaration
unfolding by_rule bytes_of
returns-in-Declaration c = rw c.in-Declaration.is ((λ n l. (l, tt)), (λ s. refl))

pub returns-in-Argument : goal.returns-in-Argument
unfolding by_rule bytes_of
returns-in-Argument c = let place = subst RuleIn c.in-Argument.is c.requires in
    rw c.in-Argument.is ((λ n l. (l, place)), (λ s. refl))

pub returns-in-Contradicted : goal.returns-in-Contradicted
unfolding by_rule bytes_of
returns-in-Contradicted c = rw c.in-Contradicted.is ((λ n l. tt), (λ s. refl))
