-- `abilities::check_constraint` meets its contract. Assumes nothing.
use borrow.Enum.Refused.{opened}
use Rattle.definition.specs.Constraints.{solve_constraint}
use Rattle.abilities.proofs.Checked.{checked_plain, asked_node}
use Rattle.abilities.proofs.check_constraint.Goals as goal

pub check_ability_constraint-requires : goal.check_ability_constraint-requires
check_ability_constraint-requires g c = let pre = c.requires in (asked_node _ _ _ _ _ pre.0 c.in-Ability.is, pre.1)

pub returns-in-Ability : goal.returns-in-Ability
unfolding solve_constraint
returns-in-Ability g c = rw c.in-Ability.is c.check_ability_constraint.ensures

pub returns-in_default : goal.returns-in_default
returns-in_default g c = (c.requires.1.0, checked_plain _ _ _ c.requires.1.1 c.args.c (opened c.in_default.in_default-own.keys2))
