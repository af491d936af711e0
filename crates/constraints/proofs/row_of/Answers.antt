-- `constraints::row_of` meets its contract. Assumes nothing.
use Rattle.constraints.proofs.Lacks.{asked_ty, row_ability, row_plain}
use Rattle.constraints.proofs.row_of.Goals as goal

pub lack_of-requires : goal.lack_of-requires
lack_of-requires g c = let pre = c.requires in
    let q = asked_ty _ _ _ _ _ _ _ pre.0 pre.1.1 c.in-Ability.is in
    (q.0, (pre.1.0, q.1))

pub returns-in-Ability : goal.returns-in-Ability
returns-in-Ability g c = row_ability _ _ _ _ _ _ _ _ c.lack_of.ensures c.in-Ability.is

pub returns-in_default : goal.returns-in_default
returns-in_default g c = let args = c.args in
    row_plain _ _ c.first_row.result args.c args.ability c.first_row.ensures c.in_default.not-Ability
