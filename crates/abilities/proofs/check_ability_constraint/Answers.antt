-- `abilities::check_ability_constraint` meets its contract. Assumes nothing.
-- Three returns: no levels (9), a mark that contradicts (16), and neither; between them the set is inferred within the levels found.
use Rattle.abilities.proofs.Checked.{ends_of, checked_nine, checked_sixteen, checked_clear}
use Rattle.abilities.proofs.check_ability_constraint.Goals as goal

pub returns-in_default : goal.returns-in_default
returns-in_default g c = (c.levels.ensures.1, checked_nine (rw c.used.ensures at c.levels.ensures.0) _ _ _ _ c.in_default.is c.requires.1.1)

pub infer-requires : goal.infer-requires
infer-requires g c = let levels = c.levels in (c.requires.0, (ends_of (rw c.used.ensures at levels.ensures.0) c.in-Some.is, c.requires.1.1))

pub any_contradicts-requires : goal.any_contradicts-requires
any_contradicts-requires g c = let pre = c.requires in
    let infer = c.infer in (pre.0, (infer.ensures.kept, infer.ensures.here))

pub returns-then-any_contradicts : goal.returns-then-any_contradicts
returns-then-any_contradicts g c = (
  c.levels.ensures.1,
  checked_sixteen (rw c.used.ensures at c.levels.ensures.0) _ _ _ _ _ c.in-Some.is
      c.infer.ensures _
      c.any_contradicts.ensures
      c.if-any_contradicts.true,
)

pub returns : goal.returns
returns g c = let levels = c.levels in
    let infer = c.infer in (
      levels.ensures.1,
      checked_clear (rw c.used.ensures at levels.ensures.0) _ _ _ _ _ c.in-Some.is infer.ensures _ c.any_contradicts.ensures
          c.if-any_contradicts.false,
    )
