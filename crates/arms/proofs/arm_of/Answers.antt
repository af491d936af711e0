-- `arms::arm_of` meets its contract. Assumes nothing.
use borrow.Enum.Refused.{opened}
use mathlib.Core.Path.{refl, sym, ◌∙◌}
use Rattle.definition.specs.Store.{with_args}
use Rattle.definition.specs.Join.{arm, join_arm}
use Rattle.definition.specs.Links.{links_arm}
use Rattle.arms.specs.Arms.{by_arm, links_by_arm}
use Rattle.arms.proofs.Guards.{var_other, error_other, unit_unlike, ref_unlike, param_unlike, apply_unlike}
use Rattle.arms.proofs.arm_of.Goals.{in_default-via-in-Unit+in_default, in_default-via-in-Ref+in_default, in_default-via-in-Param+in_default, in_default-via-in-Apply+in_default}
use Rattle.arms.proofs.arm_of.Goals as goal

pub returns-in-Anything-default : goal.returns-in-Anything-default
unfolding arm join_arm by_arm with_args links_arm links_by_arm
returns-in-Anything-default c = rw c.in-Anything-default.is-0 (record { is = λ J s l r. refl; links = λ J L s l r. refl; below = λ args n a b. tt })

pub returns-in-Unit-Unit : goal.returns-in-Unit-Unit
unfolding arm join_arm by_arm with_args links_arm links_by_arm
returns-in-Unit-Unit c = let a = c.in-Unit-Unit in rw (a.is-0, a.is-1) (record { is = λ J s l r. refl; links = λ J L s l r. refl; below = λ args n a b. tt })

pub returns-then-eq : goal.returns-then-eq
unfolding arm join_arm by_arm with_args links_arm links_by_arm
returns-then-eq c = let a = c.in-Param-Param in
    let e = sym c.eq.ensures ∙ c.if-eq.true in
    rw (a.is-0, a.is-1) (record { is = λ J s l r. rw e; links = λ J L s l r. refl; below = λ args n a b. tt })

pub returns-else-eq : goal.returns-else-eq
unfolding arm join_arm by_arm with_args links_arm links_by_arm
returns-else-eq c = let a = c.in-Param-Param in
    let e = sym c.eq.ensures ∙ c.if-eq.false in
    rw (a.is-0, a.is-1) (record { is = λ J s l r. rw e; links = λ J L s l r. refl; below = λ args n a b. tt })

pub returns-then-eq-2 : goal.returns-then-eq-2
unfolding arm join_arm by_arm with_args links_arm links_by_arm
returns-then-eq-2 c = let a = c.in-Var-Var in
    let e = sym c.eq-in-Var-Var.ensures ∙ c.if-eq-2.true in
    rw (a.is-0, a.is-1) (record { is = λ J s l r. rw e; links = λ J L s l r. rw e; below = λ args n a b. tt })

pub returns-else-eq-2 : goal.returns-else-eq-2
unfolding arm join_arm by_arm with_args links_arm links_by_arm
returns-else-eq-2 c = let a = c.in-Var-Var in
    let e = sym c.eq-in-Var-Var.ensures ∙ c.if-eq-2.false in
    rw (a.is-0, a.is-1) (record { is = λ J s l r. rw e; links = λ J L s l r. rw e; below = λ args n a b. tt })

pub returns-in-Var-Anything : goal.returns-in-Var-Anything
unfolding arm join_arm by_arm with_args links_arm links_by_arm
returns-in-Var-Anything c = let a = c.in-Var-Anything in rw (a.is-0, a.is-1) (record { is = λ J s l r. refl; links = λ J L s l r. refl; below = λ args n a b. tt })

pub returns-in-Var-default : goal.returns-in-Var-default
returns-in-Var-default c = let a = c.in-Var-default in rw a.is-0 (var_other _ _ c.args.rhs (opened a.in-Var-default-own.keys3))

pub returns-in-UnresolvedError-Var : goal.returns-in-UnresolvedError-Var
unfolding arm join_arm by_arm with_args links_arm links_by_arm
returns-in-UnresolvedError-Var c = let a = c.in-UnresolvedError-Var in rw (a.is-0, a.is-1) (record { is = λ J s l r. refl; links = λ J L s l r. refl; below = λ args n a b. tt })

pub returns-in-UnresolvedError-Anything : goal.returns-in-UnresolvedError-Anything
unfolding arm join_arm by_arm with_args links_arm links_by_arm
returns-in-UnresolvedError-Anything c = let a = c.in-UnresolvedError-Anything in rw (a.is-0, a.is-1) (record { is = λ J s l r. refl; links = λ J L s l r. refl; below = λ args n a b. tt })

pub returns-in-UnresolvedError-default : goal.returns-in-UnresolvedError-default
returns-in-UnresolvedError-default c = let a = c.in-UnresolvedError-default in rw a.is-0 (error_other _ c.args.rhs (opened a.in-UnresolvedError-default-own.keys3))

pub returns-in_default : goal.returns-in_default
returns-in_default c = elim c.in_default.branch [
  | in_default-via-in-Unit+in_default w ↦ let a = w.in_default in c.arm_other.ensures _ _ (rw a.is-0 (unit_unlike _ a.not-Unit-1))
  | in_default-via-in-Ref+in_default w ↦ let a = w.in_default in c.arm_other.ensures _ _ (rw a.is-0 (ref_unlike _ _ _ a.not-Ref-1))
  | in_default-via-in-Param+in_default w ↦ let a = w.in_default in c.arm_other.ensures _ _ (rw a.is-0 (param_unlike _ _ _ a.not-Param-1))
  | in_default-via-in-Apply+in_default w ↦ let a = w.in_default in c.arm_other.ensures _ _ (rw a.is-0 (apply_unlike _ _ a.not-Apply-1))
]
