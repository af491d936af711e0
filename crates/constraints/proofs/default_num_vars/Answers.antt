-- `constraints::default_num_vars` meets its contract. Assumes nothing.
use Rattle.std.proofs.Common.{refl, arith, rules}
use Rattle.constraints.proofs.Defaults.{defaulting_none, defaulting_all, defaulting_stop, defaulting_more, measured_none, marked_some}
use Rattle.constraints.proofs.default_num_vars.Goals as goal
use Rattle.constraints.proofs.default_num_vars.Goals.{in-Some+in_ok-default_num_var, in_default}

pub loop-v-init : goal.loop-v-init
loop-v-init c = defaulting_none _

pub saved_mark-requires : goal.saved_mark-requires
saved_mark-requires c = (omega (arith, c.loop-v-test.true, c.args.st.now.lay.vars), c.requires.1)

pub tvar-requires : goal.tvar-requires
tvar-requires c = omega (arith, c.loop-v-test.true, c.args.st.now.lay.vars)

pub returns-in_err-default_num_var : goal.returns-in_err-default_num_var
returns-in_err-default_num_var c =
    defaulting_stop _ c.loop-v.invariant c.loop-v-test.true _ c.requires.0 c.saved_mark.ensures c.tvar.ensures
    (marked_some _ c.in-Some.is c.in_err-default_num_var.ensures) (search rules)

pub loop-v-preserved : goal.loop-v-preserved
loop-v-preserved c =
    elim c.match-saved_mark.branch [
      | in-Some+in_ok-default_num_var w ↦
          rw w.st-is
          (defaulting_more _ c.loop-v.invariant c.loop-v-test.true _ c.requires.0 c.saved_mark.ensures w.tvar.ensures
          (marked_some _ w.in-Some.is w.in_ok-default_num_var.ensures))
      | in_default w ↦
          rw w.st-is
          (defaulting_more _ c.loop-v.invariant c.loop-v-test.true _ c.requires.0 c.saved_mark.ensures refl (measured_none _ _ w.in_default.is))
    ]

pub returns : goal.returns
returns c = defaulting_all _ c.loop-v.invariant (omega arith)
