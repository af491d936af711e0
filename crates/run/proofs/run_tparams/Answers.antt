-- `run::run_tparams` meets its contract. Assumes nothing.
use mathlib.Core.Path.{sym, ap, ◌∙◌}
use Rattle.tparams.specs.Made.{made}
use Rattle.run.specs.Dispatch.{run_of, step_of, tail_of}
use Rattle.run.proofs.Laws.{ran_tparams, ran_twice}
use Rattle.run.proofs.run_tparams.Goals as goal

pub make_tparam_subst-requires : goal.make_tparam_subst-requires
make_tparam_subst-requires c = c.requires.1.few

pub subst_tparams-requires : goal.subst_tparams-requires
subst_tparams-requires c =
    let kept = c.make_tparam_subst.ensures.kept _ c.in-Some.is in
    (c.requires.0, rw (kept.0, kept.1) c.requires.1)

pub returns-in-Some : goal.returns-in-Some
unfolding run_of step_of tail_of
returns-in-Some c = ran_tparams _ _ _ (sym (ap made c.in-Some.is) ∙ c.make_tparam_subst.ensures.made) c.subst_tparams.ensures c.shown.ensures

pub returns-in-None : goal.returns-in-None
unfolding run_of step_of tail_of
returns-in-None c = ran_twice _ _ (sym (ap made c.in-None.is) ∙ c.make_tparam_subst.ensures.made) c.shown-in-None.ensures
