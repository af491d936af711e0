-- `solve::solve_from` meets its contract. Assumes nothing.
use mathlib.Core.Path.{refl}
use Rattle.answer.proofs.Calls.{kept_never}
use Rattle.solve.proofs.Left.{fits, still_declared}
use Rattle.solve.proofs.Answers.{grown_from, solved_done, solved_stop}
use Rattle.solve.proofs.solve_from.Goals as goal

pub default_num_vars-requires : goal.default_num_vars-requires
default_num_vars-requires g c = (c.requires.1.0.0.1, c.args.before.long)

pub solve_all-requires : goal.solve_all-requires
solve_all-requires g c = let p = c.requires in
    let d = c.in-Ok.ensures in
    let fit = fits d p.1.1 tt in
    (grown_from c.args.before c.args.st.now c.default_num_vars.new.st p.0.0 p.0.1 p.1.0.0.0 p.1.0.0.1 d.changed.same d.changed.step.grown, (fit.0, (fit.1, (still_declared d p.1.1, p.1.0.1))))

pub settle-requires : goal.settle-requires
settle-requires g c = let p = c.requires in
    let d = c.in-Err.ensures in
    (grown_from c.args.before c.args.st.now c.default_num_vars.new.st p.0.0 p.0.1 p.1.0.0.0 p.1.0.0.1 d.changed.same d.changed.step.grown, ((d.inside, ((λ k. (fits d p.1.1 k).1), p.1.0.1)), λ t e f. kept_never refl f))

pub returns-in-Ok : goal.returns-in-Ok
returns-in-Ok g c = solved_done c.args.before c.args.st.now _ c.requires.0.0 c.requires.0.1 c.in-Ok.ensures c.solve_all.ensures

pub returns-in-Err : goal.returns-in-Err
returns-in-Err g c = solved_stop c.args.before c.args.st.now _ c.requires.0.0 c.requires.0.1 c.in-Err.ensures c.settle.ensures
