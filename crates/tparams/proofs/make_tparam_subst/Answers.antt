-- `tparams::make_tparam_subst` meets its contract. Assumes nothing.
use Rattle.std.proofs.Common.{rules, tests}
use Rattle.std.proofs.lemmas.Iterator.{YieldsList-from_range}
use Rattle.std.proofs.lemmas.Iterator.Search.{any_from_yields_List}
use native.Mathlib.Omega.{arith}
use mathlib.Core.Path.{refl}
use Rattle.tparams.proofs.PairLaws.{again, made_then}
use Rattle.tparams.proofs.make_tparam_subst.Goals as goal

pub returns-clause-made : goal.returns-clause-made
returns-clause-made c =
    let told = any_from_yields_List (again c.args.ids c.args.args c.args.many) _ _ c.any-twice.result c.any-twice.ensures.ran (YieldsList-from_range 0 c.args.many c.args.many refl (omega arith)) (λ x b q k. search (rules, tests)) in
    rw c.then_some.ensures (made_then _ _ told)
