-- `tparams::TParamSubst::get_from` meets its contract. Assumes nothing.
use mathlib.Core.Path.{◌≡◌, ◌∙◌}
use mathlib.Core.Bool.{true, false}
use lib.Dec.{eqb}
use lib.ListN.{get_or}
use Rattle.std.specs.Option.{option_map}
use Rattle.std.proofs.Common.{rules, tests}
use Rattle.std.proofs.lemmas.Iterator.{first_from_Range}
use Rattle.tparams.specs.Pairs.{id_at}
use Rattle.tparams.proofs.PairLaws.{first_arg}
use Rattle.tparams.proofs.substitution.TParamSubst.get_from.Goals as goal

pub returns : goal.returns
returns c =
    let subst = c.args.self.now in
    let told : c.map.result ≡ option_map (λ k. get_or subst.args k 0) c.find.result = search rules in
    told ∙ first_arg subst.ids subst.args c.args.id.0 subst.many c.args.i c.find.result
    (first_from_Range _ _ _ c.find.result (λ k. eqb (id_at subst.ids k) c.args.id.0 ≡ true) (λ k. eqb (id_at subst.ids k) c.args.id.0 ≡ false) c.find.ensures.ran (λ x q k. search (rules, tests)) (λ x q k. search (rules, tests)))
