-- `split::split_trusted` meets its contract. Assumes nothing.
use native.Mathlib.Omega.{arith}
use mathlib.Core.Path.{◌∙◌}
use Rattle.lent.proofs.Passed.{stands_lent, lent_size, lent_lays}
use Rattle.split.proofs.Laws.{rest_all, sound_rest}
use Rattle.split.proofs.split_trusted.Goals as goal

pub used_of-used-requires : goal.used_of-used-requires
used_of-used-requires c = lent_size _ _ c.requires

pub new-st-requires : goal.new-st-requires
new-st-requires c = lent_lays _ _ c.requires _ c.used_of-used.ensures

pub rest_trusted-n-requires : goal.rest_trusted-n-requires
rest_trusted-n-requires c =
    let n = c.new-st.ensures in
    let u = c.used_of-used.ensures in
    record { stands = (stands_lent _ _ c.requires c.new-st.result n.0 (n.1.0 ∙ u), (rw n.0 (n.1.0 ∙ u), (omega arith, λ v p. absurd (omega (arith, p, n.1.1.1))))); list = omega arith }

pub returns-clause-rest : goal.returns-clause-rest
returns-clause-rest c =
    let n = c.new-st.ensures in
    rest_all c.args.stream.now c.rest_trusted-n.result ∙ sound_rest _ _ c.requires c.new-st.result n.0 (n.1.0 ∙ c.used_of-used.ensures) _ _ c.rest_trusted-n.ensures.rest
