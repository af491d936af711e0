-- `sound::chain_fine` meets its contract. Assumes nothing.
use Rattle.std.proofs.Common.{sym, ◌∙◌, le-leb}
use Rattle.std.proofs.lemmas.Bool.{lt-leb}
use Rattle.sound.proofs.Links.{chain_counted}
use Rattle.sound.proofs.chain_fine.Goals as goal

pub returns-in-Some-clause-fine : goal.returns-in-Some-clause-fine
returns-in-Some-clause-fine c = sym (chain_counted _ _ _ _ c.in-Some.ensures ∙ le-leb _ _ c.if-n-lent.true)

pub returns-in_default-clause-fine : goal.returns-in_default-clause-fine
returns-in_default-clause-fine c = sym (chain_counted _ _ _ _ c.in-Some.ensures ∙ lt-leb _ _ c.if-n-lent.false)
