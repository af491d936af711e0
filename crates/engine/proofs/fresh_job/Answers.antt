-- `engine::fresh_job` meets its contract: cleared words and parameter bytes are those of a fresh state. Assumes nothing.
use mathlib.Core.Path.{ap, ◌∙◌}
use Prim.Native.Nat.{ℕ}
use lib.ListN.{length, replicate}
use Rattle.engine.proofs.Laws.{other_size, unsound_lines}
use Rattle.engine.proofs.Fresh.{no_words, no_params, fresh_lent, from_fresh, not_fresh}
use Rattle.engine.proofs.fresh_job.Goals as goal

pub returns-then-state-ne-WORDS : goal.returns-then-state-ne-WORDS
returns-then-state-ne-WORDS c = let args = c.args in
    let n = c.if-state-ne-WORDS.true in
    rw (not_fresh args.state.now args.params.now args.stream.now (length args.log.now) args.more n)
    (unsound_lines _ _ _ _ _ _ (other_size args.state.now args.params.now n))

pub job_trusted-requires : goal.job_trusted-requires
job_trusted-requires c = fresh_lent _ _ (c.fill.ensures.after (λ y e. e) ∙ ap (λ (n : ℕ). replicate n 0) c.if-state-ne-WORDS.false ∙ no_words) no_params

pub returns : goal.returns
returns c = let args = c.args in
    let same = c.if-state-ne-WORDS.false in
    let zeros = c.fill.ensures.after (λ y e. e) ∙ ap (λ (n : ℕ). replicate n 0) same ∙ no_words in
    rw (from_fresh args.state.now args.params.now args.stream.now (length args.log.now) args.more
    same c.fill.new.self (replicate 256 (replicate 8 0)) zeros no_params)
    c.job_trusted.ensures
