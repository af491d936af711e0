-- `sound::sound_state` meets its contract. Assumes nothing.
-- Each early return: one test fails, so no sound state has these words. At the last return all have passed (`last_test`); Tested shows that they are enough.
use Rattle.std.proofs.Common.{sym, ◌∙◌, arith}
use Rattle.sound.proofs.Owned.{table_of}
use Rattle.sound.proofs.Tested.{sized, no_size, no_counts, no_tables, last_test}
use Rattle.sound.proofs.sound_state.Goals as goal

pub returns-then-w-ne-WORDS : goal.returns-then-w-ne-WORDS
returns-then-w-ne-WORDS c = sym (no_size _ _ c.if-w-ne-WORDS.true)

pub returns-then-not-counts_fine : goal.returns-then-not-counts_fine
returns-then-not-counts_fine c = sym (no_counts _ _ _ c.used_of-used.ensures (sym c.counts_fine.ensures ∙ c.if-not-counts_fine.true))

pub invariant_of-lent : goal.invariant_of-lent
invariant_of-lent c = record { sized = sized _ _ c.if-w-ne-WORDS.false (sym c.counts_fine.ensures ∙ c.if-not-counts_fine.false) }

pub returns-then-tables_fine : goal.returns-then-tables_fine
returns-then-tables_fine c = c.chains_fine.ensures ∙ last_test _ _ _ c.used_of-used.ensures
    (λ k. omega (arith, c.type_inv.w k)) (table_of _ c.well_formed.1.0.0 c.well_formed.1.0.1.0.1 c.well_formed.1.0.1.1)
    (sized _ _ c.if-w-ne-WORDS.false (sym c.counts_fine.ensures ∙ c.if-not-counts_fine.false))
    (sym c.tables_fine.ensures ∙ c.if-tables_fine.true)

pub returns-else-tables_fine : goal.returns-else-tables_fine
returns-else-tables_fine c = c.if-tables_fine.false ∙ sym (no_tables _ _ _ c.used_of-used.ensures
    (λ k. omega (arith, c.type_inv.w k)) (table_of _ c.well_formed.1.0.0 c.well_formed.1.0.1.0.1 c.well_formed.1.0.1.1)
    (sym c.tables_fine.ensures ∙ c.if-tables_fine.false))
