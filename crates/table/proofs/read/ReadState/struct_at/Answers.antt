-- `table::ReadState::struct_at` meets its contract. Assumes nothing.
use Rattle.definition.specs.Types.{Struct}
use lib.ListN.{length}
use mathlib.Core.Path.{sym, ap, ◌∙◌}
use Rattle.table.specs.declared.StructWords.{StructWords}
use Rattle.table.proofs.Fields.{struct_read, struct_beyond}
use Rattle.table.proofs.read.ReadState.struct_at.Goals as goal

pub returns-then-n-used : goal.returns-then-n-used
returns-then-n-used g c = let e = rw c.words.ensures at c.struct_words_at-r.ensures in
    λ ds h. let r = struct_read _ _ ds _ h (rw c.used.ensures at c.if-n-used.true) in
    (rw e at c.set_at.ensures ∙ r.0, ap (λ (x : StructWords). x.params) e ∙ r.1)

pub returns-else-n-used : goal.returns-else-n-used
returns-else-n-used g c = λ ds h. let e = struct_beyond _ _ ds _ h (rw c.used.ensures at c.if-n-used.false) in (ap (λ (x : Struct). x.abilities) (sym e), ap (λ (x : Struct). length x.params) (sym e))
