-- `table::one_row::node_in` meets its contract. Assumes nothing.
use mathlib.Core.Path.{sym, ap, ◌∙◌}
use Rattle.table.specs.declared.NodeWords.{NodeWords}
use Rattle.table.specs.Rows.{read_node, read_shape}
use Rattle.table.proofs.Fields.{node_row}
use Rattle.table.proofs.one_row.node_in.Goals as goal

pub returns : goal.returns
unfolding read_node
returns c =
    (λ i. record { loc = c.node_words_at-r.result.loc; value = c.shape_at-shape.ensures i })
    ∙ ap (λ (x : NodeWords). record { loc = x.loc; value = read_shape x.tag x.a x.b x.c x.d }) c.node_words_at-r.ensures
    ∙ sym (ap read_node (node_row c.args.w.now c.args.t))
