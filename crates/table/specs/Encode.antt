-- The words of a state, outright: the five counts, then every row of every table, blank rows past the counts. Assumes nothing: these are definitions.
use Rattle.std.specs.Prelude.{List, [], ◌∷◌, ◌++◌, ℕ, length, get_or}
use Rattle.definition.specs.Types.{State}
use Rattle.definition.specs.Store.{count, taken}
use Rattle.table.specs.Tab.{tab}
use Rattle.table.specs.Rows.{Table, node_table, arg_table, var_table, constraint_table, struct_table}

unfoldable pub flat : List (List ℕ) → List ℕ
flat [] = []
flat (r ∷ rs) = r ++ flat rs

unfoldable pub table_words : {A : Type 0} → Table A → List A → List ℕ
table_words T l = flat (tab T.rows (λ i. T.write (get_or l i T.blank)))

unfoldable pub counts : State → List ℕ
counts s = count s ∷ length s.args ∷ taken s ∷ length s.constraints ∷ length s.structs ∷ []

unfoldable pub encode : State → List ℕ
encode s =
    counts s
    ++ (table_words node_table s.nodes
    ++ (table_words arg_table s.args
    ++ (table_words var_table s.vars
    ++ (table_words constraint_table s.constraints ++ table_words struct_table s.structs))))
