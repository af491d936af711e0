-- The list of constraints, emptied: its rows are zeroed at once. Assumes nothing.
use Rattle.std.proofs.Common.{◌≡◌, ℕ, ◌+◌, ◌-◌, ◌*◌, ◌<◌, ◌≤◌, List, [], get_or, sym, refl, ap, ◌∙◌, subst, arith}
use native.Mathlib.Decide.{dec_lt}
use Rattle.definition.specs.Types.{State, Constraint, AbilityConstraint}
use Rattle.definition.specs.Store.{with_constraints, with_structs}
use Rattle.table.specs.Tab.{tab}
use Rattle.table.specs.Rows.{row, entries, Clean, constraint_words, node_table, arg_table, var_table, constraint_table, struct_table}
use Rattle.table.specs.State.{view, seen, Lay, Inside, Wrote}
use Rattle.table.specs.Did.{tables, Linked}
use Rattle.table.specs.declared.Used.{Used}
use Rattle.table.specs.declared.state.State as t
use Rattle.table.proofs.Rows.{entry_out, row_same, Same, same_entries, same_clean, apart}
use Rattle.table.proofs.States.{inside_constraints}
use Rattle.snapshot.proofs.Back.{zero_row}
use Rattle.constraints.specs.Emptied.{Emptied}

abbrev blank : Constraint
blank = AbilityConstraint 0 0 0

blank_row : constraint_words blank ≡ tab 4 (λ k. 0)
unfolding tab constraint_words
blank_row = refl

module _ (w : List ℕ) (u : Used) (h : Lay w u) (w' : List ℕ) (z : Wrote w (21509 + 0 * 4) ((u.constraints - 0) * 4) [] w') where
  few : u.constraints ≤ 512
  few = h.constraints

  c_nodes : Same node_table w w'
  c_nodes = let x = few in apart node_table w (21509 + 0 * 4) ((u.constraints - 0) * 4) [] w' z (λ i k l p q s e. omega arith)

  c_args : Same arg_table w w'
  c_args = let x = few in apart arg_table w (21509 + 0 * 4) ((u.constraints - 0) * 4) [] w' z (λ i k l p q s e. omega arith)

  pub c_vars : Same var_table w w'
  c_vars = let x = few in apart var_table w (21509 + 0 * 4) ((u.constraints - 0) * 4) [] w' z (λ i k l p q s e. omega arith)

  c_structs : Same struct_table w w'
  c_structs = let x = few in apart struct_table w (21509 + 0 * 4) ((u.constraints - 0) * 4) [] w' z (λ i k l p q s e. omega arith)

  -- every row is blank
  cleared : Clean constraint_table w' 0
  unfolding Clean
  cleared i p = by (dec_lt i u.constraints) ∙ ap constraint_words (sym (entry_out constraint_table w' 0 i blank (omega arith)))
    where
      by : Dec (i < u.constraints) → row constraint_table w' i ≡ constraint_words blank
      by (yes l) = zero_row constraint_table w' i (λ k q.
          let e : 21509 + 0 * 4 + (i * 4 + k) ≡ 21509 + i * 4 + k = omega arith in
          sym (ap (λ (y : ℕ). get_or w' y 0) e) ∙ z.here (i * 4 + k) (omega arith)) ∙ sym blank_row
      by (no l) =
          row_same constraint_table w w' i (λ k q. z.there (21509 + i * 4 + k) (λ j t e. omega arith))
          ∙ h.clean_constraints i p
          ∙ ap constraint_words (entry_out constraint_table w u.constraints i blank (omega arith))

  abbrev none_used : Used
  none_used = record { nodes = u.nodes; args = u.args; vars = u.vars; constraints = 0; structs = u.structs }

  pub emptied_view : view w' none_used ≡ with_constraints (view w u) []
  unfolding view with_constraints entries tab
  emptied_view =
      λ i. record {
        nodes = same_entries node_table w w' u.nodes c_nodes h.nodes i;
        args = same_entries arg_table w w' u.args c_args h.args i;
        vars = same_entries var_table w w' u.vars c_vars h.vars i;
        constraints = [];
        structs = same_entries struct_table w w' u.structs c_structs h.structs i;
      }

  pub emptied_lay : Lay w' none_used
  emptied_lay =
      record {
        size = z.size ∙ h.size;
        nodes = h.nodes;
        args = h.args;
        vars = h.vars;
        constraints = omega arith;
        structs = h.structs;
        clean_nodes = same_clean node_table w w' u.nodes c_nodes h.nodes h.clean_nodes;
        clean_args = same_clean arg_table w w' u.args c_args h.args h.clean_args;
        clean_vars = same_clean var_table w w' u.vars c_vars h.vars h.clean_vars;
        clean_constraints = cleared;
        clean_structs = same_clean struct_table w w' u.structs c_structs h.structs h.clean_structs;
        inside = subst Inside (sym emptied_view) (inside_constraints (view w u) _ h.inside);
      }

pub emptied : {s e : t.State} → Linked s e → tables e ≡ with_constraints (tables s) [] → Emptied s e
unfolding with_constraints seen with_structs
emptied {s} {e} same is = record { same = same; structs = ap (λ (x : State). x.structs) is; is = λ ds. ap (λ (x : State). with_structs x ds) is }
