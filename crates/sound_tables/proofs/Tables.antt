-- The tests of the tables, one by one and joined. Assumes nothing.
use mathlib.Core.Path.{◌≡◌}
use mathlib.Core.Bool.{true, ◌&&◌}
use mathlib.Core.List.{List}
use Prim.Native.Nat.{ℕ}
use Rattle.table.specs.declared.Used.{Used}
use Rattle.sound_fields.specs.Fields.{all_below}
use Rattle.sound_rows.specs.Rows.{struct_fine, node_fine, cell_fine, constraint_fine}
use Rattle.sound_tables.specs.Tables.{tails_fine, bytes_fine, tables_fine}
use Rattle.sound_fields.proofs.Below.{and_l, and_r, both}

pub record Tables (w : List ℕ) (u : Used) (p : List (List ℕ)) : Type 0 where
  pub tails : tails_fine w u ≡ true
  pub structs : all_below u.structs (struct_fine w) ≡ true
  pub bytes : all_below 256 (bytes_fine w u p) ≡ true
  pub nodes : all_below u.nodes (node_fine w u) ≡ true
  pub cells : all_below u.vars (cell_fine w u) ≡ true
  pub constraints : all_below u.constraints (constraint_fine w u) ≡ true

module _ (w : List ℕ) (u : Used) (p : List (List ℕ)) where
  pub tables_say : tables_fine w u p ≡ true → Tables w u p
  unfolding tables_fine
  tables_say e =
      let A = tails_fine w u in
      let B = all_below u.structs (struct_fine w) in
      let C = all_below 256 (bytes_fine w u p) in
      let D = all_below u.nodes (node_fine w u) in
      let E = all_below u.vars (cell_fine w u) in
      let F = all_below u.constraints (constraint_fine w u) in
      let e5 = and_l (A && B && C && D && E) F e in
      let e4 = and_l (A && B && C && D) E e5 in
      let e3 = and_l (A && B && C) D e4 in
      let e2 = and_l (A && B) C e3 in
      record {
        tails = and_l A B e2;
        structs = and_r A B e2;
        bytes = and_r (A && B) C e3;
        nodes = and_r (A && B && C) D e4;
        cells = and_r (A && B && C && D) E e5;
        constraints = and_r (A && B && C && D && E) F e;
      }

  pub tables_are : Tables w u p → tables_fine w u p ≡ true
  unfolding tables_fine
  tables_are h = both _ _ (both _ _ (both _ _ (both _ _ (both _ _ h.tails h.structs) h.bytes) h.nodes) h.cells) h.constraints
