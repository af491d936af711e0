-- The declarations that words and bytes hold, once the words have changed. Assumes nothing.
use mathlib.Core.Path.{◌≡◌, sym, ap, ◌∙◌}
use mathlib.Core.List.{List}
use Prim.Native.Nat.{ℕ}
use native.Mathlib.Omega.{arith}
use lib.ListN.{length}
use Rattle.definition.specs.Types.{Struct}
use Rattle.table.specs.Rows.{struct_table}
use Rattle.table.specs.State.{view}
use Rattle.table.specs.Known.{Known}
use Rattle.table.specs.declared.Used.{Used}
use Rattle.table.proofs.Rows.{length_entries}

structs_view : (w : List ℕ) (u : Used) → length (view w u).structs ≡ u.structs
unfolding view
structs_view w u = length_entries struct_table w u.structs

pub known_kept : (w : List ℕ) (u : Used) (w' : List ℕ) (u' : Used) (params : List (List ℕ)) → (view w' u').structs ≡ (view w u).structs → (ds : List Struct) → Known w u params ds → Known w' u' params ds
known_kept w u w' u' params e ds k =
    let same : u'.structs ≡ u.structs = sym (structs_view w' u') ∙ ap length e ∙ structs_view w u in
    record {
      rows = record {
        many = k.rows.many ∙ sym same;
        abilities = λ i lt. rw e (k.rows.abilities i (omega (arith, same)));
        params = λ i lt. rw e (k.rows.params i (omega (arith, same)));
      };
      bytes = k.bytes;
    }
