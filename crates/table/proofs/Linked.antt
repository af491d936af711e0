-- What a store says of the rows of the variables: a row of another table leaves them all, a variable's own leaves the others. Assumes nothing.
use mathlib.Core.Path.{◌≡◌, subst}
use mathlib.Core.List.{List}
use Prim.Native.Nat.{ℕ, ◌+◌, ◌*◌, ◌<◌, ◌≤◌}
use native.Mathlib.Omega.{arith}
use Rattle.table.specs.Rows.{var_table}
use Rattle.table.specs.State.{Wrote}
use Rattle.table.specs.Touched.{Untouched, Touches}
use Rattle.table.specs.Did.{Linked}
use Rattle.table.specs.declared.Touched.{Touched}
use Rattle.table.specs.declared.state.State.{State}
use Rattle.table.proofs.Rows.{Same, apart, row_same}

pub node_apart : (w : List ℕ) (n : ℕ) (r w' : List ℕ) → n < 2048 → Wrote w (5 + n * 6) 6 r w' → Same var_table w w'
node_apart w n r w' lt h = apart var_table w (5 + n * 6) 6 r w' h (λ i k l p q s e. omega arith)

pub args_apart : (w : List ℕ) (first n : ℕ) (r w' : List ℕ) → first + n ≤ 4096 → Wrote w (12293 + first) n r w' → Same var_table w w'
args_apart w first n r w' le h = apart var_table w (12293 + first) n r w' h (λ i k l p q s e. omega arith)

pub constraint_apart : (w : List ℕ) (n : ℕ) (r w' : List ℕ) → Wrote w (21509 + n * 4) 4 r w' → Same var_table w w'
constraint_apart w n r w' h = apart var_table w (21509 + n * 4) 4 r w' h (λ i k l p q s e. omega arith)

pub struct_apart : (w : List ℕ) (n : ℕ) (r w' : List ℕ) → Wrote w (23557 + n * 2) 2 r w' → Same var_table w w'
struct_apart w n r w' h = apart var_table w (23557 + n * 2) 2 r w' h (λ i k l p q s e. omega arith)

pub counts_apart : (w r w' : List ℕ) → Wrote w 0 5 r w' → Same var_table w w'
counts_apart w r w' h = apart var_table w 0 5 r w' h (λ i k l p q s e. omega arith)

module _ {s t : State} (name : t.words.ghost_name ≡ s.words.ghost_name) (saved : t.saved ≡ s.saved) where
  -- nothing is noted, and no row of a variable is written
  pub linked_same : t.touched ≡ s.touched → Same var_table s.words.now t.words.now → Linked s t
  linked_same e h = record { name = name; saved = saved; rows = λ v p q f. (subst (λ (x : Touched). Untouched x v) e f, h v p) }

  -- the row of variable v is written, and v noted
  pub linked_cell : (v : ℕ) (r : List ℕ) → Wrote s.words.now (16389 + v * 5) 5 r t.words.now → Touches s.saved v s.touched t.touched → Linked s t
  linked_cell v r h m =
      record {
        name = name;
        saved = saved;
        rows = λ x p q f.
            let n = m x q f in
            (n.0, row_same var_table s.words.now t.words.now x (λ k l. h.there (16389 + x * 5 + k) (λ j d e. n.1 (omega arith))));
      }
