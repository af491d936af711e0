-- Histories of bindings and marks, and the words that say the same in the rows of the variables. Assumes nothing: these are definitions.
use Rattle.std.specs.Prelude.{◌≡◌, List, ℕ, zero, suc, ◌+◌, ◌-◌, ◌/◌, ◌%◌, ◌<◌, ◌≤◌, eqb, ltb, length, get_or, if◌then◌else◌}
use Rattle.std.specs.Prelude.{Option, None, Some}
use Rattle.definition.specs.Types.{Cell}
use Rattle.table.specs.Tab.{tab}
use Rattle.table.specs.Rows.{cell_words}
use Rattle.table.specs.State.{Lay, view}
use Rattle.table.specs.declared.Used.{Used}
use Rattle.history.specs.Room.{room}
use Rattle.history.specs.declared.Binding.{Binding}
use Rattle.history.specs.declared.Mark.{Mark}

-- what stands past the entries
abbrev pub no_binding : Binding
no_binding = record { tvar = 0; node = 0 }

abbrev pub no_mark : Mark
no_mark = record { tvar = 0; numeric = None; need = 0 }

-- what variable v is bound to by the first n entries: the newest of v counts
unfoldable pub find_binding : List Binding → ℕ → ℕ → Option ℕ
find_binding h zero v = None
find_binding h (suc n) v = if eqb (get_or h n no_binding).tvar v then Some (get_or h n no_binding).node else find_binding h n v

-- v's mark and need by the first k entries
unfoldable pub find_mark : List Mark → ℕ → ℕ → Mark
find_mark m zero v = no_mark
find_mark m (suc k) v = if eqb (get_or m k no_mark).tvar v then get_or m k no_mark else find_mark m k v

unfoldable pub cell_of : List Binding → ℕ → List Mark → ℕ → ℕ → Cell
cell_of h n m k v = record { binding = find_binding h n v; numeric = (find_mark m k v).numeric; need = (find_mark m k v).need }

-- the words w, but the variables' rows are those of the histories
unfoldable pub word_of : List ℕ → List Binding → ℕ → List Mark → ℕ → ℕ → ℕ
word_of w h n m k j =
    if ltb j 16389 then get_or w j 0
    else if ltb j 21509 then get_or (cell_words (cell_of h n m k ((j - 16389) / 5))) ((j - 16389) % 5) 0
    else get_or w j 0

unfoldable pub words_of : List ℕ → List Binding → ℕ → List Mark → ℕ → List ℕ
words_of w h n m k = tab 24069 (word_of w h n m k)

-- the words and the histories hold a state: entries are of variables and nodes in use, and what the state has room for finds room
pub record Holds (w : List ℕ) (u : Used) (h : List Binding) (n : ℕ) (m : List Mark) (k : ℕ) : Type 0 where
  pub bindings_size : length h ≡ 5120
  pub marks_size : length m ≡ 2048
  pub vars_bound : (i : ℕ) → i < n → (get_or h i no_binding).tvar < u.vars
  pub nodes_bound : (i : ℕ) → i < n → (get_or h i no_binding).node < u.nodes
  pub vars_marked : (i : ℕ) → i < k → (get_or m i no_mark).tvar < u.vars
  pub lay : Lay (words_of w h n m k) u
  pub few_bound : n + room (view (words_of w h n m k) u) ≤ 5120
  pub few_marked : k + (1024 - u.vars) ≤ 2048
