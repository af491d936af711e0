-- The variables' rows, read into histories and written anew. Assumes nothing: these are definitions.
use Rattle.std.specs.Prelude.{◌≡◌, List, ℕ, ◌<◌, ◌≤◌, length, get_or}
use Rattle.definition.specs.Store.{get, num_loc, need_of}
use Rattle.definition.specs.Types.{Struct}
use Rattle.table.specs.State.{seen}
use Rattle.table.specs.Did.{held, tables}
use Rattle.table.specs.declared.Used.{Used}
use Rattle.table.specs.declared.state.State.{State}
use Rattle.table.specs.declared.Touched.TheVariants.{Any}
use Rattle.history.specs.History.{no_binding, no_mark, find_binding, words_of}
use Rattle.history.specs.declared.Binding.{Binding}
use Rattle.history.specs.declared.Mark.{Mark}
use Rattle.history.specs.Past.{as_rows}
use Rattle.history.specs.declared.Past.{Past}
use Rattle.history.specs.declared.rows.Entries.{Entries}

-- the histories say what the rows of these words do, with a binding for each variable at most, and no word was written
pub record Loads (w : List ℕ) (u : Used) (p : Past) : Type 0 where
  pub words : p.st.words.now ≡ w
  pub used : p.st.used ≡ u
  pub few : p.bound ≤ u.vars
  pub is : (ds : List Struct) → held (as_rows p) ds ≡ seen w u ds

-- the first n bindings are those that the first i rows of s have
pub record LoadedBindings (s : State) (i : ℕ) (h : List Binding) (n : ℕ) : Type 0 where
  pub size : length h ≡ 5120
  pub few : n ≤ i
  pub vars : (j : ℕ) → j < n → (get_or h j no_binding).tvar < i
  pub nodes : (j : ℕ) → j < n → (get_or h j no_binding).node < s.used.nodes
  pub is : (v : ℕ) → v < i → find_binding h n v ≡ get (tables s) v

-- entry v has the mark and the need of row v, for the first i
pub record LoadedMarks (s : State) (i : ℕ) (m : List Mark) : Type 0 where
  pub size : length m ≡ 2048
  pub is : (v : ℕ) → v < i → get_or m v no_mark ≡ record { tvar = v; numeric = num_loc (tables s) v; need = need_of (tables s) v }

-- the entries of p
abbrev pub entries_of : Past → Entries
entries_of p = record { bindings = p.bindings; bound = p.bound; marks = p.marks; marked = p.marked }

-- each entry is there, and of a variable that has a row
pub record InRows (e : Entries) : Type 0 where
  pub bindings_size : e.bound ≤ length e.bindings
  pub marks_size : e.marked ≤ length e.marks
  pub vars_bound : (i : ℕ) → i < e.bound → (get_or e.bindings i no_binding).tvar < 1024
  pub vars_marked : (i : ℕ) → i < e.marked → (get_or e.marks i no_mark).tvar < 1024

-- the state s became t: it has the words that p's run came to, and the rows say what the histories do
pub record Stores (p : Past) (s t : State) : Type 0 where
  pub words : t.words.now ≡ words_of p.st.words.now p.bindings p.bound p.marks p.marked
  pub used : t.used ≡ p.st.used
  pub name : t.words.ghost_name ≡ s.words.ghost_name
  pub saved : t.saved ≡ s.saved
  pub touched : t.touched ≡ Any
