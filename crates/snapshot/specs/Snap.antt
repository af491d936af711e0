-- A snapshot of the variables in use, and what its return does to the state. Assumes nothing: these are definitions.
use Rattle.std.specs.Prelude.{◌≡◌, List, ◌++◌, ℕ, ◌+◌, ◌*◌, ◌≤◌, ◌<◌, length, get_or, replicate}
use Rattle.definition.specs.Types.{unbound}
use Rattle.definition.specs.Store.{with_structs}
use Rattle.definition.specs.Step.{put_back}
use Rattle.table.specs.State.{view, Lay, Grown, Stored}
use Rattle.table.specs.Touched.{Stay}
use Rattle.table.specs.declared.Touched.{Touched}
use Rattle.table.specs.declared.Used.{Used}

-- no table has fewer rows in use
pub record Above (before u : Used) : Type 0 where
  pub nodes : before.nodes ≤ u.nodes
  pub args : before.args ≤ u.args
  pub vars : before.vars ≤ u.vars
  pub constraints : before.constraints ≤ u.constraints
  pub structs : before.structs ≤ u.structs

-- the words of the variables in use
pub record Saved (w : List ℕ) (u : Used) (saved : List ℕ) : Type 0 where
  pub word : (k : ℕ) → k < u.vars * 5 → get_or saved k 0 ≡ get_or w (16389 + k) 0

-- .. as they were saved, and which of the variables were touched since
pub record Rows : Type 0 where
  pub words : List ℕ
  pub touched : Touched

-- w₀ with `before` in use was saved, and w with u in use has grown from it: the variables that are not noted are as they were
pub record Since (w₀ : List ℕ) (before : Used) (r : Rows) (w : List ℕ) (u : Used) : Type 0 where
  pub lay : Lay w₀ before
  pub kept : Saved w₀ before r.words
  pub grown : Grown (view w₀ before) (view w u)
  pub stay : Stay r.touched before.vars w₀ w

-- the definition's put_back: bindings and marks of w₀, all else of w
abbrev pub PutBack : List ℕ → Used → List ℕ → Used → Rows → Type 0
PutBack w u w' before r = (w₀ : List ℕ) → Since w₀ before r w u → Stored w u w' (λ s. put_back (with_structs (view w₀ before) s.structs) s)

-- as many words as the layout has, and no more rows in use than the tables have
pub record Sized (w : List ℕ) (u : Used) : Type 0 where
  pub size : length w ≡ 24069
  pub nodes : u.nodes ≤ 2048
  pub args : u.args ≤ 4096
  pub constraints : u.constraints ≤ 512
  pub structs : u.structs ≤ 256

-- w with u in use has grown from w₀: the variables of w₀ are as they were, and those taken since are blank
pub record Stood (w₀ : List ℕ) (before : Used) (w : List ℕ) (u : Used) : Type 0 where
  pub lay : Lay w₀ before
  pub now : Lay w u
  pub grown : Grown (view w₀ before) (view w u)
  pub blanks : ℕ
  pub vars : (view w u).vars ≡ (view w₀ before).vars ++ replicate blanks unbound

-- the words hold what w₀ held, if its variables stand
abbrev pub GivenBack : List ℕ → Used → List ℕ → Used → Type 0
GivenBack w u w' before = (w₀ : List ℕ) → Stood w₀ before w u → Lay w' before × (view w' before ≡ view w₀ before)

-- the words hold what w₀ held
abbrev pub Undone : List ℕ → Used → List ℕ → Used → Rows → Type 0
Undone w u w' before r = (w₀ : List ℕ) → Since w₀ before r w u → Lay w' before × (view w' before ≡ view w₀ before)
