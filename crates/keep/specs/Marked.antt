-- What is marked to stay, and what of it is not looked into yet. Assumes nothing: these are definitions.
use mathlib.Core.List.{Memᴰ}
use Rattle.std.specs.Prelude.{◌≡◌, ◌⊎◌, Bool, true, false, List, [], ◌∷◌, Option, None, Some, ℕ, suc, ◌+◌, ◌≤◌, ◌<◌, length, get_or}
use Rattle.definition.specs.Types as d
use Rattle.definition.specs.Types.{Var}
use Rattle.definition.specs.Store.{count, taken, type_at, get}
use Rattle.definition.specs.Subst.{parts}
use Rattle.definition.specs.Keep.{Thing, a_node, a_variable, constraint_type, Kept}
use Rattle.table.specs.Rows.{constraint_table}
use Rattle.keep.specs.declared.marks.Marks.{Marks}
use Rattle.keep.specs.declared.marks.Thing as code
use Rattle.keep.specs.declared.marks.Thing.TheVariants as code_thing

abbrev pub thing_of : code.Thing → Thing
thing_of (code_thing.Node t) = a_node t
thing_of (code_thing.Var v) = a_variable v.0

abbrev pub marked : Marks → Thing → Bool
marked m (a_node t) = get_or m.nodes t false
marked m (a_variable v) = get_or m.vars v false

-- x is among those that are not looked into yet
abbrev pub Open : Marks → Thing → Type 0
Open m x = (i : ℕ) × (i < m.many) × (thing_of (get_or m.stack i (code_thing.Node 0)) ≡ x)

-- how many are not marked
unfoldable pub unmarked : List Bool → ℕ
unmarked [] = 0
unmarked (false ∷ l) = suc (unmarked l)
unmarked (true ∷ l) = unmarked l

-- how many are open or may still be opened
abbrev pub ahead : Marks → ℕ
ahead m = m.many + (unmarked m.nodes + unmarked m.vars)

-- there is room for each that is not marked, and all that is open is marked
pub record Fits (m : Marks) : Type 0 where
  pub long_nodes : length m.nodes ≡ 2048
  pub long_vars : length m.vars ≡ 1024
  pub long_open : length m.stack ≡ 3072
  pub room : ahead m ≤ 3072
  pub open_marked : (x : Thing) → Open m x → marked m x ≡ true

-- nothing is marked
pub record Blank (m : Marks) : Type 0 where
  pub fits : Fits m
  pub none : (x : Thing) → marked m x ≡ false

-- m became m': what was marked stays marked and what was open stays open; what is marked besides is open, and one of P
pub record Grown (P : Thing → Type 0) (m m' : Marks) : Type 0 where
  pub fits : Fits m'
  pub no_more : ahead m' ≤ ahead m
  pub stay : (x : Thing) → marked m x ≡ true → marked m' x ≡ true
  pub stay_open : (x : Thing) → Open m x → Open m' x
  pub fresh : (x : Thing) → marked m' x ≡ true → (marked m x ≡ true) ⊎ (Open m' x × P x)

-- .. and all of P are marked
pub record MarksAll (P : Thing → Type 0) (m m' : Marks) : Type 0 where
  pub grown : Grown P m m'
  pub all : (x : Thing) → P x → marked m' x ≡ true

-- x was open, and is looked into next
pub record Popped (m : Marks) (x : code.Thing) (m' : Marks) : Type 0 where
  pub fits : Fits m'
  pub less : ahead m' + 1 ≡ ahead m
  pub same : (y : Thing) → marked m' y ≡ marked m y
  pub was_open : Open m (thing_of x)
  pub others : (y : Thing) → Open m y → Open m' y ⊎ (y ≡ thing_of x)

-- one that was open is looked into next, or none is left
abbrev pub Pops : Marks → Option code.Thing → Marks → Type 0
Pops m None m' = (m.many ≡ 0) × (m' ≡ m)
Pops m (Some x) m' = Popped m x m'

-- what x reaches at once
pub data Next (s : d.State) : Thing → Thing → Type 0 where
  to_binding : {v t : ℕ} → get s v ≡ d.Some t → Next s (a_variable v) (a_node t)
  to_part : {t p : ℕ} → Memᴰ p (parts (type_at s t)) → Next s (a_node t) (a_node p)
  to_variable : {t v : ℕ} → type_at s t ≡ Var v → Next s (a_node t) (a_variable v)

-- x is one of the first n that f names
abbrev pub Before : (ℕ → Thing) → ℕ → Thing → Type 0
Before f n x = (k : ℕ) × (k < n) × (x ≡ f k)

-- the node that constraint k is on
abbrev pub constraint_node : d.State → ℕ → Thing
constraint_node s k = a_node (constraint_type (get_or s.constraints k constraint_table.blank))

-- x stands in its table
abbrev pub InTables : d.State → Thing → Type 0
InTables s (a_node t) = t < count s
InTables s (a_variable v) = v < taken s

-- as in a sound state: what is reached at once has a place in the tables
pub record Reaching (s : d.State) : Type 0 where
  pub few : count s ≤ 2048
  pub few_vars : taken s ≤ 1024
  pub vars : (t v : ℕ) → t < count s → type_at s t ≡ Var v → v < taken s
  pub bound : (v t : ℕ) → get s v ≡ d.Some t → t < count s
  pub below : (t p : ℕ) → t < count s → Memᴰ p (parts (type_at s t)) → p < count s
  pub constraints : (c : d.Constraint) → Memᴰ c s.constraints → constraint_type c < count s

-- all that is marked stays, and what it reaches is marked, but for what is not looked into yet
pub record Draining (s : d.State) (listed : List ℕ) (m : Marks) : Type 0 where
  pub fits : Fits m
  pub inside : (x : Thing) → marked m x ≡ true → InTables s x
  pub kept : (x : Thing) → marked m x ≡ true → Kept s listed x
  pub listed_ones : (v : ℕ) → Memᴰ v listed → marked m (a_variable v) ≡ true
  pub constraints : (c : d.Constraint) → Memᴰ c s.constraints → marked m (a_node (constraint_type c)) ≡ true
  pub closed : (x y : Thing) → marked m x ≡ true → Next s x y → (marked m y ≡ true) ⊎ Open m x

-- just what KP keeps is marked
pub record Stays (s : d.State) (listed : List ℕ) (m : Marks) : Type 0 where
  pub long_nodes : length m.nodes ≡ 2048
  pub long_vars : length m.vars ≡ 1024
  pub inside : (x : Thing) → marked m x ≡ true → InTables s x
  pub kept : (x : Thing) → marked m x ≡ true → Kept s listed x
  pub all : (x : Thing) → Kept s listed x → marked m x ≡ true
