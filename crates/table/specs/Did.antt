-- What a function does to a state. Assumes nothing: these are definitions.
use Rattle.std.specs.Prelude.{◌≡◌, List, ℕ, ◌+◌, ◌<◌, ◌≤◌, Ok, Err}
use Rattle.std.specs.Prelude as core
use Rattle.definition.specs.Types as d
use Rattle.definition.specs.Types.{Struct, Result}
use Rattle.names.specs.declared.TVar.{TVar}
use Rattle.table.specs.State.{Any, Refines, NodesIn, TypesIn, outcome, seen, view, Declared}
use Rattle.table.specs.Rows.{row, var_table}
use Rattle.table.specs.Touched.{Untouched}
use Rattle.table.specs.declared.Used.{Used}
use Rattle.refusals.specs.declared.Refusal.TheVariants.{Full}
use Rattle.table.specs.declared.state.State.{State}
use Rattle.table.specs.declared.state.Stop.{Stop}
use Rattle.table.specs.declared.state.Stop.TheVariants.{Failed, Refused}

-- the definition's state that s holds, with these declarations
abbrev pub held : State → List Struct → d.State
held s ds = seen s.words.now s.used ds

-- .. without the declarations' bytes
abbrev pub tables : State → d.State
tables s = view s.words.now s.used

-- t lends the same words as s, as many rows are saved, and a saved row that t does not note is as it was; what was noted stays noted
pub record Linked (s t : State) : Type 0 where
  pub name : t.words.ghost_name ≡ s.words.ghost_name
  pub saved : t.saved ≡ s.saved
  pub rows : (v : ℕ) → v < 1024 → v < s.saved → Untouched t.touched v → Untouched s.touched v × (row var_table t.words.now v ≡ row var_table s.words.now v)

-- the state s became t, which lends the same words; what `answer` makes of t is what f makes of s, for the declarations in K
pub record Became {A : Type 0} (K : List Struct → Type 0) (s t : State) (answer f : d.State → A) : Type 0 where
  pub same : Linked s t
  pub step : Refines K s.words.now s.used t.words.now t.used answer f

-- .. and the answer is r, a node
pub record DidFor (K : List Struct → Type 0) (s t : State) (r : core.Result ℕ Stop) (f : d.State → Result (d.State × ℕ)) : Type 0 where
  pub changed : Became K s t (outcome r) f
  pub inside : NodesIn t.used.nodes r

abbrev pub Did : State → State → core.Result ℕ Stop → (d.State → Result (d.State × ℕ)) → Type 0
Did s t r f = DidFor Any s t r f

-- .. and no row was taken
pub record Kept (s t : State) (f : d.State → d.State) : Type 0 where
  pub changed : Became Any s t (λ x. x) f
  pub used : t.used ≡ s.used

-- an answer of another kind as a number
abbrev pub number_by : {A : Type 0} → (A → ℕ) → core.Result A Stop → core.Result ℕ Stop
number_by n (Ok x) = Ok (n x)
number_by n (Err e) = Err e

-- a fresh variable as an answer
abbrev pub number_of : core.Result TVar Stop → core.Result ℕ Stop
number_of r = number_by (λ v. v.0) r

-- the nodes that it names are below n
abbrev pub StopIn : ℕ → Stop → Type 0
StopIn n (Failed e) = TypesIn n e
StopIn n (Refused x) = Unit {0}

-- the variable that an answer is is taken
abbrev pub VarIn : ℕ → ℕ → core.Result TVar Stop → Type 0
VarIn n vars (Ok v) = v.0 < vars
VarIn n vars (Err e) = StopIn n e

pub record Took (s t : State) (r : core.Result TVar Stop) (f : d.State → Result (d.State × ℕ)) : Type 0 where
  pub changed : Became Any s t (outcome (number_of r)) f
  pub inside : VarIn t.used.nodes t.used.vars r

-- a variable is taken of the counts u, which become u', if one is left
abbrev pub Counts : Used → Used → core.Result TVar Stop → Type 0
Counts u u' (Ok v) = (u.vars < 1024) × ((v.0 ≡ u.vars) × (u' ≡ record u { vars = u.vars + 1 }))
Counts u u' (Err e) = (1024 ≤ u.vars) × ((e ≡ Refused Full) × (u' ≡ u))

-- nothing that an error names is past n
abbrev pub FineIn : ℕ → core.Result Unit Stop → Type 0
FineIn n (Ok x) = Unit {0}
FineIn n (Err e) = StopIn n e

-- there is no number to answer
abbrev pub zero_of : core.Result Unit Stop → core.Result ℕ Stop
zero_of r = number_by (λ x. 0) r

pub record Added (s t : State) (r : core.Result Unit Stop) (f : d.State → Result (d.State × ℕ)) : Type 0 where
  pub changed : Became Any s t (outcome (zero_of r)) f
  pub inside : FineIn t.used.nodes r

-- a struct is declared, if the answer is its number
pub record DeclaredBy (s t : State) (r : core.Result ℕ Stop) (abilities params : ℕ) : Type 0 where
  pub same : Linked s t
  pub declared : Declared s.words.now s.used t.words.now (record { out = r; used = t.used }) abilities params
