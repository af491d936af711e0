-- The state that the words hold, with so many rows of each table in use, and what holds of a function that reads or changes them.
-- Assumes nothing: these are definitions.
use Rattle.std.specs.Prelude.{◌≡◌, List, [], ◌∷◌, ◌++◌, ℕ, ◌+◌, ◌*◌, ◌≤◌, ◌<◌, ltb, length, get_or, set, take, if◌then◌else◌}
use Rattle.std.specs.Prelude.{Option, None, Some}
use Rattle.definition.specs.Types as d
use Rattle.definition.specs.Types.{State, Struct, Places, Cell, Result, ok, err, refused, ◌>>=◌}
use Rattle.definition.specs.Store.{count, taken, node, args_at, with_vars, with_structs, get, add_constraint, declare}
use Rattle.names.specs.Names.{mark_of, name_of}
use Rattle.table.specs.Rows.{entries, Clean, node_table, arg_table, var_table, constraint_table, struct_table, places}
use Rattle.refusals.specs.Refusals.{refusal_of}
use Rattle.refusals.specs.declared.Refusal.TheVariants.{Full}
use Rattle.table.specs.declared.Applied.{Applied}
use Rattle.table.specs.declared.Shape.{Shape}
use Rattle.table.specs.declared.Shape.TheVariants.{Unit as UnitS, Ref, Param, Apply, Var, Anything, UnresolvedError}
use Rattle.table.specs.declared.Node.{Node}
use Rattle.table.specs.declared.Used.{Used}
use Rattle.table.specs.declared.NodeWords.{NodeWords}
use Rattle.table.specs.declared.CellWords.{CellWords}
use Rattle.table.specs.declared.ConstraintWords.{ConstraintWords}
use Rattle.table.specs.declared.StructWords.{StructWords}
use Rattle.table.specs.declared.Constraint.{Constraint}
use Rattle.table.specs.declared.Constraint.TheVariants.{Ability, Numeric, Bits, Ordered, BaseType, SingleType}
use Rattle.table.specs.Out.{Out}
use Rattle.table.specs.declared.TypingError.{TypingError}
use Rattle.table.specs.declared.TypingError.TheVariants.{SubtypeError, Incompatible, ArityMismatch, RecursiveType}
use Rattle.table.specs.Out.{Outcome}
use Rattle.table.specs.declared.state.Stop.TheVariants.{Failed, Refused}
use Rattle.std.specs.Prelude.{Ok, Err}

-- ---- answers as the definition has them

-- where a named type's arguments stand
abbrev pub args_of : Applied → Places
args_of a = places a.first a.many

abbrev pub shape_of : Shape → d.Shape Places
shape_of UnitS = d.UnitType
shape_of (Ref m t) = d.Ref m t
shape_of (Param id a) = d.Param id.0 a.0
shape_of (Apply a) = d.Apply (mark_of a.k) (name_of a.n) (args_of a)
shape_of (Var v) = d.Var v.0
shape_of Anything = d.Anything
shape_of UnresolvedError = d.UnresolvedError

abbrev pub node_of : Node → d.Node
node_of n = record { loc = n.loc; value = shape_of n.shape }

abbrev pub node_at : ℕ → Shape → d.Node
node_at loc shape = record { loc = loc; value = shape_of shape }

abbrev pub cell : Option ℕ → Option ℕ → ℕ → Cell
cell b m n = record { binding = b; numeric = m; need = n }

-- a shape without arguments
abbrev pub value_of : Shape → d.TypeValue
value_of UnitS = d.UnitType
value_of (Ref m t) = d.Ref m t
value_of (Param id a) = d.Param id.0 a.0
value_of (Apply a) = d.Apply (mark_of a.k) (name_of a.n) []
value_of (Var v) = d.Var v.0
value_of Anything = d.Anything
value_of UnresolvedError = d.UnresolvedError

abbrev pub constraint_of : Constraint → d.Constraint
constraint_of (Ability loc ty a) = d.AbilityConstraint loc ty a.0
constraint_of (Numeric loc ty) = d.NumericConstraint loc ty
constraint_of (Bits loc ty) = d.BitsConstraint loc ty
constraint_of (Ordered loc ty) = d.OrderedConstraint loc ty
constraint_of (BaseType loc ty) = d.BaseTypeConstraint loc ty
constraint_of (SingleType loc ty) = d.SingleTypeConstraint loc ty

abbrev pub error_of : TypingError → d.TypingError
error_of (SubtypeError a b) = d.SubtypeError a b
error_of (Incompatible a b) = d.Incompatible a b
error_of (ArityMismatch a b) = d.ArityMismatch a b
error_of (RecursiveType loc) = d.RecursiveType loc

-- the answer o, met in the state s
unfoldable pub outcome : Out → State → Result (State × ℕ)
outcome (Ok t) s = ok (s, t)
outcome (Err (Failed e)) s = err s (error_of e)
outcome (Err (Refused x)) s = refused (refusal_of x)

-- .. and the list l, if it is a number
unfoldable pub listed : Out → List ℕ → State → Result (State × List ℕ)
listed o l s = outcome o s >>= (λ x. ok (x.0, l))

-- the number that an answer is, if it is one
abbrev pub done : Out → Option ℕ
done (Ok t) = Some t
done (Err (Failed e)) = None
done (Err (Refused x)) = None

-- ---- the state

-- the counts that the words have
abbrev pub used_at : List ℕ → Used
used_at w = record { nodes = get_or w 0 0; args = get_or w 1 0; vars = get_or w 2 0; constraints = get_or w 3 0; structs = get_or w 4 0 }

-- the words of a row
abbrev pub node_words_at : List ℕ → ℕ → NodeWords
node_words_at w t = record { tag = get_or w (5 + t * 6) 0; loc = get_or w (5 + t * 6 + 1) 0; a = get_or w (5 + t * 6 + 2) 0; b = get_or w (5 + t * 6 + 3) 0; c = get_or w (5 + t * 6 + 4) 0; d = get_or w (5 + t * 6 + 5) 0 }

abbrev pub cell_words_at : List ℕ → ℕ → CellWords
cell_words_at w v = record { bound = get_or w (16389 + v * 5) 0; binding = get_or w (16389 + v * 5 + 1) 0; numeric = get_or w (16389 + v * 5 + 2) 0; loc = get_or w (16389 + v * 5 + 3) 0; need = get_or w (16389 + v * 5 + 4) 0 }

-- .. of variable v's, if it is among so many
abbrev pub CellAt : List ℕ → ℕ → ℕ → Option CellWords → Type 0
CellAt w vars v None = vars ≤ v
CellAt w vars v (Some r) = (v < vars) × (r ≡ cell_words_at w v)

abbrev pub constraint_words_at : List ℕ → ℕ → ConstraintWords
constraint_words_at w i = record { kind = get_or w (21509 + i * 4) 0; loc = get_or w (21509 + i * 4 + 1) 0; ty = get_or w (21509 + i * 4 + 2) 0; abilities = get_or w (21509 + i * 4 + 3) 0 }

abbrev pub struct_words_at : List ℕ → ℕ → StructWords
struct_words_at w i = record { abilities = get_or w (23557 + i * 2) 0; params = get_or w (23557 + i * 2 + 1) 0 }

-- what the words hold. The structs' parameter bytes stand beside them: here they are zeros
unfoldable pub view : List ℕ → Used → State
view w u = record {
  nodes = entries node_table w u.nodes;
  args = entries arg_table w u.args;
  vars = entries var_table w u.vars;
  constraints = entries constraint_table w u.constraints;
  structs = entries struct_table w u.structs;
}

-- .. with these declarations
unfoldable pub seen : List ℕ → Used → List Struct → State
seen w u ds = with_structs (view w u) ds

-- the parts of node t are below it, and its places are in use
abbrev pub Below : List ℕ → ℕ → d.Shape Places → Type 0
Below args t d.UnitType = Unit {0}
Below args t (d.Ref m p) = p < t
Below args t (d.Param id a) = Unit {0}
Below args t (d.Apply k n p) = (p.many ≤ 8) × ((p.first + p.many ≤ length args) × ((i : ℕ) → i < p.many → get_or args (p.first + i) 0 < t))
Below args t (d.Var v) = Unit {0}
Below args t d.Anything = Unit {0}
Below args t d.UnresolvedError = Unit {0}

-- what of a sound state every function keeps
pub record Inside (s : State) : Type 0 where
  pub parts : (t : ℕ) → t < count s → Below s.args t (node s t).value
  pub bindings : (v t : ℕ) → get s v ≡ Some t → t < count s

-- there are as many words as the layout has, no more rows in use than each table has, and no word says more than the state.
-- Of the first five words, the counts, nothing is said: they are written when a call ends
pub record Lay (w : List ℕ) (u : Used) : Type 0 where
  pub size : length w ≡ 24069
  pub nodes : u.nodes ≤ 2048
  pub args : u.args ≤ 4096
  pub vars : u.vars ≤ 1024
  pub constraints : u.constraints ≤ 512
  pub structs : u.structs ≤ 256
  pub clean_nodes : Clean node_table w u.nodes
  pub clean_args : Clean arg_table w u.args
  pub clean_vars : Clean var_table w u.vars
  pub clean_constraints : Clean constraint_table w u.constraints
  pub clean_structs : Clean struct_table w u.structs
  pub inside : Inside (view w u)

-- l is the front of m
pub record Front {A : Type 0} (l m : List A) : Type 0 where
  pub rest : List A
  pub is : m ≡ l ++ rest

-- rows are only added; variables may be bound and marked besides
pub record Grown (s t : State) : Type 0 where
  pub nodes : Front s.nodes t.nodes
  pub args : Front s.args t.args
  pub vars : taken s ≤ taken t
  pub constraints : Front s.constraints t.constraints
  pub structs : Front s.structs t.structs

-- ---- what a function does

-- the counts after one more variable, and its number; or none is left
unfoldable pub one_var : Used → Outcome
one_var u =
    if ltb u.vars 1024
    then record { out = Ok u.vars; used = record { nodes = u.nodes; args = u.args; vars = u.vars + 1; constraints = u.constraints; structs = u.structs } }
    else record { out = Err (Refused Full); used = u }

-- all declarations
abbrev pub Any : List Struct → Type 0
Any ds = Unit {0}

-- the words held w with u in use and hold w' with u'; rows were only added, and the declarations' rows are as they were. What `answer` makes of the new
-- state is what f makes of the old one, for the declarations in K
pub record Refines {A : Type 0} (K : List Struct → Type 0) (w : List ℕ) (u : Used) (w' : List ℕ) (u' : Used) (answer f : State → A) : Type 0 where
  pub lay : Lay w' u'
  pub grown : Grown (view w u) (view w' u')
  pub structs : (view w' u').structs ≡ (view w u).structs
  pub is : (ds : List Struct) → K ds → answer (seen w' u' ds) ≡ f (seen w u ds)

-- .. and the answer is r
abbrev pub Changed : List ℕ → Used → List ℕ → Outcome → (State → Result (State × ℕ)) → Type 0
Changed w u w' r f = Refines Any w u w' r.used (outcome r.out) f

-- .. and no row was taken
abbrev pub Stored : List ℕ → Used → List ℕ → (State → State) → Type 0
Stored w u w' f = Refines Any w u w' u (λ s. s) f

-- the nodes that an error names are below n
abbrev pub TypesIn : ℕ → TypingError → Type 0
TypesIn n (SubtypeError a b) = (a < n) × (b < n)
TypesIn n (Incompatible a b) = (a < n) × (b < n)
TypesIn n (ArityMismatch a b) = (a < n) × (b < n)
TypesIn n (RecursiveType loc) = Unit {0}

-- the nodes that an answer names are below n
abbrev pub NodesIn : ℕ → Out → Type 0
NodesIn n (Ok t) = t < n
NodesIn n (Err (Failed e)) = TypesIn n e
NodesIn n (Err (Refused x)) = Unit {0}

-- the variable that an answer names is below n
abbrev pub VarIn : ℕ → Out → Type 0
VarIn n (Ok v) = v < n
VarIn n (Err (Failed e)) = Unit {0}
VarIn n (Err (Refused x)) = Unit {0}

-- the answer is r, a node, for the declarations in K
pub record When (K : List Struct → Type 0) (w : List ℕ) (u : Used) (w' : List ℕ) (r : Outcome) (f : State → Result (State × ℕ)) : Type 0 where
  pub changed : Refines K w u w' r.used (outcome r.out) f
  pub inside : NodesIn r.used.nodes r.out

-- .. for all
abbrev pub After : List ℕ → Used → List ℕ → Outcome → (State → Result (State × ℕ)) → Type 0
After w u w' r f = When Any w u w' r f

-- w' is w, but for n words of row from place `at` on
pub record Wrote (w : List ℕ) (at n : ℕ) (row : List ℕ) (w' : List ℕ) : Type 0 where
  pub size : length w' ≡ length w
  pub here : (k : ℕ) → k < n → get_or w' (at + k) 0 ≡ get_or row k 0
  pub there : (j : ℕ) → ((k : ℕ) → k < n → j ≡ at + k → ⊥) → get_or w' j 0 ≡ get_or w j 0

-- a constraint is listed; there is no number to answer
unfoldable pub pushed_constraint : d.Constraint → State → Result (State × ℕ)
pushed_constraint c s = add_constraint s c >>= (λ t. ok (t, 0))

-- variable v has this binding, this mark and this need
unfoldable pub with_cell : ℕ → Option ℕ → Option ℕ → ℕ → State → State
with_cell v b m n s = with_vars s (set s.vars v (cell b m n))

-- declarations that have the abilities and the parameter counts of the struct rows
pub record Declares (w : List ℕ) (u : Used) (ds : List Struct) : Type 0 where
  pub many : length ds ≡ u.structs
  pub abilities : (i : ℕ) → i < u.structs → (get_or ds i struct_table.blank).abilities ≡ (get_or (view w u).structs i struct_table.blank).abilities
  pub params : (i : ℕ) → i < u.structs → length (get_or ds i struct_table.blank).params ≡ length (get_or (view w u).structs i struct_table.blank).params

-- a struct is declared, if the answer is its number
abbrev pub more : Option ℕ → List Struct → Struct → List Struct
more None ds x = ds
more (Some n) ds x = ds ++ (x ∷ [])

-- the words hold one struct row more, if there is room; its bytes ps stand beside them
pub record Declared (w : List ℕ) (u : Used) (w' : List ℕ) (r : Outcome) (abilities params : ℕ) : Type 0 where
  pub lay : Lay w' r.used
  pub grown : Grown (view w u) (view w' r.used)
  pub is : (ds : List Struct) (ps : List ℕ) → length ds ≡ u.structs
      → outcome r.out (seen w' r.used (more (done r.out) ds (record { abilities = abilities; params = ps }))) ≡ declare (seen w u ds) abilities ps
  pub declares : (ds : List Struct) (ps : List ℕ) → Declares w u ds → length ps ≡ params
      → Declares w' r.used (more (done r.out) ds (record { abilities = abilities; params = ps }))

-- ---- what the primitives ask

-- a shape without arguments whose part is below n
abbrev pub Flat : ℕ → Shape → Type 0
Flat n UnitS = Unit {0}
Flat n (Ref m t) = t < n
Flat n (Param id a) = Unit {0}
Flat n (Apply a) = ⊥
Flat n (Var v) = Unit {0}
Flat n Anything = Unit {0}
Flat n UnresolvedError = Unit {0}

-- a binding to a node below n
abbrev pub FoundIn : ℕ → Option ℕ → Type 0
FoundIn n None = Unit {0}
FoundIn n (Some t) = t < n

-- n parts, each below the number of nodes
pub record Parts (nodes : ℕ) (parts : List ℕ) (n : ℕ) : Type 0 where
  pub few : n ≤ 8
  pub below : (i : ℕ) → i < n → get_or parts i 0 < nodes

-- if o is a number, the first `many` of parts are below n; else the nodes that it names are
pub record ListedIn (n : ℕ) (o : Out) (parts : List ℕ) (many : ℕ) : Type 0 where
  pub below : (t : ℕ) → done o ≡ Some t → Parts n parts many
  pub inside : done o ≡ None → NodesIn n o

-- the answer is the first `many` of parts, nodes all, if o is a number; for the declarations in K
pub record Lists (K : List Struct → Type 0) (w : List ℕ) (u : Used) (w' : List ℕ) (u' : Used) (o : Out) (parts : List ℕ) (many : ℕ) (f : State → Result (State × List ℕ)) : Type 0 where
  pub changed : Refines K w u w' u' (listed o (take many parts)) f
  pub inside : ListedIn u'.nodes o parts many

-- many argument places from `first` on are in use
pub record Placed (w : List ℕ) (u : Used) (first many : ℕ) : Type 0 where
  pub few : many ≤ 8
  pub inside : first + many ≤ length (view w u).args

-- the places of a named type are in use, and its arguments are below n
pub record Named (w : List ℕ) (u : Used) (first many n : ℕ) : Type 0 where
  pub placed : Placed w u first many
  pub smaller : (i : ℕ) → i < many → get_or (args_at (view w u) (places first many)) i 0 < n
