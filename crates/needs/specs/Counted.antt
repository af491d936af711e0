-- R-3: a type's takings as the walk has them, beside the definition's `needs`. Assumes nothing: these are definitions.
use Rattle.std.specs.Prelude.{◌≡◌, Bool, true, false, List, ℕ, ◌+◌, ◌*◌, ◌≤◌, Option, Some, None, Result, Ok, Err}
use Rattle.definition.specs.Types.{State, Struct}
use Rattle.definition.specs.Write.{Bytes}
use Rattle.definition.specs.Reader.{Read, got, not_read}
use Rattle.definition.specs.Trees.{Tree}
use Rattle.definition.specs.Needs.{Needs, takes, ◌plus◌, merge, needs}
use Rattle.theorems.proofs.JoinAnswers.{tree_size}
use Rattle.table.specs.State.{Declares}
use Rattle.table.specs.declared.state.State.{State as Table}
use Rattle.table.specs.declared.Shape.{Shape}
use Rattle.table.specs.declared.Shape.TheVariants.{Unit as UnitS, Ref, Param, Apply, Var, Anything, UnresolvedError}
use Rattle.refusals.specs.Refusals.{refusal_of}
use Rattle.refusals.specs.declared.Refusal.{Refusal}
use Rattle.heads.specs.Fields.{Knows}
use Rattle.needs.specs.declared.Sums.{Sums}

-- ---- sums; none once a variable was met

abbrev pub sums : ℕ → ℕ → ℕ → ℕ → Sums
sums nodes places variables constraints = record { nodes = nodes; places = places; variables = variables; constraints = constraints }

abbrev pub both : Option Sums → Option Sums → Option Sums
both (Some a) (Some b) = Some (sums (a.nodes + b.nodes) (a.places + b.places) (a.variables + b.variables) (a.constraints + b.constraints))
both (Some a) None = None
both None b = None

abbrev pub needs_of : Option Sums → Option Needs
needs_of (Some c) = takes c.nodes c.places c.variables c.constraints
needs_of None = None

-- each is n at most
pub record Each (n : ℕ) (c : Sums) : Type 0 where
  pub nodes : c.nodes ≤ n
  pub places : c.places ≤ n
  pub variables : c.variables ≤ n
  pub constraints : c.constraints ≤ n

abbrev pub Most : ℕ → Option Sums → Type 0
Most n (Some c) = Each n c
Most n None = Unit {0}

-- ---- a type without its parts

abbrev pub own : Shape → Option Sums
own UnitS = Some (sums 1 0 0 0)
own (Ref m t) = Some (sums 2 0 0 1)
own (Param id a) = Some (sums 1 0 0 0)
own (Apply a) = Some (sums 2 0 0 0)
own (Var v) = None
own Anything = Some (sums 2 0 1 0)
own UnresolvedError = Some (sums 1 0 0 0)

-- what an argument takes beside its type, with the merge of `_`
abbrev pub beside : Bool → Shape → Sums
beside false h = sums 0 0 0 0
beside true UnitS = sums 1 2 1 2
beside true (Ref m t) = sums 1 2 1 2
beside true (Param id a) = sums 1 2 1 2
beside true (Apply a) = sums 1 2 1 2
beside true (Var v) = sums 1 2 1 2
beside true Anything = sums 5 2 2 2
beside true UnresolvedError = sums 1 2 1 2

-- whose parts are arguments
abbrev pub is_apply : Shape → Bool
is_apply UnitS = false
is_apply (Ref m t) = false
is_apply (Param id a) = false
is_apply (Apply a) = true
is_apply (Var v) = false
is_apply Anything = false
is_apply UnresolvedError = false

-- ---- a type

-- as a row of `needs_args` has it, or alone
unfoldable pub as_argument : Bool → Tree → Option Needs
as_argument true t = takes 1 2 1 2 plus merge t plus needs t
as_argument false t = needs t

-- m reads a tree, these bytes are left, and c are its takings, two at most for each byte
pub record Told (c : Option Sums) (arg : Bool) (bytes : Bytes) (m : Read Tree) : Type 0 where
  pub tree : Tree
  pub reads : m ≡ got tree bytes
  pub counts : needs_of c ≡ as_argument arg tree
  pub few : Most (2 * tree_size tree) c

abbrev pub Tells : Result (Option Sums) Refusal → Bool → Bytes → Read Tree → Type 0
Tells (Ok c) arg bytes m = Told c arg bytes m
Tells (Err e) arg bytes m = m ≡ not_read (refusal_of e)

-- over the table st: r is the type that m reads, counted, and the bytes l are left; s knows as many variables and structs as the record began with
pub record Counts (st : Table) (known : ℕ) (arg : Bool) (m : State → Read Tree) (l : Bytes) (r : Result (Option Sums) Refusal) : Type 0 where
  pub is : (ds : List Struct) (s : State) → Declares st.words.now st.used ds → Knows s known ds → Tells r arg l (m s)
