-- A type read and placed at once: 5, 6 or 18 wins over 7, so that reading goes on when space has ended. Assumes nothing: these are definitions.
use Rattle.std.specs.Prelude as std
use Rattle.std.specs.Prelude.{◌≡◌, Bool, List, ℕ, ◌<◌, get_or, Option, Some, None, Ok, Err, if◌then◌else◌}
use Rattle.definition.specs.Types as d
use Rattle.definition.specs.Types.{State, Struct, full, Result, ok, refused}
use Rattle.definition.specs.Store.{sp}
use Rattle.definition.specs.Write.{Bytes}
use Rattle.definition.specs.Reader.{Read, got, not_read}
use Rattle.definition.specs.Trees.{Tree}
use Rattle.definition.specs.Build.{build}
use Rattle.names.specs.Names.{mark_of, name_of}
use Rattle.table.specs.State.{Grown, Declares}
use Rattle.table.specs.Did.{held, tables, Linked}
use Rattle.table.specs.declared.state.State.{State as Table}
use Rattle.table.specs.declared.Shape.{Shape}
use Rattle.table.specs.declared.Shape.TheVariants.{Unit as UnitS, Ref, Param, Apply, Var, Anything, UnresolvedError}
use Rattle.refusals.specs.Refusals.{refusal_of}
use Rattle.refusals.specs.declared.Refusal.{Refusal}
use Rattle.heads.specs.Fields.{Knows}

-- 5, 6 or 18; or what was placed, or 7, and the bytes after it
pub data Placed (A : Type 0) : Type 0 where
  stopped : d.Refusal → Placed A
  placed : Result (State × A) → Bytes → Placed A

-- what was read is placed, unless space has ended before
unfoldable pub place_read : {A B : Type 0} → Bool → (A → State → Result (State × B)) → Read A → State → Placed B
place_read over put (not_read x) s = stopped x
place_read over put (got a bytes) s = placed (if over then refused full else put a s) bytes

-- what f makes of what was placed, 7, or why it is not read
abbrev pub read_with : {A B : Type 0} → std.Result (Option A) Refusal → (A → B) → State → Bytes → Placed B
read_with (Ok (Some a)) f s bytes = placed (ok (s, f a)) bytes
read_with (Ok None) f s bytes = placed (refused full) bytes
read_with (Err e) f s bytes = stopped (refusal_of e)

abbrev pub part_of : std.Result (Option ℕ) Refusal → State → Bytes → Placed ℕ
part_of r s bytes = read_with r (λ t. t) s bytes

-- P of what was placed, if it was
abbrev pub PlacedSo : {A : Type 0} → std.Result (Option A) Refusal → (A → Type 0) → Type 0
PlacedSo (Ok (Some a)) P = P a
PlacedSo (Ok None) P = Unit {0}
PlacedSo (Err e) P = Unit {0}

-- the table st became t, which lends the same words; the answer r is the type that m reads, and the bytes l are left; s knows as many variables and
-- structs as the record began with
pub record Takes (st : Table) (known : ℕ) (over : Bool) (m : State → Read Tree) (t : Table) (l : Bytes) (r : std.Result (Option ℕ) Refusal) : Type 0 where
  pub same : Linked st t
  pub grown : Grown (tables st) (tables t)
  pub structs : (tables t).structs ≡ (tables st).structs
  pub inside : PlacedSo r (λ n. n < t.used.nodes)
  pub is : (ds : List Struct) (s : State) → Declares st.words.now st.used ds → Knows s known ds → part_of r (held t ds) l ≡ place_read over build (m s) (held st ds)

-- a type's value with these parts
abbrev pub with_parts : Shape → List ℕ → d.TypeValue
with_parts UnitS tys = d.UnitType
with_parts (Ref m t) tys = d.Ref m (get_or tys 0 0)
with_parts (Param id a) tys = d.Param id.0 a.0
with_parts (Apply a) tys = d.Apply (mark_of a.k) (name_of a.n) tys
with_parts (Var v) tys = d.Var v.0
with_parts Anything tys = d.Anything
with_parts UnresolvedError tys = d.UnresolvedError

-- the node of a type with these parts
unfoldable pub put_node : ℕ → Shape → List ℕ → State → Result (State × ℕ)
put_node loc h tys s = sp s loc (with_parts h tys)

abbrev pub PartsBelow : ℕ → List ℕ → ℕ → Type 0
PartsBelow nodes parts n = (i : ℕ) → i < n → get_or parts i 0 < nodes
