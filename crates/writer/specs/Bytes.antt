-- Bytes in a buffer, a length with a limit, and the fields that must be bytes. Assumes nothing: these are definitions.
use Rattle.std.specs.Prelude.{◌≡◌, List, ◌++◌, ℕ, ◌+◌, ◌<◌, ◌≤◌, length, take, drop, Option, Some, None}
use Rattle.definition.specs.Types.{TypeName, Multiple, Builtin, ModuleType, Shape, UnitType, Ref, Param, Apply, Var, Anything, UnresolvedError, State}
use Rattle.definition.specs.Store.{count, node}
use Rattle.definition.specs.Write.{Bytes, mark}

-- the buffer with these bytes from place `at` on, all else as it was
unfoldable pub put : List ℕ → ℕ → Bytes → List ℕ
put buf at bytes = take at buf ++ bytes ++ drop (at + length bytes) buf

-- the bytes were written from place `at` on, and end at `next`
pub record Wrote (buf : List ℕ) (at : ℕ) (bytes : Bytes) (buf' : List ℕ) (next : ℕ) : Type 0 where
  pub next_is : next ≡ at + length bytes
  pub is : buf' ≡ put buf at bytes

-- the length n, if it is no more than `room`
abbrev pub Capped : ℕ → ℕ → Option ℕ → Type 0
Capped room n (Some k) = (k ≡ n) × (n ≤ room)
Capped room n None = room < n

-- ---- fields that are written as one byte

abbrev pub NameByte : TypeName → Type 0
NameByte (Multiple n) = n < 256
NameByte (Builtin b) = b < 256
NameByte (ModuleType n) = Unit {0}

abbrev pub ByteFields : {A : Type 0} → Shape A → Type 0
ByteFields UnitType = Unit {0}
ByteFields (Ref m t) = Unit {0}
ByteFields (Param id a) = Unit {0}
ByteFields (Apply k n p) = (mark k < 256) × NameByte n
ByteFields (Var v) = Unit {0}
ByteFields Anything = Unit {0}
ByteFields UnresolvedError = Unit {0}

-- so in every node, as in a sound state
unfoldable pub AllBytes : State → Type 0
AllBytes s = (t : ℕ) → t < count s → ByteFields (node s t).value
