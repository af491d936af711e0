-- The abilities that an argument must have, by the parameter bytes. Assumes nothing: these are definitions.
use Rattle.std.specs.Prelude.{List, [], ℕ, ◌<◌, ◌%◌, get_or}
use Rattle.definition.specs.Types.{TypeName, Multiple, Builtin, ModuleType}

-- the abilities that argument i must have, by the bytes
unfoldable pub ability_at : List (List ℕ) → TypeName → ℕ → ℕ
ability_at params (Multiple len) i = 0
ability_at params (Builtin b) i = 0
ability_at params (ModuleType n) i = get_or (get_or params n []) i 0 % 16

-- a struct's number is a row's
abbrev pub Numbered : TypeName → Type 0
Numbered (Multiple len) = Unit {0}
Numbered (Builtin b) = Unit {0}
Numbered (ModuleType n) = n < 256
