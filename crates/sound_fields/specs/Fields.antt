-- The test of parameter bytes and of a row's fields, as the code makes it. Assumes nothing: these are definitions.
use Rattle.std.specs.Prelude.{Bool, true, ◌&&◌, List, ℕ, zero, suc, eqb, ltb, leb, get_or, if◌then◌else◌}
use Rattle.definition.specs.Types.{Builtin, max_builtin}
use Rattle.definition.specs.Join.{is_numeric}
use Rattle.definition.specs.Trees.{has_drop}
use Rattle.table.specs.Rows.{read_mark}
use Rattle.table.specs.declared.Used.{Used}

-- a test of every number below n
unfoldable pub all_below : ℕ → (ℕ → Bool) → Bool
all_below zero f = true
all_below (suc n) f = all_below n f && f n

-- ---- parameter bytes

unfoldable pub byte_fine : List ℕ → ℕ → ℕ → Bool
byte_fine bytes n k = if ltb k n then leb (get_or bytes k 0) 31 else eqb (get_or bytes k 0) 0

-- ---- nodes

unfoldable pub four_zeros : ℕ → ℕ → ℕ → ℕ → Bool
four_zeros a b c d = eqb a 0 && eqb b 0 && eqb c 0 && eqb d 0

unfoldable pub ref_fine : ℕ → ℕ → ℕ → ℕ → ℕ → Bool
ref_fine t a b c d = leb a 1 && ltb b t && eqb c 0 && eqb d 0

unfoldable pub param_fine : ℕ → ℕ → ℕ → Bool
param_fine b c d = leb b 15 && eqb c 0 && eqb d 0

unfoldable pub var_fine : Used → ℕ → ℕ → ℕ → ℕ → Bool
var_fine u a b c d = ltb a u.vars && eqb b 0 && eqb c 0 && eqb d 0

-- 0, or 16 and a set
unfoldable pub mark_fine : ℕ → Bool
mark_fine a = if eqb a 0 then true else leb 16 a && leb a 31

unfoldable pub name_fine : Used → ℕ → ℕ → Bool
name_fine u tag b = if eqb tag 3 then leb b max_builtin else if eqb tag 4 then leb b 8 else ltb b u.structs

-- a number's mark has drop
unfoldable pub fits_fine : ℕ → ℕ → ℕ → Bool
fits_fine tag a b = if eqb tag 3 then (if is_numeric (Builtin b) then has_drop (read_mark a) else true) else true

-- ---- variables

unfoldable pub numeric_fine : ℕ → ℕ → Bool
numeric_fine is x = if eqb is 0 then eqb x 0 else eqb is 1

unfoldable pub need_fine : ℕ → ℕ → Bool
need_fine is need = if eqb is 0 then eqb need 0 else leb need 256
