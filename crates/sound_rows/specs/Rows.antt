-- The test of each row, word by word. Assumes nothing: these are definitions.
use Rattle.std.specs.Prelude.{◌≡◌, Bool, not, ◌&&◌, List, ℕ, ◌+◌, ◌*◌, ◌≤◌, eqb, ltb, leb, length, get_or, if◌then◌else◌}
use Rattle.table.specs.declared.Used.{Used}
use Rattle.sound_fields.specs.Fields.{all_below, four_zeros, ref_fine, param_fine, var_fine, mark_fine, name_fine, fits_fine, numeric_fine, need_fine}

-- as many words as the layout has, and no more rows in use than each table has
pub record Sized (w : List ℕ) (u : Used) : Type 0 where
  pub size : length w ≡ 24069
  pub nodes : u.nodes ≤ 2048
  pub args : u.args ≤ 4096
  pub vars : u.vars ≤ 1024
  pub constraints : u.constraints ≤ 512
  pub structs : u.structs ≤ 256

unfoldable pub struct_fine : List ℕ → ℕ → Bool
struct_fine w i = leb (get_or w (23557 + i * 2) 0) 15 && leb (get_or w (23557 + i * 2 + 1) 0) 8

-- ---- nodes

-- how many arguments the name has
unfoldable pub args_fine : List ℕ → ℕ → ℕ → ℕ
args_fine w tag b = if eqb tag 3 then (if eqb b 5 then 1 else 0) else if eqb tag 4 then b else get_or w (23557 + b * 2 + 1) 0

unfoldable pub part_fine : List ℕ → ℕ → ℕ → ℕ → Bool
part_fine w t c i = ltb (get_or w (12293 + (c + i)) 0) t

unfoldable pub apply_fine : List ℕ → Used → ℕ → ℕ → ℕ → ℕ → ℕ → ℕ → Bool
apply_fine w u t tag a b c d =
    mark_fine a && name_fine u tag b && fits_fine tag a b && eqb d (args_fine w tag b) && leb (c + d) u.args && all_below d (part_fine w t c)

unfoldable pub shape_fine : List ℕ → Used → ℕ → ℕ → ℕ → ℕ → ℕ → ℕ → Bool
shape_fine w u t tag a b c d =
    if eqb tag 0 then four_zeros a b c d
    else if eqb tag 1 then ref_fine t a b c d
    else if eqb tag 2 then param_fine b c d
    else if ltb tag 6 then apply_fine w u t tag a b c d
    else if eqb tag 6 then var_fine u a b c d
    else leb tag 8 && four_zeros a b c d

unfoldable pub node_fine : List ℕ → Used → ℕ → Bool
node_fine w u t = shape_fine w u t (get_or w (5 + t * 6) 0) (get_or w (5 + t * 6 + 2) 0) (get_or w (5 + t * 6 + 3) 0) (get_or w (5 + t * 6 + 4) 0) (get_or w (5 + t * 6 + 5) 0)

-- ---- variables

unfoldable pub binding_fine : List ℕ → Used → ℕ → ℕ → Bool
binding_fine w u is x = if eqb is 0 then eqb x 0 else eqb is 1 && ltb x u.nodes && not (eqb (get_or w (5 + x * 6) 0) 7)

unfoldable pub cell_fine : List ℕ → Used → ℕ → Bool
cell_fine w u v =
    binding_fine w u (get_or w (16389 + v * 5) 0) (get_or w (16389 + v * 5 + 1) 0)
    && numeric_fine (get_or w (16389 + v * 5 + 2) 0) (get_or w (16389 + v * 5 + 3) 0)
    && need_fine (get_or w (16389 + v * 5 + 2) 0) (get_or w (16389 + v * 5 + 4) 0)

-- ---- constraints

unfoldable pub constraint_fine : List ℕ → Used → ℕ → Bool
constraint_fine w u i =
    ltb (get_or w (21509 + i * 4 + 2) 0) u.nodes
    && (if eqb (get_or w (21509 + i * 4) 0) 0 then leb (get_or w (21509 + i * 4 + 3) 0) 15 else leb (get_or w (21509 + i * 4) 0) 5 && eqb (get_or w (21509 + i * 4 + 3) 0) 0)
