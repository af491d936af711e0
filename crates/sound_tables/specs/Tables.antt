-- The tests of counts, tails, parameter bytes and all rows. Assumes nothing: these are definitions.
use Rattle.std.specs.Prelude.{Bool, ◌&&◌, List, [], ℕ, ◌+◌, ◌*◌, ◌-◌, eqb, ltb, leb, get_or, if◌then◌else◌}
use Rattle.table.specs.declared.Used.{Used}
use Rattle.sound_fields.specs.Fields.{all_below, byte_fine}
use Rattle.sound_rows.specs.Rows.{struct_fine, node_fine, cell_fine, constraint_fine}

unfoldable pub counts_fine : Used → Bool
counts_fine u = leb u.nodes 2048 && leb u.args 4096 && leb u.vars 1024 && leb u.constraints 512 && leb u.structs 256

-- ---- past the counts

unfoldable pub zero_at : List ℕ → ℕ → ℕ → Bool
zero_at w at k = eqb (get_or w (at + k) 0) 0

-- the words from the first to the last are zero
unfoldable pub zeros : List ℕ → ℕ → ℕ → Bool
zeros w first last = all_below (last - first) (zero_at w first)

unfoldable pub tails_fine : List ℕ → Used → Bool
tails_fine w u =
    zeros w (5 + u.nodes * 6) 12293
    && zeros w (12293 + u.args) 16389
    && zeros w (16389 + u.vars * 5) 21509
    && zeros w (21509 + u.constraints * 4) 23557
    && zeros w (23557 + u.structs * 2) 24069

-- ---- parameter bytes

-- how many parameters declaration i has; none past the last
unfoldable pub params_at : List ℕ → Used → ℕ → ℕ
params_at w u i = if ltb i u.structs then get_or w (23557 + i * 2 + 1) 0 else 0

unfoldable pub bytes_fine : List ℕ → Used → List (List ℕ) → ℕ → Bool
bytes_fine w u params i = all_below 8 (byte_fine (get_or params i []) (params_at w u i))

-- ---- every row

-- all but the counts and the chains of bindings
unfoldable pub tables_fine : List ℕ → Used → List (List ℕ) → Bool
tables_fine w u params =
    tails_fine w u
    && all_below u.structs (struct_fine w)
    && all_below 256 (bytes_fine w u params)
    && all_below u.nodes (node_fine w u)
    && all_below u.vars (cell_fine w u)
    && all_below u.constraints (constraint_fine w u)
