-- The rows of parameter bytes: those of the declarations, and those past the last, which are zero. Assumes nothing.
use mathlib.Core.Path.{◌≡◌, sym, ap, ◌∙◌}
use mathlib.Core.Bool.{Bool, ◌&&◌}
use mathlib.Core.List.{List, []}
use Prim.Native.Nat.{ℕ, ◌+◌, ◌-◌, ◌≤◌}
use native.Mathlib.Omega.{arith}
use lib.ListN.{length, get_or}
use borrow.Author.Tests.{le-ltb}
use Rattle.std.specs.List.{list_all, between}
use Rattle.table.specs.declared.Used.{Used}
use Rattle.sound_fields.specs.Fields.{all_below, byte_fine}
use Rattle.sound_fields.proofs.Below.{when_false, all_between, same_below, split_below}
use Rattle.sound_tables.specs.Tables.{params_at, bytes_fine}

-- a row of zeros
abbrev pub blank : List ℕ → Bool
blank row = all_below 8 (byte_fine row 0)

past_last : (w : List ℕ) (u : Used) (params : List (List ℕ)) (i : ℕ) → u.structs ≤ i → bytes_fine w u params i ≡ blank (get_or params i [])
unfolding bytes_fine params_at
past_last w u params i h = ap (λ (n : ℕ). all_below 8 (byte_fine (get_or params i []) n)) (when_false _ _ _ (le-ltb i u.structs h))

pub params_split : (w : List ℕ) (u : Used) (params : List (List ℕ)) → length params ≡ 256 → u.structs ≤ 256
    → all_below 256 (bytes_fine w u params) ≡ all_below u.structs (bytes_fine w u params) && list_all blank (between u.structs 256 params)
params_split w u params e h =
    split_below 256 u.structs (bytes_fine w u params) h
    ∙ ap (λ (b : Bool). all_below u.structs (bytes_fine w u params) && b)
    (same_below (256 - u.structs) _ _ (λ k p. past_last w u params (u.structs + k) (omega arith))
    ∙ sym (all_between blank [] params u.structs 256 (omega arith)))
