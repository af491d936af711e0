-- The lent words and parameter bytes as the definition's state, and that state as words and bytes. Assumes nothing: these are definitions.
use Rattle.std.specs.Prelude.{◌≡◌, Bool, true, false, ◌&&◌, List, [], ◌∷◌, ℕ, eqb, length, get_or}
use Rattle.definition.specs.Types.{State, Struct}
use Rattle.definition.specs.Sound.{sound}
use Rattle.table.specs.Tab.{tab}
use Rattle.table.specs.Rows.{row, struct_table}
use Rattle.table.specs.State.{seen, used_at}
use Rattle.table.specs.Encode.{encode}
use Rattle.table.specs.declared.Used.{Used}

-- ---- from words

-- the first five words are the counts
unfoldable pub used_of : List ℕ → Used
used_of w = used_at w

-- the first n bytes of row i
unfoldable pub bytes_at : List (List ℕ) → ℕ → ℕ → List ℕ
bytes_at params i n = tab n (λ k. get_or (get_or params i []) k 0)

-- declaration i: its row, with as many bytes as the row says
unfoldable pub struct_of : List ℕ → List (List ℕ) → ℕ → Struct
struct_of w params i = record { abilities = (struct_table.read (row struct_table w i)).abilities; params = bytes_at params i (length (struct_table.read (row struct_table w i)).params) }

unfoldable pub structs_of : List ℕ → List (List ℕ) → ℕ → List Struct
structs_of w params n = tab n (λ i. struct_of w params i)

unfoldable pub decode : List ℕ → List (List ℕ) → State
decode w params = seen w (used_of w) (structs_of w params (used_of w).structs)

-- ---- to words: table's `encode`, and the bytes

-- eight bytes for each of 256 declarations, zero past its parameters and past the last declaration
unfoldable pub encode_params : State → List (List ℕ)
encode_params s = tab 256 (λ i. tab 8 (λ k. get_or (get_or s.structs i struct_table.blank).params k 0))

-- ---- the test

unfoldable pub same_words : List ℕ → List ℕ → Bool
same_words [] [] = true
same_words [] (y ∷ m) = false
same_words (x ∷ l) [] = false
same_words (x ∷ l) (y ∷ m) = eqb x y && same_words l m

unfoldable pub same_rows : List (List ℕ) → List (List ℕ) → Bool
same_rows [] [] = true
same_rows [] (y ∷ m) = false
same_rows (x ∷ l) [] = false
same_rows (x ∷ l) (y ∷ m) = same_words x y && same_rows l m

-- words and bytes are just those of the state that they hold, and it is sound
unfoldable pub lent_sound : List ℕ → List (List ℕ) → Bool
lent_sound w params = same_words w (encode (decode w params)) && same_rows params (encode_params (decode w params)) && sound (decode w params)

-- the same in words (proofs/Tested.antt: the test passes just where this holds)
pub record LentSound (w : List ℕ) (params : List (List ℕ)) : Type 0 where
  pub words : w ≡ encode (decode w params)
  pub bytes : params ≡ encode_params (decode w params)
  pub is_sound : sound (decode w params) ≡ true
