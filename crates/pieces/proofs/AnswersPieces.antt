-- A job piece by piece, computed. Each line is false under an edit of must-fail/, or is the other side of one that is (docs/CLAIMS.md, 'Edits of the definition'). Assumes nothing.
use mathlib.Core.Path.{◌≡◌, refl}
use mathlib.Core.Bool.{Bool, true, false}
use mathlib.Core.List.{[], ◌∷◌, ◌++◌}
use Prim.Native.Nat.{ℕ}
use lib.ListN.{replicate}
use Rattle.definition.specs.Types.{fresh}
use Rattle.definition.specs.Write.{Bytes}
use Rattle.pieces.specs.Pieces.{Piece, line_room, max_line, max_index, takes_on, halt, after_line, next_from, next_lines}
use Rattle.definition.proofs.Computed.{log_of}
use Rattle.definition.proofs.Spelling.{text, unit, param, u8, bool, list, FV, JN, UF}

-- a piece of a job from a fresh state, every name unfolded
unfoldable pub piece : Bytes → ℕ → Bool → Piece
unfolding log_of line_room max_line max_index takes_on halt after_line next_from next_lines
piece bytes room more = next_lines 0 fresh bytes room more

-- ---- what is taken on

pub waits_at_4095_bytes : (piece (FV 1 ++ replicate 4089 0) 8217 true).text ≡ []
unfolding piece
waits_at_4095_bytes = refl

pub goes_on_at_4096_bytes : (piece (FV 1 ++ replicate 4090 0) 8217 true).text ≡ text "0 0 06010000000000\n"
unfolding piece
goes_on_at_4096_bytes = refl

pub waits_with_room_for_8216 : (piece (FV 1) 8216 false).text ≡ []
unfolding piece
waits_with_room_for_8216 = refl

pub goes_on_with_room_for_8217 : (piece (FV 1) 8217 false).text ≡ text "0 0 06010000000000\n"
unfolding piece
goes_on_with_room_for_8217 = refl

-- an MJ wants more room, told by its two letters
abbrev many : Bytes
many = text "MJ" ++ (1 ∷ 0 ∷ unit 1 ++ unit 2)

pub waits_with_room_for_122994 : (piece many 122994 false).text ≡ []
unfolding piece
waits_with_room_for_122994 = refl

pub goes_on_with_room_for_122995 : (piece many 122995 false).text ≡ text "0 0 0005000002000000\n"
unfolding piece
goes_on_with_room_for_122995 = refl

-- ---- what is told

pub second_answer_told : (piece (FV 1 ++ JN (u8 2) (bool 3)) 16434 false).text ≡ text "0 0 06010000000000\n1 2 0302000000000203030000000006\n"
unfolding piece
second_answer_told = refl

abbrev eight : Bytes → Bytes
eight t = list 0 (replicate 8 t)

-- UF of a type of 4,094 bytes
pub longest_record : Bytes
longest_record = UF (list 0 (list 0 (list 0 (unit 0 ∷ unit 0 ∷ param 0 0 ∷ replicate 5 (u8 0)) ∷ replicate 7 (eight (u8 0))) ∷ replicate 7 (eight (eight (u8 0)))))

-- all of the bytes at hand are read, and more follow
pub longest : Piece
unfolding piece longest_record
longest = piece longest_record 8217 true

pub longest_record_is_read : longest.rest ≡ []
unfolding longest
longest_record_is_read = refl

pub no_end_while_more_follow : longest.ended ≡ false
unfolding longest
no_end_while_more_follow = refl
