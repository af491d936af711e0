-- When a record is taken on, test by test. Assumes nothing.
use mathlib.Core.Path.{◌≡◌, refl, sym, ap, ◌∙◌}
use mathlib.Core.Bool.{Bool, true, false, not, ◌||◌, ◌&&◌}
use Prim.Native.Nat.{ℕ, ◌≤◌, ◌<◌}
use borrow.Author.Tests.{lt-leb, le-leb}
use lib.Dec.{leb, ltb}
use lib.ListN.{length}
use Rattle.definition.specs.Write.{Bytes}
use Rattle.definition.specs.Record.{max_record}
use Rattle.pieces.specs.Pieces.{line_room, max_index, takes_on}

pub fails_r : (a b : Bool) → b ≡ false → a && b ≡ false
fails_r true b e = e
fails_r false b e = refl

module _ (i : ℕ) (b : Bytes) (room : ℕ) (more : Bool) where
  abbrev hand : Bool
  hand = not more || leb 4096 (length b)

  pub takes_none : hand ≡ false → false ≡ takes_on i b room more
  unfolding takes_on max_record
  takes_none e = sym (ap (λ (x : Bool). x && (leb (line_room b) room && ltb i max_index)) e)

  pub takes_little : room < line_room b → false ≡ takes_on i b room more
  unfolding takes_on
  takes_little l = sym (fails_r (not more || leb max_record (length b)) _ (ap (λ (x : Bool). x && ltb i max_index) (lt-leb (line_room b) room l)))

  pub takes_last : hand ≡ true → line_room b ≤ room → ltb i 18446744073709551615 ≡ takes_on i b room more
  unfolding takes_on max_record max_index
  takes_last e l = sym (ap (λ (x : Bool). x && (leb (line_room b) room && ltb i 18446744073709551615)) e ∙ ap (λ (x : Bool). x && ltb i 18446744073709551615) (le-leb (line_room b) room l))
