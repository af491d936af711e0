-- Computed: single words of the mapping, columns one entry short or long, and what stands past a new front. Each line is false under an edit of must-fail/, or is the other side of one that is. Assumes nothing.
use mathlib.Core.Path.{◌≡◌, refl}
use mathlib.Core.Bool.{true, false}
use mathlib.Core.List.{[], ◌∷◌}
use Prim.Native.Nat.{ℕ}
use lib.ListN.{replicate}
use Rattle.columns.specs.Columns.{Columns, fits, four_each, field, word, over}

-- two nodes, and a rest of seven words: five counts, two argument places
abbrev fields : ℕ → ℕ → ℕ
fields = field (1 ∷ 3 ∷ []) (11 ∷ 12 ∷ []) ((21 ∷ 22 ∷ 23 ∷ 24 ∷ []) ∷ (31 ∷ 32 ∷ 33 ∷ 34 ∷ []) ∷ [])

abbrev at : ℕ → ℕ
at = word fields (2 ∷ 40 ∷ 50 ∷ 60 ∷ 70 ∷ 81 ∷ 82 ∷ [])

pub counts_stay : (at 0 ∷ at 1 ∷ at 2 ∷ at 3 ∷ at 4 ∷ []) ≡ 2 ∷ 40 ∷ 50 ∷ 60 ∷ 70 ∷ []
unfolding word field
counts_stay = refl

pub first_node : (at 5 ∷ at 6 ∷ at 7 ∷ at 8 ∷ at 9 ∷ at 10 ∷ []) ≡ 1 ∷ 11 ∷ 21 ∷ 22 ∷ 23 ∷ 24 ∷ []
unfolding word field
first_node = refl

pub second_node : (at 11 ∷ at 12 ∷ at 13 ∷ at 14 ∷ at 15 ∷ at 16 ∷ []) ≡ 3 ∷ 12 ∷ 31 ∷ 32 ∷ 33 ∷ 34 ∷ []
unfolding word field
second_node = refl

pub no_node : (at 17 ∷ at 12292 ∷ []) ≡ 0 ∷ 0 ∷ []
unfolding word field
no_node = refl

pub places_follow : (at 12293 ∷ at 12294 ∷ at 12295 ∷ []) ≡ 81 ∷ 82 ∷ 0 ∷ []
unfolding word field
places_follow = refl

-- ---- long enough

abbrev pub of_lengths : ℕ → ℕ → ℕ → ℕ → Columns
of_lengths k l b r = record { kinds = replicate k 0; locs = replicate l 0; bodies = replicate b (0 ∷ 0 ∷ 0 ∷ 0 ∷ []); rest = replicate r 0 }

pub just_fit : fits (of_lengths 2048 2048 2048 11781) ≡ true
unfolding fits four_each
just_fit = refl

pub longer_fit : fits (of_lengths 2049 5000 3000 11781) ≡ true
unfolding fits four_each
longer_fit = refl

pub short_kinds : fits (of_lengths 2047 2048 2048 11781) ≡ false
unfolding fits four_each
short_kinds = refl

pub short_locs : fits (of_lengths 2048 2047 2048 11781) ≡ false
unfolding fits four_each
short_locs = refl

pub short_bodies : fits (of_lengths 2048 2048 2047 11781) ≡ false
unfolding fits four_each
short_bodies = refl

pub short_rest : fits (of_lengths 2048 2048 2048 11780) ≡ false
unfolding fits four_each
short_rest = refl

pub long_rest : fits (of_lengths 2048 2048 2048 11782) ≡ false
unfolding fits four_each
long_rest = refl

-- ---- a new front

pub past_the_front : over {A = ℕ} (1 ∷ 2 ∷ []) (7 ∷ 8 ∷ 9 ∷ 10 ∷ []) ≡ 1 ∷ 2 ∷ 9 ∷ 10 ∷ []
unfolding over
past_the_front = refl
