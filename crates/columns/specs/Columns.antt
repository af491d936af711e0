-- The lent state with its nodes in columns, one for each field of a node, and which row words (docs/STATE.md) that stands for. Assumes nothing: these are definitions.
use Rattle.std.specs.Prelude.{◌≡◌, Bool, true, ◌&&◌, List, [], ◌∷◌, ◌++◌, ℕ, ◌+◌, ◌-◌, ◌*◌, ◌/◌, ◌%◌, ◌<◌, ◌≤◌, eqb, ltb, leb, length, get_or, drop, if◌then◌else◌}
use Rattle.definition.specs.Types.{State}
use Rattle.table.specs.Tab.{tab}
use Rattle.table.specs.Rows.{words_at}
use Rattle.sound.specs.Lent.{decode, lent_sound}

-- each node's kind, location and body, which is four words whose meaning the kind decides; and all other words
pub record Columns : Type 0 where
  pub kinds : List ℕ
  pub locs : List ℕ
  pub bodies : List (List ℕ)
  pub rest : List ℕ

-- ---- long enough

-- 2,048 nodes or more, and all other words. What stands in a column past the 2,048 belongs to nobody
pub record Fit (C : Columns) : Type 0 where
  pub kinds : 2048 ≤ length C.kinds
  pub locs : 2048 ≤ length C.locs
  pub bodies : 2048 ≤ length C.bodies
  pub four : (t : ℕ) → t < length C.bodies → length (get_or C.bodies t []) ≡ 4
  pub rest : length C.rest ≡ 11781

unfoldable pub four_each : List (List ℕ) → Bool
four_each [] = true
four_each (b ∷ bs) = eqb (length b) 4 && four_each bs

-- the test for it (proofs/Fit.antt: it passes just where they fit)
unfoldable pub fits : Columns → Bool
fits C =
    leb 2048 (length C.kinds)
    && (leb 2048 (length C.locs)
    && (leb 2048 (length C.bodies)
    && (four_each C.bodies && eqb (length C.rest) 11781)))

-- ---- from columns to rows

-- field f of node t, in a row's order: its kind, its location, the four words of its body
unfoldable pub field : List ℕ → List ℕ → List (List ℕ) → ℕ → ℕ → ℕ
field k l b f t = if eqb f 0 then get_or k t 0 else if eqb f 1 then get_or l t 0 else get_or (get_or b t []) (f - 2) 0

-- word j of the rows: the five counts, then six fields for each node, then the other tables. Those stand in the rest too, with no nodes before them:
-- 12,288 words earlier
unfoldable pub word : (ℕ → ℕ → ℕ) → List ℕ → ℕ → ℕ
word at r j = if ltb j 5 then get_or r j 0 else if ltb j 12293 then at ((j - 5) % 6) ((j - 5) / 6) else get_or r (j - 12288) 0

-- the row words. They take four lists, so that a struct of four lent slices can be read by them as well as `Columns`
unfoldable pub words : List ℕ → List ℕ → List (List ℕ) → List ℕ → List ℕ
words k l b r = tab 24069 (word (field k l b) r)

abbrev pub rows_of : Columns → List ℕ
rows_of C = words C.kinds C.locs C.bodies C.rest

-- the columns C hold what the row words w hold
pub record Matches (w : List ℕ) (C : Columns) : Type 0 where
  pub fit : Fit C
  pub same : rows_of C ≡ w

-- ---- from rows to columns

unfoldable pub columns_of : List ℕ → Columns
columns_of w = record {
  kinds = tab 2048 (λ t. get_or w (5 + t * 6) 0);
  locs = tab 2048 (λ t. get_or w (5 + t * 6 + 1) 0);
  bodies = tab 2048 (λ t. words_at w (5 + t * 6 + 2) 4);
  rest = tab 11781 (λ j. get_or w (if ltb j 5 then j else j + 12288) 0);
}

-- a new front; what stands past it is kept
unfoldable pub over : {A : Type 0} → List A → List A → List A
over front l = front ++ drop (length front) l

-- the columns C with what the row words w hold
unfoldable pub back : Columns → List ℕ → Columns
back C w = record {
  kinds = over (columns_of w).kinds C.kinds;
  locs = over (columns_of w).locs C.locs;
  bodies = over (columns_of w).bodies C.bodies;
  rest = (columns_of w).rest;
}

-- ---- the state

-- the definition's state that the columns and the parameter bytes hold
unfoldable pub column_state : Columns → List (List ℕ) → State
column_state C params = decode (rows_of C) params

-- they are long enough, and just those of the state that they hold, which is sound
unfoldable pub column_sound : Columns → List (List ℕ) → Bool
column_sound C params = fits C && lent_sound (rows_of C) params
