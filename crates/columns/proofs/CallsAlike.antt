-- From row words and columns that match every call answers alike, and leaves words and columns that match. Assumes nothing.
use mathlib.Core.Path.{◌≡◌, refl, ap, ◌∙◌}
use mathlib.Core.Bool.{Bool, true, false}
use mathlib.Core.List.{List, []}
use Prim.Native.Nat.{ℕ}
use lib.Dec.{eqb}
use lib.ListN.{length}
use Rattle.definition.specs.Types.{fresh}
use Rattle.definition.specs.Write.{Bytes}
use Rattle.definition.specs.Step.{step}
use Rattle.pieces.specs.Pieces.{next_lines}
use Rattle.table.specs.Encode.{encode}
use Rattle.sound.specs.Lent.{decode, encode_params, lent_sound}
use Rattle.engine.specs.Public.{LentAnswer, lent_answer, lent_step, LentPiece, lent_piece, lent_lines, fresh_lines}
use Rattle.engine.proofs.Fresh.{from_fresh}
use Rattle.split.specs.Rest.{rest_of}
use Rattle.columns.specs.Columns.{Columns, Fit, fits, rows_of, Matches, column_sound}
use Rattle.columns.specs.Public.{ColumnAnswer, column_answer, column_step, ColumnPiece, column_piece, no_piece, column_lines, column_fresh, column_rest}
use Rattle.columns.proofs.Words.{words_long}
use Rattle.columns.proofs.Fit.{fits_says, fits_passes, no_fit}
use Rattle.columns.proofs.ThereAndBack.{back_rows, matches_back, PastKept, past_kept}
use Rattle.columns.proofs.SameState.{encode_long}

-- ---- the rows' calls leave as many words as they were lent

step_long : (w : List ℕ) (params : List (List ℕ)) (bytes : Bytes) (buffer : ℕ) → length w ≡ 24069 → length (lent_step w params bytes buffer).words ≡ 24069
unfolding lent_step lent_answer
step_long w params bytes buffer e = go (lent_sound w params)
  where
    go : (b : Bool) → length (elim b as (λ x. LentAnswer) [ true ↦ lent_answer (step (decode w params) bytes buffer) | false ↦ record { number = 15; payload = []; words = w; params = params } ]).words ≡ 24069
    go true = encode_long _
    go false = e

lines_long : (w : List ℕ) (params : List (List ℕ)) (index : ℕ) (stream : Bytes) (room : ℕ) (more : Bool) → length w ≡ 24069 → length (lent_lines w params index stream room more).words ≡ 24069
unfolding lent_lines lent_piece
lines_long w params index stream room more e = go (lent_sound w params)
  where
    go : (b : Bool) → length (elim b as (λ x. LentPiece) [ true ↦ lent_piece (next_lines index (decode w params) stream room more) | false ↦ record { number = 15; text = []; words = w; params = params; rest = stream; index = index; ended = true } ]).words ≡ 24069
    go true = encode_long _
    go false = e

fresh_long : (w : List ℕ) (params : List (List ℕ)) (stream : Bytes) (room : ℕ) (more : Bool) → length w ≡ 24069 → length (fresh_lines w params stream room more).words ≡ 24069
unfolding fresh_lines
fresh_long w params stream room more e = go (eqb (length w) 24069)
  where
    go : (b : Bool) → length (elim b as (λ x. LentPiece) [ true ↦ lent_lines (encode fresh) (encode_params fresh) 0 stream room more | false ↦ lent_lines w params 0 stream room more ]).words ≡ 24069
    go true = lines_long (encode fresh) (encode_params fresh) 0 stream room more (encode_long fresh)
    go false = lines_long w params 0 stream room more e

-- ---- columns that fit: the rows' call, put back

module _ (C : Columns) (h : Fit C) (params : List (List ℕ)) where
  step_is : (bytes : Bytes) (buffer : ℕ) → column_step C params bytes buffer ≡ column_answer C (lent_step (rows_of C) params bytes buffer)
  unfolding column_step
  step_is bytes buffer = rw (fits_passes C h, column_step) refl

  lines_is : (index : ℕ) (stream : Bytes) (room : ℕ) (more : Bool) → column_lines C params index stream room more ≡ column_piece C (lent_lines (rows_of C) params index stream room more)
  unfolding column_lines
  lines_is index stream room more = rw (fits_passes C h, column_lines) refl

  fresh_is : (stream : Bytes) (room : ℕ) (more : Bool) → column_fresh C params stream room more ≡ column_piece C (fresh_lines (rows_of C) params stream room more)
  unfolding column_fresh
  fresh_is stream room more = rw (fits_passes C h, column_fresh) refl

  rest_is : (stream : Bytes) → column_rest C params stream ≡ rest_of (rows_of C) params stream
  unfolding column_rest
  rest_is stream = rw (fits_passes C h, column_rest) refl

-- ---- alike

-- b, from the columns C, tells what a tells, and leaves columns that match a's words; what stands past the 2,048 is as it was
pub record AnswersAlike (C : Columns) (a : LentAnswer) (b : ColumnAnswer) : Type 0 where
  pub number : b.number ≡ a.number
  pub payload : b.payload ≡ a.payload
  pub params : b.params ≡ a.params
  pub left : Matches a.words b.columns
  pub past : PastKept C b.columns

pub record PiecesAlike (C : Columns) (a : LentPiece) (b : ColumnPiece) : Type 0 where
  pub number : b.number ≡ a.number
  pub text : b.text ≡ a.text
  pub params : b.params ≡ a.params
  pub rest : b.rest ≡ a.rest
  pub index : b.index ≡ a.index
  pub ended : b.ended ≡ a.ended
  pub left : Matches a.words b.columns
  pub past : PastKept C b.columns

module _ (C : Columns) (h : Fit C) where
  answer_alike : (a : LentAnswer) → length a.words ≡ 24069 → AnswersAlike C a (column_answer C a)
  unfolding column_answer
  answer_alike a e = record { number = refl; payload = refl; params = refl; left = matches_back C a.words h e; past = past_kept C a.words }

  piece_alike : (a : LentPiece) → length a.words ≡ 24069 → PiecesAlike C a (column_piece C a)
  unfolding column_piece
  piece_alike a e = record { number = refl; text = refl; params = refl; rest = refl; index = refl; ended = refl; left = matches_back C a.words h e; past = past_kept C a.words }

-- every call, of any bytes, with equal room
pub record Alike (w : List ℕ) (C : Columns) (params : List (List ℕ)) : Type 0 where
  pub records : (bytes : Bytes) (buffer : ℕ) → AnswersAlike C (lent_step w params bytes buffer) (column_step C params bytes buffer)
  pub lines : (index : ℕ) (stream : Bytes) (room : ℕ) (more : Bool) → PiecesAlike C (lent_lines w params index stream room more) (column_lines C params index stream room more)
  pub first_lines : (stream : Bytes) (room : ℕ) (more : Bool) → PiecesAlike C (fresh_lines w params stream room more) (column_fresh C params stream room more)
  pub split : (stream : Bytes) → column_rest C params stream ≡ rest_of w params stream

-- from the rows that the columns stand for
alike_rows : (C : Columns) (params : List (List ℕ)) → Fit C → Alike (rows_of C) C params
alike_rows C params h =
    let e = words_long C.kinds C.locs C.bodies C.rest in
    record {
      records = λ bytes buffer. rw (step_is C h params bytes buffer) (answer_alike C h _ (step_long (rows_of C) params bytes buffer e));
      lines = λ index stream room more. rw (lines_is C h params index stream room more) (piece_alike C h _ (lines_long (rows_of C) params index stream room more e));
      first_lines = λ stream room more. rw (fresh_is C h params stream room more) (piece_alike C h _ (fresh_long (rows_of C) params stream room more e));
      split = λ stream. rest_is C h params stream;
    }

pub alike : (w : List ℕ) (C : Columns) (params : List (List ℕ)) → Matches w C → Alike w C params
alike w C params m = rw m.same at (alike_rows C params m.fit)

-- ---- no sound state: 15, and nothing changes

module _ (C : Columns) (params : List (List ℕ)) (u : column_sound C params ≡ false) where
  -- they fit, so what they stand for is not sound
  rows_unsound : fits C ≡ true → lent_sound (rows_of C) params ≡ false
  unfolding column_sound
  rows_unsound e = rw (column_sound, e) at u

  module _ (bytes : Bytes) (buffer : ℕ) where
    step_by : (b : Bool) → fits C ≡ b → column_step C params bytes buffer ≡ record { number = 15; payload = []; columns = C; params = params }
    unfolding column_step column_answer lent_step
    step_by false e = rw (e, column_step) refl
    step_by true e =
        let h = fits_says C e in
        let r : lent_step (rows_of C) params bytes buffer ≡ record { number = 15; payload = []; words = rows_of C; params = params } = rw (rows_unsound e, lent_step) refl in
        step_is C h params bytes buffer ∙ ap (column_answer C) r ∙ (λ i. record { number = 15; payload = []; columns = back_rows C h i; params = params })

    pub unsound_step : column_step C params bytes buffer ≡ record { number = 15; payload = []; columns = C; params = params }
    unsound_step = step_by (fits C) refl

  module _ (index : ℕ) (stream : Bytes) (room : ℕ) (more : Bool) where
    lines_by : (b : Bool) → fits C ≡ b → column_lines C params index stream room more ≡ no_piece C params index stream
    unfolding column_lines column_piece no_piece lent_lines
    lines_by false e = rw (e, column_lines) refl
    lines_by true e =
        let h = fits_says C e in
        let r : lent_lines (rows_of C) params index stream room more ≡ record { number = 15; text = []; words = rows_of C; params = params; rest = stream; index = index; ended = true } = rw (rows_unsound e, lent_lines) refl in
        lines_is C h params index stream room more ∙ ap (column_piece C) r
        ∙ (λ i. record { number = 15; text = []; columns = back_rows C h i; params = params; rest = stream; index = index; ended = true })

    pub unsound_lines : column_lines C params index stream room more ≡ no_piece C params index stream
    unsound_lines = lines_by (fits C) refl

  module _ (stream : Bytes) where
    rest_by : (b : Bool) → fits C ≡ b → column_rest C params stream ≡ stream
    unfolding column_rest rest_of
    rest_by false e = rw (e, column_rest) refl
    rest_by true e = rest_is C (fits_says C e) params stream ∙ rw (rows_unsound e, rest_of) refl

    pub unsound_rest : column_rest C params stream ≡ stream
    unsound_rest = rest_by (fits C) refl

-- ---- a job's first lines are those from a fresh state, whatever columns that fit hold; others are 15

module _ (C : Columns) (params : List (List ℕ)) (stream : Bytes) (room : ℕ) (more : Bool) where
  pub first_fresh : Fit C → column_fresh C params stream room more ≡ column_piece C (lent_lines (encode fresh) (encode_params fresh) 0 stream room more)
  first_fresh h =
      let e = words_long C.kinds C.locs C.bodies C.rest in
      fresh_is C h params stream room more ∙ ap (column_piece C) (from_fresh (rows_of C) params stream room more e (encode fresh) (encode_params fresh) refl refl)

  pub unfit_fresh : (Fit C → ⊥) → column_fresh C params stream room more ≡ no_piece C params 0 stream
  unfolding column_fresh
  unfit_fresh n = rw (no_fit C n, column_fresh) refl
