-- A saved state of the row layout, converted, matches what it was, and goes on as it would have. Assumes nothing.
use mathlib.Core.Path.{◌≡◌, refl, ap, ap₂, ◌∙◌}
use mathlib.Core.Bool.{Bool, true, false, ◌&&◌}
use mathlib.Core.List.{List, [], ◌∷◌}
use Prim.Native.Nat.{ℕ}
use Rattle.definition.specs.Write.{Bytes}
use Rattle.sound.specs.Lent.{lent_sound}
use Rattle.sound.proofs.Tested.{lent_says, lent_holds}
use Rattle.sound_fields.proofs.Below.{both}
use Rattle.columns.specs.Columns.{Columns, Fit, fits, Matches, back}
use Rattle.columns.specs.Public.{Conversion, convert, Call, row_answers, column_step, column_answers}
use Rattle.columns.proofs.Fit.{fits_passes, no_fit}
use Rattle.columns.proofs.ThereAndBack.{matches_back, PastKept, past_kept}
use Rattle.columns.proofs.CallsAlike.{Alike, alike}

-- ---- records one after the other

-- from states that match a caller is told the same of any records
pub go_on : (cs : List Call) (w : List ℕ) (C : Columns) (params : List (List ℕ)) → Matches w C → column_answers cs C params ≡ row_answers cs w params
unfolding column_answers row_answers
go_on [] w C params m = refl
go_on (c ∷ cs) w C params m =
    let a = (alike w C params m).records c.bytes c.buffer in
    let rest = go_on cs _ _ _ a.left in
    ap₂ (λ (x : ℕ × Bytes) (l : List (ℕ × Bytes)). x ∷ l) (λ i. (a.number i, a.payload i))
    (ap (λ (p : List (List ℕ)). column_answers cs (column_step C params c.bytes c.buffer).columns p) a.params ∙ rest)

-- ---- the converter

-- sound saved words, and columns that fit: 0, and they match; what stands past the 2,048 is as it was. So every call answers alike, and every list of records
pub record Converted (saved : List ℕ) (params : List (List ℕ)) (C : Columns) (r : Conversion) : Type 0 where
  pub is : r ≡ record { number = 0; columns = back C saved }
  pub match : Matches saved r.columns
  pub past : PastKept C r.columns
  pub calls : Alike saved r.columns params
  pub goes_on : (cs : List Call) → column_answers cs r.columns params ≡ row_answers cs saved params

module _ (saved : List ℕ) (params : List (List ℕ)) (C : Columns) where
  pub converted : Fit C → lent_sound saved params ≡ true → Converted saved params C (convert saved params C)
  unfolding convert
  converted h s =
      let e : convert saved params C ≡ record { number = 0; columns = back C saved } = rw (both _ _ (fits_passes C h) s, convert) refl in
      let m = matches_back C saved h (lent_holds saved params (lent_says saved params s)).size in
      rw e (record { is = refl; match = m; past = past_kept C saved; calls = alike saved (back C saved) params m; goes_on = λ cs. go_on cs saved (back C saved) params m })

  -- else 15, and nothing is written
  refused : fits C && lent_sound saved params ≡ false → convert saved params C ≡ record { number = 15; columns = C }
  unfolding convert
  refused e = rw (e, convert) refl

  no_and : (b : Bool) → lent_sound saved params ≡ false → b && lent_sound saved params ≡ false
  no_and true s = s
  no_and false s = refl

  pub unsound_refused : lent_sound saved params ≡ false → convert saved params C ≡ record { number = 15; columns = C }
  unsound_refused s = refused (no_and (fits C) s)

  pub unfit_refused : (Fit C → ⊥) → convert saved params C ≡ record { number = 15; columns = C }
  unfit_refused n = refused (ap (λ (b : Bool). b && lent_sound saved params) (no_fit C n))
