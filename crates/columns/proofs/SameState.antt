-- Row words and columns that match hold one state. Assumes nothing.
use mathlib.Core.Path.{◌≡◌, refl, sym, ap, ◌∙◌}
use mathlib.Core.Bool.{true, false}
use mathlib.Core.List.{List}
use Prim.Native.Nat.{ℕ, ◌<◌}
use native.Mathlib.Omega.{arith}
use lib.ListN.{length}
use Rattle.definition.specs.Types.{State}
use Rattle.table.specs.Encode.{encode}
use Rattle.sound.specs.Lent.{decode, lent_sound}
use Rattle.sound.proofs.Encode.{holds}
use Rattle.sound.proofs.Tested.{lent_says}
use Rattle.columns.specs.Columns.{Columns, Fit, Matches, back, column_state, column_sound}
use Rattle.columns.proofs.Fit.{fits_passes, no_fit}
use Rattle.columns.proofs.ThereAndBack.{back_rows, matches_back}

pub encode_long : (s : State) → length (encode s) ≡ 24069
encode_long s = (holds s).size

-- the same state, sound or not sound for both; and where it is sound, both are its encoding, the columns up to what stands past the 2,048
pub record SameState (w : List ℕ) (C : Columns) (params : List (List ℕ)) : Type 0 where
  pub state : column_state C params ≡ decode w params
  pub both_sound : column_sound C params ≡ lent_sound w params
  pub rows : lent_sound w params ≡ true → w ≡ encode (decode w params)
  pub columns : lent_sound w params ≡ true → C ≡ back C (encode (decode w params))

pub same_state : (w : List ℕ) (C : Columns) (params : List (List ℕ)) → Matches w C → SameState w C params
unfolding column_state column_sound
same_state w C params m = record {
  state = ap (λ (x : List ℕ). decode x params) m.same;
  both_sound = rw (fits_passes C m.fit, m.same) refl;
  rows = λ h. (lent_says w params h).words;
  columns = λ h. sym (ap (λ (x : List ℕ). back C x) (sym (m.same ∙ (lent_says w params h).words)) ∙ back_rows C m.fit);
}

-- whatever columns are lent, every state can stand in them
pub matches_encode : (C : Columns) (s : State) → Fit C → Matches (encode s) (back C (encode s))
matches_encode C s h = matches_back C (encode s) h (encode_long s)

-- ---- too short

pub unfit_unsound : (C : Columns) (params : List (List ℕ)) → (Fit C → ⊥) → column_sound C params ≡ false
unfolding column_sound
unfit_unsound C params n = rw (no_fit C n) refl

-- a column under 2,048, or a rest of another length, is no sound state's
pub record ShortUnsound (C : Columns) (params : List (List ℕ)) : Type 0 where
  pub kinds : length C.kinds < 2048 → column_sound C params ≡ false
  pub locs : length C.locs < 2048 → column_sound C params ≡ false
  pub bodies : length C.bodies < 2048 → column_sound C params ≡ false
  pub rest : (length C.rest ≡ 11781 → ⊥) → column_sound C params ≡ false

pub short_unsound : (C : Columns) (params : List (List ℕ)) → ShortUnsound C params
short_unsound C params = record {
  kinds = λ l. unfit_unsound C params (λ h. omega (arith, l, h.kinds));
  locs = λ l. unfit_unsound C params (λ h. omega (arith, l, h.locs));
  bodies = λ l. unfit_unsound C params (λ h. omega (arith, l, h.bodies));
  rest = λ n. unfit_unsound C params (λ h. n h.rest);
}
