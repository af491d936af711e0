-- The test for columns that are long enough passes just where they are. Assumes nothing.
use mathlib.Core.Path.{◌≡◌, refl}
use mathlib.Core.Bool.{Bool, true, false, ◌&&◌}
use mathlib.Core.List.{List, [], ◌∷◌}
use Prim.Native.Nat.{ℕ, zero, suc, ◌<◌}
use native.Mathlib.Nat.{not-suc-le-zero, le_of_suc-le-suc}
use native.Mathlib.Omega.{arith}
use borrow.Author.Tests.{leb-true, le-leb, eqb-true, eq-eqb}
use lib.Dec.{leb, eqb}
use lib.ListN.{length, get_or}
use Rattle.sound_fields.proofs.Below.{and_l, and_r, both}
use Rattle.columns.specs.Columns.{Columns, Fit, four_each, fits}

four_are : (l : List (List ℕ)) → four_each l ≡ true → (t : ℕ) → t < length l → length (get_or l t []) ≡ 4
unfolding four_each
four_are [] e t p = absurd (not-suc-le-zero p)
four_are (b ∷ bs) e zero p = eqb-true (length b) 4 (and_l (eqb (length b) 4) (four_each bs) e)
four_are (b ∷ bs) e (suc t) p = four_are bs (and_r (eqb (length b) 4) (four_each bs) e) t (le_of_suc-le-suc p)

are_four : (l : List (List ℕ)) → ((t : ℕ) → t < length l → length (get_or l t []) ≡ 4) → four_each l ≡ true
unfolding four_each
are_four [] h = refl
are_four (b ∷ bs) h = both _ _ (eq-eqb (length b) 4 (h 0 (omega arith))) (are_four bs (λ t p. h (suc t) (omega (arith, p))))

module _ (C : Columns) where
  pub fits_says : fits C ≡ true → Fit C
  unfolding fits
  fits_says e =
      let K = leb 2048 (length C.kinds) in
      let L = leb 2048 (length C.locs) in
      let B = leb 2048 (length C.bodies) in
      let F = four_each C.bodies in
      let R = eqb (length C.rest) 11781 in
      let e2 = and_r K (L && (B && (F && R))) e in
      let e3 = and_r L (B && (F && R)) e2 in
      let e4 = and_r B (F && R) e3 in
      record {
        kinds = leb-true 2048 (length C.kinds) (and_l K (L && (B && (F && R))) e);
        locs = leb-true 2048 (length C.locs) (and_l L (B && (F && R)) e2);
        bodies = leb-true 2048 (length C.bodies) (and_l B (F && R) e3);
        four = four_are C.bodies (and_l F R e4);
        rest = eqb-true (length C.rest) 11781 (and_r F R e4);
      }

  pub fits_passes : Fit C → fits C ≡ true
  unfolding fits
  fits_passes h = both _ _ (le-leb 2048 (length C.kinds) h.kinds) (both _ _ (le-leb 2048 (length C.locs) h.locs) (both _ _ (le-leb 2048 (length C.bodies) h.bodies) (both _ _ (are_four C.bodies h.four) (eq-eqb (length C.rest) 11781 h.rest))))

  pub no_fit : (Fit C → ⊥) → fits C ≡ false
  no_fit n = go (fits C) refl
    where
      go : (b : Bool) → fits C ≡ b → fits C ≡ false
      go false e = e
      go true e = absurd (n (fits_says e))
