-- Numbers of a row: which are just what they are read as. Assumes nothing.
-- By cases of the tag or the number, with omega for ranges: `-back` reads and writes again, `-was` says when that gives the same.
use mathlib.Core.Path.{◌≡◌, refl, sym, ap, ◌∙◌}
use mathlib.Core.Bool.{Bool, true, false, ◌&&◌}
use Rattle.std.specs.Prelude.{None, Some}
use Prim.Native.Nat.{ℕ, zero, suc, ◌+◌, ◌-◌, ◌≤◌, ◌<◌, ◌%◌}
use native.Mathlib.Nat.{mod-eq_of_lt}
use native.Mathlib.Omega.{arith}
use native.Mathlib.Decide.{ℕ_discrete, dec_lt}
use lib.Dec.{eqb, leb}
use borrow.Author.Tests.{leb-true, eqb-true, lt-ltb, le-ltb, le-leb, eq-eqb, ne_eqb}
use Rattle.std.specs.Prelude.{if◌then◌else◌}
use Rattle.definition.specs.Trees.{is_set, is_mark}
use Rattle.table.specs.Rows.{flag, read_mark, mark_word}
use Rattle.sound_fields.specs.Fields.{four_zeros, mark_fine}
use Rattle.sound_fields.proofs.Below.{and_l, and_r, both, when_true, when_false}

-- ---- tags

pub data Tag : ℕ → Type 0 where
  t0 : Tag 0
  t1 : Tag 1
  t2 : Tag 2
  t3 : Tag 3
  t4 : Tag 4
  t5 : Tag 5
  t6 : Tag 6
  t7 : Tag 7
  t8 : Tag 8
  beyond : (n : ℕ) → 8 < n → Tag n

pub tag_of : (n : ℕ) → Tag n
tag_of zero = t0
tag_of (suc zero) = t1
tag_of (suc (suc zero)) = t2
tag_of (suc (suc (suc zero))) = t3
tag_of (suc (suc (suc (suc zero)))) = t4
tag_of (suc (suc (suc (suc (suc zero))))) = t5
tag_of (suc (suc (suc (suc (suc (suc zero)))))) = t6
tag_of (suc (suc (suc (suc (suc (suc (suc zero))))))) = t7
tag_of (suc (suc (suc (suc (suc (suc (suc (suc zero)))))))) = t8
tag_of (suc (suc (suc (suc (suc (suc (suc (suc (suc n))))))))) = beyond (suc (suc (suc (suc (suc (suc (suc (suc (suc n))))))))) (omega arith)

-- ---- zeros

pub record Zeros (a b c d : ℕ) : Type 0 where
  pub a0 : a ≡ 0
  pub b0 : b ≡ 0
  pub c0 : c ≡ 0
  pub d0 : d ≡ 0

pub zeros_are : (a b c d : ℕ) → four_zeros a b c d ≡ true → Zeros a b c d
unfolding four_zeros
zeros_are a b c d e =
    let h3 = and_l (eqb a 0 && eqb b 0 && eqb c 0) (eqb d 0) e in
    let h2 = and_l (eqb a 0 && eqb b 0) (eqb c 0) h3 in
    record {
      a0 = eqb-true a 0 (and_l (eqb a 0) (eqb b 0) h2);
      b0 = eqb-true b 0 (and_r (eqb a 0) (eqb b 0) h2);
      c0 = eqb-true c 0 (and_r (eqb a 0 && eqb b 0) (eqb c 0) h3);
      d0 = eqb-true d 0 (and_r (eqb a 0 && eqb b 0 && eqb c 0) (eqb d 0) e);
    }

pub are_zeros : (a b c d : ℕ) → a ≡ 0 → b ≡ 0 → c ≡ 0 → d ≡ 0 → four_zeros a b c d ≡ true
unfolding four_zeros
are_zeros a b c d p q r s = both _ _ (both _ _ (both _ _ (eq-eqb a 0 p) (eq-eqb b 0 q)) (eq-eqb c 0 r)) (eq-eqb d 0 s)

-- ---- flags, sets, marks, options

pub flag_back : (a : ℕ) → a ≤ 1 → flag (eqb a 1) ≡ a
unfolding flag
flag_back zero h = refl
flag_back (suc zero) h = refl
flag_back (suc (suc n)) h = absurd (omega arith)

flag_small : (b : Bool) → flag b ≤ 1
unfolding flag
flag_small true = omega arith
flag_small false = omega arith

pub flag_was : (a : ℕ) → flag (eqb a 1) ≡ a → a ≤ 1
flag_was a e = rw e at (flag_small (eqb a 1))

pub mod_back : (x n : ℕ) → x < n → x % n ≡ x
mod_back x n h = mod-eq_of_lt h

pub set_mod : (x : ℕ) → x ≤ 15 → is_set (x % 256) ≡ true
set_mod x h = rw (mod_back x 256 (omega arith)) (le-leb x 15 h)

pub set_was : (x : ℕ) → x % 256 ≡ x → is_set (x % 256) ≡ true → x ≤ 15
set_was x e h = leb-true x 15 (rw e at h)

mark_zero : (a : ℕ) → a < 16 → read_mark a ≡ None
unfolding read_mark
mark_zero a h = when_true _ _ _ (lt-ltb a 16 h)

mark_set : (a : ℕ) → 16 ≤ a → read_mark a ≡ Some ((a - 16) % 256)
unfolding read_mark
mark_set a h = when_false _ _ _ (le-ltb a 16 h)

pub record MarkGood (a : ℕ) : Type 0 where
  pub back : mark_word (read_mark a) ≡ a
  pub allowed : is_mark (read_mark a) ≡ true

none_word : mark_word None ≡ 0
unfolding mark_word
none_word = refl

some_word : (x : ℕ) → mark_word (Some x) ≡ 16 + x
unfolding mark_word
some_word x = refl

none_mark : is_mark None ≡ true
unfolding is_mark
none_mark = refl

some_mark : (x : ℕ) → is_mark (Some x) ≡ is_set x
unfolding is_mark
some_mark x = refl

pub mark_good : (a : ℕ) → mark_fine a ≡ true → MarkGood a
unfolding mark_fine
mark_good a e = by (ℕ_discrete a 0)
  where
    by : Dec (a ≡ 0) → MarkGood a
    by (yes p) = let r = mark_zero a (omega arith) in record { back = ap mark_word r ∙ none_word ∙ sym p; allowed = ap is_mark r ∙ none_mark }
    by (no p) =
        let h = sym (when_false (eqb a 0) true (leb 16 a && leb a 31) (ne_eqb a 0 p)) ∙ e in
        let lo = leb-true 16 a (and_l (leb 16 a) (leb a 31) h) in
        let hi = leb-true a 31 (and_r (leb 16 a) (leb a 31) h) in
        let r = mark_set a lo in
        let m = mod_back (a - 16) 256 (omega arith) in
        let s = set_mod (a - 16) (omega arith) in
        record { back = ap mark_word r ∙ some_word _ ∙ omega (arith, m); allowed = ap is_mark r ∙ some_mark _ ∙ s }

pub mark_was : (a : ℕ) → mark_word (read_mark a) ≡ a → is_mark (read_mark a) ≡ true → mark_fine a ≡ true
unfolding mark_fine
mark_was a e h = by (ℕ_discrete a 0) (dec_lt a 16)
  where
    by : Dec (a ≡ 0) → Dec (a < 16) → (if eqb a 0 then true else leb 16 a && leb a 31) ≡ true
    by (yes p) q = when_true _ _ _ (eq-eqb a 0 p)
    by (no p) (yes q) = absurd (p (sym e ∙ ap mark_word (mark_zero a q) ∙ none_word))
    by (no p) (no q) =
        let r = mark_set a (omega arith) in
        let m : 16 + (a - 16) % 256 ≡ a = sym (some_word _) ∙ ap mark_word (sym r) ∙ e in
        let s = set_was (a - 16) (omega (arith, m)) (sym (some_mark _) ∙ ap is_mark (sym r) ∙ h) in
        when_false _ _ _ (ne_eqb a 0 p) ∙ both _ _ (le-leb 16 a (omega arith)) (le-leb a 31 (omega (arith, s)))
