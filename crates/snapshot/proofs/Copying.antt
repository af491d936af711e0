-- Rows copied one after the other, or all of them. Assumes nothing.
use mathlib.Core.Path.{◌≡◌, refl, sym, ap, ◌∙◌}
use mathlib.Core.List.{List}
use mathlib.Core.Logic.{◌⊎◌, inl, inr}
use Prim.Native.Nat.{ℕ, ◌+◌, ◌*◌, ◌<◌}
use native.Mathlib.Omega.{arith}
use native.Mathlib.Decide.{ℕ_discrete}
use lib.ListN.{get_or}
use Rattle.table.specs.State.{Wrote}
use Rattle.table.specs.Touched.{Untouched}
use Rattle.table.specs.declared.Touched.{Touched}
use Rattle.table.specs.declared.Touched.TheVariants.{Nothing, One, Two, Three, Any}
use Rattle.snapshot.specs.Copied.{RowCopied, CopiedRow, Copied}

module _ {to from : List ℕ} {at first n : ℕ} where
  pub copied_none : Copied to at from first n Nothing to
  copied_none = record { size = refl; rows = λ v p. inr tt; stay = λ v p f k q. refl; there = λ j f. refl }

  -- row v after those that t notes
  copied_more : {t t' : Touched} {v : ℕ} {to₁ to₂ : List ℕ} → Copied to at from first n t to₁ → CopiedRow to₁ at from first n v to₂
      → ((x : ℕ) → Untouched t x → (x ≡ v → ⊥) → Untouched t' x) → ((x : ℕ) → Untouched t' x → Untouched t x × (x ≡ v → ⊥)) → Copied to at from first n t' to₂
  copied_more {t} {t'} {v} {to₁} {to₂} c r on off =
      record {
        size = r.size ∙ c.size;
        rows = λ x p. row x p (ℕ_discrete x v);
        stay = λ x p f k q.
            let b = off x f in
            let ne = b.1 in
            r.there (at + (x * 5 + k)) (λ l lt s e. ne (omega arith)) ∙ c.stay x p b.0 k q;
        there = λ j f. r.there j (λ k lt s e. f (v * 5 + k) (omega arith) e) ∙ c.there j f;
      }
    where
      row : (x : ℕ) → x < n → Dec (x ≡ v) → RowCopied to₂ at from first x ⊎ Untouched t' x
      row x p (yes e) = inl (rw e (r.here (rw e at p)))
      row x p (no ne) = elim (c.rows x p) [
        | inl f ↦ inl (λ k q. r.there (at + (x * 5 + k)) (λ l lt s e. ne (omega arith)) ∙ f k q)
        | inr f ↦ inr (on x f ne)
      ]

  module _ {to₁ : List ℕ} {a : ℕ} (ra : CopiedRow to at from first n a to₁) where
    pub copied_one : Copied to at from first n (One a) to₁
    copied_one = copied_more copied_none ra (λ x f ne. ne) (λ x f. (tt, f))

    module _ {to₂ : List ℕ} {b : ℕ} (rb : CopiedRow to₁ at from first n b to₂) where
      pub copied_two : Copied to at from first n (Two a b) to₂
      copied_two = copied_more copied_one rb (λ x f ne. (f, ne)) (λ x f. f)

      pub copied_three : {to₃ : List ℕ} {c : ℕ} → CopiedRow to₂ at from first n c to₃ → Copied to at from first n (Three a b c) to₃
      copied_three rc = copied_more copied_two rc (λ x f ne. (f.0, (f.1, ne))) (λ x f. ((f.0, f.1.0), f.1.1))

  pub copied_all : {part to' : List ℕ} → Wrote to at (n * 5) part to' → ((k : ℕ) → k < n * 5 → get_or part k 0 ≡ get_or from (first + k) 0) → Copied to at from first n Any to'
  copied_all h f = record { size = h.size; rows = λ v p. inl (λ k q. h.here (v * 5 + k) (omega arith) ∙ f (v * 5 + k) (omega arith)); stay = λ v p x. absurd x; there = h.there }

pub copied_row : {to from : List ℕ} {at first n v : ℕ} {ys to' : List ℕ} → v < n → Wrote to (at + v * 5) 5 ys to' → ((k : ℕ) → k < 5 → get_or ys k 0 ≡ get_or from (first + v * 5 + k) 0) → CopiedRow to at from first n v to'
copied_row {to} {from} {at} {first} {n} {v} {ys} {to'} lt h f =
    record {
      size = h.size;
      here = λ l k p.
          let e : at + (v * 5 + k) ≡ at + v * 5 + k = omega arith in
          let g : first + (v * 5 + k) ≡ first + v * 5 + k = omega arith in
          ap (λ (x : ℕ). get_or to' x 0) e ∙ h.here k p ∙ f k p ∙ ap (λ (x : ℕ). get_or from x 0) (sym g);
      there = λ j ne. h.there j (λ k p e. ne k lt p (omega (arith, e)));
    }
