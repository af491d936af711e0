-- Laws of words taken from a place on, and of rows written one after the other. Assumes nothing.
use mathlib.Core.Path.{◌≡◌, refl, sym, ap, ap₂, ◌∙◌}
use mathlib.Core.Logic.{⊎_elim}
use mathlib.Core.List.{List, [], ◌∷◌, ◌++◌, append_assoc, append-nil}
use Prim.Native.Nat.{ℕ, zero, suc, ◌+◌, ◌*◌, ◌<◌}
use native.Mathlib.Nat.{not-suc-le-zero, eq-or-lt_of_le, le_of_suc-le-suc, suc-mul, zero-mul, mul-le-mul_right}
use native.Mathlib.Omega.{arith}
use lib.ListN.{length, get_or, length-append, get_or-append}
use lib.Seq.{get_or-append-add, ext_get_or}
use Rattle.table.specs.Tab.{tab}
use Rattle.table.specs.Rows.{words_at}
use Rattle.table.proofs.Tab.{length_tab, getD_tab}
use Rattle.table.specs.Encode.{flat}

-- f 0, f 1, .., f (n - 1), one after the other
unfoldable pub joined : ℕ → (ℕ → List ℕ) → List ℕ
joined zero f = []
joined (suc n) f = joined n f ++ f n

flat_more : (l : List (List ℕ)) (r : List ℕ) → flat (l ++ (r ∷ [])) ≡ flat l ++ r
unfolding flat
flat_more [] r = append-nil r
flat_more (x ∷ l) r = ap (λ (y : List ℕ). x ++ y) (flat_more l r) ∙ sym (append_assoc x (flat l) r)

pub flat_joined : (n : ℕ) (f : ℕ → List ℕ) → flat (tab n f) ≡ joined n f
unfolding joined tab flat
flat_joined zero f = refl
flat_joined (suc n) f = flat_more (tab n f) (f n) ∙ ap (λ (l : List ℕ). l ++ f n) (flat_joined n f)

module _ (k : ℕ) (f : ℕ → List ℕ) (long : (i : ℕ) → length (f i) ≡ k) where
  pub length_joined : (n : ℕ) → length (joined n f) ≡ n * k
  unfolding joined
  length_joined zero = sym (zero-mul k)
  length_joined (suc n) = length-append (joined n f) (f n) ∙ ap₂ (λ (a b : ℕ). a + b) (length_joined n) (long n) ∙ sym (suc-mul n k)

  inside : (n i j : ℕ) → i < n → j < k → i * k + j < n * k
  inside n i j h p = let m = mul-le-mul_right k h in omega (arith, m, suc-mul i k)

  pub getD_joined : (n i j : ℕ) → i < n → j < k → get_or (joined n f) (i * k + j) 0 ≡ get_or (f i) j 0
  unfolding joined
  getD_joined zero i j h p = absurd (not-suc-le-zero h)
  getD_joined (suc n) i j h p =
      ⊎_elim
      (λ (e : i ≡ n). rw e (rw (← length_joined n) (get_or-append-add (joined n f) (f n) j 0)))
      (λ (q : i < n). get_or-append (joined n f) (f n) 0 (i * k + j) (rw (length_joined n) (inside n i j q p)) ∙ getD_joined n i j q p)
      (eq-or-lt_of_le (le_of_suc-le-suc h))

  -- row i, where they stand among other words
  pub joined_row : (w before after : List ℕ) (base n i : ℕ) → w ≡ before ++ (joined n f ++ after) → length before ≡ base → i < n → words_at w (base + i * k) k ≡ f i
  unfolding words_at
  joined_row w before after base n i e long_before h = ext_get_or 0 (tab k (λ j. get_or w (base + i * k + j) 0)) (f i) (length_tab k _ ∙ sym (long i)) (λ j p. at j (rw (length_tab k (λ j. get_or w (base + i * k + j) 0)) at p))
    where
      at : (j : ℕ) → j < k → get_or (tab k (λ j. get_or w (base + i * k + j) 0)) j 0 ≡ get_or (f i) j 0
      at j q =
          let z : base + i * k + j ≡ length before + (i * k + j) = omega arith in
          getD_tab k (λ j. get_or w (base + i * k + j) 0) j 0 q
          ∙ ap₂ (λ (l : List ℕ) (x : ℕ). get_or l x 0) e z
          ∙ get_or-append-add before (joined n f ++ after) (i * k + j) 0
          ∙ get_or-append (joined n f) after 0 (i * k + j) (rw (length_joined n) (inside n i j h q))
          ∙ getD_joined n i j h q
