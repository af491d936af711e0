-- The loop over a struct's parameter bytes: where it begins, a turn, an early end, and all of them. Assumes nothing.
use mathlib.Core.Path.{◌≡◌, refl, sym, ap, ◌∙◌}
use mathlib.Core.List.{List, [], ◌∷◌, ◌++◌, append-nil, append_assoc}
use Prim.Native.Nat.{ℕ, suc, ◌+◌, ◌-◌, ◌≤◌, ◌<◌}
use native.Mathlib.Nat.{sub-zero}
use native.Mathlib.Numerals.{add-one}
use native.Mathlib.Omega.{arith}
use lib.ListN.{length, set, take, length-set}
use lib.Seq.{take-suc-set}
use Rattle.definition.specs.Types.{Refusal}
use Rattle.definition.specs.Write.{Bytes}
use Rattle.definition.specs.Reader.{Read, got, not_read, give, go_on, ◌>>=◌, byte_to, times}

-- the bytes xs, and those that follow
abbrev behind : List ℕ → Read (List ℕ) → Read (List ℕ)
behind xs x = go_on x (λ ys. give (xs ++ ys))

behind_one : (xs : List ℕ) (x : ℕ) (r : Read (List ℕ)) → behind xs (go_on r (λ ys. give (x ∷ ys))) ≡ behind (xs ++ (x ∷ [])) r
unfolding go_on give
behind_one xs x (got ys l) = ap (λ (k : List ℕ). got k l) (sym (append_assoc xs (x ∷ []) ys))
behind_one xs x (not_read y) = refl

behind_none : (r : Read (List ℕ)) → r ≡ behind [] r
unfolding go_on give
behind_none (got ys l) = refl
behind_none (not_read y) = refl

pub record Going (l₀ : Bytes) (n : ℕ) (params : List ℕ) (l : Bytes) (i : ℕ) : Type 0 where
  pub left : i ≤ n
  pub long : length params ≡ 8
  pub is : times n (byte_to 31) l₀ ≡ behind (take i params) (times (n - i) (byte_to 31) l)

pub params_none : (l : Bytes) (n : ℕ) {params : List ℕ} → length params ≡ 8 → Going l n params l 0
params_none l n e =
    record {
      left = omega arith;
      long = e;
      is = behind_none _ ∙ ap (λ (k : ℕ). behind [] (times k (byte_to 31) l)) (sym (sub-zero n));
    }

module _ {l₀ : Bytes} {n : ℕ} {params : List ℕ} {l : Bytes} {i : ℕ} (g : Going l₀ n params l i) where
  next_is : i < n → times n (byte_to 31) l₀ ≡ behind (take i params) (go_on (byte_to 31 l) (λ x l. go_on (times (n - (i + 1)) (byte_to 31) l) (λ ys. give (x ∷ ys))))
  unfolding times ◌>>=◌
  next_is h =
      let z : n - i ≡ suc (n - (i + 1)) = omega arith in
      g.is ∙ ap (λ (k : ℕ). behind (take i params) (times k (byte_to 31) l)) z

  pub params_more : {x : ℕ} {l' : Bytes} → n ≤ 8 → i < n → got x l' ≡ byte_to 31 l → Going l₀ n (set params i x) l' (i + 1)
  unfolding go_on
  params_more {x} {l'} few h e =
      let z : length params ≡ 8 = g.long in
      let lt : i < length params = omega arith in
      let t : take (i + 1) (set params i x) ≡ take i params ++ (x ∷ []) = rw add-one (take-suc-set params i x lt) in
      record {
        left = omega arith;
        long = length-set params i x ∙ g.long;
        is = next_is h
            ∙ ap (λ (r : Read ℕ). behind (take i params) (go_on r (λ x l. go_on (times (n - (i + 1)) (byte_to 31) l) (λ ys. give (x ∷ ys))))) (sym e)
            ∙ behind_one (take i params) x (times (n - (i + 1)) (byte_to 31) l')
            ∙ ap (λ (xs : List ℕ). behind xs (times (n - (i + 1)) (byte_to 31) l')) (sym t);
      }

  pub params_stop : {x : Refusal} → i < n → not_read x ≡ byte_to 31 l → not_read x ≡ times n (byte_to 31) l₀
  unfolding go_on
  params_stop h e =
      ap (λ (r : Read ℕ). behind (take i params) (go_on r (λ x l. go_on (times (n - (i + 1)) (byte_to 31) l) (λ ys. give (x ∷ ys))))) e ∙ sym (next_is h)

  pub params_all : n ≤ i → got (take n params) l ≡ times n (byte_to 31) l₀
  unfolding times go_on give
  params_all h =
      let z : i ≡ n = (let y = g.left in omega arith) in
      let none : n - i ≡ 0 = omega arith in
      sym (g.is ∙ ap (λ (k : ℕ). behind (take i params) (times k (byte_to 31) l)) none
      ∙ ap (λ (k : ℕ). got (take k params ++ []) l) z ∙ ap (λ (xs : List ℕ). got xs l) (append-nil (take n params)))
