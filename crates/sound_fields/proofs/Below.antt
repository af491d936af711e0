-- Laws of a test of every number below a bound, and of tests joined. Assumes nothing.
-- The tests are split and joined by cases of the Booleans, `all_below` by induction on the bound.
use mathlib.Core.Path.{◌≡◌, refl, sym, ap, ◌∙◌}
use mathlib.Core.Logic.{⊎_elim}
use mathlib.Core.Bool.{Bool, true, false, ◌&&◌}
use mathlib.Core.List.{List, [], ◌∷◌}
use Prim.Native.Nat.{ℕ, zero, suc, ◌+◌, ◌-◌, ◌<◌, ◌≤◌}
use native.Mathlib.Nat.{lt-suc_self, lt_trans, eq-or-lt_of_le, le_of_suc-le-suc, not-suc-le-zero}
use native.Mathlib.Numerals.{add-one}
use native.Mathlib.Omega.{arith}
use native.Mathlib.Decide.{ℕ_discrete}
use borrow.Author.Tests.{ltb-true, leb-true, le-ltb, eq-eqb, ne_eqb}
use lib.ListN.{length, get_or}
use Rattle.std.specs.Prelude.{Option, if◌then◌else◌}
use Rattle.std.proofs.Common.{add-zero, add-suc}
use Rattle.std.specs.Option.{MatchOption}
use Rattle.std.specs.Fn.{Called}
use Rattle.std.specs.Iterator.{YieldsThen}
use Rattle.std.specs.List.{FoldsTo, list_all, between, range_with_len}
use Rattle.std.specs.declared.ops.Range.{Range}
use Rattle.std.proofs.iter.Yields.{nat_range_steps}
use Rattle.std.proofs.lemmas.Iterator.{YieldsList-from_range}
use Rattle.std.proofs.lemmas.Iterator.Search.{all_from_yields_List}
use denote.Param.Members.{Mut}
use Rattle.std.proofs.Math.Bool.{and-true, and_assoc}
use Rattle.std.proofs.lemmas.List.Edits.{length-between, get_or-between}
use Rattle.std.proofs.lemmas.List.FromFn.{length-range_with_len, get_or-range_with_len}
use Rattle.definition.specs.Types.{max_builtin}
use lib.Dec.{eqb, leb}
use Rattle.table.specs.declared.Used.{Used}
use Rattle.sound_fields.specs.Fields.{all_below, byte_fine, name_fine}

-- ---- two tests

pub and_l : (a b : Bool) → a && b ≡ true → a ≡ true
and_l true b e = refl
and_l false b e = e

pub and_r : (a b : Bool) → a && b ≡ true → b ≡ true
and_r true b e = e
and_r false b e = let z : false ≡ true = e in cc

pub both : (a b : Bool) → a ≡ true → b ≡ true → a && b ≡ true
both a b p q = rw (p, q) refl

pub fails_l : (a b : Bool) → a ≡ false → a && b ≡ false
fails_l a b e = rw e refl

pub fails_r : (a b : Bool) → b ≡ false → a && b ≡ false
fails_r true b e = e
fails_r false b e = refl

pub when_true : {A : Type 0} (b : Bool) (x y : A) → b ≡ true → (if b then x else y) ≡ x
when_true b x y e = rw e refl

pub when_false : {A : Type 0} (b : Bool) (x y : A) → b ≡ false → (if b then x else y) ≡ y
when_false b x y e = rw e refl

-- two tests that pass together are one
pub same_test : (a b : Bool) → (a ≡ true → b ≡ true) → (b ≡ true → a ≡ true) → a ≡ b
same_test true b f g = sym (f refl)
same_test false true f g = g refl
same_test false false f g = refl

-- a test that follows from another and fails
pub not_passed : (a b : Bool) → (a ≡ true → b ≡ true) → b ≡ false → a ≡ false
not_passed true b f e = sym (f refl) ∙ e
not_passed false b f e = refl

-- ---- every number below

pub all_at : (n : ℕ) (f : ℕ → Bool) → all_below n f ≡ true → (i : ℕ) → i < n → f i ≡ true
unfolding all_below
all_at zero f e i h = absurd (not-suc-le-zero h)
all_at (suc n) f e i h =
    ⊎_elim
    (λ (p : i ≡ n). ap f p ∙ and_r (all_below n f) (f n) e)
    (λ (q : i < n). all_at n f (and_l (all_below n f) (f n) e) i q)
    (eq-or-lt_of_le (le_of_suc-le-suc h))

pub all_from : (n : ℕ) (f : ℕ → Bool) → ((i : ℕ) → i < n → f i ≡ true) → all_below n f ≡ true
unfolding all_below
all_from zero f h = refl
all_from (suc n) f h = both (all_below n f) (f n) (all_from n f (λ i p. h i (lt_trans p (lt-suc_self n)))) (h n (lt-suc_self n))

-- one number fails
pub one_fails : (n : ℕ) (f : ℕ → Bool) (i : ℕ) → i < n → f i ≡ false → all_below n f ≡ false
one_fails n f i h e = not_passed (all_below n f) (f i) (λ p. all_at n f p i h) e

-- tests that agree below n
pub same_below : (n : ℕ) (f g : ℕ → Bool) → ((i : ℕ) → i < n → f i ≡ g i) → all_below n f ≡ all_below n g
unfolding all_below
same_below zero f g h = refl
same_below (suc n) f g h = let e = same_below n f g (λ i p. h i (lt_trans p (lt-suc_self n))) in let e' = h n (lt-suc_self n) in rw (e, e') refl

-- the first n numbers, and the rest
pub split_below : (m n : ℕ) (f : ℕ → Bool) → n ≤ m → all_below m f ≡ all_below n f && all_below (m - n) (λ i. f (n + i))
unfolding all_below
split_below m n f h = ap (λ (k : ℕ). all_below k f) (let e : m ≡ n + (m - n) = omega arith in e) ∙ by (m - n)
  where
    by : (k : ℕ) → all_below (n + k) f ≡ all_below n f && all_below k (λ i. f (n + i))
    by zero = rw add-zero (sym (and-true (all_below n f)))
    by (suc k) = rw add-suc (ap (λ (b : Bool). b && f (n + k)) (by k) ∙ and_assoc (all_below n f) (all_below k (λ i. f (n + i))) (f (n + k)))

-- ---- from the first number on: what `all` answers

front : (n : ℕ) (f : ℕ → Bool) → all_below (suc n) f ≡ f 0 && all_below n (λ i. f (suc i))
unfolding all_below
front zero f = sym (and-true (f 0))
front (suc n) f = ap (λ (b : Bool). b && f (suc n)) (front n f) ∙ and_assoc (f 0) (all_below n (λ i. f (suc i))) (f (suc n))

-- over a list
pub all_listed : {A : Type 0} (test : A → Bool) (d : A) (xs : List A) → list_all test xs ≡ all_below (length xs) (λ i. test (get_or xs i d))
unfolding all_below
all_listed test d [] = refl
all_listed test d (x ∷ xs) = ap (λ (b : Bool). test x && b) (all_listed test d xs) ∙ sym (front (length xs) (λ i. test (get_or (x ∷ xs) i d)))

-- over a part of one
pub all_between : {A : Type 0} (test : A → Bool) (d : A) (xs : List A) (i j : ℕ) → j ≤ length xs → list_all test (between i j xs) ≡ all_below (j - i) (λ k. test (get_or xs (i + k) d))
all_between test d xs i j h =
    all_listed test d (between i j xs)
    ∙ ap (λ (n : ℕ). all_below n (λ k. test (get_or (between i j xs) k d))) (length-between xs i j h)
    ∙ same_below (j - i) _ _ (λ k p. ap test (get_or-between xs i j k d (omega arith)))

-- over the numbers below n
listed_range : (n : ℕ) (test : ℕ → Bool) → list_all test (range_with_len 0 n) ≡ all_below n test
listed_range n test =
    all_listed test 0 (range_with_len 0 n)
    ∙ ap (λ (k : ℕ). all_below k (λ i. test (get_or (range_with_len 0 n) i 0))) (length-range_with_len 0 n)
    ∙ same_below n _ test (λ i p. ap test (let e = get_or-range_with_len 0 n i 0 p in let z : get_or (range_with_len 0 n) i 0 ≡ i = omega (arith, e) in z))

-- `(0..n).all(f)`, where f computes the test: `ran` is what the call ensures of its run
pub all_range : {F : Type 0} {g : Mut F (ℕ × Unit {0}) Bool} {f : F} {u : Range ℕ} {n : ℕ} (test : ℕ → Bool) (r : Bool)
    → ((xs : List ℕ) × (o : Option ℕ) × (j : F) × YieldsThen nat_range_steps (record { start = 0; end = n }) xs o u × FoldsTo (λ p x q. Called g p (x, tt) true q) f xs j × MatchOption o (r ≡ true) (λ x. (r ≡ false) × ((h : F) × Called g j (x, tt) false h)))
    → ((x : ℕ) (b : Bool) (q : F) → Called g f (x, tt) b q → (q ≡ f) × (b ≡ test x)) → r ≡ all_below n test
all_range {f = f} {u = u} {n = n} test r ran call = all_from_yields_List test u f r ran (YieldsList-from_range 0 n n refl (omega arith)) call ∙ listed_range n test

-- eight bytes, none of them in use
pub no_bytes : (bytes : List ℕ) → length bytes ≡ 8 → list_all (λ x. eqb x 0) bytes ≡ all_below 8 (byte_fine bytes 0)
unfolding byte_fine
no_bytes bytes e =
    all_listed (λ x. eqb x 0) 0 bytes
    ∙ ap (λ (n : ℕ). all_below n (λ i. eqb (get_or bytes i 0) 0)) e
    ∙ same_below 8 _ (byte_fine bytes 0) (λ i p. sym (when_false _ _ _ (le-ltb i 0 (omega arith))))

-- ---- a loop that tests one number after the other: those below i have passed

pub record Passed (n : ℕ) (f : ℕ → Bool) (i : ℕ) : Type 0 where
  pub few : i ≤ n
  pub all : all_below i f ≡ true

module _ (n : ℕ) (f : ℕ → Bool) where
  pub passed_none : Passed n f 0
  unfolding all_below
  passed_none = record { few = omega arith; all = refl }

  module _ (i : ℕ) (p : Passed n f i) where
    pub passed_more : i < n → f i ≡ true → Passed n f (i + 1)
    unfolding all_below
    passed_more h e = record { few = omega arith; all = rw add-one (both (all_below i f) (f i) p.all e) }

-- ---- what a test decides

pub passes : (a b : Bool) → a ≡ true → b ≡ a && b
passes a b e = rw e refl

-- a name's number is small
pub name_small : (u : Used) (tag b : ℕ) → u.structs ≤ 256 → name_fine u tag b ≡ true → b < 256
unfolding name_fine max_builtin
name_small u tag b h e = by (ℕ_discrete tag 3) (ℕ_discrete tag 4)
  where
    by : Dec (tag ≡ 3) → Dec (tag ≡ 4) → b < 256
    by (yes p) q = omega (arith, leb-true b max_builtin (sym (when_true (eqb tag 3) (leb b max_builtin) _ (eq-eqb tag 3 p)) ∙ e))
    by (no p) (yes q) = omega (arith, leb-true b 8 (sym (when_false (eqb tag 3) (leb b max_builtin) _ (ne_eqb tag 3 p) ∙ when_true (eqb tag 4) (leb b 8) _ (eq-eqb tag 4 q)) ∙ e))
    by (no p) (no q) = omega (arith, ltb-true b u.structs (sym (when_false (eqb tag 3) (leb b max_builtin) _ (ne_eqb tag 3 p) ∙ when_false (eqb tag 4) (leb b 8) _ (ne_eqb tag 4 q)) ∙ e))
