-- R-11: lists of numbers by rising number, and how they slide. Assumes nothing.
-- First tests over lists, then `those_below`, then `slid` over a rising list, then rows and places of one.
use mathlib.Core.Path.{◌≡◌, refl, sym, ap, ◌∙◌}
use mathlib.Core.Logic.{◌⊎◌, inl, inr}
use mathlib.Core.Bool.{Bool, true, false, ◌||◌}
use mathlib.Core.List.Memᴰ
use mathlib.Core.List.{List, [], ◌∷◌, ◌++◌, map, Memᴰ}
use Prim.Native.Nat.{ℕ, zero, suc, ◌+◌, ◌≤◌, ◌<◌}
use native.Mathlib.Omega.{arith}
use lib.ListN.{length, get_or, take, drop, length-append}
use lib.Seq.{drop-cons}
use lib.Dec.{ltb, eqb, ltb→lt, eqb→eq, eqb_refl}
use Rattle.std.specs.Prelude.{if◌then◌else◌}
use Rattle.definition.specs.Store.{any_of}
use Rattle.definition.specs.Keep.{those_below, one_of, slid}
use Rattle.theorems.proofs.DemandTracks.{never}
use Rattle.theorems.proofs.SoundFacts.{test}
use Rattle.theorems.proofs.Soundness.{untest, lt_test}

-- ---- tests

pub or_l : (a b : Bool) → a ≡ true → a || b ≡ true
or_l a b e = rw e refl

pub or_r : (a b : Bool) → b ≡ true → a || b ≡ true
or_r true b e = refl
or_r false b e = e

pub or_cases : (a b : Bool) → a || b ≡ true → (a ≡ true) ⊎ (b ≡ true)
or_cases true b e = inl refl
or_cases false b e = inr e

first_true : (b c : Bool) → b ≡ true → (elim b [ true ↦ true | false ↦ c ]) ≡ true
first_true b c e = rw e refl

later_true : (b c : Bool) → c ≡ true → (elim b [ true ↦ true | false ↦ c ]) ≡ true
later_true true c e = refl
later_true false c e = e

pub mem_any : (f : ℕ → Bool) (l : List ℕ) (x : ℕ) → Memᴰ x l → f x ≡ true → any_of f l ≡ true
unfolding any_of
mem_any f [] x m e = absurd (Memᴰ.not-nil m)
mem_any f (y ∷ l) x m e = elim (Memᴰ.cases_cons m) [ inl d ↦ first_true (f y) (any_of f l) (rw (← d) e) | inr n ↦ later_true (f y) (any_of f l) (mem_any f l x n e) ]

pub any_mem : (f : ℕ → Bool) (l : List ℕ) → any_of f l ≡ true → (x : ℕ) × Memᴰ x l × (f x ≡ true)
unfolding any_of
any_mem f [] e = never (cc)
any_mem f (y ∷ l) e = go (f y) refl e (any_mem f l)
  where
    go : (b : Bool) → f y ≡ b → (elim b [ true ↦ true | false ↦ any_of f l ]) ≡ true → (any_of f l ≡ true → (x : ℕ) × Memᴰ x l × (f x ≡ true)) → (x : ℕ) × Memᴰ x (y ∷ l) × (f x ≡ true)
    go true d h k = (y, Memᴰ.head refl, d)
    go false d h k = let r = k h in (r.0, Memᴰ.tail r.1, r.2)

pub eqb_self : (x : ℕ) → eqb x x ≡ true
eqb_self x = untest (eqb_refl x)

pub eqb_is : (x y : ℕ) → eqb x y ≡ true → x ≡ y
eqb_is x y e = eqb→eq x y (test e)

pub mem_one : (l : List ℕ) (x : ℕ) → Memᴰ x l → one_of l x ≡ true
unfolding one_of
mem_one l x m = mem_any (λ y. eqb x y) l x m (eqb_self x)

pub cast : {x y : ℕ} {l : List ℕ} → x ≡ y → Memᴰ y l → Memᴰ x l
cast e m = mathlib.Core.List.Memᴰ.cast e m

pub one_mem : (l : List ℕ) (x : ℕ) → one_of l x ≡ true → Memᴰ x l
unfolding one_of
one_mem l x e = let r = any_mem (λ y. eqb x y) l e in cast (eqb_is x r.0 r.2) r.1

pub ltb_no : (y x : ℕ) → x ≤ y → ltb y x ≡ false
ltb_no y x h = go (ltb y x) refl
  where
    go : (b : Bool) → ltb y x ≡ b → ltb y x ≡ false
    go true e = absurd (omega (arith, ltb→lt y x (test e)))
    go false e = e

-- ---- those below

pub mem_those : (n : ℕ) (f : ℕ → Bool) (x : ℕ) → x < n → f x ≡ true → Memᴰ x (those_below n f)
unfolding those_below
mem_those zero f x h e = absurd (omega arith)
mem_those (suc n) f x h e = elim (native.Mathlib.Decide.dec_lt x n) [
  | yes l ↦ Memᴰ.append_left _ (mem_those n f x l e)
  | no l ↦ let d : x ≡ n = omega arith in let e' : f n ≡ true = rw d at e in Memᴰ.append_right (those_below n f) (rw e' (Memᴰ.head d))
]

pub those_mem : (n : ℕ) (f : ℕ → Bool) (x : ℕ) → Memᴰ x (those_below n f) → (x < n) × (f x ≡ true)
unfolding those_below
those_mem zero f x m = absurd (Memᴰ.not-nil m)
those_mem (suc n) f x m = elim (Memᴰ.append_cases (those_below n f) m) [ inl l ↦ (let r = those_mem n f x l in (omega (arith, r.0), r.1)) | inr l ↦ at_last (f n) refl l ]
  where
    at_last : (b : Bool) → f n ≡ b → Memᴰ x (if b then n ∷ [] else []) → (x < suc n) × (f x ≡ true)
    at_last true e l = let d : x ≡ n = mathlib.Core.List.Memᴰ.eq_of_singleton l in (omega arith, rw d e)
    at_last false e l = absurd (Memᴰ.not-nil l)

pub those_same : (n : ℕ) (f g : ℕ → Bool) → ((x : ℕ) → x < n → f x ≡ g x) → those_below n f ≡ those_below n g
unfolding those_below
those_same zero f g h = refl
those_same (suc n) f g h = rw (those_same n f g (λ x l. h x (omega arith)), h n (omega arith)) refl

-- more of them: the same list, or a longer one
pub those_more : (n : ℕ) (f g : ℕ → Bool) → ((x : ℕ) → x < n → f x ≡ true → g x ≡ true) → (those_below n f ≡ those_below n g) ⊎ (length (those_below n f) < length (those_below n g))
unfolding those_below
those_more zero f g h = inl refl
those_more (suc n) f g h = go (f n) (g n) refl refl (those_more n f g (λ x l. h x (omega arith)))
  where
    go : (b c : Bool) → f n ≡ b → g n ≡ c → (those_below n f ≡ those_below n g) ⊎ (length (those_below n f) < length (those_below n g))
        → (◌≡◌ {A = List ℕ} (those_below n f ++ (if b then n ∷ [] else [])) (those_below n g ++ (if c then n ∷ [] else []))) ⊎ (length (those_below n f ++ (if b then n ∷ [] else [])) < length (those_below n g ++ (if c then n ∷ [] else [])))
    go true true d e (inl s) = inl (rw s refl)
    go true true d e (inr l) = inr (omega (arith, length-append (those_below n f) (n ∷ []), length-append (those_below n g) (n ∷ [])))
    go true false d e r = let z : g n ≡ true = h n (omega arith) d in never (cc)
    go false true d e (inl s) = inr (let z : length (those_below n f) ≡ length (those_below n g) = ap length s in omega (arith, length-append (those_below n f) [], length-append (those_below n g) (n ∷ [])))
    go false true d e (inr l) = inr (omega (arith, length-append (those_below n f) [], length-append (those_below n g) (n ∷ [])))
    go false false d e (inl s) = inl (rw s refl)
    go false false d e (inr l) = inr (omega (arith, length-append (those_below n f) [], length-append (those_below n g) []))

pub those_few : (n : ℕ) (f : ℕ → Bool) → length (those_below n f) ≤ n
unfolding those_below
those_few zero f = omega arith
those_few (suc n) f = go (f n) (those_few n f)
  where
    go : (b : Bool) → length (those_below n f) ≤ n → length (those_below n f ++ (if b then n ∷ [] else [])) ≤ suc n
    go true h = omega (arith, length-append (those_below n f) (n ∷ []))
    go false h = omega (arith, length-append (those_below n f) [])

-- ---- rising lists

-- rising, from b on
abbrev pub From : ℕ → List ℕ → Type 0
From b [] = Unit {0}
From b (x ∷ xs) = (b ≤ x) × From (suc x) xs

snoc_from : (b n : ℕ) (xs : List ℕ) → From b xs → b ≤ n → ((x : ℕ) → Memᴰ x xs → x < n) → From b (xs ++ (n ∷ []))
snoc_from b n [] r h k = (h, tt)
snoc_from b n (x ∷ xs) r h k = (r.0, snoc_from (suc x) n xs r.1 (k x (Memᴰ.head refl)) (λ y m. k y (Memᴰ.tail m)))

pub those_rise : (n : ℕ) (f : ℕ → Bool) → From 0 (those_below n f)
unfolding those_below
those_rise zero f = tt
those_rise (suc n) f = go (f n) (those_rise n f)
  where
    go : (b : Bool) → From 0 (those_below n f) → From 0 (those_below n f ++ (if b then n ∷ [] else []))
    go true r = snoc_from 0 n (those_below n f) r (omega arith) (λ x m. (those_mem n f x m).0)
    go false r = rw (mathlib.Core.List.append-nil (those_below n f)) r

-- ---- sliding

pub slid_past : (y x : ℕ) (l : List ℕ) → y < x → slid (y ∷ l) x ≡ suc (slid l x)
unfolding slid
slid_past y x l h = rw (lt_test y x h) refl

pub slid_not : (y x : ℕ) (l : List ℕ) → x ≤ y → slid (y ∷ l) x ≡ slid l x
unfolding slid
slid_not y x l h = rw (ltb_no y x h) refl

pub from_mem : (b : ℕ) (xs : List ℕ) → From b xs → (x : ℕ) → Memᴰ x xs → b ≤ x
from_mem b [] r x m = absurd (Memᴰ.not-nil m)
from_mem b (y ∷ xs) r x m = elim (Memᴰ.cases_cons m) [ inl d ↦ omega (arith, r.0) | inr n ↦ omega (arith, r.0, from_mem (suc y) xs r.1 x n) ]

pub slid_none : (b : ℕ) (xs : List ℕ) → From b xs → (x : ℕ) → x ≤ b → slid xs x ≡ 0
unfolding slid
slid_none b [] r x h = refl
slid_none b (y ∷ xs) r x h = slid_not y x xs (omega (arith, r.0)) ∙ slid_none (suc y) xs r.1 x (omega (arith, r.0))

-- a number of the list is where it slides to
pub slid_at : (b : ℕ) (xs : List ℕ) → From b xs → (x : ℕ) → Memᴰ x xs → (slid xs x < length xs) × (get_or xs (slid xs x) 0 ≡ x)
slid_at b [] r x m = absurd (Memᴰ.not-nil m)
slid_at b (y ∷ xs) r x m = elim (Memᴰ.cases_cons m) [
  | inl d ↦ (let z : slid (y ∷ xs) x ≡ 0 = slid_not y x xs (omega arith) ∙ slid_none (suc y) xs r.1 x (omega arith) in rw z (omega arith, sym d))
  | inr n ↦ (let z : slid (y ∷ xs) x ≡ suc (slid xs x) = slid_past y x xs (from_mem (suc y) xs r.1 x n) in let k = slid_at (suc y) xs r.1 x n in rw z (omega (arith, k.0), k.1))
]

pub mem_at : (l : List ℕ) (i : ℕ) → i < length l → Memᴰ (get_or l i 0) l
mem_at [] i h = absurd (omega arith)
mem_at (x ∷ l) zero h = Memᴰ.head refl
mem_at (x ∷ l) (suc i) h = Memᴰ.tail (mem_at l i (omega arith))

-- the one at i slides to i
pub slid_row : (b : ℕ) (xs : List ℕ) → From b xs → (i : ℕ) → i < length xs → slid xs (get_or xs i 0) ≡ i
slid_row b [] r i h = absurd (omega arith)
slid_row b (y ∷ xs) r zero h = slid_not y y xs (omega arith) ∙ slid_none (suc y) xs r.1 y (omega arith)
slid_row b (y ∷ xs) r (suc i) h =
    slid_past y (get_or xs i 0) xs (from_mem (suc y) xs r.1 (get_or xs i 0) (mem_at xs i (omega arith))) ∙ ap suc (slid_row (suc y) xs r.1 i (omega arith))

-- the next number slides to the next place
pub slid_next : (b : ℕ) (xs : List ℕ) → From b xs → (x : ℕ) → Memᴰ x xs → slid xs (suc x) ≡ suc (slid xs x)
slid_next b [] r x m = absurd (Memᴰ.not-nil m)
slid_next b (y ∷ xs) r x m = elim (Memᴰ.cases_cons m) [
  | inl d ↦ (let z : slid xs (suc x) ≡ 0 = slid_none (suc y) xs r.1 (suc x) (omega arith) in let w : slid xs x ≡ 0 = slid_none (suc y) xs r.1 x (omega arith) in slid_past y (suc x) xs (omega arith) ∙ ap suc z ∙ sym (ap suc (slid_not y x xs (omega arith) ∙ w)))
  | inr n ↦ (let l = from_mem (suc y) xs r.1 x n in slid_past y (suc x) xs (omega arith) ∙ ap suc (slid_next (suc y) xs r.1 x n) ∙ sym (ap suc (slid_past y x xs l)))
]

-- order is kept, and strictly from a number of the list on
pub slid_le : (xs : List ℕ) (x y : ℕ) → x ≤ y → slid xs x ≤ slid xs y
unfolding slid
slid_le [] x y h = omega arith
slid_le (z ∷ xs) x y h = elim (native.Mathlib.Decide.dec_lt z x) [
  | yes l ↦ omega (arith, slid_past z x xs l, slid_past z y xs (omega arith), slid_le xs x y h)
  | no l ↦ (let n = slid_not z x xs (omega arith) in elim (native.Mathlib.Decide.dec_lt z y) [ yes k ↦ omega (arith, n, slid_past z y xs k, slid_le xs x y h) | no k ↦ omega (arith, n, slid_not z y xs (omega arith), slid_le xs x y h) ])
]

pub slid_lt : (xs : List ℕ) (x y : ℕ) → Memᴰ x xs → x < y → slid xs x < slid xs y
slid_lt [] x y m h = absurd (Memᴰ.not-nil m)
slid_lt (z ∷ xs) x y m h = elim (Memᴰ.cases_cons m) [
  | inl d ↦ omega (arith, slid_not z x xs (omega arith), slid_past z y xs (omega arith), slid_le xs x y (omega arith))
  | inr n ↦ elim (native.Mathlib.Decide.dec_lt z x) [
    | yes l ↦ omega (arith, slid_past z x xs l, slid_past z y xs (omega arith), slid_lt xs x y n h)
    | no l ↦ (let k = slid_not z x xs (omega arith) in elim (native.Mathlib.Decide.dec_lt z y) [ yes q ↦ omega (arith, k, slid_past z y xs q, slid_lt xs x y n h) | no q ↦ omega (arith, k, slid_not z y xs (omega arith), slid_lt xs x y n h) ])
  ]
]

pub slid_one : (xs : List ℕ) (x y : ℕ) → Memᴰ x xs → Memᴰ y xs → slid xs x ≡ slid xs y → x ≡ y
slid_one xs x y m n e = elim (native.Mathlib.Decide.dec_lt x y) [
  | yes l ↦ absurd (omega (arith, slid_lt xs x y m l))
  | no l ↦ elim (native.Mathlib.Decide.dec_lt y x) [ yes k ↦ absurd (omega (arith, slid_lt xs y x n k)) | no k ↦ omega arith ]
]

pub slid_few : (xs : List ℕ) (x : ℕ) → slid xs x ≤ length xs
unfolding slid
slid_few [] x = omega arith
slid_few (z ∷ xs) x = elim (native.Mathlib.Decide.dec_lt z x) [ yes l ↦ omega (arith, slid_past z x xs l, slid_few xs x) | no l ↦ omega (arith, slid_not z x xs (omega arith), slid_few xs x) ]

-- ---- rows and places

pub get_d_map : {A : Type 0} (f : ℕ → A) (l : List ℕ) (i : ℕ) (d : A) → i < length l → get_or (map f l) i d ≡ f (get_or l i 0)
get_d_map f [] i d h = absurd (omega arith)
get_d_map f (x ∷ l) zero d h = refl
get_d_map f (x ∷ l) (suc i) d h = get_d_map f l i d (omega arith)

pub row : {A : Type 0} (f : ℕ → A) (b : ℕ) (xs : List ℕ) → From b xs → (x : ℕ) → Memᴰ x xs → (d : A) → get_or (map f xs) (slid xs x) d ≡ f x
row f b xs r x m d = let k = slid_at b xs r x m in get_d_map f xs (slid xs x) d k.0 ∙ ap f k.1

unfoldable pub upto : ℕ → ℕ → List ℕ
upto a zero = []
upto a (suc n) = a ∷ upto (suc a) n

pub map_take : {A B : Type 0} (f : A → B) (n : ℕ) (l : List A) → take n (map f l) ≡ map f (take n l)
map_take f zero l = refl
map_take f (suc n) [] = refl
map_take f (suc n) (x ∷ l) = ap (λ (m : List _). f x ∷ m) (map_take f n l)

pub map_drop : {A B : Type 0} (f : A → B) (n : ℕ) (l : List A) → drop n (map f l) ≡ map f (drop n l)
map_drop f zero l = refl
map_drop f (suc n) [] = refl
map_drop f (suc n) (x ∷ l) = map_drop f n l

-- places that are all in the list stay beside each other
pub run_of : (xs : List ℕ) → From 0 xs → (n a : ℕ) → ((i : ℕ) → a ≤ i → i < a + n → Memᴰ i xs) → take n (drop (slid xs a) xs) ≡ upto a n
unfolding upto
run_of xs r zero a h = refl
run_of xs r (suc n) a h =
    let m = h a (omega arith) (omega arith) in
    let k = slid_at 0 xs r a m in
    rw (drop-cons xs (slid xs a) 0 k.0, k.1, ← slid_next 0 xs r a m) (ap (λ (l : List ℕ). a ∷ l) (run_of xs r n (suc a) (λ i p q. h i (omega arith) (omega arith))))

pub slid_run : (xs : List ℕ) → From 0 xs → (n a : ℕ) → ((i : ℕ) → a ≤ i → i < a + n → Memᴰ i xs) → slid xs (a + n) ≡ slid xs a + n
slid_run xs r zero a h = let z : a + 0 ≡ a = omega arith in rw z (omega arith)
slid_run xs r (suc n) a h =
    let z : a + suc n ≡ suc a + n = omega arith in
    let k = slid_run xs r n (suc a) (λ i p q. h i (omega arith) (omega arith)) in
    let d = slid_next 0 xs r a (h a (omega arith) (omega arith)) in
    rw z (omega (arith, k, d))

pub slice_is : (l : List ℕ) (n a : ℕ) → a + n ≤ length l → map (λ i. get_or l i 0) (upto a n) ≡ take n (drop a l)
unfolding upto
slice_is l zero a h = refl
slice_is l (suc n) a h = rw (drop-cons l a 0 (omega arith)) (ap (λ (m : List ℕ). get_or l a 0 ∷ m) (slice_is l n (suc a) (omega arith)))
