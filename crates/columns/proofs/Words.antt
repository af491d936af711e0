-- To read columns is to read the rows that they stand for, and to write them is to write those. Assumes nothing.
-- First for any fields and any rest; then for the three columns.
use mathlib.Core.Path.{◌≡◌, refl, sym, ap, ap₂, ◌∙◌}
use mathlib.Core.List.{List, [], ◌∷◌}
use Prim.Native.Nat.{ℕ, zero, suc, ◌+◌, ◌*◌, ◌-◌, ◌/◌, ◌%◌, ◌<◌, ◌≤◌}
use native.Mathlib.Omega.{arith}
use native.Mathlib.Decide.{dec_lt}
use borrow.Author.Tests.{lt-ltb, le-ltb, ne_eqb}
use lib.ListN.{length, get_or, set}
use lib.Seq.{get_or-set_same, get_or-set_other}
use Rattle.table.specs.Tab.{tab}
use Rattle.table.specs.State.{Wrote, node_words_at}
use Rattle.table.proofs.Tab.{length_tab, getD_tab, getD_tab_out}
use Rattle.columns.specs.Columns.{field, word, words}

-- ---- any fields

module _ (at : ℕ → ℕ → ℕ) (r : List ℕ) where
  pub word_count : (j : ℕ) → j < 5 → word at r j ≡ get_or r j 0
  unfolding word
  word_count j p = rw (lt-ltb j 5 p) refl

  pub word_field : (j : ℕ) → 5 ≤ j → j < 12293 → word at r j ≡ at ((j - 5) % 6) ((j - 5) / 6)
  unfolding word
  word_field j p q = rw (le-ltb j 5 p, lt-ltb j 12293 q) refl

  pub word_node : (t f : ℕ) → t < 2048 → f < 6 → word at r (5 + t * 6 + f) ≡ at f t
  word_node t f p q =
      let x : (5 + t * 6 + f - 5) % 6 ≡ f = omega arith in
      let y : (5 + t * 6 + f - 5) / 6 ≡ t = omega arith in
      word_field (5 + t * 6 + f) (omega arith) (omega arith) ∙ ap₂ at x y

  pub word_rest : (j : ℕ) → 12293 ≤ j → word at r j ≡ get_or r (j - 12288) 0
  unfolding word
  word_rest j p = rw (le-ltb j 5 (omega arith), le-ltb j 12293 p) refl

-- words given one by one: a store changes those that it names, and leaves all others
module _ (f g : ℕ → ℕ) (start n : ℕ) (row : List ℕ) (m : start + n ≤ 24069) (here : (k : ℕ) → k < n → g (start + k) ≡ get_or row k 0)
    (there : (j : ℕ) → ((k : ℕ) → k < n → j ≡ start + k → ⊥) → g j ≡ f j) where
  outside : (j : ℕ) → ((k : ℕ) → k < n → j ≡ start + k → ⊥) → Dec (j < 24069) → get_or (tab 24069 g) j 0 ≡ get_or (tab 24069 f) j 0
  outside j ne (yes p) = getD_tab 24069 g j 0 p ∙ there j ne ∙ sym (getD_tab 24069 f j 0 p)
  outside j ne (no p) = getD_tab_out 24069 g j 0 (omega arith) ∙ sym (getD_tab_out 24069 f j 0 (omega arith))

  tab_wrote : Wrote (tab 24069 f) start n row (tab 24069 g)
  tab_wrote = record {
    size = length_tab 24069 g ∙ sym (length_tab 24069 f);
    here = λ k l. getD_tab 24069 g (start + k) 0 (omega (arith, m, l)) ∙ here k l;
    there = λ j ne. outside j ne (dec_lt j 24069);
  }

-- the fields of node n are those of the row, all others as before
module _ (at to : ℕ → ℕ → ℕ) (n : ℕ) (row r : List ℕ) (h : n < 2048) (new : (f : ℕ) → f < 6 → to f n ≡ get_or row f 0) (same : (f t : ℕ) → f < 6 → (t ≡ n → ⊥) → to f t ≡ at f t) where
  others_stay : (j : ℕ) → ((k : ℕ) → k < 6 → j ≡ 5 + n * 6 + k → ⊥) → Dec (j < 5) → Dec (j < 12293) → word to r j ≡ word at r j
  others_stay j ne (yes p) q = word_count to r j p ∙ sym (word_count at r j p)
  others_stay j ne (no p) (yes q) =
      let f : (j - 5) % 6 < 6 = omega arith in
      word_field to r j (omega arith) q ∙ same ((j - 5) % 6) ((j - 5) / 6) f (λ e. ne ((j - 5) % 6) f (omega (arith, e))) ∙ sym (word_field at r j (omega arith) q)
  others_stay j ne (no p) (no q) = word_rest to r j (omega arith) ∙ sym (word_rest at r j (omega arith))

  node_wrote : Wrote (tab 24069 (word at r)) (5 + n * 6) 6 row (tab 24069 (word to r))
  node_wrote = tab_wrote (word at r) (word to r) (5 + n * 6) 6 row (omega arith) (λ f q. word_node to r n f h q ∙ new f q) (λ j ne. others_stay j ne (dec_lt j 5) (dec_lt j 12293))

-- n words of the rest are those of the row, all others as before
module _ (at : ℕ → ℕ → ℕ) (r r' : List ℕ) (start n : ℕ) (row : List ℕ) (g : Wrote r start n row r') where
  module _ (h : 5 ≤ start) (m : start + n ≤ 11781) where
    but_rest : (j : ℕ) → ((k : ℕ) → k < n → j ≡ start + 12288 + k → ⊥) → Dec (j < 5) → Dec (j < 12293) → word at r' j ≡ word at r j
    but_rest j ne (yes p) q = word_count at r' j p ∙ g.there j (λ k l e. omega (arith, h, e, p)) ∙ sym (word_count at r j p)
    but_rest j ne (no p) (yes q) = word_field at r' j (omega arith) q ∙ sym (word_field at r j (omega arith) q)
    but_rest j ne (no p) (no q) = word_rest at r' j (omega arith) ∙ g.there (j - 12288) (λ k l e. ne k l (omega (arith, e, q))) ∙ sym (word_rest at r j (omega arith))

    in_rest : (k : ℕ) → k < n → word at r' (start + 12288 + k) ≡ get_or row k 0
    in_rest k l =
        let e : start + 12288 + k - 12288 ≡ start + k = omega arith in
        word_rest at r' (start + 12288 + k) (omega (arith, h)) ∙ ap (λ (i : ℕ). get_or r' i 0) e ∙ g.here k l

    past_wrote : Wrote (tab 24069 (word at r)) (start + 12288) n row (tab 24069 (word at r'))
    past_wrote = tab_wrote (word at r) (word at r') (start + 12288) n row (omega (arith, m)) in_rest (λ j ne. but_rest j ne (dec_lt j 5) (dec_lt j 12293))

  module _ (m : start + n ≤ 5) where
    but_counts : (j : ℕ) → ((k : ℕ) → k < n → j ≡ start + k → ⊥) → Dec (j < 5) → Dec (j < 12293) → word at r' j ≡ word at r j
    but_counts j ne (yes p) q = word_count at r' j p ∙ g.there j ne ∙ sym (word_count at r j p)
    but_counts j ne (no p) (yes q) = word_field at r' j (omega arith) q ∙ sym (word_field at r j (omega arith) q)
    but_counts j ne (no p) (no q) = word_rest at r' j (omega arith) ∙ g.there (j - 12288) (λ k l e. omega (arith, m, l, e, q)) ∙ sym (word_rest at r j (omega arith))

    low_wrote : Wrote (tab 24069 (word at r)) start n row (tab 24069 (word at r'))
    low_wrote = tab_wrote (word at r) (word at r') start n row (omega (arith, m)) (λ k l. word_count at r' (start + k) (omega (arith, m, l)) ∙ g.here k l) (λ j ne. but_counts j ne (dec_lt j 5) (dec_lt j 12293))

-- ---- three columns

module _ (k l : List ℕ) (b : List (List ℕ)) where
  pub field_body : (f t : ℕ) → field k l b (suc (suc f)) t ≡ get_or (get_or b t []) f 0
  unfolding field
  field_body f t =
      let e : suc (suc f) - 2 ≡ f = omega arith in
      rw (ne_eqb (suc (suc f)) 0 (omega arith), ne_eqb (suc (suc f)) 1 (omega arith), e) refl

  module _ (r : List ℕ) where
    pub words_long : length (words k l b r) ≡ 24069
    unfolding words
    words_long = length_tab 24069 (word (field k l b) r)

    pub words_count : (j : ℕ) → j < 5 → get_or (words k l b r) j 0 ≡ get_or r j 0
    unfolding words
    words_count j p = getD_tab 24069 (word (field k l b) r) j 0 (omega arith) ∙ word_count (field k l b) r j p

    pub words_node : (t f : ℕ) → t < 2048 → f < 6 → get_or (words k l b r) (5 + t * 6 + f) 0 ≡ field k l b f t
    unfolding words
    words_node t f p q = getD_tab 24069 (word (field k l b) r) (5 + t * 6 + f) 0 (omega arith) ∙ word_node (field k l b) r t f p q

    pub words_rest : (i at : ℕ) → 5 ≤ i → i < 11781 → at ≡ i + 12288 → get_or (words k l b r) at 0 ≡ get_or r i 0
    unfolding words
    words_rest i at p q e =
        let s : i + 12288 - 12288 ≡ i = omega arith in
        rw e (getD_tab 24069 (word (field k l b) r) (i + 12288) 0 (omega arith) ∙ word_rest (field k l b) r (i + 12288) (omega arith) ∙ ap (λ (x : ℕ). get_or r x 0) s)

    -- the words of row t are kind, location and body of entry t
    pub columns_read : (t : ℕ) → t < 2048
        → record { tag = get_or k t 0; loc = get_or l t 0; a = get_or (get_or b t []) 0 0; b = get_or (get_or b t []) 1 0; c = get_or (get_or b t []) 2 0; d = get_or (get_or b t []) 3 0 } ≡ node_words_at (words k l b r) t
    unfolding field
    columns_read t p =
        let e : 5 + t * 6 + 0 ≡ 5 + t * 6 = omega arith in
        λ i. record {
          tag = sym (rw e at (words_node t 0 p (omega arith))) i;
          loc = sym (words_node t 1 p (omega arith)) i;
          a = sym (words_node t 2 p (omega arith)) i;
          b = sym (words_node t 3 p (omega arith)) i;
          c = sym (words_node t 4 p (omega arith)) i;
          d = sym (words_node t 5 p (omega arith)) i;
        }

  -- a store into the rest, past the counts, is one 12,288 words further on in the rows
  pub rest_wrote : (r r' : List ℕ) (start at n : ℕ) (row : List ℕ) → 5 ≤ start → start + n ≤ 11781 → at ≡ start + 12288 → Wrote r start n row r' → Wrote (words k l b r) at n row (words k l b r')
  unfolding words
  rest_wrote r r' start at n row h m e g = rw e (past_wrote (field k l b) r r' start n row g h m)

  -- .. among the counts it is one at the same place
  pub counts_wrote : (r r' : List ℕ) (start n : ℕ) (row : List ℕ) → start + n ≤ 5 → Wrote r start n row r' → Wrote (words k l b r) start n row (words k l b r')
  unfolding words
  counts_wrote r r' start n row m g = low_wrote (field k l b) r r' start n row g m

-- ---- a node's row written

-- what stands in a row behind kind and location
abbrev pub body : List ℕ → List ℕ
body row = get_or row 2 0 ∷ get_or row 3 0 ∷ get_or row 4 0 ∷ get_or row 5 0 ∷ []

module _ (k l : List ℕ) (b : List (List ℕ)) (n : ℕ) (row : List ℕ) where
  abbrev to : ℕ → ℕ → ℕ
  to = field (set k n (get_or row 0 0)) (set l n (get_or row 1 0)) (set b n (body row))

  others : (f t : ℕ) → f < 6 → (t ≡ n → ⊥) → to f t ≡ field k l b f t
  unfolding field
  others f t q ne = rw (get_or-set_other k n t (get_or row 0 0) 0 ne, get_or-set_other l n t (get_or row 1 0) 0 ne, get_or-set_other b n t (body row) [] ne) refl

  module _ (x : n < length k) (y : n < length l) (z : n < length b) where
    new : (f : ℕ) → f < 6 → to f n ≡ get_or row f 0
    unfolding field
    new zero q = get_or-set_same k n (get_or row 0 0) 0 x
    new (suc zero) q = get_or-set_same l n (get_or row 1 0) 0 y
    new (suc (suc zero)) q = rw (get_or-set_same b n (body row) [] z) refl
    new (suc (suc (suc zero))) q = rw (get_or-set_same b n (body row) [] z) refl
    new (suc (suc (suc (suc zero)))) q = rw (get_or-set_same b n (body row) [] z) refl
    new (suc (suc (suc (suc (suc zero))))) q = rw (get_or-set_same b n (body row) [] z) refl
    new (suc (suc (suc (suc (suc (suc f)))))) q = absurd (omega arith)

    -- a row stored field by field is the row written
    pub columns_wrote : (r : List ℕ) → n < 2048 → Wrote (words k l b r) (5 + n * 6) 6 row (words (set k n (get_or row 0 0)) (set l n (get_or row 1 0)) (set b n (body row)) r)
    unfolding words
    columns_wrote r h = node_wrote (field k l b) to n row r h new others
