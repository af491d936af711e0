-- From rows to columns and back, and from columns to rows and back. Assumes nothing.
use mathlib.Core.Path.{◌≡◌, refl, sym, ap, ◌∙◌}
use mathlib.Core.List.{List, [], ◌++◌, append-nil}
use Prim.Native.Nat.{ℕ, zero, suc, ◌+◌, ◌*◌, ◌-◌, ◌/◌, ◌%◌, ◌<◌, ◌≤◌}
use native.Mathlib.Omega.{arith}
use native.Mathlib.Decide.{dec_lt}
use borrow.Author.Tests.{lt-ltb, le-ltb}
use lib.Dec.{ltb}
use Rattle.std.specs.Prelude.{if◌then◌else◌}
use lib.ListN.{length, get_or, take, drop, length-append, length-drop, take-append-drop, drop_of_length-le, get_or-append}
use lib.Seq.{take_all, length-take-le, get_or-take, drop_at, get_or-drop, get_or-append_right, ext_get_or}
use Rattle.table.specs.Tab.{tab}
use Rattle.table.specs.Rows.{words_at}
use Rattle.table.proofs.Tab.{length_tab, tab_ext, getD_tab}
use Rattle.columns.specs.Columns.{Columns, Fit, field, word, words, rows_of, Matches, columns_of, over, back}
use Rattle.columns.proofs.Words.{word_count, word_field, word_rest, words_count, words_node, words_rest, field_body}

-- ---- a list's front

module _ {A : Type 0} (d : A) (n : ℕ) (f : ℕ → A) (l : List A) where
  -- entries that are a list's are its front
  tab_front : n ≤ length l → ((t : ℕ) → t < n → f t ≡ get_or l t d) → tab n f ≡ take n l
  tab_front p h = ext_get_or d (tab n f) (take n l) (length_tab n f ∙ sym (length-take-le n l p))
      (λ t q. let r : t < n = rw (length_tab n f) at q in getD_tab n f t d r ∙ h t r ∙ sym (get_or-take n l t d r))

  -- .. or all of it
  tab_all : length l ≡ n → ((t : ℕ) → t < n → f t ≡ get_or l t d) → tab n f ≡ l
  tab_all e h = tab_front (omega (arith, e)) h ∙ take_all n l (omega (arith, e))

module _ {A : Type 0} (front l : List A) (n : ℕ) (e : length front ≡ n) where
  over_here : (d : A) (t : ℕ) → t < n → get_or (over front l) t d ≡ get_or front t d
  unfolding over
  over_here d t p = get_or-append front (drop (length front) l) d t (rw e p)

  over_past : (d : A) (t : ℕ) → n ≤ t → get_or (over front l) t d ≡ get_or l t d
  unfolding over
  over_past d t p =
      let q : length front ≤ t = rw e p in
      let s : length front + (t - length front) ≡ t = omega (arith, q) in
      get_or-append_right front (drop (length front) l) t d q ∙ get_or-drop (length front) l (t - length front) d ∙ ap (λ (i : ℕ). get_or l i d) s

  over_long : n ≤ length l → length (over front l) ≡ length l
  unfolding over
  over_long p = length-append front (drop (length front) l) ∙ ap (λ (i : ℕ). length front + i) (length-drop (length front) l) ∙ omega (arith, e, p)

  over_kept : drop n (over front l) ≡ drop n l
  unfolding over
  over_kept = drop_at front (drop (length front) l) n e ∙ ap (λ (i : ℕ). drop i l) e

  -- nothing stands past it
  over_none : length l ≤ n → over front l ≡ front
  unfolding over
  over_none p = ap (λ (m : List A). front ++ m) (drop_of_length-le l (rw e p)) ∙ append-nil front

module _ {A : Type 0} (d : A) (n : ℕ) (f : ℕ → A) (l : List A) where
  over_same : n ≤ length l → ((t : ℕ) → t < n → f t ≡ get_or l t d) → over (tab n f) l ≡ l
  unfolding over
  over_same p h = ap (λ (i : ℕ). tab n f ++ drop i l) (length_tab n f) ∙ ap (λ (m : List A). m ++ drop n l) (tab_front d n f l p h) ∙ take-append-drop n l

-- ---- the columns of row words

module _ (w : List ℕ) where
  kinds_long : length (columns_of w).kinds ≡ 2048
  unfolding columns_of
  kinds_long = length_tab 2048 _

  locs_long : length (columns_of w).locs ≡ 2048
  unfolding columns_of
  locs_long = length_tab 2048 _

  bodies_long : length (columns_of w).bodies ≡ 2048
  unfolding columns_of
  bodies_long = length_tab 2048 _

  rest_long : length (columns_of w).rest ≡ 11781
  unfolding columns_of
  rest_long = length_tab 11781 _

  kind_at : (t : ℕ) → t < 2048 → get_or (columns_of w).kinds t 0 ≡ get_or w (5 + t * 6) 0
  unfolding columns_of
  kind_at t p = getD_tab 2048 _ t 0 p

  loc_at : (t : ℕ) → t < 2048 → get_or (columns_of w).locs t 0 ≡ get_or w (5 + t * 6 + 1) 0
  unfolding columns_of
  loc_at t p = getD_tab 2048 _ t 0 p

  body_at : (t : ℕ) → t < 2048 → get_or (columns_of w).bodies t [] ≡ words_at w (5 + t * 6 + 2) 4
  unfolding columns_of
  body_at t p = getD_tab 2048 _ t [] p

  rest_at : (j : ℕ) → j < 5 → get_or (columns_of w).rest j 0 ≡ get_or w j 0
  unfolding columns_of
  rest_at j p = getD_tab 11781 _ j 0 (omega arith) ∙ rw (lt-ltb j 5 p) refl

  rest_past : (j : ℕ) → 5 ≤ j → j < 11781 → get_or (columns_of w).rest j 0 ≡ get_or w (j + 12288) 0
  unfolding columns_of
  rest_past j p q = getD_tab 11781 _ j 0 q ∙ rw (le-ltb j 5 p) refl

body_word : (w : List ℕ) (at f : ℕ) → f < 4 → get_or (words_at w at 4) f 0 ≡ get_or w (at + f) 0
unfolding words_at
body_word w at f p = getD_tab 4 _ f 0 p

-- ---- rows, put into columns, are there again

module _ (C : Columns) (w : List ℕ) where
  abbrev at : ℕ → ℕ → ℕ
  at = field (back C w).kinds (back C w).locs (back C w).bodies

  field_back : (t f : ℕ) → t < 2048 → f < 6 → at f t ≡ get_or w (5 + t * 6 + f) 0
  unfolding field back
  field_back t zero p q =
      let e : 5 + t * 6 ≡ 5 + t * 6 + 0 = omega arith in
      over_here _ C.kinds 2048 (kinds_long w) 0 t p ∙ kind_at w t p ∙ ap (λ (i : ℕ). get_or w i 0) e
  field_back t (suc zero) p q = over_here _ C.locs 2048 (locs_long w) 0 t p ∙ loc_at w t p
  field_back t (suc (suc f)) p q =
      let e : 5 + t * 6 + 2 + f ≡ 5 + t * 6 + suc (suc f) = omega arith in
      let b : get_or (back C w).bodies t [] ≡ words_at w (5 + t * 6 + 2) 4 = over_here _ C.bodies 2048 (bodies_long w) [] t p ∙ body_at w t p in
      field_body (back C w).kinds (back C w).locs (back C w).bodies f t ∙ ap (λ (x : List ℕ). get_or x f 0) b ∙ body_word w (5 + t * 6 + 2) f (omega arith) ∙ ap (λ (i : ℕ). get_or w i 0) e

  word_back : (j : ℕ) → j < 24069 → Dec (j < 5) → Dec (j < 12293) → word at (back C w).rest j ≡ get_or w j 0
  unfolding back
  word_back j l (yes p) q = word_count at (columns_of w).rest j p ∙ rest_at w j p
  word_back j l (no p) (yes q) =
      let e : 5 + (j - 5) / 6 * 6 + (j - 5) % 6 ≡ j = omega arith in
      word_field at (columns_of w).rest j (omega arith) q ∙ field_back ((j - 5) / 6) ((j - 5) % 6) (omega arith) (omega arith) ∙ ap (λ (i : ℕ). get_or w i 0) e
  word_back j l (no p) (no q) =
      let e : j - 12288 + 12288 ≡ j = omega arith in
      word_rest at (columns_of w).rest j (omega arith) ∙ rest_past w (j - 12288) (omega arith) (omega arith) ∙ ap (λ (i : ℕ). get_or w i 0) e

  pub rows_back : length w ≡ 24069 → rows_of (back C w) ≡ w
  unfolding words
  rows_back e = tab_all 0 24069 (word at (back C w).rest) w e (λ j l. word_back j l (dec_lt j 5) (dec_lt j 12293))

-- ---- columns, made rows and put back, are as they were

module _ (C : Columns) (h : Fit C) where
  abbrev W : List ℕ
  W = rows_of C

  kind_was : (t : ℕ) → t < 2048 → get_or W (5 + t * 6) 0 ≡ get_or C.kinds t 0
  unfolding field
  kind_was t p =
      let e : 5 + t * 6 ≡ 5 + t * 6 + 0 = omega arith in
      ap (λ (i : ℕ). get_or W i 0) e ∙ words_node C.kinds C.locs C.bodies C.rest t 0 p (omega arith)

  loc_was : (t : ℕ) → t < 2048 → get_or W (5 + t * 6 + 1) 0 ≡ get_or C.locs t 0
  unfolding field
  loc_was t p = words_node C.kinds C.locs C.bodies C.rest t 1 p (omega arith)

  body_was : (t : ℕ) → t < 2048 → words_at W (5 + t * 6 + 2) 4 ≡ get_or C.bodies t []
  unfolding field words_at
  body_was t p =
      let k : t < length C.bodies = omega (arith, p, h.bodies) in
      tab_all 0 4 _ (get_or C.bodies t []) (h.four t k)
      (λ f q.
      let e : 5 + t * 6 + 2 + f ≡ 5 + t * 6 + suc (suc f) = omega arith in
      ap (λ (i : ℕ). get_or W i 0) e ∙ words_node C.kinds C.locs C.bodies C.rest t (suc (suc f)) p (omega arith) ∙ field_body C.kinds C.locs C.bodies f t)

  rest_was : (j : ℕ) → j < 11781 → Dec (j < 5) → get_or W (if ltb j 5 then j else j + 12288) 0 ≡ get_or C.rest j 0
  rest_was j l (yes p) = rw (lt-ltb j 5 p) (words_count C.kinds C.locs C.bodies C.rest j p)
  rest_was j l (no p) = rw (le-ltb j 5 (omega arith)) (words_rest C.kinds C.locs C.bodies C.rest j (j + 12288) (omega arith) l refl)

  pub back_rows : back C (rows_of C) ≡ C
  unfolding back columns_of
  back_rows =
      let k : (back C W).kinds ≡ C.kinds = over_same 0 2048 _ C.kinds h.kinds kind_was in
      let l : (back C W).locs ≡ C.locs = over_same 0 2048 _ C.locs h.locs loc_was in
      let b : (back C W).bodies ≡ C.bodies = over_same [] 2048 _ C.bodies h.bodies body_was in
      let r : (back C W).rest ≡ C.rest = tab_all 0 11781 _ C.rest h.rest (λ j q. rest_was j q (dec_lt j 5)) in
      λ i. record { kinds = k i; locs = l i; bodies = b i; rest = r i }

-- ---- columns of just 2,048 entries

module _ (C : Columns) (k : length C.kinds ≡ 2048) (l : length C.locs ≡ 2048) (b : length C.bodies ≡ 2048) where
  back_is : (w : List ℕ) → back C w ≡ columns_of w
  unfolding back
  back_is w =
      let x : over (columns_of w).kinds C.kinds ≡ (columns_of w).kinds = over_none _ C.kinds 2048 (kinds_long w) (omega (arith, k)) in
      let y : over (columns_of w).locs C.locs ≡ (columns_of w).locs = over_none _ C.locs 2048 (locs_long w) (omega (arith, l)) in
      let z : over (columns_of w).bodies C.bodies ≡ (columns_of w).bodies = over_none _ C.bodies 2048 (bodies_long w) (omega (arith, b)) in
      λ i. record { kinds = x i; locs = y i; bodies = z i; rest = (columns_of w).rest }

  pub columns_rows : Fit C → columns_of (rows_of C) ≡ C
  columns_rows h = sym (back_is (rows_of C)) ∙ back_rows C h

pub rows_columns : (w : List ℕ) → length w ≡ 24069 → rows_of (columns_of w) ≡ w
rows_columns w e = ap (λ (x : Columns). rows_of x) (sym (back_is (columns_of w) (kinds_long w) (locs_long w) (bodies_long w) w)) ∙ rows_back (columns_of w) w e

-- both ways at once
pub record ThereAndBack : Type 0 where
  pub rows : (w : List ℕ) → length w ≡ 24069 → rows_of (columns_of w) ≡ w
  pub columns : (C : Columns) → Fit C → length C.kinds ≡ 2048 → length C.locs ≡ 2048 → length C.bodies ≡ 2048 → columns_of (rows_of C) ≡ C

pub there_and_back : ThereAndBack
there_and_back = record { rows = rows_columns; columns = λ C h k l b. columns_rows C k l b h }

-- ---- the fronts alone, as a call lends them on

module _ (k l : List ℕ) (b : List (List ℕ)) where
  abbrev front : ℕ → ℕ → ℕ
  front = field (take 2048 k) (take 2048 l) (take 2048 b)

  field_front : (f t : ℕ) → t < 2048 → front f t ≡ field k l b f t
  unfolding field
  field_front f t p = rw (get_or-take 2048 k t 0 p, get_or-take 2048 l t 0 p, get_or-take 2048 b t [] p) refl

  word_front : (r : List ℕ) (j : ℕ) → Dec (j < 5) → Dec (j < 12293) → word front r j ≡ word (field k l b) r j
  word_front r j (yes p) q = word_count front r j p ∙ sym (word_count (field k l b) r j p)
  word_front r j (no p) (yes q) = word_field front r j (omega arith) q ∙ field_front ((j - 5) % 6) ((j - 5) / 6) (omega arith) ∙ sym (word_field (field k l b) r j (omega arith) q)
  word_front r j (no p) (no q) = word_rest front r j (omega arith) ∙ sym (word_rest (field k l b) r j (omega arith))

  -- they stand for the same rows
  pub words_front : (r : List ℕ) → words (take 2048 k) (take 2048 l) (take 2048 b) r ≡ words k l b r
  unfolding words
  words_front r = tab_ext 24069 (word front r) (word (field k l b) r) (λ j p. word_front r j (dec_lt j 5) (dec_lt j 12293))

-- and what they hold in the end, D, is what is put back
pub back_over : (C D : Columns) → Fit D → length D.kinds ≡ 2048 → length D.locs ≡ 2048 → length D.bodies ≡ 2048
    → back C (rows_of D) ≡ record { kinds = over D.kinds C.kinds; locs = over D.locs C.locs; bodies = over D.bodies C.bodies; rest = D.rest }
unfolding back
back_over C D h k l b = ap (λ (x : Columns). record { kinds = over x.kinds C.kinds; locs = over x.locs C.locs; bodies = over x.bodies C.bodies; rest = x.rest }) (columns_rows D k l b h)

-- ---- what `back` keeps

module _ (C : Columns) (h : Fit C) (w : List ℕ) where
  four_back : (t : ℕ) → t < length (back C w).bodies → Dec (t < 2048) → length (get_or (back C w).bodies t []) ≡ 4
  unfolding back words_at
  four_back t p (yes q) = ap (λ (x : List ℕ). length x) (over_here _ C.bodies 2048 (bodies_long w) [] t q ∙ body_at w t q) ∙ length_tab 4 _
  four_back t p (no q) =
      let e = over_long _ C.bodies 2048 (bodies_long w) h.bodies in
      ap (λ (x : List ℕ). length x) (over_past _ C.bodies 2048 (bodies_long w) [] t (omega arith)) ∙ h.four t (omega (arith, p, e))

  pub fit_back : Fit (back C w)
  unfolding back
  fit_back = record {
    kinds = omega (arith, h.kinds, over_long _ C.kinds 2048 (kinds_long w) h.kinds);
    locs = omega (arith, h.locs, over_long _ C.locs 2048 (locs_long w) h.locs);
    bodies = omega (arith, h.bodies, over_long _ C.bodies 2048 (bodies_long w) h.bodies);
    four = λ t p. four_back t p (dec_lt t 2048);
    rest = rest_long w;
  }

-- what stands past the 2,048
pub record PastKept (C D : Columns) : Type 0 where
  pub kinds : drop 2048 D.kinds ≡ drop 2048 C.kinds
  pub locs : drop 2048 D.locs ≡ drop 2048 C.locs
  pub bodies : drop 2048 D.bodies ≡ drop 2048 C.bodies

pub past_kept : (C : Columns) (w : List ℕ) → PastKept C (back C w)
unfolding back
past_kept C w = record {
  kinds = over_kept _ C.kinds 2048 (kinds_long w);
  locs = over_kept _ C.locs 2048 (locs_long w);
  bodies = over_kept _ C.bodies 2048 (bodies_long w);
}

-- columns with the row words put into them match those
pub matches_back : (C : Columns) (w : List ℕ) → Fit C → length w ≡ 24069 → Matches w (back C w)
matches_back C w h e = record { fit = fit_back C h w; same = rows_back C w e }
