-- Rows that slide down in their place: nothing is done yet; a row that stays, and one that goes; at the end the rows behind are zeroed. Assumes nothing.
use mathlib.Core.Path.{◌≡◌, refl, sym, ap, subst, ◌∙◌}
use mathlib.Core.Logic.{inl, inr}
use mathlib.Core.Bool.{Bool, true, false}
use mathlib.Core.List.{List, [], ◌∷◌, ◌++◌, map, append-nil}
use Prim.Native.Nat.{ℕ, ◌+◌, ◌*◌, ◌-◌, ◌<◌, ◌≤◌}
use native.Mathlib.Omega.{arith}
use native.Mathlib.Decide.{ℕ_discrete, dec_lt}
use lib.ListN.{length, get_or, length-append, get_or-append}
use Rattle.std.proofs.Common.{add-one}
use Rattle.std.proofs.lemmas.List.{map-append}
use Rattle.definition.specs.Keep.{those_below}
use Rattle.theorems.proofs.KeepLists.{those_few}
use Rattle.table.specs.Tab.{tab}
use Rattle.table.specs.Rows.{Table, row, entries, Clean, node_words, shape_words, arg_words, constraint_words, node_table, arg_table, var_table, constraint_table}
use Rattle.table.specs.State.{Wrote}
use Rattle.table.proofs.Rows.{length_entries, entry_out, row_same, Put, put_row, put_push}
use Rattle.table.proofs.Written.{node_long, cell_long, constraint_long}
use Rattle.table.specs.Moved.{Puts}
use Rattle.snapshot.proofs.Back.{zero_row, blank_cell}
use Rattle.keep.specs.Slid.{Within, Slid, SlidDown}

-- ---- the numbers below t, and t itself
pub those_next : (t : ℕ) (f : ℕ → Bool) → f t ≡ true → those_below (t + 1) f ≡ those_below t f ++ (t ∷ [])
unfolding those_below
those_next t f e = rw (add-one t, e) refl

pub those_not : (t : ℕ) (f : ℕ → Bool) → f t ≡ false → those_below (t + 1) f ≡ those_below t f
unfolding those_below
those_not t f e = rw (add-one t, e) (append-nil (those_below t f))

-- ---- words outside a table

module _ {A : Type 0} (T : Table A) where
  within_trans : {w w' w'' : List ℕ} → Within T w w' → Within T w' w'' → Within T w w''
  within_trans a b = record { size = b.size ∙ a.size; there = λ j o. b.there j o ∙ a.there j o }

  within_wrote : {w w' r : List ℕ} {at n : ℕ} → Wrote w at n r w' → T.base ≤ at → at + n ≤ T.base + T.rows * T.width → Within T w w'
  within_wrote z low high = record { size = z.size; there = λ j o. z.there j (λ k p e. elim o [ inl l ↦ omega (arith, low, l, e) | inr l ↦ omega (arith, high, l, p, e) ]) }

  -- where the rows of T stand
  pub record Laid : Type 0 where
    pub long : (a : A) → length (T.write a) ≡ T.width
    pub fits : (k : ℕ) → k < T.rows → k * T.width + T.width ≤ T.rows * T.width
    pub tail_fits : (k t : ℕ) → k ≤ t → t ≤ T.rows → T.base + k * T.width + (t - k) * T.width ≤ T.base + T.rows * T.width
    pub apart : (i k m n : ℕ) → (i ≡ k → ⊥) → m < T.width → n < T.width → T.base + i * T.width + m ≡ T.base + k * T.width + n → ⊥
    pub zeros : T.write T.blank ≡ tab T.width (λ k. 0)
    pub under : (i k m n : ℕ) → i < k → m < T.width → T.base + i * T.width + m ≡ T.base + k * T.width + n → ⊥
    pub over : (i k t m n : ℕ) → t ≤ i → k ≤ t → n < (t - k) * T.width → T.base + i * T.width + m ≡ T.base + k * T.width + n → ⊥
    pub inside : (i k t m : ℕ) → k ≤ i → i < t → m < T.width → ((i - k) * T.width + m < (t - k) * T.width) × (T.base + k * T.width + ((i - k) * T.width + m) ≡ T.base + i * T.width + m)

module _ {A : Type 0} (T : Table A) (f : ℕ → Bool) (h : ℕ → A) (w₀ : List ℕ) where
  pub slid_none : Slid T f h w₀ w₀ 0 0
  unfolding those_below entries tab
  slid_none = record { many = refl; done = refl; clean = λ i p. absurd (omega arith); rest = λ i p q. refl; within = record { size = refl; there = λ j o. refl } }

  module _ {w : List ℕ} {t k : ℕ} (s : Slid T f h w₀ w t k) where
    pub slid_low : k ≤ t
    slid_low = rw s.many (those_few t f)

    slid_kept : (w' : List ℕ) → f t ≡ true → t < T.rows → Put T w k (h t) w' → T.read (T.write (h t)) ≡ h t → Within T w w' → Slid T f h w₀ w' (t + 1) (k + 1)
    slid_kept w' e lt put again only = record {
      many = rw (those_next t f e) (omega (arith, s.many, length-append (those_below t f) (t ∷ [])));
      done = more ∙ ap (λ (l : List A). l ++ (h t ∷ [])) s.done ∙ sym (ap (map h) (those_next t f e) ∙ map-append h (those_below t f) (t ∷ []));
      clean = λ i p. by i p (ℕ_discrete i k);
      rest = λ i p q. put.there i q (λ d. let low = slid_low in omega (arith, low, d, p)) ∙ s.rest i (omega arith) q;
      within = within_trans T s.within only;
    }
      where
        low : k < T.rows
        low = let l = slid_low in omega (arith, l, lt)

        more : entries T w' (k + 1) ≡ entries T w k ++ (h t ∷ [])
        more = put_push T w k (h t) w' put low again

        by : (i : ℕ) → i < k + 1 → Dec (i ≡ k) → row T w' i ≡ T.write (get_or (entries T w' (k + 1)) i T.blank)
        by i p (yes d) = rw (d, more) (put.here ∙ sym (ap T.write (lib.Seq.get_or_at (entries T w k) (h t) [] T.blank k (length_entries T w k))))
        by i p (no d) =
            put.there i (omega (arith, low, p)) d
            ∙ s.clean i (omega arith)
            ∙ ap T.write (sym (rw more (get_or-append (entries T w k) (h t ∷ []) T.blank i (rw (length_entries T w k) (omega arith)))))

    pub slid_gone : f t ≡ false → Slid T f h w₀ w (t + 1) k
    slid_gone e = record { many = rw (those_not t f e) s.many; done = rw (those_not t f e) s.done; clean = s.clean; rest = λ i p q. s.rest i (omega arith) q; within = s.within }

    -- row t is written to row k
    slid_put : Laid T → (w' : List ℕ) (a : A) → f t ≡ true → t < T.rows → a ≡ h t → Puts T w k a w' → Slid T f h w₀ w' (t + 1) (k + 1)
    slid_put l w' a e lt is p =
        let low : k < T.rows = omega (arith, slid_low, lt) in
        slid_kept w' e lt (subst (λ (x : A). Put T w k x w') is (put_row T w k p.words w' a p.wrote p.written (l.long a) (λ i m n ne q r. l.apart i k m n ne q r))) (subst (λ (x : A). T.read (T.write x) ≡ x) is p.written.again)
        (within_wrote T p.wrote (omega arith) (let x = l.fits k low in omega (arith, x)))

    -- rows k to t are zeroed, where w₀ is blank from row t on
    module _ (l : Laid T) (w' : List ℕ) (z : Wrote w (T.base + k * T.width) ((t - k) * T.width) [] w') (clean₀ : Clean T w₀ t) (few : t ≤ T.rows) where
      row_front : (i : ℕ) → i < k → row T w' i ≡ row T w i
      row_front i lt = row_same T w w' i (λ m q. z.there (T.base + i * T.width + m) (λ j p e. l.under i k m j lt q e))

      front : entries T w' k ≡ entries T w k
      unfolding entries
      front = Rattle.table.proofs.Tab.tab_ext k _ _ (λ i lt. ap T.read (row_front i lt))

      row_zero : (i : ℕ) → k ≤ i → i < t → row T w' i ≡ T.write T.blank
      row_zero i le lt =
          zero_row T w' i (λ m q.
          let x = l.inside i k t m le lt q in
          sym (ap (λ (y : ℕ). get_or w' y 0) x.1) ∙ z.here ((i - k) * T.width + m) x.0)
          ∙ sym l.zeros

      row_behind : (i : ℕ) → t ≤ i → i < T.rows → row T w' i ≡ T.write T.blank
      unfolding Clean
      row_behind i le lt =
          row_same T w w' i (λ m q. z.there (T.base + i * T.width + m) (λ j p e. l.over i k t m j le (let y = slid_low in y) p e))
          ∙ s.rest i le lt
          ∙ clean₀ i lt
          ∙ ap T.write (entry_out T w₀ t i T.blank le)

      slid_entries : entries T w' k ≡ map h (those_below t f)
      slid_entries = front ∙ s.done

      slid_clean : Clean T w' k
      unfolding Clean
      slid_clean i lt = by (dec_lt i k) (dec_lt i t)
        where
          by : Dec (i < k) → Dec (i < t) → row T w' i ≡ T.write (get_or (entries T w' k) i T.blank)
          by (yes p) d = row_front i p ∙ s.clean i p ∙ ap (λ (l : List A). T.write (get_or l i T.blank)) (sym front)
          by (no p) (yes q) = row_zero i (omega arith) q ∙ ap T.write (sym (entry_out T w' k i T.blank (omega arith)))
          by (no p) (no q) = row_behind i (omega arith) lt ∙ ap T.write (sym (entry_out T w' k i T.blank (omega arith)))

      pub slid_down : SlidDown T f h w₀ t w' k
      slid_down = record { many = s.many; done = slid_entries; clean = slid_clean; within = within_trans T s.within (within_wrote T z (omega arith) (let y = slid_low in l.tail_fits k t y few)) }

    -- where all rows stay
    module _ (e : t ≡ k) (clean₀ : Clean T w₀ t) (few : t ≤ T.rows) where
      all_clean : Clean T w k
      unfolding Clean
      all_clean i lt = by (dec_lt i k)
        where
          by : Dec (i < k) → row T w i ≡ T.write (get_or (entries T w k) i T.blank)
          by (yes p) = s.clean i p
          by (no p) = s.rest i (omega (arith, e, p)) lt ∙ clean₀ i lt ∙ ap T.write (entry_out T w₀ t i T.blank (omega (arith, e, p)) ∙ sym (entry_out T w k i T.blank (omega arith)))

      slid_all : SlidDown T f h w₀ t w k
      slid_all = record { many = s.many; done = s.done; clean = all_clean; within = s.within }

pub all_down : {A : Type 0} {T : Table A} {f : ℕ → Bool} {h : ℕ → A} {w₀ w : List ℕ} {t n : ℕ} → Slid T f h w₀ w t t → t ≡ n → Clean T w₀ n → n ≤ T.rows → SlidDown T f h w₀ n w n
all_down {T = T} {f = f} {h = h} {w₀ = w₀} {w = w} s e c few = let s' : Slid T f h w₀ w _ _ = rw e at s in slid_all T f h w₀ s' refl c few

-- where h goes by the rows of w₀
module _ {A : Type 0} (T : Table A) (f : ℕ → Bool) (g : A → A) (w₀ : List ℕ) {w : List ℕ} {t k : ℕ} (s : Slid T f (λ i. g (T.read (row T w₀ i))) w₀ w t k) where
  -- x is read, and put as a
  pub slid_row : Laid T → (w' : List ℕ) (a x : A) → f t ≡ true → t < T.rows → a ≡ g x → x ≡ T.read (row T w t) → Puts T w k a w' → Slid T f (λ i. g (T.read (row T w₀ i))) w₀ w' (t + 1) (k + 1)
  slid_row l w' a x e lt d r p = slid_put T f (λ i. g (T.read (row T w₀ i))) w₀ s l w' a e lt (d ∙ ap g (r ∙ ap T.read (s.rest t (omega arith) lt))) p

  pub slid_end : {n : ℕ} → t ≡ n → Slid T f (λ i. g (T.read (row T w₀ i))) w₀ w n k
  slid_end e = rw (← e) s

-- ---- the four tables

pub laid_nodes : Laid node_table
unfolding node_words shape_words tab
laid_nodes = record {
  long = node_long;
  fits = λ k lt. omega arith;
  tail_fits = λ k t le few. omega arith;
  apart = λ i k m n ne p q e. ne (omega arith);
  zeros = refl;
  under = λ i k m n lt p e. omega arith;
  over = λ i k t m n le low p e. omega arith;
  inside = λ i k t m le lt p. (omega arith, omega arith);
}

pub laid_places : Laid arg_table
unfolding arg_words tab
laid_places = record {
  long = λ a. refl;
  fits = λ k lt. omega arith;
  tail_fits = λ k t le few. omega arith;
  apart = λ i k m n ne p q e. ne (omega arith);
  zeros = refl;
  under = λ i k m n lt p e. omega arith;
  over = λ i k t m n le low p e. omega arith;
  inside = λ i k t m le lt p. (omega arith, omega arith);
}

pub laid_vars : Laid var_table
laid_vars = record {
  long = cell_long;
  fits = λ k lt. omega arith;
  tail_fits = λ k t le few. omega arith;
  apart = λ i k m n ne p q e. ne (omega arith);
  zeros = blank_cell;
  under = λ i k m n lt p e. omega arith;
  over = λ i k t m n le low p e. omega arith;
  inside = λ i k t m le lt p. (omega arith, omega arith);
}

pub laid_constraints : Laid constraint_table
unfolding constraint_words tab
laid_constraints = record {
  long = constraint_long;
  fits = λ k lt. omega arith;
  tail_fits = λ k t le few. omega arith;
  apart = λ i k m n ne p q e. ne (omega arith);
  zeros = refl;
  under = λ i k m n lt p e. omega arith;
  over = λ i k t m n le low p e. omega arith;
  inside = λ i k t m le lt p. (omega arith, omega arith);
}
