-- What a store of a row does to a table, whatever its rows mean. Assumes nothing.
use mathlib.Core.Path.{◌≡◌, refl, sym, ap, ap₂, subst, ◌∙◌}
use mathlib.Core.List.{List, [], ◌∷◌, ◌++◌}
use Prim.Native.Nat.{ℕ, zero, suc, ◌+◌, ◌*◌, ◌<◌, ◌≤◌}
use native.Mathlib.Omega.{arith}
use Rattle.std.proofs.Common.{add-one}
use Rattle.std.proofs.lemmas.List.Edits.{paste_none, paste_more}
use Rattle.std.proofs.lemmas.List.{length-take-le}
use Rattle.std.proofs.lemmas.Slice.{put_mid-paste}
use borrow.Rule.Slice.PartMut.{put_mid}
use native.Mathlib.Decide.{ℕ_discrete, dec_lt}
use native.Mathlib.Nat.{not-suc-le-zero}
use lib.ListN.{length, take, get_or, set, length-set, length-append, get_or-append, get_or-eq_default}
use lib.Seq.{paste, get_or-set_same, get_or-set_other, get_or-take, ext_get_or, get_or_at}
use Rattle.table.specs.Rows.{Table, words_at, row, entries, Clean, Written}
use Rattle.table.specs.State.{Wrote}
use Rattle.table.proofs.Tab.{length_tab, tab_more, tab_ext, getD_tab, getD_tab_out, tab_set}

-- one entry more, seen from any other
getD_more : {A : Type 0} (l : List A) (a d : A) (i : ℕ) → (i ≡ length l → ⊥) → get_or (l ++ (a ∷ [])) i d ≡ get_or l i d
getD_more l a d i ne = by (dec_lt i (length l))
  where
    by : Dec (i < length l) → get_or (l ++ (a ∷ [])) i d ≡ get_or l i d
    by (yes p) = get_or-append l (a ∷ []) d i p
    by (no p) = get_or-eq_default (l ++ (a ∷ [])) d (rw (length-append l (a ∷ [])) (omega arith)) ∙ sym (get_or-eq_default l d (omega arith))

-- ---- a row is written word by word

pub wrote_none : (w : List ℕ) (at : ℕ) (r : List ℕ) → Wrote w at 0 r w
wrote_none w at r = record { size = refl; here = λ k h. absurd (not-suc-le-zero h); there = λ j h. refl }

pub wrote_more : (w : List ℕ) (at k : ℕ) (r w' : List ℕ) → Wrote w at k r w' → at + k < length w → Wrote w at (k + 1) r (set w' (at + k) (get_or r k 0))
wrote_more w at k r w' h lt =
    record {
      size = length-set w' (at + k) (get_or r k 0) ∙ h.size;
      here = λ i p. by i p (ℕ_discrete i k);
      there = λ j p. get_or-set_other w' (at + k) j (get_or r k 0) 0 (p k (omega arith)) ∙ h.there j (λ i q. p i (omega arith));
    }
  where
    by : (i : ℕ) → i < k + 1 → Dec (i ≡ k) → get_or (set w' (at + k) (get_or r k 0)) (at + i) 0 ≡ get_or r i 0
    by i p (yes e) = rw e (get_or-set_same w' (at + k) (get_or r k 0) 0 (rw h.size lt))
    by i p (no e) = get_or-set_other w' (at + k) (at + i) (get_or r k 0) 0 (λ q. e (omega arith)) ∙ h.here i (omega arith)

-- .. by a loop that goes on past the n words and writes no more
pub record WroteMost (w : List ℕ) (at n : ℕ) (r w' : List ℕ) (k : ℕ) : Type 0 where
  pub size : length w' ≡ length w
  pub early : k ≤ n → Wrote w at k r w'
  pub late : n ≤ k → Wrote w at n r w'

pub most_none : (w : List ℕ) (at n : ℕ) (r : List ℕ) → WroteMost w at n r w 0
most_none w at n r = record { size = refl; early = λ _. wrote_none w at r; late = λ h. let e : n ≡ 0 = omega arith in rw e (wrote_none w at r) }

pub most_more : (w : List ℕ) (at n : ℕ) (r w' : List ℕ) (k : ℕ) → WroteMost w at n r w' k → k < n → at + n ≤ length w → WroteMost w at n r (set w' (at + k) (get_or r k 0)) (k + 1)
most_more w at n r w' k c h b =
    let m : Wrote w at (k + 1) r (set w' (at + k) (get_or r k 0)) = wrote_more w at k r w' (c.early (omega arith)) (omega arith) in
    record { size = m.size; early = λ _. m; late = λ f. let q : n ≡ k + 1 = omega arith in rw q m }

pub most_stay : (w : List ℕ) (at n : ℕ) (r w' : List ℕ) (k : ℕ) → WroteMost w at n r w' k → n ≤ k → WroteMost w at n r w' (k + 1)
most_stay w at n r w' k c h = record { size = c.size; early = λ f. absurd (omega arith); late = λ _. c.late h }

wrote_paste : (w : List ℕ) (at : ℕ) (r : List ℕ) (n : ℕ) → n ≤ length r → at + n ≤ length w → Wrote w at n r (paste w at r n)
wrote_paste w at r zero h g = subst (λ (v : List ℕ). Wrote w at 0 r v) (paste_none w at r) (wrote_none w at r)
wrote_paste w at r (suc n) h g =
    let more : Wrote w at (n + 1) r (paste w at r (n + 1)) =
    subst (λ (v : List ℕ). Wrote w at (n + 1) r v) (paste_more w at r n 0 (omega arith) (omega arith)) (wrote_more w at n r (paste w at r n) (wrote_paste w at r n (omega arith) (omega arith)) (omega arith)) in
    subst (λ (m : ℕ). Wrote w at m r (paste w at r m)) (add-one n) more

-- .. or all at once
pub wrote_mid : (w : List ℕ) (at k : ℕ) (r s : List ℕ) → at + length r ≤ length w → length r ≡ k → s ≡ r → Wrote w at (length r) r (put_mid at k w s)
wrote_mid w at k r s h l e = rw (put_mid-paste at k w s r (length r) e l refl) (wrote_paste w at r (length r) (omega arith) h)

-- the front of r
pub wrote_front : (w : List ℕ) (at n : ℕ) (r s w' : List ℕ) → Wrote w at (length s) s w' → s ≡ take n r → n ≤ length r → Wrote w at n r w'
wrote_front w at n r s w' h e l =
    let long : length s ≡ n = ap length e ∙ length-take-le n r l in
    record {
      size = h.size;
      here = λ k p. h.here k (rw long p) ∙ rw e (get_or-take n r k 0 p);
      there = λ j f. h.there j (λ k p. f k (rw (← long) p));
    }

module _ {A : Type 0} (T : Table A) where
  pub length_entries : (w : List ℕ) (n : ℕ) → length (entries T w n) ≡ n
  unfolding entries
  length_entries w n = length_tab n _

  pub entry_at : (w : List ℕ) (n i : ℕ) (d : A) → i < n → get_or (entries T w n) i d ≡ T.read (row T w i)
  unfolding entries
  entry_at w n i d h = getD_tab n _ i d h

  pub entry_out : (w : List ℕ) (n i : ℕ) (d : A) → n ≤ i → get_or (entries T w n) i d ≡ d
  unfolding entries
  entry_out w n i d h = getD_tab_out n _ i d h

  -- field k of row i
  pub row_word : (w : List ℕ) (i k : ℕ) → k < T.width → get_or (row T w i) k 0 ≡ get_or w (T.base + i * T.width + k) 0
  unfolding row words_at
  row_word w i k h = getD_tab T.width _ k 0 h

  pub row_same : (w w' : List ℕ) (i : ℕ) → ((k : ℕ) → k < T.width → get_or w' (T.base + i * T.width + k) 0 ≡ get_or w (T.base + i * T.width + k) 0) → row T w' i ≡ row T w i
  unfolding row words_at
  row_same w w' i h = tab_ext T.width _ _ h

  -- ---- a table that no store has met

  abbrev pub Same : List ℕ → List ℕ → Type 0
  Same w w' = (i : ℕ) → i < T.rows → row T w' i ≡ row T w i

  pub same_entries : (w w' : List ℕ) (n : ℕ) → Same w w' → n ≤ T.rows → entries T w' n ≡ entries T w n
  unfolding entries
  same_entries w w' n h le = tab_ext n _ _ (λ i p. ap T.read (h i (omega arith)))

  pub same_clean : (w w' : List ℕ) (n : ℕ) → Same w w' → n ≤ T.rows → Clean T w n → Clean T w' n
  unfolding Clean
  same_clean w w' n h le c i p = h i p ∙ c i p ∙ ap (λ (l : List A). T.write (get_or l i T.blank)) (sym (same_entries w w' n h le))

  pub apart : (w : List ℕ) (at n : ℕ) (r w' : List ℕ) → Wrote w at n r w' → ((i k l : ℕ) → i < T.rows → k < T.width → l < n → T.base + i * T.width + k ≡ at + l → ⊥) → Same w w'
  apart w at n r w' h ne i p = row_same w w' i (λ k q. h.there _ (λ l s e. ne i k l p q s e))

  -- ---- one row is written

  pub record Put (w : List ℕ) (n : ℕ) (a : A) (w' : List ℕ) : Type 0 where
    pub here : row T w' n ≡ T.write a
    pub there : (i : ℕ) → i < T.rows → (i ≡ n → ⊥) → row T w' i ≡ row T w i

  pub put_row : (w : List ℕ) (n : ℕ) (r w' : List ℕ) (a : A) → Wrote w (T.base + n * T.width) T.width r w' → Written T r a → length (T.write a) ≡ T.width
      → ((i k l : ℕ) → (i ≡ n → ⊥) → k < T.width → l < T.width → T.base + i * T.width + k ≡ T.base + n * T.width + l → ⊥) → Put w n a w'
  unfolding row words_at
  put_row w n r w' a h q long ne =
      record {
        here = ext_get_or 0 _ _ (length_tab T.width _ ∙ sym long) (λ k p.
            let lt : k < T.width = rw (length_tab T.width (λ (k : ℕ). get_or w' (T.base + n * T.width + k) 0)) at p in
            getD_tab T.width _ k 0 lt ∙ h.here k lt ∙ sym (get_or-take T.width r k 0 lt) ∙ ap (λ (l : List ℕ). get_or l k 0) q.is);
        there = λ i p e. row_same w w' i (λ k s. h.there _ (λ l t f. ne i k l e s t f));
      }

  -- .. past those in use
  pub put_push : (w : List ℕ) (n : ℕ) (a : A) (w' : List ℕ) → Put w n a w' → n < T.rows → T.read (T.write a) ≡ a → entries T w' (n + 1) ≡ entries T w n ++ (a ∷ [])
  unfolding entries
  put_push w n a w' h lt again =
      tab_more n _
      ∙ ap₂ (λ (l : List A) (x : A). l ++ (x ∷ [])) (tab_ext n _ _ (λ i p. ap T.read (h.there i (omega arith) (λ e. omega arith)))) (ap T.read h.here ∙ again)

  pub put_push_clean : (w : List ℕ) (n : ℕ) (a : A) (w' : List ℕ) → Put w n a w' → n < T.rows → T.read (T.write a) ≡ a → Clean T w n → Clean T w' (n + 1)
  unfolding Clean
  put_push_clean w n a w' h lt again c i p = by (ℕ_discrete i n)
    where
      by : Dec (i ≡ n) → row T w' i ≡ T.write (get_or (entries T w' (n + 1)) i T.blank)
      by (yes e) = rw (put_push w n a w' h lt again, e) (h.here ∙ sym (ap T.write (get_or_at (entries T w n) a [] T.blank n (length_entries w n))))
      by (no e) =
          h.there i p e
          ∙ c i p
          ∙ ap T.write (sym (rw (put_push w n a w' h lt again) (getD_more (entries T w n) a T.blank i (λ f. e (f ∙ length_entries w n)))))

  -- a row that is blank already
  pub put_blank : (w : List ℕ) (n : ℕ) → n < T.rows → Clean T w n → Put w n T.blank w
  unfolding Clean
  put_blank w n lt c = record { here = c n lt ∙ ap T.write (entry_out w n n T.blank (omega arith)); there = λ i p e. refl }

  -- .. among those in use
  pub put_set : (w : List ℕ) (n i : ℕ) (a : A) (w' : List ℕ) → Put w i a w' → i < n → n ≤ T.rows → T.read (T.write a) ≡ a → entries T w' n ≡ set (entries T w n) i a
  unfolding entries
  put_set w n i a w' h lt le again = tab_set n _ _ i a T.blank lt (ap T.read h.here ∙ again) (λ k p e. ap T.read (h.there k (omega arith) e))

  pub put_set_clean : (w : List ℕ) (n i : ℕ) (a : A) (w' : List ℕ) → Put w i a w' → i < n → n ≤ T.rows → T.read (T.write a) ≡ a → Clean T w n → Clean T w' n
  unfolding Clean
  put_set_clean w n i a w' h lt le again c k p = by (ℕ_discrete k i)
    where
      by : Dec (k ≡ i) → row T w' k ≡ T.write (get_or (entries T w' n) k T.blank)
      by (yes e) = rw (put_set w n i a w' h lt le again, e) (h.here ∙ ap T.write (sym (get_or-set_same (entries T w n) i a T.blank (rw (length_entries w n) lt))))
      by (no e) = h.there k p e ∙ c k p ∙ ap T.write (sym (rw (put_set w n i a w' h lt le again) (get_or-set_other (entries T w n) i k a T.blank e)))
