-- The rows that are blank, then written by one entry after the other, are those of the histories. Assumes nothing.
use mathlib.Core.Path.{◌≡◌, refl, sym, ap, subst, ◌∙◌}
use mathlib.Core.List.{List, [], ◌∷◌}
use Rattle.std.specs.Prelude.{Option, None, is_some, unwrap_or}
use mathlib.Core.Bool.{Bool, false}
use Prim.Native.Nat.{ℕ, zero, suc, ◌+◌, ◌*◌, ◌-◌, ◌/◌, ◌%◌, ◌<◌, ◌≤◌}
use native.Mathlib.Omega.{arith}
use native.Mathlib.Decide.{ℕ_discrete, dec_lt}
use lib.ListN.{length, get_or, get_or-append, drop}
use lib.Seq.{ext_get_or}
use mir.Val.{bool_byte}
use Rattle.std.proofs.Common.{add-one}
use Rattle.definition.specs.Types.{Cell}
use Rattle.table.specs.Rows.{option_flag, option_word, cell_words}
use Rattle.table.specs.State.{Wrote}
use Rattle.table.proofs.Written.{cell_row}
use Rattle.history.specs.History.{no_binding, no_mark, find_binding, find_mark, cell_of, words_of}
use Rattle.history.specs.declared.Binding.{Binding}
use Rattle.history.specs.Rows.{InRows}
use Rattle.history.specs.declared.Mark.{Mark}
use Rattle.history.specs.declared.rows.Entries.{Entries}
use Rattle.history.proofs.Find.{find_hit, find_miss, mark_hit, mark_miss}
use Rattle.history.proofs.Words.{of_low, of_high, of_row, of_size}

-- words that say the same
same_words : (w : List ℕ) (h : List Binding) (n : ℕ) (m : List Mark) (k : ℕ) (w' : List ℕ) → length w' ≡ 24069
    → ((j : ℕ) → j < 16389 → get_or w' j 0 ≡ get_or w j 0) → ((j : ℕ) → 21509 ≤ j → j < 24069 → get_or w' j 0 ≡ get_or w j 0)
    → ((v f : ℕ) → v < 1024 → f < 5 → get_or w' (16389 + v * 5 + f) 0 ≡ get_or (cell_words (cell_of h n m k v)) f 0)
    → w' ≡ words_of w h n m k
same_words w h n m k w' size low high row = ext_get_or 0 _ _ (size ∙ sym (of_size w h n m k)) (λ j p. by j (rw size at p) (dec_lt j 16389) (dec_lt j 21509))
  where
    by : (j : ℕ) → j < 24069 → Dec (j < 16389) → Dec (j < 21509) → get_or w' j 0 ≡ get_or (words_of w h n m k) j 0
    by j p (yes q) r = low j q ∙ sym (of_low w h n m k j q)
    by j p (no q) (no r) = high j (omega arith) p ∙ sym (of_high w h n m k j (omega arith) p)
    by j p (no q) (yes r) =
        let v : ℕ = (j - 16389) / 5 in
        let f : ℕ = (j - 16389) % 5 in
        let e : 16389 + (j - 16389) / 5 * 5 + (j - 16389) % 5 ≡ j = omega arith in
        let a : (j - 16389) / 5 < 1024 = omega arith in
        let b : (j - 16389) % 5 < 5 = omega arith in
        subst (λ (x : ℕ). get_or w' x 0 ≡ get_or (words_of w h n m k) x 0) e (row v f a b ∙ sym (of_row w h n m k v f a b))

abbrev last_three : Mark → List ℕ
last_three b = option_flag b.numeric ∷ option_word b.numeric ∷ b.need ∷ []

-- a row but for its first two words
rest : (p q r s : ℕ) (l : List ℕ) (f : ℕ) → 2 ≤ f → get_or (p ∷ q ∷ l) f 0 ≡ get_or (r ∷ s ∷ l) f 0
rest p q r s l zero h = absurd (omega arith)
rest p q r s l (suc zero) h = absurd (omega arith)
rest p q r s l (suc (suc f)) h = refl

after_two : (p q : ℕ) (l : List ℕ) (f : ℕ) → 2 ≤ f → get_or l (f - 2) 0 ≡ get_or (p ∷ q ∷ l) f 0
after_two p q l f h = let e : suc (suc (f - 2)) ≡ f = omega arith in subst (λ (x : ℕ). get_or l (f - 2) 0 ≡ get_or (p ∷ q ∷ l) x 0) e refl

no_word : (f : ℕ) → f < 5 → get_or {A = ℕ} (0 ∷ 0 ∷ 0 ∷ 0 ∷ 0 ∷ []) f 0 ≡ 0
no_word zero h = refl
no_word (suc zero) h = refl
no_word (suc (suc zero)) h = refl
no_word (suc (suc (suc zero))) h = refl
no_word (suc (suc (suc (suc zero)))) h = refl
no_word (suc (suc (suc (suc (suc f))))) h = absurd (omega arith)

-- no entry yet
pub blank_rows : (w : List ℕ) (h : List Binding) (m : List Mark) (w' : List ℕ) → length w ≡ 24069 → Wrote w 16389 5120 [] w' → w' ≡ words_of w h 0 m 0
unfolding cell_of find_binding find_mark cell_words option_flag option_word
blank_rows w h m w' size a =
    same_words w h 0 m 0 w' (a.size ∙ size) (λ j p. a.there j (λ k q e. omega arith)) (λ j p q. a.there j (λ k r e. omega arith))
    (λ v f p q.
    let e : 16389 + (v * 5 + f) ≡ 16389 + v * 5 + f = omega arith in
    subst (λ (x : ℕ). get_or w' x 0 ≡ 0) e (a.here (v * 5 + f) (omega arith)) ∙ sym (no_word f q))

module _ (w : List ℕ) (h : List Binding) (n : ℕ) (m : List Mark) (k : ℕ) (w' : List ℕ) where
  -- word f of variable v's row is that of the cell c
  abbrev Reads : ℕ → ℕ → Cell → Type 0
  Reads v f c = get_or w' (16389 + v * 5 + f) 0 ≡ get_or (cell_words c) f 0

  -- a binding more
  module _ (lt : (get_or h n no_binding).tvar < 1024) (a : Wrote (words_of w h n m k) (16389 + (get_or h n no_binding).tvar * 5) 2 (1 ∷ (get_or h n no_binding).node ∷ []) w') where
    bound_row : (v f : ℕ) → v < 1024 → f < 5 → Dec ((get_or h n no_binding).tvar ≡ v) → Dec (f < 2) → Reads v f (cell_of h (suc n) m k v)
    unfolding cell_of cell_words option_flag option_word
    bound_row v f p q (yes e) (yes r) =
        let here : get_or w' (16389 + v * 5 + f) 0 ≡ get_or (1 ∷ (get_or h n no_binding).node ∷ []) f 0 = subst (λ (x : ℕ). get_or w' (16389 + x * 5 + f) 0 ≡ get_or (1 ∷ (get_or h n no_binding).node ∷ []) f 0) e (a.here f r) in
        subst (λ (b : Option ℕ). Reads v f (record { binding = b; numeric = (find_mark m k v).numeric; need = (find_mark m k v).need })) (find_hit h n v e)
        (here ∙ sym (get_or-append (1 ∷ (get_or h n no_binding).node ∷ []) (last_three (find_mark m k v)) 0 f r))
    bound_row v f p q (yes e) (no r) =
        a.there (16389 + v * 5 + f) (λ l s z. omega arith) ∙ of_row w h n m k v f p q ∙ rest _ _ _ _ (last_three (find_mark m k v)) f (omega arith)
    bound_row v f p q (no e) r =
        subst (λ (b : Option ℕ). Reads v f (record { binding = b; numeric = (find_mark m k v).numeric; need = (find_mark m k v).need })) (find_miss h n v e)
        (a.there (16389 + v * 5 + f) (λ l s z. e (omega arith)) ∙ of_row w h n m k v f p q)

    pub bound_more : w' ≡ words_of w h (n + 1) m k
    bound_more = rw add-one (same_words w h (suc n) m k w' (a.size ∙ of_size w h n m k)
        (λ j p. a.there j (λ l s z. omega arith) ∙ of_low w h n m k j p)
        (λ j p q. a.there j (λ l s z. omega arith) ∙ of_high w h n m k j p q)
        (λ v f p q. bound_row v f p q (ℕ_discrete (get_or h n no_binding).tvar v) (dec_lt f 2)))

  -- a mark more
  module _ (lt : (get_or m k no_mark).tvar < 1024)
      (a : Wrote (words_of w h n m k) (16389 + (get_or m k no_mark).tvar * 5 + 2) 3 (last_three (get_or m k no_mark)) w') where
    marked_row : (v f : ℕ) → v < 1024 → f < 5 → Dec ((get_or m k no_mark).tvar ≡ v) → Dec (f < 2) → Reads v f (cell_of h n m (suc k) v)
    unfolding cell_of cell_words
    marked_row v f p q (yes e) (no r) =
        let b : Mark = get_or m k no_mark in
        let z : 16389 + (get_or m k no_mark).tvar * 5 + 2 + (f - 2) ≡ 16389 + v * 5 + f = omega arith in
        subst (λ (b : Mark). Reads v f (record { binding = find_binding h n v; numeric = b.numeric; need = b.need })) (mark_hit m k v e)
        (subst (λ (x : ℕ). get_or w' x 0 ≡ get_or (last_three b) (f - 2) 0) z (a.here (f - 2) (omega arith)) ∙ after_two _ _ (last_three b) f (omega arith))
    marked_row v f p q (yes e) (yes r) =
        let x : ℕ = option_flag (find_binding h n v) in
        let y : ℕ = option_word (find_binding h n v) in
        a.there (16389 + v * 5 + f) (λ l s z. omega arith) ∙ of_row w h n m k v f p q ∙ get_or-append (x ∷ y ∷ []) (last_three (find_mark m k v)) 0 f r ∙ sym (get_or-append (x ∷ y ∷ []) (last_three (find_mark m (suc k) v)) 0 f r)
    marked_row v f p q (no e) r =
        subst (λ (b : Mark). Reads v f (record { binding = find_binding h n v; numeric = b.numeric; need = b.need })) (mark_miss m k v e)
        (a.there (16389 + v * 5 + f) (λ l s z. e (omega arith)) ∙ of_row w h n m k v f p q)

    pub marked_more : w' ≡ words_of w h n m (k + 1)
    marked_more = rw add-one (same_words w h n m (suc k) w' (a.size ∙ of_size w h n m k)
        (λ j p. a.there j (λ l s z. omega arith) ∙ of_low w h n m k j p)
        (λ j p q. a.there j (λ l s z. omega arith) ∙ of_high w h n m k j p q)
        (λ v f p q. marked_row v f p q (ℕ_discrete (get_or m k no_mark).tvar v) (dec_lt f 2)))

-- ---- one entry after the other

pub record WritingBindings (w : List ℕ) (e : Entries) (i : ℕ) (w' : List ℕ) : Type 0 where
  pub is : (x : List ℕ) → w ≡ words_of x e.bindings 0 e.marks 0 → w' ≡ words_of x e.bindings i e.marks 0

pub no_binding_yet : (w : List ℕ) (e : Entries) → WritingBindings w e 0 w
no_binding_yet w e = record { is = λ x z. z }

module _ {w : List ℕ} {e : Entries} {i : ℕ} {v : List ℕ} (s : WritingBindings w e i v) where
  pub binding_on : {w' : List ℕ} → InRows e → i < e.bound → Wrote v (16389 + (get_or e.bindings i no_binding).tvar * 5) 2 (1 ∷ (get_or e.bindings i no_binding).node ∷ []) w' → WritingBindings w e (i + 1) w'
  binding_on {w'} r lt a = record { is = λ x z. bound_more x e.bindings i e.marks 0 w' (r.vars_bound i lt) (rw (s.is x z) at a) }

  pub bindings_out : e.bound ≤ i → i ≤ e.bound → (x : List ℕ) → w ≡ words_of x e.bindings 0 e.marks 0 → v ≡ words_of x e.bindings e.bound e.marks 0
  bindings_out p q = let z : i ≡ e.bound = omega arith in rw z at s.is

pub record WritingMarks (w : List ℕ) (e : Entries) (i : ℕ) (w' : List ℕ) : Type 0 where
  pub is : (x : List ℕ) → w ≡ words_of x e.bindings e.bound e.marks 0 → w' ≡ words_of x e.bindings e.bound e.marks i

pub no_mark_yet : (w : List ℕ) (e : Entries) → WritingMarks w e 0 w
no_mark_yet w e = record { is = λ x z. z }

module _ {w : List ℕ} {e : Entries} {i : ℕ} {v : List ℕ} (s : WritingMarks w e i v) where
  pub mark_on : {w' : List ℕ} → InRows e → i < e.marked → Wrote v (16389 + (get_or e.marks i no_mark).tvar * 5 + 2) 3 (last_three (get_or e.marks i no_mark)) w' → WritingMarks w e (i + 1) w'
  mark_on {w'} r lt a = record { is = λ x z. marked_more x e.bindings e.bound e.marks i w' (r.vars_marked i lt) (rw (s.is x z) at a) }

  pub marks_out : e.marked ≤ i → i ≤ e.marked → (x : List ℕ) → w ≡ words_of x e.bindings e.bound e.marks 0 → v ≡ words_of x e.bindings e.bound e.marks e.marked
  marks_out p q = let z : i ≡ e.marked = omega arith in rw z at s.is

-- ---- a mark's words

pub mark_words : (w : List ℕ) (at : ℕ) (f : Bool) (x : ℕ) (b : Mark) (w' : List ℕ) → f ≡ is_some b.numeric → x ≡ unwrap_or b.numeric 0 → Wrote w at 3 (bool_byte f ∷ x ∷ b.need ∷ []) w' → Wrote w at 3 (last_three b) w'
unfolding cell_words
mark_words w at f x b w' g h a = subst (λ (l : List ℕ). Wrote w at 3 l w') (ap (drop 2) (cell_row None b.numeric false f 0 x b.need refl refl g h).is) a
