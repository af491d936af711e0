-- Laws of a list that is given by its entries. Assumes nothing.
use mathlib.Core.Path.{◌≡◌, refl, sym, ap, ◌∙◌}
use mathlib.Core.List.{[], ◌∷◌, ◌++◌}
use mathlib.Core.Logic.{⊎_elim}
use Prim.Native.Nat.{ℕ, zero, suc, ◌+◌, ◌<◌, ◌≤◌}
use native.Mathlib.Nat.{lt-suc_self, lt_trans, eq-or-lt_of_le, le_of_suc-le-suc, not-suc-le-zero}
use native.Mathlib.Numerals.{add-one}
use native.Mathlib.Decide.{ℕ_discrete}
use lib.ListN.{length, get_or, set, length-append, get_or-append, get_or-eq_default, length-set}
use Rattle.table.specs.Tab.{tab}
use lib.Seq.{get_or_at, get_or-set_same, get_or-set_other, ext_get_or}

pub length_tab : {A : Type 0} (n : ℕ) (f : ℕ → A) → length (tab n f) ≡ n
unfolding tab
length_tab zero f = refl
length_tab (suc n) f = length-append (tab n f) (f n ∷ []) ∙ ap (λ (k : ℕ). k + 1) (length_tab n f) ∙ add-one n

-- one entry more
pub tab_more : {A : Type 0} (n : ℕ) (f : ℕ → A) → tab (n + 1) f ≡ tab n f ++ (f n ∷ [])
unfolding tab
tab_more n f = rw add-one

-- two tables that agree below n
pub tab_ext : {A : Type 0} (n : ℕ) (f g : ℕ → A) → ((i : ℕ) → i < n → f i ≡ g i) → tab n f ≡ tab n g
unfolding tab
tab_ext zero f g h = refl
tab_ext (suc n) f g h = rw (tab_ext n f g (λ i p. h i (lt_trans p (lt-suc_self n))), h n (lt-suc_self n))

pub getD_tab : {A : Type 0} (n : ℕ) (f : ℕ → A) (i : ℕ) (d : A) → i < n → get_or (tab n f) i d ≡ f i
unfolding tab
getD_tab zero f i d p = absurd (not-suc-le-zero p)
getD_tab (suc n) f i d p =
    ⊎_elim
    (λ (e : i ≡ n). get_or_at (tab n f) (f n) [] d i (length_tab n f ∙ sym e) ∙ ap f (sym e))
    (λ (q : i < n). get_or-append (tab n f) (f n ∷ []) d i (rw (length_tab n f) q) ∙ getD_tab n f i d q)
    (eq-or-lt_of_le (le_of_suc-le-suc p))

pub getD_tab_out : {A : Type 0} (n : ℕ) (f : ℕ → A) (i : ℕ) (d : A) → n ≤ i → get_or (tab n f) i d ≡ d
getD_tab_out n f i d p = get_or-eq_default (tab n f) d (rw (length_tab n f) p)

-- one entry is another
pub tab_set : {A : Type 0} (n : ℕ) (f g : ℕ → A) (v : ℕ) (x d : A) → v < n → g v ≡ x → ((i : ℕ) → i < n → (i ≡ v → ⊥) → g i ≡ f i) → tab n g ≡ set (tab n f) v x
tab_set n f g v x d lt here there =
    ext_get_or d (tab n g) (set (tab n f) v x) (length_tab n g ∙ sym (length-set (tab n f) v x ∙ length_tab n f))
    (λ i p.
    let q : i < n = rw (length_tab n g) at p in
    getD_tab n g i d q ∙ at_either i q (ℕ_discrete i v))
  where
    at_either : (i : ℕ) → i < n → Dec (i ≡ v) → g i ≡ get_or (set (tab n f) v x) i d
    at_either i q (yes e) = ap g e ∙ here ∙ sym (rw e (get_or-set_same (tab n f) v x d (rw (length_tab n f) lt)))
    at_either i q (no e) = there i q e ∙ sym (get_or-set_other (tab n f) v i x d e ∙ getD_tab n f i d q)
