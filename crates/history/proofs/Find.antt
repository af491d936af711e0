-- What the entries say of a variable. Assumes nothing.
use mathlib.Core.Path.{◌≡◌, refl, sym, ap, subst, ◌∙◌}
use mathlib.Core.List.{List}
use Rattle.std.specs.Prelude.{None, Some}
use Rattle.std.proofs.lemmas.Option.{none-some, same_Some}
use Prim.Native.Nat.{ℕ, zero, suc, ◌+◌, ◌-◌, ◌<◌, ◌≤◌}
use native.Mathlib.Omega.{arith}
use native.Mathlib.Decide.{ℕ_discrete}
use lib.ListN.{length, get_or, set}
use lib.Seq.{get_or-set_same, get_or-set_other}
use borrow.Author.Tests.{eq-eqb, ne_eqb}
use Rattle.history.specs.History.{no_binding, no_mark, find_binding, find_mark}
use Rattle.history.specs.declared.Binding.{Binding}
use Rattle.history.specs.declared.Mark.{Mark}

-- ---- one entry more

module _ (h : List Binding) (n v : ℕ) where
  pub find_hit : (get_or h n no_binding).tvar ≡ v → Some (get_or h n no_binding).node ≡ find_binding h (suc n) v
  unfolding find_binding
  find_hit e = rw (eq-eqb _ _ e, find_binding) refl

  pub find_miss : ((get_or h n no_binding).tvar ≡ v → ⊥) → find_binding h n v ≡ find_binding h (suc n) v
  unfolding find_binding
  find_miss e = rw (ne_eqb _ _ e, find_binding) refl

module _ (m : List Mark) (k v : ℕ) where
  pub mark_hit : (get_or m k no_mark).tvar ≡ v → get_or m k no_mark ≡ find_mark m (suc k) v
  unfolding find_mark
  mark_hit e = rw (eq-eqb _ _ e, find_mark) refl

  pub mark_miss : ((get_or m k no_mark).tvar ≡ v → ⊥) → find_mark m k v ≡ find_mark m (suc k) v
  unfolding find_mark
  mark_miss e = rw (ne_eqb _ _ e, find_mark) refl

-- ---- entries of variables and nodes in use

pub unbound_above : (h : List Binding) (n vars v : ℕ) → ((i : ℕ) → i < n → (get_or h i no_binding).tvar < vars) → vars ≤ v → find_binding h n v ≡ None
unfolding find_binding
unbound_above h zero vars v f p = refl
unbound_above h (suc n) vars v f p = sym (find_miss h n v (λ e. let q = f n (omega arith) in omega (arith, e))) ∙ unbound_above h n vars v (λ i q. f i (omega arith)) p

pub unmarked_above : (m : List Mark) (k vars v : ℕ) → ((i : ℕ) → i < k → (get_or m i no_mark).tvar < vars) → vars ≤ v → find_mark m k v ≡ no_mark
unfolding find_mark
unmarked_above m zero vars v f p = refl
unmarked_above m (suc k) vars v f p = sym (mark_miss m k v (λ e. let q = f k (omega arith) in omega (arith, e))) ∙ unmarked_above m k vars v (λ i q. f i (omega arith)) p

pub found_below : (h : List Binding) (n nodes v t : ℕ) → ((i : ℕ) → i < n → (get_or h i no_binding).node < nodes) → find_binding h n v ≡ Some t → t < nodes
unfolding find_binding
found_below h zero nodes v t f e = absurd (none-some t e)
found_below h (suc n) nodes v t f e = by (ℕ_discrete (get_or h n no_binding).tvar v) (λ z. found_below h n nodes v t (λ i q. f i (omega arith)) z)
  where
    by : Dec ((get_or h n no_binding).tvar ≡ v) → (find_binding h n v ≡ Some t → t < nodes) → t < nodes
    by (yes p) g = subst (λ (x : ℕ). x < nodes) (same_Some _ _ (find_hit h n v p ∙ e)) (f n (omega arith))
    by (no p) g = g (find_miss h n v p ∙ e)

-- ---- a newest entry

find_same : (h g : List Binding) (n v : ℕ) → ((i : ℕ) → i < n → get_or g i no_binding ≡ get_or h i no_binding) → find_binding g n v ≡ find_binding h n v
unfolding find_binding
find_same h g zero v f = refl
find_same h g (suc n) v f = rw (f n (omega arith), find_same h g n v (λ i q. f i (omega arith))) refl

mark_same : (m l : List Mark) (k v : ℕ) → ((i : ℕ) → i < k → get_or l i no_mark ≡ get_or m i no_mark) → find_mark l k v ≡ find_mark m k v
unfolding find_mark
mark_same m l zero v f = refl
mark_same m l (suc k) v f = rw (f k (omega arith), mark_same m l k v (λ i q. f i (omega arith))) refl

-- what holds of the entries, and of the new one
pub each : {A : Type 0} (P : A → Type 0) (l : List A) (n : ℕ) (b d : A) → n < length l → P b → ((i : ℕ) → i < n → P (get_or l i d)) → (i : ℕ) → i < n + 1 → P (get_or (set l n b) i d)
each P l n b d lt new old i p = by (ℕ_discrete i n)
  where
    by : Dec (i ≡ n) → P (get_or (set l n b) i d)
    by (yes e) = subst P (sym (ap (λ (x : ℕ). get_or (set l n b) x d) e ∙ get_or-set_same l n b d lt)) new
    by (no e) = subst P (sym (get_or-set_other l n i b d e)) (old i (omega arith))

module _ (h : List Binding) (n : ℕ) (b : Binding) (lt : n < length h) where
  abbrev pub newer : List Binding
  newer = set h n b

  pub newest : get_or newer n no_binding ≡ b
  newest = get_or-set_same h n b no_binding lt

  pub older : (i : ℕ) → i < n → get_or newer i no_binding ≡ get_or h i no_binding
  older i p = get_or-set_other h n i b no_binding (λ e. omega arith)

  pub find_newest : find_binding newer (n + 1) b.tvar ≡ Some b.node
  find_newest = let e : n + 1 ≡ suc n = omega arith in rw e (sym (find_hit newer n b.tvar (ap (λ (x : Binding). x.tvar) newest)) ∙ ap (λ (x : Binding). Some x.node) newest)

  pub find_older : (v : ℕ) → (v ≡ b.tvar → ⊥) → find_binding newer (n + 1) v ≡ find_binding h n v
  find_older v ne =
      let e : n + 1 ≡ suc n = omega arith in
      rw e (sym (find_miss newer n v (λ q. ne (sym q ∙ ap (λ (x : Binding). x.tvar) newest))) ∙ find_same h newer n v older)

module _ (m : List Mark) (k : ℕ) (b : Mark) (lt : k < length m) where
  abbrev pub marked : List Mark
  marked = set m k b

  pub newest_mark : get_or marked k no_mark ≡ b
  newest_mark = get_or-set_same m k b no_mark lt

  pub older_mark : (i : ℕ) → i < k → get_or marked i no_mark ≡ get_or m i no_mark
  older_mark i p = get_or-set_other m k i b no_mark (λ e. omega arith)

  pub mark_newest : find_mark marked (k + 1) b.tvar ≡ b
  mark_newest = let e : k + 1 ≡ suc k = omega arith in rw e (sym (mark_hit marked k b.tvar (ap (λ (x : Mark). x.tvar) newest_mark)) ∙ newest_mark)

  pub mark_older : (v : ℕ) → (v ≡ b.tvar → ⊥) → find_mark marked (k + 1) v ≡ find_mark m k v
  mark_older v ne =
      let e : k + 1 ≡ suc k = omega arith in
      rw e (sym (mark_miss marked k v (λ q. ne (sym q ∙ ap (λ (x : Mark). x.tvar) newest_mark))) ∙ mark_same m marked k v older_mark)

-- ---- the search: what the older entries say decides

pub record Searching (h : List Binding) (v n newer : ℕ) : Type 0 where
  pub is : find_binding h (n - newer) v ≡ find_binding h n v

pub search_start : (h : List Binding) (v n : ℕ) → Searching h v n 0
search_start h v n = let e : n - 0 ≡ n = omega arith in record { is = rw e refl }

module _ {h : List Binding} {v n newer : ℕ} (s : Searching h v n newer) (lt : newer < n) where
  step_on : suc (n - 1 - newer) ≡ n - newer
  step_on = omega arith

  pub search_here : (get_or h (n - 1 - newer) no_binding).tvar ≡ v → Some (get_or h (n - 1 - newer) no_binding).node ≡ find_binding h n v
  search_here e = find_hit h (n - 1 - newer) v e ∙ rw step_on s.is

  pub search_on : ((get_or h (n - 1 - newer) no_binding).tvar ≡ v → ⊥) → Searching h v n (newer + 1)
  search_on e = let f : n - (newer + 1) ≡ n - 1 - newer = omega arith in record { is = rw f (find_miss h (n - 1 - newer) v e ∙ rw step_on s.is) }

-- .. of a mark
pub record MarkSearching (m : List Mark) (v k newer : ℕ) : Type 0 where
  pub is : find_mark m (k - newer) v ≡ find_mark m k v

pub mark_start : (m : List Mark) (v k : ℕ) → MarkSearching m v k 0
mark_start m v k = let e : k - 0 ≡ k = omega arith in record { is = rw e refl }

module _ {m : List Mark} {v k newer : ℕ} (s : MarkSearching m v k newer) (lt : newer < k) where
  mark_step : suc (k - 1 - newer) ≡ k - newer
  mark_step = omega arith

  pub mark_here : (get_or m (k - 1 - newer) no_mark).tvar ≡ v → get_or m (k - 1 - newer) no_mark ≡ find_mark m k v
  mark_here e = mark_hit m (k - 1 - newer) v e ∙ rw mark_step s.is

  pub mark_on : ((get_or m (k - 1 - newer) no_mark).tvar ≡ v → ⊥) → MarkSearching m v k (newer + 1)
  mark_on e = let f : k - (newer + 1) ≡ k - 1 - newer = omega arith in record { is = rw f (mark_miss m (k - 1 - newer) v e ∙ rw mark_step s.is) }

pub mark_out : {m : List Mark} {v k newer : ℕ} → MarkSearching m v k newer → k ≤ newer → no_mark ≡ find_mark m k v
unfolding find_mark
mark_out {m} {v} {k} {newer} s p = let e : k - newer ≡ zero = omega arith in sym (rw e refl) ∙ s.is

pub search_out : {h : List Binding} {v n newer : ℕ} → Searching h v n newer → n ≤ newer → None ≡ find_binding h n v
unfolding find_binding
search_out {h} {v} {n} {newer} s p = let e : n - newer ≡ zero = omega arith in sym (rw e refl) ∙ s.is
