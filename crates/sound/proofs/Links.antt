-- The lengths of chains: counted from a variable on, noted, and taken from what is noted. Assumes nothing.
-- `Follows` says that one variable is n bindings on from another; a counted length (`Links`) is put together of such a walk and what is noted at its end.
use mathlib.Core.Path.{◌≡◌, sym, ap, ◌∙◌, subst}
use mathlib.Core.Bool.{false}
use mathlib.Core.List.{List}
use Rattle.std.specs.Prelude.{None, Some}
use Prim.Native.Nat.{ℕ, suc, ◌+◌, ◌-◌, ◌≤◌, ◌<◌}
use native.Mathlib.Nat.{not-suc-le-zero}
use native.Mathlib.Omega.{arith}
use native.Mathlib.Decide.{dec_lt, ℕ_discrete}
use lib.Dec.{leb}
use lib.ListN.{length, get_or, set, length-set, replicate, length-replicate, get_or-replicate, get_or-eq_default}
use lib.Seq.{get_or-set_same, get_or-set_other, set_out}
use borrow.Author.Tests.{le-leb, lt-leb}
use Rattle.table.specs.declared.Used.{Used}
use Rattle.sound.specs.Chains.{next_at, ends_fine, chain_fine, Links, Noted}
use Rattle.sound.proofs.Chains.{ends_none, ends_last, ends_suc, ends_next}

-- equal sides are compared alike
leb_on : (n k m : ℕ) → n ≤ m → leb k (m - n) ≡ leb (n + k) m
leb_on n k m h = by (dec_lt (m - n) k)
  where
    by : Dec (m - n < k) → leb k (m - n) ≡ leb (n + k) m
    by (yes p) = lt-leb k (m - n) p ∙ sym (lt-leb (n + k) m (omega arith))
    by (no p) = le-leb k (m - n) (omega arith) ∙ sym (le-leb (n + k) m (omega arith))

zero_at : (n v : ℕ) → Dec (v < n) → ◌≡◌ {A = ℕ} (get_or (replicate n 0) v 0) 0
zero_at n v (yes l) = get_or-replicate n v 0 0 l
zero_at n v (no l) = get_or-eq_default (replicate n 0) 0 (rw (length-replicate {A = ℕ} n 0) (omega arith))

-- `cur` is n bindings on from v
pub record Follows (w : List ℕ) (u : Used) (v n cur : ℕ) : Type 0 where
  pub on : (m : ℕ) → n ≤ m → ends_fine w u m v ≡ ends_fine w u (m - n) cur
  pub short : (m : ℕ) → m < n → ends_fine w u m v ≡ false

module _ (w : List ℕ) (u : Used) where
  pub follows_none : (v : ℕ) → Follows w u v 0 v
  follows_none v = record { on = λ m h. ap (λ (k : ℕ). ends_fine w u k v) (let p : m ≡ m - 0 = omega arith in p); short = λ m h. absurd (not-suc-le-zero h) }

  pub follows_next : (v n cur x : ℕ) → Follows w u v n cur → next_at w u cur ≡ Some x → Follows w u v (n + 1) x
  follows_next v n cur x f e = record {
    on = λ m h. f.on m (omega (arith, h)) ∙ ends_next w u (m - n) cur x e (omega (arith, h)) ∙ ap (λ (k : ℕ). ends_fine w u k x) (let p : m - n - 1 ≡ m - (n + 1) = omega arith in p);
    short = λ m h. by m h (dec_lt m n);
  }
    where
      by : (m : ℕ) → m < n + 1 → Dec (m < n) → ends_fine w u m v ≡ false
      by m h (yes p) = f.short m p
      by m h (no p) = f.on m (omega arith) ∙ ends_last w u (m - n) cur x (omega arith) e

  pub links_end : (v : ℕ) → next_at w u v ≡ None → Links w u v 0
  unfolding Links
  links_end v e m = ends_none w u m v e ∙ sym (le-leb 0 m (omega arith))

  pub links_from : (v n cur k : ℕ) → Follows w u v n cur → Links w u cur k → Links w u v (n + k)
  unfolding Links
  links_from v n cur k f l m = by (dec_lt m n)
    where
      by : Dec (m < n) → ends_fine w u m v ≡ leb (n + k) m
      by (yes p) = f.short m p ∙ sym (lt-leb (n + k) m (omega arith))
      by (no p) = f.on m (omega arith) ∙ l (m - n) ∙ leb_on n k m (omega arith)

  -- a chain without its first binding
  pub links_tail : (v n x : ℕ) → Links w u v n → next_at w u v ≡ Some x → 0 < n → Links w u x (n - 1)
  unfolding Links
  links_tail v n x l e h m = sym (ends_suc w u m v x e) ∙ l (suc m) ∙ sym (leb_on 1 (n - 1) (suc m) (omega arith) ∙ ap (λ (k : ℕ). leb k (suc m)) (let p : 1 + (n - 1) ≡ n = omega (arith, h) in p)) ∙ ap (λ (k : ℕ). leb (n - 1) k) (let p : suc m - 1 ≡ m = omega arith in p)

  -- a chain of a known length
  pub chain_counted : (v n : ℕ) → Links w u v n → chain_fine w u v ≡ leb n u.vars
  unfolding Links chain_fine
  chain_counted v n l = l u.vars

  -- .. and one that goes on
  pub chain_past : (v n cur : ℕ) → Follows w u v n cur → u.vars < n → chain_fine w u v ≡ false
  unfolding chain_fine
  chain_past v n cur f p = f.short u.vars p

  pub noted_none : Noted w u (replicate 1024 0)
  noted_none = record { size = length-replicate {A = ℕ} 1024 0; few = λ v. rw (zero_at 1024 v (dec_lt v 1024)) (omega arith); links = λ v p. absurd (not-suc-le-zero (rw (zero_at 1024 v (dec_lt v 1024)) at p)) }

  pub noted_more : (v n : ℕ) (lengths : List ℕ) → Noted w u lengths → n ≤ u.vars → Links w u v n → Noted w u (set lengths v (n + 1))
  noted_more v n lengths t h l = by (dec_lt v (length lengths))
    where
      same : v < length lengths → get_or (set lengths v (n + 1)) v 0 ≡ n + 1
      same p = get_or-set_same lengths v (n + 1) 0 p

      few : v < length lengths → (x : ℕ) → Dec (x ≡ v) → get_or (set lengths v (n + 1)) x 0 ≤ suc u.vars
      few p x (yes y) = rw y (let z = same p in omega (arith, z, h))
      few p x (no y) = rw (get_or-set_other lengths v x (n + 1) 0 y) (t.few x)

      links : v < length lengths → (x : ℕ) → Dec (x ≡ v) → 0 < get_or (set lengths v (n + 1)) x 0 → Links w u x (get_or (set lengths v (n + 1)) x 0 - 1)
      links p x (yes y) q = rw y (let z : n ≡ get_or (set lengths v (n + 1)) v 0 - 1 = omega (arith, same p) in subst (λ (k : ℕ). Links w u v k) z l)
      links p x (no y) q = let z = get_or-set_other lengths v x (n + 1) 0 y in rw z (t.links x (rw z at q))

      by : Dec (v < length lengths) → Noted w u (set lengths v (n + 1))
      by (yes p) = record { size = length-set lengths v (n + 1) ∙ t.size; few = λ x. few p x (ℕ_discrete x v); links = λ x q. links p x (ℕ_discrete x v) q }
      by (no p) = rw (set_out lengths v (n + 1) (omega arith)) t
