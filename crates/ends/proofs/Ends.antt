-- The ends of chains: how they are noted, and that reading the table gives what forward_tvar gives. Assumes nothing.
use mathlib.Core.Path.{◌≡◌, refl, sym, ap, ◌∙◌}
use mathlib.Core.List.{List}
use Rattle.std.specs.Prelude.{Option, None, Some}
use Prim.Native.Nat.{ℕ, zero, suc, ◌+◌, ◌-◌, ◌<◌, ◌≤◌}
use native.Mathlib.Decide.{ℕ_discrete, dec_lt}
use native.Mathlib.Omega.{arith}
use lib.ListN.{length, get_or, set, replicate, length-replicate, length-set}
use lib.Seq.{get_or-set_same, get_or-set_other, set_out}
use Rattle.definition.specs.Types as d
use Rattle.definition.specs.Types.{Struct}
use Rattle.definition.specs.Subst.{next_of, forward, forward_tvar}
use Rattle.names.specs.declared.TVar.{TVar}
use Rattle.table.specs.Did.{held}
use Rattle.table.specs.declared.state.State.{State}
use Rattle.shapes.specs.Parts.{next}
use Rattle.ends.specs.Known.{EndsKnown}
use Rattle.ends.specs.Ends.{EndsBy, Noted, Meets}
use Rattle.ends.specs.declared.Meeting.{Meeting}
use Rattle.table.proofs.Pushed.{taken_seen}
use Rattle.subst.proofs.Laws.{forward_none, forward_some}
use Rattle.subst.proofs.Lists.{zero_at}

-- ---- a chain that ends

clash : {A : Type 0} → ◌≡◌ {A = ℕ} 0 1 → A
clash z = absurd (omega arith)

none_some : {A : Type 0} {o : Option ℕ} (x : ℕ) → o ≡ None → o ≡ Some x → A
none_some x e f = clash (cc)

-- more steps change nothing
ends_more : (n m : ℕ) (s : d.State) (v e : ℕ) → forward n s v ≡ e → next_of s e ≡ None → n ≤ m → forward m s v ≡ e
unfolding forward
ends_more zero m s v e f l h = ap (forward m s) f ∙ forward_none m s e l
ends_more (suc n) zero s v e f l h = absurd (omega arith)
ends_more (suc n) (suc m) s v e f l h = go (λ x g. ends_more n m s x e g l (omega arith)) (next_of s v) refl
  where
    go : ((x : ℕ) → forward n s x ≡ e → forward m s x ≡ e) → (o : Option ℕ) → next_of s v ≡ o → forward (suc m) s v ≡ e
    go more None p = forward_none (suc m) s v p ∙ sym (forward_none (suc n) s v p) ∙ f
    go more (Some x) p = forward_some m s v x p ∙ more x (sym (forward_some n s v x p) ∙ f)

-- nor does one step on
ends_next : (n : ℕ) (s : d.State) (v x e : ℕ) → forward n s v ≡ e → next_of s e ≡ None → next_of s v ≡ Some x → forward n s x ≡ e
unfolding forward
ends_next zero s v x e f l p = none_some x (ap (next_of s) f ∙ l) p
ends_next (suc n) s v x e f l p = ends_more n (suc n) s x e (sym (forward_some n s v x p) ∙ f) l (omega arith)

module _ {s : State} where
  pub by_more : {v n x : ℕ} (m : ℕ) → EndsBy s v n x → n ≤ m → EndsBy s v m x
  by_more {v} {n} {x} m b h = record { short = b.short; is = λ ds. ends_more n m (held s ds) v (x - 1) (b.is ds) (b.last ds) h; last = b.last }

  by_next : {v n x : ℕ} (y : ℕ) → EndsBy s v n x → ((ds : List Struct) → next_of (held s ds) v ≡ Some y) → EndsBy s y n x
  by_next {v} {n} {x} y b p = record { short = b.short; is = λ ds. ends_next n (held s ds) v y (x - 1) (b.is ds) (b.last ds) (p ds); last = b.last }

  by_step : {v y n x : ℕ} → ((ds : List Struct) → next_of (held s ds) v ≡ Some y) → EndsBy s y n x → EndsBy s v (suc n) x
  by_step {v} {y} {n} {x} p b = record { short = b.short; is = λ ds. forward_some n (held s ds) v y (p ds) ∙ b.is ds; last = b.last }

  by_here : (v n : ℕ) → v < 65536 → ((ds : List Struct) → next_of (held s ds) v ≡ None) → EndsBy s v n (v + 1)
  by_here v n l p =
      let e : v ≡ v + 1 - 1 = omega arith in
      record { short = omega arith; is = λ ds. forward_none n (held s ds) v (p ds) ∙ e; last = λ ds. rw (← e) (p ds) }

  -- ---- the table

  pub noted_more : {n : ℕ} (m : ℕ) {ends : List ℕ} → Noted s n ends → n ≤ m → Noted s m ends
  noted_more m t h = record { size = t.size; ends_by = λ v p. by_more m (t.ends_by v p) h }

  pub noted_none : Noted s 0 (replicate 1024 0)
  noted_none = record { size = length-replicate {A = ℕ} 1024 0; ends_by = λ v p. absurd (let z = zero_at 1024 v (dec_lt v 1024) in omega arith) }

  pub noted_set : {n : ℕ} {ends : List ℕ} (v x : ℕ) → Noted s n ends → EndsBy s v n x → Noted s n (set ends v x)
  noted_set {n} {ends} v x t b = record { size = length-set ends v x ∙ t.size; ends_by = λ y p. by y p (ℕ_discrete y v) (dec_lt v (length ends)) }
    where
      by : (y : ℕ) → 0 < get_or (set ends v x) y 0 → Dec (y ≡ v) → Dec (v < length ends) → EndsBy s y n (get_or (set ends v x) y 0)
      by y p (yes e) (yes l) = rw (e, get_or-set_same ends v x 0 l) b
      by y p (yes e) (no l) = let z = set_out ends v x (omega arith) in rw z (t.ends_by y (rw z at p))
      by y p (no e) l = let z = get_or-set_other ends v y x 0 e in rw z (t.ends_by y (rw z at p))

  pub known_all : (n : ℕ) (ends : List ℕ) → Noted s n ends → n ≤ s.used.vars → EndsKnown s ends
  unfolding forward_tvar
  known_all n ends t h = record { short = λ v. low v (dec_lt 0 (get_or ends v 0)); is = λ v p ds. whole v p ds }
    where
      low : (v : ℕ) → Dec (0 < get_or ends v 0) → get_or ends v 0 ≤ 65536
      low v (yes p) = (t.ends_by v p).short
      low v (no p) = omega arith

      whole : (v : ℕ) → 0 < get_or ends v 0 → (ds : List Struct) → get_or ends v 0 - 1 ≡ forward_tvar (held s ds) v
      whole v p ds = sym (rw (taken_seen s.words.now s.used ds) ((by_more s.used.vars (t.ends_by v p) h).is ds))

  pub known_none : (n : ℕ) → EndsKnown s (replicate n 0)
  known_none n = record { short = λ v. let z = zero_at n v (dec_lt v n) in omega arith; is = λ v p ds. absurd (let z = zero_at n v (dec_lt v n) in omega arith) }

-- ---- going along a chain

-- where the loop stands: an end in m steps from here is one in as many more from v as were taken
pub record Following (s : State) (v longest cur long : ℕ) : Type 0 where
  pub le : longest ≤ long
  pub back : (m n x : ℕ) → n + longest ≡ m + long → EndsBy s cur m x → EndsBy s v n x

pub following_start : (s : State) (v longest : ℕ) → Following s v longest v longest
following_start s v longest = record { le = omega arith; back = λ m n x e b. by_more n b (omega arith) }

module _ {s : State} {v longest cur long : ℕ} (f : Following s v longest cur long) (h : long ≤ s.used.vars) where
  pub following_noted : (ends : List ℕ) → Noted s longest ends → (x : ℕ) → x ≡ get_or ends cur 0 → 0 < x → Meets s v longest (Some (record { end = x; long = long }))
  following_noted ends t x e p =
      let b = t.ends_by cur (rw (← e) p) in
      (f.le, (h, f.back longest long x (omega arith) (rw e b)))

  module _ (r : Option TVar) (e : (ds : List Struct) → next r ≡ next_of (held s ds) cur) where
    pub following_last : r ≡ None → (x : ℕ) → x ≡ cur + 1 → x ≤ 65536 → Meets s v longest (Some (record { end = x; long = long }))
    following_last z x y l = (f.le, (h, f.back longest long x (omega arith) (rw y (by_here cur longest (omega arith) (λ ds. sym (e ds) ∙ ap next z)))))

    pub following_on : (y : TVar) → r ≡ Some y → Following s v longest y.0 (long + 1)
    following_on y z =
        let l = f.le in
        record { le = omega arith; back = λ m n x k b. f.back (suc m) n x (omega arith) (by_step (λ ds. sym (e ds) ∙ ap next z) b) }

-- ---- noting a chain

-- where the loop stands: the chain from here ends so too
pub record Noting (s : State) (x long : ℕ) (ends : List ℕ) (cur : ℕ) : Type 0 where
  pub noted : Noted s long ends
  pub here : EndsBy s cur long x

module _ {s : State} {x long : ℕ} {ends : List ℕ} {cur : ℕ} (g : Noting s x long ends cur) (ends' : List ℕ) (e : ends' ≡ set ends cur x) where
  pub noting_done : Noted s long ends'
  noting_done = rw e (noted_set cur x g.noted g.here)

  pub noting_on : (r : Option TVar) → ((ds : List Struct) → next r ≡ next_of (held s ds) cur) → (y : TVar) → r ≡ Some y → Noting s x long ends' y.0
  noting_on r f y z = record { noted = noting_done; here = by_next y.0 g.here (λ ds. sym (f ds) ∙ ap next z) }

pub meets_end : {s : State} {v longest : ℕ} (r : Option Meeting) → Meets s v longest r → (m : Meeting) → r ≡ Some m → (longest ≤ m.long) × ((m.long ≤ s.used.vars) × EndsBy s v m.long m.end)
meets_end {s} {v} {longest} r h m z = rw z at h
