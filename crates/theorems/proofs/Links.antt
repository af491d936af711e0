-- R-9: the number of links is that of the steps from a variable to its chain's end. Assumes nothing.
use mathlib.Core.Path.{◌≡◌, refl, sym, ap, subst, ◌∙◌}
use mathlib.Core.Bool.{true}
use Rattle.std.specs.Prelude.{Option, None, Some}
use Prim.Native.Nat.{ℕ, zero, suc, ◌<◌, ◌≤◌}
use native.Mathlib.Omega.{arith}
use Rattle.definition.specs.Types.{State, Var, Result, ok, err, refused, ◌>>=◌}
use Rattle.definition.specs.Store.{taken, num_loc, need_of, next_tvar, sp}
use Rattle.definition.specs.Subst.{next_of, forward, forward_tvar, forward_links, links}
use Rattle.definition.specs.Join.{TypingCase, JoinImpl, type_of, larger, merge_num, join_tvar}
use Rattle.definition.specs.Links.{merge_opens, merge_closes}
use Rattle.definition.specs.Sound.{sound}
use Rattle.theorems.proofs.DemandTracks.{never}
use Rattle.theorems.proofs.SoundFacts.{facts}
use Rattle.theorems.proofs.LawsChains.{Within, w_here, w_hop}
use Rattle.theorems.proofs.TotalEnough.{one_more, chain_short}

some_one : {a b : ℕ} → Some a ≡ Some b → a ≡ b
some_one e = cc

-- n steps from v, from variable to variable, lead to e
pub data Steps (S : State) : ℕ → ℕ → ℕ → Type 0 where
  here : {v : ℕ} → Steps S 0 v v
  step : {n v w e : ℕ} → next_of S v ≡ Some w → Steps S n w e → Steps S (suc n) v e

pub walked : (n : ℕ) (S : State) (v : ℕ) → Steps S (forward_links n S v) v (forward n S v)
unfolding forward forward_links
walked zero S v = here
walked (suc n) S v = go (next_of S v) refl (λ w. walked n S w)
  where
    go : (m : Option ℕ) → next_of S v ≡ m → ((w : ℕ) → Steps S (forward_links n S w) w (forward n S w))
        → Steps S (elim m [ None ↦ 0 | Some w ↦ suc (forward_links n S w) ]) v (elim m [ None ↦ v | Some w ↦ forward n S w ])
    go None e f = here
    go (Some w) e f = step e (f w)

-- the end that has no next is reached by one number of steps alone
pub steps_once : {S : State} {n m v e d : ℕ} → Steps S n v e → next_of S e ≡ None → Steps S m v d → next_of S d ≡ None → n ≡ m
steps_once here z here y = refl
steps_once here z (step f q) y = never (cc)
steps_once (step g p) z here y = never (cc)
steps_once {S} (step {v = v} {w = w} g p) z (step {n = m} {w = w'} {e = d} f q) y =
    let same : w' ≡ w = some_one (sym f ∙ g) in
    ap (λ (k : ℕ). suc k) (steps_once {m = m} p z (subst (λ (x : ℕ). Steps S m x d) same q) y)

pub within_links : {S : State} {n v : ℕ} → Within S n v → (m : ℕ) → forward_links m S v ≤ n
unfolding forward_links
within_links d zero = omega arith
within_links (w_here h) (suc m) = rw (h, forward_links) (omega arith)
within_links (w_hop h d) (suc m) = let l = within_links d m in rw (h, forward_links) (omega arith)

-- in a sound state exactly so many steps lead from a taken variable to its chain's end, which has no next, and they are fewer than the variables
pub record Linked (S : State) (v n : ℕ) : Type 0 where
  pub steps : Steps S n v (forward_tvar S v)
  pub end : next_of S (forward_tvar S v) ≡ None
  pub few : n < taken S

pub links_steps : (S : State) → sound S ≡ true → (v : ℕ) → v < taken S → Linked S v (links S v)
unfolding links forward_tvar
links_steps S h v i = record {
  steps = walked (taken S) S v;
  end = (facts S h).chains v i;
  few = let k = one_more (taken S) v i in let l = within_links (chain_short (facts S h) k.0 k.1 v i) (taken S) in omega (arith, k.1);
}

-- .. and no other number does
pub links_only : (S : State) → sound S ≡ true → (v : ℕ) → v < taken S → (n e : ℕ) → Steps S n v e → next_of S e ≡ None → n ≡ links S v
links_only S h v i n e p z = let l = links_steps S h v i in steps_once p z l.steps l.end

-- ---- join_tvar is what opens a merge, the inner call, and what closes it

bind_assoc : {A B C : Type 0} (m : Result A) (f : A → Result B) (g : B → Result C) → ((m >>= f) >>= g) ≡ (m >>= λ (a : A). f a >>= g)
unfolding ◌>>=◌
bind_assoc (ok a) f g = refl
bind_assoc (err s e) f g = refl
bind_assoc (refused x) f g = refl

bind_cong : {A B : Type 0} (m : Result A) (f g : A → Result B) → ((a : A) → f a ≡ g a) → (m >>= f) ≡ (m >>= g)
unfolding ◌>>=◌
bind_cong (ok a) f g h = h a
bind_cong (err s e) f g h = refl
bind_cong (refused x) f g h = refl

pub merge_is : (join_impl : JoinImpl) (subst : State) (case : TypingCase) (loc1 id1 loc2 id2 : ℕ)
    → join_tvar join_impl subst case loc1 id1 loc2 id2
    ≡ (merge_opens subst loc1 id1 loc2 id2 >>= λ (o : State × ℕ × ℕ × ℕ × ℕ). join_impl o.0 case o.1 o.2 >>= λ (r : State × ℕ). merge_closes id1 loc2 id2 o r)
unfolding join_tvar merge_opens merge_closes ◌>>=◌
merge_is J s case loc1 id1 loc2 id2 =
    sym (bind_assoc (type_of s loc1 (forward_tvar s id1)) _ _ ∙ bind_cong (type_of s loc1 (forward_tvar s id1)) _ _ (λ a.
    bind_assoc (type_of a.0 loc2 (forward_tvar s id2)) _ _ ∙ bind_cong (type_of a.0 loc2 (forward_tvar s id2)) _ _ (λ b.
    bind_assoc (next_tvar b.0) _ _ ∙ bind_cong (next_tvar b.0) _ _ (λ c.
    bind_assoc (sp (merge_num c.0 (num_loc s (forward_tvar s id1)) (num_loc s (forward_tvar s id2)) (larger (need_of s (forward_tvar s id1)) (need_of s (forward_tvar s id2))) c.1) loc1 (Var c.1)) _ _
    ∙ bind_cong (sp (merge_num c.0 (num_loc s (forward_tvar s id1)) (num_loc s (forward_tvar s id2)) (larger (need_of s (forward_tvar s id1)) (need_of s (forward_tvar s id2))) c.1) loc1 (Var c.1)) _ _ (λ d.
    bind_assoc (sp d.0 loc2 (Var c.1)) _ _ ∙ bind_cong (sp d.0 loc2 (Var c.1)) _ _ (λ e. refl))))))
