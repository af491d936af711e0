-- R-11: KP keeps what is held of needs, and no survivor's need sinks, nor its chain end's. Assumes nothing.
use mathlib.Core.Path.{◌≡◌, refl, sym, ap, ◌∙◌}
use mathlib.Core.Bool.{true, false}
use mathlib.Core.List.{List}
use Rattle.std.specs.Prelude.{Option, None, Some}
use Prim.Native.Nat.{ℕ}
use native.Mathlib.Omega.{arith}
use native.Mathlib.Decide.{dec_lt}
use lib.ListN.{get_or-eq_default}
use Rattle.definition.specs.Types.{TypeValue, Var, Cell, unbound, State}
use Rattle.definition.specs.Store.{taken, type_at, get, num_loc, need_of}
use Rattle.definition.specs.Subst.{forward_tvar}
use Rattle.definition.specs.Join.{is_num_var}
use Rattle.definition.specs.Sound.{sound}
use Rattle.definition.specs.Demand.{FitsNeed, fits_error, fits_integer, NeedsGrowBy}
use Rattle.definition.specs.Keep.{a_node, a_variable, Kept, its_binding, its_variable, cleared, moved}
use Rattle.theorems.proofs.DemandTracks.{never}
use Rattle.theorems.proofs.MetSteps.{Holds, holds_var, holds_fit, Held, NoNeeds, Claim, is_held, is_bare, Claimed}
use Rattle.theorems.proofs.KeepReach.{TakenAll}
use Rattle.theorems.proofs.KeepSame.{through, new_node, new_var, new_binding, Same, cleared_same, nothing_else}
use Rattle.theorems.proofs.KeepSound.{need_back, bound_taken}
use Rattle.theorems.proofs.KeepReads.{moved_kept}
use Rattle.theorems.proofs.KeepDepth.{forward_left, last_kept}

num_alike : (S S' : State) (v v' : ℕ) → num_loc S' v' ≡ num_loc S v → is_num_var S' v' ≡ is_num_var S v
unfolding is_num_var
num_alike S S' v v' e = ap (λ (o : Option ℕ). elim o [ None ↦ false | Some loc ↦ true ]) e

module _ (s : State) (h : sound s ≡ true) (listed : List ℕ) (known : TakenAll s listed) where
  same : Same s listed
  same = cleared_same s h listed known

  num_kept : (w : ℕ) → Kept s listed (a_variable w) → is_num_var (cleared s listed) (new_var s listed w) ≡ is_num_var s w
  num_kept w k = num_alike s (cleared s listed) w (new_var s listed w) (same.mark_same w k)

  fits_through : {n : ℕ} {T : TypeValue} → FitsNeed n T → FitsNeed n (through (λ v. new_var s listed v) (λ t. new_node s listed t) T)
  unfolding through
  fits_through fits_error = fits_error
  fits_through (fits_integer m l) = fits_integer m l

  holds_through : (n u : ℕ) → Kept s listed (a_node u) → (T : TypeValue) → type_at s u ≡ T → Holds s n T → Holds (cleared s listed) n (through (λ v. new_var s listed v) (λ t. new_node s listed t) T)
  unfolding through
  holds_through n u k (Var w) e (holds_var p l) =
      let q = its_variable k e in
      holds_var (num_kept w q ∙ p) (omega (arith, l, same.need_same w q))
  holds_through n u k T e (holds_fit f) = holds_fit (fits_through f)

  held_at : (w v t : ℕ) → Kept s listed (a_variable w) → new_var s listed w ≡ v → Held s → is_num_var (cleared s listed) v ≡ true → get (cleared s listed) v ≡ Some t → Holds (cleared s listed) (need_of (cleared s listed) v) (type_at (cleared s listed) t)
  unfolding Held new_binding
  held_at w v t k e held n g = go (get s w) refl (sym (same.binding_same w k) ∙ ap (λ u. get (cleared s listed) u) e ∙ g)
    where
      go : (o : Option ℕ) → get s w ≡ o → new_binding s listed (get s w) ≡ Some t → Holds (cleared s listed) (need_of (cleared s listed) v) (type_at (cleared s listed) t)
      go None d f = never (let z : new_binding s listed None ≡ Some t = rw d at f in cc)
      go (Some u) d f =
          let z : new_binding s listed (Some u) ≡ Some t = rw d at f in
          let c : new_node s listed u ≡ t = cc in
          let q = its_binding k d in
          let m : is_num_var s w ≡ true = sym (num_kept w k) ∙ ap (λ x. is_num_var (cleared s listed) x) e ∙ n in
          let a : need_of (cleared s listed) v ≡ need_of s w = sym (ap (λ x. need_of (cleared s listed) x) e) ∙ same.need_same w k in
          let b : type_at (cleared s listed) t ≡ through (λ v. new_var s listed v) (λ t. new_node s listed t) (type_at s u) = sym (ap (λ x. type_at (cleared s listed) x) c) ∙ same.type_same u q in
          rw (a, b) (holds_through (need_of s w) u q (type_at s u) refl (held w u m d))

  pub keep_held : Held s → Held (cleared s listed)
  unfolding Held
  keep_held held v t n g = let a = (nothing_else s h listed known).a_kept_var v (bound_taken s h listed known v t g) in held_at a.0 v t a.1 a.2 held n g

  pub keep_bare : NoNeeds s → NoNeeds (cleared s listed)
  unfolding NoNeeds need_of
  keep_bare bare v = elim (dec_lt v (taken (cleared s listed))) [
    | yes l ↦ (let a = (nothing_else s h listed known).a_kept_var v l in need_back s h listed known v a ∙ bare a.0)
    | no l ↦ ap (λ (c : Cell). c.need) (get_or-eq_default (cleared s listed).vars unbound {n = v} (omega arith))
  ]

  pub keep_claim : (q : Claim) → Claimed q s → Claimed q (cleared s listed)
  unfolding Claimed
  keep_claim is_held c = keep_held c
  keep_claim is_bare c = keep_bare c

  -- at its new number a survivor has its mark and its need, and so has its chain's end
  pub keep_needs : NeedsGrowBy (moved s listed) s (cleared s listed)
  keep_needs = record {
    mark_stays = λ v v' i e n. let a = moved_kept s h listed known v v' e in sym (ap (λ x. is_num_var (cleared s listed) x) a.1) ∙ num_kept v a.0 ∙ n;
    own_need = λ v v' i e. let a = moved_kept s h listed known v v' e in omega (arith, same.need_same v a.0, ap (λ x. need_of (cleared s listed) x) a.1);
    end_need = λ v v' i e.
        let a = moved_kept s h listed known v v' e in
        let b : need_of (cleared s listed) (forward_tvar (cleared s listed) v') ≡ need_of s (forward_tvar s v) =
        ap (λ x. need_of (cleared s listed) (forward_tvar (cleared s listed) x)) (sym a.1) ∙ ap (λ x. need_of (cleared s listed) x) (forward_left s h listed known v a.0) ∙ same.need_same (forward_tvar s v) (last_kept s h listed known v a.0) in
        omega (arith, b);
  }
