-- Laws of following bindings word by word. Assumes nothing.
-- First the walk's steps, one law for each way to go on; then, by induction on the steps that are left, it ends just where the definition's chain does.
use mathlib.Core.Path.{◌≡◌, refl, sym, ap, ◌∙◌}
use mathlib.Core.Bool.{Bool, true, false}
use mathlib.Core.List.{List}
use Rattle.std.specs.Prelude.{Option, None, Some}
use Prim.Native.Nat.{ℕ, zero, suc, ◌-◌, ◌<◌}
use native.Mathlib.Nat.{not-suc-le-zero}
use native.Mathlib.Omega.{arith}
use native.Mathlib.Decide.{dec_lt}
use lib.Dec.{eqb}
use lib.ListN.{get_or}
use Prim.Native.Nat.{◌+◌, ◌*◌}
use borrow.Author.Tests.{lt-ltb, le-ltb}
use Rattle.std.specs.Prelude.{if◌then◌else◌}
use Rattle.definition.specs.Types.{State, Struct, Node}
use Rattle.definition.specs.Store.{nowhere, taken, node, type_at, with_args}
use Rattle.definition.specs.Subst.{as_var, next_in, next_of, forward, forward_tvar}
use Rattle.definition.specs.Sound.{chain_ends}
use Rattle.table.specs.Rows.{read_option}
use Rattle.table.specs.State.{seen}
use Rattle.table.specs.declared.Used.{Used}
use Rattle.table.proofs.Fields.{node_beyond, get_read, get_beyond}
use Rattle.sound.specs.Chains.{var_at, next_at, ends_fine, chain_fine}
use Rattle.sound_fields.proofs.Below.{when_true, when_false}
use Rattle.sound.proofs.Fields.{tag_of}
use Rattle.sound.proofs.Shapes.{as_var_tag, vars_count}
use Rattle.sound.proofs.Rowwise.{value_at}

module _ (w : List ℕ) (u : Used) where
  pub ends_none : (n v : ℕ) → next_at w u v ≡ None → ends_fine w u n v ≡ true
  unfolding ends_fine
  ends_none zero v e = rw (e, ends_fine) refl
  ends_none (suc n) v e = rw (e, ends_fine) refl

  pub ends_last : (n v x : ℕ) → n ≡ 0 → next_at w u v ≡ Some x → ends_fine w u n v ≡ false
  unfolding ends_fine
  ends_last n v x z e = rw (z, e, ends_fine) refl

  pub ends_suc : (n v x : ℕ) → next_at w u v ≡ Some x → ends_fine w u (suc n) v ≡ ends_fine w u n x
  unfolding ends_fine
  ends_suc n v x e = rw (e, ends_fine) refl

  pub ends_next : (n v x : ℕ) → next_at w u v ≡ Some x → 0 < n → ends_fine w u n v ≡ ends_fine w u (n - 1) x
  ends_next zero v x e h = absurd (not-suc-le-zero h)
  ends_next (suc n) v x e h = let z : suc n - 1 ≡ n = omega arith in rw z (ends_suc n v x e)

-- ---- the same as the definition's

no_var : (s : State) (x : ℕ) → node s x ≡ nowhere → as_var (type_at s x) ≡ None
unfolding type_at with_args as_var
no_var s x e = ap (λ (n : Node). as_var (with_args s n.value)) e

abbrev stops : Option ℕ → Bool
stops None = true
stops (Some next) = false

stops_is : (o : Option ℕ) → stops o ≡ (elim o [ None ↦ true | Some next ↦ false ])
stops_is None = refl
stops_is (Some x) = refl

stop_here : (s : State) (n v : ℕ) → next_of s v ≡ None → stops (next_of s (forward (suc n) s v)) ≡ true
unfolding forward
stop_here s n v e = rw (e, forward, e) refl

go_on : (s : State) (n v x : ℕ) → next_of s v ≡ Some x → stops (next_of s (forward (suc n) s v)) ≡ stops (next_of s (forward n s x))
unfolding forward
go_on s n v x e = rw (e, forward) refl

module _ (w : List ℕ) (u : Used) (ds : List Struct) where
  var_is : (x : ℕ) → var_at w u x ≡ as_var (type_at (seen w u ds) x)
  unfolding var_at
  var_is x = by (dec_lt x u.nodes)
    where
      by : Dec (x < u.nodes) → var_at w u x ≡ as_var (type_at (seen w u ds) x)
      by (yes h) = when_true _ _ _ (lt-ltb x u.nodes h) ∙ sym (ap as_var (value_at w u ds x h) ∙ as_var_tag (seen w u ds) _ _ _ _ _ (tag_of (get_or w (5 + x * 6) 0)))
      by (no h) = when_false _ _ _ (le-ltb x u.nodes (omega arith)) ∙ sym (no_var (seen w u ds) x (node_beyond w u ds x (omega arith)))

  next_is : (v : ℕ) → next_at w u v ≡ next_of (seen w u ds) v
  unfolding next_at next_of next_in read_option
  next_is v = by (dec_lt v u.vars)
    where
      bound : (b : Bool) (x : ℕ) → (if b then var_at w u x else None) ≡ next_in (seen w u ds) (if b then Some x else None)
      bound true x = var_is x
      bound false x = refl

      by : Dec (v < u.vars) → next_at w u v ≡ next_of (seen w u ds) v
      by (yes h) = when_true _ _ _ (lt-ltb v u.vars h) ∙ bound (eqb (get_or w (16389 + v * 5) 0) 1) (get_or w (16389 + v * 5 + 1) 0) ∙ ap (λ (o : Option ℕ). next_in (seen w u ds) o) (sym (get_read w u ds v h))
      by (no h) = when_false _ _ _ (le-ltb v u.vars (omega arith)) ∙ ap (λ (o : Option ℕ). next_in (seen w u ds) o) (sym (get_beyond w u ds v (omega arith)))

  ends_are : (n v : ℕ) → ends_fine w u n v ≡ stops (next_of (seen w u ds) (forward n (seen w u ds) v))
  unfolding ends_fine forward
  ends_are zero v = by (next_of (seen w u ds) v) refl
    where
      by : (o : Option ℕ) → next_of (seen w u ds) v ≡ o → ends_fine w u 0 v ≡ stops (next_of (seen w u ds) (forward 0 (seen w u ds) v))
      by None e = ends_none w u 0 v (next_is v ∙ e) ∙ rw (e, forward) refl
      by (Some x) e = ends_last w u 0 v x refl (next_is v ∙ e) ∙ rw (e, forward) refl
  ends_are (suc n) v = by (λ x. ends_are n x) (next_of (seen w u ds) v) refl
    where
      by : ((x : ℕ) → ends_fine w u n x ≡ stops (next_of (seen w u ds) (forward n (seen w u ds) x))) → (o : Option ℕ) → next_of (seen w u ds) v ≡ o → ends_fine w u (suc n) v ≡ stops (next_of (seen w u ds) (forward (suc n) (seen w u ds) v))
      by rec None e = ends_none w u (suc n) v (next_is v ∙ e) ∙ sym (stop_here (seen w u ds) n v e)
      by rec (Some x) e = ends_suc w u n v x (next_is v ∙ e) ∙ rec x ∙ sym (go_on (seen w u ds) n v x e)

  pub chain_is : (v : ℕ) → chain_fine w u v ≡ chain_ends (seen w u ds) v
  unfolding chain_fine chain_ends forward_tvar
  chain_is v = ends_are u.vars v ∙ ap (λ (n : ℕ). stops (next_of (seen w u ds) (forward n (seen w u ds) v))) (sym (vars_count w u ds 0)) ∙ stops_is (next_of (seen w u ds) (forward (taken (seen w u ds)) (seen w u ds) v))
