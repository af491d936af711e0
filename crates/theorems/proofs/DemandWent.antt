-- Runs that only go up: from a sound state to a sound state above it. Assumes nothing.
-- `Went` holds of no step and of one step after another; then rules for bind of runs that give a state, and the small steps.
use mathlib.Core.Path.{◌≡◌, refl, sym, ap, ◌∙◌}
use mathlib.Core.Bool.{Bool}
use mathlib.Core.List.{List, [], ◌∷◌, ◌++◌, Memᴰ}
use mathlib.Core.Logic.{inl, inr}
use Prim.Native.Nat.{ℕ, ◌<◌}
use native.Mathlib.Omega.{arith}
use lib.ListN.{length}
use Rattle.definition.specs.Types.{TypeName, AbilityMark, TypeValue, UnitType, Ref, Param, Apply, Var, Anything, UnresolvedError, Constraint, State}
use Rattle.definition.specs.Store.{count, get, with_constraints, sp, add_constraint, num_loc, need_of}
use Rattle.definition.specs.Types.{TypingError, Refusal, Result, ok, err, refused, ◌>>=◌}
use Rattle.definition.specs.Subst.{parts}
use Rattle.definition.specs.Join.{join, is_num_var}
use Rattle.definition.specs.Instantiate.{make_tvar}
use Rattle.theorems.proofs.Laws.{type_on, value_same, NeedsIn}
use Rattle.theorems.proofs.DemandTracks.{never}
use Rattle.theorems.proofs.DemandOrder.{All, Sound, Nodes, ◌⊑◌, ⊑_refl, ⊑_trans}
use Rattle.theorems.proofs.DemandSteps.{Quiet, quiet_⊑, quiet_same, NodeOk, sound_chains}
use Rattle.theorems.proofs.LawsPost.{Grown, grown_trans, Post, p_ok, p_err, p_refused, post_from, post_map, bind_post}
use Rattle.theorems.proofs.SoundRoom.{with_room, constraint_room}
use Rattle.theorems.proofs.DemandCalls.{quiet_grown, sp_post, next_tvar_post, var_ok}
use Rattle.theorems.proofs.DemandMain.{join_impl_good}
use Rattle.theorems.proofs.MetSteps.{Keeps, held_same}
use mathlib.Core.List.Memᴰ

pub record Went (ar : TypeName → ℕ) (S S' : State) : Type 0 where
  pub sound : Sound ar S'
  pub above : S ⊑ S'

-- .. with a type of the new state
pub record WentTo (ar : TypeName → ℕ) (S S' : State) (t : ℕ) : Type 0 where
  pub sound : Sound ar S'
  pub above : S ⊑ S'
  pub t_in : t < count S'

pub went_refl : {ar : TypeName → ℕ} {S : State} → Sound ar S → Went ar S S
went_refl s = record { sound = s; above = ⊑_refl s }

pub went_trans : {ar : TypeName → ℕ} {S S' S'' : State} → Sound ar S → Went ar S S' → Went ar S' S'' → Went ar S S''
went_trans s a b = record { sound = b.sound; above = ⊑_trans s a.sound b.sound a.above b.above }

pub went_of : {ar : TypeName → ℕ} {S S' : State} {t : ℕ} → WentTo ar S S' t → Went ar S S'
went_of w = record { sound = w.sound; above = w.above }

pub went_on : {ar : TypeName → ℕ} {S S' S'' : State} {t : ℕ} → Sound ar S → Went ar S S' → WentTo ar S' S'' t → WentTo ar S S'' t
went_on s a b = record { sound = b.sound; above = ⊑_trans s a.sound b.sound a.above b.above; t_in = b.t_in }

pub went_quiet : {ar : TypeName → ℕ} {S S' : State} → Sound ar S → Sound ar S' → Quiet S S' → Went ar S S'
went_quiet s s' q = record { sound = s'; above = quiet_⊑ s s' q }

-- ---- results that are a state alone

pub data PostS (ar : TypeName → ℕ) (S : State) (P : State → Type 0) : Result State → Type 0 where
  ps_ok : {s : State} → Grown S s → P s → PostS ar S P (ok s)
  ps_err : {s : State} {e : TypingError} → Grown S s → Nodes ar s → PostS ar S P (err s e)
  ps_refused : {x : Refusal} → PostS ar S P (refused x)

module _ {ar : TypeName → ℕ} where
  pub postS_from : {S S' : State} {P : State → Type 0} {m : Result State} → Grown S S' → PostS ar S' P m → PostS ar S P m
  postS_from g (ps_ok h p) = ps_ok (grown_trans g h) p
  postS_from g (ps_err h n) = ps_err (grown_trans g h) n
  postS_from g ps_refused = ps_refused

  pub postS_map : {S : State} {P Q : State → Type 0} {m : Result State} → ((s : State) → Grown S s → P s → Q s) → PostS ar S P m → PostS ar S Q m
  postS_map f (ps_ok {s = s} h p) = ps_ok h (f s h p)
  postS_map f (ps_err h n) = ps_err h n
  postS_map f ps_refused = ps_refused

  pub bindS_post : {C : Type 0} {S : State} {P : State → Type 0} {Q : State → C → Type 0} {m : Result State} (f : State → Result (State × C))
      → PostS ar S P m → ((s : State) → Grown S s → P s → Post ar s Q (f s)) → Post ar S Q (m >>= f)
  unfolding ◌>>=◌
  bindS_post f (ps_ok {s = s} h p) k = post_from h (k s h p)
  bindS_post f (ps_err h n) k = p_err h n
  bindS_post f ps_refused k = p_refused

  pub bind_postS : {B : Type 0} {S : State} {P : State → B → Type 0} {Q : State → Type 0} {m : Result (State × B)} (f : State × B → Result State)
      → Post ar S P m → ((s : State) (b : B) → Grown S s → P s b → PostS ar s Q (f (s, b))) → PostS ar S Q (m >>= f)
  unfolding ◌>>=◌
  bind_postS f (p_ok {s = s} {b = b} h p) k = postS_from h (k s b h p)
  bind_postS f (p_err h n) k = ps_err h n
  bind_postS f p_refused k = ps_refused

  pub bindS_postS : {S : State} {P Q : State → Type 0} {m : Result State} (f : State → Result State) → PostS ar S P m → ((s : State) → Grown S s → P s → PostS ar s Q (f s)) → PostS ar S Q (m >>= f)
  unfolding ◌>>=◌
  bindS_postS f (ps_ok {s = s} h p) k = postS_from h (k s h p)
  bindS_postS f (ps_err h n) k = ps_err h n
  bindS_postS f ps_refused k = ps_refused

  -- ---- the small steps

  pub sp_went : {S : State} → Sound ar S → (l : ℕ) (sh : TypeValue) → NodeOk ar S sh → Post ar S (WentTo ar S) (sp S l sh)
  sp_went s l sh o = post_map (λ S' t g p. record { sound = p.sound; above = quiet_⊑ s p.sound p.quiet; t_in = p.t_in }) (sp_post s l sh o)

  pub make_tvar_went : {S : State} → Sound ar S → (l : ℕ) → Post ar S (WentTo ar S) (make_tvar S l)
  unfolding make_tvar
  make_tvar_went s l = bind_post _ (next_tvar_post s) (λ S1 f g1 v. post_map (λ S2 t g2 w. went_on s (went_quiet s v.sound v.quiet) w) (sp_went v.sound l (Var f) (var_ok f v.f_in)))

  -- another list of constraints, on nodes
  pub quiet_list : {S : State} → Sound ar S → (cs : List Constraint) → Quiet S (with_constraints S cs)
  unfolding with_constraints get num_loc need_of is_num_var NeedsIn
  quiet_list s cs = quiet_same s (record { same_nodes = refl; same_args = refl }) (omega arith) (λ v. refl) (λ v h. h) (λ v h. refl)

  pub held_list : {S : State} → Sound ar S → (cs : List Constraint) → Keeps S (with_constraints S cs)
  unfolding with_constraints get num_loc need_of
  held_list {S} s cs = held_same S (with_constraints S cs) (λ v t e. value_same (record { same_nodes = refl; same_args = refl }) t) (λ v. refl) (λ v. refl) (λ v. refl)

  sound_list : {S : State} → Sound ar S → (cs : List Constraint) → ((c : Constraint) → Memᴰ c cs → type_on c < count S) → Sound ar (with_constraints S cs)
  unfolding with_constraints get num_loc need_of is_num_var NeedsIn
  sound_list s cs h = sound_chains s (record { same_nodes = refl; same_args = refl }) (omega arith) (λ v. refl) (record { on = h }) (λ n. n)

  pub sound_added : {S : State} → Sound ar S → (c : Constraint) → type_on c < count S → Sound ar (with_constraints S (S.constraints ++ (c ∷ [])))
  sound_added {S} s c h = sound_list s (S.constraints ++ (c ∷ [])) (λ d m. elim (Memᴰ.append_cases S.constraints m) [ inl x ↦ s.constraints_on.on d x | inr x ↦ let e : d ≡ c = Memᴰ.eq_of_singleton x in rw e h ])

  pub sound_cleared : {S : State} → Sound ar S → Sound ar (with_constraints S [])
  sound_cleared s = sound_list s [] (λ c m. absurd (Memᴰ.not-nil m))

  pub add_went : {S : State} → Sound ar S → (c : Constraint) → type_on c < count S → PostS ar S (Went ar S) (add_constraint S c)
  unfolding with_constraints
  add_went {S} s c h = with_room (PostS ar S (Went ar S)) (constraint_room S c) (λ e. ps_ok (quiet_grown (quiet_list s _) refl (held_list s _)) (went_quiet s (sound_added s c h) (quiet_list s _))) ps_refused

  pub join_went : {S : State} → Sound ar S → (l r : ℕ) → l < count S → r < count S → Post ar S (WentTo ar S) (join S l r)
  unfolding join
  join_went {S} s l r l_in r_in = post_map (λ S' t g j. record { sound = j.sound; above = j.above; t_in = j.t_in }) (join_impl_good _ S _ l r s l_in r_in)

  -- ---- nodes

  pub ref_ok : {S : State} (m : Bool) (t : ℕ) → t < count S → NodeOk ar S (Ref m t)
  unfolding parts
  ref_ok m t h = record { ok_parts = (h, tt); ok_var = λ v e. never (cc); ok_arity = λ k n ps e. never (cc) }

  pub apply_ok : {S : State} (k : AbilityMark) (n : TypeName) (ts : List ℕ) → All (λ t. t < count S) ts → length ts ≡ ar n → NodeOk ar S (Apply k n ts)
  unfolding parts
  apply_ok k n ts h e = record { ok_parts = h; ok_var = λ v e. never (cc); ok_arity = λ k' n' ps d. let c : n ≡ n' = cc in let c2 : ts ≡ ps = cc in sym (ap length c2) ∙ e ∙ ap ar c }

  pub unit_ok : {S : State} → NodeOk ar S UnitType
  unfolding parts
  unit_ok = record { ok_parts = tt; ok_var = λ v e. never (cc); ok_arity = λ k n ps e. never (cc) }

  pub any_ok : {S : State} → NodeOk ar S Anything
  unfolding parts
  any_ok = record { ok_parts = tt; ok_var = λ v e. never (cc); ok_arity = λ k n ps e. never (cc) }

  pub error_ok : {S : State} → NodeOk ar S UnresolvedError
  unfolding parts
  error_ok = record { ok_parts = tt; ok_var = λ v e. never (cc); ok_arity = λ k n ps e. never (cc) }

  pub param_ok : {S : State} (id a : ℕ) → NodeOk ar S (Param id a)
  unfolding parts
  param_ok id a = record { ok_parts = tt; ok_var = λ v e. never (cc); ok_arity = λ k n ps e. never (cc) }
