-- The steps of a join that follow no type: a new node, a new variable, a mark, a binding. Each keeps a sound state sound, and goes up. Assumes nothing.
-- `Quiet`: the state has what it had, with the same chains, so it goes up. Each step is shown to be quiet and to keep soundness, field by field.
use mathlib.Core.Path.{◌≡◌, refl, sym, ap, ◌∙◌}
use mathlib.Core.Logic.{◌⊎◌, inl, inr}
use mathlib.Core.Bool.{true, false}
use mathlib.Core.List.{List}
use Rattle.std.specs.Prelude.{None, Some}
use Prim.Native.Nat.{ℕ, suc, ◌≤◌, ◌<◌}
use native.Mathlib.Decide.{ℕ_discrete}
use native.Mathlib.Omega.{arith}
use lib.ListN.{length}
use Rattle.definition.specs.Types.{TypeName, AbilityMark, TypeValue, UnitType, Ref, Param, Apply, Var, Anything, UnresolvedError}
use Rattle.definition.specs.Types.{State}
use Rattle.definition.specs.Store.{count, taken, node, type_at, get, insert, with_node, with_var, need_of}
use Rattle.definition.specs.Subst.{next_of, as_var, is_anything, forward_tvar, parts}
use Rattle.theorems.proofs.Laws.{PlacesIn, count_with_node, value_old, value_new, places_old, places_new, get_with_node, taken_with_node, get_beyond, get_with_var, with_var_nodes, taken_with_var}
use Rattle.theorems.proofs.Laws.{OnNodes, on_nodes, constraints_node, constraints_with_var, constraints_insert}
use Rattle.theorems.proofs.Laws.{SameNodes, value_same, count_same, places_same, get_insert_same, get_insert_other, insert_nodes, value_insert, count_insert, taken_insert, SameButMarks, NeedsIn, needs_same, is_num_same, need_with_node, num_with_node, need_with_var, num_with_var, need_insert, num_insert}
use Rattle.theorems.proofs.LawsChains.{Within, w_here, within_ends, within_more, within_same, next_agree, next_none, next_some}
use Rattle.theorems.proofs.DemandTracks.{here, ends_stop, solid}
use Rattle.theorems.proofs.DemandTracks.{never, solid_any, solid_nonvar, ends_det}
use Rattle.theorems.proofs.DemandOrder.{All, Sound, ◌⊑◌, chain_within, fits_refl, bind_solid}
use Rattle.definition.specs.Join.{is_num_var}

-- S' has what S has, and the same chains
pub record Quiet (S S' : State) : Type 0 where
  pub q_nodes : count S ≤ count S'
  pub q_kept : (i : ℕ) → i < count S → type_at S' i ≡ type_at S i
  pub q_vars : taken S ≤ taken S'
  pub q_next : (v : ℕ) → next_of S' v ≡ next_of S v
  pub q_get : (v t : ℕ) → get S v ≡ Some t → get S' v ≡ Some t
  pub q_num : (v : ℕ) → is_num_var S v ≡ true → is_num_var S' v ≡ true
  pub q_need : (v : ℕ) → v < taken S → need_of S' v ≡ need_of S v

pub quiet_refl : (S : State) → Quiet S S
quiet_refl S = record { q_nodes = omega arith; q_kept = λ i h. refl; q_vars = omega arith; q_next = λ v. refl; q_get = λ v t h. h; q_num = λ v h. h; q_need = λ v h. refl }

pub quiet_trans : {S S' S'' : State} → Quiet S S' → Quiet S' S'' → Quiet S S''
quiet_trans a b = record {
  q_nodes = omega (arith, a.q_nodes, b.q_nodes);
  q_kept = λ i h. b.q_kept i (omega (arith, a.q_nodes)) ∙ a.q_kept i h;
  q_vars = omega (arith, a.q_vars, b.q_vars);
  q_next = λ v. b.q_next v ∙ a.q_next v;
  q_get = λ v t h. b.q_get v t (a.q_get v t h);
  q_num = λ v h. b.q_num v (a.q_num v h);
  q_need = λ v h. b.q_need v (omega (arith, a.q_vars)) ∙ a.q_need v h;
}

pub quiet_⊑ : {ar : TypeName → ℕ} {S S' : State} → Sound ar S → Sound ar S' → Quiet S S' → S ⊑ S'
quiet_⊑ {S = S} {S' = S'} s s' q = record {
  more_nodes = q.q_nodes;
  kept = q.q_kept;
  more_vars = q.q_vars;
  hops = λ v w h. q.q_next v ∙ h;
  lands = λ e T g n. record {
    last = e;
    type = T;
    ends = here (q.q_next e ∙ n);
    bound = q.q_get e T g;
    fits = fits_refl s' (s'.bind_in e T (q.q_get e T g)) (bind_solid s' e T (q.q_get e T g) (q.q_next e ∙ n));
  };
  num_stays = q.q_num;
  need_stays = q.q_need;
  end_grows = λ e e' i n d. omega (arith, q.q_need e i, ap (λ (x : ℕ). need_of S' x) (ends_det (here (q.q_next e ∙ n)) d));
}

-- chains of a state as long as its variables are many, from chains of a state with no more variables
pub chains_from : (S : State) (n : ℕ) → n ≤ taken S → ((v : ℕ) → v < taken S → Within S n v) → (v : ℕ) → v < taken S → next_of S (forward_tvar S v) ≡ None
unfolding forward_tvar
chains_from S n l f v h = ends_stop (within_ends (within_more (f v h) (taken S) l))

-- ---- what a new node may be

pub record NodeOk (ar : TypeName → ℕ) (S : State) (sh : TypeValue) : Type 0 where
  pub ok_parts : All (λ p. p < count S) (parts sh)
  pub ok_var : (v : ℕ) → sh ≡ Var v → v < taken S
  pub ok_arity : (k : AbilityMark) (n : TypeName) (ps : List ℕ) → sh ≡ Apply k n ps → length ps ≡ ar n

pub quiet_node : {ar : TypeName → ℕ} {S : State} → Sound ar S → (l : ℕ) (sh : TypeValue) → Quiet S (with_node S l sh)
quiet_node {S = S} s l sh = record {
  q_nodes = omega (arith, count_with_node S l sh);
  q_kept = λ i h. value_old S l sh i h (s.places_in i h);
  q_vars = omega (arith, taken_with_node S l sh);
  q_next = λ v. next_agree S (with_node S l sh) v (get_with_node S l sh v) (λ t g. value_old S l sh t (s.bind_in v t g) (s.places_in t (s.bind_in v t g)));
  q_get = λ v t h. get_with_node S l sh v ∙ h;
  q_num = λ v h. is_num_same S (with_node S l sh) v (num_with_node S l sh v) ∙ h;
  q_need = λ v h. need_with_node S l sh v;
}

-- i is an old node, or the new one
old_or_new : (i n : ℕ) → i < suc n → (i < n) ⊎ (i ≡ n)
old_or_new i n h = elim (ℕ_discrete i n) [ yes e ↦ inr e | no d ↦ inl (omega arith) ]

pub sound_node : {ar : TypeName → ℕ} {S : State} → Sound ar S → (l : ℕ) (sh : TypeValue) → NodeOk ar S sh → Sound ar (with_node S l sh)
sound_node {ar} {S} s l sh o = record {
  places_in = λ i h. p0 i (cases i h);
  parts_below = λ i h. p1 i (cases i h);
  var_in = λ i v h e. p2 i v (cases i h) e;
  arity = λ i k n ps h e. p3 i k n ps (cases i h) e;
  bind_in = λ v t g. omega (arith, c, s.bind_in v t (sym (get_with_node S l sh v) ∙ g));
  bind_known = λ v t g. let g' : get S v ≡ Some t = sym (get_with_node S l sh v) ∙ g in rw (old t (s.bind_in v t g')) (s.bind_known v t g');
  chains = chains_from S' (taken S) (omega (arith, k)) (λ v h. within_same q.q_next (chain_within s v (omega (arith, k))));
  constraints_on = on_nodes (constraints_node S l sh) q.q_nodes s.constraints_on;
  needs_in = needs_same S S' (num_with_node S l sh) (need_with_node S l sh) s.needs_in;
}
  where
    S' : State
    S' = with_node S l sh

    q : Quiet S S'
    q = quiet_node s l sh

    c : count S' ≡ suc (count S)
    c = count_with_node S l sh

    k : taken S' ≡ taken S
    k = taken_with_node S l sh

    cases : (i : ℕ) → i < count S' → (i < count S) ⊎ (i ≡ count S)
    cases i h = old_or_new i (count S) (omega (arith, c))

    old : (i : ℕ) → i < count S → type_at S' i ≡ type_at S i
    old i h = value_old S l sh i h (s.places_in i h)

    p0 : (i : ℕ) → (i < count S) ⊎ (i ≡ count S) → PlacesIn S' (node S' i).value
    p0 i (inl h) = places_old S l sh i h (s.places_in i h)
    p0 i (inr e) = rw e (places_new S l sh)

    new : (i : ℕ) → i ≡ count S → type_at S' i ≡ sh
    new i e = rw e (value_new S l sh)

    p1 : (i : ℕ) → (i < count S) ⊎ (i ≡ count S) → All (λ p. p < i) (parts (type_at S' i))
    p1 i (inl h) = rw (old i h) (s.parts_below i h)
    p1 i (inr e) = rw (new i e) (rw e o.ok_parts)

    p2 : (i v : ℕ) → (i < count S) ⊎ (i ≡ count S) → type_at S' i ≡ Var v → v < taken S'
    p2 i v (inl h) e = omega (arith, k, s.var_in i v h (sym (old i h) ∙ e))
    p2 i v (inr d) e = omega (arith, k, o.ok_var v (sym (new i d) ∙ e))

    p3 : (i : ℕ) (k : AbilityMark) (n : TypeName) (ps : List ℕ) → (i < count S) ⊎ (i ≡ count S) → type_at S' i ≡ Apply k n ps → length ps ≡ ar n
    p3 i m n ps (inl h) e = s.arity i m n ps h (sym (old i h) ∙ e)
    p3 i m n ps (inr d) e = o.ok_arity m n ps (sym (new i d) ∙ e)

-- ---- a change of marks, or a new variable: nodes and bindings as they were

module _ {ar : TypeName → ℕ} {S S' : State} (s : Sound ar S) (same : SameNodes S S') (k : taken S ≤ taken S') (g : (v : ℕ) → get S' v ≡ get S v) where
  val : (i : ℕ) → type_at S' i ≡ type_at S i
  val i = value_same same i

  c : count S' ≡ count S
  c = count_same same

  next_same : (v : ℕ) → next_of S' v ≡ next_of S v
  next_same v = next_agree S S' v (g v) (λ t e. val t)

  pub quiet_same : ((v : ℕ) → is_num_var S v ≡ true → is_num_var S' v ≡ true) → ((v : ℕ) → v < taken S → need_of S' v ≡ need_of S v) → Quiet S S'
  quiet_same num need = record { q_nodes = omega (arith, c); q_kept = λ i h. val i; q_vars = k; q_next = next_same; q_get = λ v t h. g v ∙ h; q_num = num; q_need = need }

  pub sound_chains : OnNodes S' → (NeedsIn S → NeedsIn S') → Sound ar S'
  sound_chains o most = record {
    places_in = λ i h. places_same same i (s.places_in i (omega (arith, c)));
    parts_below = λ i h. rw (val i) (s.parts_below i (omega (arith, c)));
    var_in = λ i v h e. omega (arith, s.var_in i v (omega (arith, c)) (sym (val i) ∙ e));
    arity = λ i k n ps h e. s.arity i k n ps (omega (arith, c)) (sym (val i) ∙ e);
    bind_in = λ v t e. omega (arith, c, s.bind_in v t (sym (g v) ∙ e));
    bind_known = λ v t e. rw (val t) (s.bind_known v t (sym (g v) ∙ e));
    chains = chains_from S' (taken S) k (λ v h. go v (old v));
    constraints_on = o;
    needs_in = most s.needs_in;
  }
    where
      old : (v : ℕ) → (v < taken S) ⊎ (taken S ≤ v)
      old v = elim (native.Mathlib.Decide.dec_lt v (taken S)) [ yes e ↦ inl e | no d ↦ inr (omega arith) ]

      go : (v : ℕ) → (v < taken S) ⊎ (taken S ≤ v) → Within S' (taken S) v
      go v (inl h) = within_same (next_same) (chain_within s v h)
      go v (inr h) = w_here (next_none S' v (g v ∙ get_beyond S v h))

module _ {ar : TypeName → ℕ} {S : State} (s : Sound ar S) where
  pub quiet_var : Quiet S (with_var S)
  quiet_var = quiet_same s (with_var_nodes S) (omega (arith, taken_with_var S)) (get_with_var S) (λ v h. is_num_same S (with_var S) v (num_with_var S v) ∙ h) (λ v h. need_with_var S v)

  pub sound_var : Sound ar (with_var S)
  sound_var = sound_chains s (with_var_nodes S) (omega (arith, taken_with_var S)) (get_with_var S) (on_nodes (constraints_with_var S) quiet_var.q_nodes s.constraints_on) (needs_same S (with_var S) (num_with_var S) (need_with_var S))

  pub quiet_marks : {S' : State} → SameButMarks S S' → ((v : ℕ) → v < taken S → need_of S' v ≡ need_of S v) → Quiet S S'
  quiet_marks m need = quiet_same s m.m_nodes (omega (arith, m.m_taken)) m.m_get m.m_num need

  pub sound_marks : {S' : State} → SameButMarks S S' → Sound ar S'
  sound_marks m = sound_chains s m.m_nodes (omega (arith, m.m_taken)) m.m_get (on_nodes m.m_constraints (omega (arith, count_same m.m_nodes)) s.constraints_on) m.m_most

  -- marks on variables taken since P
  pub quiet_fresh : {P S' : State} → Quiet P S → SameButMarks S S' → ((v : ℕ) → v < taken P → need_of S' v ≡ need_of S v) → Quiet P S'
  quiet_fresh {P} {S'} q m need = record {
    q_nodes = omega (arith, q.q_nodes, count_same m.m_nodes);
    q_kept = λ i h. value_same m.m_nodes i ∙ q.q_kept i h;
    q_vars = omega (arith, q.q_vars, m.m_taken);
    q_next = λ v. next_agree S S' v (m.m_get v) (λ t e. value_same m.m_nodes t) ∙ q.q_next v;
    q_get = λ v t h. m.m_get v ∙ q.q_get v t h;
    q_num = λ v h. m.m_num v (q.q_num v h);
    q_need = λ v h. need v h ∙ q.q_need v h;
  }

-- ---- binding an unbound variable to a solid type

module _ {ar : TypeName → ℕ} {S : State} (s : Sound ar S) (v t : ℕ) (free : get S v ≡ None) (v_in : v < taken S) (t_in : t < count S) (h : solid (type_at S t) ≡ true) where
  abbrev bound : State
  bound = insert S v t

  pub bind_cases : (w u : ℕ) → get bound w ≡ Some u → ((w ≡ v) × (u ≡ t)) ⊎ (get S w ≡ Some u)
  bind_cases w u e = elim (ℕ_discrete w v) [ yes d ↦ inl (d, same d) | no d ↦ inr (sym (get_insert_other S v t w d) ∙ e) ]
    where
      same : w ≡ v → u ≡ t
      same d = let a : get bound v ≡ Some u = rw d at e in let b = get_insert_same S v t v_in in cc

  pub quiet_bind : Quiet S bound
  quiet_bind = record {
    q_nodes = omega (arith, count_insert S v t);
    q_kept = λ i l. value_insert S v t i;
    q_vars = omega (arith, taken_insert S v t);
    q_next = λ w. elim (ℕ_discrete w v) [ yes d ↦ at w d | no d ↦ next_agree S bound w (get_insert_other S v t w d) (λ u e. value_insert S v t u) ];
    q_get = λ w u e. get_insert_other S v t w (λ d. never (let a : get S v ≡ Some u = rw d at e in cc)) ∙ e;
    q_num = λ w e. is_num_same S bound w (num_insert S v t w) ∙ e;
    q_need = λ w h. need_insert S v t w;
  }
    where
      at : (w : ℕ) → w ≡ v → next_of bound w ≡ next_of S w
      at w d = rw d (next_some bound v t (get_insert_same S v t v_in) ∙ ap as_var (value_insert S v t t) ∙ solid_nonvar (type_at S t) h ∙ sym (next_none S v free))

  pub sound_bind : Sound ar bound
  unfolding is_anything
  sound_bind = record {
    places_in = λ i l. places_same (insert_nodes S v t) i (s.places_in i (omega (arith, count_insert S v t)));
    parts_below = λ i l. rw (value_insert S v t i) (s.parts_below i (omega (arith, count_insert S v t)));
    var_in = λ i w l e. omega (arith, taken_insert S v t, s.var_in i w (omega (arith, count_insert S v t)) (sym (value_insert S v t i) ∙ e));
    arity = λ i k n ps l e. s.arity i k n ps (omega (arith, count_insert S v t)) (sym (value_insert S v t i) ∙ e);
    bind_in = λ w u e. elim (bind_cases w u e) [ inl d ↦ omega (arith, d.1, count_insert S v t) | inr d ↦ omega (arith, s.bind_in w u d, count_insert S v t) ];
    bind_known = λ w u e. elim (bind_cases w u e) [ inl d ↦ rw (value_insert S v t u, d.1) (known (type_at S t) h) | inr d ↦ rw (value_insert S v t u) (s.bind_known w u d) ];
    chains = chains_from bound (taken S) (omega (arith, taken_insert S v t)) (λ w l. within_same quiet_bind.q_next (chain_within s w (omega (arith, taken_insert S v t))));
    constraints_on = on_nodes (constraints_insert S v t) quiet_bind.q_nodes s.constraints_on;
    needs_in = needs_same S bound (num_insert S v t) (need_insert S v t) s.needs_in;
  }
    where
      known : (L : TypeValue) → solid L ≡ true → is_anything L ≡ false
      known UnitType e = refl
      known (Ref a b) e = refl
      known (Param a b) e = refl
      known (Apply a b c) e = refl
      known (Var a) e = refl
      known Anything e = solid_any e refl
      known UnresolvedError e = refl
