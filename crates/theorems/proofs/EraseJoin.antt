-- Chains, the join, substitution and instantiation do the same with all locations set to 0. Assumes nothing.
-- Function by function in the order of the definition; the join by induction on the depth, with the inner join taken to be alike (`Alike`).
use mathlib.Core.Path.{◌≡◌, refl, ap}
use mathlib.Core.Bool.{Bool, true, false, not, ◌&&◌, ◌||◌}
use mathlib.Core.List.{List, [], ◌∷◌}
use Rattle.std.specs.Prelude.{Option, None, Some}
use Prim.Native.Nat.{ℕ, zero, suc, ◌*◌}
use lib.Dec.{eqb}
use Rattle.definition.specs.Types.{TypeName, Multiple, Builtin, ModuleType, AbilityMark, UnitType, Ref, Param, Apply, Var, Anything, UnresolvedError, TypeValue, Spanned, State}
use Rattle.std.specs.Prelude.{if◌then◌else◌}
use Rattle.definition.specs.Types.{AbilityConstraint, BaseTypeConstraint, RecursiveType, Result}
use Rattle.definition.specs.Store.{count, taken, type_at, loc_of, spanned, get, num_loc, insert, sp, need_of, with_need}
use Rattle.definition.specs.Subst.{as_var, is_anything, parts, next_in, next_of, forward, forward_tvar, or_insert, mark_one, mark_chain, set_num_var, unfold_var, unfold_type, goes_on_to, ends_in, reaches_itself, ready_value, ready, ready_tvars}
use Rattle.definition.specs.Join.{TypingCase, Join, Subtype, is_num_var, num_shape, check_num_tvar', check_num_tvar, is_var, used, join_bind_tvar, JoinImpl, type_of, merge_num, shown, join_tvar, join_impl_types}
use Rattle.definition.specs.Join.{Arm, AnythingL, AnythingR, Units, Refs, Params, Applies, Vars, VarL, VarR, ErrorL, ErrorR, Others, arm, join_mut, join_loc, join_refs, same_name, is_multiple, same_mark, join_applies, join_unbound, join_arm, join_impl, join, subtype, larger}
use Rattle.definition.specs.TParams.{TParamSubst, arg_of, subst_value, subst_down, subst_tparams}
use Rattle.definition.specs.Instantiate.{make_tvar, tvar_constraint, struct_tparams, tparam_constraints, make_tparams, join_args, instantiate_type_args, instantiate_apply, instantiate_value, instantiate_down, instantiate}
use Rattle.theorems.proofs.Erase.{erase_spanned, erase_mark, erase_constraint, erase, count_erase, taken_erase, structs_erase, value_erase, loc_erase, spanned_erase, get_erase, num_erase, cell_set, insert_erase}
use Rattle.theorems.proofs.Erase.{Erased, er_ok, er_err, er_refused, with_state, er_bind, er_if, er_elim, er_opt, sp_erase, next_erase, add_erase, Erases, map_erase, opt_same, any_erase, all_erase, need_erase}

-- ---- chains

module _ (s : State) where
  pub next_of_erase : (v : ℕ) → next_of (erase s) v ≡ next_of s v
  unfolding next_of next_in
  next_of_erase v = rw (get_erase s v) (go (get s v))
    where
      go : (o : Option ℕ) → next_in (erase s) o ≡ next_in s o
      go None = refl
      go (Some t) = rw (value_erase s t) refl

  forward_erase : (n v : ℕ) → forward n (erase s) v ≡ forward n s v
  unfolding forward
  forward_erase zero v = refl
  forward_erase (suc n) v = opt_same (next_of s v) (next_of (erase s) v) (next_of_erase v) refl (λ next. forward_erase n next)

  pub end_erase : (v : ℕ) → forward_tvar (erase s) v ≡ forward_tvar s v
  unfolding forward_tvar
  end_erase v = rw (taken_erase s) (forward_erase (taken s) v)

  pub end_get : (v : ℕ) → get (erase s) (forward_tvar (erase s) v) ≡ get s (forward_tvar s v)
  end_get v = rw (end_erase v) (get_erase s (forward_tvar s v))

  unfold_erase : (l l' : ℕ) (o : Option ℕ) → l' ≡ 0 → unfold_var (erase s) l' o ≡ erase_spanned (unfold_var s l o)
  unfolding unfold_var
  unfold_erase l l' None z = rw z refl
  unfold_erase l l' (Some t) z = spanned_erase s t

  pub unfold_type_erase : (t : Spanned TypeValue) → unfold_type (erase s) (erase_spanned t) ≡ erase_spanned (unfold_type s t)
  unfolding unfold_type
  unfold_type_erase t = go (as_var t.value)
    where
      go : (o : Option ℕ) → ◌≡◌ {A = Spanned TypeValue} (elim o [ None ↦ erase_spanned t | Some i ↦ unfold_var (erase s) 0 (get (erase s) (forward_tvar (erase s) i)) ])
          (erase_spanned (elim o [ None ↦ t | Some i ↦ unfold_var s t.loc (get s (forward_tvar s i)) ]))
      go None = refl
      go (Some i) = rw (end_erase i, get_erase s (forward_tvar s i)) (unfold_erase t.loc 0 _ refl)

  goes_on_erase : (t : ℕ) → goes_on_to (erase s) t ≡ goes_on_to s t
  unfolding goes_on_to
  goes_on_erase t = rw (spanned_erase s t, unfold_type_erase (spanned s t)) refl

  ends_erase : (n t : ℕ) → ends_in n (erase s) t ≡ ends_in n s t
  unfolding ends_in
  ends_erase zero t = refl
  ends_erase (suc n) t = rw (goes_on_erase t) (all_erase _ _ (λ p. ends_erase n p) (goes_on_to s t))

  pub itself_erase : (t : ℕ) → reaches_itself (erase s) t ≡ reaches_itself s t
  unfolding reaches_itself
  itself_erase t = rw (count_erase s, ends_erase (count s) t) refl

-- ---- marks

mark_one_erase : (s : State) (v l l' : ℕ) → l' ≡ 0 → mark_one (erase s) v l' ≡ erase (mark_one s v l)
unfolding mark_one or_insert
mark_one_erase s v l l' z = cell_set s v _ _ (rw (get_erase s v, num_erase s v, need_erase s v, z, older (num_loc s v)) refl)
  where
    older : (o : Option ℕ) → or_insert (erase_mark o) 0 ≡ 0
    older None = refl
    older (Some l) = refl

mark_chain_erase : (n : ℕ) (s : State) (v l l' : ℕ) → l' ≡ 0 → mark_chain n (erase s) v l' ≡ erase (mark_chain n s v l)
unfolding mark_chain
mark_chain_erase zero s v l l' z = refl
mark_chain_erase (suc n) s v l l' z = go (next_of s v) (next_of (erase s) v) (next_of_erase s v) (mark_one_erase s v l l' z) (λ next. mark_chain_erase n (mark_one s v l) next l l' z)
  where
    go : (o o' : Option ℕ) → o' ≡ o → mark_one (erase s) v l' ≡ erase (mark_one s v l) → ((next : ℕ) → mark_chain n (erase (mark_one s v l)) next l' ≡ erase (mark_chain n (mark_one s v l) next l))
        → ◌≡◌ {A = State} (elim o' [ None ↦ mark_one (erase s) v l' | Some next ↦ mark_chain n (mark_one (erase s) v l') next l' ])
        (erase (elim o [ None ↦ mark_one s v l | Some next ↦ mark_chain n (mark_one s v l) next l ]))
    go None o' e m f = rw e m
    go (Some next) o' e m f = rw (e, m) (f next)

pub set_num_erase : (s : State) (v l l' : ℕ) → l' ≡ 0 → set_num_var (erase s) v l' ≡ erase (set_num_var s v l)
unfolding set_num_var
set_num_erase s v l l' z = rw (taken_erase s) (mark_chain_erase (taken s) s v l l' z)

need_set_erase : (s : State) (v n : ℕ) → with_need (erase s) v n ≡ erase (with_need s v n)
unfolding with_need
need_set_erase s v n = cell_set s v _ _ (rw (get_erase s v, num_erase s v) refl)

pub literal_erase : (s : State) (v l l' n : ℕ) → l' ≡ 0 → with_need (set_num_var (erase s) v l') v n ≡ erase (with_need (set_num_var s v l) v n)
literal_erase s v l l' n z = rw (set_num_erase s v l l' z) (need_set_erase (set_num_var s v l) v n)

pub merge_erase : (s : State) (a b : Option ℕ) (n v : ℕ) → merge_num (erase s) (erase_mark a) (erase_mark b) n v ≡ erase (merge_num s a b n v)
unfolding merge_num
merge_erase s None None n v = refl
merge_erase s (Some l) None n v = literal_erase s v l 0 n refl
merge_erase s None (Some l) n v = literal_erase s v l 0 n refl
merge_erase s (Some k) (Some l) n v = literal_erase s v l 0 n refl

-- ---- RD

ready_value_erase : (f : State → ℕ → Result (State × ℕ)) → Erases f → (s : State) (t l l' : ℕ) → l' ≡ 0 → (x : TypeValue) → Erased with_state (ready_value f s t l x) (ready_value f (erase s) t l' x)
unfolding ready_value
ready_value_erase f r s t l l' z UnitType = er_ok refl
ready_value_erase f r s t l l' z UnresolvedError = er_ok refl
ready_value_erase f r s t l l' z Anything = er_ok refl
ready_value_erase f r s t l l' z (Param id a) = er_ok refl
ready_value_erase f r s t l l' z (Ref m p) = er_bind _ _ (r s p) (λ x. sp_erase x.0 l l' (Ref m x.1) z)
ready_value_erase f r s t l l' z (Apply k n tys) = er_bind _ _ (map_erase f r tys s) (λ x. sp_erase x.0 l l' (Apply k n x.1) z)
ready_value_erase f r s t l l' z (Var i) = er_opt (get s (forward_tvar s i)) (get (erase s) (forward_tvar (erase s) i)) (end_get s i) (rw (end_erase s i) (sp_erase s l l' (Var (forward_tvar s i)) z)) (λ p. r s p)

ready_erase : (n : ℕ) → Erases (ready n)
unfolding ready
ready_erase zero s t = er_refused
ready_erase (suc n) s t = rw (value_erase s t) (ready_value_erase (λ s t. ready n s t) (λ s t. ready_erase n s t) s t (loc_of s t) (loc_of (erase s) t) (loc_erase s t) (type_at s t))

pub ready_tvars_erase : Erases ready_tvars
unfolding ready_tvars
ready_tvars_erase s t = er_elim (reaches_itself s t) (reaches_itself (erase s) t) (itself_erase s t) er_refused (rw (count_erase s) (ready_erase (2 * count s) s t))

-- ---- the numeric check and the occurs walk

module _ (s : State) where
  num_var_erase : (v : ℕ) → is_num_var (erase s) v ≡ is_num_var s v
  unfolding is_num_var
  num_var_erase v = go (num_loc s v) (num_loc (erase s) v) (num_erase s v)
    where
      go : (o o' : Option ℕ) → o' ≡ erase_mark o → ◌≡◌ {A = Bool} (elim o' [ None ↦ false | Some l ↦ true ]) (elim o [ None ↦ false | Some l ↦ true ])
      go None o' e = rw e refl
      go (Some l) o' e = rw e refl

  check'_erase : (n t : ℕ) → check_num_tvar' (erase s) n t ≡ check_num_tvar' s n t
  unfolding check_num_tvar'
  check'_erase n t = opt_same (as_var (type_at s t)) (as_var (type_at (erase s) t)) (ap as_var (value_erase s t)) (ap (num_shape n) (value_erase s t)) (λ v.
      opt_same (get s (forward_tvar s v)) (get (erase s) (forward_tvar (erase s) v)) (end_get s v) (rw (end_erase s v) (num_var_erase (forward_tvar s v))) (λ u. ap (num_shape n) (value_erase s u)))

  check_erase : (v t : ℕ) → check_num_tvar (erase s) v t ≡ check_num_tvar s v t
  unfolding check_num_tvar
  check_erase v t = rw (num_var_erase v, need_erase s v, check'_erase (need_of s v) t) refl

  used_erase : (n v t : ℕ) → used n (erase s) v t ≡ used n s v t
  unfolding used
  used_erase zero v t = refl
  used_erase (suc n) v t = rw (value_erase s t) (ap (λ b. is_var v (type_at s t) || b) (any_erase _ _ (λ p. used_erase n v p) (parts (type_at s t))))

bind_erase : (s : State) (l l' v t : ℕ) → l' ≡ 0 → Erased with_state (join_bind_tvar s l v t) (join_bind_tvar (erase s) l' v t)
unfolding join_bind_tvar
bind_erase s l l' v t z =
    er_if (not (check_num_tvar s v t)) _ (ap not (check_erase s v t)) (er_ok refl)
    (er_if (used (suc t) s v t) _ (used_erase s (suc t) v t) (er_err refl (rw z refl))
    (er_if (is_anything (type_at s t)) _ (ap is_anything (value_erase s t)) (er_ok refl) (er_ok (rw (insert_erase s v t) refl))))

-- ---- the merge

pub type_of_erase : (s : State) (l l' v : ℕ) → l' ≡ 0 → Erased with_state (type_of s l v) (type_of (erase s) l' v)
unfolding type_of
type_of_erase s l l' v z = er_opt (get s v) _ (get_erase s v) (sp_erase s l l' Anything z) (λ t. er_ok refl)

shown_erase : (s : State) (t v : ℕ) → Erased with_state (shown s t v) (shown (erase s) t v)
unfolding shown
shown_erase s t v = er_if (is_anything (type_at s t)) _ (ap is_anything (value_erase s t)) (sp_erase s (loc_of s t) (loc_of (erase s) t) (Var v) (loc_erase s t)) (er_ok refl)

pub sp_from : (s s' : State) → s' ≡ erase s → (l l' : ℕ) (x : TypeValue) → l' ≡ 0 → Erased with_state (sp s l x) (sp s' l' x)
sp_from s s' e l l' x z = rw e (sp_erase s l l' x z)

pub both_bound : (s : State) (v t w u : ℕ) → insert (insert (erase s) v t) w u ≡ erase (insert (insert s v t) w u)
both_bound s v t w u = rw (insert_erase s v t) (insert_erase (insert s v t) w u)

join_loc_0 : (c : TypingCase) (a b : Bool) (l1 l2 : ℕ) → l1 ≡ 0 → l2 ≡ 0 → join_loc c a b l1 l2 ≡ 0
unfolding join_loc
join_loc_0 Join a b l1 l2 p q = go (not a && b)
  where
    go : (x : Bool) → (if x then l1 else l2) ≡ 0
    go true = p
    go false = q
join_loc_0 Subtype a b l1 l2 p q = q

-- the inner join is the same with locations set to 0
abbrev Alike : JoinImpl → Type 0
Alike j = (s : State) (c : TypingCase) (l r : ℕ) → Erased with_state (j s c l r) (j (erase s) c l r)

module _ (j : JoinImpl) (r : Alike j) where
  inner_from : (s s' : State) → s' ≡ erase s → (c : TypingCase) (t u : ℕ) → Erased with_state (j s c t u) (j s' c t u)
  inner_from s s' e c t u = rw e (r s c t u)

  tvar_erase : (s : State) (c : TypingCase) (l1 l1' id1 l2 l2' id2 : ℕ) → l1' ≡ 0 → l2' ≡ 0 → Erased with_state (join_tvar j s c l1 id1 l2 id2) (join_tvar j (erase s) c l1' id1 l2' id2)
  unfolding join_tvar
  tvar_erase s c l1 l1' id1 l2 l2' id2 z1 z2 = rw (end_erase s id1, end_erase s id2, num_erase s (forward_tvar s id1), num_erase s (forward_tvar s id2), need_erase s (forward_tvar s id1), need_erase s (forward_tvar s id2)) (
      let need = larger (need_of s (forward_tvar s id1)) (need_of s (forward_tvar s id2)) in
      let end1 = forward_tvar s id1 in
      let end2 = forward_tvar s id2 in
      er_bind _ _ (type_of_erase s l1 l1' end1 z1) (λ x1.
      er_bind _ _ (type_of_erase x1.0 l2 l2' end2 z2) (λ x2.
      er_bind _ _ (next_erase x2.0) (λ x3.
      er_bind _ _ (sp_from (merge_num x3.0 (num_loc s end1) (num_loc s end2) need x3.1) _ (merge_erase x3.0 (num_loc s end1) (num_loc s end2) need x3.1) l1 l1' (Var x3.1) z1) (λ x4.
      er_bind _ _ (sp_erase x4.0 l2 l2' (Var x3.1) z2) (λ x5.
      er_bind _ _ (inner_from (insert (insert x5.0 end1 x4.1) end2 x5.1) _ (both_bound x5.0 end1 x4.1 end2 x5.1) c x1.1 x2.1) (λ x6.
      er_opt (get x6.0 x3.1) _ (get_erase x6.0 x3.1)
      (er_bind _ _ (bind_erase x6.0 l2 l2' x3.1 x6.1 z2) (λ x7. er_if x7.1 _ refl (er_ok refl) (
      er_bind _ _ (shown_erase x7.0 x1.1 id1) (λ x8. er_bind _ _ (shown_erase x8.0 x2.1 id2) (λ x9. er_err refl refl)))))
      (λ t. er_err refl (ap RecursiveType (loc_erase x6.0 t))))))))))

  tvar_from : (s s' : State) → s' ≡ erase s → (c : TypingCase) (l1 l1' id1 l2 l2' id2 : ℕ) → l1' ≡ 0 → l2' ≡ 0 → Erased with_state (join_tvar j s c l1 id1 l2 id2) (join_tvar j s' c l1' id1 l2' id2)
  tvar_from s s' e c l1 l1' id1 l2 l2' id2 z1 z2 = rw e (tvar_erase s c l1 l1' id1 l2 l2' id2 z1 z2)

  types_erase : (s : State) (c : TypingCase) (ts us : List ℕ) → Erased with_state (join_impl_types j s c ts us) (join_impl_types j (erase s) c ts us)
  unfolding join_impl_types
  types_erase s c [] us = er_ok refl
  types_erase s c (t ∷ ts) [] = er_ok refl
  types_erase s c (t ∷ ts) (u ∷ us) = er_bind _ _ (r s c t u) (λ x. er_bind _ _ (types_erase x.0 c ts us) (λ y. er_ok refl))

  module _ (s : State) (c : TypingCase) (lhs rhs : ℕ) where
    refs_erase : (m1 : Bool) (t1 : ℕ) (m2 : Bool) (t2 : ℕ) (o : Option Bool) → Erased with_state (join_refs j s c lhs rhs m1 t1 m2 t2 o) (join_refs j (erase s) c lhs rhs m1 t1 m2 t2 o)
    unfolding join_refs
    refs_erase m1 t1 m2 t2 None = er_err refl refl
    refs_erase m1 t1 m2 t2 (Some m) = er_bind _ _ (r s c t1 t2) (λ x. sp_erase x.0 _ _ (Ref m x.1) (join_loc_0 c m1 m2 _ _ (loc_erase s lhs) (loc_erase s rhs)))

    applies_erase : (k1 : AbilityMark) (n1 : TypeName) (ts1 : List ℕ) (k2 : AbilityMark) (n2 : TypeName) (ts2 : List ℕ) → Erased with_state (join_applies j s c lhs rhs k1 n1 ts1 k2 n2 ts2) (join_applies j (erase s) c lhs rhs k1 n1 ts1 k2 n2 ts2)
    unfolding join_applies
    applies_erase k1 n1 ts1 k2 n2 ts2 =
        er_if (is_multiple n1 && is_multiple n2 && not (same_name n1 n2)) _ refl (er_err refl refl)
        (er_if (not (same_name n1 n2)) _ refl (er_err refl refl)
        (er_if (not (same_mark k1 k2)) _ refl er_refused
        (er_bind _ _ (types_erase s c ts1 ts2) (λ x. sp_erase x.0 (loc_of s rhs) _ (Apply k2 n2 x.1) (loc_erase s rhs)))))

    unbound_erase : (var id other : ℕ) → Erased with_state (join_unbound s lhs rhs var id other) (join_unbound (erase s) lhs rhs var id other)
    unfolding join_unbound
    unbound_erase var id other = er_bind _ _ (bind_erase s (loc_of s var) _ id other (loc_erase s var)) (λ x. er_if x.1 _ refl (er_ok refl) (er_err refl refl))

    arm_erase : (a : Arm) → Erased with_state (join_arm j s c lhs rhs a) (join_arm j (erase s) c lhs rhs a)
    unfolding join_arm
    arm_erase AnythingL = er_ok refl
    arm_erase AnythingR = er_ok refl
    arm_erase Units = er_ok refl
    arm_erase (Refs m1 t1 m2 t2) = refs_erase m1 t1 m2 t2 (join_mut c m1 m2)
    arm_erase (Params id1 id2) = er_if (eqb id1 id2) _ refl (er_ok refl) (er_err refl refl)
    arm_erase (Applies k1 n1 ts1 k2 n2 ts2) = applies_erase k1 n1 ts1 k2 n2 ts2
    arm_erase (Vars id1 id2) = er_if (eqb id1 id2) _ refl (er_ok refl) (tvar_erase s c (loc_of s lhs) _ id1 (loc_of s rhs) _ id2 (loc_erase s lhs) (loc_erase s rhs))
    arm_erase (VarL id) = er_opt (get s id) _ (get_erase s id) (unbound_erase lhs id rhs) (λ t. er_bind _ _ (next_erase s) (λ x.
        tvar_from (insert x.0 x.1 rhs) _ (insert_erase x.0 x.1 rhs) c _ _ id _ _ x.1 (loc_erase x.0 lhs) (loc_erase x.0 rhs)))
    arm_erase (VarR id) = er_opt (get s id) _ (get_erase s id) (unbound_erase rhs id lhs) (λ t. er_bind _ _ (next_erase s) (λ x.
        tvar_from (insert x.0 x.1 lhs) _ (insert_erase x.0 x.1 lhs) c _ _ x.1 _ _ id (loc_erase x.0 lhs) (loc_erase x.0 rhs)))
    arm_erase ErrorL = er_ok refl
    arm_erase ErrorR = er_ok refl
    arm_erase Others = er_err refl refl

pub join_impl_erase : (n : ℕ) → Alike (join_impl n)
unfolding join_impl
join_impl_erase zero s c l r = er_refused
join_impl_erase (suc n) s c l r = rw (value_erase s l, value_erase s r) (arm_erase (λ s c l r. join_impl n s c l r) (λ s c l r. join_impl_erase n s c l r) s c l r (arm (type_at s l) (type_at s r)))

pub join_erase : (s : State) (l r : ℕ) → Erased with_state (join s l r) (join (erase s) l r)
unfolding join
join_erase s l r = join_impl_erase _ s Join l r

pub subtype_erase : (s : State) (l r : ℕ) → Erased with_state (subtype s l r) (subtype (erase s) l r)
unfolding subtype
subtype_erase s l r = join_impl_erase _ s Subtype l r

-- ---- TS

subst_value_erase : (f : State → ℕ → Result (State × ℕ)) → Erases f → (ps : TParamSubst) (s : State) (t l l' : ℕ) → l' ≡ 0 → (x : TypeValue) → Erased with_state (subst_value f ps s t l x) (subst_value f ps (erase s) t l' x)
unfolding subst_value
subst_value_erase f r ps s t l l' z UnitType = er_ok refl
subst_value_erase f r ps s t l l' z UnresolvedError = er_ok refl
subst_value_erase f r ps s t l l' z Anything = er_ok refl
subst_value_erase f r ps s t l l' z (Var v) = er_refused
subst_value_erase f r ps s t l l' z (Ref m p) = er_bind _ _ (r s p) (λ x. sp_erase x.0 l l' (Ref m x.1) z)
subst_value_erase f r ps s t l l' z (Param id a) = er_opt (arg_of ps id) _ refl er_refused (λ p. er_ok refl)
subst_value_erase f r ps s t l l' z (Apply k n tys) = er_bind _ _ (map_erase f r tys s) (λ x. sp_erase x.0 l l' (Apply k n x.1) z)

subst_down_erase : (n : ℕ) (ps : TParamSubst) → Erases (subst_down n ps)
unfolding subst_down
subst_down_erase zero ps s t = er_refused
subst_down_erase (suc n) ps s t = rw (value_erase s t) (subst_value_erase (λ s t. subst_down n ps s t) (λ s t. subst_down_erase n ps s t) ps s t (loc_of s t) _ (loc_erase s t) (type_at s t))

pub subst_erase : (ps : TParamSubst) → Erases (subst_tparams ps)
unfolding subst_tparams
subst_erase ps s t = subst_down_erase (suc t) ps s t

-- ---- IN

make_tvar_erase : (s : State) (l l' : ℕ) → l' ≡ 0 → Erased with_state (make_tvar s l) (make_tvar (erase s) l')
unfolding make_tvar
make_tvar_erase s l l' z = er_bind _ _ (next_erase s) (λ x. sp_erase x.0 l l' (Var x.1) z)

tvar_constraint_erase : (n : TypeName) (l l' t : ℕ) → l' ≡ 0 → tvar_constraint n l' t ≡ erase_constraint (tvar_constraint n l t)
unfolding tvar_constraint
tvar_constraint_erase (Multiple n) l l' t z = rw z refl
tvar_constraint_erase (Builtin b) l l' t z = rw z refl
tvar_constraint_erase (ModuleType n) l l' t z = rw z refl

tparam_constraints_erase : (s : State) (n : TypeName) → tparam_constraints (erase s) n ≡ tparam_constraints s n
unfolding tparam_constraints struct_tparams
tparam_constraints_erase s (Multiple n) = refl
tparam_constraints_erase s (Builtin b) = refl
tparam_constraints_erase s (ModuleType n) = rw (structs_erase s) refl

make_tparams_erase : (s : State) (l l' : ℕ) → l' ≡ 0 → (n : TypeName) (tys cs : List ℕ) → Erased with_state (make_tparams s l n tys cs) (make_tparams (erase s) l' n tys cs)
unfolding make_tparams
make_tparams_erase s l l' z n [] cs = er_ok refl
make_tparams_erase s l l' z n (t ∷ tys) [] = er_ok refl
make_tparams_erase s l l' z n (t ∷ tys) (c ∷ cs) =
    er_bind _ _ (make_tvar_erase s (loc_of s t) _ (loc_erase s t)) (λ x.
    er_bind _ _ (add_erase x.0 (AbilityConstraint l x.1 c) _ (rw z refl)) (λ s1.
    er_bind _ _ (add_erase s1 (tvar_constraint n l x.1) _ (tvar_constraint_erase n l l' x.1 z)) (λ s2.
    er_bind _ _ (make_tparams_erase s2 l l' z n tys cs) (λ y. er_ok refl))))

join_args_erase : (s : State) (vs ts : List ℕ) → Erased with_state (join_args s vs ts) (join_args (erase s) vs ts)
unfolding join_args
join_args_erase s [] ts = er_ok refl
join_args_erase s (v ∷ vs) [] = er_ok refl
join_args_erase s (v ∷ vs) (t ∷ ts) = er_bind _ _ (join_erase s v t) (λ x. er_bind _ _ (join_args_erase x.0 vs ts) (λ y. er_ok refl))

instantiate_value_erase : (f : State → ℕ → Result (State × ℕ)) → Erases f → (s : State) (t l l' : ℕ) → l' ≡ 0 → (x : TypeValue) → Erased with_state (instantiate_value f s t l x) (instantiate_value f (erase s) t l' x)
unfolding instantiate_value instantiate_apply instantiate_type_args
instantiate_value_erase f r s t l l' z UnitType = er_ok refl
instantiate_value_erase f r s t l l' z UnresolvedError = er_ok refl
instantiate_value_erase f r s t l l' z Anything = make_tvar_erase s l l' z
instantiate_value_erase f r s t l l' z (Ref m p) = er_bind _ _ (add_erase s (BaseTypeConstraint l p) _ (rw z refl)) (λ s1. er_bind _ _ (r s1 p) (λ x. sp_erase x.0 l l' (Ref m x.1) z))
instantiate_value_erase f r s t l l' z (Apply k n tys) = rw (tparam_constraints_erase s n) (
    er_bind _ _ (er_bind _ _ (make_tparams_erase s l l' z n tys (tparam_constraints s n)) (λ x. er_bind _ _ (map_erase f r tys x.0) (λ y. join_args_erase y.0 x.1 y.1))) (λ x. sp_erase x.0 l l' (Apply k n x.1) z))
instantiate_value_erase f r s t l l' z (Param id a) = er_ok refl
instantiate_value_erase f r s t l l' z (Var v) = er_refused

instantiate_down_erase : (n : ℕ) → Erases (instantiate_down n)
unfolding instantiate_down
instantiate_down_erase zero s t = er_refused
instantiate_down_erase (suc n) s t = rw (value_erase s t) (instantiate_value_erase (λ s t. instantiate_down n s t) (λ s t. instantiate_down_erase n s t) s t (loc_of s t) _ (loc_erase s t) (type_at s t))

pub instantiate_erase : Erases instantiate
unfolding instantiate
instantiate_erase s t = instantiate_down_erase (suc t) s t
