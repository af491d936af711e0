-- The arms of join_impl, and the main lemma: a join goes up, and its result is above both its operands. Assumes nothing.
-- First which arm two types take (`took`), then each arm as a lemma over the inner join, which is taken to be good; at the end the induction on the depth.
use mathlib.Core.Path.{◌≡◌, refl, sym, ap, ◌∙◌, subst}
use mathlib.Core.Bool.{Bool, true, false}
use mathlib.Core.List.{List, [], ◌∷◌}
use Rattle.std.specs.Prelude.{Option, None, Some}
use Prim.Native.Nat.{ℕ, zero, suc, ◌≤◌, ◌<◌}
use native.Mathlib.Omega.{arith}
use lib.ListN.{length}
use Rattle.definition.specs.Types.{TypeName, AbilityMark, TypeValue, UnitType, Ref, Param, Apply, Var, Anything, UnresolvedError}
use Rattle.definition.specs.Types.{State}
use Rattle.definition.specs.Store.{count, type_at, get}
use Rattle.definition.specs.Subst.{as_var, parts}
use Rattle.theorems.proofs.Laws.{get_insert_same, taken_insert, structs_insert}
use Rattle.theorems.proofs.LawsChains.{next_none}
use Rattle.theorems.proofs.DemandTracks.{here, ends_stop, ends_det, head_solid_r, Head, h_unit, h_ref, h_param, h_apply, solid, r_self, r_var, LeMut}
use Rattle.theorems.proofs.DemandTracks.{Tracks, t_any, t_var, t_fit, Fits, f_err, f_node, TracksAll, ta_nil, ta_cons}
use Rattle.theorems.proofs.DemandTracks.{never, solid_nonvar, nonvar_var}
use Rattle.theorems.proofs.DemandOrder.{All, All_map, Sound, ◌⊑◌, chain, fits_refl}
use mathlib.Core.Bool.{not, ◌&&◌}
use Rattle.definition.specs.Types.{ok, Multiple, Builtin, ModuleType}
use Rattle.definition.specs.Store.{loc_of}
use Rattle.definition.specs.Join.{TypingCase, Join, Subtype, JoinImpl, join_impl_types, join_mut, join_loc, join_refs, same_name, same_mark, is_multiple, join_applies, join_unbound, join_arm, join_impl}
use Rattle.definition.specs.Join.{Arm, AnythingL, AnythingR, Units, Refs, Params, Applies, Vars, VarL, VarR, ErrorL, ErrorR, Others, arm}
use Rattle.theorems.proofs.DemandOrder.{⊑_refl, ⊑_trans, nodes_of, tracks_refl, tracks_keep, all_keep}
use Rattle.theorems.proofs.DemandSteps.{quiet_trans, quiet_⊑, quiet_bind, sound_bind}
use Rattle.theorems.proofs.LawsPost.{grown_refl, Post, p_ok, p_err, p_refused, post_from, post_map, bind_post, if_post, opt_post}
use Rattle.theorems.proofs.DemandCalls.{quiet_grown, sp_post, next_tvar_post, join_bind_tvar_post, Joined, Good, join_tvar_post}
use Rattle.theorems.proofs.SoundFacts.{not_false}
use lib.Dec.{eqb, eqb→eq, T}
use Rattle.theorems.proofs.MetSteps.{held_insert}

-- ---- which arm two types take

pub data Took (L R : TypeValue) : Arm → Type 0 where
  took_any_l : L ≡ Anything → Took L R AnythingL
  took_any_r : R ≡ Anything → Took L R AnythingR
  took_units : L ≡ UnitType → R ≡ UnitType → Took L R Units
  took_refs : {m1 m2 : Bool} {t1 t2 : ℕ} → L ≡ Ref m1 t1 → R ≡ Ref m2 t2 → Took L R (Refs m1 t1 m2 t2)
  took_params : {id1 a1 id2 a2 : ℕ} → L ≡ Param id1 a1 → R ≡ Param id2 a2 → Took L R (Params id1 id2)
  took_applies : {k1 k2 : AbilityMark} {n1 n2 : TypeName} {tys1 tys2 : List ℕ} → L ≡ Apply k1 n1 tys1 → R ≡ Apply k2 n2 tys2 → Took L R (Applies k1 n1 tys1 k2 n2 tys2)
  took_vars : {id1 id2 : ℕ} → L ≡ Var id1 → R ≡ Var id2 → Took L R (Vars id1 id2)
  took_var_l : {id : ℕ} → L ≡ Var id → solid R ≡ true → Took L R (VarL id)
  took_var_r : {id : ℕ} → solid L ≡ true → R ≡ Var id → Took L R (VarR id)
  took_error_l : L ≡ UnresolvedError → solid R ≡ true → Took L R ErrorL
  took_error_r : solid L ≡ true → R ≡ UnresolvedError → Took L R ErrorR
  took_others : Took L R Others

pub took : (L R : TypeValue) → Took L R (arm L R)
unfolding arm
took Anything rhs = took_any_l refl
took UnitType Anything = took_any_r refl
took UnitType UnitType = took_units refl refl
took UnitType (Ref m t) = took_others
took UnitType (Param id a) = took_others
took UnitType (Apply k n tys) = took_others
took UnitType (Var v) = took_var_r refl refl
took UnitType UnresolvedError = took_error_r refl refl
took (Ref mut1 t1) Anything = took_any_r refl
took (Ref mut1 t1) UnitType = took_others
took (Ref mut1 t1) (Ref mut2 t2) = took_refs refl refl
took (Ref mut1 t1) (Param id a) = took_others
took (Ref mut1 t1) (Apply k n tys) = took_others
took (Ref mut1 t1) (Var v) = took_var_r refl refl
took (Ref mut1 t1) UnresolvedError = took_error_r refl refl
took (Param id1 a1) Anything = took_any_r refl
took (Param id1 a1) UnitType = took_others
took (Param id1 a1) (Ref m t) = took_others
took (Param id1 a1) (Param id2 a2) = took_params refl refl
took (Param id1 a1) (Apply k n tys) = took_others
took (Param id1 a1) (Var v) = took_var_r refl refl
took (Param id1 a1) UnresolvedError = took_error_r refl refl
took (Apply k1 n1 tys1) Anything = took_any_r refl
took (Apply k1 n1 tys1) UnitType = took_others
took (Apply k1 n1 tys1) (Ref m t) = took_others
took (Apply k1 n1 tys1) (Param id a) = took_others
took (Apply k1 n1 tys1) (Apply k2 n2 tys2) = took_applies refl refl
took (Apply k1 n1 tys1) (Var v) = took_var_r refl refl
took (Apply k1 n1 tys1) UnresolvedError = took_error_r refl refl
took (Var id1) Anything = took_any_r refl
took (Var id1) UnitType = took_var_l refl refl
took (Var id1) (Ref m t) = took_var_l refl refl
took (Var id1) (Param id a) = took_var_l refl refl
took (Var id1) (Apply k n tys) = took_var_l refl refl
took (Var id1) (Var id2) = took_vars refl refl
took (Var id1) UnresolvedError = took_var_l refl refl
took UnresolvedError Anything = took_any_r refl
took UnresolvedError UnitType = took_error_l refl refl
took UnresolvedError (Ref m t) = took_error_l refl refl
took UnresolvedError (Param id a) = took_error_l refl refl
took UnresolvedError (Apply k n tys) = took_error_l refl refl
took UnresolvedError (Var v) = took_var_r refl refl
took UnresolvedError UnresolvedError = took_error_l refl refl

-- ---- tests

pub eq_of : (a b : ℕ) → eqb a b ≡ true → a ≡ b
eq_of a b e = eqb→eq a b (subst (λ (x : Bool). T x) (sym e) tt)

pub name_of : (n1 n2 : TypeName) → same_name n1 n2 ≡ true → n1 ≡ n2
unfolding same_name
name_of (Multiple a) (Multiple b) e = ap Multiple (eq_of a b e)
name_of (Multiple a) (Builtin b) e = never (cc)
name_of (Multiple a) (ModuleType b) e = never (cc)
name_of (Builtin a) (Multiple b) e = never (cc)
name_of (Builtin a) (Builtin b) e = ap Builtin (eq_of a b e)
name_of (Builtin a) (ModuleType b) e = never (cc)
name_of (ModuleType a) (Multiple b) e = never (cc)
name_of (ModuleType a) (Builtin b) e = never (cc)
name_of (ModuleType a) (ModuleType b) e = ap ModuleType (eq_of a b e)

mark_of : (k1 k2 : AbilityMark) → same_mark k1 k2 ≡ true → k1 ≡ k2
unfolding same_mark
mark_of None None e = refl
mark_of None (Some b) e = never (cc)
mark_of (Some a) None e = never (cc)
mark_of (Some a) (Some b) e = ap {B = AbilityMark} Some (eq_of a b e)

mut_of : (c : TypingCase) (m1 m2 m : Bool) → join_mut c m1 m2 ≡ Some m → LeMut m1 m × LeMut m2 m
unfolding join_mut
mut_of Join true true m e = (tt, tt)
mut_of Join true false m e = let d : m ≡ false = cc in rw d (tt, tt)
mut_of Join false m2 m e = let d : m ≡ false = cc in rw d (tt, imm m2)
  where
    imm : (b : Bool) → LeMut b false
    imm true = tt
    imm false = tt
mut_of Subtype true false m e = let d : m ≡ false = cc in rw d (tt, tt)
mut_of Subtype false false m e = let d : m ≡ false = cc in rw d (tt, tt)
mut_of Subtype true true m e = (tt, tt)
mut_of Subtype false true m e = never (cc)

-- ---- tracks, from what the types are

pub fits_of : {S : State} (x t : ℕ) {L R : TypeValue} → type_at S x ≡ L → type_at S t ≡ R → Head L R → TracksAll S (parts L) (parts R) → Fits S x t
fits_of {S} x t {L} {R} ex et h ts = f_node {x = x} {t = t} (rw (ex, et) h) (rw (ex, et) ts)

pub tracks_of : {S : State} (x t : ℕ) {L R : TypeValue} → type_at S x ≡ L → type_at S t ≡ R → Head L R → TracksAll S (parts L) (parts R) → Tracks S x t
tracks_of {S} x t {L} {R} ex et h ts = t_fit (r_self {r = t} (rw et (solid_nonvar R (head_solid_r h)))) (fits_of x t ex et h ts)

head_param : (i j a b : ℕ) → i ≡ j → Head (Param i a) (Param j b)
head_param i j a b e = rw e h_param

head_apply : (k k' : AbilityMark) (n n' : TypeName) (ps qs : List ℕ) → k ≡ k' → n ≡ n' → Head (Apply k n ps) (Apply k' n' qs)
head_apply k k' n n' ps qs e d = rw (e, d) h_apply

all_length : {S : State} {xs rs : List ℕ} → TracksAll S xs rs → length xs ≡ length rs
all_length ta_nil = refl
all_length (ta_cons t ts) = ap suc (all_length ts)

-- ---- join_impl_types

pub record JoinedAll (ar : TypeName → ℕ) (S : State) (ls rs : List ℕ) (S' : State) (ts : List ℕ) : Type 0 where
  pub sound : Sound ar S'
  pub above : S ⊑ S'
  pub ts_in : All (λ t. t < count S') ts
  pub left : TracksAll S' ls ts
  pub right : TracksAll S' rs ts

pub in_later : {a b : ℕ} → a ≤ b → (ps : List ℕ) → All (λ p. p < a) ps → All (λ p. p < b) ps
in_later h ps t = All_map (λ p l. omega arith) ps t

join_impl_types_post : {ar : TypeName → ℕ} (join : JoinImpl) → Good ar join → {S : State} → Sound ar S → (c : TypingCase) (ls rs : List ℕ) → All (λ p. p < count S) ls → All (λ p. p < count S) rs
    → length ls ≡ length rs → Post ar S (JoinedAll ar S ls rs) (join_impl_types join S c ls rs)
unfolding join_impl_types
join_impl_types_post join g {S} s c [] [] al ar h = p_ok (grown_refl S) (record { sound = s; above = ⊑_refl s; ts_in = tt; left = ta_nil; right = ta_nil })
join_impl_types_post join g s c [] (r ∷ rs) al ar h = absurd (omega arith)
join_impl_types_post join g s c (l ∷ ls) [] al ar h = absurd (omega arith)
join_impl_types_post join g {S} s c (l ∷ ls) (r ∷ rs) al ar h =
    bind_post _ (g S c l r s al.0 ar.0) (λ S1 t g1 j.
    bind_post _ (join_impl_types_post join g j.sound c ls rs (in_later j.above.more_nodes ls al.1) (in_later j.above.more_nodes rs ar.1) (omega arith)) (λ S2 ts g2 k.
    p_ok (grown_refl S2) (record {
      sound = k.sound;
      above = ⊑_trans s j.sound k.sound j.above k.above;
      ts_in = (omega (arith, j.t_in, k.above.more_nodes), k.ts_in);
      left = ta_cons (tracks_keep j.sound k.sound k.above j.left (omega (arith, al.0, j.above.more_nodes)) j.t_in) k.left;
      right = ta_cons (tracks_keep j.sound k.sound k.above j.right (omega (arith, ar.0, j.above.more_nodes)) j.t_in) k.right;
    })))

-- ---- the arms

module _ {ar : TypeName → ℕ} (join : JoinImpl) (g : Good ar join) {S : State} (s : Sound ar S) (c : TypingCase) (l r : ℕ) (l_in : l < count S) (r_in : r < count S) where
  the_right : Tracks S l r → Post ar S (Joined ar S l r) (ok (S, r))
  the_right t = p_ok (grown_refl S) (record { sound = s; above = ⊑_refl s; t_in = r_in; left = t; right = tracks_refl s r_in; plain = λ a b. b })

  the_left : Tracks S r l → Post ar S (Joined ar S l r) (ok (S, l))
  the_left t = p_ok (grown_refl S) (record { sound = s; above = ⊑_refl s; t_in = l_in; left = tracks_refl s l_in; right = t; plain = λ a b. a })

  refs_post : (m1 : Bool) (t1 : ℕ) (m2 : Bool) (t2 : ℕ) → type_at S l ≡ Ref m1 t1 → type_at S r ≡ Ref m2 t2 → (o : Option Bool) → join_mut c m1 m2 ≡ o
      → Post ar S (Joined ar S l r) (join_refs join S c l r m1 t1 m2 t2 o)
  unfolding join_refs parts as_var
  refs_post m1 t1 m2 t2 el er None e = p_err (grown_refl S) (nodes_of s)
  refs_post m1 t1 m2 t2 el er (Some m) e =
      let b1 : t1 < l = (rw el at (s.parts_below l l_in)).0 in
      let b2 : t2 < r = (rw er at (s.parts_below r r_in)).0 in
      let ms = mut_of c m1 m2 m e in
      bind_post _ (g S c t1 t2 s (omega arith) (omega arith)) (λ S1 t g1 j.
      post_map (λ S2 n g2 p.
      let up = quiet_⊑ j.sound p.sound p.quiet in
      let ab = ⊑_trans s j.sound p.sound j.above up in
      record {
        sound = p.sound;
        above = ab;
        t_in = p.t_in;
        left = tracks_of l n (ab.kept l l_in ∙ el) p.is (h_ref ms.0) (ta_cons (tracks_keep j.sound p.sound up j.left (omega (arith, j.above.more_nodes)) j.t_in) ta_nil);
        right = tracks_of r n (ab.kept r r_in ∙ er) p.is (h_ref ms.1) (ta_cons (tracks_keep j.sound p.sound up j.right (omega (arith, j.above.more_nodes)) j.t_in) ta_nil);
        plain = λ a b. rw p.is refl;
      })
      (sp_post j.sound (join_loc c m1 m2 (loc_of S l) (loc_of S r)) (Ref m t) (record { ok_parts = (j.t_in, tt); ok_var = λ v e. never (cc); ok_arity = λ k n ps e. never (cc) })))

  applies_post : (k1 : AbilityMark) (n1 : TypeName) (tys1 : List ℕ) (k2 : AbilityMark) (n2 : TypeName) (tys2 : List ℕ) → type_at S l ≡ Apply k1 n1 tys1 → type_at S r ≡ Apply k2 n2 tys2
      → Post ar S (Joined ar S l r) (join_applies join S c l r k1 n1 tys1 k2 n2 tys2)
  unfolding join_applies parts as_var
  applies_post k1 n1 tys1 k2 n2 tys2 el er =
      if_post (is_multiple n1 && is_multiple n2 && not (same_name n1 n2)) (λ e. p_err (grown_refl S) (nodes_of s)) (λ e.
      if_post (not (same_name n1 n2)) (λ e. p_err (grown_refl S) (nodes_of s)) (λ en.
      if_post (not (same_mark k1 k2)) (λ e. p_refused) (λ ek.
      let dn : n1 ≡ n2 = name_of n1 n2 (not_false (same_name n1 n2) en) in
      let dk : k1 ≡ k2 = mark_of k1 k2 (not_false (same_mark k1 k2) ek) in
      let a1 : length tys1 ≡ ar n1 = s.arity l k1 n1 tys1 l_in el in
      let a2 : length tys2 ≡ ar n2 = s.arity r k2 n2 tys2 r_in er in
      let b1 : All (λ p. p < l) tys1 = rw el at (s.parts_below l l_in) in
      let b2 : All (λ p. p < r) tys2 = rw er at (s.parts_below r r_in) in
      let i1 : All (λ p. p < count S) tys1 = All_map (λ p h. omega arith) tys1 b1 in
      let i2 : All (λ p. p < count S) tys2 = All_map (λ p h. omega arith) tys2 b2 in
      bind_post _ (join_impl_types_post join g s c tys1 tys2 i1 i2 (a1 ∙ ap ar dn ∙ sym a2)) (λ S1 ts g1 j.
      post_map (λ S2 n g2 p.
      let up = quiet_⊑ j.sound p.sound p.quiet in
      let ab = ⊑_trans s j.sound p.sound j.above up in
      record {
        sound = p.sound;
        above = ab;
        t_in = p.t_in;
        left = tracks_of l n (ab.kept l l_in ∙ el) p.is (head_apply k1 k2 n1 n2 tys1 ts dk dn) (all_keep j.sound p.sound up j.left (in_later j.above.more_nodes tys1 i1) j.ts_in);
        right = tracks_of r n (ab.kept r r_in ∙ er) p.is h_apply (all_keep j.sound p.sound up j.right (in_later j.above.more_nodes tys2 i2) j.ts_in);
        plain = λ a b. rw p.is refl;
      })
      (sp_post j.sound (loc_of S r) (Apply k2 n2 ts) (record {
        ok_parts = j.ts_in;
        ok_var = λ v e. never (cc);
        ok_arity = λ k n ps e. let f : ts ≡ ps = cc in let h : n2 ≡ n = cc in ap length (sym f) ∙ sym (all_length j.right) ∙ a2 ∙ ap ar h;
      }))))))

  params_post : (id1 a1 id2 a2 : ℕ) → type_at S l ≡ Param id1 a1 → type_at S r ≡ Param id2 a2 → Post ar S (Joined ar S l r) (join_arm join S c l r (Params id1 id2))
  unfolding join_arm parts
  params_post id1 a1 id2 a2 el er = if_post (eqb id1 id2) (λ e. the_right (tracks_of l r el er (head_param id1 id2 a1 a2 (eq_of id1 id2 e)) ta_nil)) (λ e. p_err (grown_refl S) (nodes_of s))

  vars_post : (id1 id2 : ℕ) → type_at S l ≡ Var id1 → type_at S r ≡ Var id2 → Post ar S (Joined ar S l r) (join_arm join S c l r (Vars id1 id2))
  unfolding join_arm
  vars_post id1 id2 el er =
      let h1 = s.var_in l id1 l_in el in
      let h2 = s.var_in r id2 r_in er in
      if_post (eqb id1 id2)
      (λ e. let d = chain s id2 h2 in the_right (t_var (el ∙ ap Var (eq_of id1 id2 e)) er d d))
      (λ e. post_map (λ S' t g' m. record {
        sound = m.sound;
        above = m.above;
        t_in = m.t_in;
        left = t_var (m.above.kept l l_in ∙ el) m.is m.ends1 (here (ends_stop m.ends1));
        right = t_var (m.above.kept r r_in ∙ er) m.is m.ends2 (here (ends_stop m.ends2));
        plain = λ a b. nonvar_var a el;
      })
      (join_tvar_post join g s c (loc_of S l) id1 (loc_of S r) id2 h1 h2))

  -- the unbound variable v of the type x takes the type o
  unbound_post : (x id o : ℕ) → x < count S → o < count S → type_at S x ≡ Var id → solid (type_at S o) ≡ true → get S id ≡ None
      → ((S' : State) → Sound ar S' → S ⊑ S' → x < count S' → Tracks S' x x → Tracks S' o x → Joined ar S l r S' x) → Post ar S (Joined ar S l r) (join_unbound S l r x id o)
  unfolding join_unbound
  unbound_post x id o x_in o_in ex h free k =
      bind_post _ (join_bind_tvar_post s (loc_of S x) id o free (s.var_in x id x_in ex) o_in (solid_nonvar (type_at S o) h)) (λ S' b g' p.
      if_post b
      (λ bt. let up = quiet_⊑ s p.sound p.quiet in
      p_ok (grown_refl S') (k S' p.sound up (omega (arith, p.quiet.q_nodes)) (tracks_refl p.sound (omega (arith, p.quiet.q_nodes)))
      (t_fit (r_var (up.kept x x_in ∙ ex) (here (p.quiet.q_next id ∙ next_none S id free)) (p.bound bt h))
      (fits_refl p.sound (omega (arith, p.quiet.q_nodes)) (rw (up.kept o o_in) h)))))
      (λ bf. p_err (grown_refl S') (nodes_of p.sound)))

  var_l_post : (id : ℕ) → type_at S l ≡ Var id → solid (type_at S r) ≡ true → Post ar S (Joined ar S l r) (join_arm join S c l r (VarL id))
  unfolding join_arm
  var_l_post id el h =
      let h1 = s.var_in l id l_in el in
      opt_post (get S id)
      (λ free. unbound_post l id r l_in r_in el h free (λ S' s' up i tl tr. record { sound = s'; above = up; t_in = i; left = tl; right = tr; plain = λ a b. nonvar_var a el }))
      (λ t bd. bind_post _ (next_tvar_post s) (λ S1 f g1 v.
      let r1 : r < count S1 = omega (arith, v.quiet.q_nodes) in
      let k1 : solid (type_at S1 r) ≡ true = rw (v.quiet.q_kept r r_in) h in
      let s2 = sound_bind v.sound f r v.free v.f_in r1 k1 in
      let q2 = quiet_trans v.quiet (quiet_bind v.sound f r v.free v.f_in r1 k1) in
      let u2 = quiet_⊑ s s2 q2 in
      post_map (λ S' t g' m.
      let la = m.above.lands f r (get_insert_same S1 f r v.f_in) ((quiet_bind v.sound f r v.free v.f_in r1 k1).q_next f ∙ next_none S1 f v.free) in
      let ab = ⊑_trans s s2 m.sound u2 m.above in
      let lf : la.last ≡ m.f = ends_det la.ends m.ends2 in
      record {
        sound = m.sound;
        above = ab;
        t_in = m.t_in;
        left = t_var (ab.kept l l_in ∙ el) m.is m.ends1 (here (ends_stop m.ends1));
        right = t_fit (r_var m.is (here (ends_stop m.ends2)) (rw lf at la.bound)) la.fits;
        plain = λ a b. nonvar_var a el;
      })
      (post_from (quiet_grown (quiet_bind v.sound f r v.free v.f_in r1 k1) (structs_insert S1 f r) (held_insert S1 f r v.f_in (λ n. never (let z = v.no_mark in cc))))
      (join_tvar_post join g s2 c (loc_of S1 l) id (loc_of S1 r) f (omega (arith, q2.q_vars)) (omega (arith, v.f_in, taken_insert S1 f r))))))

  var_r_post : (id : ℕ) → solid (type_at S l) ≡ true → type_at S r ≡ Var id → Post ar S (Joined ar S l r) (join_arm join S c l r (VarR id))
  unfolding join_arm
  var_r_post id h er =
      let h2 = s.var_in r id r_in er in
      opt_post (get S id)
      (λ free. unbound_post r id l r_in l_in er h free (λ S' s' up i tr tl. record { sound = s'; above = up; t_in = i; left = tl; right = tr; plain = λ a b. nonvar_var b er }))
      (λ t bd. bind_post _ (next_tvar_post s) (λ S1 f g1 v.
      let l1 : l < count S1 = omega (arith, v.quiet.q_nodes) in
      let k1 : solid (type_at S1 l) ≡ true = rw (v.quiet.q_kept l l_in) h in
      let s2 = sound_bind v.sound f l v.free v.f_in l1 k1 in
      let q2 = quiet_trans v.quiet (quiet_bind v.sound f l v.free v.f_in l1 k1) in
      let u2 = quiet_⊑ s s2 q2 in
      post_map (λ S' t g' m.
      let la = m.above.lands f l (get_insert_same S1 f l v.f_in) ((quiet_bind v.sound f l v.free v.f_in l1 k1).q_next f ∙ next_none S1 f v.free) in
      let ab = ⊑_trans s s2 m.sound u2 m.above in
      let lf : la.last ≡ m.f = ends_det la.ends m.ends1 in
      record {
        sound = m.sound;
        above = ab;
        t_in = m.t_in;
        right = t_var (ab.kept r r_in ∙ er) m.is m.ends2 (here (ends_stop m.ends2));
        left = t_fit (r_var m.is (here (ends_stop m.ends1)) (rw lf at la.bound)) la.fits;
        plain = λ a b. nonvar_var b er;
      })
      (post_from (quiet_grown (quiet_bind v.sound f l v.free v.f_in l1 k1) (structs_insert S1 f l) (held_insert S1 f l v.f_in (λ n. never (let z = v.no_mark in cc))))
      (join_tvar_post join g s2 c (loc_of S1 l) f (loc_of S1 r) id (omega (arith, v.f_in, taken_insert S1 f l)) (omega (arith, q2.q_vars))))))

  join_arm_post : {a : Arm} → Took (type_at S l) (type_at S r) a → Post ar S (Joined ar S l r) (join_arm join S c l r a)
  unfolding join_arm parts
  join_arm_post (took_any_l e) = the_right (t_any e)
  join_arm_post (took_any_r e) = the_left (t_any e)
  join_arm_post (took_units el er) = the_right (tracks_of l r el er h_unit ta_nil)
  join_arm_post (took_refs {m1 = m1} {m2 = m2} {t1 = t1} {t2 = t2} el er) = refs_post m1 t1 m2 t2 el er (join_mut c m1 m2) refl
  join_arm_post (took_params {id1 = id1} {a1 = a1} {id2 = id2} {a2 = a2} el er) = params_post id1 a1 id2 a2 el er
  join_arm_post (took_applies {k1 = k1} {k2 = k2} {n1 = n1} {n2 = n2} {tys1 = tys1} {tys2 = tys2} el er) = applies_post k1 n1 tys1 k2 n2 tys2 el er
  join_arm_post (took_vars {id1 = id1} {id2 = id2} el er) = vars_post id1 id2 el er
  join_arm_post (took_var_l {id = id} el h) = var_l_post id el h
  join_arm_post (took_var_r {id = id} h er) = var_r_post id h er
  join_arm_post (took_error_l e h) = the_right (t_fit (r_self {r = r} (solid_nonvar (type_at S r) h)) (f_err e h))
  join_arm_post (took_error_r h e) = the_left (t_fit (r_self {r = l} (solid_nonvar (type_at S l) h)) (f_err e h))
  join_arm_post took_others = p_err (grown_refl S) (nodes_of s)

-- ---- the main lemma

pub join_impl_good : {ar : TypeName → ℕ} (depth : ℕ) → Good ar (join_impl depth)
unfolding join_impl
join_impl_good zero S c l r s l_in r_in = p_refused
join_impl_good (suc depth) S c l r s l_in r_in =
    join_arm_post (λ s c l r. join_impl depth s c l r) (λ S c l r s l_in r_in. join_impl_good depth S c l r s l_in r_in) s c l r l_in r_in (took (type_at S l) (type_at S r))
