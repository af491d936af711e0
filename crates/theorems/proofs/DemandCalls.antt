-- The calls of a join, from the bottom up to join_tvar. Assumes nothing.
-- For each call a record says what a success leaves (`NewNode`, `NewVar`, `EndType` ..); `-post` shows it, from those below.
use mathlib.Core.Path.{◌≡◌, refl, ◌∙◌, sym}
use mathlib.Core.Bool.{Bool, true, false}
use Rattle.std.specs.Prelude.{Option, None, Some, if◌then◌else◌}
use Prim.Native.Nat.{ℕ, suc, ◌<◌, ◌≤◌}
use native.Mathlib.Omega.{arith}
use Rattle.definition.specs.Types.{TypeName, TypeValue, UnitType, Ref, Param, Apply, Var, Anything, UnresolvedError}
use Rattle.definition.specs.Types.{State, Incompatible, RecursiveType, ok, err, ◌>>=◌}
use Rattle.definition.specs.Store.{count, taken, type_at, get, insert, with_node, with_var}
use Rattle.definition.specs.Subst.{next_of, as_var, is_anything, forward_tvar, parts}
use Rattle.theorems.proofs.Laws.{get_with_node, count_with_node, value_new, taken_with_node, get_beyond, get_with_var, taken_with_var}
use Rattle.theorems.proofs.Laws.{get_insert_same, merge_marks, structs_node, structs_insert, structs_with_var, is_num_same, num_with_node, num_with_var, num_beyond, is_num_of, count_same, value_same, merge_others, need_with_node, need_with_var, need_beyond, needs_most, larger_most, larger_l, larger_r, larger_none, merge_need, merge_at_most, SameButMarks}
use Rattle.theorems.proofs.DemandTracks.{Ends, ends_stop, solid}
use Rattle.theorems.proofs.DemandTracks.{Tracks}
use Rattle.theorems.proofs.DemandTracks.{never, k_any, k_var, k_solid, kind, solid_any, solid_var, solid_nonvar, nonvar_var}
use Rattle.theorems.proofs.DemandOrder.{Sound, ◌⊑◌, chain, ends_in, bind_solid, ends_keep}
use mathlib.Core.Bool.{not}
use Rattle.definition.specs.Store.{sp, next_tvar, loc_of, num_loc, need_of}
use Rattle.definition.specs.Join.{TypingCase, JoinImpl, type_of, shown, join_bind_tvar, join_tvar, check_num_tvar, used, is_num_var, larger, merge_num}
use Rattle.theorems.proofs.DemandOrder.{nodes_of}
use Rattle.theorems.proofs.DemandSteps.{Quiet, quiet_refl, quiet_trans, NodeOk, quiet_node, sound_node, quiet_var, sound_var, sound_marks, quiet_bind, sound_bind, quiet_fresh}
use Rattle.theorems.proofs.DemandMerge.{Ready, tied, val, cnt, tkn, sound_tied, merge_up, ends_1, ends_2, need_tied}
use Rattle.theorems.proofs.LawsPost.{Grown, grown_refl, Post, p_ok, p_err, p_refused, post_from, post_map, bind_post, if_post, opt_post}
use Rattle.theorems.proofs.SoundRoom.{with_room, sp_room, tvar_room}
use Rattle.theorems.proofs.MetSteps.{Keeps, NoNeeds, none_at, held_node, held_var, held_bind, held_merge, held_tie, num_merge_other, merge_numeric_1, merge_numeric_2}
use Rattle.theorems.proofs.SoundFacts.{not_false}

pub quiet_grown : {S S' : State} → Quiet S S' → S'.structs ≡ S.structs → Keeps S S' → Grown S S'
quiet_grown q e k = record { g_nodes = q.q_nodes; g_kept = q.q_kept; g_vars = q.q_vars; g_structs = e; g_keeps = k }

-- ---- sp, TVar::next, the type of a chain end

pub record NewNode (ar : TypeName → ℕ) (S : State) (sh : TypeValue) (S' : State) (t : ℕ) : Type 0 where
  pub sound : Sound ar S'
  pub quiet : Quiet S S'
  pub same_vars : taken S' ≡ taken S
  pub t_in : t < count S'
  pub is : type_at S' t ≡ sh
  pub same_get : (v : ℕ) → get S' v ≡ get S v
  pub same_num : (v : ℕ) → num_loc S' v ≡ num_loc S v
  pub same_need : (v : ℕ) → need_of S' v ≡ need_of S v

pub new_node : {ar : TypeName → ℕ} {S : State} → Sound ar S → (l : ℕ) (sh : TypeValue) → NodeOk ar S sh → NewNode ar S sh (with_node S l sh) (count S)
new_node {S = S} s l sh o =
    record { sound = sound_node s l sh o; quiet = quiet_node s l sh; same_vars = taken_with_node S l sh; t_in = omega (arith, count_with_node S l sh); is = value_new S l sh; same_get = get_with_node S l sh; same_num = num_with_node S l sh; same_need = need_with_node S l sh }

pub sp_post : {ar : TypeName → ℕ} {S : State} → Sound ar S → (l : ℕ) (sh : TypeValue) → NodeOk ar S sh → Post ar S (NewNode ar S sh) (sp S l sh)
sp_post {ar} {S} s l sh o = with_room (Post ar S (NewNode ar S sh)) (sp_room S l sh) (λ e. p_ok (quiet_grown (quiet_node s l sh) (structs_node S l sh) (held_node s l sh)) (new_node s l sh o)) p_refused

pub record NewVar (ar : TypeName → ℕ) (S S' : State) (f : ℕ) : Type 0 where
  pub sound : Sound ar S'
  pub quiet : Quiet S S'
  pub is : f ≡ taken S
  pub f_in : f < taken S'
  pub free : get S' f ≡ None
  pub same_get : (v : ℕ) → get S' v ≡ get S v
  pub same_num : (v : ℕ) → num_loc S' v ≡ num_loc S v
  pub no_mark : is_num_var S' f ≡ false
  pub same_need : (v : ℕ) → need_of S' v ≡ need_of S v
  pub no_need : need_of S' f ≡ 0

pub new_var : {ar : TypeName → ℕ} {S : State} → Sound ar S → NewVar ar S (with_var S) (taken S)
new_var {S = S} s = record {
  sound = sound_var s;
  quiet = quiet_var s;
  is = refl;
  f_in = omega (arith, taken_with_var S);
  free = get_with_var S (taken S) ∙ get_beyond S (taken S) (omega arith);
  same_get = get_with_var S;
  same_num = num_with_var S;
  no_mark = is_num_same S (with_var S) (taken S) (num_with_var S (taken S)) ∙ num_beyond S (taken S) (omega arith);
  same_need = need_with_var S;
  no_need = need_with_var S (taken S) ∙ need_beyond S (taken S) (omega arith);
}

pub next_tvar_post : {ar : TypeName → ℕ} {S : State} → Sound ar S → Post ar S (NewVar ar S) (next_tvar S)
next_tvar_post {ar} {S} s = with_room (Post ar S (NewVar ar S)) (tvar_room S) (λ e. p_ok (quiet_grown (quiet_var s) (structs_with_var S) (held_var s)) (new_var s)) p_refused

pub record EndType (ar : TypeName → ℕ) (S : State) (e : ℕ) (S' : State) (T : ℕ) : Type 0 where
  pub sound : Sound ar S'
  pub quiet : Quiet S S'
  pub same_vars : taken S' ≡ taken S
  pub T_in : T < count S'
  pub plain : as_var (type_at S' T) ≡ None
  pub is : (t : ℕ) → get S e ≡ Some t → t ≡ T
  pub same_num : (v : ℕ) → num_loc S' v ≡ num_loc S v

any_ok : {ar : TypeName → ℕ} {S : State} → NodeOk ar S Anything
unfolding parts
any_ok = record { ok_parts = tt; ok_var = λ v e. never (cc); ok_arity = λ k n ps e. never (cc) }

pub var_ok : {ar : TypeName → ℕ} {S : State} (f : ℕ) → f < taken S → NodeOk ar S (Var f)
unfolding parts
var_ok f h = record { ok_parts = tt; ok_var = λ v e. let d : f ≡ v = cc in omega arith; ok_arity = λ k n ps e. never (cc) }

pub type_of_post : {ar : TypeName → ℕ} {S : State} → Sound ar S → (l e : ℕ) → next_of S e ≡ None → Post ar S (EndType ar S e) (type_of S l e)
unfolding type_of as_var
type_of_post {ar} {S} s l e n = go (get S e) refl
  where
    go : (o : Option ℕ) → get S e ≡ o → Post ar S (EndType ar S e) (type_of S l e)
    go None g = rw (g, type_of) (post_map (λ S' T w p. record {
      sound = p.sound;
      quiet = p.quiet;
      same_vars = p.same_vars;
      T_in = p.t_in;
      plain = rw p.is refl;
      is = λ t h. never (cc);
      same_num = p.same_num;
    }) (sp_post s l Anything any_ok))
    go (Some t) g = rw (g, type_of) (p_ok (grown_refl S) (record {
      sound = s;
      quiet = quiet_refl S;
      same_vars = refl;
      T_in = s.bind_in e t g;
      plain = solid_nonvar (type_at S t) (bind_solid s e t g n);
      is = λ u h. cc;
      same_num = λ v. refl;
    }))

anything_solid : (L : TypeValue) → is_anything L ≡ true → solid L ≡ true → ⊥
unfolding is_anything
anything_solid L a h = elim (kind L) [ k_any e ↦ solid_any h e | k_var e ↦ solid_var h e | k_solid k m ↦ go L a h ]
  where
    go : (L : TypeValue) → is_anything L ≡ true → solid L ≡ true → ⊥
    go UnitType a h = never (cc)
    go (Ref m t) a h = never (cc)
    go (Param i b) a h = never (cc)
    go (Apply k n ts) a h = never (cc)
    go (Var v) a h = never (cc)
    go Anything a h = never (cc)
    go UnresolvedError a h = never (cc)

any_false : {L : TypeValue} {A : Type 0} → L ≡ Anything → is_anything L ≡ false → A
unfolding is_anything
any_false e a = never (let b : true ≡ false = rw e at a in cc)

-- ---- join_bind_tvar

pub record Bound (ar : TypeName → ℕ) (S : State) (v ty : ℕ) (S' : State) (b : Bool) : Type 0 where
  pub sound : Sound ar S'
  pub quiet : Quiet S S'
  pub bound : b ≡ true → solid (type_at S ty) ≡ true → get S' v ≡ Some ty

pub join_bind_tvar_post : {ar : TypeName → ℕ} {S : State} → Sound ar S → (l v ty : ℕ) → get S v ≡ None → v < taken S → ty < count S → as_var (type_at S ty) ≡ None
    → Post ar S (Bound ar S v ty) (join_bind_tvar S l v ty)
unfolding join_bind_tvar
join_bind_tvar_post {ar} {S} s l v ty free v_in ty_in n =
    if_post (not (check_num_tvar S v ty)) (λ e. p_ok (grown_refl S) (record { sound = s; quiet = quiet_refl S; bound = λ b h. never (cc) })) (λ c.
    if_post (used (suc ty) S v ty) (λ e. p_err (grown_refl S) (nodes_of s)) (λ e.
    if_post (is_anything (type_at S ty)) (λ a. p_ok (grown_refl S) (record { sound = s; quiet = quiet_refl S; bound = λ b h. absurd (not_any a h) }))
    (λ a. p_ok (quiet_grown (quiet_bind s v ty free v_in ty_in (hard a)) (structs_insert S v ty) (held_bind S v ty v_in n a (not_false (check_num_tvar S v ty) c))) (record {
      sound = sound_bind s v ty free v_in ty_in (hard a);
      quiet = quiet_bind s v ty free v_in ty_in (hard a);
      bound = λ b h. get_insert_same S v ty v_in;
    }))))
  where
    not_any : is_anything (type_at S ty) ≡ true → solid (type_at S ty) ≡ true → ⊥
    not_any a h = anything_solid (type_at S ty) a h

    hard : is_anything (type_at S ty) ≡ false → solid (type_at S ty) ≡ true
    hard a = elim (kind (type_at S ty)) [ k_any e ↦ any_false e a | k_var e ↦ nonvar_var n e | k_solid h m ↦ h ]

-- ---- join_tvar

-- what a call of join_impl gives
pub record Joined (ar : TypeName → ℕ) (S : State) (l r : ℕ) (S' : State) (t : ℕ) : Type 0 where
  pub sound : Sound ar S'
  pub above : S ⊑ S'
  pub t_in : t < count S'
  pub left : Tracks S' l t
  pub right : Tracks S' r t
  pub plain : as_var (type_at S l) ≡ None → as_var (type_at S r) ≡ None → as_var (type_at S' t) ≡ None

abbrev pub Good : (TypeName → ℕ) → JoinImpl → Type 0
Good ar join = (S : State) (c : TypingCase) (l r : ℕ) → Sound ar S → l < count S → r < count S → Post ar S (Joined ar S l r) (join S c l r)

-- what a call of join_tvar gives
pub record Merged (ar : TypeName → ℕ) (S : State) (id1 id2 : ℕ) (S' : State) (t : ℕ) : Type 0 where
  pub sound : Sound ar S'
  pub above : S ⊑ S'
  pub t_in : t < count S'
  pub f : ℕ
  pub is : type_at S' t ≡ Var f
  pub ends1 : Ends S' id1 f
  pub ends2 : Ends S' id2 f
  -- f is new, and needs the larger of what the ends need
  pub new : taken S ≤ f
  pub need : need_of S' f ≡ larger (need_of S (forward_tvar S id1)) (need_of S (forward_tvar S id2))

shown_post : {ar : TypeName → ℕ} {S : State} → Sound ar S → (ty id : ℕ) → id < taken S → Post ar S (λ S' t. Sound ar S' × (taken S' ≡ taken S)) (shown S ty id)
unfolding shown
shown_post {S = S} s ty id h = if_post (is_anything (type_at S ty)) (λ e. post_map (λ S' t g p. (p.sound, p.same_vars)) (sp_post s (loc_of S ty) (Var id) (var_ok id h)))
    (λ e. p_ok (grown_refl S) (s, refl))

-- both ends are bound to f, which is numeric if one of them is, and needs no less
tied_grown : {ar : TypeName → ℕ} {S P : State} {e1 e2 f n1 n2 : ℕ} (y : Ready ar S P e1 e2 f n1 n2) (Q : State) → f < taken Q → num_loc P f ≡ num_loc (merge_num Q (num_loc S e1) (num_loc S e2) (larger (need_of S e1) (need_of S e2)) f) f
    → num_loc P e1 ≡ num_loc S e1 → num_loc P e2 ≡ num_loc S e2 → Grown P (tied y)
tied_grown {S = S} {P = P} {e1 = e1} {e2 = e2} {f = f} {n1 = n1} {n2 = n2} y Q i num_f old1 old2 = record {
  g_nodes = omega (arith, cnt y);
  g_kept = λ i h. val y i;
  g_vars = omega (arith, tkn y);
  g_structs = structs_insert (insert P e1 n1) e2 n2 ∙ structs_insert P e1 n1;
  g_keeps = held_tie P e1 n1 e2 n2 f (omega (arith, y.in1, y.quiet.q_vars)) (omega (arith, y.in2, y.quiet.q_vars)) y.is1 y.is2
      (λ k. is_num_same _ P f num_f ∙ merge_numeric_1 Q (num_loc S e1) (num_loc S e2) _ f i (is_num_of S e1 (sym (is_num_same S P e1 old1) ∙ k)))
      (λ k. is_num_same _ P f num_f ∙ merge_numeric_2 Q (num_loc S e1) (num_loc S e2) _ f i (is_num_of S e2 (sym (is_num_same S P e2 old2) ∙ k)))
      (omega (arith, y.need1, y.quiet.q_need e1 y.in1)) (omega (arith, y.need2, y.quiet.q_need e2 y.in2));
}

-- the rest of a merge, from where the fresh variable and the nodes that name it are there
rest_post : {ar : TypeName → ℕ} {S P : State} {e1 e2 f n1 n2 : ℕ} (y : Ready ar S P e1 e2 f n1 n2) (join : JoinImpl) → Good ar join → (c : TypingCase) (loc2 id1 id2 T1 T2 : ℕ) → id1 < taken S → id2 < taken S → Ends S id1 e1 → Ends S id2 e2 → Grown P (tied y)
    → T1 < count P → T2 < count P → as_var (type_at P T1) ≡ None → as_var (type_at P T2) ≡ None → ((t : ℕ) → get S e1 ≡ Some t → t ≡ T1) → ((t : ℕ) → get S e2 ≡ Some t → t ≡ T2)
    → need_of P f ≡ larger (need_of S (forward_tvar S id1)) (need_of S (forward_tvar S id2))
    → Post ar P (Merged ar S id1 id2) (join (tied y) c T1 T2 >>= (λ (x : State × ℕ). elim (get x.0 f) [
      | None ↦ join_bind_tvar x.0 loc2 f x.1 >>= (λ (z : State × Bool). if z.1 then ok (z.0, n2) else (shown z.0 T1 id1 >>= (λ (u : State × ℕ). shown u.0 T2 id2 >>= (λ (w : State × ℕ). err w.0 (Incompatible u.1 w.1)))))
      | Some t ↦ err x.0 (RecursiveType (loc_of x.0 t))
    ]))
rest_post {S = S} {e1 = e1} {e2 = e2} {f = f} {n1 = n1} {n2 = n2} y join g c loc2 id1 id2 T1 T2 h1 h2 d1 d2 gt in1 in2 p1 p2 is1 is2 need =
    let plain1 : as_var (type_at (tied y) T1) ≡ None = rw (val y T1) p1 in
    let plain2 : as_var (type_at (tied y) T2) ≡ None = rw (val y T2) p2 in
    bind_post _ (post_from gt (g (tied y) c T1 T2 (sound_tied y) (omega (arith, cnt y, in1)) (omega (arith, cnt y, in2)))) (λ S2 N g2 j.
    opt_post (get S2 f)
    (λ free. bind_post _ (join_bind_tvar_post j.sound loc2 f N free (omega (arith, y.f_in, tkn y, j.above.more_vars)) j.t_in (j.plain plain1 plain2)) (λ S3 k g3 w.
    let later : (i : ℕ) → i < taken S → i < taken S3 = λ i h. omega (arith, y.quiet.q_vars, tkn y, j.above.more_vars, w.quiet.q_vars) in
    if_post k
    (λ kt. p_ok (grown_refl S3) (
    let up = merge_up y T1 T2 N j.sound w.sound j.above w.quiet free is1 is2 j.left j.right (j.plain plain1 plain2) j.t_in (w.bound kt) in
    let m1 = ends_1 y T1 T2 N j.sound w.sound j.above w.quiet free is1 is2 j.left j.right (j.plain plain1 plain2) j.t_in (w.bound kt) in
    let m2 = ends_2 y T1 T2 N j.sound w.sound j.above w.quiet free is1 is2 j.left j.right (j.plain plain1 plain2) j.t_in (w.bound kt) in
    record {
      sound = w.sound;
      above = up;
      t_in = omega (arith, y.n2_in, cnt y, j.above.more_nodes, w.quiet.q_nodes);
      f = f;
      is = w.quiet.q_kept n2 (omega (arith, y.n2_in, cnt y, j.above.more_nodes)) ∙ j.above.kept n2 (omega (arith, y.n2_in, cnt y)) ∙ val y n2 ∙ y.is2;
      ends1 = ends_keep up d1 m1;
      ends2 = ends_keep up d2 m2;
      new = y.new;
      need = w.quiet.q_need f (omega (arith, y.f_in, tkn y, j.above.more_vars)) ∙ j.above.need_stays f (omega (arith, y.f_in, tkn y)) ∙ need_tied y f ∙ need;
    }))
    (λ kf. bind_post _ (shown_post w.sound T1 id1 (later id1 h1)) (λ S4 t1 g4 u1. bind_post _ (shown_post u1.0 T2 id2 (omega (arith, u1.1, later id2 h2))) (λ S5 t2 g5 u2. p_err (grown_refl S5) (nodes_of u2.0))))))
    (λ t e. p_err (grown_refl S2) (nodes_of j.sound)))

-- ---- a merge before its inner join

-- the fresh variable f, marked by what its ends e1 and e2 are marked by
module _ {ar : TypeName → ℕ} {S Sb Sc : State} {f : ℕ} (s : Sound ar S) (e1 e2 : ℕ) (v : NewVar ar Sb Sc f) where
  abbrev pub marked : State
  marked = merge_num Sc (num_loc S e1) (num_loc S e2) (larger (need_of S e1) (need_of S e2)) f

  pub marks_alone : SameButMarks Sc marked
  marks_alone = merge_marks Sc (num_loc S e1) (num_loc S e2) (larger (need_of S e1) (need_of S e2)) f (larger_most (need_of S e1) (need_of S e2) (needs_most S s.needs_in e1) (needs_most S s.needs_in e2))

  pub quiet_marked : Quiet Sb marked
  quiet_marked = quiet_fresh v.sound v.quiet marks_alone (λ x h. merge_others Sc (num_loc S e1) (num_loc S e2) (larger (need_of S e1) (need_of S e2)) f x (λ d. omega (arith, v.is)))

  pub sound_marked : Sound ar marked
  sound_marked = sound_marks v.sound marks_alone

  pub marked_in : f < taken marked
  marked_in = omega (arith, v.f_in, marks_alone.m_taken)

  -- .. and the two nodes that are it
  pub ready_of : {Sd Se : State} {n1 n2 : ℕ} → Quiet S Sb → NewNode ar marked (Var f) Sd n1 → NewNode ar Sd (Var f) Se n2 → next_of S e1 ≡ None → next_of S e2 ≡ None → e1 < taken S → e2 < taken S → Ready ar S Se e1 e2 f n1 n2
  ready_of u p q end1 end2 in1 in2 =
      let mn = merge_need S Sc e1 e2 f s.needs_in v.f_in in
      record {
        before = s;
        sound = q.sound;
        quiet = quiet_trans u (quiet_trans quiet_marked (quiet_trans p.quiet q.quiet));
        end1 = end1;
        end2 = end2;
        in1 = in1;
        in2 = in2;
        new = omega (arith, v.is, u.q_vars);
        f_in = omega (arith, marked_in, p.same_vars, q.same_vars);
        n1_in = omega (arith, p.t_in, q.quiet.q_nodes);
        n2_in = q.t_in;
        is1 = q.quiet.q_kept _ p.t_in ∙ p.is;
        is2 = q.is;
        need1 = omega (arith, larger_l (need_of S e1) (need_of S e2), mn, p.same_need f, q.same_need f);
        need2 = omega (arith, larger_r (need_of S e1) (need_of S e2), mn, p.same_need f, q.same_need f);
      }

pub join_tvar_post : {ar : TypeName → ℕ} {S : State} (join : JoinImpl) → Good ar join → Sound ar S → (c : TypingCase) (loc1 id1 loc2 id2 : ℕ) → id1 < taken S → id2 < taken S
    → Post ar S (Merged ar S id1 id2) (join_tvar join S c loc1 id1 loc2 id2)
unfolding join_tvar
join_tvar_post {ar} {S} join g s c loc1 id1 loc2 id2 h1 h2 =
    let e1 = forward_tvar S id1 in
    let e2 = forward_tvar S id2 in
    let d1 : Ends S id1 e1 = chain s id1 h1 in
    let d2 : Ends S id2 e2 = chain s id2 h2 in
    bind_post _ (type_of_post s loc1 e1 (ends_stop d1)) (λ Sa T1 ga a.
    bind_post _ (type_of_post a.sound loc2 e2 (a.quiet.q_next e2 ∙ ends_stop d2)) (λ Sb T2 gb b.
    bind_post _ (next_tvar_post b.sound) (λ Sc f gc v.
    let most = larger_most (need_of S e1) (need_of S e2) (needs_most S s.needs_in e1) (needs_most S s.needs_in e2) in
    let mm = marks_alone s e1 e2 v in
    let same : (x : ℕ) → x < taken S → need_of Sc x ≡ need_of S x = λ x l. v.same_need x ∙ b.quiet.q_need x (omega (arith, a.quiet.q_vars)) ∙ a.quiet.q_need x l in
    let bare : NoNeeds Sc → larger (need_of S e1) (need_of S e2) ≡ 0 = λ z. larger_none (need_of S e1) (need_of S e2) (sym (same e1 (ends_in s h1 d1)) ∙ none_at Sc z e1) (sym (same e2 (ends_in s h2 d2)) ∙ none_at Sc z e2) in
    let gm : Grown Sc _ = record {
      g_nodes = omega (arith, count_same mm.m_nodes);
      g_kept = λ i h. value_same mm.m_nodes i;
      g_vars = omega (arith, mm.m_taken);
      g_structs = mm.m_structs;
      g_keeps = held_merge Sc (num_loc S e1) (num_loc S e2) (larger (need_of S e1) (need_of S e2)) f v.free v.no_need v.f_in most bare;
    } in
    let mn = merge_need S Sc e1 e2 f s.needs_in v.f_in in
    bind_post _ (post_from gm (sp_post (sound_marked s e1 e2 v) loc1 (Var f) (var_ok f (marked_in s e1 e2 v)))) (λ Sd n1 gd p.
    bind_post _ (sp_post p.sound loc2 (Var f) (var_ok f (omega (arith, v.f_in, mm.m_taken, p.same_vars)))) (λ Se n2 ge q.
    let qbe = quiet_trans (quiet_marked s e1 e2 v) (quiet_trans p.quiet q.quiet) in
    let qae = quiet_trans b.quiet qbe in
    let y : Ready ar S Se e1 e2 f n1 n2 = ready_of s e1 e2 v (quiet_trans a.quiet b.quiet) p q (ends_stop d1) (ends_stop d2) (ends_in s h1 d1) (ends_in s h2 d2) in
    let num_f : num_loc Se f ≡ num_loc (merge_num Sc (num_loc S e1) (num_loc S e2) (larger (need_of S e1) (need_of S e2)) f) f = q.same_num f ∙ p.same_num f in
    let old : (x : ℕ) → x < f → num_loc Se x ≡ num_loc S x = λ x l. q.same_num x ∙ p.same_num x ∙ num_merge_other Sc (num_loc S e1) (num_loc S e2) (larger (need_of S e1) (need_of S e2)) f x v.free (λ d. omega arith) ∙ v.same_num x ∙ b.same_num x ∙ a.same_num x in
    let gt = tied_grown y Sc v.f_in num_f (old e1 (omega (arith, y.in1, y.new))) (old e2 (omega (arith, y.in2, y.new))) in
    let need : need_of Se f ≡ larger (need_of S e1) (need_of S e2) = q.same_need f ∙ p.same_need f ∙ omega (arith, mn, merge_at_most Sc (num_loc S e1) (num_loc S e2) (larger (need_of S e1) (need_of S e2)) f v.f_in v.no_need) in
    rest_post y join g c loc2 id1 id2 T1 T2 h1 h2 d1 d2 gt (omega (arith, a.T_in, qae.q_nodes)) (omega (arith, b.T_in, qbe.q_nodes)) (rw (qae.q_kept T1 a.T_in) a.plain) (rw (qbe.q_kept T2 b.T_in) b.plain) a.is (λ t e. b.is t (a.quiet.q_get e2 t e)) need)))))
