-- R-9: how many links a join follows: at most 2 · 1,023 for each variable that it takes, and as many once more where it fails or is refused (`links_few`). Assumes nothing.
-- A merge follows two chains of at most 1,023 links each and takes one variable; where it is refused before, nothing follows. By induction on the depth, arm by arm, over `Post`.
use mathlib.Core.Path.{◌≡◌, refl, ◌∙◌}
use mathlib.Core.Bool.{Bool, true, false, not, ◌&&◌}
use mathlib.Core.List.{List, [], ◌∷◌}
use Rattle.std.specs.Prelude.{Option, None, Some}
use Prim.Native.Nat.{ℕ, zero, suc, ◌+◌, ◌*◌, ◌≤◌, ◌<◌}
use native.Mathlib.Omega.{arith}
use lib.Dec.{eqb, ltb, ltb→lt}
use Rattle.std.specs.Prelude.{if◌then◌else◌}
use Rattle.definition.specs.Types.{TypeName, AbilityMark, TypeValue, Ref, Apply, Var, Anything, State, max_vars, max_depth, TypingError, Incompatible, ArityMismatch, abilities_disagree, Refusal, full, Result, ok, err, refused, ◌>>=◌}
use Rattle.definition.specs.Store.{count, taken, type_at, loc_of, node, get, num_loc, need_of, insert, with_var, with_vars, sp, next_tvar}
use Rattle.definition.specs.Subst.{is_anything, parts, forward_tvar, links}
use Rattle.definition.specs.Join.{TypingCase, Join, JoinImpl, check_num_tvar, used, join_bind_tvar, type_of, larger, merge_num, shown, join_tvar, join_impl_types, join_mut, join_refs, same_name, same_mark, is_multiple, join_applies, join_unbound, join_arm, join_impl}
use Rattle.definition.specs.Join.{Arm, VarL, VarR}
use Rattle.definition.specs.Links.{LinksImpl, merge_opens, merge_closes, links_after, links_tvar, links_types, links_applies, links_fresh, links_arm, links_impl, join_links}
use Rattle.theorems.proofs.Laws.{taken_insert, taken_with_node, taken_with_var}
use Rattle.theorems.proofs.DemandTracks.{Ends, ends_stop, solid}
use Rattle.theorems.proofs.DemandOrder.{All, All_map, Sound, chain, ends_in}
use Rattle.theorems.proofs.DemandSteps.{quiet_trans, sound_bind}
use Rattle.theorems.proofs.DemandMerge.{tied, cnt, tkn, sound_tied}
use Rattle.theorems.proofs.LawsPost.{Post, p_ok, p_err, p_refused}
use Rattle.theorems.proofs.SoundRoom.{with_room, sp_room, tvar_room}
use Rattle.theorems.proofs.DemandCalls.{sp_post, NewVar, next_tvar_post, type_of_post, var_ok, Good, marks_alone, quiet_marked, sound_marked, marked_in, ready_of}
use Rattle.theorems.proofs.DemandMain.{Took, took_any_l, took_any_r, took_units, took_refs, took_params, took_applies, took_vars, took_var_l, took_var_r, took_error_l, took_error_r, took_others, took, in_later, join_impl_good}
use Rattle.theorems.proofs.TotalEnough.{one_more, chain_short}
use Rattle.theorems.proofs.Links.{within_links, merge_is}
use Rattle.theorems.proofs.SoundFacts.{test}

-- ---- one chain

pub chain_few : {ar : TypeName → ℕ} {S : State} → Sound ar S → (v : ℕ) → v < taken S → links S v < taken S
unfolding links
chain_few {S = S} s v i = let k = one_more (taken S) v i in let l = within_links (chain_short s k.0 k.1 v i) (taken S) in omega (arith, k.1)

-- ---- n links, and what the run leaves

pub data Few {B : Type 0} (S : State) (n : ℕ) : Result (State × B) → Type 0 where
  few_ok : {S' : State} {b : B} → n + 2046 * taken S ≤ 2046 * taken S' → taken S ≤ taken S' → taken S' ≤ 1024 → Few S n (ok (S', b))
  few_err : {S' : State} {e : TypingError} → n + 2046 * taken S ≤ 2046 * taken S' + 2046 → taken S ≤ taken S' → taken S' ≤ 1024 → Few S n (err S' e)
  few_refused : {x : Refusal} → n + 2046 * taken S ≤ 2046 * 1024 + 2046 → Few S n (refused x)

module _ {B : Type 0} where
  few_from : {S S1 : State} (n k : ℕ) {m : Result (State × B)} → n + 2046 * taken S ≤ 2046 * taken S1 → taken S ≤ taken S1 → Few S1 k m → Few S (n + k) m
  few_from n k l a (few_ok {S' = T} l' a' u') = few_ok {S' = T} (omega arith) (omega arith) u'
  few_from n k l a (few_err {S' = T} l' a' u') = few_err {S' = T} (omega arith) (omega arith) u'
  few_from n k l a (few_refused l') = few_refused (omega arith)

  few_zero : {S S1 : State} (k : ℕ) {m : Result (State × B)} → taken S ≤ taken S1 → Few S1 k m → Few S k m
  few_zero k a (few_ok {S' = T} l' a' u') = few_ok {S' = T} (omega arith) (omega arith) u'
  few_zero k a (few_err {S' = T} l' a' u') = few_err {S' = T} (omega arith) (omega arith) u'
  few_zero k a (few_refused l') = few_refused (omega arith)

  few_stay : {S S' : State} {b : B} → taken S' ≡ taken S → taken S ≤ 1024 → Few S 0 (ok (S', b))
  few_stay {S} {S'} e u = few_ok {S' = S'} (omega arith) (omega arith) (omega arith)

  few_fail : {S : State} {e : TypingError} → taken S ≤ 1024 → Few {B = B} S 0 (err S e)
  few_fail {S} u = few_err {S' = S} (omega arith) (omega arith) u

  few_no : {S : State} {x : Refusal} → taken S ≤ 1024 → Few {B = B} S 0 (refused x)
  few_no u = few_refused (omega arith)

  if_few : {S : State} {n : ℕ} (b : Bool) {x y : Result (State × B)} → (b ≡ true → Few S n x) → (b ≡ false → Few S n y) → Few S n (if b then x else y)
  if_few true f g = f refl
  if_few false f g = g refl

bind_few : {B C : Type 0} {ar : TypeName → ℕ} {S : State} {P : State → B → Type 0} (n : ℕ) {m : Result (State × B)} (f : State × B → Result (State × C)) (k : State × B → ℕ)
    → Post ar S P m → Few S n m → ((S1 : State) (b : B) → P S1 b → taken S1 ≤ 1024 → Few S1 (k (S1, b)) (f (S1, b))) → Few S (n + links_after m k) (m >>= f)
unfolding ◌>>=◌ links_after
bind_few n f k (p_ok {s = s} {b = b} g p) (few_ok l a u) h = few_from n (k (s, b)) l a (h s b p u)
bind_few n f k (p_err g q) (few_err {S' = T} l a u) h = few_err {S' = T} (omega arith) a u
bind_few n f k p_refused (few_refused l) h = few_refused (omega arith)

bind_last : {B C : Type 0} {S : State} {n : ℕ} {m : Result (State × B)} (f : State × B → Result (State × C)) → Few S n m → ((S1 : State) (b : B) → taken S1 ≤ 1024 → Few S1 0 (f (S1, b))) → Few S n (m >>= f)
unfolding ◌>>=◌
bind_last {n = n} f (few_ok {S' = s} {b = b} l a u) h = after l a (h s b u)
  where
    after : {D : Type 0} {S S1 : State} {n : ℕ} {m : Result (State × D)} → n + 2046 * taken S ≤ 2046 * taken S1 → taken S ≤ taken S1 → Few S1 0 m → Few S n m
    after l a (few_ok {S' = T} l' a' u') = few_ok {S' = T} (omega arith) (omega arith) u'
    after l a (few_err {S' = T} l' a' u') = few_err {S' = T} (omega arith) (omega arith) u'
    after l a (few_refused l') = few_refused (omega arith)
bind_last f (few_err l a u) h = few_err l a u
bind_last f (few_refused l) h = few_refused l

-- ---- what follows no chain

sp_few : (S : State) (l : ℕ) (x : TypeValue) → taken S ≤ 1024 → Few S 0 (sp S l x)
sp_few S l x u = with_room (Few S 0) (sp_room S l x) (λ p. few_stay (taken_with_node S l x) u) (few_no u)

bind_tvar_few : (S : State) (loc v ty : ℕ) → taken S ≤ 1024 → Few S 0 (join_bind_tvar S loc v ty)
unfolding join_bind_tvar
bind_tvar_few S loc v ty u =
    if_few (not (check_num_tvar S v ty)) (λ e. few_stay refl u) (λ e.
    if_few (used (suc ty) S v ty) (λ e. few_fail u) (λ e.
    if_few (is_anything (type_at S ty)) (λ e. few_stay refl u) (λ e. few_stay (taken_insert S v ty) u)))

shown_few : (S : State) (ty id : ℕ) → taken S ≤ 1024 → Few S 0 (shown S ty id)
unfolding shown
shown_few S ty id u = if_few (is_anything (type_at S ty)) (λ e. sp_few S (loc_of S ty) (Var id) u) (λ e. few_stay refl u)

closes_few : (id1 loc2 id2 : ℕ) (o : State × ℕ × ℕ × ℕ × ℕ) (S : State) (t : ℕ) → taken S ≤ 1024 → Few S 0 (merge_closes id1 loc2 id2 o (S, t))
unfolding merge_closes
closes_few id1 loc2 id2 (opened, ty1, ty2, new_tvar, var2) S t u = go (get S new_tvar)
  where
    go : (b : Option ℕ) → Few {B = ℕ} S 0 (elim b [
      | Some t ↦ err S (Rattle.definition.specs.Types.RecursiveType (loc_of S t))
      | None ↦ (join_bind_tvar S loc2 new_tvar t >>= λ (r : State × Bool). if r.1 then ok (r.0, var2) else (shown r.0 ty1 id1 >>= λ (q : State × ℕ). shown q.0 ty2 id2 >>= λ (w : State × ℕ). err w.0 (Incompatible q.1 w.1)))
    ])
    go (Some t) = few_fail u
    go None = bind_last _ (bind_tvar_few S loc2 new_tvar t u) (λ S1 b u1. if_few b (λ e. few_stay refl u1) (λ e. bind_last _ (shown_few S1 ty1 id1 u1) (λ S2 t2 u2. bind_last _ (shown_few S2 ty2 id2 u2) (λ S3 t3 u3. few_fail u3))))

-- ---- what opens a merge: one variable taken, both types nodes; or refused

-- a success has Q, and nothing fails
pub data Gives {B : Type 0} (Q : State → B → Type 0) : Result (State × B) → Type 0 where
  g_ok : {S : State} {b : B} → Q S b → Gives Q (ok (S, b))
  g_refused : {x : Refusal} → Gives Q (refused x)

abbrev Stays : State → State → ℕ → Type 0
Stays S S' t = taken S' ≡ taken S

sp_gives : (S : State) (l : ℕ) (x : TypeValue) → Gives (Stays S) (sp S l x)
sp_gives S l x = with_room (Gives (Stays S)) (sp_room S l x) (λ p. g_ok (taken_with_node S l x)) g_refused

abbrev pub OneMore : State → State → ℕ → Type 0
OneMore S S' t = (taken S' ≡ suc (taken S)) × (taken S' ≤ 1024)

pub next_gives : (S : State) → Gives (OneMore S) (next_tvar S)
unfolding max_vars
next_gives S = with_room (Gives (OneMore S)) (tvar_room S) (λ p. g_ok (taken_with_var S, omega (arith, taken_with_var S))) g_refused

type_of_gives : (S : State) (l e : ℕ) → Gives (Stays S) (type_of S l e)
unfolding type_of
type_of_gives S l e = go (get S e)
  where
    go : (o : Option ℕ) → Gives (Stays S) (elim o [ None ↦ sp S l Anything | Some t ↦ ok (S, t) ])
    go None = sp_gives S l Anything
    go (Some t) = g_ok refl

pub data Opens (ar : TypeName → ℕ) (S : State) : Result (State × ℕ × ℕ × ℕ × ℕ) → Type 0 where
  op_ok : {o : State × ℕ × ℕ × ℕ × ℕ} → Sound ar o.0 → taken o.0 ≡ suc (taken S) → taken o.0 ≤ 1024 → o.1 < count o.0 → o.2 < count o.0 → Opens ar S (ok o)
  op_refused : {x : Refusal} → Opens ar S (refused x)

open_bind : {B : Type 0} {ar : TypeName → ℕ} {S S0 : State} {P Q : State → B → Type 0} {m : Result (State × B)} (f : State × B → Result (State × ℕ × ℕ × ℕ × ℕ))
    → Post ar S0 P m → Gives Q m → ((S1 : State) (b : B) → P S1 b → Q S1 b → Opens ar S (f (S1, b))) → Opens ar S (m >>= f)
unfolding ◌>>=◌
open_bind f (p_ok {s = s} {b = b} g p) (g_ok q) k = k s b p q
open_bind f (p_err g n) q k = elim q [ ]
open_bind f p_refused g_refused k = op_refused

pub opens : {ar : TypeName → ℕ} {S : State} → Sound ar S → (loc1 id1 loc2 id2 : ℕ) → id1 < taken S → id2 < taken S → Opens ar S (merge_opens S loc1 id1 loc2 id2)
unfolding merge_opens
opens {ar} {S} s loc1 id1 loc2 id2 h1 h2 =
    let e1 = forward_tvar S id1 in
    let e2 = forward_tvar S id2 in
    let d1 : Ends S id1 e1 = chain s id1 h1 in
    let d2 : Ends S id2 e2 = chain s id2 h2 in
    open_bind _ (type_of_post s loc1 e1 (ends_stop d1)) (type_of_gives S loc1 e1) (λ Sa T1 a ta.
    open_bind _ (type_of_post a.sound loc2 e2 (a.quiet.q_next e2 ∙ ends_stop d2)) (type_of_gives Sa loc2 e2) (λ Sb T2 b tb.
    open_bind _ (next_tvar_post b.sound) (next_gives Sb) (λ Sc f v tc.
    let m = marks_alone s e1 e2 v in
    open_bind _ (sp_post (sound_marked s e1 e2 v) loc1 (Var f) (var_ok f (marked_in s e1 e2 v))) (sp_gives (merge_num Sc (num_loc S e1) (num_loc S e2) (larger (need_of S e1) (need_of S e2)) f) loc1 (Var f)) (λ Sd n1 p td.
    open_bind _ (sp_post p.sound loc2 (Var f) (var_ok f (omega (arith, marked_in s e1 e2 v, p.same_vars)))) (sp_gives Sd loc2 (Var f)) (λ Se n2 q te.
    let qbe = quiet_trans (quiet_marked s e1 e2 v) (quiet_trans p.quiet q.quiet) in
    let qae = quiet_trans b.quiet qbe in
    let y = ready_of s e1 e2 v (quiet_trans a.quiet b.quiet) p q (ends_stop d1) (ends_stop d2) (ends_in s h1 d1) (ends_in s h2 d2) in
    op_ok {o = (tied y, T1, T2, f, n2)} (sound_tied y) (omega (arith, tkn y, te, td, m.m_taken, tc.0, tb, ta)) (omega (arith, tkn y, te, td, m.m_taken, tc.1)) (omega (arith, cnt y, a.T_in, qae.q_nodes)) (omega (arith, cnt y, b.T_in, qbe.q_nodes)))))))

-- ---- the arms

abbrev FewAll : (TypeName → ℕ) → JoinImpl → LinksImpl → Type 0
FewAll ar join count_links = (S : State) (c : TypingCase) (l r : ℕ) → Sound ar S → taken S ≤ 1024 → l < count S → r < count S → Few S (count_links S c l r) (join S c l r)

opened_few : {ar : TypeName → ℕ} {S : State} (n : ℕ) → n ≤ 2046 → taken S ≤ 1024 → {m : Result (State × ℕ × ℕ × ℕ × ℕ)} (k : State × ℕ × ℕ × ℕ × ℕ → ℕ) (f : State × ℕ × ℕ × ℕ × ℕ → Result (State × ℕ))
    → Opens ar S m → ((o : State × ℕ × ℕ × ℕ × ℕ) → Sound ar o.0 → taken o.0 ≤ 1024 → o.1 < count o.0 → o.2 < count o.0 → Few o.0 (k o) (f o)) → Few S (n + links_after m k) (m >>= f)
unfolding links_after ◌>>=◌
opened_few n b u k f (op_ok {o = o} s e v i j) h = few_from n (k o) (omega arith) (omega arith) (h o s v i j)
opened_few n b u k f op_refused h = few_refused (omega arith)

-- the state with the fresh variable f bound to o
pub fresh_ok : {ar : TypeName → ℕ} (S : State) → Sound ar S → (S1 : State) (f o : ℕ) → o < count S → solid (type_at S o) ≡ true → NewVar ar S S1 f → Sound ar (insert S1 f o) × (f < taken (insert S1 f o)) × (taken S ≤ taken (insert S1 f o))
fresh_ok S s S1 f o i k v =
    let o1 : o < count S1 = omega (arith, v.quiet.q_nodes) in
    let k1 : solid (type_at S1 o) ≡ true = rw (v.quiet.q_kept o i) k in
    (sound_bind v.sound f o v.free v.f_in o1 k1, omega (arith, v.f_in, taken_insert S1 f o), omega (arith, v.quiet.q_vars, taken_insert S1 f o))

module _ {ar : TypeName → ℕ} (join : JoinImpl) (count_links : LinksImpl) (g : Good ar join) (few : FewAll ar join count_links) where
  tvar_few : (S : State) → Sound ar S → taken S ≤ 1024 → (c : TypingCase) (loc1 id1 loc2 id2 : ℕ) → id1 < taken S → id2 < taken S → Few S (links_tvar count_links S c loc1 id1 loc2 id2) (join_tvar join S c loc1 id1 loc2 id2)
  unfolding links_tvar
  tvar_few S s u c loc1 id1 loc2 id2 h1 h2 =
      rw (merge_is join S c loc1 id1 loc2 id2) (opened_few (links S id1 + links S id2) (omega (arith, chain_few s id1 h1, chain_few s id2 h2)) u (λ o. count_links o.0 c o.1 o.2) (λ o. join o.0 c o.1 o.2 >>= λ (r : State × ℕ). merge_closes id1 loc2 id2 o r)
      (opens s loc1 id1 loc2 id2 h1 h2) (λ o so v i j. bind_last _ (few o.0 c o.1 o.2 so v i j) (λ S1 t w. closes_few id1 loc2 id2 o S1 t w)))

  types_few : (S : State) → Sound ar S → taken S ≤ 1024 → (c : TypingCase) (ls rs : List ℕ) → All (λ p. p < count S) ls → All (λ p. p < count S) rs → Few S (links_types join count_links S c ls rs) (join_impl_types join S c ls rs)
  unfolding links_types join_impl_types
  types_few S s u c [] rs al ar = few_stay refl u
  types_few S s u c (l ∷ ls) [] al ar = few_stay refl u
  types_few S s u c (l ∷ ls) (r ∷ rs) al ar =
      bind_few (count_links S c l r) _ (λ x. links_types join count_links x.0 c ls rs) (g S c l r s al.0 ar.0) (few S c l r s u al.0 ar.0) (λ S1 t j v.
      bind_last _ (types_few S1 j.sound v c ls rs (in_later j.above.more_nodes ls al.1) (in_later j.above.more_nodes rs ar.1)) (λ S2 ts w. few_stay refl w))

  module _ (S : State) (s : Sound ar S) (u : taken S ≤ 1024) (c : TypingCase) (l r : ℕ) (l_in : l < count S) (r_in : r < count S) where
    refs_few : (m1 : Bool) (t1 : ℕ) (m2 : Bool) (t2 : ℕ) → type_at S l ≡ Ref m1 t1 → type_at S r ≡ Ref m2 t2 → (o : Option Bool)
        → Few S (elim o [ None ↦ 0 | Some mut ↦ count_links S c t1 t2 ]) (join_refs join S c l r m1 t1 m2 t2 o)
    unfolding join_refs parts
    refs_few m1 t1 m2 t2 el er None = few_fail u
    refs_few m1 t1 m2 t2 el er (Some m) =
        let b1 : t1 < l = (rw el at (s.parts_below l l_in)).0 in
        let b2 : t2 < r = (rw er at (s.parts_below r r_in)).0 in
        bind_last _ (few S c t1 t2 s u (omega arith) (omega arith)) (λ S1 t v. sp_few S1 _ (Ref m t) v)

    guarded : (a n k : Bool) (e1 e2 : TypingError) {x : ℕ} {m : Result (State × ℕ)} → Few S x m
        → Few S (if n && k then x else 0) (if a && not n then err S e1 else if not n then err S e2 else if not k then refused abilities_disagree else m)
    guarded true true true e1 e2 f = f
    guarded false true true e1 e2 f = f
    guarded true true false e1 e2 f = few_no u
    guarded false true false e1 e2 f = few_no u
    guarded true false k e1 e2 f = few_fail u
    guarded false false k e1 e2 f = few_fail u

    applies_few : (k1 : AbilityMark) (n1 : TypeName) (tys1 : List ℕ) (k2 : AbilityMark) (n2 : TypeName) (tys2 : List ℕ) → type_at S l ≡ Apply k1 n1 tys1 → type_at S r ≡ Apply k2 n2 tys2
        → Few S (links_applies join count_links S c k1 n1 tys1 k2 n2 tys2) (join_applies join S c l r k1 n1 tys1 k2 n2 tys2)
    unfolding join_applies links_applies parts
    applies_few k1 n1 tys1 k2 n2 tys2 el er =
        let b1 : All (λ p. p < l) tys1 = rw el at (s.parts_below l l_in) in
        let b2 : All (λ p. p < r) tys2 = rw er at (s.parts_below r r_in) in
        guarded (is_multiple n1 && is_multiple n2) (same_name n1 n2) (same_mark k1 k2) (ArityMismatch l r) (Incompatible l r)
        (bind_last _ (types_few S s u c tys1 tys2 (All_map (λ p h. omega arith) tys1 b1) (All_map (λ p h. omega arith) tys2 b2)) (λ S1 ts v. sp_few S1 _ (Apply k2 n2 ts) v))

    unbound_few : (x id o : ℕ) → Few S 0 (join_unbound S l r x id o)
    unfolding join_unbound
    unbound_few x id o = bind_last _ (bind_tvar_few S (loc_of S x) id o u) (λ S1 b v. if_few b (λ e. few_stay refl v) (λ e. few_fail v))

    vars_few : (id1 id2 : ℕ) → type_at S l ≡ Var id1 → type_at S r ≡ Var id2 → (b : Bool) → Few S (if b then 0 else links_tvar count_links S c (loc_of S l) id1 (loc_of S r) id2) (if b then ok (S, r) else join_tvar join S c (loc_of S l) id1 (loc_of S r) id2)
    vars_few id1 id2 el er true = few_stay refl u
    vars_few id1 id2 el er false = tvar_few S s u c (loc_of S l) id1 (loc_of S r) id2 (s.var_in l id1 l_in el) (s.var_in r id2 r_in er)

    -- a bound variable meets a type o: the fresh one takes it
    fresh_few : (F : State → ℕ → ℕ) (G : State × ℕ → Result (State × ℕ)) (o : ℕ) → o < count S → solid (type_at S o) ≡ true
        → ((v : ℕ) → v ≡ taken S → Sound ar (insert (with_var S) v o) → taken (insert (with_var S) v o) ≤ 1024 → v < taken (insert (with_var S) v o) → taken S ≤ taken (insert (with_var S) v o) → Few (insert (with_var S) v o) (F (with_var S) v) (G (with_var S, v)))
        → Few S (links_fresh S F) (next_tvar S >>= G)
    unfolding links_fresh next_tvar links_after ◌>>=◌ max_vars
    fresh_few F G o o_in h k = go (ltb (taken S) 1024) refl (next_tvar_post s)
      where
        go : (b : Bool) → ltb (taken S) 1024 ≡ b → Post ar S (NewVar ar S) (if b then ok (with_var S, taken S) else refused full)
            → Few S (links_after (if b then ok (with_var S, taken S) else refused full) (λ (r : State × ℕ). F r.0 r.1)) ((if b then ok (with_var S, taken S) else refused full) >>= G)
        go true e (p_ok g v) =
            let a = fresh_ok S s (with_var S) (taken S) o o_in h v in
            let t1 = taken_with_var S in
            let t2 = taken_insert (with_var S) (taken S) o in
            let lim = ltb→lt (taken S) 1024 (test e) in
            few_zero (F (with_var S) (taken S)) (omega (arith, t1, t2)) (k (taken S) refl a.0 (omega (arith, t1, t2)) (omega (arith, t1, t2)) (omega (arith, t1, t2)))
        go false e q = few_no u

    loc_same : (t : ℕ) → loc_of (with_var S) t ≡ loc_of S t
    unfolding loc_of node with_var with_vars
    loc_same t = refl

    var_l_few : (id : ℕ) → type_at S l ≡ Var id → solid (type_at S r) ≡ true → Few S (links_arm join count_links S c l r (VarL id)) (join_arm join S c l r (VarL id))
    unfolding join_arm links_arm
    var_l_few id el h = go (get S id)
      where
        go : (b : Option ℕ) → Few {B = ℕ} S (elim b [ None ↦ 0 | Some t ↦ links_fresh S (λ s new_tvar. links_tvar count_links (insert s new_tvar r) c (loc_of S l) id (loc_of S r) new_tvar) ])
            (elim b [ None ↦ join_unbound S l r l id r | Some t ↦ (next_tvar S >>= λ (x : State × ℕ). join_tvar join (insert x.0 x.1 r) c (loc_of x.0 l) id (loc_of x.0 r) x.1) ])
        go None = unbound_few l id r
        go (Some t) = fresh_few (λ s new_tvar. links_tvar count_links (insert s new_tvar r) c (loc_of S l) id (loc_of S r) new_tvar) (λ x. join_tvar join (insert x.0 x.1 r) c (loc_of x.0 l) id (loc_of x.0 r) x.1) r r_in h
            (λ v e s2 u2 i w. rw (loc_same l, loc_same r) (tvar_few (insert (with_var S) v r) s2 u2 c (loc_of S l) id (loc_of S r) v (omega (arith, s.var_in l id l_in el)) i))

    var_r_few : (id : ℕ) → solid (type_at S l) ≡ true → type_at S r ≡ Var id → Few S (links_arm join count_links S c l r (VarR id)) (join_arm join S c l r (VarR id))
    unfolding join_arm links_arm
    var_r_few id h er = go (get S id)
      where
        go : (b : Option ℕ) → Few {B = ℕ} S (elim b [ None ↦ 0 | Some t ↦ links_fresh S (λ s new_tvar. links_tvar count_links (insert s new_tvar l) c (loc_of S l) new_tvar (loc_of S r) id) ])
            (elim b [ None ↦ join_unbound S l r r id l | Some t ↦ (next_tvar S >>= λ (x : State × ℕ). join_tvar join (insert x.0 x.1 l) c (loc_of x.0 l) x.1 (loc_of x.0 r) id) ])
        go None = unbound_few r id l
        go (Some t) = fresh_few (λ s new_tvar. links_tvar count_links (insert s new_tvar l) c (loc_of S l) new_tvar (loc_of S r) id) (λ x. join_tvar join (insert x.0 x.1 l) c (loc_of x.0 l) x.1 (loc_of x.0 r) id) l l_in h
            (λ v e s2 u2 i w. rw (loc_same l, loc_same r) (tvar_few (insert (with_var S) v l) s2 u2 c (loc_of S l) v (loc_of S r) id i (omega (arith, s.var_in r id r_in er))))

    params_few : (b : Bool) → Few {B = ℕ} S 0 (if b then ok (S, r) else err S (Incompatible l r))
    params_few true = few_stay refl u
    params_few false = few_fail u

    arm_few : {a : Arm} → Took (type_at S l) (type_at S r) a → Few S (links_arm join count_links S c l r a) (join_arm join S c l r a)
    unfolding join_arm links_arm
    arm_few (took_any_l e) = few_stay refl u
    arm_few (took_any_r e) = few_stay refl u
    arm_few (took_units el er) = few_stay refl u
    arm_few (took_refs {m1 = m1} {m2 = m2} {t1 = t1} {t2 = t2} el er) = refs_few m1 t1 m2 t2 el er (join_mut c m1 m2)
    arm_few (took_params {id1 = id1} {a1 = a1} {id2 = id2} {a2 = a2} el er) = params_few (eqb id1 id2)
    arm_few (took_applies {k1 = k1} {k2 = k2} {n1 = n1} {n2 = n2} {tys1 = tys1} {tys2 = tys2} el er) = applies_few k1 n1 tys1 k2 n2 tys2 el er
    arm_few (took_vars {id1 = id1} {id2 = id2} el er) = vars_few id1 id2 el er (eqb id1 id2)
    arm_few (took_var_l {id = id} el h) = var_l_few id el h
    arm_few (took_var_r {id = id} h er) = var_r_few id h er
    arm_few (took_error_l e h) = few_stay refl u
    arm_few (took_error_r h e) = few_stay refl u
    arm_few took_others = few_fail u

-- ---- the whole

-- n links are at most 2 · 1,023 for each variable taken, and as many once more
pub links_few : {ar : TypeName → ℕ} (depth : ℕ) → FewAll ar (join_impl depth) (links_impl depth)
unfolding join_impl links_impl
links_few zero S c l r s u l_in r_in = few_no u
links_few (suc depth) S c l r s u l_in r_in =
    arm_few (λ s c l r. join_impl depth s c l r) (λ s c l r. links_impl depth s c l r) (λ S c l r s l_in r_in. join_impl_good depth S c l r s l_in r_in) (λ S c l r s u l_in r_in. links_few depth S c l r s u l_in r_in)
    S s u c l r l_in r_in (took (type_at S l) (type_at S r))

-- .. so the u32 is the number
few_u32 : {B : Type 0} {S : State} {n : ℕ} {m : Result (State × B)} → Few S n m → n ≤ 2097150
few_u32 (few_ok l a u) = omega arith
few_u32 (few_err l a u) = omega arith
few_u32 (few_refused l) = omega arith

pub links_u32 : {ar : TypeName → ℕ} (S : State) → Sound ar S → taken S ≤ 1024 → (l r : ℕ) → l < count S → r < count S → join_links S l r < 4294967296
unfolding join_links
links_u32 S s u l r l_in r_in = let f = few_u32 (links_few max_depth S Join l r s u l_in r_in) in omega arith
