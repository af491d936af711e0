-- R-9: what `links_impl` counts, said without it: `Followed` names each merge's two chains by steps of `next_of`, in the order of the run. The count is `Followed`'s number
-- (`links_counted`), and no other number is (`followed_one`). Assumes nothing.
use mathlib.Core.Path.{◌≡◌, refl, ◌∙◌, subst}
use mathlib.Core.Bool.{Bool, true, false, ◌&&◌}
use mathlib.Core.List.{List, [], ◌∷◌}
use Rattle.std.specs.Prelude.{Option, None, Some}
use Prim.Native.Nat.{ℕ, zero, suc, ◌+◌, ◌<◌}
use native.Mathlib.Omega.{arith}
use lib.Dec.{eqb}
use Rattle.std.specs.Prelude.{if◌then◌else◌}
use Rattle.definition.specs.Types.{TypeName, AbilityMark, TypeValue, Ref, Apply, Var, State, max_depth, TypingError, Refusal, Result, ok, err, refused}
use Rattle.definition.specs.Store.{count, taken, type_at, loc_of, get, insert, next_tvar}
use Rattle.definition.specs.Subst.{parts, next_of, forward, forward_tvar, links}
use Rattle.definition.specs.Join.{TypingCase, Join, JoinImpl, join_mut, same_name, same_mark, join_impl}
use Rattle.definition.specs.Join.{Arm, AnythingL, AnythingR, Units, Refs, Params, Applies, Vars, VarL, VarR, ErrorL, ErrorR, Others, arm}
use Rattle.definition.specs.Links.{LinksImpl, merge_opens, links_after, links_tvar, links_types, links_applies, links_fresh, links_arm, links_impl, join_links}
use Rattle.theorems.proofs.DemandTracks.{never, solid}
use Rattle.theorems.proofs.DemandOrder.{All, All_map, Sound}
use Rattle.theorems.proofs.LawsPost.{Post, p_ok, p_err, p_refused}
use Rattle.theorems.proofs.DemandCalls.{NewVar, next_tvar_post, Joined}
use Rattle.theorems.proofs.DemandMain.{Took, took_any_l, took_any_r, took_units, took_refs, took_params, took_applies, took_vars, took_var_l, took_var_r, took_error_l, took_error_r, took_others, took, in_later, join_impl_good}
use Rattle.theorems.proofs.Links.{Steps, walked, steps_once}
use Rattle.theorems.proofs.LinksFew.{Gives, g_ok, g_refused, OneMore, next_gives, Opens, op_ok, op_refused, opens, fresh_ok}

-- ---- what a join follows

-- the ways of join_impl that join no parts and merge no variables: they follow nothing
pub data FollowsNone (S : State) (c : TypingCase) : Arm → Type 0 where
  anything_left : FollowsNone S c AnythingL
  anything_right : FollowsNone S c AnythingR
  two_units : FollowsNone S c Units
  two_parameters : {id1 id2 : ℕ} → FollowsNone S c (Params id1 id2)
  not_a_subtype : {m1 m2 : Bool} {t1 t2 : ℕ} → join_mut c m1 m2 ≡ None → FollowsNone S c (Refs m1 t1 m2 t2)
  other_names : {k1 k2 : AbilityMark} {n1 n2 : TypeName} {ts1 ts2 : List ℕ} → same_name n1 n2 ≡ false → FollowsNone S c (Applies k1 n1 ts1 k2 n2 ts2)
  other_marks : {k1 k2 : AbilityMark} {n1 n2 : TypeName} {ts1 ts2 : List ℕ} → same_mark k1 k2 ≡ false → FollowsNone S c (Applies k1 n1 ts1 k2 n2 ts2)
  same_variable : {v w : ℕ} → eqb v w ≡ true → FollowsNone S c (Vars v w)
  free_left : {v : ℕ} → get S v ≡ None → FollowsNone S c (VarL v)
  free_right : {v : ℕ} → get S v ≡ None → FollowsNone S c (VarR v)
  no_room_left : {v : ℕ} {x : Refusal} → next_tvar S ≡ refused x → FollowsNone S c (VarL v)
  no_room_right : {v : ℕ} {x : Refusal} → next_tvar S ≡ refused x → FollowsNone S c (VarR v)
  error_left : FollowsNone S c ErrorL
  error_right : FollowsNone S c ErrorR
  incompatible : FollowsNone S c Others

-- n steps from v to its chain's end
pub record Chain (S : State) (v n : ℕ) : Type 0 where
  pub last : ℕ
  pub steps : Steps S n v last
  pub end : next_of S last ≡ None

mutual
  -- join_impl, so many calls deep at most, on l and r in S follows n links
  pub data Followed : ℕ → State → TypingCase → ℕ → ℕ → ℕ → Type 0 where
    too_deep_already : {S : State} {c : TypingCase} {l r : ℕ} → Followed 0 S c l r 0
    nothing : {d : ℕ} {S : State} {c : TypingCase} {l r : ℕ} {a : Arm} → arm (type_at S l) (type_at S r) ≡ a → FollowsNone S c a → Followed (suc d) S c l r 0
    of_references : {d : ℕ} {S : State} {c : TypingCase} {l r n : ℕ} {m1 m2 m : Bool} {t1 t2 : ℕ} → arm (type_at S l) (type_at S r) ≡ Refs m1 t1 m2 t2 → join_mut c m1 m2 ≡ Some m → Followed d S c t1 t2 n → Followed (suc d) S c l r n
    of_arguments : {d : ℕ} {S : State} {c : TypingCase} {l r n : ℕ} {k1 k2 : AbilityMark} {n1 n2 : TypeName} {ts1 ts2 : List ℕ} → arm (type_at S l) (type_at S r) ≡ Applies k1 n1 ts1 k2 n2 ts2
        → same_name n1 n2 ≡ true → same_mark k1 k2 ≡ true → FollowedAll d S c ts1 ts2 n → Followed (suc d) S c l r n
    of_a_merge : {d : ℕ} {S : State} {c : TypingCase} {l r n v w : ℕ} → arm (type_at S l) (type_at S r) ≡ Vars v w → eqb v w ≡ false → Merges d S c (loc_of S l) v (loc_of S r) w n → Followed (suc d) S c l r n
    of_a_merge_left : {d : ℕ} {S S1 : State} {c : TypingCase} {l r n v t f : ℕ} → arm (type_at S l) (type_at S r) ≡ VarL v → get S v ≡ Some t → next_tvar S ≡ ok (S1, f)
        → Merges d (insert S1 f r) c (loc_of S l) v (loc_of S r) f n → Followed (suc d) S c l r n
    of_a_merge_right : {d : ℕ} {S S1 : State} {c : TypingCase} {l r n v t f : ℕ} → arm (type_at S l) (type_at S r) ≡ VarR v → get S v ≡ Some t → next_tvar S ≡ ok (S1, f)
        → Merges d (insert S1 f l) c (loc_of S l) f (loc_of S r) v n → Followed (suc d) S c l r n

  -- join_tvar: both chains, then the inner join's, or a refusal before it
  pub data Merges : ℕ → State → TypingCase → ℕ → ℕ → ℕ → ℕ → ℕ → Type 0 where
    both_and_inner : {d : ℕ} {S S1 : State} {c : TypingCase} {loc1 v loc2 w a b n t1 t2 f x sum : ℕ} → Chain S v a → Chain S w b → merge_opens S loc1 v loc2 w ≡ ok (S1, t1, t2, f, x)
        → Followed d S1 c t1 t2 n → sum ≡ a + b + n → Merges d S c loc1 v loc2 w sum
    both_and_refused : {d : ℕ} {S : State} {c : TypingCase} {loc1 v loc2 w a b sum : ℕ} {x : Refusal} → Chain S v a → Chain S w b → merge_opens S loc1 v loc2 w ≡ refused x → sum ≡ a + b → Merges d S c loc1 v loc2 w sum

  -- join_impl_types: one after the other, each in the state that the last one left; none after an error or a refusal
  pub data FollowedAll : ℕ → State → TypingCase → List ℕ → List ℕ → ℕ → Type 0 where
    no_left : {d : ℕ} {S : State} {c : TypingCase} {rs : List ℕ} → FollowedAll d S c [] rs 0
    no_right : {d : ℕ} {S : State} {c : TypingCase} {l : ℕ} {ls : List ℕ} → FollowedAll d S c (l ∷ ls) [] 0
    and_on : {d : ℕ} {S S1 : State} {c : TypingCase} {l r t n k sum : ℕ} {ls rs : List ℕ} → Followed d S c l r n → join_impl d S c l r ≡ ok (S1, t) → FollowedAll d S1 c ls rs k → sum ≡ n + k → FollowedAll d S c (l ∷ ls) (r ∷ rs) sum
    then_an_error : {d : ℕ} {S S1 : State} {c : TypingCase} {l r n : ℕ} {e : TypingError} {ls rs : List ℕ} → Followed d S c l r n → join_impl d S c l r ≡ err S1 e → FollowedAll d S c (l ∷ ls) (r ∷ rs) n
    then_refused : {d : ℕ} {S : State} {c : TypingCase} {l r n : ℕ} {x : Refusal} {ls rs : List ℕ} → Followed d S c l r n → join_impl d S c l r ≡ refused x → FollowedAll d S c (l ∷ ls) (r ∷ rs) n

-- ---- chains

ends_here : (S : State) (v : ℕ) → next_of S (forward_tvar S v) ≡ None → next_of S (forward (taken S) S v) ≡ None
unfolding forward_tvar
ends_here S v e = e

chain_is : {ar : TypeName → ℕ} {S : State} → Sound ar S → (v : ℕ) → v < taken S → Chain S v (links S v)
unfolding links
chain_is {S = S} s v i = record { last = forward (taken S) S v; steps = walked (taken S) S v; end = ends_here S v (s.chains v i) }

chain_one : {ar : TypeName → ℕ} {S : State} → Sound ar S → {v n : ℕ} → v < taken S → Chain S v n → n ≡ links S v
chain_one s {v} i c = let d = chain_is s v i in steps_once c.steps c.end d.steps d.end

plus_zero : (P : ℕ → Type 0) (n : ℕ) → P n → P (n + 0)
plus_zero P n p = let e : n ≡ n + 0 = omega arith in subst P e p

-- ---- the count is followed

abbrev Counts : (TypeName → ℕ) → ℕ → Type 0
Counts ar d = (S : State) (c : TypingCase) (l r : ℕ) → Sound ar S → l < count S → r < count S → Followed d S c l r (links_impl d S c l r)

module _ {ar : TypeName → ℕ} (d : ℕ) (h : Counts ar d) where
  merge_count : (S : State) → Sound ar S → (c : TypingCase) (loc1 v loc2 w : ℕ) → v < taken S → w < taken S → Merges d S c loc1 v loc2 w (links_tvar (λ s c l r. links_impl d s c l r) S c loc1 v loc2 w)
  unfolding links_tvar links_after
  merge_count S s c loc1 v loc2 w i j = go (opens s loc1 v loc2 w i j) refl
    where
      go : {m : Result (State × ℕ × ℕ × ℕ × ℕ)} → Opens ar S m → merge_opens S loc1 v loc2 w ≡ m
          → Merges d S c loc1 v loc2 w (links S v + links S w + links_after m (λ (o : State × ℕ × ℕ × ℕ × ℕ). links_impl d o.0 c o.1 o.2))
      go (op_ok {o = o} so e u a b) q = both_and_inner (chain_is s v i) (chain_is s w j) q (h o.0 c o.1 o.2 so a b) refl
      go op_refused q = let z : links S v + links S w + 0 ≡ links S v + links S w = omega arith in both_and_refused (chain_is s v i) (chain_is s w j) q z

  all_count : (S : State) → Sound ar S → (c : TypingCase) (ls rs : List ℕ) → All (λ p. p < count S) ls → All (λ p. p < count S) rs
      → FollowedAll d S c ls rs (links_types (λ s c l r. join_impl d s c l r) (λ s c l r. links_impl d s c l r) S c ls rs)
  unfolding links_types links_after
  all_count S s c [] rs al br = no_left
  all_count S s c (l ∷ ls) [] al br = no_right
  all_count S s c (l ∷ ls) (r ∷ rs) al br = go (join_impl_good d S c l r s al.0 br.0) refl (λ S1 j k1 k2. all_count S1 j c ls rs k1 k2)
    where
      go : {m : Result (State × ℕ)} → Post ar S (Joined ar S l r) m → join_impl d S c l r ≡ m
          → ((S1 : State) → Sound ar S1 → All (λ p. p < count S1) ls → All (λ p. p < count S1) rs → FollowedAll d S1 c ls rs (links_types (λ s c l r. join_impl d s c l r) (λ s c l r. links_impl d s c l r) S1 c ls rs))
          → FollowedAll d S c (l ∷ ls) (r ∷ rs) (links_impl d S c l r + links_after m (λ (x : State × ℕ). links_types (λ s c l r. join_impl d s c l r) (λ s c l r. links_impl d s c l r) x.0 c ls rs))
      go (p_ok {s = S1} g j) q k = and_on (h S c l r s al.0 br.0) q (k S1 j.sound (in_later j.above.more_nodes ls al.1) (in_later j.above.more_nodes rs br.1)) refl
      go (p_err g n) q k = plus_zero (λ n. FollowedAll d S c (l ∷ ls) (r ∷ rs) n) (links_impl d S c l r) (then_an_error (h S c l r s al.0 br.0) q)
      go p_refused q k = plus_zero (λ n. FollowedAll d S c (l ∷ ls) (r ∷ rs) n) (links_impl d S c l r) (then_refused (h S c l r s al.0 br.0) q)

  module _ (S : State) (s : Sound ar S) (c : TypingCase) (l r : ℕ) (l_in : l < count S) (r_in : r < count S) where
    abbrev J : JoinImpl
    J s c l r = join_impl d s c l r

    abbrev L : LinksImpl
    L s c l r = links_impl d s c l r

    arm_count : {a : Arm} → Took (type_at S l) (type_at S r) a → arm (type_at S l) (type_at S r) ≡ a → Followed (suc d) S c l r (links_arm J L S c l r a)
    unfolding links_arm links_applies links_fresh links_after parts
    arm_count (took_any_l x) e = nothing e anything_left
    arm_count (took_any_r x) e = nothing e anything_right
    arm_count (took_units el er) e = nothing e two_units
    arm_count (took_refs {m1 = m1} {m2 = m2} {t1 = t1} {t2 = t2} el er) e = go (join_mut c m1 m2) refl
      where
        go : (o : Option Bool) → join_mut c m1 m2 ≡ o → Followed (suc d) S c l r (elim o [ None ↦ 0 | Some mut ↦ links_impl d S c t1 t2 ])
        go None q = nothing e (not_a_subtype q)
        go (Some m) q =
            let b1 : t1 < l = (rw el at (s.parts_below l l_in)).0 in
            let b2 : t2 < r = (rw er at (s.parts_below r r_in)).0 in
            of_references e q (h S c t1 t2 s (omega arith) (omega arith))
    arm_count (took_params el er) e = nothing e two_parameters
    arm_count (took_applies {k1 = k1} {k2 = k2} {n1 = n1} {n2 = n2} {tys1 = tys1} {tys2 = tys2} el er) e = go (same_name n1 n2) refl (same_mark k1 k2) refl
      where
        go : (b : Bool) → same_name n1 n2 ≡ b → (b' : Bool) → same_mark k1 k2 ≡ b' → Followed (suc d) S c l r (if b && b' then links_types J L S c tys1 tys2 else 0)
        go true q true q' =
            let b1 : All (λ p. p < l) tys1 = rw el at (s.parts_below l l_in) in
            let b2 : All (λ p. p < r) tys2 = rw er at (s.parts_below r r_in) in
            of_arguments e q q' (all_count S s c tys1 tys2 (All_map (λ p k. omega arith) tys1 b1) (All_map (λ p k. omega arith) tys2 b2))
        go true q false q' = nothing e (other_marks q')
        go false q b' q' = nothing e (other_names q)
    arm_count (took_vars {id1 = v} {id2 = w} el er) e = go (eqb v w) refl
      where
        go : (b : Bool) → eqb v w ≡ b → Followed (suc d) S c l r (if b then 0 else links_tvar L S c (loc_of S l) v (loc_of S r) w)
        go true q = nothing e (same_variable q)
        go false q = of_a_merge e q (merge_count S s c (loc_of S l) v (loc_of S r) w (s.var_in l v l_in el) (s.var_in r w r_in er))
    arm_count (took_var_l {id = v} el k) e = go (get S v) refl
      where
        new : {m : Result (State × ℕ)} (t : ℕ) → get S v ≡ Some t → Post ar S (NewVar ar S) m → Gives (OneMore S) m → next_tvar S ≡ m
            → Followed (suc d) S c l r (links_after m (λ (x : State × ℕ). links_tvar L (insert x.0 x.1 r) c (loc_of S l) v (loc_of S r) x.1))
        new t q (p_ok {s = S1} {b = f} g n) (g_ok z) y = let a = fresh_ok S s S1 f r r_in k n in of_a_merge_left e q y (merge_count (insert S1 f r) a.0 c (loc_of S l) v (loc_of S r) f (omega (arith, a.2, s.var_in l v l_in el)) a.1)
        new t q (p_err g n) k y = elim k [ ]
        new t q p_refused g_refused y = nothing e (no_room_left y)

        go : (o : Option ℕ) → get S v ≡ o → Followed (suc d) S c l r (elim o [ None ↦ 0 | Some t ↦ links_after (next_tvar S) (λ (x : State × ℕ). links_tvar L (insert x.0 x.1 r) c (loc_of S l) v (loc_of S r) x.1) ])
        go None q = nothing e (free_left q)
        go (Some t) q = new t q (next_tvar_post s) (next_gives S) refl
    arm_count (took_var_r {id = v} k er) e = go (get S v) refl
      where
        new : {m : Result (State × ℕ)} (t : ℕ) → get S v ≡ Some t → Post ar S (NewVar ar S) m → Gives (OneMore S) m → next_tvar S ≡ m
            → Followed (suc d) S c l r (links_after m (λ (x : State × ℕ). links_tvar L (insert x.0 x.1 l) c (loc_of S l) x.1 (loc_of S r) v))
        new t q (p_ok {s = S1} {b = f} g n) (g_ok z) y = let a = fresh_ok S s S1 f l l_in k n in of_a_merge_right e q y (merge_count (insert S1 f l) a.0 c (loc_of S l) f (loc_of S r) v a.1 (omega (arith, a.2, s.var_in r v r_in er)))
        new t q (p_err g n) k y = elim k [ ]
        new t q p_refused g_refused y = nothing e (no_room_right y)

        go : (o : Option ℕ) → get S v ≡ o → Followed (suc d) S c l r (elim o [ None ↦ 0 | Some t ↦ links_after (next_tvar S) (λ (x : State × ℕ). links_tvar L (insert x.0 x.1 l) c (loc_of S l) x.1 (loc_of S r) v) ])
        go None q = nothing e (free_right q)
        go (Some t) q = new t q (next_tvar_post s) (next_gives S) refl
    arm_count (took_error_l x k) e = nothing e error_left
    arm_count (took_error_r k x) e = nothing e error_right
    arm_count took_others e = nothing e incompatible

pub links_counted : {ar : TypeName → ℕ} (depth : ℕ) → Counts ar depth
unfolding links_impl
links_counted zero S c l r s l_in r_in = too_deep_already
links_counted (suc depth) S c l r s l_in r_in = arm_count depth (λ S c l r s l_in r_in. links_counted depth S c l r s l_in r_in) S s c l r l_in r_in (took (type_at S l) (type_at S r)) refl

-- ---- no other number is

none_after : {A : Type 0} {m : Result A} {x : Refusal} (F : A → ℕ) → m ≡ refused x → 0 ≡ links_after m F
unfolding links_after
none_after F q = rw q refl

marks_zero : (x : ℕ) (b : Bool) → 0 ≡ (if b && false then x else 0)
marks_zero x true = refl
marks_zero x false = refl

room_zero : (S : State) (F : State × ℕ → ℕ) {x : Refusal} (o : Option ℕ) → next_tvar S ≡ refused x → ◌≡◌ {A = ℕ} 0 (elim o [ None ↦ 0 | Some t ↦ links_after (next_tvar S) F ])
room_zero S F None q = refl
room_zero S F (Some t) q = none_after F q

none_is : (J : JoinImpl) (L : LinksImpl) {S : State} {c : TypingCase} (l r : ℕ) {a : Arm} → FollowsNone S c a → 0 ≡ links_arm J L S c l r a
unfolding links_arm links_applies links_fresh links_after
none_is J L l r anything_left = refl
none_is J L l r anything_right = refl
none_is J L l r two_units = refl
none_is J L l r two_parameters = refl
none_is J L l r (not_a_subtype q) = rw (q, links_arm) refl
none_is J L l r (other_names q) = rw q refl
none_is J L {S} {c} l r (other_marks {n1 = n1} {n2 = n2} {ts1 = ts1} {ts2 = ts2} q) = rw q (marks_zero (links_types J L S c ts1 ts2) (same_name n1 n2))
none_is J L l r (same_variable q) = rw q refl
none_is J L l r (free_left q) = rw (q, links_arm) refl
none_is J L l r (free_right q) = rw (q, links_arm) refl
none_is J L {S} {c} l r (no_room_left {v = v} q) = room_zero S (λ (x : State × ℕ). links_tvar L (insert x.0 x.1 r) c (loc_of S l) v (loc_of S r) x.1) (get S v) q
none_is J L {S} {c} l r (no_room_right {v = v} q) = room_zero S (λ (x : State × ℕ). links_tvar L (insert x.0 x.1 l) c (loc_of S l) x.1 (loc_of S r) v) (get S v) q
none_is J L l r error_left = refl
none_is J L l r error_right = refl
none_is J L l r incompatible = refl

-- what the types are, by the arm that they take
abbrev Types : TypeValue → TypeValue → Arm → Type 0
Types L R AnythingL = Unit {0}
Types L R AnythingR = Unit {0}
Types L R Units = Unit {0}
Types L R (Refs m1 t1 m2 t2) = (L ≡ Ref m1 t1) × (R ≡ Ref m2 t2)
Types L R (Params id1 id2) = Unit {0}
Types L R (Applies k1 n1 ts1 k2 n2 ts2) = (L ≡ Apply k1 n1 ts1) × (R ≡ Apply k2 n2 ts2)
Types L R (Vars v w) = (L ≡ Var v) × (R ≡ Var w)
Types L R (VarL v) = (L ≡ Var v) × (solid R ≡ true)
Types L R (VarR v) = (solid L ≡ true) × (R ≡ Var v)
Types L R ErrorL = Unit {0}
Types L R ErrorR = Unit {0}
Types L R Others = Unit {0}

types : {L R : TypeValue} {a : Arm} → Took L R a → Types L R a
types (took_any_l x) = tt
types (took_any_r x) = tt
types (took_units x y) = tt
types (took_refs x y) = (x, y)
types (took_params x y) = tt
types (took_applies x y) = (x, y)
types (took_vars x y) = (x, y)
types (took_var_l x y) = (x, y)
types (took_var_r x y) = (x, y)
types (took_error_l x y) = tt
types (took_error_r x y) = tt
types took_others = tt

types_at : (S : State) (l r : ℕ) {a : Arm} → arm (type_at S l) (type_at S r) ≡ a → Types (type_at S l) (type_at S r) a
types_at S l r {a} e = subst (λ (x : Arm). Types (type_at S l) (type_at S r) x) e (types (took (type_at S l) (type_at S r)))

post_get : {B : Type 0} {ar : TypeName → ℕ} {S S1 : State} {b : B} {P : State → B → Type 0} {m : Result (State × B)} → Post ar S P m → m ≡ ok (S1, b) → P S1 b
post_get {B} {S1 = S1} {b = b} {P = P} (p_ok {s = s} {b = x} g p) e =
    let q : ◌≡◌ {A = State × B} (s, x) (S1, b) = cc in
    subst (λ (y : State × B). P y.0 y.1) q p
post_get (p_err g n) e = never (cc)
post_get p_refused e = never (cc)

open_get : {ar : TypeName → ℕ} {S : State} {o : State × ℕ × ℕ × ℕ × ℕ} {m : Result (State × ℕ × ℕ × ℕ × ℕ)} → Opens ar S m → m ≡ ok o → Sound ar o.0 × (o.1 < count o.0) × (o.2 < count o.0)
open_get {ar} {o = o} (op_ok {o = x} s e u a b) q =
    let d : x ≡ o = cc in
    subst (λ (y : State × ℕ × ℕ × ℕ × ℕ). Sound ar y.0 × (y.1 < count y.0) × (y.2 < count y.0)) d (s, a, b)
open_get op_refused q = never (cc)

mutual
  unfolding links_impl links_arm links_applies links_fresh links_after links_tvar links_types parts

  pub followed_one : {ar : TypeName → ℕ} {d : ℕ} {S : State} {c : TypingCase} {l r n : ℕ} → Followed d S c l r n → Sound ar S → l < count S → r < count S → n ≡ links_impl d S c l r
  followed_one too_deep_already s i j = refl
  followed_one (nothing {d = d} {S = S} {c = c} {l = l} {r = r} e f) s i j = rw e (none_is (λ s c l r. join_impl d s c l r) (λ s c l r. links_impl d s c l r) l r f)
  followed_one (of_references {d = d} {S = S} {c = c} {l = l} {r = r} {t1 = t1} {t2 = t2} e q f) s i j =
      let t = types_at S l r e in
      let b1 : t1 < l = (rw t.0 at (s.parts_below l i)).0 in
      let b2 : t2 < r = (rw t.1 at (s.parts_below r j)).0 in
      rw (e, q, links_arm) (followed_one f s (omega arith) (omega arith))
  followed_one (of_arguments {S = S} {l = l} {r = r} {ts1 = ts1} {ts2 = ts2} e q q' f) s i j =
      let t = types_at S l r e in
      let b1 : All (λ p. p < l) ts1 = rw t.0 at (s.parts_below l i) in
      let b2 : All (λ p. p < r) ts2 = rw t.1 at (s.parts_below r j) in
      rw (e, q, q') (all_one f s (All_map (λ p k. omega arith) ts1 b1) (All_map (λ p k. omega arith) ts2 b2))
  followed_one (of_a_merge {S = S} {l = l} {r = r} {v = v} {w = w} e q m) s i j =
      let t = types_at S l r e in
      rw (e, q) (merges_one m s (s.var_in l v i t.0) (s.var_in r w j t.1))
  followed_one (of_a_merge_left {S = S} {S1 = S1} {l = l} {r = r} {v = v} {f = f} e q y m) s i j =
      let t = types_at S l r e in
      let a = fresh_ok S s S1 f r j t.1 (post_get (next_tvar_post s) y) in
      rw (e, q, links_arm, y) (merges_one m a.0 (omega (arith, a.2, s.var_in l v i t.0)) a.1)
  followed_one (of_a_merge_right {S = S} {S1 = S1} {l = l} {r = r} {v = v} {f = f} e q y m) s i j =
      let t = types_at S l r e in
      let a = fresh_ok S s S1 f l i t.0 (post_get (next_tvar_post s) y) in
      rw (e, q, links_arm, y) (merges_one m a.0 a.1 (omega (arith, a.2, s.var_in r v j t.1)))

  merges_one : {ar : TypeName → ℕ} {d : ℕ} {S : State} {c : TypingCase} {loc1 v loc2 w n : ℕ} → Merges d S c loc1 v loc2 w n → Sound ar S → v < taken S → w < taken S → n ≡ links_tvar (λ s c l r. links_impl d s c l r) S c loc1 v loc2 w
  merges_one (both_and_inner {d = d} {S = S} {S1 = S1} {c = c} {loc1 = loc1} {v = v} {loc2 = loc2} {w = w} {t1 = t1} {t2 = t2} a b e f z) s i j =
      let o = open_get (opens s loc1 v loc2 w i j) e in
      z ∙ rw (e, chain_one s i a, chain_one s j b, followed_one f o.0 o.1 o.2) refl
  merges_one (both_and_refused a b e z) s i j = z ∙ rw (e, chain_one s i a, chain_one s j b) (omega arith)

  all_one : {ar : TypeName → ℕ} {d : ℕ} {S : State} {c : TypingCase} {ls rs : List ℕ} {n : ℕ} → FollowedAll d S c ls rs n → Sound ar S → All (λ p. p < count S) ls → All (λ p. p < count S) rs
      → n ≡ links_types (λ s c l r. join_impl d s c l r) (λ s c l r. links_impl d s c l r) S c ls rs
  all_one no_left s al br = refl
  all_one no_right s al br = refl
  all_one (and_on {d = d} {S = S} {S1 = S1} {c = c} {l = l} {r = r} {ls = ls} {rs = rs} f e k z) s al br =
      let j = post_get (join_impl_good d S c l r s al.0 br.0) e in
      z ∙ rw (e, followed_one f s al.0 br.0, all_one k j.sound (in_later j.above.more_nodes ls al.1) (in_later j.above.more_nodes rs br.1)) refl
  all_one (then_an_error f e) s al br = rw (e, followed_one f s al.0 br.0) (omega arith)
  all_one (then_refused f e) s al br = rw (e, followed_one f s al.0 br.0) (omega arith)

-- ---- both at once, of a record's join

pub record Counted (S : State) (l r : ℕ) : Type 0 where
  pub is_followed : Followed max_depth S Join l r (join_links S l r)
  pub alone : (n : ℕ) → Followed max_depth S Join l r n → n ≡ join_links S l r

pub join_links_counted : {ar : TypeName → ℕ} (S : State) → Sound ar S → (l r : ℕ) → l < count S → r < count S → Counted S l r
unfolding join_links
join_links_counted S s l r i j = record { is_followed = links_counted max_depth S Join l r s i j; alone = λ n f. followed_one f s i j }
