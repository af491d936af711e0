-- A numeric variable whose type nothing has decided is u64, or wider where more bits are needed, after solve_constraints; one that is an integer type stays it. Assumes nothing.
-- First that a named type without arguments stays as it is; then the turn of one variable (`Decided`, `Turned`); then all of them by the list (`Solved`).
use mathlib.Core.Path.{◌≡◌, refl, sym, ap, ◌∙◌}
use mathlib.Core.Logic.{◌⊎◌, inl, inr}
use mathlib.Core.Bool.{Bool, true, false}
use mathlib.Core.List.{List, [], ◌∷◌}
use Rattle.std.specs.Prelude.{Option, None, Some}
use Prim.Native.Nat.{ℕ, zero, suc, ◌+◌, ◌*◌, ◌≤◌, ◌<◌}
use native.Mathlib.Decide.{ℕ_discrete}
use native.Mathlib.Omega.{arith}
use lib.Dec.{eqb}
use lib.ListN.{length, get_or, get_or-eq_default}
use Rattle.std.specs.Prelude.{if◌then◌else◌}
use Rattle.definition.specs.Types.{TypeName, Multiple, Builtin, ModuleType, AbilityMark, TypeValue, UnitType, Ref, Param, Apply, Var, Anything, UnresolvedError, Cell, unbound, State, max_nodes, max_vars, max_depth, full, Result, ok, err, refused, ◌>>=◌}
use Rattle.definition.specs.Store.{any_of, count, taken, type_at, spanned, get, num_loc, with_constraints, sp, need_of}
use Rattle.definition.specs.Subst.{parts, as_var, forward, forward_tvar, unfold_var, unfold_type}
use Rattle.definition.specs.Join.{integers, is_numeric, join}
use Rattle.definition.specs.Abilities.{primitives}
use Rattle.definition.specs.Constraints.{num_vars, undecided, is_integer, default_num_var, default_num_vars, solve_all, solve_constraints, default_builtin, default_integer, default_of}
use Rattle.definition.specs.Instantiate.{builtin_tparams}
use Rattle.definition.specs.Write.{Bytes}
use Rattle.definition.specs.Trees.{arity}
use Rattle.definition.specs.Sound.{sound}
use Rattle.definition.specs.Book.{LiteralRule, sv_full, sv_itself, sv_contradicted}
use Rattle.theorems.proofs.Laws.{get_beyond}
use Rattle.theorems.proofs.LawsChains.{next_none}
use Rattle.theorems.proofs.DemandTracks.{never, Ends, here, ends_det, solid_var, nonvar_var, any_var, Head, h_unit, h_ref, h_param, h_apply, r_self, r_var, fits_solid_l, Tracks, t_any, t_var, t_fit, Fits, f_err, f_node, TracksAll, ta_nil, ta_cons}
use Rattle.theorems.proofs.DemandOrder.{Sound, ◌⊑◌, chain, ends_in, ends_keep}
use Rattle.theorems.proofs.DemandSteps.{quiet_⊑}
use Rattle.theorems.proofs.LawsPost.{Grown, grown_refl}
use Rattle.theorems.proofs.DemandCalls.{sp_post, var_ok}
use Rattle.theorems.proofs.DemandMain.{eq_of, join_impl_good}
use Rattle.theorems.proofs.SolveInTurn.{solve_cases}
use Rattle.theorems.proofs.DemandWent.{Went, went_refl, went_trans, went_quiet, quiet_list, sound_cleared, PostS, ps_ok, ps_err, ps_refused, bind_postS}
use Rattle.theorems.proofs.DemandRuns.{Declared, declared_on, Below, below_on, num_vars_below, defaults_went, default_ok}
use Rattle.theorems.proofs.SoundFacts.{facts}
use Rattle.theorems.proofs.Soundness.{sound_is}
use Rattle.theorems.proofs.TotalTakes.{Takes, takes_ok, takes_full}
use Rattle.theorems.proofs.TotalNoFail.{Sure, sure_ok, sure_refused, sure_bind, sure_map, CalmAt, default_sure, defaults_take, no_defaults, integer}
use Rattle.theorems.proofs.DemandRecords.{NoErr, no_ok, no_refused}
use Rattle.theorems.proofs.BookDeep.{numeric}

-- ---- what is a named type without arguments stays it

head_leaf : {k : AbilityMark} {n : TypeName} {L R : TypeValue} {S : State} → Head L R → TracksAll S (parts L) (parts R) → L ≡ Apply k n [] → R ≡ Apply k n []
unfolding parts
head_leaf h_unit ts e = never (cc)
head_leaf (h_ref l) ts e = never (cc)
head_leaf h_param ts e = never (cc)
head_leaf {S = S} (h_apply {k = k} {n = n} {ps = ps} {qs = qs}) ts e =
    let c : ps ≡ [] = cc in
    let d : qs ≡ ps = go ts c ∙ sym c in
    ap (λ (ts : List ℕ). Apply k n ts) d ∙ e
  where
    go : {ps qs : List ℕ} → TracksAll S ps qs → ps ≡ [] → qs ≡ []
    go ta_nil e = refl
    go (ta_cons t ts) e = never (cc)

fits_leaf : {k : AbilityMark} {n : TypeName} {S : State} {x t : ℕ} → Fits S x t → type_at S x ≡ Apply k n [] → type_at S t ≡ Apply k n []
fits_leaf (f_err e h) u = never (cc)
fits_leaf (f_node h ts) u = head_leaf h ts u

-- the variable v is the type
Is : State → ℕ → TypeValue → Type 0
Is S v type = (t : ℕ) × (get S (forward_tvar S v) ≡ Some t) × (type_at S t ≡ type)

IsInt : ℕ → State → ℕ → Type 0
IsInt k S v = Is S v (integer k)

module _ {ar : TypeName → ℕ} {S S' : State} (s : Sound ar S) (s' : Sound ar S') (x : S ⊑ S') where
  leaf_on : (k : AbilityMark) (n : TypeName) (v : ℕ) → v < taken S → Is S v (Apply k n []) → Is S' v (Apply k n [])
  unfolding Is
  leaf_on k n v h (t, g, u) =
      let l = x.lands (forward_tvar S v) t g (s.chains v h) in
      let same : forward_tvar S' v ≡ l.last = ends_det (chain s' v (omega (arith, x.more_vars))) (ends_keep x (chain s v h) l.ends) in
      (l.type, rw same l.bound, fits_leaf l.fits (x.kept t (s.bind_in _ t g) ∙ u))

  int_on : (k v : ℕ) → v < taken S → IsInt k S v → IsInt k S' v
  unfolding IsInt
  int_on k v h u = leaf_on _ _ v h u

  -- variables with one end keep one end
  one_end : (v w : ℕ) → v < taken S → w < taken S → forward_tvar S v ≡ forward_tvar S w → forward_tvar S' v ≡ forward_tvar S' w
  one_end v w h i e =
      let e_in = ends_in s i (chain s w i) in
      let d = chain s' (forward_tvar S w) (omega (arith, x.more_vars)) in
      let dv : Ends S v (forward_tvar S w) = rw e at (chain s v h) in
      ends_det (chain s' v (omega (arith, x.more_vars))) (ends_keep x dv d) ∙ sym (ends_det (chain s' w (omega (arith, x.more_vars))) (ends_keep x (chain s w i) d))

-- ---- one variable

-- a join with an integer type makes it so
tracked_int : {ar : TypeName → ℕ} {S : State} {l r t w k : ℕ} → Sound ar S → w < taken S → Tracks S l t → Tracks S r t → type_at S l ≡ integer k → type_at S r ≡ Var w → IsInt k S w
unfolding IsInt Is
tracked_int s h (t_any e) q u d = never (cc)
tracked_int s h (t_var a b c e) q u d = never (cc)
tracked_int s h (t_fit r f) (t_any e) u d = any_var e d
tracked_int s h (t_fit r f) (t_fit r' f') u d = solid_var (fits_solid_l f') d
tracked_int s h (t_fit (r_self n) f) (t_var a b c e) u d = nonvar_var n b
tracked_int {S = S} {w = w} s h (t_fit (r_var {w = w1} {e = e1} {t = t} v k g) f) (t_var {v = v2} {w = w2} {e = e2} a b c e) u d =
    let p : v2 ≡ w = cc in
    let q : w1 ≡ w2 = cc in
    let ends : e2 ≡ e1 = ends_det e (rw q at k) in
    let same : forward_tvar S w ≡ e2 = ends_det (chain s w h) (rw p at c) in
    (t, rw (same, ends) g, fits_leaf f u)

record Decided (ar : TypeName → ℕ) (S : State) (v loc : ℕ) (S' : State) : Type 0 where
  went : Went ar S S'
  is : undecided (unfold_type S (record { loc = loc; value = Var v })).value ≡ true → Is S' v (default_of S v)

decided : {ar : TypeName → ℕ} {S : State} → Sound ar S → Declared ar S → (v loc : ℕ) → v < taken S → PostS ar S (Decided ar S v loc) (default_num_var S v loc)
unfolding default_num_var join default_of default_integer primitives IsInt
decided {ar} {S} s d v loc h = go (undecided _) refl
  where
    go : (b : Bool) → undecided (unfold_type S (record { loc = loc; value = Var v })).value ≡ b → PostS ar S (Decided ar S v loc) (elim b [
      | false ↦ ok S
      | true ↦ sp S loc (default_of S v) >>= (λ (x : State × ℕ). sp x.0 loc (Var v) >>= (λ (y : State × ℕ). join y.0 x.1 y.1 >>= (λ (z : State × ℕ). ok z.0)))
    ])
    go false e = ps_ok (grown_refl S) (record { went = went_refl s; is = λ f. never (cc) })
    go true e =
        bind_postS _ (sp_post s loc (default_of S v) (default_ok d S v)) (λ S1 l g1 p.
        bind_postS _ (sp_post p.sound loc (Var v) (var_ok v (omega (arith, p.same_vars)))) (λ S2 r g2 q.
        let l_in : l < count S2 = omega (arith, p.t_in, q.quiet.q_nodes) in
        bind_postS _ (join_impl_good max_depth S2 _ l r q.sound l_in q.t_in) (λ S3 t g3 j. ps_ok (grown_refl S3) (record {
          went = went_trans s (went_quiet s p.sound p.quiet) (went_trans p.sound (went_quiet p.sound q.sound q.quiet) (record { sound = j.sound; above = j.above }));
          is = λ f. tracked_int j.sound (omega (arith, p.same_vars, q.same_vars, j.above.more_vars)) j.left j.right (j.above.kept l l_in ∙ q.quiet.q_kept l p.t_in ∙ p.is) (j.above.kept r q.t_in ∙ q.is);
        }))))

-- nothing has decided v, which will be the integer type k; or it is
abbrev Literal : ℕ → State → ℕ → Type 0
Literal k S v = ((get S (forward_tvar S v) ≡ None) × (default_of S v ≡ integer k)) ⊎ IsInt k S v

open_undecided : (S : State) (v loc : ℕ) → get S (forward_tvar S v) ≡ None → undecided (unfold_type S (record { loc = loc; value = Var v })).value ≡ true
unfolding unfold_type unfold_var as_var undecided
open_undecided S v loc e = rw e refl

-- what the turn of w leaves of v
record Turned (ar : TypeName → ℕ) (S : State) (k w v : ℕ) (S' : State) : Type 0 where
  grown : Grown S S'
  went : Went ar S S'
  still : Literal k S' v
  its_turn : w ≡ v → IsInt k S' v

module _ {ar : TypeName → ℕ} {S : State} (s : Sound ar S) (k w loc v : ℕ) (w_in : w < taken S) (v_in : v < taken S) where
  turned : {S' : State} → Literal k S v → Grown S S' → Decided ar S w loc S' → CalmAt S (forward_tvar S w) S' → Turned ar S k w v S'
  unfolding IsInt Is default_of
  turned {S'} (inr u) g d o = let r = int_on s d.went.sound d.went.above k v v_in u in record { grown = g; went = d.went; still = inr r; its_turn = λ e. r }
  turned {S'} (inl (free, chosen)) g d o = go (ℕ_discrete (forward_tvar S v) (forward_tvar S w))
    where
      s' : Sound ar S'
      s' = d.went.sound

      x : S ⊑ S'
      x = d.went.above

      go : Dec (forward_tvar S v ≡ forward_tvar S w) → Turned ar S k w v S'
      go (yes e) =
          let u : Is S' w (default_of S w) = d.is (open_undecided S w loc (sym (ap (get S) e) ∙ free)) in
          let r : IsInt k S' v = (u.0, ap (get S') (one_end s s' x v w v_in w_in e) ∙ u.1, u.2 ∙ ap (λ (z : ℕ). default_integer (need_of S z)) (sym e) ∙ chosen) in
          record { grown = g; went = d.went; still = inr r; its_turn = λ i. r }
      go (no n) =
          let e = forward_tvar S v in
          let free' : get S' e ≡ None = o.only e (ends_in s v_in (chain s v v_in)) n ∙ free in
          let same : forward_tvar S' v ≡ e = ends_det (chain s' v (omega (arith, x.more_vars))) (ends_keep x (chain s v v_in) (here (next_none S' e free'))) in
          record { grown = g; went = d.went; still = inl (ap (get S') same ∙ free', ap (λ (z : ℕ). default_integer (need_of S' z)) same ∙ ap default_integer (x.need_stays e (ends_in s v_in (chain s v v_in))) ∙ chosen); its_turn = λ i. absurd (n (ap (forward_tvar S) (sym i))) }

  turn : Declared ar S → Literal k S v → Sure (Turned ar S k w v) (default_num_var S w loc)
  turn d f = go (decided s d w loc w_in) (default_sure s d w loc w_in)
    where
      go : {m : Result State} → PostS ar S (Decided ar S w loc) m → Sure (CalmAt S (forward_tvar S w)) m → Sure (Turned ar S k w v) m
      go (ps_ok g p) (sure_ok o) = sure_ok (turned f g p o)
      go (ps_err g p) s = elim s [ ]
      go ps_refused sure_refused = sure_refused

-- ---- all of them

abbrev Listed : ℕ → List (ℕ × ℕ) → Type 0
Listed v [] = ⊥
Listed v (p ∷ ps) = (p.0 ≡ v) ⊎ Listed v ps

marked_listed : (cells : List Cell) (k i loc : ℕ) → (get_or cells i unbound).numeric ≡ Some loc → Listed (k + i) (num_vars k cells)
unfolding num_vars
marked_listed [] k i loc e = never (cc)
marked_listed (c ∷ cells) k zero loc e = go c.numeric e
  where
    go : (o : Option ℕ) → o ≡ Some loc → Listed (k + 0) (elim o [ None ↦ num_vars (suc k) cells | Some loc ↦ (k, loc) ∷ num_vars (suc k) cells ])
    go None e = never (cc)
    go (Some l) e = inl (omega arith)
marked_listed (c ∷ cells) k (suc i) loc e = let z : k + suc i ≡ suc k + i = omega arith in rw z (go c.numeric (marked_listed cells (suc k) i loc e))
  where
    go : (o : Option ℕ) → Listed (suc k + i) (num_vars (suc k) cells) → Listed (suc k + i) (elim o [ None ↦ num_vars (suc k) cells | Some loc ↦ (k, loc) ∷ num_vars (suc k) cells ])
    go None m = m
    go (Some l) m = inr m

record Solved (ar : TypeName → ℕ) (S : State) (k v : ℕ) (S' : State) : Type 0 where
  sound_after : Sound ar S'
  more : taken S ≤ taken S'
  is : IsInt k S' v

solved : {ar : TypeName → ℕ} (l : List (ℕ × ℕ)) {S : State} → Sound ar S → Declared ar S → Below (taken S) l → (k v : ℕ) → v < taken S → Literal k S v → IsInt k S v ⊎ Listed v l → Sure (Solved ar S k v) (default_num_vars S l)
unfolding default_num_vars
solved [] {S} s d b k v v_in f (inl u) = sure_ok (record { sound_after = s; more = omega arith; is = u })
solved [] {S} s d b k v v_in f (inr n) = absurd n
solved {ar} ((w, loc) ∷ l) {S} s d b k v v_in f n = sure_bind _ (turn s k w loc v b.0 v_in d f) (λ S1 t.
    let up = t.went.above.more_vars in
    sure_map (λ S2 r. record { sound_after = r.sound_after; more = omega (arith, r.more); is = r.is })
    (solved l t.went.sound (declared_on d t.grown) (below_on up l b.1) k v (omega arith) t.still (next t.went t.its_turn n)))
  where
    next : {S1 : State} → Went ar S S1 → (w ≡ v → IsInt k S1 v) → IsInt k S v ⊎ Listed v ((w, loc) ∷ l) → IsInt k S1 v ⊎ Listed v l
    next x i (inl u) = inl (int_on s x.sound x.above k v v_in u)
    next x i (inr (inl e)) = inl (i e)
    next x i (inr (inr m)) = inr m

-- SV's new list of constraints changes no variable
unfolds_leaf : {ar : TypeName → ℕ} {S : State} → Sound ar S → (k : AbilityMark) (n : TypeName) (v loc : ℕ) → v < taken S → Is S v (Apply k n []) → (unfold_type (with_constraints S []) (record { loc = loc; value = Var v })).value ≡ Apply k n []
unfolding unfold_type unfold_var as_var spanned Is
unfolds_leaf s k n v loc h u = let s' = sound_cleared s in let r = leaf_on s s' (quiet_⊑ s s' (quiet_list s _)) k n v h u in rw r.1 r.2

-- a variable that is looked up with success is taken
get_in : (S : State) (v t : ℕ) → get S v ≡ Some t → v < taken S
get_in S v t e = elim (native.Mathlib.Decide.dec_lt v (taken S)) [ yes l ↦ l | no l ↦ never (let g = get_beyond S v (omega arith) in cc) ]

-- one without binding leads to itself
forward_stays : (S : State) (v n : ℕ) → get S v ≡ None → forward n S v ≡ v
unfolding forward
forward_stays S v zero e = refl
forward_stays S v (suc n) e = rw (next_none S v e, forward) refl

end_in : (S : State) (v t : ℕ) → get S (forward_tvar S v) ≡ Some t → v < taken S
unfolding forward_tvar
end_in S v t e = elim (native.Mathlib.Decide.dec_lt v (taken S)) [ yes l ↦ l | no l ↦ get_in S v t (rw (forward_stays S v (taken S) (get_beyond S v (omega arith))) at e) ]

-- an integer type has no arguments
empty : (ts : List ℕ) → length ts ≡ 0 → ts ≡ []
empty [] e = refl
empty (t ∷ ts) e = absurd (omega arith)

pub no_arguments : (S : State) (n : TypeName) (ts : List ℕ) → is_numeric n ≡ true → length ts ≡ arity S n → ts ≡ []
unfolding is_numeric arity builtin_tparams any_of integers
no_arguments S (Multiple n) ts i e = never (cc)
no_arguments S (ModuleType n) ts i e = never (cc)
no_arguments S (Builtin b) ts i e = go (eqb b 5) refl e
  where
    go : (c : Bool) → eqb b 5 ≡ c → length ts ≡ length {A = ℕ} (if c then 0 ∷ [] else []) → ts ≡ []
    go true d e = never (let z : b ≡ 5 = eq_of b 5 d in let f : false ≡ true = rw z at i in cc)
    go false d e = empty ts e

module _ (S : State) (h : sound S ≡ true) where
  s : Sound (arity S) S
  s = facts S h

  below : Below (taken S) (num_vars 0 S.vars)
  below = num_vars_below 0 S.vars (taken S) (omega arith)

  default_all : Takes S (5 * numeric S) (2 * numeric S) (λ s. s) (λ s. Unit {0}) (default_num_vars S (num_vars 0 S.vars))
  default_all = defaults_take (num_vars 0 S.vars) s (λ n. refl) below

  -- what SV goes on with
  abbrev rest : State → Result (State × Bytes)
  rest s = solve_all s

  pub literal_room : count S + 5 * numeric S ≤ max_nodes → taken S + 2 * numeric S ≤ max_vars → solve_constraints S ≡ refused full → ⊥
  unfolding solve_constraints ◌>>=◌
  literal_room a b e = go (default_num_vars S (num_vars 0 S.vars)) default_all e
    where
      go : (m : Result State) → Takes S (5 * numeric S) (2 * numeric S) (λ s. s) (λ s. Unit {0}) m → (m >>= rest) ≡ refused full → ⊥
      go (ok S') (takes_ok t u) e = solve_cases S' (λ m. m ≡ refused full → ⊥) (λ failures d. never (cc)) (λ d. never (cc)) (λ d. never (cc)) e
      go (err s x) t e = elim t [ ]
      go (refused y) (takes_full f) e = f (record { nodes_left = a; vars_left = b; places_fit = ((sound_is S).0 h).few_args })

  literal_by : (k : AbilityMark) (n : TypeName) (v : ℕ) → v < taken S → Sure (λ S'. Sound (arity S) S' × (taken S ≤ taken S') × Is S' v (Apply k n [])) (default_num_vars S (num_vars 0 S.vars))
      → LiteralRule v (Apply k n []) (solve_constraints S)
  unfolding solve_constraints LiteralRule ◌>>=◌
  literal_by k n v v_in r = go (default_num_vars S (num_vars 0 S.vars)) r default_all
    where
      go : (m : Result State) → Sure (λ S'. Sound (arity S) S' × (taken S ≤ taken S') × Is S' v (Apply k n [])) m → Takes S (5 * numeric S) (2 * numeric S) (λ s. s) (λ s. Unit {0}) m → LiteralRule v (Apply k n []) (m >>= rest)
      go (ok S') (sure_ok p) t = solve_cases S' (LiteralRule v (Apply k n [])) (λ failures loc. unfolds_leaf p.0 k n v loc (omega (arith, v_in, p.1)) p.2) sv_itself sv_contradicted
      go (err s x) p t = elim p [ ]
      go (refused x) p (takes_full f) = sv_full

  pub literal : (v loc : ℕ) → num_loc S v ≡ Some loc → get S (forward_tvar S v) ≡ None → LiteralRule v (default_of S v) (solve_constraints S)
  unfolding num_loc IsInt default_of default_integer primitives
  literal v loc e free = literal_by (Some 7) (Builtin (default_builtin (need_of S (forward_tvar S v)))) v v_in (sure_map (λ S' p. (p.sound_after, p.more, p.is)) (solved (num_vars 0 S.vars) s (λ n. refl) below _ v v_in (inl (free, refl)) (inr listed)))
    where
      v_in : v < taken S
      v_in = elim (native.Mathlib.Decide.dec_lt v (taken S)) [ yes l ↦ l | no l ↦ never (let d : (get_or S.vars v unbound).numeric ≡ None = ap (λ (c : Cell). c.numeric) (get_or-eq_default S.vars unbound (omega arith)) in cc) ]

      listed : Listed v (num_vars 0 S.vars)
      listed = let z : 0 + v ≡ v = omega arith in rw z at (marked_listed S.vars 0 v loc e)

  -- ---- a decided one

  went_sure : {m : Result State} → NoErr m → PostS (arity S) S (Went (arity S) S) m → Sure (Went (arity S) S) m
  went_sure no_ok (ps_ok g w) = sure_ok w
  went_sure no_refused ps_refused = sure_refused

  integer_stays : (v T : ℕ) (t : TypeValue) → get S (forward_tvar S v) ≡ Some T → type_at S T ≡ t → is_integer t ≡ true → LiteralRule v t (solve_constraints S)
  unfolding is_integer Is
  integer_stays v T UnitType g e i = never (cc)
  integer_stays v T (Ref m t) g e i = never (cc)
  integer_stays v T (Param id a) g e i = never (cc)
  integer_stays v T (Var w) g e i = never (cc)
  integer_stays v T Anything g e i = never (cc)
  integer_stays v T UnresolvedError g e i = never (cc)
  integer_stays v T (Apply k n ts) g e i =
      let v_in = end_in S v T g in
      let c : ts ≡ [] = no_arguments S n ts i (s.arity T k n ts (s.bind_in _ T g) e) in
      rw c (literal_by k n v v_in (sure_map (λ S' w. (w.sound, w.above.more_vars, leaf_on s w.sound w.above k n v v_in (T, g, rw c at e)))
      (went_sure (no_defaults (num_vars 0 S.vars) s (λ n. refl) below) (defaults_went (num_vars 0 S.vars) s (λ n. refl) below))))

  pub decided_literal : (v loc : ℕ) (t : TypeValue) → (unfold_type S (record { loc = loc; value = Var v })).value ≡ t → is_integer t ≡ true → LiteralRule v t (solve_constraints S)
  unfolding unfold_type unfold_var as_var spanned is_integer
  decided_literal v loc t e i = go (get S (forward_tvar S v)) refl e
    where
      go : (o : Option ℕ) → get S (forward_tvar S v) ≡ o → (unfold_var S loc o).value ≡ t → LiteralRule v t (solve_constraints S)
      go None g d = never (let z : false ≡ true = rw (← d) at i in cc)
      go (Some T) g d = integer_stays v T t g d i
