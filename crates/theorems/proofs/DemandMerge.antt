-- The merge of two variables: both chain ends are bound to a new variable, which takes the join of their types. Assumes nothing.
-- `Ready` says what holds before the two bindings. From it: which chains change and how, that they still end, that nothing known is lost, and so that the state goes up.
use mathlib.Core.Path.{◌≡◌, refl, sym, ◌∙◌, subst, ap}
use mathlib.Core.Logic.{◌≢◌, ◌⊎◌, inl, inr}
use mathlib.Core.Bool.{true}
use Rattle.std.specs.Prelude.{None, Some}
use Prim.Native.Nat.{ℕ, suc, ◌≤◌, ◌<◌}
use native.Mathlib.Decide.{ℕ_discrete}
use native.Mathlib.Omega.{arith}
use Rattle.definition.specs.Types.{TypeName, Var}
use Rattle.definition.specs.Types.{State}
use Rattle.definition.specs.Store.{count, taken, type_at, get, insert, num_loc, need_of}
use Rattle.definition.specs.Subst.{next_of, as_var, is_anything}
use Rattle.theorems.proofs.Laws.{get_beyond, on_nodes, constraints_insert}
use Rattle.theorems.proofs.Laws.{places_same, get_insert_same, get_insert_other, insert_nodes, value_insert, count_insert, taken_insert, needs_same, is_num_same, need_insert, num_insert}
use Rattle.theorems.proofs.LawsChains.{Within, w_here, w_hop, within_same, next_agree, next_none, next_var}
use Rattle.theorems.proofs.DemandTracks.{Ends, here, hop, solid, r_self, r_var}
use Rattle.theorems.proofs.DemandTracks.{Tracks, t_any, t_var, t_fit, Fits}
use Rattle.theorems.proofs.DemandTracks.{never, solid_any, solid_var, nonvar_var, fits_solid_r, ends_det}
use Rattle.theorems.proofs.DemandOrder.{Sound, Lands, ◌⊑◌, chain_within, bind_solid, fits_keep}
use Rattle.theorems.proofs.DemandOrder.{⊑_trans}
use Rattle.theorems.proofs.DemandSteps.{Quiet, quiet_⊑, chains_from}

-- S: before the merge. P: the new variable f and the nodes n1, n2 that name it are there, nothing is bound yet
pub record Ready (ar : TypeName → ℕ) (S P : State) (e1 e2 f n1 n2 : ℕ) : Type 0 where
  pub before : Sound ar S
  pub sound : Sound ar P
  pub quiet : Quiet S P
  pub end1 : next_of S e1 ≡ None
  pub end2 : next_of S e2 ≡ None
  pub in1 : e1 < taken S
  pub in2 : e2 < taken S
  pub new : taken S ≤ f
  pub f_in : f < taken P
  pub n1_in : n1 < count P
  pub n2_in : n2 < count P
  pub is1 : type_at P n1 ≡ Var f
  pub is2 : type_at P n2 ≡ Var f
  pub need1 : need_of S e1 ≤ need_of P f
  pub need2 : need_of S e2 ≤ need_of P f

module _ {ar : TypeName → ℕ} {S P : State} {e1 e2 f n1 n2 : ℕ} (y : Ready ar S P e1 e2 f n1 n2) where
  abbrev pub tied : State
  tied = insert (insert P e1 n1) e2 n2

  pub val : (i : ℕ) → type_at tied i ≡ type_at P i
  val i = value_insert (insert P e1 n1) e2 n2 i ∙ value_insert P e1 n1 i

  pub cnt : count tied ≡ count P
  cnt = count_insert (insert P e1 n1) e2 n2 ∙ count_insert P e1 n1

  pub tkn : taken tied ≡ taken P
  tkn = taken_insert (insert P e1 n1) e2 n2 ∙ taken_insert P e1 n1

  pub num_tied : (v : ℕ) → num_loc tied v ≡ num_loc P v
  num_tied v = num_insert (insert P e1 n1) e2 n2 v ∙ num_insert P e1 n1 v

  pub need_tied : (v : ℕ) → need_of tied v ≡ need_of P v
  need_tied v = need_insert (insert P e1 n1) e2 n2 v ∙ need_insert P e1 n1 v

  pub get_e2 : get tied e2 ≡ Some n2
  get_e2 = get_insert_same (insert P e1 n1) e2 n2 (omega (arith, taken_insert P e1 n1, y.in2, y.quiet.q_vars))

  pub get_e1 : e1 ≢ e2 → get tied e1 ≡ Some n1
  get_e1 d = get_insert_other (insert P e1 n1) e2 n2 e1 d ∙ get_insert_same P e1 n1 (omega (arith, y.in1, y.quiet.q_vars))

  pub get_rest : (w : ℕ) → w ≢ e1 → w ≢ e2 → get tied w ≡ get P w
  get_rest w a b = get_insert_other (insert P e1 n1) e2 n2 w b ∙ get_insert_other P e1 n1 w a

  pub hop2 : next_of tied e2 ≡ Some f
  hop2 = next_var tied e2 n2 f get_e2 (val n2 ∙ y.is2)

  pub hop1 : next_of tied e1 ≡ Some f
  hop1 = elim (ℕ_discrete e1 e2) [ yes d ↦ subst (λ (w : ℕ). next_of tied w ≡ Some f) (sym d) hop2 | no d ↦ next_var tied e1 n1 f (get_e1 d) (val n1 ∙ y.is1) ]

  pub next_rest : (w : ℕ) → w ≢ e1 → w ≢ e2 → next_of tied w ≡ next_of P w
  next_rest w a b = next_agree P tied w (get_rest w a b) (λ t e. val t)

  -- the three kinds of variable
  data Which (w : ℕ) : Type 0 where
    first : w ≡ e1 → Which w
    second : w ≡ e2 → Which w
    rest : w ≢ e1 → w ≢ e2 → Which w

  which : (w : ℕ) → Which w
  which w = elim (ℕ_discrete w e1) [ yes a ↦ first a | no a ↦ elim (ℕ_discrete w e2) [ yes b ↦ second b | no b ↦ rest a b ] ]

  free_in_S : get S f ≡ None
  free_in_S = get_beyond S f y.new

  stop_f : next_of tied f ≡ None
  stop_f = next_rest f (λ d. omega (arith, y.in1, y.new)) (λ d. omega (arith, y.in2, y.new)) ∙ y.quiet.q_next f ∙ next_none S f free_in_S

  within_tied : {n v : ℕ} → Within P n v → Within tied (suc n) v
  within_tied {n} {v} (w_here h) = go (which v)
    where
      go : Which v → Within tied (suc n) v
      go (first e) = w_hop (subst (λ (w : ℕ). next_of tied w ≡ Some f) (sym e) hop1) (w_here stop_f)
      go (second e) = w_hop (subst (λ (w : ℕ). next_of tied w ≡ Some f) (sym e) hop2) (w_here stop_f)
      go (rest a b) = w_here (next_rest v a b ∙ h)
  within_tied {v = v} (w_hop {w = w} h d) = w_hop (next_rest v (λ e. never (let p : next_of P e1 ≡ Some w = rw e at h in let q = y.quiet.q_next e1 in let r = y.end1 in cc))
      (λ e. never (let p : next_of P e2 ≡ Some w = rw e at h in let q = y.quiet.q_next e2 in let r = y.end2 in cc)) ∙ h) (within_tied d)

  within_P : (v : ℕ) → Within P (taken S) v
  within_P v = elim (native.Mathlib.Decide.dec_lt v (taken S)) [
    | yes l ↦ within_same y.quiet.q_next (chain_within y.before v l)
    | no l ↦ w_here (y.quiet.q_next v ∙ next_none S v (get_beyond S v (omega arith)))
  ]

  pub tied_cases : (w u : ℕ) → get tied w ≡ Some u → (u ≡ n1) ⊎ ((u ≡ n2) ⊎ (get P w ≡ Some u))
  tied_cases w u e = go (which w)
    where
      two : w ≡ e2 → u ≡ n2
      two d = let a : get tied e2 ≡ Some u = rw d at e in let b = get_e2 in cc

      go : Which w → (u ≡ n1) ⊎ ((u ≡ n2) ⊎ (get P w ≡ Some u))
      go (first d) = elim (ℕ_discrete e1 e2) [ yes k ↦ inr (inl (two (d ∙ k))) | no k ↦ inl (let a : get tied e1 ≡ Some u = rw d at e in let b = get_e1 k in cc) ]
      go (second d) = inr (inl (two d))
      go (rest a b) = inr (inr (sym (get_rest w a b) ∙ e))

  pub sound_tied : Sound ar tied
  unfolding is_anything
  sound_tied = record {
    places_in = λ i l. places_same (insert_nodes (insert P e1 n1) e2 n2) i (places_same (insert_nodes P e1 n1) i (y.sound.places_in i (omega (arith, cnt))));
    parts_below = λ i l. rw (val i) (y.sound.parts_below i (omega (arith, cnt)));
    var_in = λ i w l e. omega (arith, tkn, y.sound.var_in i w (omega (arith, cnt)) (sym (val i) ∙ e));
    arity = λ i k n ps l e. y.sound.arity i k n ps (omega (arith, cnt)) (sym (val i) ∙ e);
    bind_in = λ w u e. elim (tied_cases w u e) [ inl d ↦ omega (arith, d, cnt, y.n1_in) | inr (inl d) ↦ omega (arith, d, cnt, y.n2_in) | inr (inr d) ↦ omega (arith, y.sound.bind_in w u d, cnt) ];
    bind_known = λ w u e. elim (tied_cases w u e) [ inl d ↦ rw (val u, d, y.is1) refl | inr (inl d) ↦ rw (val u, d, y.is2) refl | inr (inr d) ↦ rw (val u) (y.sound.bind_known w u d) ];
    chains = chains_from tied (suc (taken S)) (omega (arith, tkn, y.f_in, y.new)) (λ v l. within_tied (within_P v));
    constraints_on = on_nodes (constraints_insert (insert P e1 n1) e2 n2 ∙ constraints_insert P e1 n1) (omega (arith, cnt)) y.sound.constraints_on;
    needs_in = needs_same P tied num_tied need_tied y.sound.needs_in;
  }

pub tracks_solid : {S : State} {x r : ℕ} → Tracks S x r → solid (type_at S x) ≡ true → as_var (type_at S r) ≡ None → Fits S x r
tracks_solid (t_any e) h n = solid_any h e
tracks_solid (t_var ex er a b) h n = solid_var h ex
tracks_solid (t_fit (r_self m) f) h n = f
tracks_solid (t_fit (r_var e d g) f) h n = nonvar_var n e

module _ {ar : TypeName → ℕ} {S P : State} {e1 e2 f n1 n2 : ℕ} (y : Ready ar S P e1 e2 f n1 n2) {S2 S3 : State} (T1 T2 N : ℕ)
    (s2 : Sound ar S2) (s3 : Sound ar S3) (up : tied y ⊑ S2) (q : Quiet S2 S3) (free : get S2 f ≡ None)
    (is_T1 : (t : ℕ) → get S e1 ≡ Some t → t ≡ T1) (is_T2 : (t : ℕ) → get S e2 ≡ Some t → t ≡ T2)
    (track1 : Tracks S2 T1 N) (track2 : Tracks S2 T2 N) (plain : as_var (type_at S2 N) ≡ None) (NIn : N < count S2)
    (bound : solid (type_at S2 N) ≡ true → get S3 f ≡ Some N) where
  up3 : tied y ⊑ S3
  up3 = ⊑_trans (sound_tied y) s2 s3 up (quiet_⊑ s2 s3 q)

  pub end_f : next_of S3 f ≡ None
  end_f = q.q_next f ∙ next_none S2 f free

  pub ends_1 : Ends S3 e1 f
  ends_1 = hop (up3.hops e1 f (hop1 y)) (here end_f)

  pub ends_2 : Ends S3 e2 f
  ends_2 = hop (up3.hops e2 f (hop2 y)) (here end_f)

  kept_2 : (i : ℕ) → i < count S → type_at S2 i ≡ type_at S i
  kept_2 i h = up.kept i (omega (arith, y.quiet.q_nodes, cnt y)) ∙ val y i ∙ y.quiet.q_kept i h

  lands_f : (e T : ℕ) → get S e ≡ Some T → next_of S e ≡ None → Tracks S2 T N → Ends S3 e f → Lands S3 e T
  lands_f e T g n t d =
      let T_in = y.before.bind_in e T g in
      let h : solid (type_at S2 T) ≡ true = rw (kept_2 T T_in) (bind_solid y.before e T g n) in
      let k = tracks_solid t h plain in
      record {
        last = f;
        type = N;
        ends = d;
        bound = bound (fits_solid_r k);
        fits = fits_keep s2 s3 (quiet_⊑ s2 s3 q) k (omega (arith, y.quiet.q_nodes, cnt y, up.more_nodes)) NIn;
      }

  pub merge_up : S ⊑ S3
  merge_up = record {
    more_nodes = omega (arith, y.quiet.q_nodes, cnt y, up3.more_nodes);
    kept = λ i h. up3.kept i (omega (arith, y.quiet.q_nodes, cnt y)) ∙ val y i ∙ y.quiet.q_kept i h;
    more_vars = omega (arith, y.quiet.q_vars, tkn y, up3.more_vars);
    hops = λ v w h. up3.hops v w (next_rest y v (not_1 v w h) (not_2 v w h) ∙ y.quiet.q_next v ∙ h);
    lands = λ e T g n. land e T g n (which y e);
    num_stays = λ v h. up3.num_stays v (is_num_same P (tied y) v (num_tied y v) ∙ y.quiet.q_num v h);
    need_stays = λ v h. up3.need_stays v (omega (arith, y.quiet.q_vars, tkn y)) ∙ need_tied y v ∙ y.quiet.q_need v h;
    end_grows = λ e e' i n d. grows e e' i n d (which y e);
  }
    where
      grows : (e e' : ℕ) → e < taken S → next_of S e ≡ None → Ends S3 e e' → Which y e → need_of S e ≤ need_of S3 e'
      grows e e' i n d (first k) = omega (arith, ap (λ (x : ℕ). need_of S x) k, ap (λ (x : ℕ). need_of S3 x) (ends_det (subst (λ (v : ℕ). Ends S3 v f) (sym k) ends_1) d), y.need1, need_tied y f, up3.need_stays f (omega (arith, y.f_in, tkn y)))
      grows e e' i n d (second k) = omega (arith, ap (λ (x : ℕ). need_of S x) k, ap (λ (x : ℕ). need_of S3 x) (ends_det (subst (λ (v : ℕ). Ends S3 v f) (sym k) ends_2) d), y.need2, need_tied y f, up3.need_stays f (omega (arith, y.f_in, tkn y)))
      grows e e' i n d (rest a b) = omega (arith, y.quiet.q_need e i, need_tied y e, up3.end_grows e e' (omega (arith, y.quiet.q_vars, tkn y)) (next_rest y e a b ∙ y.quiet.q_next e ∙ n) d)

      not_1 : (v w : ℕ) → next_of S v ≡ Some w → v ≢ e1
      not_1 v w h d = never (let p : next_of S e1 ≡ Some w = rw d at h in let r = y.end1 in cc)

      not_2 : (v w : ℕ) → next_of S v ≡ Some w → v ≢ e2
      not_2 v w h d = never (let p : next_of S e2 ≡ Some w = rw d at h in let r = y.end2 in cc)

      land : (e T : ℕ) → get S e ≡ Some T → next_of S e ≡ None → Which y e → Lands S3 e T
      land e T g n (first d) = lands_f e T g n (subst (λ (t : ℕ). Tracks S2 t N) (sym (is_T1 T (rw d at g))) track1) (subst (λ (v : ℕ). Ends S3 v f) (sym d) ends_1)
      land e T g n (second d) = lands_f e T g n (subst (λ (t : ℕ). Tracks S2 t N) (sym (is_T2 T (rw d at g))) track2) (subst (λ (v : ℕ). Ends S3 v f) (sym d) ends_2)
      land e T g n (rest a b) = up3.lands e T (get_rest y e a b ∙ y.quiet.q_get e T g) (next_rest y e a b ∙ y.quiet.q_next e ∙ n)
