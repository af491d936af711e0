-- The types of a record placed, type arguments instantiated, constraints solved: each of these runs only goes up. Assumes nothing.
-- Placing by the tree, type arguments by the list with the one-deeper run left open, constraints by the list; each step by Went's rules.
use mathlib.Core.Path.{◌≡◌, refl, sym, ap, ◌∙◌}
use mathlib.Core.Bool.{Bool, true, false}
use mathlib.Core.List.{List, [], ◌∷◌}
use Rattle.std.specs.Prelude.{Option, None, Some, if◌then◌else◌}
use Prim.Native.Nat.{ℕ, zero, suc, ◌+◌, ◌≤◌, ◌<◌}
use native.Mathlib.Omega.{arith}
use lib.ListN.{length, length-map, length-replicate}
use Rattle.definition.specs.Types.{TypeName, Multiple, Builtin, ModuleType, TypeValue, UnitType, Ref, Param, Apply, Var, Anything, UnresolvedError, AbilityConstraint, State, Cell}
use Rattle.definition.specs.Store.{count, taken, type_at, loc_of, map_types, need_of}
use Rattle.definition.specs.Types.{Result}
use Rattle.definition.specs.Subst.{parts, forward_tvar}
use Rattle.definition.specs.Trees.{Tree, Trees, arity}
use Rattle.definition.specs.Build.{build, build_all}
use Rattle.definition.specs.Instantiate.{tvar_constraint, builtin_tparams, struct_tparams, tparam_constraints, make_tparams, join_args, instantiate_type_args, instantiate_apply, instantiate_value, instantiate_down, instantiate}
use Rattle.definition.specs.Abilities.{primitives}
use Rattle.definition.specs.Constraints.{num_vars, undecided, default_num_var, default_num_vars, default_builtin, default_integer, default_of}
use Rattle.theorems.proofs.Laws.{type_on}
use Rattle.theorems.proofs.DemandOrder.{All, All_map, Sound, ◌⊑◌}
use Rattle.theorems.proofs.DemandSteps.{NodeOk}
use Rattle.theorems.proofs.LawsPost.{Grown, grown_refl, Post, p_ok, p_refused, post_map, bind_post}
use Rattle.theorems.proofs.DemandCalls.{var_ok}
use Rattle.theorems.proofs.DemandMain.{in_later}
use Rattle.theorems.proofs.SoundRead.{size, Fine, fine_unit, fine_anything, fine_error, fine_ref, fine_param, fine_apply, fine_var, Fines, fine_none, fine_then}
use Rattle.theorems.proofs.DemandWent.{Went, WentTo, went_refl, went_trans, went_of, went_on, PostS, ps_ok, postS_map, bindS_post, bind_postS, bindS_postS}
use Rattle.theorems.proofs.DemandWent.{sp_went, make_tvar_went, add_went, join_went, ref_ok, apply_ok, unit_ok, any_ok, error_ok, param_ok}
use lib.Dec.{leb}

pub record WentAll (ar : TypeName → ℕ) (S : State) (n : ℕ) (S' : State) (ts : List ℕ) : Type 0 where
  pub sound : Sound ar S'
  pub above : S ⊑ S'
  pub ts_in : All (λ t. t < count S') ts
  pub many : length ts ≡ n

-- one more in front
cons_went : {ar : TypeName → ℕ} {S S1 S2 : State} {t n : ℕ} {ts : List ℕ} → Sound ar S → WentTo ar S S1 t → WentAll ar S1 n S2 ts → WentAll ar S (suc n) S2 (t ∷ ts)
cons_went s a b = let w = went_trans s (went_of a) (record { sound = b.sound; above = b.above }) in
    record { sound = w.sound; above = w.above; ts_in = (omega (arith, a.t_in, b.above.more_nodes), b.ts_in); many = ap suc b.many }

none_went : {ar : TypeName → ℕ} {S : State} → Sound ar S → WentAll ar S 0 S []
none_went s = record { sound = s; above = (went_refl s).above; ts_in = tt; many = refl }

-- ---- placing

module _ {ar : TypeName → ℕ} {vars : ℕ} where
  mutual
    unfolding build build_all

    pub place_went : {t : Tree} → Fine ar vars t → {S : State} → Sound ar S → vars ≤ taken S → Post ar S (WentTo ar S) (build t S)
    place_went (fine_unit {loc = loc}) s h = sp_went s loc UnitType unit_ok
    place_went (fine_anything {loc = loc}) s h = sp_went s loc Anything any_ok
    place_went (fine_error {loc = loc}) s h = sp_went s loc UnresolvedError error_ok
    place_went (fine_ref {loc = loc} {mut = mut} f) s h = bind_post _ (place_went f s h) (λ S1 t g w. post_map (λ S2 n g2 w2. went_on s (went_of w) w2) (sp_went w.sound loc (Ref mut t) (ref_ok mut t w.t_in)))
    place_went (fine_param {loc = loc} {id = id} {abilities = a}) s h = sp_went s loc (Param id a) (param_ok id a)
    place_went (fine_apply {loc = loc} {k = k} {n = n} fs e) s h =
        bind_post _ (place_all_went fs s h) (λ S1 ts g w. post_map (λ S2 t g2 w2. went_on s (record { sound = w.sound; above = w.above }) w2) (sp_went w.sound loc (Apply k n ts) (apply_ok k n ts w.ts_in (w.many ∙ e))))
    place_went (fine_var {loc = loc} {v = v} l) s h = sp_went s loc (Var v) (var_ok v (omega arith))

    pub place_all_went : {ts : Trees} → Fines ar vars ts → {S : State} → Sound ar S → vars ≤ taken S → Post ar S (WentAll ar S (size ts)) (build_all ts S)
    place_all_went fine_none {S} s h = p_ok (grown_refl S) (none_went s)
    place_all_went (fine_then f fs) s h =
        bind_post _ (place_went f s h) (λ S1 t g w. bind_post _ (place_all_went fs w.sound (omega (arith, w.above.more_vars))) (λ S2 ts g2 w2. p_ok (grown_refl S2) (cons_went s w w2)))

-- ---- numeric variables that are taken

abbrev pub Below : ℕ → List (ℕ × ℕ) → Type 0
Below k [] = Unit {0}
Below k (p ∷ ps) = (p.0 < k) × Below k ps

pub below_on : {a b : ℕ} → a ≤ b → (l : List (ℕ × ℕ)) → Below a l → Below b l
below_on h [] p = tt
below_on h (x ∷ l) p = (omega (arith, p.0), below_on h l p.1)

pub num_vars_below : (v : ℕ) (cells : List Cell) (k : ℕ) → v + length cells ≤ k → Below k (num_vars v cells)
unfolding num_vars
num_vars_below v [] k h = tt
num_vars_below v (c ∷ cells) k h = go c.numeric (num_vars_below (suc v) cells k (omega arith))
  where
    go : (o : Option ℕ) → Below k (num_vars (suc v) cells) → Below k (elim o [ None ↦ num_vars (suc v) cells | Some loc ↦ (v, loc) ∷ num_vars (suc v) cells ])
    go None b = b
    go (Some loc) b = (omega arith, b)

-- ---- instantiate

-- the number of constraints for a name's arguments is its arity
pub tparams_many : (s : State) (n : TypeName) → length (tparam_constraints s n) ≡ arity s n
unfolding tparam_constraints arity
tparams_many s (Multiple n) = length-replicate n 0
tparams_many s (Builtin b) = refl
tparams_many s (ModuleType n) = length-map (struct_tparams s n) _

pub arity_same : (s s' : State) → s'.structs ≡ s.structs → (n : TypeName) → arity s' n ≡ arity s n
unfolding arity struct_tparams
arity_same s s' e (Multiple n) = refl
arity_same s s' e (Builtin b) = refl
arity_same s s' e (ModuleType n) = rw e refl

pub tvar_on : (n : TypeName) (loc t : ℕ) → type_on (tvar_constraint n loc t) ≡ t
unfolding tvar_constraint
tvar_on (Multiple n) loc t = refl
tvar_on (Builtin b) loc t = refl
tvar_on (ModuleType n) loc t = refl

-- ar is the arity by the declarations of S
abbrev pub Declared : (TypeName → ℕ) → State → Type 0
Declared ar S = (n : TypeName) → arity S n ≡ ar n

pub declared_on : {ar : TypeName → ℕ} {S S' : State} → Declared ar S → Grown S S' → Declared ar S'
declared_on {S = S} {S' = S'} d g n = arity_same S S' g.g_structs n ∙ d n

abbrev pub Inst : (TypeName → ℕ) → (State → ℕ → Result (State × ℕ)) → Type 0
Inst ar f = (S : State) (ty : ℕ) → Sound ar S → Declared ar S → ty < count S → Post ar S (WentTo ar S) (f S ty)

module _ {ar : TypeName → ℕ} where
  pub make_tparams_went : (loc : ℕ) (n : TypeName) (tys abilities : List ℕ) → {S : State} → Sound ar S → length tys ≡ length abilities → Post ar S (WentAll ar S (length tys)) (make_tparams S loc n tys abilities)
  unfolding make_tparams
  make_tparams_went loc n [] abilities {S} s e = p_ok (grown_refl S) (none_went s)
  make_tparams_went loc n (ty ∷ tys) [] s e = absurd (omega arith)
  make_tparams_went loc n (ty ∷ tys) (a ∷ abilities) {S} s e =
      bind_post _ (make_tvar_went s (loc_of S ty)) (λ S1 t g1 w1.
      bindS_post _ (add_went w1.sound (AbilityConstraint loc t a) w1.t_in) (λ S2 g2 w2.
      bindS_post _ (add_went w2.sound (tvar_constraint n loc t) (rw (tvar_on n loc t) (omega (arith, w1.t_in, w2.above.more_nodes)))) (λ S3 g3 w3.
      let w13 = went_trans w1.sound w2 w3 in
      let w03 : WentTo ar S S3 t = let w = went_trans s (went_of w1) w13 in record { sound = w.sound; above = w.above; t_in = omega (arith, w1.t_in, w13.above.more_nodes) } in
      bind_post _ (make_tparams_went loc n tys abilities w3.sound (omega arith)) (λ S4 ts g4 w4. p_ok (grown_refl S4) (cons_went s w03 w4)))))

  map_went : (f : State → ℕ → Result (State × ℕ)) → Inst ar f → (tys : List ℕ) → {S : State} → Sound ar S → Declared ar S → All (λ t. t < count S) tys → Post ar S (WentAll ar S (length tys)) (map_types f S tys)
  unfolding map_types
  map_went f h [] {S} s d a = p_ok (grown_refl S) (none_went s)
  map_went f h (ty ∷ tys) {S} s d a =
      bind_post _ (h S ty s d a.0) (λ S1 t g1 w1.
      bind_post _ (map_went f h tys w1.sound (declared_on d g1) (in_later w1.above.more_nodes tys a.1)) (λ S2 ts g2 w2. p_ok (grown_refl S2) (cons_went s w1 w2)))

  join_args_went : (tvars tys : List ℕ) → {S : State} → Sound ar S → All (λ t. t < count S) tvars → All (λ t. t < count S) tys → length tvars ≡ length tys → Post ar S (WentAll ar S (length tvars)) (join_args S tvars tys)
  unfolding join_args
  join_args_went [] tys {S} s a b e = p_ok (grown_refl S) (none_went s)
  join_args_went (v ∷ vs) [] s a b e = absurd (omega arith)
  join_args_went (v ∷ vs) (t ∷ ts) {S} s a b e =
      bind_post _ (join_went s v t a.0 b.0) (λ S1 u g1 w1.
      bind_post _ (join_args_went vs ts w1.sound (in_later w1.above.more_nodes vs a.1) (in_later w1.above.more_nodes ts b.1) (omega arith)) (λ S2 us g2 w2. p_ok (grown_refl S2) (cons_went s w1 w2)))

  pub type_args_went : (f : State → ℕ → Result (State × ℕ)) → Inst ar f → (loc : ℕ) (n : TypeName) (tys abilities : List ℕ) → {S : State} → Sound ar S → Declared ar S → All (λ t. t < count S) tys
      → length tys ≡ length abilities → Post ar S (WentAll ar S (length tys)) (instantiate_type_args f S loc n tys abilities)
  unfolding instantiate_type_args
  type_args_went f h loc n tys abilities {S} s d a e =
      bind_post _ (make_tparams_went loc n tys abilities s e) (λ S1 vs g1 w1.
      bind_post _ (map_went f h tys w1.sound (declared_on d g1) (in_later w1.above.more_nodes tys a)) (λ S2 ts g2 w2.
      post_map (λ S3 us g3 w3.
      let w = went_trans s (record { sound = w1.sound; above = w1.above }) (went_trans w1.sound (record { sound = w2.sound; above = w2.above }) (record { sound = w3.sound; above = w3.above })) in
      record { sound = w3.sound; above = w.above; ts_in = w3.ts_in; many = w3.many ∙ w1.many })
      (join_args_went vs ts w2.sound (in_later w2.above.more_nodes vs w1.ts_in) w2.ts_in (w1.many ∙ sym w2.many))))

  value_went : (f : State → ℕ → Result (State × ℕ)) → Inst ar f → {S : State} → Sound ar S → Declared ar S → (ty : ℕ) → ty < count S → (x : TypeValue) → type_at S ty ≡ x
      → Post ar S (WentTo ar S) (instantiate_value f S ty (loc_of S ty) x)
  unfolding instantiate_value instantiate_apply parts
  value_went f h {S} s d ty i UnitType e = p_ok (grown_refl S) (record { sound = s; above = (went_refl s).above; t_in = i })
  value_went f h {S} s d ty i UnresolvedError e = p_ok (grown_refl S) (record { sound = s; above = (went_refl s).above; t_in = i })
  value_went f h {S} s d ty i Anything e = make_tvar_went s (loc_of S ty)
  value_went f h {S} s d ty i (Ref m t) e =
      let b : t < ty = (rw e at (s.parts_below ty i)).0 in
      bindS_post _ (add_went s _ (omega arith)) (λ S1 g1 w1.
      bind_post _ (h S1 t w1.sound (declared_on d g1) (omega (arith, w1.above.more_nodes))) (λ S2 u g2 w2.
      post_map (λ S3 v g3 w3. went_on s w1 (went_on w1.sound (went_of w2) w3)) (sp_went w2.sound (loc_of S ty) (Ref m u) (ref_ok m u w2.t_in))))
  value_went f h {S} s d ty i (Apply k n tys) e =
      let b : All (λ p. p < ty) tys = rw e at (s.parts_below ty i) in
      let ar_n : length tys ≡ ar n = s.arity ty k n tys i e in
      bind_post _ (type_args_went f h (loc_of S ty) n tys (tparam_constraints S n) s d (All_map (λ p l. omega arith) tys b) (ar_n ∙ sym (d n) ∙ sym (tparams_many S n))) (λ S1 ts g1 w1.
      post_map (λ S2 t g2 w2. went_on s (record { sound = w1.sound; above = w1.above }) w2) (sp_went w1.sound (loc_of S ty) (Apply k n ts) (apply_ok k n ts w1.ts_in (w1.many ∙ ar_n))))
  value_went f h {S} s d ty i (Param id a) e = p_ok (grown_refl S) (record { sound = s; above = (went_refl s).above; t_in = i })
  value_went f h {S} s d ty i (Var v) e = p_refused

  pub instantiate_down_went : (n : ℕ) → Inst ar (instantiate_down n)
  unfolding instantiate_down
  instantiate_down_went zero S ty s d i = p_refused
  instantiate_down_went (suc n) S ty s d i = value_went (λ s t. instantiate_down n s t) (λ S ty s d i. instantiate_down_went n S ty s d i) s d ty i (type_at S ty) refl

  pub instantiate_went : Inst ar instantiate
  unfolding instantiate
  instantiate_went S ty s d i = instantiate_down_went _ S ty s d i

  -- ---- solve_constraints

  pub default_ok : {S : State} → Declared ar S → (S' : State) (v : ℕ) → NodeOk ar S (default_of S' v)
  unfolding default_of default_integer default_builtin primitives arity builtin_tparams
  default_ok {S} d S' v = go (leb (need_of S' (forward_tvar S' v)) 64) (leb (need_of S' (forward_tvar S' v)) 128)
    where
      go : (a b : Bool) → NodeOk ar S (Apply (Some 7) (Builtin (if a then 3 else if b then 4 else 9)) [])
      go true b = apply_ok _ _ [] tt (d _)
      go false true = apply_ok _ _ [] tt (d _)
      go false false = apply_ok _ _ [] tt (d _)

  boolS_post : {S : State} {P : State → Type 0} (b : Bool) {x y : Result State} → PostS ar S P x → PostS ar S P y → PostS ar S P (elim b [ false ↦ x | true ↦ y ])
  boolS_post false f g = f
  boolS_post true f g = g

  pub default_went : (v loc : ℕ) → {S : State} → Sound ar S → Declared ar S → v < taken S → PostS ar S (Went ar S) (default_num_var S v loc)
  unfolding default_num_var
  default_went v loc {S} s d h = boolS_post (undecided _) (ps_ok (grown_refl S) (went_refl s))
      (bind_postS _ (sp_went s loc (default_of S v) (default_ok d S v)) (λ S1 l g1 w1.
      bind_postS _ (sp_went w1.sound loc (Var v) (var_ok v (omega (arith, w1.above.more_vars)))) (λ S2 r g2 w2.
      bind_postS _ (join_went w2.sound l r (omega (arith, w1.t_in, w2.above.more_nodes)) w2.t_in) (λ S3 t g3 w3.
      ps_ok (grown_refl S3) (went_trans s (went_of w1) (went_trans w1.sound (went_of w2) (went_of w3)))))))

  pub defaults_went : (l : List (ℕ × ℕ)) → {S : State} → Sound ar S → Declared ar S → Below (taken S) l → PostS ar S (Went ar S) (default_num_vars S l)
  unfolding default_num_vars
  defaults_went [] {S} s d h = ps_ok (grown_refl S) (went_refl s)
  defaults_went ((v, loc) ∷ l) s d h =
      bindS_postS _ (default_went v loc s d h.0) (λ S1 g1 w1. postS_map (λ S2 g2 w2. went_trans s w1 w2) (defaults_went l w1.sound (declared_on d g1) (below_on w1.above.more_vars l h.1)))
