-- Every call of a run, walked once: it refuses with 7 to 13 and 16 alone, with 9 only where a walk runs out of steps or SV meets it, with 16 only there, and where a claim H says that the state and the record are in range, so is what it leaves.
-- Assumes nothing.
-- `Ends` is the one relation of a run's result, with rules for bind, if and elim. It goes through the definition's calls in their order; joins and walks by their depth.
use mathlib.Core.Path.{◌≡◌, refl}
use mathlib.Core.Bool.{Bool, true, false, not, ◌&&◌}
use mathlib.Core.List.{List, [], ◌∷◌, map}
use Rattle.std.specs.Prelude.{Option, None, Some}
use Prim.Native.Nat.{ℕ, zero, suc, ◌*◌, ◌%◌}
use native.Mathlib.Omega.{arith}
use lib.ListN.{replicate, length}
use lib.Dec.{eqb, leb}
use Rattle.std.specs.Prelude.{if◌then◌else◌}
use Rattle.definition.specs.Types.{max_builtin, TypeName, Multiple, Builtin, ModuleType, TypeValue, UnitType, Ref, Param, Apply, Var, Anything, UnresolvedError, State, Cell, TypingError, max_depth}
use Rattle.definition.specs.Types.{Constraint, AbilityConstraint}
use Rattle.definition.specs.Types.{Refusal, full, too_deep, runs_into_itself, abilities_disagree, open_variable, no_argument, parameter_twice, mark_contradicted, already_expanded, Result, ok, err, refused, ◌>>=◌, answer_too_long}
use Rattle.definition.specs.Store.{any_of, count, type_at, loc_of, get, num_loc, sp, next_tvar, add_constraint, declare, map_types, need_of}
use Rattle.definition.specs.Subst.{is_anything, forward_tvar, reaches_itself, ready_value, ready, ready_tvars}
use Rattle.definition.specs.Join.{integers, TypingCase, Join, Subtype, JoinImpl, is_numeric, check_num_tvar, used, join_bind_tvar, type_of, shown, merge_num, join_tvar, join_impl_types}
use Rattle.definition.specs.Join.{Arm, join_mut, join_loc, join_refs, same_name, is_multiple, same_mark, join_applies, join_unbound, join_arm, join_impl, join, subtype, larger}
use Rattle.definition.specs.TParams.{TParamSubst, arg_of, make_tparam_subst, subst_value, subst_down, subst_tparams}
use Rattle.definition.specs.Instantiate.{make_tvar, tvar_constraint, builtin_tparams, struct_tparams, tparam_constraints, make_tparams, join_args, instantiate_type_args, instantiate_apply, instantiate_value, instantiate_down, instantiate}
use Rattle.definition.specs.Abilities.{primitives, has}
use Rattle.definition.specs.Constraints.{num_vars, undecided, default_num_var, default_num_vars, solve_constraints, default_builtin, default_integer, default_of}
use Rattle.definition.specs.Trees.{Tree, unit_tree, anything_tree, error_tree, ref_tree, param_tree, apply_tree, var_tree, Trees, no_trees, ◌then◌, has_drop, mark_fits, is_set, is_mark, is_name}
use Rattle.definition.specs.Abilities.{infer_abilities}
use Rattle.definition.specs.Write.{Bytes, head}
use Rattle.definition.specs.Expand.{Expanded, expand_types, under, expand_marked, expand_value, expand, expand_type}
use Rattle.definition.specs.Record.{NumericKind, Numeric, Bits, Ordered, Record, SD, FV, NV, SN, JN, SU, UF, RD, IN, TS, NC, BC, SC, SV, RM, CN, XP, NL, MJ, UL, JL, KP}
use Rattle.definition.specs.Build.{build, build_all, build_pairs, build_many}
use Rattle.definition.specs.Write.{Bytes, write_error}
use Rattle.definition.specs.Needs.{Needs, needs}
use Rattle.definition.specs.Sound.{numeric_allowed}
use Rattle.definition.specs.Step.{number_of_error, refusal, put_back, max_payload, answer_with, answer_within, answer, numeric_constraint, constrain, two_types, tell, pair_answer, run_pairs, run, behind, unfolded}
use Rattle.theorems.proofs.DemandOrder.{All}
use Rattle.theorems.proofs.Soundness.{le_test}
use Rattle.theorems.proofs.SoundRoom.{with_room, sp_room, tvar_room, constraint_room, struct_room}
use Rattle.theorems.proofs.DemandMain.{Took, took, took_any_l, took_any_r, took_units, took_refs, took_params, took_applies, took_vars, took_var_l, took_var_r, took_error_l, took_error_r, took_others}
use Rattle.theorems.proofs.SoundRanges.{U32, ShapeIn, CellIn, ConstraintIn, StructIn, Ranges, declare_ranges, loc_of_in, value_in, name_in, cell_in, node_ranges, var_ranges, insert_ranges, add_ranges, num_var_ranges, merge_ranges, cleared_ranges, literal_ranges, needs_of, put_back_ranges}
use Rattle.theorems.proofs.SolveInTurn.{solve_cases}
use Rattle.theorems.proofs.KeepRanges.{keep_ranges}
use Rattle.theorems.proofs.SoundRead.{TreeIn, TreesIn, RecordIn}
use Rattle.theorems.proofs.Laws.{larger_most, needs_most}

-- 7 to 13 and 16, of which 9 and 16 only if z
pub data RunTime (z : Bool) : Refusal → Type 0 where
  seven : RunTime z full
  eight : RunTime z too_deep
  nine : z ≡ true → RunTime z runs_into_itself
  ten : RunTime z abilities_disagree
  eleven : RunTime z open_variable
  twelve : RunTime z no_argument
  thirteen : RunTime z parameter_twice
  sixteen : z ≡ true → RunTime z mark_contradicted
  seventeen : z ≡ true → RunTime z already_expanded

-- a success has P, an error is met in a state that has E
pub data Ends {A : Type 0} (z : Bool) (E : State → Type 0) (P : A → Type 0) : Result A → Type 0 where
  e_ok : {a : A} → P a → Ends z E P (ok a)
  e_err : {s : State} {e : TypingError} → E s → Ends z E P (err s e)
  e_refused : {x : Refusal} → RunTime z x → Ends z E P (refused x)

pub bind : {A B : Type 0} {z : Bool} {E : State → Type 0} {P : A → Type 0} {Q : B → Type 0} {m : Result A} (f : A → Result B) → Ends z E P m → ((a : A) → P a → Ends z E Q (f a)) → Ends z E Q (m >>= f)
unfolding ◌>>=◌
bind f (e_ok {a = a} p) h = h a p
bind f (e_err p) h = e_err p
bind f (e_refused r) h = e_refused r

pub either : {A : Type 0} {z : Bool} {E : State → Type 0} {P : A → Type 0} (b : Bool) {x y : Result A} → (b ≡ true → Ends z E P x) → (b ≡ false → Ends z E P y) → Ends z E P (if b then x else y)
either true p q = p refl
either false p q = q refl

pub maybe : {A : Type 0} {z : Bool} {E : State → Type 0} {P : A → Type 0} (o : Option ℕ) {x : Result A} {f : ℕ → Result A} → Ends z E P x → ((t : ℕ) → Ends z E P (f t)) → Ends {A = A} z E P (elim o [ None ↦ x | Some t ↦ f t ])
maybe None p q = p
maybe (Some t) p q = q t

-- ---- XP: it takes nothing, so of the state nothing is asked
module _ (z : Bool) (y : z ≡ true) (E : State → Type 0) where
  abbrev Expands : Result Expanded → Type 0
  Expands m = Ends z E (λ x. Unit {0}) m

  expand_types_run : (f : ℕ → Result Expanded) → ((t : ℕ) → Expands (f t)) → (ts : List ℕ) → Expands (expand_types f ts)
  unfolding expand_types
  expand_types_run f h [] = e_ok tt
  expand_types_run f h (t ∷ ts) = bind _ (h t) (λ a i. bind _ (expand_types_run f h ts) (λ b j. e_ok tt))

  under_run : (head : Bytes) {m : Result Expanded} → Expands m → Expands (under head m)
  unfolding under
  under_run head p = bind _ p (λ a i. e_ok tt)

  marked_run : (n : TypeName) {m : Result Expanded} → Expands m → Expands (expand_marked n m)
  unfolding expand_marked
  marked_run (Builtin b) p = p
  marked_run (Multiple len) p = e_refused (seventeen y)
  marked_run (ModuleType m) p = e_refused (seventeen y)

  expand_value_run : (f : ℕ → Result Expanded) → ((t : ℕ) → Expands (f t)) → (s : State) (ty loc : ℕ) (x : TypeValue) → Expands (expand_value f s ty loc x)
  unfolding expand_value
  expand_value_run f h s ty loc UnitType = e_ok tt
  expand_value_run f h s ty loc UnresolvedError = e_ok tt
  expand_value_run f h s ty loc Anything = e_ok tt
  expand_value_run f h s ty loc (Param id a) = e_ok tt
  expand_value_run f h s ty loc (Ref m t) = under_run (head loc (Ref m t)) (h t)
  expand_value_run f h s ty loc (Var v) = maybe (get s (forward_tvar s v)) (e_ok tt) (λ t. h t)
  expand_value_run f h s ty loc (Apply (Some set) n tys) = marked_run n (under_run (head loc (Apply (Some set) n tys)) (expand_types_run f h tys))
  expand_value_run f h s ty loc (Apply None n tys) = under_run (head loc (Apply (Some (infer_abilities s ty)) n tys)) (expand_types_run f h tys)

  expand_down_run : (n : ℕ) (s : State) (ty : ℕ) → Expands (expand n s ty)
  unfolding expand
  expand_down_run zero s ty = e_refused (nine y)
  expand_down_run (suc n) s ty = expand_value_run (λ t. expand n s t) (λ t. expand_down_run n s t) s ty (loc_of s ty) (type_at s ty)

  pub expand_run : (s : State) (ty : ℕ) → Expands (expand_type s ty)
  unfolding expand_type
  expand_run s ty = go (reaches_itself s ty)
    where
      go : (x : Bool) → Expands (elim x [ true ↦ refused runs_into_itself | false ↦ expand (2 * count s) s ty ])
      go true = e_refused (nine y)
      go false = expand_down_run (2 * count s) s ty

-- ---- fields of what is built

join_loc_in : (c : TypingCase) (m1 m2 : Bool) (l1 l2 : ℕ) → U32 l1 → U32 l2 → U32 (join_loc c m1 m2 l1 l2)
unfolding join_loc
join_loc_in Join m1 m2 l1 l2 u1 u2 = go (not m1 && m2)
  where
    go : (b : Bool) → U32 (if b then l1 else l2)
    go true = u1
    go false = u2
join_loc_in Subtype m1 m2 l1 l2 u1 u2 = u2

default_in : (b s : State) (v : ℕ) → ShapeIn b (default_of s v)
unfolding default_of default_integer default_builtin primitives is_mark is_name mark_fits is_numeric has_drop has max_builtin any_of integers
default_in b s v = go (leb (need_of s (forward_tvar s v)) 64) (leb (need_of s (forward_tvar s v)) 128)
  where
    go : (c d : Bool) → ShapeIn {A = List ℕ} b (Apply (Some primitives) (Builtin (if c then 3 else if d then 4 else 9)) [])
    go true d = refl
    go false true = refl
    go false false = refl

abbrev IsSet : ℕ → Type 0
IsSet a = is_set a ≡ true

pub tparams_in : (s : State) (n : TypeName) → All IsSet (tparam_constraints s n)
unfolding tparam_constraints builtin_tparams
tparams_in s (Multiple len) = zeros len
  where
    zeros : (n : ℕ) → All IsSet (replicate n 0)
    zeros zero = tt
    zeros (suc n) = (refl, zeros n)
tparams_in s (Builtin b) = vector (eqb b 5)
  where
    vector : (x : Bool) → All IsSet (if x then 0 ∷ [] else [])
    vector true = (refl, tt)
    vector false = tt
tparams_in s (ModuleType n) = halves (struct_tparams s n)
  where
    halves : (ps : List ℕ) → All IsSet (map (λ p. p % 16) ps)
    halves [] = tt
    halves (p ∷ ps) = (le_test (p % 16) 15 (omega arith), halves ps)

tvar_constraint_in : (n : TypeName) (loc t : ℕ) → U32 loc → ConstraintIn (tvar_constraint n loc t)
unfolding tvar_constraint
tvar_constraint_in (Multiple n) loc t u = u
tvar_constraint_in (Builtin b) loc t u = u
tvar_constraint_in (ModuleType n) loc t u = u

numeric_in : (kind : NumericKind) (loc ty : ℕ) → U32 loc → ConstraintIn (numeric_constraint kind loc ty)
unfolding numeric_constraint
numeric_in Numeric loc ty u = u
numeric_in Bits loc ty u = u
numeric_in Ordered loc ty u = u

abbrev LocsIn : List (ℕ × ℕ) → Type 0
LocsIn l = All (λ (p : ℕ × ℕ). U32 p.1) l

num_vars_in : (v : ℕ) (cells : List Cell) → All CellIn cells → LocsIn (num_vars v cells)
unfolding num_vars numeric_allowed
num_vars_in v [] h = tt
num_vars_in v (c ∷ cells) h = go c.numeric h.0.mark_in (num_vars_in (suc v) cells h.1)
  where
    go : (o : Option ℕ) → numeric_allowed o ≡ true → LocsIn (num_vars (suc v) cells) → LocsIn (elim o [ None ↦ num_vars (suc v) cells | Some loc ↦ (v, loc) ∷ num_vars (suc v) cells ])
    go None e l = l
    go (Some loc) e l = (e, l)

-- ---- the state

module _ (H : Type 0) (b : State) (z : Bool) where
  abbrev pub In : State → Type 0
  In s = H → Ranges b s

  -- it leaves a state, and something that is of no matter here. E: what a call that meets no error need not ask
  abbrev pub RunOr : (State → Type 0) → {B : Type 0} → Result (State × B) → Type 0
  RunOr E m = Ends z E (λ a. In a.0) m

  abbrev pub Run : {B : Type 0} → Result (State × B) → Type 0
  Run m = RunOr In m

  pub sp_run : {E : State → Type 0} (s : State) → In s → (l : ℕ) → (H → U32 l) → (x : TypeValue) → (H → ShapeIn b x) → RunOr E (sp s l x)
  sp_run {E} s i l u x f = with_room (RunOr E) (sp_room s l x) (λ e. e_ok (λ h. node_ranges (i h) l x (u h) (f h) e.0 e.1)) (e_refused seven)

  tvar_run : (s : State) → In s → Run (next_tvar s)
  tvar_run s i = with_room Run (tvar_room s) (λ e. e_ok (λ h. var_ranges (i h) e)) (e_refused seven)

  pub add_run : (s : State) → In s → (c : Constraint) → (H → ConstraintIn c) → Ends z In In (add_constraint s c)
  add_run s i c f = with_room (Ends z In In) (constraint_room s c) (λ e. e_ok (λ h. add_ranges (i h) c (f h) e)) (e_refused seven)

  abbrev Runs : (State → Type 0) → (State → ℕ → Result (State × ℕ)) → Type 0
  Runs E f = (s : State) → In s → (t : ℕ) → RunOr E (f s t)

  map_run : {E : State → Type 0} (f : State → ℕ → Result (State × ℕ)) → Runs E f → (ts : List ℕ) (s : State) → In s → RunOr E (map_types f s ts)
  unfolding map_types
  map_run f r [] s i = e_ok i
  map_run f r (t ∷ ts) s i = bind _ (r s i t) (λ x j. bind _ (map_run f r ts x.0 j) (λ y k. e_ok k))

  mutual
    unfolding build build_all TreeIn

    pub place_run : {E : State → Type 0} (t : Tree) → (H → TreeIn b t) → (s : State) → In s → RunOr E (build t s)
    place_run (unit_tree loc) f s i = sp_run s i loc f UnitType (λ h. tt)
    place_run (anything_tree loc) f s i = sp_run s i loc f Anything (λ h. tt)
    place_run (error_tree loc) f s i = sp_run s i loc f UnresolvedError (λ h. tt)
    place_run (ref_tree loc m t) f s i = bind _ (place_run t (λ h. (f h).1) s i) (λ x j. sp_run x.0 j loc (λ h. (f h).0) (Ref m x.1) (λ h. tt))
    place_run (param_tree loc id a) f s i = sp_run s i loc (λ h. (f h).0) (Param id a) (λ h. (f h).1)
    place_run (apply_tree loc k n ts) f s i = bind _ (place_all_run ts (λ h. (f h).2) s i) (λ x j. sp_run x.0 j loc (λ h. (f h).0) (Apply k n x.1) (λ h. (f h).1))
    place_run (var_tree loc v) f s i = sp_run s i loc f (Var v) (λ h. tt)

    place_all_run : {E : State → Type 0} (ts : Trees) → (H → TreesIn b ts) → (s : State) → In s → RunOr E (build_all ts s)
    place_all_run no_trees f s i = e_ok i
    place_all_run (◌then◌ t ts) f s i = bind _ (place_run t (λ h. (f h).0) s i) (λ x j. bind _ (place_all_run ts (λ h. (f h).1) x.0 j) (λ y k. e_ok k))

  pub pairs_run : {E : State → Type 0} (ps : List (ℕ × Tree)) → (H → All (λ (p : ℕ × Tree). TreeIn b p.1) ps) → (s : State) → In s → RunOr E (build_pairs ps s)
  unfolding build_pairs
  pairs_run [] f s i = e_ok i
  pairs_run ((id, t) ∷ ps) f s i = bind _ (place_run t (λ h. (f h).0) s i) (λ x j. bind _ (pairs_run ps (λ h. (f h).1) x.0 j) (λ y k. e_ok k))

  -- ---- join

  bind_tvar_run : (s : State) → In s → (loc v ty : ℕ) → Run (join_bind_tvar s loc v ty)
  unfolding join_bind_tvar
  bind_tvar_run s i loc v ty =
      either (not (check_num_tvar s v ty)) (λ c. e_ok i) (λ c. either (used (suc ty) s v ty) (λ u. e_err i) (λ u. either (is_anything (type_at s ty)) (λ a. e_ok i) (λ a. e_ok (λ h. insert_ranges (i h) v ty))))

  type_of_run : (s : State) → In s → (loc : ℕ) → (H → U32 loc) → (id : ℕ) → Run (type_of s loc id)
  unfolding type_of
  type_of_run s i loc u id = maybe (get s id) (sp_run s i loc u Anything (λ h. tt)) (λ t. e_ok i)

  shown_run : (s : State) → In s → (ty id : ℕ) → Run (shown s ty id)
  unfolding shown
  shown_run s i ty id = either (is_anything (type_at s ty)) (λ a. sp_run s i (loc_of s ty) (λ h. loc_of_in (i h) ty) (Var id) (λ h. tt)) (λ a. e_ok i)

  module _ (J : JoinImpl) (r : (s : State) → In s → (c : TypingCase) (lhs rhs : ℕ) → Run (J s c lhs rhs)) where
    merge_run : (s : State) → In s → (c : TypingCase) (loc1 : ℕ) → (H → U32 loc1) → (id1 loc2 : ℕ) → (H → U32 loc2) → (id2 : ℕ) → Run (join_tvar J s c loc1 id1 loc2 id2)
    unfolding join_tvar
    merge_run s i c loc1 u1 id1 loc2 u2 id2 =
        let e1 = forward_tvar s id1 in
        let e2 = forward_tvar s id2 in
        bind _ (type_of_run s i loc1 u1 e1) (λ x1 i1.
        bind _ (type_of_run x1.0 i1 loc2 u2 e2) (λ x2 i2.
        bind _ (tvar_run x2.0 i2) (λ f i3.
        let need = larger (need_of s e1) (need_of s e2) in
        let marked : In (merge_num f.0 (num_loc s e1) (num_loc s e2) need f.1) = λ h. merge_ranges (i3 h) (num_loc s e1) (num_loc s e2) (cell_in (i h) e1) (cell_in (i h) e2) need
        (larger_most (need_of s e1) (need_of s e2) (needs_most s (needs_of (i h)) e1) (needs_most s (needs_of (i h)) e2)) f.1 in
        bind _ (sp_run _ marked loc1 u1 (Var f.1) (λ h. tt)) (λ v1 i4.
        bind _ (sp_run v1.0 i4 loc2 u2 (Var f.1) (λ h. tt)) (λ v2 i5.
        bind _ (r _ (λ h. insert_ranges (insert_ranges (i5 h) e1 v1.1) e2 v2.1) c x1.1 x2.1) (λ n i6.
        maybe (get n.0 f.1)
        (bind _ (bind_tvar_run n.0 i6 loc2 f.1 n.1) (λ k i7.
        either k.1 (λ t. e_ok i7) (λ t. bind _ (shown_run k.0 i7 x1.1 id1) (λ y1 i8. bind _ (shown_run y1.0 i8 x2.1 id2) (λ y2 i9. e_err i9)))))
        (λ t. e_err i6)))))))

    types_run : (s : State) → In s → (c : TypingCase) (ls rs : List ℕ) → Run (join_impl_types J s c ls rs)
    unfolding join_impl_types
    types_run s i c [] rs = e_ok i
    types_run s i c (x ∷ ls) [] = e_ok i
    types_run s i c (x ∷ ls) (y ∷ rs) = bind _ (r s i c x y) (λ z j. bind _ (types_run z.0 j c ls rs) (λ w k. e_ok k))

    module _ (s : State) (i : In s) (c : TypingCase) (lhs rhs : ℕ) where
      ul : H → U32 (loc_of s lhs)
      ul h = loc_of_in (i h) lhs

      ur : H → U32 (loc_of s rhs)
      ur h = loc_of_in (i h) rhs

      refs_run : (m1 : Bool) (t1 : ℕ) (m2 : Bool) (t2 : ℕ) (o : Option Bool) → Run (join_refs J s c lhs rhs m1 t1 m2 t2 o)
      unfolding join_refs
      refs_run m1 t1 m2 t2 None = e_err i
      refs_run m1 t1 m2 t2 (Some m) = bind _ (r s i c t1 t2) (λ x j. sp_run x.0 j _ (λ h. join_loc_in c m1 m2 (loc_of s lhs) (loc_of s rhs) (ul h) (ur h)) (Ref m x.1) (λ h. tt))

      unbound_run : (var id other : ℕ) → Run (join_unbound s lhs rhs var id other)
      unfolding join_unbound
      unbound_run var id other = bind _ (bind_tvar_run s i (loc_of s var) id other) (λ x j. either x.1 (λ t. e_ok j) (λ t. e_err j))

      arm_run : {a : Arm} → Took (type_at s lhs) (type_at s rhs) a → Run (join_arm J s c lhs rhs a)
      unfolding join_arm join_applies
      arm_run (took_any_l e) = e_ok i
      arm_run (took_any_r e) = e_ok i
      arm_run (took_units e d) = e_ok i
      arm_run (took_refs {m1 = m1} {m2 = m2} {t1 = t1} {t2 = t2} e d) = refs_run m1 t1 m2 t2 (join_mut c m1 m2)
      arm_run (took_params {id1 = x} {id2 = y} e d) = either (eqb x y) (λ t. e_ok i) (λ t. e_err i)
      arm_run (took_applies {k1 = k1} {k2 = k2} {n1 = n1} {n2 = n2} {tys1 = tys1} {tys2 = tys2} e d) =
          either (is_multiple n1 && is_multiple n2 && not (same_name n1 n2)) (λ t. e_err i) (λ t.
          either (not (same_name n1 n2)) (λ t. e_err i) (λ t.
          either (not (same_mark k1 k2)) (λ t. e_refused ten) (λ t.
          bind _ (types_run s i c tys1 tys2) (λ x j. sp_run x.0 j _ ur (Apply k2 n2 x.1) (λ h. name_in (i h) rhs k2 n2 tys2 d)))))
      arm_run (took_vars {id1 = x} {id2 = y} e d) = either (eqb x y) (λ t. e_ok i) (λ t. merge_run s i c _ ul x _ ur y)
      arm_run (took_var_l {id = id} e d) = maybe (get s id) (unbound_run lhs id rhs) (λ t.
          bind _ (tvar_run s i) (λ x j. merge_run _ (λ h. insert_ranges (j h) x.1 rhs) c _ (λ h. loc_of_in (j h) lhs) id _ (λ h. loc_of_in (j h) rhs) x.1))
      arm_run (took_var_r {id = id} e d) = maybe (get s id) (unbound_run rhs id lhs) (λ t.
          bind _ (tvar_run s i) (λ x j. merge_run _ (λ h. insert_ranges (j h) x.1 lhs) c _ (λ h. loc_of_in (j h) lhs) x.1 _ (λ h. loc_of_in (j h) rhs) id))
      arm_run (took_error_l e d) = e_ok i
      arm_run (took_error_r e d) = e_ok i
      arm_run took_others = e_err i

  pub join_run : (n : ℕ) (s : State) → In s → (c : TypingCase) (lhs rhs : ℕ) → Run (join_impl n s c lhs rhs)
  unfolding join_impl
  join_run zero s i c lhs rhs = e_refused eight
  join_run (suc n) s i c lhs rhs = arm_run (λ s c l r. join_impl n s c l r) (λ s i c l r. join_run n s i c l r) s i c lhs rhs (took (type_at s lhs) (type_at s rhs))

  -- ---- ready, type parameters, instantiate, constraints: one level, of a value whose fields are in range

  module _ {E : State → Type 0} (f : State → ℕ → Result (State × ℕ)) (r : Runs E f) (s : State) (i : In s) (ty loc : ℕ) (u : H → U32 loc) where
    ready_value_run : (x : TypeValue) → (H → ShapeIn b x) → RunOr E (ready_value f s ty loc x)
    unfolding ready_value
    ready_value_run UnitType g = e_ok i
    ready_value_run UnresolvedError g = e_ok i
    ready_value_run Anything g = e_ok i
    ready_value_run (Param id a) g = e_ok i
    ready_value_run (Ref m t) g = bind _ (r s i t) (λ x j. sp_run x.0 j loc u (Ref m x.1) (λ h. tt))
    ready_value_run (Apply k n tys) g = bind _ (map_run f r tys s i) (λ x j. sp_run x.0 j loc u (Apply k n x.1) g)
    ready_value_run (Var v) g = maybe (get s (forward_tvar s v)) (sp_run s i loc u (Var (forward_tvar s v)) (λ h. tt)) (λ t. r s i t)

    subst_value_run : (subst : TParamSubst) (x : TypeValue) → (H → ShapeIn b x) → RunOr E (subst_value f subst s ty loc x)
    unfolding subst_value
    subst_value_run subst UnitType g = e_ok i
    subst_value_run subst UnresolvedError g = e_ok i
    subst_value_run subst Anything g = e_ok i
    subst_value_run subst (Var v) g = e_refused eleven
    subst_value_run subst (Ref m t) g = bind _ (r s i t) (λ x j. sp_run x.0 j loc u (Ref m x.1) (λ h. tt))
    subst_value_run subst (Param id a) g = maybe (arg_of subst id) (e_refused twelve) (λ t. e_ok i)
    subst_value_run subst (Apply k n tys) g = bind _ (map_run f r tys s i) (λ x j. sp_run x.0 j loc u (Apply k n x.1) g)

  ready_run : {E : State → Type 0} → z ≡ true → (n : ℕ) → Runs E (ready n)
  unfolding ready
  ready_run y zero s i ty = e_refused (nine y)
  ready_run y (suc n) s i ty = ready_value_run (λ s t. ready n s t) (λ s i t. ready_run y n s i t) s i ty (loc_of s ty) (λ h. loc_of_in (i h) ty) (type_at s ty) (λ h. value_in (i h) ty)

  pub ready_tvars_run : {E : State → Type 0} → z ≡ true → Runs E ready_tvars
  unfolding ready_tvars
  ready_tvars_run {E} y s i ty = go (reaches_itself s ty)
    where
      go : (x : Bool) → RunOr E {B = ℕ} (elim x [ true ↦ refused runs_into_itself | false ↦ ready (2 * count s) s ty ])
      go true = e_refused (nine y)
      go false = ready_run y (2 * count s) s i ty

  pub subst_run : {E : State → Type 0} → z ≡ true → (n : ℕ) (subst : TParamSubst) → Runs E (subst_down n subst)
  unfolding subst_down
  subst_run y zero subst s i ty = e_refused (nine y)
  subst_run y (suc n) subst s i ty = subst_value_run (λ s t. subst_down n subst s t) (λ s i t. subst_run y n subst s i t) s i ty (loc_of s ty) (λ h. loc_of_in (i h) ty) subst (type_at s ty) (λ h. value_in (i h) ty)

  pub make_run : {E : State → Type 0} (ps : List (ℕ × ℕ)) → Ends z E (λ subst. Unit {0}) (make_tparam_subst ps)
  unfolding make_tparam_subst
  make_run [] = e_ok tt
  make_run ((id, arg) ∷ ps) = bind _ (make_run ps) (λ subst p. maybe (arg_of subst id) (e_ok tt) (λ old. e_refused thirteen))

  pub make_tvar_run : (s : State) → In s → (l : ℕ) → (H → U32 l) → Run (make_tvar s l)
  unfolding make_tvar
  make_tvar_run s i l u = bind _ (tvar_run s i) (λ x j. sp_run x.0 j l u (Var x.1) (λ h. tt))

  pub tparams_run : (s : State) → In s → (loc : ℕ) → (H → U32 loc) → (n : TypeName) (tys cs : List ℕ) → All IsSet cs → Run (make_tparams s loc n tys cs)
  unfolding make_tparams
  tparams_run s i loc u n [] cs a = e_ok i
  tparams_run s i loc u n (ty ∷ tys) [] a = e_ok i
  tparams_run s i loc u n (ty ∷ tys) (c ∷ cs) a =
      bind _ (make_tvar_run s i (loc_of s ty) (λ h. loc_of_in (i h) ty)) (λ x i1.
      bind _ (add_run x.0 i1 (AbilityConstraint loc x.1 c) (λ h. (u h, a.0))) (λ y i2.
      bind _ (add_run y i2 (tvar_constraint n loc x.1) (λ h. tvar_constraint_in n loc x.1 (u h))) (λ z i3.
      bind _ (tparams_run z i3 loc u n tys cs a.1) (λ w i4. e_ok i4))))

  pub join_args_run : (s : State) → In s → (vs ts : List ℕ) → Run (join_args s vs ts)
  unfolding join_args join
  join_args_run s i [] ts = e_ok i
  join_args_run s i (v ∷ vs) [] = e_ok i
  join_args_run s i (v ∷ vs) (t ∷ ts) = bind _ (join_run max_depth s i _ v t) (λ x j. bind _ (join_args_run x.0 j vs ts) (λ y k. e_ok k))

  inst_value_run : (f : State → ℕ → Result (State × ℕ)) → Runs In f → (s : State) → In s → (ty loc : ℕ) → (H → U32 loc) → (x : TypeValue) → (H → ShapeIn b x) → Run (instantiate_value f s ty loc x)
  unfolding instantiate_value instantiate_apply instantiate_type_args
  inst_value_run f r s i ty loc u UnitType g = e_ok i
  inst_value_run f r s i ty loc u UnresolvedError g = e_ok i
  inst_value_run f r s i ty loc u Anything g = make_tvar_run s i loc u
  inst_value_run f r s i ty loc u (Ref m t) g = bind _ (add_run s i _ u) (λ y j. bind _ (r y j t) (λ x k. sp_run x.0 k loc u (Ref m x.1) (λ h. tt)))
  inst_value_run f r s i ty loc u (Apply k n tys) g =
      bind _ (bind _ (tparams_run s i loc u n tys _ (tparams_in s n)) (λ x i1. bind _ (map_run f r tys x.0 i1) (λ y i2. join_args_run y.0 i2 x.1 y.1))) (λ x j. sp_run x.0 j loc u (Apply k n x.1) g)
  inst_value_run f r s i ty loc u (Param id a) g = e_ok i
  inst_value_run f r s i ty loc u (Var v) g = e_refused eleven

  inst_run : z ≡ true → (n : ℕ) → Runs In (instantiate_down n)
  unfolding instantiate_down
  inst_run y zero s i ty = e_refused (nine y)
  inst_run y (suc n) s i ty = inst_value_run (λ s t. instantiate_down n s t) (λ s i t. inst_run y n s i t) s i ty (loc_of s ty) (λ h. loc_of_in (i h) ty) (type_at s ty) (λ h. value_in (i h) ty)

  default_run : (s : State) → In s → (v loc : ℕ) → (H → U32 loc) → Ends z In In (default_num_var s v loc)
  unfolding default_num_var join
  default_run s i v loc u = go (undecided _) (
      bind _ (sp_run s i loc u (default_of s v) (λ h. default_in b s v)) (λ x i1.
      bind _ (sp_run x.0 i1 loc u (Var v) (λ h. tt)) (λ y i2.
      bind _ (join_run max_depth y.0 i2 _ x.1 y.1) (λ z i3. e_ok i3))))
    where
      go : (c : Bool) {x : Result State} → Ends z In In x → Ends {A = State} z In In (elim c [ false ↦ ok s | true ↦ x ])
      go false p = e_ok i
      go true p = p

  defaults_run : (l : List (ℕ × ℕ)) → (H → LocsIn l) → (s : State) → In s → Ends z In In (default_num_vars s l)
  unfolding default_num_vars
  defaults_run [] f s i = e_ok i
  defaults_run ((v, loc) ∷ l) f s i = bind _ (default_run s i v loc (λ h. (f h).0)) (λ x j. defaults_run l (λ h. (f h).1) x j)

  -- SV's first half
  pub starts_run : (s : State) → In s → Ends z In In (default_num_vars s (num_vars 0 s.vars))
  starts_run s i = defaults_run _ (λ h. num_vars_in 0 s.vars (i h).cells_in) s i

  -- ---- records

  two_run : (f : State → ℕ → ℕ → Result (State × ℕ)) → ((s : State) → In s → (l r : ℕ) → Run (f s l r)) → (s : State) → In s → (t1 t2 : Tree) → (H → TreeIn b t1 × TreeIn b t2) → Run (two_types f s t1 t2)
  unfolding two_types
  two_run f r s i t1 t2 g = bind _ (place_run t1 (λ h. (g h).0) s i) (λ x i1. bind _ (place_run t2 (λ h. (g h).1) x.0 i1) (λ y i2. bind _ (r y.0 i2 x.1 y.1) (λ z i3. e_ok i3)))

  unfolded_run : (s : State) → In s → (t : Tree) → (H → TreeIn b t) → Run (unfolded s t)
  unfolding unfolded
  unfolded_run s i t f = bind _ (place_run t f s i) (λ x j. e_ok i)

  constrain_run : (s : State) → In s → (t : Tree) → (H → TreeIn b t) → (make : ℕ → Constraint) → ((ty : ℕ) → H → ConstraintIn (make ty)) → Run (constrain s t make)
  unfolding constrain
  constrain_run s i t f make g = bind _ (place_run t f s i) (λ x j. bind _ (add_run x.0 j _ (g _)) (λ y k. e_ok k))

  declare_run : (s : State) → In s → (a : ℕ) (ps : List ℕ) → (H → StructIn (record { abilities = a; params = ps })) → Run (declare s a ps)
  declare_run s i a ps f = with_room Run (struct_room s a ps) (λ e. e_ok (λ h. declare_ranges (i h) _ (f h) e)) (e_refused seven)

  tell_run : (s : State) → In s → (n : Option Needs) → Run (tell s n)
  unfolding tell
  tell_run s i None = e_refused eleven
  tell_run s i (Some n) = e_ok i

  -- ---- MJ

  pub many_run : {E : State → Type 0} (ps : List (TypingCase × Tree × Tree)) → (H → All (λ (p : TypingCase × Tree × Tree). TreeIn b p.1 × TreeIn b p.2) ps) → (s : State) → In s → RunOr E (build_many ps s)
  unfolding build_many
  many_run [] f s i = e_ok i
  many_run ((c, t1, t2) ∷ ps) f s i =
      bind _ (place_run t1 (λ h. (f h).0.0) s i) (λ x i1. bind _ (place_run t2 (λ h. (f h).0.1) x.0 i1) (λ y i2. bind _ (many_run ps (λ h. (f h).1) y.0 i2) (λ w i3. e_ok i3)))

  with_in : (most : ℕ) (s : State) → In s → (n : ℕ) (p : Bytes) (s' : State) → In s' → In (answer_with most s n p s').state
  unfolding answer_with refusal
  with_in most s i n p s' i' = go (leb (length p) most)
    where
      go : (b : Bool) → In (if b then record { number = n; payload = p; state = s' } else refusal s answer_too_long).state
      go true = i'
      go false = i

  answer_in : (s : State) → In s → (m : Result (State × Bytes)) → Run m → In (answer s m).state
  unfolding answer answer_within behind refusal
  answer_in s i (ok (s', p)) (e_ok j) = with_in max_payload s i 0 p s' j
  answer_in s i (err s' e) (e_err j) = with_in max_payload s i (number_of_error e) (write_error s' e) (put_back s s') (λ h. put_back_ranges (i h) (j h))
  answer_in s i (refused x) (e_refused t) = i

  pub pair_in : (s : State) → In s → (p : TypingCase × ℕ × ℕ) → In (pair_answer s p).state
  unfolding pair_answer
  pair_in s i (c, l, r) = answer_in s i _ (bind _ (join_run max_depth s i c l r) (λ x j. e_ok j))

  pairs_in : (ps : List (TypingCase × ℕ × ℕ)) (s : State) → In s → In (run_pairs s ps).0
  unfolding run_pairs
  pairs_in [] s i = i
  pairs_in (p ∷ ps) s i = pairs_in ps (pair_answer s p).state (pair_in s i p)

  pub run_walk : z ≡ true → (s : State) → In s → (r : Record) → (H → RecordIn b r) → Run (run s r)
  unfolding run join subtype subst_tparams instantiate solve_constraints
  run_walk y s i (SD a ps) f = bind _ (declare_run s i a ps f) (λ x j. e_ok j)
  run_walk y s i (FV loc) f = bind _ (tvar_run s i) (λ x j. e_ok j)
  run_walk y s i (NV loc) f = bind _ (tvar_run s i) (λ x j. e_ok (λ h. num_var_ranges (j h) x.1 loc (f h)))
  run_walk y s i (NL loc bits) f = bind _ (tvar_run s i) (λ x j. e_ok (λ h. literal_ranges (j h) x.1 loc bits (f h).0 (f h).1))
  run_walk y s i (SN v loc) f = e_ok (λ h. num_var_ranges (i h) v loc (f h))
  run_walk y s i (JN t1 t2) f = two_run _ (λ s i l r. join_run max_depth s i _ l r) s i t1 t2 f
  run_walk y s i (SU t1 t2) f = two_run _ (λ s i l r. join_run max_depth s i _ l r) s i t1 t2 f
  run_walk y s i (UF t) f = unfolded_run s i t f
  run_walk y s i (UL t) f = unfolded_run s i t f
  run_walk y s i (JL t1 t2) f = two_run _ (λ s i l r. join_run max_depth s i _ l r) s i t1 t2 f
  run_walk y s i (RD t) f = bind _ (place_run t f s i) (λ x j. bind _ (ready_tvars_run y x.0 j x.1) (λ r k. e_ok i))
  run_walk y s i (IN t) f = bind _ (place_run t f s i) (λ x j. bind _ (inst_run y _ x.0 j x.1) (λ r k. e_ok k))
  run_walk y s i (TS ps t) f =
      bind _ (pairs_run ps (λ h. (f h).0) s i) (λ x i1. bind _ (place_run t (λ h. (f h).1) x.0 i1) (λ r i2. bind _ (make_run x.1) (λ subst p. bind _ (subst_run y _ subst r.0 i2 r.1) (λ t i3. e_ok i))))
  run_walk y s i (NC loc kind t) f = constrain_run s i t (λ h. (f h).1) _ (λ ty h. numeric_in kind loc ty (f h).0)
  run_walk y s i (BC loc t) f = constrain_run s i t (λ h. (f h).1) _ (λ ty h. (f h).0)
  run_walk y s i (SC loc t) f = constrain_run s i t (λ h. (f h).1) _ (λ ty h. (f h).0)
  run_walk y s i (RM t) f = tell_run s i (needs t)
  run_walk y s i (CN t) f = bind _ (place_run t f s i) (λ x j. bind _ (ready_tvars_run y x.0 j x.1) (λ r k. e_ok i))
  run_walk y s i (XP t) f = bind _ (place_run t f s i) (λ x j. bind _ (expand_run z y _ x.0 x.1) (λ r k. e_ok i))
  run_walk y s i (KP listed) f = e_ok (λ h. keep_ranges listed (i h))
  run_walk y s i (MJ ps) f = bind _ (many_run ps f s i) (λ x j. e_ok (pairs_in x.1 x.0 j))
  run_walk y s i SV f = bind _ (starts_run s i) (λ x j. solve_cases x Run (λ failures. e_ok (λ h. cleared_ranges (j h))) (e_refused (nine y)) (e_refused (sixteen y)))
