-- Placing types and reading them out take nodes alone. `Leaves P`: on success the state's variables are as P says, whatever P is. Assumes nothing.
use mathlib.Core.Path.{◌≡◌, refl}
use mathlib.Core.Bool.{Bool, true, false}
use mathlib.Core.List.{List, [], ◌∷◌}
use Rattle.std.specs.Prelude.{Option, None, Some, Ok, Err}
use Rattle.std.specs.Prelude as core
use Prim.Native.Nat.{ℕ, zero, suc, ◌+◌}
use lib.Dec.{leb, ltb}
use lib.ListN.{length}
use Rattle.definition.specs.Types.{State, Cell, UnitType, Ref, Param, Apply, Var, Anything, UnresolvedError, TypeValue}
use Rattle.std.specs.Prelude.{if◌then◌else◌}
use Rattle.definition.specs.Types.{TypingError, Refusal, max_nodes, max_args, Result, ok, err, refused, ◌>>=◌}
use Rattle.definition.specs.Store.{count, args_of, get, with_node, sp, type_at, map_types}
use Rattle.definition.specs.Trees.{Tree, unit_tree, anything_tree, error_tree, ref_tree, param_tree, apply_tree, var_tree, Trees, no_trees, ◌then◌}
use Rattle.definition.specs.Build.{build, build_all, build_pairs, build_many}
use Rattle.definition.specs.Join.{TypingCase}
use Rattle.definition.specs.Subst.{forward_tvar, reaches_itself, ready_value, ready_tvars}
use Rattle.definition.specs.Subst as subst_of
use Rattle.definition.specs.TParams.{TParamSubst, arg_of, subst_value, subst_down, subst_tparams}
use Rattle.definition.specs.Record.{Record}
use Rattle.table.specs.State.{outcome}
use Rattle.table.specs.declared.state.Stop.{Stop}
use Rattle.table.specs.declared.state.Stop.TheVariants.{Failed, Refused}
use Rattle.fields.specs.Noded.{unfolded, unfolded_links, ready, tparams, Run, binds, looks, adds}
use Rattle.fields.specs.Noded.{Shape, declares, solves, expands, none, one, both, after_pairs, all_pairs, keeps, shape, place, place_record}
use Rattle.answer.specs.declared.Ran.{Ran}
use Rattle.answer.proofs.Calls.{kept_never}
use Rattle.run.specs.Runs.{subst_in}
use Rattle.run.specs.Dispatch.{step_of, kept_of}

pub data Leaves {A : Type 0} (P : List Cell → Type 0) : Result (State × A) → Type 0 where
  l_ok : {s : State} {a : A} → P s.vars → Leaves P (ok (s, a))
  l_err : {s : State} {e : TypingError} → Leaves P (err s e)
  l_refused : {x : Refusal} → Leaves P (refused x)

pub leaves_ok : {A : Type 0} {P : List Cell → Type 0} {s : State} {a : A} → Leaves P (ok (s, a)) → P s.vars
leaves_ok (l_ok p) = p

then_leaves : {A B : Type 0} {P Q : List Cell → Type 0} {m : Result (State × A)} (f : State × A → Result (State × B)) → Leaves P m → ((s : State) (a : A) → P s.vars → Leaves Q (f (s, a))) → Leaves Q (m >>= f)
unfolding ◌>>=◌
then_leaves f (l_ok {s = s} {a = a} p) k = k s a p
then_leaves f l_err k = l_err
then_leaves f l_refused k = l_refused

-- whatever the first step does to the state
any_leaves : {A B : Type 0} {Q : List Cell → Type 0} (m : Result A) (f : A → Result (State × B)) → ((a : A) → Leaves Q (f a)) → Leaves Q (m >>= f)
unfolding ◌>>=◌
any_leaves (ok a) f k = k a
any_leaves (err s e) f k = l_err
any_leaves (refused x) f k = l_refused

module _ {A : Type 0} {P : List Cell → Type 0} where
  if_leaves : (b : Bool) {x y : Result (State × A)} → Leaves P x → Leaves P y → Leaves P (if b then x else y)
  if_leaves true x y = x
  if_leaves false x y = y

  either_leaves : (b : Bool) {x y : Result (State × A)} → Leaves P x → Leaves P y → Leaves {A = A} P (elim b [ true ↦ x | false ↦ y ])
  either_leaves true x y = x
  either_leaves false x y = y

  option_leaves : (o : Option ℕ) {x : Result (State × A)} {k : ℕ → Result (State × A)} → Leaves P x → ((t : ℕ) → Leaves P (k t)) → Leaves {A = A} P (elim o [ None ↦ x | Some t ↦ k t ])
  option_leaves None x k = x
  option_leaves (Some t) x k = k t

-- ---- only nodes are taken

module _ {P : List Cell → Type 0} where
  sp_leaves : (s : State) (loc : ℕ) (v : TypeValue) → P s.vars → Leaves P (sp s loc v)
  unfolding sp with_node
  sp_leaves s loc v p = if_leaves (ltb (count s) max_nodes) (if_leaves (leb (length s.args + length (args_of v)) max_args) (l_ok p) l_refused) l_refused

  map_leaves : (f : State → ℕ → Result (State × ℕ)) → ((s : State) (t : ℕ) → P s.vars → Leaves P (f s t)) → (s : State) (ts : List ℕ) → P s.vars → Leaves P (map_types f s ts)
  unfolding map_types
  map_leaves f h s [] p = l_ok p
  map_leaves f h s (t ∷ ts) p = then_leaves _ (h s t p) (λ s t p. then_leaves _ (map_leaves f h s ts p) (λ s ts p. l_ok p))

  mutual
    unfolding build build_all

    build_leaves : (t : Tree) (s : State) → P s.vars → Leaves P (build t s)
    build_leaves (unit_tree loc) s p = sp_leaves s loc UnitType p
    build_leaves (anything_tree loc) s p = sp_leaves s loc Anything p
    build_leaves (error_tree loc) s p = sp_leaves s loc UnresolvedError p
    build_leaves (ref_tree loc mut t) s p = then_leaves _ (build_leaves t s p) (λ s t p. sp_leaves s loc (Ref mut t) p)
    build_leaves (param_tree loc id abilities) s p = sp_leaves s loc (Param id abilities) p
    build_leaves (apply_tree loc k n ts) s p = then_leaves _ (trees_leave ts s p) (λ s tys p. sp_leaves s loc (Apply k n tys) p)
    build_leaves (var_tree loc v) s p = sp_leaves s loc (Var v) p

    trees_leave : (ts : Trees) (s : State) → P s.vars → Leaves P (build_all ts s)
    trees_leave no_trees s p = l_ok p
    trees_leave (◌then◌ t ts) s p = then_leaves _ (build_leaves t s p) (λ s t p. then_leaves _ (trees_leave ts s p) (λ s ts p. l_ok p))

  pairs_leave : (ps : List (ℕ × Tree)) (s : State) → P s.vars → Leaves P (build_pairs ps s)
  unfolding build_pairs
  pairs_leave [] s p = l_ok p
  pairs_leave (q ∷ ps) s p = then_leaves _ (build_leaves q.1 s p) (λ s t p. then_leaves _ (pairs_leave ps s p) (λ s ps p. l_ok p))

  many_leave : (ps : List (TypingCase × Tree × Tree)) (s : State) → P s.vars → Leaves P (build_many ps s)
  unfolding build_many
  many_leave [] s p = l_ok p
  many_leave (q ∷ ps) s p =
      then_leaves _ (build_leaves q.1 s p) (λ s t p. then_leaves _ (build_leaves q.2 s p) (λ s u p. then_leaves _ (many_leave ps s p) (λ s ps p. l_ok p)))

  shape_leaves : (h : Shape) (s : State) → P s.vars → Leaves P (place h s)
  shape_leaves (declares a ps) s p = l_ok p
  shape_leaves solves s p = l_ok p
  shape_leaves (expands t) s p = then_leaves _ (build_leaves t s p) (λ s a p. l_ok p)
  shape_leaves (none r) s p = l_ok p
  shape_leaves (one t f) s p = then_leaves _ (build_leaves t s p) (λ s a p. l_ok p)
  shape_leaves (both t u f) s p = then_leaves _ (build_leaves t s p) (λ s a p. then_leaves _ (build_leaves u s p) (λ s b p. l_ok p))
  shape_leaves (after_pairs ps t f) s p = then_leaves _ (pairs_leave ps s p) (λ s a p. then_leaves _ (build_leaves t s p) (λ s b p. l_ok p))
  shape_leaves (keeps listed) s p = l_ok p
  shape_leaves (all_pairs ps) s p = then_leaves _ (many_leave ps s p) (λ s a p. l_ok p)

  pub place_leaves : (x : Record) (s : State) → P s.vars → Leaves P (place_record x s)
  unfolding place_record
  place_leaves x s p = shape_leaves (shape x) s p

  ready_value_leaves : (f : State → ℕ → Result (State × ℕ)) → ((s : State) (t : ℕ) → P s.vars → Leaves P (f s t)) → (s : State) (ty loc : ℕ) (v : TypeValue) → P s.vars → Leaves P (ready_value f s ty loc v)
  unfolding ready_value
  ready_value_leaves f h s ty loc UnitType p = l_ok p
  ready_value_leaves f h s ty loc UnresolvedError p = l_ok p
  ready_value_leaves f h s ty loc Anything p = l_ok p
  ready_value_leaves f h s ty loc (Param id a) p = l_ok p
  ready_value_leaves f h s ty loc (Ref m t) p = then_leaves _ (h s t p) (λ s t p. sp_leaves s loc (Ref m t) p)
  ready_value_leaves f h s ty loc (Apply k n tys) p = then_leaves _ (map_leaves f h s tys p) (λ s tys p. sp_leaves s loc (Apply k n tys) p)
  ready_value_leaves f h s ty loc (Var i) p = option_leaves (get s (forward_tvar s i)) (sp_leaves s loc (Var (forward_tvar s i)) p) (λ t. h s t p)

  ready_leaves : (n : ℕ) (s : State) (t : ℕ) → P s.vars → Leaves P (subst_of.ready n s t)
  unfolding subst_of.ready
  ready_leaves zero s t p = l_refused
  ready_leaves (suc n) s t p = ready_value_leaves (λ s t. subst_of.ready n s t) (ready_leaves n) s t _ (type_at s t) p

  ready_tvars_leaves : (s : State) (t : ℕ) → P s.vars → Leaves P (ready_tvars s t)
  unfolding ready_tvars
  ready_tvars_leaves s t p = either_leaves (reaches_itself s t) l_refused (ready_leaves _ s t p)

  subst_value_leaves : (f : State → ℕ → Result (State × ℕ)) → ((s : State) (t : ℕ) → P s.vars → Leaves P (f s t)) → (sub : TParamSubst) (s : State) (ty loc : ℕ) (v : TypeValue) → P s.vars → Leaves P (subst_value f sub s ty loc v)
  unfolding subst_value
  subst_value_leaves f h sub s ty loc UnitType p = l_ok p
  subst_value_leaves f h sub s ty loc UnresolvedError p = l_ok p
  subst_value_leaves f h sub s ty loc Anything p = l_ok p
  subst_value_leaves f h sub s ty loc (Var v) p = l_refused
  subst_value_leaves f h sub s ty loc (Ref m t) p = then_leaves _ (h s t p) (λ s t p. sp_leaves s loc (Ref m t) p)
  subst_value_leaves f h sub s ty loc (Param id a) p = option_leaves (arg_of sub id) l_refused (λ t. l_ok p)
  subst_value_leaves f h sub s ty loc (Apply k n tys) p = then_leaves _ (map_leaves f h s tys p) (λ s tys p. sp_leaves s loc (Apply k n tys) p)

  subst_leaves : (n : ℕ) (sub : TParamSubst) (s : State) (t : ℕ) → P s.vars → Leaves P (subst_down n sub s t)
  unfolding subst_down
  subst_leaves zero sub s t p = l_refused
  subst_leaves (suc n) sub s t p = subst_value_leaves (λ s t. subst_down n sub s t) (subst_leaves n sub) sub s t _ (type_at s t) p

  subst_in_leaves : (ps : List (ℕ × ℕ)) (t : ℕ) (s : State) → P s.vars → Leaves P (subst_in ps t s)
  unfolding subst_in subst_tparams
  subst_in_leaves ps t s p = any_leaves _ _ (λ sub. subst_leaves (suc t) sub s t p)

  outcome_leaves : (a : core.Result ℕ Stop) (s : State) → P s.vars → Leaves P (outcome a s)
  unfolding outcome
  outcome_leaves (Ok t) s p = l_ok p
  outcome_leaves (Err (Failed x)) s p = l_err
  outcome_leaves (Err (Refused x)) s p = l_refused

  -- what only looks, whose state is not kept
  pub unkept_leaves : (r : Ran) (n : Run) (s : State) → kept_of n ≡ false → P s.vars → Leaves P (step_of r n s)
  unfolding step_of
  unkept_leaves r (binds n) s e p = kept_never refl e
  unkept_leaves r (looks (unfolded t)) s e p = outcome_leaves r.result s p
  unkept_leaves r (looks (unfolded_links t)) s e p = outcome_leaves r.result s p
  unkept_leaves r (looks (ready how t)) s e p = ready_tvars_leaves s t p
  unkept_leaves r (looks (tparams ps t)) s e p = subst_in_leaves ps t s p
  unkept_leaves r (adds n) s e p = kept_never refl e
