-- The operand walk and the merge: what each arm does, as laws that follow the code. Assumes nothing.
use mathlib.Core.Path.{◌≡◌, refl, sym, ◌∙◌, subst}
use mathlib.Core.Bool.{Bool}
use mathlib.Core.List.{List, []}
use Rattle.std.specs.Prelude.{Option, None, Some, Ok, Err, if◌then◌else◌}
use Rattle.std.specs.Prelude as core
use Prim.Native.Nat.{ℕ, zero, suc, ◌-◌, ◌<◌, ◌≤◌}
use native.Mathlib.Numerals.{sub-one}
use native.Mathlib.Omega.{arith}
use lib.ListN.{take}
use Rattle.definition.specs.Types as d
use Rattle.definition.specs.Types.{Struct, Places, Result, ok, ◌>>=◌}
use Rattle.definition.specs.Store.{count, sp, node, type_at, loc_of, args_at, with_structs, with_vars, with_var, get}
use Rattle.definition.specs.Join as j
use Rattle.definition.specs.Join.{VarL, VarR, arm, join_arm, join_impl, join_impl_types, join_tvar}
use Rattle.names.specs.Names.{mark_of, name_of}
use Rattle.names.specs.declared.TVar.{TVar}
use Rattle.table.specs.State.{Any, outcome, seen, node_of, shape_of, Below}
use Rattle.table.specs.Did.{held, tables, Became, Did}
use Rattle.table.specs.declared.Node.{Node}
use Rattle.table.specs.declared.TypingError.TheVariants as error
use Rattle.refusals.specs.declared.Refusal.TheVariants.{TooDeep, AbilitiesDisagree}
use Rattle.table.specs.declared.state.State.{State}
use Rattle.table.specs.declared.state.Stop.{Stop}
use Rattle.table.specs.declared.state.Stop.TheVariants.{Failed, Refused}
use Rattle.table.proofs.Did.{became_as, became_on, did_now, did_is, did_err, did_then, in_stop, nodes_more}
use Rattle.table.proofs.Pushed.{count_view}
use Rattle.table.proofs.Grown.{loc_is, value_is}
use Rattle.table.specs.State.{args_of}
use Rattle.table.specs.declared.Applied.{Applied}
use Rattle.arms.specs.Arms.{case_of, by_arm, ArmBelow, Takes}
use Rattle.arms.specs.declared.TypingCase.{TypingCase}
use Rattle.arms.specs.declared.Arm.{Arm}
use Rattle.arms.specs.declared.Arm.TheVariants.{Lhs, Rhs, Refs, Applies, Vars, VarLhs, VarRhs, SubtypeError, ArityMismatch, Incompatible, Disagree}
use Rattle.merge.specs.Merge.{Inner, ThenMerge, open_tvar, open_types, open_ends, opened, Opens, show_both, close_tvar, meet_tvar, met, Meets}
use Rattle.merge.specs.declared.Merging.{Merging}
use Rattle.join.specs.Join.{Joined}
use Rattle.join.specs.declared.Types.{Types}
use Rattle.join.proofs.Binds.{next_same}
use Rattle.join.proofs.Lists.{listed_err, listed_then}
use Rattle.join.proofs.Args.{inner}

-- ---- answers that are handed on

did_on : {A : Type 0} {s t v : State} {answer f : d.State → A} {r : core.Result ℕ Stop} (h : A → Result (d.State × ℕ)) → Became Any s t answer f → Did t v r (λ x. h (answer x)) → Did s v r (λ x. h (f x))
did_on h a n = record { changed = became_on h a n.changed; inside = n.inside }

module _ {s t : State} {var : ℕ} {f : d.State → ThenMerge → Result (d.State × ℕ)} (k : ThenMerge) where
  met_err : {e : Stop} {r : core.Result ℕ Stop} → Meets s t var (Err e) f → r ≡ Err e → Did s t r (λ x. f x k)
  unfolding met
  met_err {e} a q = rw q record { changed = became_as (λ g. g k) a.changed (λ x. refl); inside = in_stop _ e a.inside }

  met_var : {m : Option TVar} → Meets s t var (Ok m) f → m ≡ None → var < s.used.nodes → Did s t (Ok var) (λ x. f x k)
  unfolding met outcome
  met_var a e i =
      let b : Meets s t var (Ok None) f = rw e at a in
      record { changed = became_as (λ g. g k) b.changed (λ x. refl); inside = omega (arith, i, nodes_more b.changed) }

  met_merge : {m : Option TVar} {n : TVar} {v : State} {r : core.Result ℕ Stop} → Meets s t var (Ok m) f → m ≡ Some n → Did t v r (λ x. k x n.0) → Did s v r (λ x. f x k)
  unfolding met
  met_merge {n = n} a e x = let b : Meets s t var (Ok (Some n)) f = rw e at a in did_on (λ g. g k) b.changed x

module _ {s t : State} {f : d.State → Inner → Result (d.State × ℕ)} (k : Inner) where
  open_err : {e : Stop} {r : core.Result ℕ Stop} → Opens s t (Err e) f → r ≡ Err e → Did s t r (λ x. f x k)
  unfolding opened
  open_err {e} a q = rw q record { changed = became_as (λ g. g k) a.changed (λ x. refl); inside = in_stop _ e a.inside }

  open_ok : {m : Merging} {v : State} {r : core.Result ℕ Stop} → Opens s t (Ok m) f → Did t v r (λ x. k x m.ty1 m.ty2 m.new_tvar.0 m.var2) → Did s v r (λ x. f x k)
  unfolding opened
  open_ok a n = did_on (λ g. g k) a.changed n

-- ---- the merge

abbrev then_close : ℕ → j.TypingCase → ℕ → ℕ → ℕ → Inner
then_close left case id1 loc2 id2 = λ s ty1 ty2 new var2. join_impl left s case ty1 ty2 >>= (λ x. close_tvar x.0 ty1 id1 ty2 loc2 id2 new var2 x.1)

tvar_is : (left : ℕ) (case : j.TypingCase) (s : d.State) (loc1 id1 loc2 id2 : ℕ) → open_tvar (then_close left case id1 loc2 id2) s loc1 id1 loc2 id2 ≡ join_tvar (inner left) s case loc1 id1 loc2 id2
unfolding open_tvar open_types open_ends close_tvar show_both join_tvar
tvar_is left case s loc1 id1 loc2 id2 = refl

module _ (left : ℕ) (case : j.TypingCase) (loc1 id1 loc2 id2 : ℕ) {s : State} where
  from_open : {v : State} {r : core.Result ℕ Stop} → Did s v r (λ x. open_tvar (then_close left case id1 loc2 id2) x loc1 id1 loc2 id2) → Did s v r (λ x. join_tvar (inner left) x case loc1 id1 loc2 id2)
  from_open n = did_is (λ ds k. tvar_is left case (held s ds) loc1 id1 loc2 id2) n

  pub tvar_err : {t : State} {e : Stop} {r : core.Result ℕ Stop} → Opens s t (Err e) (λ x k. open_tvar k x loc1 id1 loc2 id2) → r ≡ Err e → Did s t r (λ x. join_tvar (inner left) x case loc1 id1 loc2 id2)
  tvar_err a q = from_open (open_err (then_close left case id1 loc2 id2) a q)

  module _ {t : State} {m : Merging} (a : Opens s t (Ok m) (λ x k. open_tvar k x loc1 id1 loc2 id2)) {v : State} where
    pub tvar_inner : {e : Stop} {r : core.Result ℕ Stop} → Did t v (Err e) (λ x. join_impl left x case m.ty1 m.ty2) → r ≡ Err e → Did s v r (λ x. join_tvar (inner left) x case loc1 id1 loc2 id2)
    tvar_inner n q = from_open (open_ok (then_close left case id1 loc2 id2) a (did_err _ n q))

    module _ {ty : ℕ} (n : Did t v (Ok ty) (λ x. join_impl left x case m.ty1 m.ty2)) where
      -- what the closing asks
      pub close_in : (m.ty1 < v.used.nodes) × ((m.ty2 < v.used.nodes) × ((m.var2 < v.used.nodes) × (ty < v.used.nodes)))
      close_in =
          let more = nodes_more n.changed in
          (omega (arith, more, a.inside.0), (omega (arith, more, a.inside.1.0), (omega (arith, more, a.inside.1.1), n.inside)))

      pub tvar_close : {z : State} {r : core.Result ℕ Stop} → Did v z r (λ x. close_tvar x m.ty1 id1 m.ty2 loc2 id2 m.new_tvar.0 m.var2 ty) → Did s z r (λ x. join_tvar (inner left) x case loc1 id1 loc2 id2)
      tvar_close x = from_open (open_ok (then_close left case id1 loc2 id2) a (did_then _ n x))

-- ---- the operand walk

pub impl_deep : (left : ℕ) (case : j.TypingCase) (s : d.State) (lhs rhs : ℕ) → left ≡ 0 → outcome (Err (Refused TooDeep)) s ≡ join_impl left s case lhs rhs
unfolding join_impl outcome
impl_deep left case s lhs rhs e = rw e

impl_more : (left : ℕ) (case : j.TypingCase) (s : d.State) (lhs rhs : ℕ) → (left ≡ 0 → ⊥) → join_arm (inner (left - 1)) s case lhs rhs (arm (type_at s lhs) (type_at s rhs)) ≡ join_impl left s case lhs rhs
unfolding join_impl
impl_more zero case s lhs rhs h = absurd (h refl)
impl_more (suc n) case s lhs rhs h = rw (sub-one (suc n))

below_more : (args : List ℕ) (t n : ℕ) (s : d.Shape Places) → t ≤ n → Below args t s → Below args n s
below_more args t n d.UnitType h b = tt
below_more args t n (d.Ref m p) h b = omega arith
below_more args t n (d.Param id a) h b = tt
below_more args t n (d.Apply k c p) h b = (b.0, (b.1.0, λ i lt. let x = b.1.1 i lt in omega arith))
below_more args t n (d.Var v) h b = tt
below_more args t n d.Anything h b = tt
below_more args t n d.UnresolvedError h b = tt

node_seen : (s : State) (t : ℕ) (ds : List Struct) → node (held s ds) t ≡ node (tables s) t
unfolding node seen with_structs
node_seen s t ds = refl

fresh_loc : (s : d.State) (t : ℕ) → loc_of (with_var s) t ≡ loc_of s t
unfolding loc_of node with_var with_vars
fresh_loc s t = refl

node_below : (s : State) (t : ℕ) (n : Node) → t < s.used.nodes → ((ds : List Struct) → node_of n ≡ node (held s ds) t) → Below (tables s).args s.used.nodes (shape_of n.shape)
node_below s t n lt e =
    let x : t < count (tables s) = rw (count_view s.words.now s.used) lt in
    below_more (tables s).args t s.used.nodes (shape_of n.shape) (omega arith)
    (subst (λ (m : d.Node). Below (tables s).args t m.value) (sym (e [] ∙ node_seen s t [])) (s.lay.inside.parts t x))

-- two nodes, and the arm that they take
pub record Chosen (left : ℕ) (case : TypingCase) (s : State) (lhs rhs : ℕ) (l r : Node) (a : Arm) : Type 0 where
  pub lhs_in : lhs < s.used.nodes
  pub rhs_in : rhs < s.used.nodes
  pub more : left ≡ 0 → ⊥
  pub lhs_is : (ds : List Struct) → node_of l ≡ node (held s ds) lhs
  pub rhs_is : (ds : List Struct) → node_of r ≡ node (held s ds) rhs
  pub takes : Takes (case_of case) l.shape r.shape a

-- what is known where the arm is chosen
pub choice : (left : ℕ) (case : TypingCase) (s : State) (lhs rhs : ℕ) (l r : Node) (a : Arm) → (lhs < s.used.nodes) × (rhs < s.used.nodes) → (left ≡ 0 → ⊥)
    → ((ds : List Struct) → node_of l ≡ node (held s ds) lhs) → ((ds : List Struct) → node_of r ≡ node (held s ds) rhs) → Takes (case_of case) l.shape r.shape a → Chosen left case s lhs rhs l r a
choice left case s lhs rhs l r a pre more lhs_is rhs_is takes = record { lhs_in = pre.0; rhs_in = pre.1; more = more; lhs_is = lhs_is; rhs_is = rhs_is; takes = takes }

module _ {left : ℕ} {case : TypingCase} {s : State} {lhs rhs : ℕ} {l r : Node} {a : Arm} (h : Chosen left case s lhs rhs l r a) where
  chosen : (b : Arm) → a ≡ b → (ds : List Struct) → by_arm (inner (left - 1)) (held s ds) (case_of case) lhs rhs b ≡ join_impl left (held s ds) (case_of case) lhs rhs
  chosen b e ds =
      rw (← e)
      (sym (h.takes.is (inner (left - 1)) (held s ds) lhs rhs)
      ∙ (rw (value_is (held s ds) lhs l (h.lhs_is ds), value_is (held s ds) rhs r (h.rhs_is ds)) (impl_more left (case_of case) (held s ds) lhs rhs h.more)))

  by : (b : Arm) {t : State} {x : core.Result ℕ Stop} → a ≡ b → Did s t x (λ z. by_arm (inner (left - 1)) z (case_of case) lhs rhs b) → Did s t x (λ z. join_impl left z (case_of case) lhs rhs)
  by b e n = did_is (λ ds k. chosen b e ds) n

  -- what an arm goes on to are nodes
  pub arm_below : {b : Arm} → a ≡ b → ArmBelow (tables s).args s.used.nodes b
  arm_below e = rw e at (h.takes.below (tables s).args s.used.nodes (node_below s lhs l h.lhs_in h.lhs_is) (node_below s rhs r h.rhs_in h.rhs_is))

  -- the arms that go on to nothing
  pub arm_left : a ≡ Lhs → Did s s (Ok lhs) (λ z. join_impl left z (case_of case) lhs rhs)
  unfolding by_arm outcome
  arm_left e = by Lhs e (did_now h.lhs_in (λ ds k. refl))

  pub arm_right : a ≡ Rhs → Did s s (Ok rhs) (λ z. join_impl left z (case_of case) lhs rhs)
  unfolding by_arm outcome
  arm_right e = by Rhs e (did_now h.rhs_in (λ ds k. refl))

  pub arm_subtype : a ≡ SubtypeError → Did s s (Err (Failed (error.SubtypeError lhs rhs))) (λ z. join_impl left z (case_of case) lhs rhs)
  unfolding by_arm outcome
  arm_subtype e = by SubtypeError e (did_now (h.lhs_in, h.rhs_in) (λ ds k. refl))

  pub arm_arity : a ≡ ArityMismatch → Did s s (Err (Failed (error.ArityMismatch lhs rhs))) (λ z. join_impl left z (case_of case) lhs rhs)
  unfolding by_arm outcome
  arm_arity e = by ArityMismatch e (did_now (h.lhs_in, h.rhs_in) (λ ds k. refl))

  pub arm_incompatible : a ≡ Incompatible → Did s s (Err (Failed (error.Incompatible lhs rhs))) (λ z. join_impl left z (case_of case) lhs rhs)
  unfolding by_arm outcome
  arm_incompatible e = by Incompatible e (did_now (h.lhs_in, h.rhs_in) (λ ds k. refl))

  pub arm_disagree : a ≡ Disagree → Did s s (Err (Refused AbilitiesDisagree)) (λ z. join_impl left z (case_of case) lhs rhs)
  unfolding by_arm outcome
  arm_disagree e = by Disagree e (did_now tt (λ ds k. refl))

  -- references
  module _ {side mut : Bool} {t1 t2 loc : ℕ} (e : a ≡ Refs side mut t1 t2) (q : loc ≡ (if side then l.loc else r.loc)) where
    from_ref : {t : State} {x : core.Result ℕ Stop} → Did s t x (λ z. join_impl (left - 1) z (case_of case) t1 t2 >>= (λ y. sp y.0 loc (d.Ref mut y.1))) → Did s t x (λ z. join_impl left z (case_of case) lhs rhs)
    unfolding by_arm
    from_ref n = by (Refs side mut t1 t2) e (did_is (λ ds k. rw (q, loc_is (held s ds) lhs l (h.lhs_is ds), loc_is (held s ds) rhs r (h.rhs_is ds))) n)

    pub refs_err : {t : State} {x : Stop} {y : core.Result ℕ Stop} → Did s t (Err x) (λ z. join_impl (left - 1) z (case_of case) t1 t2) → y ≡ Err x → Did s t y (λ z. join_impl left z (case_of case) lhs rhs)
    refs_err n p = from_ref (did_err _ n p)

    pub arm_refs : {t v : State} {ty : ℕ} {y : core.Result ℕ Stop} → Did s t (Ok ty) (λ z. join_impl (left - 1) z (case_of case) t1 t2) → Did t v y (λ z. sp z loc (d.Ref mut ty)) → Did s v y (λ z. join_impl left z (case_of case) lhs rhs)
    arm_refs n m = from_ref (did_then _ n m)

  -- named types
  module _ {t1 t2 : Applied} (e : a ≡ Applies t1 t2) where
    from_types : {t : State} {x : core.Result ℕ Stop}
        → Did s t x (λ z. join_impl_types (inner (left - 1)) z (case_of case) (args_at z (args_of t1)) (args_at z (args_of t2)) >>= (λ y. sp y.0 r.loc (d.Apply (mark_of t2.k) (name_of t2.n) y.1)))
        → Did s t x (λ z. join_impl left z (case_of case) lhs rhs)
    unfolding by_arm
    from_types n = by (Applies t1 t2) e (did_is (λ ds k. rw (loc_is (held s ds) rhs r (h.rhs_is ds))) n)

    pub types_err : {t : State} {x : Stop} {y : core.Result ℕ Stop} → Joined s t (Err x) (λ z. join_impl_types (inner (left - 1)) z (case_of case) (args_at z (args_of t1)) (args_at z (args_of t2))) → y ≡ Err x
        → Did s t y (λ z. join_impl left z (case_of case) lhs rhs)
    types_err n p = from_types (listed_err _ n p)

    pub arm_applies : {t v : State} {x : Types} {y : core.Result ℕ Stop} → Joined s t (Ok x) (λ z. join_impl_types (inner (left - 1)) z (case_of case) (args_at z (args_of t1)) (args_at z (args_of t2)))
        → Did t v y (λ z. sp z r.loc (d.Apply (mark_of t2.k) (name_of t2.n) (take x.many x.tys))) → Did s v y (λ z. join_impl left z (case_of case) lhs rhs)
    arm_applies n m = from_types (listed_then _ n m)

  -- two variables
  pub arm_vars : {id1 id2 : TVar} {t : State} {x : core.Result ℕ Stop} → a ≡ Vars id1 id2 → Did s t x (λ z. join_tvar (inner (left - 1)) z (case_of case) l.loc id1.0 r.loc id2.0) → Did s t x (λ z. join_impl left z (case_of case) lhs rhs)
  unfolding by_arm
  arm_vars {id1} {id2} e n = by (Vars id1 id2) e (did_is (λ ds k. rw (loc_is (held s ds) lhs l (h.lhs_is ds), loc_is (held s ds) rhs r (h.rhs_is ds))) n)

  -- one variable
  abbrev merge_left : ℕ → ThenMerge
  merge_left id = λ z new. join_tvar (inner (left - 1)) z (case_of case) l.loc id r.loc new

  abbrev merge_right : ℕ → ThenMerge
  merge_right id = λ z new. join_tvar (inner (left - 1)) z (case_of case) l.loc new r.loc id

  left_by : (id : ℕ) (ds : List Struct) (g : Option ℕ) → g ≡ get (held s ds) id → meet_tvar (merge_left id) (held s ds) lhs rhs lhs id rhs ≡ join_arm (inner (left - 1)) (held s ds) (case_of case) lhs rhs (VarL id)
  unfolding meet_tvar join_arm
  left_by id ds None e = rw (← e, meet_tvar, join_arm)
  left_by id ds (Some t) e =
      rw (← e, meet_tvar, join_arm)
      (next_same (held s ds) _ _ (rw (fresh_loc (held s ds) lhs, fresh_loc (held s ds) rhs, loc_is (held s ds) lhs l (h.lhs_is ds), loc_is (held s ds) rhs r (h.rhs_is ds))))

  right_by : (id : ℕ) (ds : List Struct) (g : Option ℕ) → g ≡ get (held s ds) id → meet_tvar (merge_right id) (held s ds) lhs rhs rhs id lhs ≡ join_arm (inner (left - 1)) (held s ds) (case_of case) lhs rhs (VarR id)
  unfolding meet_tvar join_arm
  right_by id ds None e = rw (← e, meet_tvar, join_arm)
  right_by id ds (Some t) e =
      rw (← e, meet_tvar, join_arm)
      (next_same (held s ds) _ _ (rw (fresh_loc (held s ds) lhs, fresh_loc (held s ds) rhs, loc_is (held s ds) lhs l (h.lhs_is ds), loc_is (held s ds) rhs r (h.rhs_is ds))))

  module _ {id : TVar} where
    module _ (e : a ≡ VarLhs id) where
      from_left : {v : State} {x : core.Result ℕ Stop} → Did s v x (λ z. meet_tvar (merge_left id.0) z lhs rhs lhs id.0 rhs) → Did s v x (λ z. join_impl left z (case_of case) lhs rhs)
      unfolding by_arm
      from_left n = by (VarLhs id) e (did_is (λ ds k. left_by id.0 ds (get (held s ds) id.0) refl) n)

      pub left_err : {t : State} {x : Stop} {y : core.Result ℕ Stop} → Meets s t lhs (Err x) (λ z k. meet_tvar k z lhs rhs lhs id.0 rhs) → y ≡ Err x → Did s t y (λ z. join_impl left z (case_of case) lhs rhs)
      left_err m p = from_left (met_err (merge_left id.0) m p)

      pub left_var : {t : State} {m : Option TVar} → Meets s t lhs (Ok m) (λ z k. meet_tvar k z lhs rhs lhs id.0 rhs) → m ≡ None → Did s t (Ok lhs) (λ z. join_impl left z (case_of case) lhs rhs)
      left_var m p = from_left (met_var (merge_left id.0) m p h.lhs_in)

      pub left_merge : {t v : State} {m : Option TVar} {n : TVar} {x : core.Result ℕ Stop} → Meets s t lhs (Ok m) (λ z k. meet_tvar k z lhs rhs lhs id.0 rhs) → m ≡ Some n
          → Did t v x (λ z. join_tvar (inner (left - 1)) z (case_of case) l.loc id.0 r.loc n.0) → Did s v x (λ z. join_impl left z (case_of case) lhs rhs)
      left_merge m p n = from_left (met_merge (merge_left id.0) m p n)

    module _ (e : a ≡ VarRhs id) where
      from_right : {v : State} {x : core.Result ℕ Stop} → Did s v x (λ z. meet_tvar (merge_right id.0) z lhs rhs rhs id.0 lhs) → Did s v x (λ z. join_impl left z (case_of case) lhs rhs)
      unfolding by_arm
      from_right n = by (VarRhs id) e (did_is (λ ds k. right_by id.0 ds (get (held s ds) id.0) refl) n)

      pub right_err : {t : State} {x : Stop} {y : core.Result ℕ Stop} → Meets s t rhs (Err x) (λ z k. meet_tvar k z lhs rhs rhs id.0 lhs) → y ≡ Err x → Did s t y (λ z. join_impl left z (case_of case) lhs rhs)
      right_err m p = from_right (met_err (merge_right id.0) m p)

      pub right_var : {t : State} {m : Option TVar} → Meets s t rhs (Ok m) (λ z k. meet_tvar k z lhs rhs rhs id.0 lhs) → m ≡ None → Did s t (Ok rhs) (λ z. join_impl left z (case_of case) lhs rhs)
      right_var m p = from_right (met_var (merge_right id.0) m p h.rhs_in)

      pub right_merge : {t v : State} {m : Option TVar} {n : TVar} {x : core.Result ℕ Stop} → Meets s t rhs (Ok m) (λ z k. meet_tvar k z lhs rhs rhs id.0 lhs) → m ≡ Some n
          → Did t v x (λ z. join_tvar (inner (left - 1)) z (case_of case) l.loc n.0 r.loc id.0) → Did s v x (λ z. join_impl left z (case_of case) lhs rhs)
      right_merge m p n = from_right (met_merge (merge_right id.0) m p n)
