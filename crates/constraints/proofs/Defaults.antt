-- The steps of default_num_vars, as laws that follow the code. Assumes nothing.
use Rattle.std.proofs.Common.{◌≡◌, ℕ, suc, ◌+◌, ◌*◌, ◌<◌, ◌≤◌, Bool, true, false, List, [], ◌∷◌, get_or, drop, sym, refl, ap, ◌∙◌, add-one, arith, drop_of_length-le, drop-cons}
use Rattle.std.specs.Prelude.{Option, None, Some, Ok, Err}
use Rattle.std.specs.Prelude as core
use Rattle.definition.specs.Types as d
use Rattle.definition.specs.Types.{State, Struct, Cell, unbound, Spanned, TypeValue, Result, ok, err, refused, ◌>>=◌}
use Rattle.definition.specs.Store.{node, with_args, spanned, num_loc, need_of, sp, with_structs}
use Rattle.definition.specs.Subst.{forward_tvar, unfold_type}
use Rattle.definition.specs.Join.{join}
use Rattle.definition.specs.Abilities.{primitives}
use Rattle.definition.specs.Constraints.{undecided, default_builtin, default_integer, default_of, num_vars, default_num_var, default_num_vars}
use Rattle.table.specs.Rows.{read_option}
use Rattle.table.specs.State.{Any, outcome, seen, view, node_of, shape_of}
use Rattle.table.specs.Did.{held, tables, Became, Did, Added}
use Rattle.table.specs.declared.Used.{Used}
use Rattle.table.specs.declared.Node.{Node}
use Rattle.table.specs.declared.state.State as table
use Rattle.table.specs.declared.state.Stop.{Stop}
use Rattle.table.proofs.Steps.{bind_assoc}
use Rattle.table.proofs.Did.{became_now, became_is, became_on, became_as, became_number, did_is, did_err, did_then, err_is, stop_in}
use Rattle.table.proofs.Grown.{value_is}
use Rattle.table.proofs.Fields.{num_read}
use Rattle.table.proofs.Pushed.{taken_view}
use Rattle.subst.specs.Answers.{unfolded, var_at}
use Rattle.subst.specs.declared.Unfolded.{Unfolded}
use Rattle.subst.specs.declared.Unfolded.TheVariants.{Node as NodeU, Anything as AnythingU}
use Rattle.snapshot.specs.Snap.{Saved}
use Rattle.constraints.specs.Solve.{numbered, join_integer, default_marked, defaults}

-- ---- what nothing decides

module _ (s : State) (f : Unfolded) (ty : Spanned TypeValue) (e : unfolded f s ≡ unfold_type s ty) where
  pub undecided_node : (t : ℕ) (n : Node) (r : Bool) → f ≡ NodeU t → node_of n ≡ node s t → r ≡ undecided (with_args s (shape_of n.shape)) → r ≡ undecided (unfold_type s ty).value
  unfolding spanned
  undecided_node t n r p k q = q ∙ ap undecided (value_is s t n k ∙ ap (λ (g : Unfolded). (unfolded g s).value) (sym p) ∙ ap (λ (x : Spanned TypeValue). x.value) e)

  pub undecided_anything : (loc : ℕ) → f ≡ AnythingU loc → true ≡ undecided (unfold_type s ty).value
  unfolding undecided
  undecided_anything loc p = ap (λ (g : Unfolded). undecided (unfolded g s).value) (sym p) ∙ ap (λ (x : Spanned TypeValue). undecided x.value) e

-- ---- answers without a number

numbered_bind : (r : Result State) (f : State → Result State) → numbered (r >>= f) ≡ (numbered r >>= (λ x. numbered (f x.0)))
unfolding numbered ◌>>=◌
numbered_bind (ok a) f = refl
numbered_bind (err s e) f = refl
numbered_bind (refused x) f = refl

abbrev no_number : State × ℕ → Result (State × ℕ)
no_number x = ok (x.0, 0)

-- ---- the join with the integer type

abbrev from_tvar : ℕ → State × ℕ → Result (State × ℕ)
from_tvar t x = join x.0 t x.1

abbrev from_integer : ℕ → ℕ → State × ℕ → Result (State × ℕ)
from_integer v loc x = sp x.0 loc (d.Var v) >>= from_tvar x.1

abbrev pub Chosen : table.State → ℕ → ℕ → Type 0
Chosen s v b = (ds : List Struct) → b ≡ default_builtin (need_of (held s ds) (forward_tvar (held s ds) v))

default_is : (s : State) (v b : ℕ) → b ≡ default_builtin (need_of s (forward_tvar s v)) → d.Apply (Some 7) (d.Builtin b) [] ≡ default_of s v
unfolding default_of default_integer primitives
default_is s v b e = ap (λ (x : ℕ). d.Apply (Some 7) (d.Builtin x) []) e

module _ (v loc : ℕ) {s t : table.State} {b : ℕ} (chosen : Chosen s v b) where
  pushed : {r : core.Result ℕ Stop} → Did s t r (λ x. sp x loc (d.Apply (Some 7) (d.Builtin b) [])) → Did s t r (λ x. sp x loc (default_of x v))
  pushed a = did_is (λ ds k. ap (λ (ty : TypeValue). sp (held s ds) loc ty) (default_is (held s ds) v b (chosen ds))) a

  pub integer_full : {e : Stop} {r : core.Result ℕ Stop} → Did s t (Err e) (λ x. sp x loc (d.Apply (Some 7) (d.Builtin b) [])) → r ≡ Err e → Did s t r (λ x. join_integer x v loc)
  unfolding join_integer
  integer_full a q = did_err (from_integer v loc) (pushed a) q

  module _ {integer : ℕ} (a : Did s t (Ok integer) (λ x. sp x loc (d.Apply (Some 7) (d.Builtin b) []))) where
    integer_then : {m : table.State} {r : core.Result ℕ Stop} → Did t m r (λ x. sp x loc (d.Var v) >>= from_tvar integer) → Did s m r (λ x. join_integer x v loc)
    unfolding join_integer
    integer_then n = did_then (from_integer v loc) (pushed a) n

    pub tvar_full : {m : table.State} {e : Stop} {r : core.Result ℕ Stop} → Did t m (Err e) (λ x. sp x loc (d.Var v)) → r ≡ Err e → Did s m r (λ x. join_integer x v loc)
    tvar_full b q = integer_then (did_err (from_tvar integer) b q)

    pub integer_joined : {tvar : ℕ} {m n : table.State} {r : core.Result ℕ Stop} → Did t m (Ok tvar) (λ x. sp x loc (d.Var v)) → Did m n r (λ x. join x integer tvar) → Did s n r (λ x. join_integer x v loc)
    integer_joined b j = integer_then (did_then (from_tvar integer) b j)

-- ---- default_num_var

join_unnumbered : (t : ℕ) (y : State × ℕ) → (join y.0 t y.1 >>= no_number) ≡ ((join y.0 t y.1 >>= (λ z. ok z.0)) >>= (λ s. ok (s, 0)))
unfolding ◌>>=◌
join_unnumbered t y = sym (bind_assoc (join y.0 t y.1) (λ z. ok z.0) (λ s. ok (s, 0)))

tvar_unnumbered : (v loc : ℕ) (x : State × ℕ) → (from_integer v loc x >>= no_number) ≡ ((sp x.0 loc (d.Var v) >>= (λ y. join y.0 x.1 y.1 >>= (λ z. ok z.0))) >>= (λ s. ok (s, 0)))
tvar_unnumbered v loc x =
    bind_assoc (sp x.0 loc (d.Var v)) (from_tvar x.1) no_number
    ∙ (λ i. sp x.0 loc (d.Var v) >>= (λ y. join_unnumbered x.1 y i))
    ∙ sym (bind_assoc (sp x.0 loc (d.Var v)) (λ y. join y.0 x.1 y.1 >>= (λ z. ok z.0)) (λ s. ok (s, 0)))

default_joins : (s : State) (v loc : ℕ) → undecided (unfold_type s (var_at loc v)).value ≡ true → (join_integer s v loc >>= no_number) ≡ numbered (default_num_var s v loc)
unfolding numbered default_num_var join_integer
default_joins s v loc e =
    rw (e, default_num_var)
    (bind_assoc (sp s loc (default_of s v)) (from_integer v loc) no_number
    ∙ (λ i. sp s loc (default_of s v) >>= (λ x. tvar_unnumbered v loc x i))
    ∙ sym (bind_assoc (sp s loc (default_of s v)) (λ x. sp x.0 loc (d.Var v) >>= (λ y. join y.0 x.1 y.1 >>= (λ z. ok z.0))) (λ t. ok (t, 0))))

default_stays : (s : State) (v loc : ℕ) → undecided (unfold_type s (var_at loc v)).value ≡ false → ok (s, 0) ≡ numbered (default_num_var s v loc)
unfolding numbered default_num_var ◌>>=◌
default_stays s v loc e = rw (e, default_num_var) refl

module _ {s : table.State} where
  -- nothing was written
  pub added_now : {f : State → Result (State × ℕ)} → ((ds : List Struct) → ok (held s ds, 0) ≡ f (held s ds)) → Added s s (Ok tt) f
  unfolding outcome
  added_now e = record { changed = became_now (λ ds k. e ds); inside = tt }

  module _ (v loc : ℕ) (b : Bool) (is : (ds : List Struct) → b ≡ undecided (unfold_type (held s ds) (var_at loc v)).value) where
    pub default_decided : b ≡ false → Added s s (Ok tt) (λ x. numbered (default_num_var x v loc))
    default_decided q = added_now (λ ds. default_stays (held s ds) v loc (sym (is ds) ∙ q))

    module _ (q : b ≡ true) where
      pub default_stop : {t : table.State} {e : Stop} {r : core.Result Unit Stop} → Did s t (Err e) (λ x. join_integer x v loc) → r ≡ Err e → Added s t r (λ x. numbered (default_num_var x v loc))
      default_stop {e} a p = rw p record { changed = became_is (λ ds k. default_joins (held s ds) v loc (sym (is ds) ∙ q)) (became_as (λ y. y >>= no_number) a.changed (λ x. err_is e x no_number)); inside = stop_in _ e a.inside }

      pub default_done : {t : table.State} {n : ℕ} → Did s t (Ok n) (λ x. join_integer x v loc) → Added s t (Ok tt) (λ x. numbered (default_num_var x v loc))
      unfolding outcome ◌>>=◌
      default_done a = record { changed = became_is (λ ds k. default_joins (held s ds) v loc (sym (is ds) ∙ q)) (became_number (λ y. y >>= no_number) a.changed (became_now (λ ds k. refl))); inside = tt }

-- ---- a variable with a mark, or without

pub measured_none : (s : table.State) (v : ℕ) {m : Option ℕ} → m ≡ None → Added s s (Ok tt) (λ x. numbered (default_marked x v m))
unfolding numbered default_marked ◌>>=◌
measured_none s v e = rw e (added_now (λ ds. refl))

pub marked_some : {s t : table.State} (v : ℕ) {m : Option ℕ} {loc : ℕ} {r : core.Result Unit Stop} → m ≡ Some loc → Added s t r (λ x. numbered (default_num_var x v loc)) → Added s t r (λ x. numbered (default_marked x v m))
unfolding default_marked
marked_some v e a = rw e a

pub saved_is : (w : List ℕ) (u : Used) (saved : List ℕ) (v : ℕ) (m : Option ℕ) → Saved w u saved → v < u.vars → m ≡ read_option (get_or saved (v * 5 + 2) 0) (get_or saved (v * 5 + 3) 0)
    → m ≡ (get_or (view w u).vars v unbound).numeric
unfolding num_loc seen with_structs
saved_is w u saved v m h lt e =
    let p : 16389 + (v * 5 + 2) ≡ 16389 + v * 5 + 2 = omega arith in
    let q : 16389 + (v * 5 + 3) ≡ 16389 + v * 5 + 3 = omega arith in
    e
    ∙ (λ i. read_option (h.word (v * 5 + 2) (omega arith) i) (h.word (v * 5 + 3) (omega arith) i))
    ∙ (λ i. read_option (get_or w (p i) 0) (get_or w (q i) 0))
    ∙ sym (num_read w u [] v lt)

-- ---- default_num_vars, one variable after the other

defaults_cons : (s : State) (v : ℕ) (c : Cell) (cells : List Cell) (m : Option ℕ) → c.numeric ≡ m → ((t : State) → defaults t (suc v) cells ≡ default_num_vars t (num_vars (suc v) cells))
    → (default_marked s v c.numeric >>= (λ t. defaults t (suc v) cells)) ≡ default_num_vars s (num_vars v (c ∷ cells))
unfolding default_num_vars num_vars default_marked ◌>>=◌
defaults_cons s v c cells None e h = rw (e, num_vars) (h s)
defaults_cons s v c cells (Some loc) e h = rw (e, num_vars) (λ i. default_num_var s v loc >>= (λ t. h t i))

defaults_is : (s : State) (v : ℕ) (cells : List Cell) → defaults s v cells ≡ default_num_vars s (num_vars v cells)
unfolding defaults default_num_vars num_vars
defaults_is s v [] = refl
defaults_is s v (c ∷ cells) = defaults_cons s v c cells c.numeric refl (λ t. defaults_is t (suc v) cells)

module _ (s₀ : table.State) where
  -- from variable v on
  unfoldable pub rest : ℕ → State → Result (State × ℕ)
  rest v s = numbered (defaults s v (drop v (tables s₀).vars))

  rest_all : (s : State) → rest 0 s ≡ numbered (default_num_vars s (num_vars 0 (tables s₀).vars))
  unfolding rest
  rest_all s = ap numbered (defaults_is s 0 (tables s₀).vars)

  rest_none : (s : State) (v : ℕ) → s₀.used.vars ≤ v → ok (s, 0) ≡ rest v s
  unfolding rest defaults numbered ◌>>=◌
  rest_none s v le = rw (drop_of_length-le (tables s₀).vars {i = v} (rw (taken_view s₀.words.now s₀.used) le)) refl

  rest_more : (s : State) (v : ℕ) (m : Option ℕ) → v < s₀.used.vars → m ≡ (get_or (tables s₀).vars v unbound).numeric → (numbered (default_marked s v m) >>= (λ x. rest (v + 1) x.0)) ≡ rest v s
  unfolding rest defaults
  rest_more s v m lt e =
      rw (drop-cons (tables s₀).vars v unbound (rw (taken_view s₀.words.now s₀.used) lt), e, add-one v)
      (sym (numbered_bind (default_marked s v (get_or (tables s₀).vars v unbound).numeric) (λ t. defaults t (suc v) (drop (suc v) (tables s₀).vars))))

  -- the variables below v are done
  pub record Defaulting (s : table.State) (v : ℕ) : Type 0 where
    pub within : v ≤ s₀.used.vars
    pub changed : Became Any s₀ s (rest v) (rest 0)

  pub defaulting_none : Defaulting s₀ 0
  defaulting_none = record { within = omega arith; changed = became_now (λ ds k. refl) }

  whole : (ds : List Struct) → rest 0 (held s₀ ds) ≡ numbered (default_num_vars (held s₀ ds) (num_vars 0 (held s₀ ds).vars))
  unfolding seen with_structs
  whole ds = rest_all (held s₀ ds)

  -- what follows variable v
  abbrev onward : ℕ → State × ℕ → Result (State × ℕ)
  onward v x = rest (v + 1) x.0

  module _ {s : table.State} {v : ℕ} (h : Defaulting s v) where
    pub defaulting_all : s₀.used.vars ≤ v → Added s₀ s (Ok tt) (λ x. numbered (default_num_vars x (num_vars 0 x.vars)))
    unfolding outcome
    defaulting_all le = record { changed = became_is (λ ds k. whole ds) (became_as (λ m. m) h.changed (λ x. rest_none x v le)); inside = tt }

    module _ (lt : v < s₀.used.vars) (saved : List ℕ) {m : Option ℕ} (kept : Saved s₀.words.now s₀.used saved) (is : m ≡ read_option (get_or saved (v * 5 + 2) 0) (get_or saved (v * 5 + 3) 0)) {x : ℕ} (e : x ≡ v) where
      one_more : (y : State) → (numbered (default_marked y x m) >>= onward v) ≡ rest v y
      one_more y = rw e (rest_more y v m lt (saved_is s₀.words.now s₀.used saved v m kept lt is))

      stepped : {t : table.State} {answer : State → Result (State × ℕ)} → Became Any s t answer (λ y. numbered (default_marked y x m) >>= onward v) → Became Any s₀ t answer (rest 0)
      stepped r = became_on (λ y. y) h.changed (became_is (λ ds k. one_more (held s ds)) r)

      pub defaulting_stop : {t : table.State} {stop : Stop} {r : core.Result Unit Stop} → Added s t (Err stop) (λ y. numbered (default_marked y x m)) → r ≡ Err stop → Added s₀ t r (λ y. numbered (default_num_vars y (num_vars 0 y.vars)))
      defaulting_stop {stop} a q =
          rw q record { changed = became_is (λ ds k. whole ds) (stepped (became_as (λ y. y >>= onward v) a.changed (λ y. err_is stop y (onward v)))); inside = a.inside }

      pub defaulting_more : {t : table.State} {one : Unit} → Added s t (Ok one) (λ y. numbered (default_marked y x m)) → Defaulting t (v + 1)
      unfolding ◌>>=◌
      defaulting_more a = record { within = omega arith; changed = stepped (became_number (λ y. y >>= onward v) a.changed (became_now (λ ds k. refl))) }
