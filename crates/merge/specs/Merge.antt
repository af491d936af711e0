-- The definition's join_tvar cut at its inner join, given what follows, and the answers of the cuts. Assumes nothing: these are definitions.
use Rattle.std.specs.Prelude.{◌≡◌, List, ℕ, ◌+◌, ◌*◌, ◌<◌, ◌≤◌, if◌then◌else◌}
use Rattle.std.specs.Prelude.{Option, None, Some, Ok, Err}
use Rattle.std.specs.Prelude as core
use Rattle.definition.specs.Types as d
use Rattle.definition.specs.Types.{Struct, Result, ok, err, ◌>>=◌, RecursiveType}
use Rattle.definition.specs.Store.{loc_of, get, num_loc, need_of, insert, sp, next_tvar}
use Rattle.definition.specs.Subst.{forward_tvar}
use Rattle.definition.specs.Join.{type_of, merge_num, larger, shown, join_bind_tvar, join_unbound}
use Rattle.names.specs.declared.TVar.{TVar}
use Rattle.table.specs.State.{Any, outcome}
use Rattle.table.specs.Did.{held, StopIn, Became}
use Rattle.table.specs.declared.state.State.{State}
use Rattle.table.specs.declared.state.Stop.{Stop}
use Rattle.merge.specs.declared.Merging.{Merging}

-- ---- before the inner join. What follows gets the state, ty1, ty2, new_tvar and var2

abbrev pub Inner : Type 0
Inner = d.State → ℕ → ℕ → ℕ → ℕ → Result (d.State × ℕ)

unfoldable pub open_ends : Inner → d.State → ℕ → ℕ → Option ℕ → ℕ → ℕ → ℕ → Option ℕ → ℕ → ℕ → Result (d.State × ℕ)
open_ends inner subst loc1 last_id1 num_loc_1 ty1 loc2 last_id2 num_loc_2 ty2 need = do
  (subst, new_tvar) ← next_tvar subst
  (subst, var1) ← sp (merge_num subst num_loc_1 num_loc_2 need new_tvar) loc1 (d.Var new_tvar)
  (subst, var2) ← sp subst loc2 (d.Var new_tvar)
  inner (insert (insert subst last_id1 var1) last_id2 var2) ty1 ty2 new_tvar var2

-- .. from the types of both ends on
unfoldable pub open_types : Inner → d.State → ℕ → ℕ → Option ℕ → ℕ → ℕ → Option ℕ → ℕ → Result (d.State × ℕ)
open_types inner subst loc1 last_id1 num_loc_1 loc2 last_id2 num_loc_2 need = do
  (subst, ty1) ← type_of subst loc1 last_id1
  (subst, ty2) ← type_of subst loc2 last_id2
  open_ends inner subst loc1 last_id1 num_loc_1 ty1 loc2 last_id2 num_loc_2 ty2 need

unfoldable pub open_tvar : Inner → d.State → ℕ → ℕ → ℕ → ℕ → Result (d.State × ℕ)
open_tvar inner subst loc1 id1 loc2 id2 =
    open_types inner subst
    loc1 (forward_tvar subst id1) (num_loc subst (forward_tvar subst id1))
    loc2 (forward_tvar subst id2) (num_loc subst (forward_tvar subst id2))
    (larger (need_of subst (forward_tvar subst id1)) (need_of subst (forward_tvar subst id2)))

-- the merge, or what it ends with, given what follows
unfoldable pub opened : core.Result Merging Stop → d.State → Inner → Result (d.State × ℕ)
opened (Ok m) subst inner = inner subst m.ty1 m.ty2 m.new_tvar.0 m.var2
opened (Err e) subst inner = outcome (Err e) subst

-- the nodes that it names are below n
abbrev pub OpenedIn : ℕ → core.Result Merging Stop → Type 0
OpenedIn n (Ok m) = (m.ty1 < n) × ((m.ty2 < n) × (m.var2 < n))
OpenedIn n (Err e) = StopIn n e

-- the state s became t and the answer r, as f says of whatever follows
pub record Opens (s t : State) (r : core.Result Merging Stop) (f : d.State → Inner → Result (d.State × ℕ)) : Type 0 where
  pub changed : Became Any s t (opened r) f
  pub inside : OpenedIn t.used.nodes r

-- one of the variables is taken at least, unless there is an error
abbrev pub OneTaken : core.Result Merging Stop → ℕ → ℕ → Type 0
OneTaken (Ok m) vars vars' = vars < vars'
OneTaken (Err e) vars vars' = Unit {0}

-- ---- how many links were followed

-- n are at most two chains for each of the variables, unless there is an error
abbrev pub FewFor : {A : Type 0} → core.Result A Stop → ℕ → ℕ → Type 0
FewFor (Ok x) vars n = n ≤ 2048 * vars
FewFor (Err e) vars n = Unit {0}

-- n links were followed before, and n' after: more by what f says of the state before
pub record Follows {A : Type 0} (s t : State) (r : core.Result A Stop) (n n' : ℕ) (f : d.State → ℕ) : Type 0 where
  pub is : (ds : List Struct) → n' ≡ n + f (held s ds)
  pub few : FewFor r t.used.vars n'

-- ---- after the inner join

unfoldable pub show_both : d.State → ℕ → ℕ → ℕ → ℕ → Result (d.State × ℕ)
show_both subst ty1 id1 ty2 id2 = do
  (subst, ty1) ← shown subst ty1 id1
  (subst, ty2) ← shown subst ty2 id2
  err subst (d.Incompatible ty1 ty2)

unfoldable pub close_tvar : d.State → ℕ → ℕ → ℕ → ℕ → ℕ → ℕ → ℕ → ℕ → Result (d.State × ℕ)
close_tvar subst ty1 id1 ty2 loc2 id2 new_tvar var2 new_ty = elim (get subst new_tvar) [
  | Some t ↦ err subst (RecursiveType (loc_of subst t))
  | None ↦ do
    (subst, bound) ← join_bind_tvar subst loc2 new_tvar new_ty
    if bound then ok (subst, var2) else show_both subst ty1 id1 ty2 id2
]

-- ---- a variable meets another type

-- what follows gets the state and the fresh variable
abbrev pub ThenMerge : Type 0
ThenMerge = d.State → ℕ → Result (d.State × ℕ)

-- join_impl's arms of one variable; where it is bound, `merge` follows
unfoldable pub meet_tvar : ThenMerge → d.State → ℕ → ℕ → ℕ → ℕ → ℕ → Result (d.State × ℕ)
meet_tvar merge subst lhs rhs var id other = elim (get subst id) [
  | None ↦ join_unbound subst lhs rhs var id other
  | Some t ↦ do
    (subst, new_tvar) ← next_tvar subst
    merge (insert subst new_tvar other) new_tvar
]

-- the node `var`, or the fresh variable, given what follows
unfoldable pub met : ℕ → core.Result (Option TVar) Stop → d.State → ThenMerge → Result (d.State × ℕ)
met var (Ok None) subst merge = ok (subst, var)
met var (Ok (Some new_tvar)) subst merge = merge subst new_tvar.0
met var (Err e) subst merge = outcome (Err e) subst

-- the nodes that it names are below n
abbrev pub MeetIn : ℕ → core.Result (Option TVar) Stop → Type 0
MeetIn n (Ok m) = Unit {0}
MeetIn n (Err e) = StopIn n e

-- the state s became t and the answer r, as f says of whatever follows
pub record Meets (s t : State) (var : ℕ) (r : core.Result (Option TVar) Stop) (f : d.State → ThenMerge → Result (d.State × ℕ)) : Type 0 where
  pub changed : Became Any s t (met var r) f
  pub inside : MeetIn t.used.nodes r
