-- Answers of substitution as the definition has them, and what is promised with them. Assumes nothing: these are definitions.
use Rattle.std.specs.Prelude.{◌≡◌, Bool, true, false, List, ℕ, suc, ◌+◌, ◌<◌, length, get_or, Result, Ok, Err}
use Rattle.definition.specs.Types as d
use Rattle.definition.specs.Types.{Struct, Spanned, TypeValue, ok, err, RecursiveType}
use Rattle.definition.specs.Store.{type_at, spanned}
use Rattle.definition.specs.Subst.{forward_tvar, links, unfold_type}
use Rattle.definition.specs.Join.{is_var, used, join_bind_tvar}
use Rattle.definition.specs.Spelled.{spelled, first_place, looked_at}
use Rattle.table.specs.State.{Any}
use Rattle.table.specs.Did.{held, Became}
use Rattle.table.specs.declared.state.State.{State}
use Rattle.subst.specs.declared.End.{End}
use Rattle.subst.specs.declared.Unfolded.{Unfolded}
use Rattle.subst.specs.declared.Unfolded.TheVariants.{Node, Anything}
use Rattle.subst.specs.declared.Occurs.{Occurs}
use Rattle.subst.specs.declared.Occurs.TheVariants as occurs
use Rattle.subst.specs.declared.Soon.{Soon}
use Rattle.subst.specs.declared.Soon.TheVariants as soon
use Rattle.subst.specs.declared.BindError.{BindError}
use Rattle.subst.specs.declared.BindError.TheVariants.{NotNumeric, Recursive}

-- the end of v's chain and the links that lead there, whatever the declarations are
pub record Forwards (s : State) (end : End) (v : ℕ) : Type 0 where
  pub tvar_is : (ds : List Struct) → end.tvar.0 ≡ forward_tvar (held s ds) v
  pub links_is : (ds : List Struct) → end.links ≡ links (held s ds) v

-- what a type unfolds to
abbrev pub unfolded : Unfolded → d.State → Spanned TypeValue
unfolded (Node t) s = spanned s t
unfolded (Anything loc) s = record { loc = loc; value = d.Anything }

abbrev pub UnfoldedIn : ℕ → Unfolded → Type 0
UnfoldedIn n (Node t) = t < n
UnfoldedIn n (Anything loc) = Unit {0}

-- a variable at a location
abbrev pub var_at : ℕ → ℕ → Spanned TypeValue
var_at loc v = record { loc = loc; value = d.Var v }

-- the type ty unfolds to r, whatever the declarations are
pub record Unfolds (s : State) (r : Unfolded) (ty : d.State → Spanned TypeValue) : Type 0 where
  pub is : (ds : List Struct) → unfolded r (held s ds) ≡ unfold_type (held s ds) (ty (held s ds))
  pub inside : UnfoldedIn s.used.nodes r

-- the occurs walk's answer for the variable v and node t, whatever the declarations are: whether it is met, and how many parts were looked at
pub record Looks (s : State) (v t : ℕ) (met : Bool) (n : ℕ) : Type 0 where
  pub is : (ds : List Struct) → used (suc t) (held s ds) v t ≡ met
  pub many : (ds : List Struct) → looked_at (held s ds) v t ≡ n

abbrev pub Looked : State → ℕ → ℕ → Occurs → Type 0
Looked s v t (occurs.Met n) = Looks s v t true n
Looked s v t (occurs.Clear n) = Looks s v t false n

-- .. of a walk with a budget: the same, with what is left of it
abbrev pub place : d.State → ℕ → ℕ → ℕ
place s v t = first_place (λ p. is_var v (type_at s p)) (spelled (suc t) s t)

pub record Leaves (s : State) (v t budget : ℕ) (met : Bool) (rest : ℕ) : Type 0 where
  pub is : (ds : List Struct) → used (suc t) (held s ds) v t ≡ met
  pub many : (ds : List Struct) → place (held s ds) v t + rest ≡ budget

abbrev pub SoonLooked : State → ℕ → ℕ → ℕ → Soon → Type 0
SoonLooked s v t budget (soon.Met rest) = Leaves s v t budget true rest
SoonLooked s v t budget (soon.Clear rest) = Leaves s v t budget false rest
SoonLooked s v t budget soon.Later = Unit {0}

-- the occurs walk's table: a node with a number above 0 is known not to have the variable in it, and to have so many parts
pub record Counted (s : State) (v : ℕ) (counts : List ℕ) : Type 0 where
  pub size : length counts ≡ 2048
  pub known : (t : ℕ) → 0 < get_or counts t 0 → Looks s v t false (get_or counts t 0)

-- what binding a variable comes to
abbrev pub Binding : Type 0
Binding = Result (Unit {0}) BindError

-- .. as the definition answers it, at the location loc
abbrev pub bound : Binding → ℕ → d.State → d.Result (d.State × Bool)
bound (Ok done) loc s = ok (s, true)
bound (Err NotNumeric) loc s = ok (s, false)
bound (Err Recursive) loc s = err s (RecursiveType loc)

-- the state s became t and the answer r, as join_bind_tvar says, whatever the location and the declarations are
pub record Binds (s t : State) (r : Binding) (tvar ty : ℕ) : Type 0 where
  pub changed : Became {A = ℕ → d.Result (d.State × Bool)} Any s t (λ x loc. bound r loc x) (λ x loc. join_bind_tvar x loc tvar ty)
  pub used : t.used ≡ s.used
