-- ready_tvars: how it goes on from a type, and what its steps answer. Assumes nothing: these are definitions.
use Rattle.std.specs.Prelude.{◌≡◌, List, ℕ, ◌<◌, length, get_or, Ok, Err}
use Rattle.std.specs.Prelude as core
use Rattle.definition.specs.Types as d
use Rattle.definition.specs.Types.{Struct, Result, ok, ◌>>=◌}
use Rattle.definition.specs.Store.{type_at, loc_of, sp, map_types}
use Rattle.definition.specs.Subst.{parts, ready}
use Rattle.table.specs.State.{outcome, NodesIn}
use Rattle.table.specs.Did.{held}
use Rattle.table.specs.declared.state.State.{State}
use Rattle.table.specs.declared.state.Stop.{Stop}
use Rattle.old_ready.specs.declared.Landing.{Landing}
use Rattle.old_ready.specs.declared.Landing.TheVariants.{Parts as PartsL, Open as OpenL}

-- the type ty anew, with the parts tys; one without parts and without a name stays
unfoldable pub rebuilt : d.State → ℕ → ℕ → d.TypeValue → List ℕ → Result (d.State × ℕ)
rebuilt s ty loc d.UnitType tys = ok (s, ty)
rebuilt s ty loc (d.Ref m t) tys = sp s loc (d.Ref m (get_or tys 0 0))
rebuilt s ty loc (d.Param id a) tys = ok (s, ty)
rebuilt s ty loc (d.Apply k n old) tys = sp s loc (d.Apply k n tys)
rebuilt s ty loc (d.Var v) tys = ok (s, ty)
rebuilt s ty loc d.Anything tys = ok (s, ty)
rebuilt s ty loc d.UnresolvedError tys = ok (s, ty)

unfoldable pub rebuilt_at : d.State → ℕ → List ℕ → Result (d.State × ℕ)
rebuilt_at s ty tys = rebuilt s ty (loc_of s ty) (type_at s ty) tys

-- .. its parts made ready first, one after the other
unfoldable pub by_parts : (d.State → ℕ → Result (d.State × ℕ)) → d.State → ℕ → ℕ → d.TypeValue → Result (d.State × ℕ)
by_parts f s ty loc x = map_types f s (parts x) >>= (λ y. rebuilt y.0 ty loc x y.1)

unfoldable pub by_parts_at : (d.State → ℕ → Result (d.State × ℕ)) → d.State → ℕ → Result (d.State × ℕ)
by_parts_at f s ty = by_parts f s ty (loc_of s ty) (type_at s ty)

-- node t has so many parts
abbrev pub HasParts : State → ℕ → ℕ → Type 0
HasParts s t many = (ds : List Struct) → length (parts (type_at (held s ds) t)) ≡ many

-- what ready_tvars comes to from a landing
abbrev pub landed : d.State → core.Result Landing Stop → Result (d.State × ℕ)
landed s (Ok (PartsL t many left)) = by_parts_at (λ s t. ready left s t) s t
landed s (Ok (OpenL loc v)) = sp s loc (d.Var v.0)
landed s (Err e) = outcome (Err e) s

abbrev pub LandingIn : State → ℕ → core.Result Landing Stop → Type 0
LandingIn s calls (Ok (PartsL t many left)) = (t < s.used.nodes) × ((left < calls) × HasParts s t many)
LandingIn s calls (Ok (OpenL loc v)) = Unit {0}
LandingIn s calls (Err e) = NodesIn s.used.nodes (Err e)

-- type t, in at most `calls` calls, lands so
pub record Lands (s : State) (t calls : ℕ) (r : core.Result Landing Stop) : Type 0 where
  pub is : (ds : List Struct) → landed (held s ds) r ≡ ready calls (held s ds) t
  pub inside : LandingIn s calls r
