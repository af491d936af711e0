-- What the argument walk asks of its places, and what its answer stands for. Assumes nothing: these are definitions.
use Rattle.std.specs.Prelude.{◌≡◌, List, [], ℕ, take, Ok, Err}
use Rattle.std.specs.Prelude as core
use Rattle.definition.specs.Types as d
use Rattle.definition.specs.Types.{Struct, Result, ok, ◌>>=◌}
use Rattle.table.specs.State.{Any, Below, Parts, view, shape_of, outcome}
use Rattle.table.specs.Did.{StopIn, Became}
use Rattle.table.specs.declared.state.State.{State}
use Rattle.table.specs.declared.state.Stop.{Stop}
use Rattle.table.specs.declared.Shape.TheVariants.{Apply}
use Rattle.table.specs.declared.Applied.{Applied}
use Rattle.join.specs.declared.Types.{Types}

-- the argument places are in use, and each holds a node
abbrev pub ArgsIn : State → Applied → Type 0
ArgsIn s t = Below (view s.words.now s.used).args s.used.nodes (shape_of (Apply t))

-- ---- an answer that is a list of nodes: the first `many x` of `parts x`

module _ {A : Type 0} (parts : A → List ℕ) (many : A → ℕ) where
  -- .. as the definition has it
  abbrev pub list_of : core.Result A Stop → d.State → Result (d.State × List ℕ)
  list_of (Ok x) s = ok (s, take (many x) (parts x))
  list_of (Err e) s = outcome (Err e) s >>= (λ r. ok (r.0, []))

  -- the nodes that it names are below n
  abbrev pub ListIn : ℕ → core.Result A Stop → Type 0
  ListIn n (Ok x) = Parts n (parts x) (many x)
  ListIn n (Err e) = StopIn n e

  -- the state s became t and the answer r, as f says for the declarations in K
  pub record Listed (K : List Struct → Type 0) (s t : State) (r : core.Result A Stop) (f : d.State → Result (d.State × List ℕ)) : Type 0 where
    pub changed : Became K s t (list_of r) f
    pub inside : ListIn t.used.nodes r

abbrev pub Joined : State → State → core.Result Types Stop → (d.State → Result (d.State × List ℕ)) → Type 0
Joined s t r f = Listed (λ x. x.tys) (λ x. x.many) Any s t r f
