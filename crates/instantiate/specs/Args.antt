-- The steps of instantiate_type_args that the code takes one by one. Assumes nothing: these are definitions.
use Rattle.std.specs.Prelude.{List, ℕ}
use Rattle.std.specs.Prelude as core
use Rattle.definition.specs.Types as d
use Rattle.definition.specs.Types.{AbilityMark, TypeName, Apply, AbilityConstraint, Struct, Result, ok, ◌>>=◌}
use Rattle.definition.specs.Store.{loc_of, sp, add_constraint}
use Rattle.definition.specs.Instantiate.{make_tvar, tvar_constraint, tparam_constraints, make_tparams, join_args}
use Rattle.table.specs.declared.state.State.{State}
use Rattle.table.specs.declared.state.Stop.{Stop}
use Rattle.join.specs.Join.{Listed}
use Rattle.join.specs.declared.Types.{Types}

-- make_tparams, for one argument
unfoldable pub make_tparam : d.State → ℕ → TypeName → ℕ → ℕ → Result (d.State × ℕ)
make_tparam s loc n ty constraint = do
  (s, tvar) ← make_tvar s (loc_of s ty)
  s ← add_constraint s (AbilityConstraint loc tvar constraint)
  s ← add_constraint s (tvar_constraint n loc tvar)
  ok (s, tvar)

-- make_tparams, for the abilities that the name's parameters have
unfoldable pub made : ℕ → TypeName → List ℕ → d.State → Result (d.State × List ℕ)
made loc n tys s = make_tparams s loc n tys (tparam_constraints s n)

-- the state s became t with r's variables, as f says for the declarations in K
abbrev pub Made : (List Struct → Type 0) → State → State → core.Result Types Stop → (d.State → Result (d.State × List ℕ)) → Type 0
Made K s t r f = Listed (λ x. x.tys) (λ x. x.many) K s t r f

-- the joins of the variables with the arguments, then the node
unfoldable pub joined : ℕ → AbilityMark → TypeName → List ℕ → List ℕ → d.State → Result (d.State × ℕ)
joined loc k n tvars tys s = do
  (s, tys) ← join_args s tvars tys
  sp s loc (Apply k n tys)
