-- A run gives none of 5, 6, 14, 15 and 18: 5, 6 and 18 come from reading, 15 from the test, 14 from the payload. Assumes nothing.
use mathlib.Core.Path.{refl}
use mathlib.Core.Bool.{Bool, true}
use mathlib.Core.List.{List}
use Prim.Native.Nat.{ℕ}
use Rattle.definition.specs.Types.{TypeName, TypeValue, Constraint, State, TypingError, Refusal, Result, ok, err, refused}
use Rattle.definition.specs.Store.{sp, add_constraint}
use Rattle.definition.specs.Instantiate.{make_tvar, tparam_constraints, make_tparams, join_args}
use Rattle.definition.specs.Record.{Record}
use Rattle.definition.specs.Step.{run}
use Rattle.theorems.proofs.TotalWalk.{RunTime, Ends, e_ok, e_err, e_refused, In, tparams_in, sp_run, add_run, make_tvar_run, tparams_run, join_args_run, run_walk}

-- z: 9 may be given
pub data Late {A : Type 0} (z : Bool) : Result A → Type 0 where
  fine : {a : A} → Late z (ok a)
  wrong : {s : State} {e : TypingError} → Late z (err s e)
  down : {x : Refusal} → RunTime z x → Late z (refused x)

late : {A : Type 0} {z : Bool} {E : State → Type 0} {P : A → Type 0} {m : Result A} → Ends z E P m → Late z m
late (e_ok p) = fine
late (e_err p) = wrong
late (e_refused r) = down r

pub run_late : (s : State) (r : Record) → Late true (run s r)
run_late s r = late (run_walk ⊥ s true refl s (λ h. absurd h) r (λ h. absurd h))

module _ (z : Bool) (s : State) where
  nothing : In ⊥ s z s
  nothing h = absurd h

  pub sp_late : (l : ℕ) (x : TypeValue) → Late z (sp s l x)
  sp_late l x = late (sp_run ⊥ s z {E = In ⊥ s z} s nothing l (λ h. absurd h) x (λ h. absurd h))

  pub add_late : (c : Constraint) → Late z (add_constraint s c)
  add_late c = late (add_run ⊥ s z s nothing c (λ h. absurd h))

  pub make_tvar_late : (l : ℕ) → Late z (make_tvar s l)
  make_tvar_late l = late (make_tvar_run ⊥ s z s nothing l (λ h. absurd h))

  pub tparams_late : (loc : ℕ) (n : TypeName) (tys : List ℕ) → Late z (make_tparams s loc n tys (tparam_constraints s n))
  tparams_late loc n tys = late (tparams_run ⊥ s z s nothing loc (λ h. absurd h) n tys (tparam_constraints s n) (tparams_in s n))

  pub join_args_late : (vs ts : List ℕ) → Late z (join_args s vs ts)
  join_args_late vs ts = late (join_args_run ⊥ s z s nothing vs ts)
