-- What the report asks of the constraints, from the sets that are kept, or where none asks for abilities. Assumes nothing.
use mathlib.Core.Path.{◌≡◌, sym}
use mathlib.Core.Bool.{false}
use mathlib.Core.List.{List}
use Prim.Native.Nat.{ℕ}
use native.Mathlib.Omega.{arith}
use lib.ListN.{get_or}
use Rattle.definition.specs.Types as d
use Rattle.definition.specs.Types.{Constraint}
use Rattle.definition.specs.Store.{count}
use Rattle.table.specs.Rows.{constraint_table}
use Rattle.table.specs.declared.state.State.{State}
use Rattle.abilities.specs.Kept.{Kept}
use Rattle.abilities.specs.Rules.{AskedIn, AskedKept, AllAsked, AllKept, asks_abilities, any_asks}
use Rattle.abilities.proofs.Asking.{asks_not}
use Rattle.failing.specs.Failing.{TyIn}
use Rattle.constraints.specs.Lacking.{AskedReady, AllReady}
use Rattle.failures.specs.Report.{TysIn}

-- ---- the types that are asked for abilities are nodes

asked_in : (n : ℕ) (c : Constraint) → TyIn n c → AskedIn n c
asked_in n (d.AbilityConstraint loc ty a) h = h
asked_in n (d.NumericConstraint loc ty) h = tt
asked_in n (d.BitsConstraint loc ty) h = tt
asked_in n (d.OrderedConstraint loc ty) h = tt
asked_in n (d.BaseTypeConstraint loc ty) h = tt
asked_in n (d.SingleTypeConstraint loc ty) h = tt

pub all_asked : (s : d.State) → TysIn s → AllAsked s
unfolding TysIn AllAsked
all_asked s h i p = asked_in (count s) (get_or s.constraints i constraint_table.blank) (h i p)

-- ---- their sets are known

module _ (s : State) (params : List (List ℕ)) (sets : List ℕ) where
  asked_ready : Kept s params sets → (c : Constraint) → AskedKept sets c → AskedReady s params sets c
  asked_ready k (d.AbilityConstraint loc ty a) h = (k, h)
  asked_ready k (d.NumericConstraint loc ty) h = tt
  asked_ready k (d.BitsConstraint loc ty) h = tt
  asked_ready k (d.OrderedConstraint loc ty) h = tt
  asked_ready k (d.BaseTypeConstraint loc ty) h = tt
  asked_ready k (d.SingleTypeConstraint loc ty) h = tt

  pub all_ready : (cs : List Constraint) → Kept s params sets → AllKept sets cs → AllReady s params sets cs
  unfolding AllKept AllReady
  all_ready cs k h i p = asked_ready k (get_or cs i constraint_table.blank) (h i p)

  plain_ready : (c : Constraint) → asks_abilities c ≡ false → AskedReady s params sets c
  unfolding asks_abilities
  plain_ready (d.AbilityConstraint loc ty a) e = let z : ◌≡◌ {A = ℕ} 0 1 = cc in absurd (omega arith)
  plain_ready (d.NumericConstraint loc ty) e = tt
  plain_ready (d.BitsConstraint loc ty) e = tt
  plain_ready (d.OrderedConstraint loc ty) e = tt
  plain_ready (d.BaseTypeConstraint loc ty) e = tt
  plain_ready (d.SingleTypeConstraint loc ty) e = tt

  -- none asks
  pub none_asked : (cs : List Constraint) → false ≡ any_asks cs → AllReady s params sets cs
  unfolding AllReady
  none_asked cs e i p = plain_ready (get_or cs i constraint_table.blank) (asks_not cs (sym e) i p)
