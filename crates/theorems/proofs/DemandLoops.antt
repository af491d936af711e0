-- Loops by chain ends. Assumes nothing: these are definitions.
use mathlib.Core.Path.{◌≡◌}
use mathlib.Core.List.{Memᴰ}
use Rattle.std.specs.Prelude.{Some}
use Prim.Native.Nat.{ℕ, suc, ◌*◌}
use Rattle.definition.specs.Types.{TypeValue, Var, State}
use Rattle.definition.specs.Store.{count, taken, type_at, get}
use Rattle.definition.specs.Subst.{forward_tvar, parts}
use Rattle.theorems.proofs.DemandDepth.{follow}

-- reading the shape meets a variable whose chain ends in e
pub data MeetsEnd (s : State) (e : ℕ) : TypeValue → Type 0 where
  met : {v : ℕ} → forward_tvar s v ≡ e → MeetsEnd s e (Var v)
  met_in : {shape : TypeValue} {p : ℕ} → Memᴰ p (parts (follow s shape)) → MeetsEnd s e (type_at s p) → MeetsEnd s e shape

-- .. and so does reading a part of e's binding
pub record Itself (s : State) (e : ℕ) : Type 0 where
  pub binding_of : ℕ
  pub bound_to : get s e ≡ Some binding_of
  pub part : ℕ
  pub is_part : Memᴰ part (parts (type_at s binding_of))
  pub again : MeetsEnd s e (type_at s part)

-- reading the shape meets such an e
pub record Loop (s : State) (shape : TypeValue) : Type 0 where
  pub variable : ℕ
  pub meets : MeetsEnd s variable shape
  pub itself : Itself s variable

-- levels enough for every variable whose reading ends
abbrev pub deep_enough : State → ℕ
deep_enough s = suc (taken s * count s)
