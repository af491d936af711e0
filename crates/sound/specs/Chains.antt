-- Chains of bindings, word by word. proofs/Chains.antt: they end just where the definition's do. Assumes nothing: these are definitions.
use Rattle.std.specs.Prelude.{◌≡◌, Bool, true, false, List, ℕ, zero, suc, ◌+◌, ◌*◌, ◌-◌, ◌≤◌, ◌<◌, ◌%◌, eqb, ltb, leb, length, get_or, if◌then◌else◌}
use Rattle.std.specs.Prelude.{Option, None, Some}
use Rattle.names.specs.declared.TVar.{TVar}
use Rattle.table.specs.declared.Used.{Used}

-- the variable that node x is
unfoldable pub var_at : List ℕ → Used → ℕ → Option ℕ
var_at w u x = if ltb x u.nodes then (if eqb (get_or w (5 + x * 6) 0) 6 then Some (get_or w (5 + x * 6 + 2) 0 % 65536) else None) else None

-- the variable that v is bound to
unfoldable pub next_at : List ℕ → Used → ℕ → Option ℕ
next_at w u v = if ltb v u.vars then (if eqb (get_or w (16389 + v * 5) 0) 1 then var_at w u (get_or w (16389 + v * 5 + 1) 0) else None) else None

-- following bindings from v ends in n steps
unfoldable pub ends_fine : List ℕ → Used → ℕ → ℕ → Bool
ends_fine w u zero v = elim (next_at w u v) [ None ↦ true | Some next ↦ false ]
ends_fine w u (suc n) v = elim (next_at w u v) [ None ↦ true | Some next ↦ ends_fine w u n next ]

unfoldable pub chain_fine : List ℕ → Used → ℕ → Bool
chain_fine w u v = ends_fine w u u.vars v

-- the variable that a binding leads to
abbrev pub next : Option TVar → Option ℕ
next None = None
next (Some v) = Some v.0

-- n bindings lead from v to the end of its chain
unfoldable pub Links : List ℕ → Used → ℕ → ℕ → Type 0
Links w u v n = (m : ℕ) → ends_fine w u m v ≡ leb n m

-- what is noted of a variable, if not 0, is one more than its chain's length
pub record Noted (w : List ℕ) (u : Used) (lengths : List ℕ) : Type 0 where
  pub size : length lengths ≡ 1024
  pub few : (v : ℕ) → get_or lengths v 0 ≤ suc u.vars
  pub links : (v : ℕ) → 0 < get_or lengths v 0 → Links w u v (get_or lengths v 0 - 1)
