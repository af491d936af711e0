-- A record of the four marks: how it is placed, and what it leaves of a sound state, as the main engine's step has it. Assumes nothing: these are definitions.
use Rattle.std.specs.Prelude.{Bool, true, false, List, ℕ}
use Rattle.definition.specs.Write.{Bytes}
use Rattle.theorems.specs.ReadySpelled.{Located, Canonical}
use Rattle.table.specs.declared.state.State.{State}
use Rattle.fields.specs.Noded.{set_num, two, joined_links, instantiate, unfolded, unfolded_links, ready, tparams, binds, looks, adds, Noded, declare, solve, expand, many, keep, run}
use Rattle.payload.specs.declared.Answer.{Answer}
use Rattle.step.specs.Trusted.{Steps}

-- wherever the rest of the bytes begins; the parameter bytes stay
pub record Checks (s : State) (params : List (List ℕ)) (bytes buf : Bytes) (t : State) (buf' : Bytes) (r : Answer) : Type 0 where
  pub next : ℕ
  pub steps : Steps true s params bytes 0 buf t params buf' (record { number = r.number; len = r.len; next = next })

-- a record of the four marks, as it is placed
unfoldable pub checked : Noded → Bool
checked (declare abilities params) = false
checked solve = false
checked (expand t) = false
checked (many pairs) = false
checked (keep listed) = false
checked (run (binds (set_num v loc))) = false
checked (run (binds (two case lhs rhs))) = true
checked (run (binds (joined_links lhs rhs))) = false
checked (run (binds (instantiate t))) = false
checked (run (looks (unfolded t))) = true
checked (run (looks (unfolded_links t))) = false
checked (run (looks (ready Located t))) = true
checked (run (looks (ready Canonical t))) = false
checked (run (looks (tparams pairs t))) = false
checked (run (adds a)) = false
