-- Where a type leads: to the node that its chain's end holds, or to an open end. Assumes nothing: these are definitions.
use Rattle.std.specs.Prelude.{◌≡◌, List, ℕ}
use Rattle.definition.specs.Types as d
use Rattle.definition.specs.Types.{Struct, Spanned, TypeValue}
use Rattle.definition.specs.Store.{spanned}
use Rattle.theorems.specs.ReadySpelled.{led}
use Rattle.table.specs.Did.{held}
use Rattle.table.specs.declared.state.State.{State}
use Rattle.subst.specs.Answers.{Unfolds}
use Rattle.subst.specs.declared.Unfolded.{Unfolded}
use Rattle.subst.specs.declared.Unfolded.TheVariants as unfolded
use Rattle.ends.specs.declared.chains.Led.{Led}
use Rattle.ends.specs.declared.chains.Led.TheVariants.{Node, Open}

abbrev pub led_as : Led → d.State → Spanned TypeValue
led_as (Node x) s = spanned s x
led_as (Open loc v) s = record { loc = loc; value = d.Var v.0 }

-- what unfold_type answers of it: an open end is `_`
abbrev pub unfolds_to : Led → Unfolded
unfolds_to (Node x) = unfolded.Node x
unfolds_to (Open loc v) = unfolded.Anything loc

-- type t leads so
pub record LedTo (s : State) (t : ℕ) (r : Led) : Type 0 where
  pub is : (ds : List Struct) → led_as r (held s ds) ≡ led (held s ds) (spanned (held s ds) t)
  pub unfolds : Unfolds s (unfolds_to r) (λ x. spanned x t)
