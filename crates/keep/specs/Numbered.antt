-- New numbers, and what they make of a row. Assumes nothing: these are definitions.
use Rattle.std.specs.Prelude.{◌≡◌, Bool, false, List, ℕ, ◌<◌, length, get_or, Option, None, Some, ◌++◌}
use Rattle.definition.specs.Types as d
use Rattle.definition.specs.Types.{Places}
use Rattle.definition.specs.Write.{Bytes, u16, each}
use Rattle.definition.specs.Keep.{those_below, of_type}
use Rattle.keep.specs.declared.marks.Marks.{Marks}
use Rattle.keep.specs.declared.numbers.Numbers.{Numbers}

-- whether x is one of those
abbrev pub among : List Bool → ℕ → Bool
among l x = get_or l x false

-- the first n have their numbers
pub record Numbered (stays : List Bool) (n : ℕ) (numbers : List ℕ) : Type 0 where
  pub each : (x : ℕ) → x < n → get_or numbers x 0 ≡ length (those_below x (among stays))

pub record AllNumbered (m : Marks) (stays : List Bool) (new : Numbers) : Type 0 where
  pub nodes : Numbered m.nodes 2048 new.nodes
  pub places : Numbered stays 4097 new.places
  pub vars : Numbered m.vars 1024 new.vars

-- ---- rows with the new numbers

abbrev pub new_shape : Numbers → d.Shape Places → d.Shape Places
new_shape n d.UnitType = d.UnitType
new_shape n (d.Ref m t) = d.Ref m (get_or n.nodes t 0)
new_shape n (d.Param id a) = d.Param id a
new_shape n (d.Apply k name p) = d.Apply k name (record { first = get_or n.places p.first 0; many = p.many })
new_shape n (d.Var v) = d.Var (get_or n.vars v 0)
new_shape n d.Anything = d.Anything
new_shape n d.UnresolvedError = d.UnresolvedError

abbrev pub new_node : Numbers → d.Node → d.Node
new_node n x = record { loc = x.loc; value = new_shape n x.value }

abbrev pub new_binding : Numbers → Option ℕ → Option ℕ
new_binding n None = None
new_binding n (Some t) = Some (get_or n.nodes t 0)

abbrev pub new_cell : Numbers → d.Cell → d.Cell
new_cell n c = record { binding = new_binding n c.binding; numeric = c.numeric; need = c.need }

abbrev pub new_constraint : Numbers → d.Constraint → d.Constraint
new_constraint n c = of_type (λ t. get_or n.nodes t 0) c

-- ---- the payload

abbrev pub pairs : List ℕ → List ℕ → Bytes
pairs numbers l = each (λ v. u16 v ++ u16 (get_or numbers v 0)) l
