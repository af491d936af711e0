-- `keep::marks::Marks::mark_node` meets its contract. Assumes nothing.
use native.Mathlib.Omega.{arith}
use mathlib.Core.Path.{refl}
use Rattle.keep.proofs.Marking.{marked_already, marked_node, node_room}
use Rattle.keep.proofs.marks.Marks.mark_node.Goals as goal

pub bounds-self-self : goal.bounds-self-self
bounds-self-self c = let r = node_room c.requires.0 c.requires.1 c.if-self-t.false in omega (arith, r, c.requires.0.long_open)

pub returns-then-self-t : goal.returns-then-self-t
returns-then-self-t c = marked_already _ _ c.requires.0 c.if-self-t.true

pub returns : goal.returns
returns c = marked_node c.requires.0 _ refl c.requires.1 c.if-self-t.false
