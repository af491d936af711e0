-- `keep::marks::Marks::mark_var` meets its contract. Assumes nothing.
use native.Mathlib.Omega.{arith}
use mathlib.Core.Path.{refl}
use Rattle.keep.proofs.Marking.{marked_already, marked_var, var_room}
use Rattle.keep.proofs.marks.Marks.mark_var.Goals as goal

pub bounds-self-self : goal.bounds-self-self
bounds-self-self c = let r = var_room c.requires.0 c.requires.1 (rw c.from-i.ensures at c.if-self-i.false) in omega (arith, r, c.requires.0.long_open)

pub returns-then-self-i : goal.returns-then-self-i
returns-then-self-i c = marked_already _ _ c.requires.0 (rw c.from-i.ensures at c.if-self-i.true)

pub returns : goal.returns
returns c = rw c.from-i.ensures (marked_var c.requires.0 _ refl c.requires.1 (rw c.from-i.ensures at c.if-self-i.false))
