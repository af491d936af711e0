-- Takings added up: of a type and its parts, and how few they are. First the laws of sums, then trees in a row, then a type as its own takings and its parts' (`whole`), then the bounds. Assumes nothing.
use mathlib.Core.Path.{◌≡◌, refl, sym, ap, ◌∙◌}
use mathlib.Core.Bool.{Bool, true, false}
use Rattle.std.specs.Prelude.{Option, Some, None}
use Prim.Native.Nat.{ℕ, suc, ◌+◌, ◌≤◌}
use native.Mathlib.Omega.{arith}
use lib.Dec.{leb}
use borrow.Author.Tests.{leb-true}
use Rattle.definition.specs.Types.{TypeName, Multiple, Builtin, ModuleType}
use Rattle.definition.specs.Trees.{Tree, Trees, no_trees, ◌then◌}
use Rattle.definition.specs.Needs.{Needs, takes, ◌plus◌, merge, needs_args, needs}
use Rattle.theorems.proofs.JoinAnswers.{tree_size, trees_size}
use Rattle.theorems.proofs.JoinWrites.{name_size}
use Rattle.names.specs.Names.{name_of}
use Rattle.table.specs.declared.Shape.{Shape}
use Rattle.table.specs.declared.Shape.TheVariants.{Unit as UnitS, Ref, Param, Apply, Var, Anything, UnresolvedError}
use Rattle.heads.specs.Fields.{many_parts, first_tree, tree_of}
use Rattle.needs.specs.declared.Sums.{Sums}
use Rattle.needs.specs.Counted.{both, needs_of, Each, Most, own, beside, is_apply, as_argument}

-- ---- laws of sums

abbrev nothing : Option Needs
nothing = takes 0 0 0 0

same : {a b c d a' b' c' d' : ℕ} → a ≡ a' → b ≡ b' → c ≡ c' → d ≡ d' → takes a b c d ≡ takes a' b' c' d'
same p q r t = cc

pub plus_assoc : (a b c : Option Needs) → a plus b plus c ≡ a plus (b plus c)
unfolding ◌plus◌
plus_assoc None b c = refl
plus_assoc (Some a) None c = refl
plus_assoc (Some a) (Some b) None = refl
plus_assoc (Some a) (Some b) (Some c) = same (omega arith) (omega arith) (omega arith) (omega arith)

pub plus_nothing : (a : Option Needs) → a plus nothing ≡ a
unfolding ◌plus◌
plus_nothing None = refl
plus_nothing (Some a) = same (omega arith) (omega arith) (omega arith) (omega arith)

nothing_plus : (a : Option Needs) → nothing plus a ≡ a
unfolding ◌plus◌
nothing_plus None = refl
nothing_plus (Some a) = same (omega arith) (omega arith) (omega arith) (omega arith)

pub of_both : (a b : Option Sums) → needs_of (both a b) ≡ needs_of a plus needs_of b
unfolding ◌plus◌
of_both (Some a) (Some b) = refl
of_both (Some a) None = refl
of_both None b = refl

-- ---- trees in a row

abbrev pub size : Trees → ℕ
size no_trees = 0
size (◌then◌ t ts) = suc (size ts)

abbrev pub append : Trees → Trees → Trees
append no_trees us = us
append (◌then◌ t ts) us = ◌then◌ t (append ts us)

abbrev pub snoc : Trees → Tree → Trees
snoc no_trees u = ◌then◌ u no_trees
snoc (◌then◌ t ts) u = ◌then◌ t (snoc ts u)

-- their takings, as arguments or not
abbrev pub sum_of : Bool → Trees → Option Needs
sum_of arg no_trees = nothing
sum_of arg (◌then◌ t ts) = as_argument arg t plus sum_of arg ts

pub append_snoc : (ts : Trees) (t : Tree) (us : Trees) → append ts (◌then◌ t us) ≡ append (snoc ts t) us
append_snoc no_trees t us = refl
append_snoc (◌then◌ u ts) t us = ap (λ (z : Trees). ◌then◌ u z) (append_snoc ts t us)

pub append_none : (ts : Trees) → append ts no_trees ≡ ts
append_none no_trees = refl
append_none (◌then◌ u ts) = ap (λ (z : Trees). ◌then◌ u z) (append_none ts)

pub size_snoc : (ts : Trees) (t : Tree) → size (snoc ts t) ≡ size ts + 1
size_snoc no_trees t = omega arith
size_snoc (◌then◌ u ts) t = let e = size_snoc ts t in omega arith

pub trees_size_snoc : (ts : Trees) (t : Tree) → trees_size (snoc ts t) ≡ trees_size ts + tree_size t
unfolding trees_size
trees_size_snoc no_trees t = omega arith
trees_size_snoc (◌then◌ u ts) t = let e = trees_size_snoc ts t in omega arith

pub sum_snoc : (arg : Bool) (ts : Trees) (t : Tree) → sum_of arg (snoc ts t) ≡ sum_of arg ts plus as_argument arg t
sum_snoc arg no_trees t = plus_nothing _ ∙ sym (nothing_plus _)
sum_snoc arg (◌then◌ u ts) t = ap (λ (z : Option Needs). as_argument arg u plus z) (sum_snoc arg ts t) ∙ sym (plus_assoc _ _ _)

-- ---- a type of its own part and its parts

as_args : (ts : Trees) → sum_of true ts ≡ needs_args ts
unfolding as_argument needs_args
as_args no_trees = refl
as_args (◌then◌ t ts) = ap (λ (z : Option Needs). takes 1 2 1 2 plus merge t plus needs t plus z) (as_args ts)

none_of : (ts : Trees) → size ts ≡ 0 → sum_of false ts ≡ nothing
none_of no_trees e = refl
none_of (◌then◌ t ts) e = absurd (omega arith)

one_of : (ts : Trees) → size ts ≡ 1 → sum_of false ts ≡ needs (first_tree ts)
unfolding as_argument
one_of no_trees e = absurd (omega arith)
one_of (◌then◌ t no_trees) e = plus_nothing _
one_of (◌then◌ t (◌then◌ u ts)) e = absurd (omega arith)

module _ (loc : ℕ) (ts : Trees) where
  pub whole : (arg : Bool) (h : Shape) → size ts ≡ many_parts h → as_argument arg (tree_of loc h ts) ≡ needs_of (both (own h) (Some (beside arg h))) plus sum_of (is_apply h) ts
  unfolding as_argument needs needs_args merge ◌plus◌
  whole false UnitS e = rw (none_of ts e)
  whole false (Ref m t) e = rw (one_of ts e)
  whole false (Param id a) e = rw (none_of ts e)
  whole false (Apply a) e = rw (as_args ts)
  whole false (Var v) e = refl
  whole false Anything e = rw (none_of ts e)
  whole false UnresolvedError e = rw (none_of ts e)
  whole true UnitS e = rw (none_of ts e)
  whole true (Ref m t) e = rw (one_of ts e) (sym (plus_assoc (takes 1 2 1 2) (takes 2 0 0 1) (needs (first_tree ts))))
  whole true (Param id a) e = rw (none_of ts e)
  whole true (Apply a) e = rw (as_args ts) (sym (plus_assoc (takes 1 2 1 2) (takes 2 0 0 0) (needs_args ts)))
  whole true (Var v) e = refl
  whole true Anything e = rw (none_of ts e)
  whole true UnresolvedError e = rw (none_of ts e)

-- ---- how few

fits : (n : ℕ) (c : Sums) → leb c.nodes n ≡ true → leb c.places n ≡ true → leb c.variables n ≡ true → leb c.constraints n ≡ true → Each n c
fits n c p q r t = record { nodes = omega (arith, leb-true); places = omega (arith, leb-true); variables = omega (arith, leb-true); constraints = omega (arith, leb-true) }

own_most : (h : Shape) → Most 2 (own h)
own_most UnitS = fits 2 _ refl refl refl refl
own_most (Ref m t) = fits 2 _ refl refl refl refl
own_most (Param id a) = fits 2 _ refl refl refl refl
own_most (Apply a) = fits 2 _ refl refl refl refl
own_most (Var v) = tt
own_most Anything = fits 2 _ refl refl refl refl
own_most UnresolvedError = fits 2 _ refl refl refl refl

beside_most : (arg : Bool) (h : Shape) → Each 5 (beside arg h)
beside_most false h = fits 5 _ refl refl refl refl
beside_most true UnitS = fits 5 _ refl refl refl refl
beside_most true (Ref m t) = fits 5 _ refl refl refl refl
beside_most true (Param id a) = fits 5 _ refl refl refl refl
beside_most true (Apply a) = fits 5 _ refl refl refl refl
beside_most true (Var v) = fits 5 _ refl refl refl refl
beside_most true Anything = fits 5 _ refl refl refl refl
beside_most true UnresolvedError = fits 5 _ refl refl refl refl

pub more : (n m : ℕ) (c : Option Sums) → n ≤ m → Most n c → Most m c
more n m None l p = tt
more n m (Some c) l p = let a = p.nodes in let b = p.places in let d = p.variables in let e = p.constraints in
    record { nodes = omega arith; places = omega arith; variables = omega arith; constraints = omega arith }

pub both_most : (n m : ℕ) (a b : Option Sums) → Most n a → Most m b → Most (n + m) (both a b)
both_most n m None b p q = tt
both_most n m (Some a) None p q = tt
both_most n m (Some a) (Some b) p q =
    let a1 = p.nodes in let a2 = p.places in let a3 = p.variables in let a4 = p.constraints in
    let b1 = q.nodes in let b2 = q.places in let b3 = q.variables in let b4 = q.constraints in
    record { nodes = omega arith; places = omega arith; variables = omega arith; constraints = omega arith }

pub head_most : (arg : Bool) (h : Shape) → Most 7 (both (own h) (Some (beside arg h)))
head_most arg h = both_most 2 5 (own h) (Some (beside arg h)) (own_most h) (beside_most arg h)

pub few_own : (h : Shape) → Most 65536 (own h)
few_own h = more 2 65536 (own h) (omega arith) (own_most h)

pub few_beside : (arg : Bool) (h : Shape) → Most 65536 (Some (beside arg h))
few_beside arg h = more 5 65536 (Some (beside arg h)) (omega arith) (beside_most arg h)

name_least : (n : TypeName) → 5 ≤ name_size n
unfolding name_size
name_least (Multiple n) = omega arith
name_least (Builtin n) = omega arith
name_least (ModuleType n) = omega arith

none_size : (ts : Trees) → size ts ≡ 0 → trees_size ts ≡ 0
unfolding trees_size
none_size no_trees e = refl
none_size (◌then◌ t ts) e = absurd (omega arith)

one_size : (ts : Trees) → size ts ≡ 1 → trees_size ts ≡ tree_size (first_tree ts)
unfolding trees_size
one_size no_trees e = absurd (omega arith)
one_size (◌then◌ t no_trees) e = omega arith
one_size (◌then◌ t (◌then◌ u ts)) e = absurd (omega arith)

pub size_least : (loc : ℕ) (ts : Trees) (h : Shape) → size ts ≡ many_parts h → 5 + trees_size ts ≤ tree_size (tree_of loc h ts)
unfolding tree_size
size_least loc ts UnitS e = let z = none_size ts e in omega arith
size_least loc ts (Ref m t) e = let z = one_size ts e in omega arith
size_least loc ts (Param id a) e = let z = none_size ts e in omega arith
size_least loc ts (Apply a) e = let z = name_least (name_of a.n) in omega arith
size_least loc ts (Var v) e = let z = none_size ts e in omega arith
size_least loc ts Anything e = let z = none_size ts e in omega arith
size_least loc ts UnresolvedError e = let z = none_size ts e in omega arith
