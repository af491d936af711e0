-- What the shapes take that the code does not name one by one. Assumes nothing.
use mathlib.Core.Path.{◌≡◌, refl}
use mathlib.Core.Bool.{true}
use Rattle.std.specs.Prelude.{Some}
use mathlib.Core.List.{List, [], ◌∷◌}
use Prim.Native.Nat.{ℕ}
use denote.Enum.Declared.{tag_of}
use types.Run.{OneOf, miss}
use Rattle.table.specs.declared.Shape.{Shape}
use Rattle.table.specs.declared.Shape.TheVariants.{Unit as UnitS, Ref, Param, Apply, Var, Anything, UnresolvedError}
use Rattle.table.specs.contracts.Shape.{the_type}
use Rattle.needs.specs.Counted.{sums, own, beside}

abbrev plain_tags : List ℕ
plain_tags = 0 ∷ 2 ∷ 6 ∷ []

pub own_plain : (s : Shape) → OneOf plain_tags (tag_of the_type s) → Some (sums 1 0 0 0) ≡ own s
own_plain UnitS k = refl
own_plain (Ref m t) k = absurd (miss plain_tags 1 tt k)
own_plain (Param id a) k = refl
own_plain (Apply a) k = absurd (miss plain_tags 3 tt k)
own_plain (Var v) k = absurd (miss plain_tags 4 tt k)
own_plain Anything k = absurd (miss plain_tags 5 tt k)
own_plain UnresolvedError k = refl

abbrev known_tags : List ℕ
known_tags = 0 ∷ 1 ∷ 2 ∷ 3 ∷ 4 ∷ 6 ∷ []

pub beside_known : (s : Shape) → OneOf known_tags (tag_of the_type s) → sums 1 2 1 2 ≡ beside true s
beside_known UnitS k = refl
beside_known (Ref m t) k = refl
beside_known (Param id a) k = refl
beside_known (Apply a) k = refl
beside_known (Var v) k = refl
beside_known Anything k = absurd (miss known_tags 5 tt k)
beside_known UnresolvedError k = refl
