-- `shapes::is_numeric` meets its contract. Assumes nothing.
use borrow.Enum.Refused.{opened}
use mathlib.Core.Path.{◌≡◌, refl}
use mathlib.Core.Bool.{false}
use mathlib.Core.List.{[], ◌∷◌}
use Rattle.definition.specs.Join.{is_numeric}
use Rattle.names.specs.Names.{name_of}
use Rattle.shapes.proofs.Tags.{other_names}
use Rattle.shapes.proofs.is_numeric.Goals as goal

pub returns-in_default-2 : goal.returns-in_default-2
unfolding is_numeric
returns-in_default-2 c = other_names (0 ∷ 2 ∷ []) (λ n. false ≡ is_numeric (name_of n)) (λ n. refl) tt (λ m. refl) c.args.n (opened c.in_default.in_default-own.keys2)
