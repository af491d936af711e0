-- What follows TVar::next. Assumes nothing.
use mathlib.Core.Path.{◌≡◌, refl}
use mathlib.Core.Bool.{Bool, true, false}
use Prim.Native.Nat.{ℕ}
use lib.Dec.{ltb}
use Rattle.std.specs.Prelude.{if◌then◌else◌}
use Rattle.definition.specs.Types.{State, Result, ok, refused, ◌>>=◌, full, max_vars}
use Rattle.definition.specs.Store.{taken, with_var, next_tvar}

next_if : {B : Type 0} (b : Bool) (x : State × ℕ) (f g : State × ℕ → Result B) → f x ≡ g x → ((if b then ok x else refused full) >>= f) ≡ ((if b then ok x else refused full) >>= g)
unfolding ◌>>=◌
next_if true x f g e = e
next_if false x f g e = refl

pub next_same : {B : Type 0} (s : State) (f g : State × ℕ → Result B) → f (with_var s, taken s) ≡ g (with_var s, taken s) → (next_tvar s >>= f) ≡ (next_tvar s >>= g)
unfolding next_tvar
next_same s f g e = next_if (ltb (taken s) max_vars) (with_var s, taken s) f g e
