-- Bytes that are asked for in turn: none is refused, and they are those of each; else the first refusal is that of all. Assumes nothing.
use mathlib.Core.Path.{◌≡◌, refl, ap, subst, ◌∙◌}
use mathlib.Core.List.{List, [], ◌∷◌, ◌++◌}
use Prim.Native.Nat.{ℕ, zero, suc, ◌<◌}
use native.Mathlib.Omega.{arith}
use lib.ListN.{length, get_or}
use Rattle.std.specs.Prelude.{Result, Ok, Err}
use Rattle.definition.specs.Types as t
use Rattle.definition.specs.Types.{ok, err, refused, ◌>>=◌}
use Rattle.definition.specs.Constraints.{in_turn}
use Rattle.definition.specs.Write.{Bytes}
use Rattle.theorems.proofs.SolveInTurn.{turn_later}
use Rattle.refusals.specs.declared.Refusal.{Refusal}
use Rattle.abilities.specs.Rules.{bytes_of, Given, Meets}

pub given_ok : (m : t.Result Bytes) (b : Bytes) → m ≡ ok b → Given m
unfolding bytes_of
given_ok m b e = rw e refl

bytes_ok : (b : Bytes) → bytes_of (ok b) ≡ b
unfolding bytes_of
bytes_ok b = refl

-- of one and the rest
join : t.Result Bytes → t.Result Bytes → t.Result Bytes
join m n = m >>= (λ b. n >>= (λ c. ok (b ++ c)))

joined : (m n : t.Result Bytes) → Given m → Given n → join m n ≡ ok (bytes_of m ++ bytes_of n)
unfolding join bytes_of ◌>>=◌
joined m n e f = rw (e, f) refl

given_as : {m n : t.Result Bytes} → m ≡ n → Given m → Given n
given_as e g = subst Given e g

parted : (m n : t.Result Bytes) → Given (join m n) → Given m × Given n
unfolding join bytes_of ◌>>=◌
parted (ok b) (ok c) e = (refl, refl)
parted (ok b) (err s x) e = cc
parted (ok b) (refused x) e = cc
parted (err s x) n e = cc
parted (refused x) n e = cc

-- the bytes of each
unfoldable pub each_bytes : {A : Type 0} → (A → t.Result Bytes) → List A → Bytes
each_bytes f [] = []
each_bytes f (x ∷ xs) = bytes_of (f x) ++ each_bytes f xs

module _ {A : Type 0} (f : A → t.Result Bytes) where
  in_turn_cons : (x : A) (xs : List A) → in_turn f (x ∷ xs) ≡ join (f x) (in_turn f xs)
  unfolding in_turn join
  in_turn_cons x xs = refl

  pub meets_none : Given (in_turn f [])
  unfolding in_turn bytes_of
  meets_none = refl

  -- the first is given: what the rest comes to is what all come to
  pub meets_next : (x : A) (xs : List A) → Given (f x) → (r : Result (Unit {0}) Refusal) → Meets r (in_turn f xs) → Meets r (in_turn f (x ∷ xs))
  meets_next x xs e (Ok u) g = given_ok _ _ (in_turn_cons x xs ∙ joined (f x) (in_turn f xs) e g)
  meets_next x xs e (Err r) g = turn_later f x xs (bytes_of (f x), e) g

  turn_bytes : (x : A) (xs : List A) → Given (f x) → Given (in_turn f xs) → bytes_of (in_turn f (x ∷ xs)) ≡ bytes_of (f x) ++ bytes_of (in_turn f xs)
  turn_bytes x xs e g = ap bytes_of (in_turn_cons x xs ∙ joined (f x) (in_turn f xs) e g) ∙ bytes_ok _

  -- all are given: theirs are the bytes of each, and each is given
  turn_parts : (x : A) (xs : List A) → Given (in_turn f (x ∷ xs)) → Given (f x) × Given (in_turn f xs)
  turn_parts x xs e = parted (f x) (in_turn f xs) (given_as (in_turn_cons x xs) e)

  pub turn_each : (l : List A) → Given (in_turn f l) → bytes_of (in_turn f l) ≡ each_bytes f l
  unfolding each_bytes in_turn bytes_of
  turn_each [] e = refl
  turn_each (x ∷ xs) e = let p = turn_parts x xs e in turn_bytes x xs p.0 p.1 ∙ ap (λ (b : Bytes). bytes_of (f x) ++ b) (turn_each xs p.1)

  pub given_at : (l : List A) → Given (in_turn f l) → (i : ℕ) (d : A) → i < length l → Given (f (get_or l i d))
  given_at [] e i d h = absurd (omega arith)
  given_at (x ∷ xs) e zero d h = (turn_parts x xs e).0
  given_at (x ∷ xs) e (suc i) d h = given_at xs (turn_parts x xs e).1 i d (omega arith)
