-- The next bytes as numbers. Assumes nothing.
use Rattle.std.proofs.Common.{◌≡◌, ◌+◌, ◌*◌, [], ◌∷◌, ℕ, get_or, Result, Ok, Err, refl, arith}
use Rattle.definition.specs.Write.{Bytes}
use Rattle.definition.specs.Reader.{Reader, byte, read_u16, read_u32, ◌>>=◌, go_on, give, got}
use Rattle.refusals.specs.declared.Refusal.{Refusal}
use Rattle.cursor.specs.Words.{Next, read_as}

-- what a reader reads is what f makes of the next n bytes; with fewer it is 5
abbrev pub Reads : (n : ℕ) → (Bytes → ℕ) → Reader ℕ → Type 0
Reads n f m = (l l' : Bytes) (r : Result Bytes Refusal) → Next n l l' r → read_as f r l' ≡ m l

pub next_1 : Reads 1 (λ a. get_or a 0 0) byte
unfolding byte
next_1 [] l' (Ok a) n = absurd (omega arith)
next_1 (x ∷ l) l' (Ok a) n = rw (n.1, n.2) refl
next_1 [] l' (Err e) n = rw (n.1) refl
next_1 (x ∷ l) l' (Err e) n = absurd (omega arith)

pub next_2 : Reads 2 (λ a. get_or a 0 0 + 256 * get_or a 1 0) read_u16
unfolding byte read_u16 ◌>>=◌ go_on give
next_2 [] l' (Ok a) n = absurd (omega arith)
next_2 (x ∷ []) l' (Ok a) n = absurd (omega arith)
next_2 (x ∷ y ∷ l) l' (Ok a) n = rw (n.1, n.2) refl
next_2 [] l' (Err e) n = rw (n.1) refl
next_2 (x ∷ []) l' (Err e) n = rw (n.1) refl
next_2 (x ∷ y ∷ l) l' (Err e) n = absurd (omega arith)

pub next_4 : Reads 4 (λ a. get_or a 0 0 + 256 * get_or a 1 0 + 65536 * get_or a 2 0 + 16777216 * get_or a 3 0) read_u32
unfolding byte read_u32 ◌>>=◌ go_on give
next_4 [] l' (Ok a) n = absurd (omega arith)
next_4 (x ∷ []) l' (Ok a) n = absurd (omega arith)
next_4 (x ∷ y ∷ []) l' (Ok a) n = absurd (omega arith)
next_4 (x ∷ y ∷ z ∷ []) l' (Ok a) n = absurd (omega arith)
next_4 (x ∷ y ∷ z ∷ w ∷ l) l' (Ok a) n = rw (n.1, n.2) refl
next_4 [] l' (Err e) n = rw (n.1) refl
next_4 (x ∷ []) l' (Err e) n = rw (n.1) refl
next_4 (x ∷ y ∷ []) l' (Err e) n = rw (n.1) refl
next_4 (x ∷ y ∷ z ∷ []) l' (Err e) n = rw (n.1) refl
next_4 (x ∷ y ∷ z ∷ w ∷ l) l' (Err e) n = absurd (omega arith)
