-- What a reader's answer is in the definition, and the bytes that it leaves. Assumes nothing: these are definitions.
use Rattle.std.specs.Prelude.{◌≡◌, ℕ, ◌<◌, ◌≤◌, Result, Ok, Err, length, take, drop}
use Rattle.definition.specs.Write.{Bytes}
use Rattle.definition.specs.Reader.{Read, got, not_read}
use Rattle.refusals.specs.Refusals.{refusal_of}
use Rattle.refusals.specs.declared.Refusal.{Refusal}
use Rattle.refusals.specs.declared.Refusal.TheVariants.{Malformed}

-- what f makes of a value, and the bytes after it; or why there is none
abbrev pub read_as : {A B : Type 0} → (A → B) → Result A Refusal → Bytes → Read B
read_as f (Ok a) bytes = got (f a) bytes
read_as f (Err e) bytes = not_read (refusal_of e)

abbrev pub read : {A : Type 0} → Result A Refusal → Bytes → Read A
read r bytes = read_as (λ a. a) r bytes

-- l' is an end of l: some bytes in front of it were read
pub record Within (l l' : Bytes) : Type 0 where
  pub from : ℕ
  pub is : l' ≡ drop from l

-- the next n bytes of l, and what they leave; or there are fewer
abbrev pub Next : ℕ → Bytes → Bytes → Result Bytes Refusal → Type 0
Next n l l' (Ok bytes) = (n ≤ length l) × (bytes ≡ take n l) × (l' ≡ drop n l)
Next n l l' (Err e) = (length l < n) × (e ≡ Malformed) × (l' ≡ l)

-- a reader of l that was asked for n bytes stands at l': behind them, or where it stood if there are fewer
pub record Asked (n : ℕ) (l l' : Bytes) : Type 0 where
  pub behind : n ≤ length l → l' ≡ drop n l
  pub kept : length l < n → l' ≡ l
