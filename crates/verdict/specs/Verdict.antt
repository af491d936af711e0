-- What follows from what a record was read into. Assumes nothing: these are definitions.
use Rattle.std.specs.Prelude.{Bool, true, false, List, ℕ, get_or, take, Option, Some, None, Result, Ok, Err}
use Rattle.table.specs.Tab.{tab}
use Rattle.fields.specs.declared.What.{What}
use Rattle.refusals.specs.declared.Refusal.{Refusal}
use Rattle.refusals.specs.declared.Refusal.TheVariants.{Malformed, Full}

-- ---- SD's row

-- the row of a new struct, if there is one and the state is kept
abbrev pub row_for : Option ℕ → Bool → ℕ → Option ℕ
row_for None kept n = None
row_for (Some t) true n = Some n
row_for (Some t) false n = None

-- the first n bytes, and zeros
unfoldable pub padded : List ℕ → ℕ → List ℕ
padded bytes n = tab 8 (λ k. get_or (take n bytes) k 0)

-- ---- what it comes to

-- what is run, or why nothing is. Bytes left over are malformed, which comes before no space
abbrev pub verdict_of : Result (Option What) Refusal → Bool → Result What Refusal
verdict_of (Err e) over = Err e
verdict_of (Ok o) true = Err Malformed
verdict_of (Ok None) false = Err Full
verdict_of (Ok (Some x)) false = Ok x

-- ---- the stream after a record

abbrev pub place_after : Result (Option What) Refusal → ℕ → ℕ → ℕ
place_after (Ok o) at next = next
place_after (Err e) at next = at
