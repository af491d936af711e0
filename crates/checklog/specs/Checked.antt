-- A stream's records one after the other, those of the four marks by both engines. Assumes nothing: these are definitions.
use Rattle.std.specs.Prelude.{◌≡◌, ◌&&◌, Bool, true, false, Decides, List, ◌++◌, ℕ, suc, ◌+◌, ◌-◌, ◌≤◌, length, take, replicate, codes, Option, IfSome}
use Rattle.std.specs.Io.KnownBytes.{Appends}
use Rattle.definition.specs.Job.{decimal, joinlog}
use Rattle.definition.specs.Write.{Bytes}
use Rattle.split.specs.Rest.{rest_of}
use Rattle.engine.specs.Public.{LentAnswer, lent_step}
use Rattle.recheck.specs.Check.{is_checked, check_step}
use Rattle.checklog.specs.declared.compare.Tally.{Tally}

-- words and parameter bytes are those of an answer
pub record Leaves (a : LentAnswer) (w : List ℕ) (rows : List (List ℕ)) : Type 0 where
  pub words : w ≡ a.words
  pub params : rows ≡ a.params

-- the record at the head of a stream; none where it cannot be read
abbrev pub head : List ℕ → List (List ℕ) → Bytes → Bytes
head w rows stream = take (length stream - length (rest_of w rows stream)) stream

-- how many of the records have one of the four marks, and whether of all these the slow engine gives the engine's answer: number, payload, words and parameter bytes
pub data Counted : List ℕ → List (List ℕ) → Bytes → ℕ → Bool → Type 0 where
  over : {w : List ℕ} {rows : List (List ℕ)} {stream : Bytes} → length (head w rows stream) ≡ 0 → Counted w rows stream 0 true
  by_both : {w : List ℕ} {rows : List (List ℕ)} {stream : Bytes} (one : Bool) {many : ℕ} {all : Bool} → is_checked (head w rows stream) ≡ true
      → Decides one (lent_step w rows (head w rows stream) 4096 ≡ check_step w rows (head w rows stream) 4096)
      → Counted (lent_step w rows (head w rows stream) 4096).words (lent_step w rows (head w rows stream) 4096).params (rest_of w rows stream) many all
      → Counted w rows stream (suc many) (one && all)
  by_one : {w : List ℕ} {rows : List (List ℕ)} {stream : Bytes} {many : ℕ} {all : Bool} → is_checked (head w rows stream) ≡ false
      → Counted (lent_step w rows (head w rows stream) 61485).words (lent_step w rows (head w rows stream) 61485).params (rest_of w rows stream) many all
      → Counted w rows stream many all

abbrev pub Checked : List ℕ → List (List ℕ) → Bytes → Tally → Type 0
Checked w rows stream t = Counted w rows stream t.many t.same

-- ---- the last line

unfoldable pub words_of : Bool → Bytes
words_of same = elim same [ true ↦ codes " by both engines, all the same\n" | false ↦ codes " by both engines, not all the same\n" ]

abbrev pub verdict : Tally → Bytes
verdict t = decimal t.many ++ words_of t.same

-- from a fresh state
abbrev pub Tallied : Bytes → Tally → Type 0
Tallied stream t = Checked (replicate 24069 0) (replicate 256 (replicate 8 0)) stream t

-- what the writer is known to hold grew by the log of all that the reader is known to have had, and then by what both engines gave of it
pub record Told (contents contents' : Option (List ℕ)) (stream : Bytes) : Type 0 where
  pub tally : Tally
  pub counted : Tallied stream tally
  pub wrote : Appends contents contents' (joinlog stream ++ verdict tally)

abbrev pub ChecksLog : Option (List ℕ) → Option (List ℕ) → Option (List ℕ) → Type 0
ChecksLog remaining contents contents' = IfSome remaining (λ known. Told contents contents' known)

-- ---- on the way

-- after i records of a stream: words, parameter bytes and rest are those that these left, and whatever is counted from here on adds to what was counted
pub record Going (w₀ : List ℕ) (rows₀ : List (List ℕ)) (stream w : List ℕ) (rows : List (List ℕ)) (payload rest : List ℕ) (t : Tally) (i : ℕ) : Type 0 where
  pub size : length w ≡ 24069
  pub room : length payload ≡ 61485
  pub few : t.many ≤ i
  pub left : length rest + i ≤ length stream
  pub on : (m : ℕ) (c : Bool) → Counted w rows rest m c → Counted w₀ rows₀ stream (t.many + m) (t.same && c)
