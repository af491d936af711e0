-- A payload fits the buffer that the first two bytes of its record ask for. Assumes nothing.
-- A record begins with its mark's letters, and only MJ's payload may be longer than 4,096 bytes.
use mathlib.Core.Path.{◌≡◌, refl, sym, ap, ◌∙◌, subst}
use mathlib.Core.Logic.{◌≢◌}
use mathlib.Core.Bool.{Bool, true, false, ◌&&◌}
use mathlib.Core.List.{List, [], ◌∷◌}
use Prim.Native.Nat.{ℕ, ◌≤◌}
use native.Mathlib.Omega.{arith}
use lib.ListN.{length, take, get_or}
use lib.Dec.{eqb}
use Rattle.std.specs.Prelude.{if◌then◌else◌}
use Rattle.definition.specs.Types.{State, Refusal, unsound_state, Result, ok, err, refused}
use Rattle.definition.specs.Join.{TypingCase}
use Rattle.definition.specs.Write.{Bytes}
use Rattle.definition.specs.Reader.{Read, got, not_read}
use Rattle.definition.specs.Trees.{Tree}
use Rattle.definition.specs.Record.{Record, MJ, read_record}
use Rattle.definition.specs.Build.{build_many}
use Rattle.definition.specs.Step.{Answer, number_of_refusal, refusal, max_payload, run, Apart, apart, max_many, most_of, reply, max_buffer, least_buffer, lent, step, streamed, step_stream, tail_of}
use Rattle.theorems.proofs.DemandTracks.{never}
use Rattle.theorems.proofs.ReadLetters.{letters, Lettered, lettered, not_lettered, read_letters}
use Rattle.theorems.proofs.DemandEveryDepth.{ByApart, as_other, as_many, by_apart, as_links_of_one, as_links_of_two, as_keeps}
use Rattle.theorems.proofs.SoundRefusals.{step_cases, stream_cases}
use Rattle.theorems.proofs.TotalWalk.{RunTime, seven, eight, nine, ten, eleven, twelve, thirteen, sixteen, seventeen, Ends, e_err, e_refused}
use Rattle.theorems.proofs.ManyPairs.{Pair, answer_length, many_count, many_replies, many_refused, few_read}

-- a record that stands apart is told by its letters
data Short (n : ℕ) : Read Record → Type 0 where
  short : {r : Record} {rest : Bytes} → most_of (apart r) ≤ n → Short n (got r rest)
  not_short : {x : Refusal} → Short n (not_read x)

pub others_short : (bytes : Bytes) → max_payload ≤ least_buffer bytes
unfolding max_payload least_buffer max_many max_buffer
others_short bytes = go (eqb (get_or bytes 0 0) 77 && eqb (get_or bytes 1 0) 74)
  where
    go : (b : Bool) → 4096 ≤ (if b then max_many else max_buffer)
    go true = omega arith
    go false = omega arith

many_short : (bytes : Bytes) → take 2 bytes ≡ 77 ∷ 74 ∷ [] → least_buffer bytes ≡ max_many
unfolding least_buffer
many_short [] e = never (cc)
many_short (a ∷ []) e = never (cc)
many_short (a ∷ b ∷ bytes) e = let p : a ≡ 77 = cc in let q : b ≡ 74 = cc in rw (p, q) refl

by_letters : (bytes : Bytes) {r : Record} {a : Apart} → ByApart r a → letters r ≡ take 2 bytes → most_of a ≤ least_buffer bytes
unfolding most_of letters
by_letters bytes (as_other d) e = others_short bytes
by_letters bytes as_keeps e = others_short bytes
by_letters bytes as_links_of_one e = others_short bytes
by_letters bytes as_links_of_two e = others_short bytes
by_letters bytes as_many e = omega (arith, many_short bytes (sym e))

read_short : (s : State) (bytes : Bytes) → Short (least_buffer bytes) (read_record s bytes)
read_short s bytes = go (read_letters s bytes)
  where
    go : {x : Read Record} → Lettered (take 2 bytes) x → Short (least_buffer bytes) x
    go (lettered {r = r} e) = short (by_letters bytes (by_apart r) e)
    go not_lettered = not_short

pub most_read : (s : State) (bytes : Bytes) (r : Record) (rest : Bytes) → read_record s bytes ≡ got r rest → most_of (apart r) ≤ least_buffer bytes
most_read s bytes r rest e = go (subst (λ (x : Read Record). Short (least_buffer bytes) x) e (read_short s bytes))
  where
    go : {n : ℕ} → Short n (got r rest) → most_of (apart r) ≤ n
    go (short h) = h

-- ---- the answer

refusal_fits : (s : State) (x : Refusal) (n : ℕ) → length (refusal s x).payload ≤ n
unfolding refusal
refusal_fits s x n = omega arith

reply_fits : (s : State) (r : Record) → length (reply s r).payload ≤ most_of (apart r)
unfolding reply
reply_fits s r = answer_length (most_of (apart r)) (tail_of s (apart r)) s (run s r)

lent_fits : (s : State) (n : ℕ) (r : Read Record) → Short n r → length (lent s r).payload ≤ n
unfolding lent
lent_fits s n (got r []) (short h) = omega (arith, h, reply_fits s r)
lent_fits s n (got r (b ∷ rest)) h = refusal_fits s _ n
lent_fits s n (not_read x) h = refusal_fits s x n

streamed_fits : (s : State) (bytes : Bytes) (n : ℕ) (r : Read Record) → Short n r → length (streamed s bytes r).0.payload ≤ n
unfolding streamed
streamed_fits s bytes n (got r rest) (short h) = omega (arith, h, reply_fits s r)
streamed_fits s bytes n (not_read x) h = refusal_fits s x n

pub step_fits : (s : State) (bytes : Bytes) (buffer : ℕ) → length (step s bytes buffer).payload ≤ least_buffer bytes
step_fits s bytes buffer = step_cases s bytes buffer (λ a. length a.payload ≤ least_buffer bytes) (lent_fits s (least_buffer bytes) (read_record s bytes) (read_short s bytes)) (refusal_fits s unsound_state (least_buffer bytes))

pub stream_fits : (s : State) (bytes : Bytes) (buffer : ℕ) → length (step_stream s bytes buffer).0.payload ≤ least_buffer bytes
stream_fits s bytes buffer = stream_cases s bytes buffer (λ x. length x.0.payload ≤ least_buffer bytes) (streamed_fits s bytes (least_buffer bytes) (read_record s bytes) (read_short s bytes)) (refusal_fits s unsound_state (least_buffer bytes))

-- ---- an MJ is never 14

late_14 : {z : Bool} {x : Refusal} → RunTime z x → number_of_refusal x ≢ 14
unfolding number_of_refusal
late_14 seven d = absurd (omega (arith, d))
late_14 eight d = absurd (omega (arith, d))
late_14 (nine y) d = absurd (omega (arith, d))
late_14 ten d = absurd (omega (arith, d))
late_14 eleven d = absurd (omega (arith, d))
late_14 twelve d = absurd (omega (arith, d))
late_14 thirteen d = absurd (omega (arith, d))
late_14 (sixteen y) d = absurd (omega (arith, d))
late_14 (seventeen y) d = absurd (omega (arith, d))

pub many_never_14 : (s : State) (bytes : Bytes) (ps : List (TypingCase × Tree × Tree)) (rest : Bytes) → read_record s bytes ≡ got (MJ ps) rest → (reply s (MJ ps)).number ≢ 14
unfolding refusal
many_never_14 s bytes ps rest e = go (build_many ps s) refl (many_count ps s)
  where
    go : (m : Result (State × List Pair)) → build_many ps s ≡ m → Ends true (λ x. ⊥) (λ (a : State × List Pair). length a.1 ≡ length ps) m → (reply s (MJ ps)).number ≢ 14
    go (ok (s', qs)) d h n = absurd (omega (arith, n, ap (λ (a : Answer). a.number) (many_replies s ps (few_read s bytes ps rest e).1 s' qs d)))
    go (err s' x) d (e_err h) n = absurd h
    go (refused x) d (e_refused t) n = late_14 t (sym (ap (λ (a : Answer). a.number) (many_refused s ps x d)) ∙ n)
