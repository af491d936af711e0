-- A job piece by piece: 4,096 bytes answer as the whole stream would, and the lines of the pieces, one after the other, are the log. Assumes nothing.
-- First a record needs no more than 4,096 bytes; then one piece, by induction on the records in it (`Follows`: its lines, and then the rest of the log); then pieces one after the other.
use mathlib.Core.Path.{◌≡◌, refl, sym, ap, ◌∙◌}
use mathlib.Core.Bool.{Bool, true, false, not, ◌&&◌}
use mathlib.Core.List.{List, [], ◌∷◌, ◌++◌, append-nil, append_assoc}
use Prim.Native.Nat.{ℕ, zero, suc, ◌+◌, ◌*◌, ◌-◌, ◌/◌, ◌%◌, ◌≤◌, ◌<◌}
use native.Mathlib.Omega.{arith}
use lib.ListN.{length, take, drop, length-append, get_or}
use lib.Dec.{leb, ltb, leb→le, eqb}
use Rattle.std.specs.Prelude.{if◌then◌else◌}
use Rattle.definition.specs.Types.{State, fresh, unsound_state}
use Rattle.definition.specs.Write.{Bytes, IsBytes}
use Rattle.definition.specs.Reader.{Read, got, not_read}
use Rattle.definition.specs.Record.{Record, max_record, hand_back, read_fields, read_record}
use Rattle.definition.specs.Sound.{sound}
use Rattle.definition.specs.Step.{Answer, refusal, reply, max_many, max_buffer, least_buffer, job_buffer, usable, streamed, step_stream}
use Rattle.definition.specs.Job.{Entry, ends_job, job_from, job_log, digits, decimal, hexadecimal, payload_text, line, lines, joinlog}
use Rattle.pieces.specs.Pieces.{Piece, line_room, max_line, max_index, takes_on, halt, after_line, next_from, next_lines}
use Rattle.theorems.proofs.StreamDecimal.{digits_same}
use Rattle.theorems.proofs.SoundFacts.{and_l, test}
use Rattle.theorems.proofs.Soundness.{and, le_test, lt_test}
use Rattle.theorems.proofs.SoundRead.{bytes_append}
use Rattle.theorems.proofs.SoundKept.{stream_sound_kept, fresh_sound}
use Rattle.theorems.proofs.SoundRefusals.{stream_two_digits}
use Rattle.theorems.proofs.StepFits.{stream_fits}
use Rattle.theorems.proofs.Stream.{Goes_on, shorter, over, stream_on, job_enough}
use Rattle.theorems.proofs.DemandTracks.{never}

-- ---- a record never reads past 4,096 bytes

module _ {A : Type 0} where
  take_front : (n : ℕ) (a b : List A) → n ≤ length a → take n (a ++ b) ≡ take n a
  take_front zero a b l = refl
  take_front (suc n) [] b l = absurd (omega arith)
  take_front (suc n) (x ∷ a) b l = ap (λ (m : List A). x ∷ m) (take_front n a b (omega arith))

  drop_front : (n : ℕ) (a b : List A) → n ≤ length a → drop n (a ++ b) ≡ drop n a ++ b
  drop_front zero a b l = refl
  drop_front (suc n) [] b l = absurd (omega arith)
  drop_front (suc n) (x ∷ a) b l = drop_front n a b (omega arith)

-- the rest, and b after it
abbrev pub and_then : Bytes → Answer × Bytes → Answer × Bytes
and_then b r = (r.0, r.1 ++ b)

streamed_front : (s : State) (a b more : Bytes) (r : Read Record) → streamed s (a ++ b) (hand_back (more ++ b) r) ≡ and_then b (streamed s a (hand_back more r))
unfolding streamed hand_back
streamed_front s a b more (got x rest) = ap (λ (m : Bytes). (reply s x, m)) (sym (append_assoc rest more b))
streamed_front s a b more (not_read x) = refl

-- what a record wants is told by its first two bytes
least_front : (a b : Bytes) → 4096 ≤ length a → least_buffer (a ++ b) ≡ least_buffer a
unfolding least_buffer
least_front [] b l = absurd (omega arith)
least_front (x ∷ []) b l = absurd (omega arith)
least_front (x ∷ y ∷ a) b l = refl

usable_front : (s : State) (a b : Bytes) (buffer : ℕ) → 4096 ≤ length a → usable s (a ++ b) buffer ≡ usable s a buffer
unfolding usable
usable_front s a b buffer l = rw (least_front a b l) refl

-- a stretch of 4,096 bytes or more is answered as the whole stream is
pub stream_front : (s : State) (a b : Bytes) (buffer : ℕ) → 4096 ≤ length a → step_stream s (a ++ b) buffer ≡ and_then b (step_stream s a buffer)
unfolding step_stream read_record max_record
stream_front s a b buffer l = rw (usable_front s a b buffer l, step_stream) (go (usable s a buffer))
  where
    reads : streamed s (a ++ b) (read_record s (a ++ b)) ≡ and_then b (streamed s a (read_record s a))
    reads = rw (take_front 4096 a b l, drop_front 4096 a b l) (streamed_front s a b (drop 4096 a) (read_fields s (take 4096 a)))

    go : (o : Bool) → ◌≡◌ {A = Answer × Bytes} (elim o as (λ x. Answer × Bytes) [ true ↦ streamed s (a ++ b) (read_record s (a ++ b)) | false ↦ (refusal s unsound_state, a ++ b) ])
        (and_then b (elim o as (λ x. Answer × Bytes) [ true ↦ streamed s a (read_record s a) | false ↦ (refusal s unsound_state, a) ]))
    go true = reads
    go false = refl

-- ---- the pieces are the log

-- the rest of the log, where record i comes next
abbrev pub log_from : ℕ → State → Bytes → Bytes
log_from i s bytes = lines (job_from (length bytes) i s bytes)

-- what the log has after a piece, with b to come
abbrev pub onward : Piece → Bytes → Bytes
onward p b = elim p.ended as (λ x. Bytes) [ true ↦ [] | false ↦ log_from p.index p.state (p.rest ++ b) ]

-- the log is the piece's lines, and then goes on from where the piece stopped
pub record Follows (log : Bytes) (p : Piece) (b : Bytes) : Type 0 where
  pub is : log ≡ p.text ++ onward p b
  pub left : sound p.state ≡ true
  pub bytes : IsBytes p.rest

halted : (m i : ℕ) (s : State) (a b : Bytes) → IsBytes a → IsBytes b → sound s ≡ true → length (a ++ b) ≤ m → Follows (lines (job_from m i s (a ++ b))) (halt i s a false) b
unfolding halt
halted m i s a b is is' h l = record { is = ap (λ (es : List Entry). lines es) (job_enough m (length (a ++ b)) i s (a ++ b) (bytes_append a b is is') h l (omega arith)); left = h; bytes = is }

empty_job : (m i : ℕ) (s : State) → job_from m i s [] ≡ []
unfolding job_from
empty_job zero i s = refl
empty_job (suc m) i s = refl

-- no bytes are left
spent : (m i : ℕ) (s : State) (b : Bytes) (more : Bool) → IsBytes b → sound s ≡ true → (more ≡ false → b ≡ []) → length b ≤ m → Follows (lines (job_from m i s b)) (halt i s [] (not more)) b
unfolding halt lines
spent m i s b true is h f l = halted m i s [] b tt is h l
spent m i s b false is h f l = record { is = rw (f refl, empty_job m i s) refl; left = h; bytes = tt }

-- one line, and then what follows
then_line : {log : Bytes} (text : Bytes) (p : Piece) (b : Bytes) → Follows log p b → Follows (text ++ log) (after_line text p) b
unfolding after_line
then_line {log} text p b f = record { is = ap (λ (m : Bytes). text ++ m) f.is ∙ sym (append_assoc text p.text (onward p b)); left = f.left; bytes = f.bytes }

-- the bytes at hand answer as all of them do
at_hand : (i : ℕ) (s : State) (a b : Bytes) (room : ℕ) (more : Bool) → (more ≡ false → b ≡ []) → takes_on i a room more ≡ true → step_stream s (a ++ b) job_buffer ≡ and_then b (step_stream s a job_buffer)
unfolding takes_on max_record
at_hand i s a b room true f t = stream_front s a b job_buffer (leb→le 4096 (length a) (test (and_l (leb 4096 (length a)) _ t)))
at_hand i s a b room false f t = rw (f refl, append-nil a, append-nil (step_stream s a job_buffer).1) refl

abbrev pub entry_of : ℕ → Answer × Bytes → Entry
entry_of i r = record { index = i; number = r.0.number; payload = r.0.payload }

-- what a job and a piece make of record i, answered by r
abbrev job_after : ℕ → ℕ → Answer × Bytes → List Entry
job_after m i r = elim (ends_job r.0.number) as (λ x. List Entry) [ true ↦ entry_of i r ∷ [] | false ↦ entry_of i r ∷ job_from m (suc i) r.0.state r.1 ]

-- t: the record is taken on; o: its answer ends the job
abbrev pub piece_after : Bool → Bool → ℕ → ℕ → State → Bytes → Answer × Bytes → ℕ → Bool → Piece
piece_after t o n i s bytes r room more =
    elim t as (λ x. Piece) [
      | false ↦ halt i s bytes false
      | true ↦ elim o as (λ x. Piece) [
        | true ↦ after_line (line (entry_of i r)) (halt (suc i) r.0.state r.1 true)
        | false ↦ after_line (line (entry_of i r)) (next_from n (suc i) r.0.state r.1 (room - length (line (entry_of i r))) more)
      ]
    ]

-- n and m: as many records as there are bytes, or more
piece_from : (n m i : ℕ) (s : State) (a b : Bytes) (room : ℕ) (more : Bool) → IsBytes a → IsBytes b → sound s ≡ true → (more ≡ false → b ≡ []) → length a ≤ n → length (a ++ b) ≤ m → Follows (lines (job_from m i s (a ++ b))) (next_from n i s a room more) b
unfolding next_from job_from lines halt
piece_from zero m i s [] b room more is is' h f l k = spent m i s b more is' h f k
piece_from (suc n) m i s [] b room more is is' h f l k = spent m i s b more is' h f k
piece_from zero m i s (x ∷ a) b room more is is' h f l k = absurd (omega arith)
piece_from (suc n) zero i s (x ∷ a) b room more is is' h f l k = absurd (omega arith)
piece_from (suc n) (suc m) i s (x ∷ a) b room more is is' h f l k = go (takes_on i (x ∷ a) room more) refl (λ state rest room is h l k. piece_from n m (suc i) state rest b room more is is' h f l k)
  where
    r : Answer × Bytes
    r = step_stream s (x ∷ a) job_buffer

    kept : (sound r.0.state ≡ true) × IsBytes r.1
    kept = stream_sound_kept s (x ∷ a) job_buffer is h

    Next : Type 0
    Next = (state : State) (rest : Bytes) (room : ℕ) → IsBytes rest → sound state ≡ true → length rest ≤ n → length (rest ++ b) ≤ m → Follows (lines (job_from m (suc i) state (rest ++ b))) (next_from n (suc i) state rest room more) b

    ended : (o : Bool) → ends_job r.0.number ≡ o → Goes_on a r
        → Next
        → Follows (lines (elim o as (λ x. List Entry) [ true ↦ entry_of i r ∷ [] | false ↦ entry_of i r ∷ job_from m (suc i) r.0.state (r.1 ++ b) ]))
        (piece_after true o n i s (x ∷ a) r room more) b
    ended true d g c = then_line (line (entry_of i r)) (halt (suc i) r.0.state r.1 true) b (record { is = refl; left = kept.0; bytes = kept.1 })
    ended false d (over y) c = never (cc)
    ended false d (shorter y) c = then_line (line (entry_of i r)) _ b (c r.0.state r.1 _ kept.1 kept.0 (omega (arith, l)) (omega (arith, k, length-append r.1 b, length-append a b)))

    go : (o : Bool) → takes_on i (x ∷ a) room more ≡ o → Next → Follows (lines (job_from (suc m) i s (x ∷ (a ++ b)))) (piece_after o (ends_job r.0.number) n i s (x ∷ a) r room more) b
    go false t c = halted (suc m) i s (x ∷ a) b is is' h k
    go true t c =
        let e : job_from (suc m) i s (x ∷ (a ++ b)) ≡ job_after m i (and_then b r) = ap (λ q. job_after m i q) (at_hand i s (x ∷ a) b room more f t) in
        rw e (ended (ends_job r.0.number) refl (stream_on s h x a) c)

-- one call, with a at hand and b to come
pub piece_follows : (i : ℕ) (s : State) (a b : Bytes) (room : ℕ) (more : Bool) → IsBytes a → IsBytes b → sound s ≡ true → (more ≡ false → b ≡ []) → Follows (log_from i s (a ++ b)) (next_lines i s a room more) b
unfolding next_lines
piece_follows i s a b room more is is' h f = piece_from (length a) (length (a ++ b)) i s a b room more is is' h f (omega arith) (omega arith)

-- calls, one after the other, until the job has ended: each has a at hand, more or less of what the last left and of what came since, and b is still to come
pub data Logged : ℕ → State → Bytes → Bytes → Type 0 where
  last : {i : ℕ} {s : State} {stream : Bytes} (a b : Bytes) (room : ℕ) (more : Bool) → stream ≡ a ++ b → (more ≡ false → b ≡ [])
      → (next_lines i s a room more).ended ≡ true
      → Logged i s stream (next_lines i s a room more).text
  call : {i : ℕ} {s : State} {stream : Bytes} (a b : Bytes) (room : ℕ) (more : Bool) {text : Bytes} → stream ≡ a ++ b → (more ≡ false → b ≡ [])
      → (next_lines i s a room more).ended ≡ false
      → Logged (next_lines i s a room more).index (next_lines i s a room more).state ((next_lines i s a room more).rest ++ b) text
      → Logged i s stream ((next_lines i s a room more).text ++ text)

bytes_front : (a b : Bytes) → IsBytes (a ++ b) → IsBytes a
bytes_front [] b is = tt
bytes_front (x ∷ a) b is = (is.0, bytes_front a b is.1)

bytes_back : (a b : Bytes) → IsBytes (a ++ b) → IsBytes b
bytes_back [] b is = is
bytes_back (x ∷ a) b is = bytes_back a b is.1

ends_onward : (p : Piece) (b : Bytes) → p.ended ≡ true → onward p b ≡ []
ends_onward p b e = rw e refl

goes_onward : (p : Piece) (b : Bytes) → p.ended ≡ false → onward p b ≡ log_from p.index p.state (p.rest ++ b)
goes_onward p b e = rw e refl

-- whatever the calls' rooms, and wherever the stream was cut, the texts are the log
logged : (i : ℕ) (s : State) (stream text : Bytes) → IsBytes stream → sound s ≡ true → Logged i s stream text → text ≡ log_from i s stream
logged i s stream text is h (last a b room more e f o) =
    let is' : IsBytes (a ++ b) = rw e at is in
    let p = next_lines i s a room more in
    let g = piece_follows i s a b room more (bytes_front a b is') (bytes_back a b is') h f in
    rw e (sym (append-nil p.text) ∙ ap (λ (m : Bytes). p.text ++ m) (sym (ends_onward p b o)) ∙ sym g.is)
logged i s stream text is h (call a b room more {text = later} e f o c) =
    let is' : IsBytes (a ++ b) = rw e at is in
    let p = next_lines i s a room more in
    let g = piece_follows i s a b room more (bytes_front a b is') (bytes_back a b is') h f in
    let d = logged p.index p.state (p.rest ++ b) later (bytes_append p.rest b g.bytes (bytes_back a b is')) g.left c in
    rw e (ap (λ (m : Bytes). p.text ++ m) (d ∙ sym (goes_onward p b o)) ∙ sym g.is)

pub pieces_joinlog : (stream text : Bytes) → IsBytes stream → Logged 0 fresh stream text → text ≡ joinlog stream
unfolding joinlog job_log
pieces_joinlog stream text is c = logged 0 fresh stream text is fresh_sound c

-- ---- one record more

-- with as many records as there are bytes, or more, a piece is whole
next_enough : (n m i : ℕ) (s : State) (bytes : Bytes) (room : ℕ) (more : Bool) → IsBytes bytes → sound s ≡ true → length bytes ≤ n → length bytes ≤ m → next_from n i s bytes room more ≡ next_from m i s bytes room more
unfolding next_from
next_enough zero zero i s [] room more is h l k = refl
next_enough zero (suc m) i s [] room more is h l k = refl
next_enough (suc n) zero i s [] room more is h l k = refl
next_enough (suc n) (suc m) i s [] room more is h l k = refl
next_enough zero m i s (x ∷ a) room more is h l k = absurd (omega arith)
next_enough (suc n) zero i s (x ∷ a) room more is h l k = absurd (omega arith)
next_enough (suc n) (suc m) i s (x ∷ a) room more is h l k = go (takes_on i (x ∷ a) room more) (ends_job r.0.number) refl (stream_on s h x a) (λ state rest room is h l k. next_enough n m (suc i) state rest room more is h l k)
  where
    r : Answer × Bytes
    r = step_stream s (x ∷ a) job_buffer

    kept : (sound r.0.state ≡ true) × IsBytes r.1
    kept = stream_sound_kept s (x ∷ a) job_buffer is h

    go : (t o : Bool) → ends_job r.0.number ≡ o → Goes_on a r
        → ((state : State) (rest : Bytes) (room : ℕ) → IsBytes rest → sound state ≡ true → length rest ≤ n → length rest ≤ m → next_from n (suc i) state rest room more ≡ next_from m (suc i) state rest room more)
        → piece_after t o n i s (x ∷ a) r room more ≡ piece_after t o m i s (x ∷ a) r room more
    go false o d g f = refl
    go true true d g f = refl
    go true false d (over y) f = never (cc)
    go true false d (shorter y) f = ap (λ (p : Piece). after_line (line (entry_of i r)) p) (f r.0.state r.1 _ kept.1 kept.0 (omega (arith, l)) (omega (arith, k)))

module _ (i : ℕ) (s : State) (room : ℕ) (more : Bool) where
  pub next_spent : next_lines i s [] room more ≡ halt i s [] (not more)
  unfolding next_lines next_from
  next_spent = refl

  module _ (x : ℕ) (a : Bytes) where
    -- record i's answer and the bytes after it
    abbrev pub next_answer : Answer × Bytes
    next_answer = step_stream s (x ∷ a) job_buffer

    abbrev cases : Bool → Bool → Piece
    cases t o = piece_after t o (length a) i s (x ∷ a) next_answer room more

    pub next_stops : takes_on i (x ∷ a) room more ≡ false → next_lines i s (x ∷ a) room more ≡ halt i s (x ∷ a) false
    unfolding next_lines next_from
    next_stops t = ap (λ q. cases q (ends_job next_answer.0.number)) t

    pub next_last : takes_on i (x ∷ a) room more ≡ true → ends_job next_answer.0.number ≡ true → next_lines i s (x ∷ a) room more ≡ after_line (line (entry_of i next_answer)) (halt (suc i) next_answer.0.state next_answer.1 true)
    unfolding next_lines next_from
    next_last t e = ap (λ q. cases q (ends_job next_answer.0.number)) t ∙ ap (λ q. cases true q) e

    pub next_goes : IsBytes (x ∷ a) → sound s ≡ true → takes_on i (x ∷ a) room more ≡ true → ends_job next_answer.0.number ≡ false
        → next_lines i s (x ∷ a) room more ≡ after_line (line (entry_of i next_answer)) (next_lines (suc i) next_answer.0.state next_answer.1 (room - length (line (entry_of i next_answer))) more)
    unfolding next_lines next_from
    next_goes is h t e =
        let kept = stream_sound_kept s (x ∷ a) job_buffer is h in
        ap (λ q. cases q (ends_job next_answer.0.number)) t ∙ ap (λ q. cases true q) e
        ∙ (ap (λ (p : Piece). after_line (line (entry_of i next_answer)) p)
        (next_enough (length a) (length next_answer.1) (suc i) next_answer.0.state next_answer.1 _
        more kept.1 kept.0 (go (stream_on s h x a)) (omega arith)))
      where
        go : Goes_on a next_answer → length next_answer.1 ≤ length a
        go (shorter y) = y
        go (over y) = never (cc)

pub no_line : (p : Piece) → after_line [] p ≡ p
unfolding after_line
no_line p = refl

pub two_lines : (l m : Bytes) (p : Piece) → after_line l (after_line m p) ≡ after_line (l ++ m) p
unfolding after_line
two_lines l m p = rw (append_assoc l m p.text) refl

-- ---- no line is longer than its record's room

digits_few : (n x : ℕ) → length (digits n x) ≤ n
unfolding digits
digits_few zero x = omega arith
digits_few (suc n) x = go (ltb x 10) (digits_few n (x / 10))
  where
    go : (b : Bool) → length (digits n (x / 10)) ≤ n → length ((if b then [] else digits n (x / 10)) ++ ((48 + x % 10) ∷ [])) ≤ suc n
    go true l = omega arith
    go false l = omega (arith, length-append (digits n (x / 10)) ((48 + x % 10) ∷ []))

hexadecimal_twice : (l : Bytes) → length (hexadecimal l) ≡ length l + length l
unfolding hexadecimal
hexadecimal_twice [] = refl
hexadecimal_twice (b ∷ l) = omega (arith, hexadecimal_twice l)

payload_size : (l : Bytes) → length (payload_text l) ≤ suc (length l + length l)
unfolding payload_text
payload_size [] = omega arith
payload_size (b ∷ l) = omega (arith, hexadecimal_twice (b ∷ l))

pub line_size : (bytes : Bytes) (e : Entry) → e.number < 100 → length e.payload ≤ least_buffer bytes → length (line e) ≤ line_room bytes
unfolding line line_room decimal
line_size bytes e n l =
    let two : length (digits 20 e.number) ≤ 2 = rw (digits_same 19 1 e.number (omega arith) n) (digits_few 2 e.number) in
    omega (
      arith,
      two,
      digits_few 20 e.index,
      payload_size e.payload,
      l,
      length-append (digits 20 e.index) ((32 ∷ digits 20 e.number) ++ payload_text e.payload ++ (10 ∷ [])),
      length-append (digits 20 e.index) (32 ∷ digits 20 e.number),
      length-append (digits 20 e.index ++ (32 ∷ digits 20 e.number)) (payload_text e.payload),
      length-append (digits 20 e.index ++ (32 ∷ digits 20 e.number) ++ payload_text e.payload) (10 ∷ []),
    )

-- the line of a record of a job
pub line_fits : (i : ℕ) (s : State) (bytes : Bytes) → length (line (entry_of i (step_stream s bytes job_buffer))) ≤ line_room bytes
line_fits i s bytes = line_size bytes (entry_of i (step_stream s bytes job_buffer)) (stream_two_digits s bytes job_buffer) (stream_fits s bytes job_buffer)

-- .. of an MJ at most 122,995 bytes, of the others 8,217; a room of 122,995 is enough for both
pub room_is : (bytes : Bytes) → line_room bytes ≡ (if eqb (get_or bytes 0 0) 77 && eqb (get_or bytes 1 0) 74 then 122995 else 8217)
unfolding line_room least_buffer max_many max_buffer
room_is bytes = go (eqb (get_or bytes 0 0) 77 && eqb (get_or bytes 1 0) 74)
  where
    go : (b : Bool) → 25 + 2 * (if b then max_many else max_buffer) ≡ (if b then 122995 else 8217)
    go true = refl
    go false = refl

pub room_enough : (bytes : Bytes) → line_room bytes ≤ max_line
unfolding max_line
room_enough bytes = rw (room_is bytes) (go (eqb (get_or bytes 0 0) 77 && eqb (get_or bytes 1 0) 74))
  where
    go : (b : Bool) → (if b then 122995 else 8217) ≤ 122995
    go true = omega arith
    go false = omega arith

-- ---- calls with room for a line come to an end

-- the job ended, or no more bytes are left than there were, and every record took one or more
pub data Nearer (i n : ℕ) (p : Piece) : Type 0 where
  nearer : p.index + length p.rest ≤ i + n → length p.rest ≤ n → Nearer i n p
  at_end : p.ended ≡ true → Nearer i n p

near_line : (text : Bytes) {i n j k : ℕ} {p : Piece} → j + k ≤ i + n → k ≤ n → Nearer j k p → Nearer i n (after_line text p)
unfolding after_line
near_line text l m (nearer x y) = nearer (omega arith) (omega arith)
near_line text l m (at_end e) = at_end e

near_halt : (i : ℕ) (s : State) (bytes : Bytes) (o : Bool) → Nearer i (length bytes) (halt i s bytes o)
unfolding halt
near_halt i s bytes o = nearer (omega arith) (omega arith)

near_from : (n i : ℕ) (s : State) (bytes : Bytes) (room : ℕ) (more : Bool) → IsBytes bytes → sound s ≡ true → Nearer i (length bytes) (next_from n i s bytes room more)
unfolding next_from halt after_line
near_from zero i s [] room more is h = near_halt i s [] (not more)
near_from (suc n) i s [] room more is h = near_halt i s [] (not more)
near_from zero i s (x ∷ a) room more is h = near_halt i s (x ∷ a) false
near_from (suc n) i s (x ∷ a) room more is h = go (takes_on i (x ∷ a) room more) (ends_job r.0.number) refl (stream_on s h x a) (λ room. near_from n (suc i) r.0.state r.1 room more kept.1 kept.0)
  where
    r : Answer × Bytes
    r = step_stream s (x ∷ a) job_buffer

    kept : (sound r.0.state ≡ true) × IsBytes r.1
    kept = stream_sound_kept s (x ∷ a) job_buffer is h

    go : (t o : Bool) → ends_job r.0.number ≡ o → Goes_on a r → ((room : ℕ) → Nearer (suc i) (length r.1) (next_from n (suc i) r.0.state r.1 room more)) → Nearer i (length (x ∷ a)) (piece_after t o n i s (x ∷ a) r room more)
    go false o d g f = near_halt i s (x ∷ a) false
    go true true d g f = at_end refl
    go true false d (over y) f = never (cc)
    go true false d (shorter y) f = near_line (line (entry_of i r)) (omega arith) (omega arith) (f _)

-- a record that is taken on has at least one byte
pub near_next : (i : ℕ) (s : State) (x : ℕ) (a : Bytes) (room : ℕ) (more : Bool) → IsBytes (x ∷ a) → sound s ≡ true → takes_on i (x ∷ a) room more ≡ true → Nearer (suc i) (length a) (next_lines i s (x ∷ a) room more)
unfolding next_lines next_from halt after_line
near_next i s x a room more is h t = rw e (go (ends_job r.0.number) refl (stream_on s h x a))
  where
    r : Answer × Bytes
    r = step_stream s (x ∷ a) job_buffer

    kept : (sound r.0.state ≡ true) × IsBytes r.1
    kept = stream_sound_kept s (x ∷ a) job_buffer is h

    e : next_lines i s (x ∷ a) room more ≡ piece_after true (ends_job r.0.number) (length a) i s (x ∷ a) r room more
    e = ap (λ q. piece_after q (ends_job r.0.number) (length a) i s (x ∷ a) r room more) t

    go : (o : Bool) → ends_job r.0.number ≡ o → Goes_on a r → Nearer (suc i) (length a) (piece_after true o (length a) i s (x ∷ a) r room more)
    go true d g = at_end refl
    go false d (over y) = never (cc)
    go false d (shorter y) = near_line (line (entry_of i r)) (omega arith) (omega arith) (near_from (length a) (suc i) r.0.state r.1 _ more kept.1 kept.0)

-- the whole stream at hand, and room for a line in every call: its log is printed
calls_end : (k i : ℕ) (s : State) (stream : Bytes) (room : ℕ) → length stream < k → max_line ≤ room → i + length stream < max_index → IsBytes stream → sound s ≡ true → (text : Bytes) × Logged i s stream text
unfolding next_lines next_from halt takes_on
calls_end zero i s stream room l r m is h = absurd (omega arith)
calls_end (suc k) i s [] room l r m is h = ([], last [] [] room false refl (λ e. refl) refl)
calls_end (suc k) i s (x ∷ a) room l r m is h = go p.ended refl (near_next i s x a room false is h on) (λ i stream s l m is h. calls_end k i s stream room l r m is h)
  where
    p : Piece
    p = next_lines i s (x ∷ a) room false

    on : takes_on i (x ∷ a) room false ≡ true
    on = and (le_test (line_room (x ∷ a)) room (omega (arith, r, room_enough (x ∷ a)))) (lt_test i max_index (omega (arith, m)))

    f : Follows (log_from i s ((x ∷ a) ++ [])) p []
    f = piece_follows i s (x ∷ a) [] room false is tt h (λ e. refl)

    go : (o : Bool) → p.ended ≡ o → Nearer (suc i) (length a) p
        → ((i : ℕ) (stream : Bytes) (s : State) → length stream < k → i + length stream < max_index → IsBytes stream → sound s ≡ true → (text : Bytes) × Logged i s stream text)
        → (text : Bytes) × Logged i s (x ∷ a) text
    go true e n c = (p.text, last (x ∷ a) [] room false (sym (append-nil (x ∷ a))) (λ e. refl) e)
    go false e (at_end y) c = never (cc)
    go false e (nearer y z) c =
        let q = append-nil p.rest in
        let t = c p.index (p.rest ++ []) p.state (rw q (omega (arith, l))) (rw q (omega (arith, m))) (rw q f.bytes) f.left in
        (p.text ++ t.0, call (x ∷ a) [] room false (sym (append-nil (x ∷ a))) (λ e. refl) e t.1)

pub calls_log : (stream : Bytes) (room : ℕ) → max_line ≤ room → length stream < max_index → IsBytes stream → (text : Bytes) × Logged 0 fresh stream text
calls_log stream room r m is = calls_end (suc (length stream)) 0 fresh stream room (omega arith) r (omega (arith, m)) is fresh_sound
