-- The lines of a job, record by record: what the loop over a stream keeps. Assumes nothing.
-- `Going` is the loop's invariant: where it starts, what one record more does to it, and the returns that stop, end the job or go on.
use mathlib.Core.Path.{◌≡◌, refl, sym, ap, ap₂, ◌∙◌}
use mathlib.Core.Bool.{Bool, true, false, not, ◌||◌, ◌&&◌}
use mathlib.Core.List.{List, [], ◌∷◌, ◌++◌, append-nil}
use Prim.Native.Nat.{ℕ, suc, ◌+◌, ◌-◌, ◌≤◌, ◌<◌}
use native.Mathlib.Omega.{arith}
use borrow.Author.Tests.{leb-true, leb-false}
use lib.Dec.{leb, ltb, leb→le, ltb→lt}
use lib.ListN.{length, take, drop, replicate, length-take, length-drop, length-append, length-replicate, drop_of_length-le}
use lib.Seq.{take_at, drop-drop, drop-append-add, length-take-le}
use Rattle.std.proofs.lemmas.List.{take_rest}
use Rattle.definition.specs.Types.{State}
use Rattle.definition.specs.Write.{Bytes, IsBytes}
use Rattle.definition.specs.Record.{max_record}
use Rattle.definition.specs.Sound.{sound}
use Rattle.definition.specs.Step as step
use Rattle.definition.specs.Step.{step_stream, least_buffer, job_buffer}
use Rattle.definition.specs.Job.{ends_job, line}
use Rattle.pieces.specs.Pieces.{Piece, line_room, max_index, takes_on, halt, after_line, next_lines}
use Rattle.theorems.proofs.SoundFacts.{and_l, and_r, test}
use Rattle.theorems.proofs.SoundKept.{trusted}
use Rattle.theorems.proofs.SoundRefusals.{stream_refusal_leaves}
use Rattle.theorems.proofs.Stream.{Goes_on, shorter, over, stream_on}
use Rattle.pieces.proofs.Pieces.{entry_of, next_spent, next_stops, next_last, next_goes, no_line, two_lines, line_size, line_fits}
use Rattle.table.specs.declared.state.State.{State as Table}
use Rattle.log_lines.specs.Line.{Wrote, line_of, begin_of, end_of}
use Rattle.log_lines.proofs.Writing.{wrote_length, wrote_more}
use Rattle.log_lines.proofs.Text.{decimal_more, end_size, line_is, filled, filled_size, filled_payload, wrote_over}
use Rattle.step.specs.declared.Stepped.{Stepped}
use Rattle.lines.specs.declared.Lines.{Lines}
use Rattle.step.specs.Trusted.{held_by, Stands, answered, unread, Steps}
use Rattle.step.proofs.Keeping.{bytes_after}
use Rattle.lines.specs.Lists.{Lists}

-- so far: the words hold the state after the lines in front of the log, and the piece goes on from there
pub record Going (s₀ : Table) (p₀ : List (List ℕ)) (index : ℕ) (stream : Bytes) (more : Bool) (log₀ : List ℕ) (s : Table) (p : List (List ℕ)) (log : Bytes) (at n i : ℕ) : Type 0 where
  pub same : s.words.ghost_name ≡ s₀.words.ghost_name
  pub stands : Stands s.words.now s.used p
  pub size : length log ≡ length log₀
  pub within : at ≤ length stream
  pub fits : n ≤ length log₀
  pub others : log ≡ take n log ++ drop n log₀
  pub is : after_line (take n log) (next_lines i (held_by s p) (drop at stream) (length log₀ - n) more) ≡ next_lines index (held_by s₀ p₀) stream (length log₀) more

abbrev lines_at : ℕ → ℕ → ℕ → Bool → Lines
lines_at at n i ended = record { read = at; written = n; index = i; ended = ended }

pub going_start : (s₀ : Table) (p₀ : List (List ℕ)) (index : ℕ) (stream : Bytes) (more : Bool) (log₀ : Bytes) → Stands s₀.words.now s₀.used p₀ → Going s₀ p₀ index stream more log₀ s₀ p₀ log₀ 0 0 index
going_start s₀ p₀ index stream more log₀ st =
    let e : length log₀ - 0 ≡ length log₀ = omega arith in
    record { same = refl; stands = st; size = refl; within = omega arith; fits = omega arith; others = refl; is = rw e (no_line _) }

module _ {s₀ : Table} {p₀ : List (List ℕ)} {index : ℕ} {stream : Bytes} {more : Bool} {log₀ : List ℕ} {s : Table} {p : List (List ℕ)} {log : Bytes} {at n i : ℕ} (g : Going s₀ p₀ index stream more log₀ s p log at n i) where
  -- the loop's end: the piece from here on is nothing but a halt
  halts : (o : Bool) → next_lines i (held_by s p) (drop at stream) (length log₀ - n) more ≡ halt i (held_by s p) (drop at stream) o → Lists s₀ p₀ index stream more log₀ s p log (lines_at at n i o)
  unfolding after_line halt
  halts o e = record { same = g.same; stands = g.stands; fits = g.fits; within = g.within; others = g.others; is = sym g.is ∙ ap (λ (q : Piece). after_line (take n log) q) e ∙ rw (append-nil (take n log)) refl }

  -- what the test of a record says
  pub taken_on : {b o : Bool} → b ≡ takes_on i (drop at stream) (length log - n) more → b ≡ o → takes_on i (drop at stream) (length log₀ - n) more ≡ o
  taken_on t e = rw (← g.size) (sym t ∙ e)

  -- no bytes are left
  pub going_spent : length stream ≤ at → Lists s₀ p₀ index stream more log₀ s p log (lines_at at n i (not more))
  going_spent l =
      let e : drop at stream ≡ [] = drop_of_length-le stream l in
      halts (not more) (rw e (next_spent i (held_by s p) (length log₀ - n) more))

  -- the next record is not taken on
  pub going_stops : at < length stream → takes_on i (drop at stream) (length log₀ - n) more ≡ false → Lists s₀ p₀ index stream more log₀ s p log (lines_at at n i false)
  going_stops l t = halts false (go (drop at stream) t (omega (arith, length-drop at stream)))
    where
      go : (b : Bytes) → takes_on i b (length log₀ - n) more ≡ false → 0 < length b → next_lines i (held_by s p) b (length log₀ - n) more ≡ halt i (held_by s p) b false
      go [] t l = absurd (omega arith)
      go (x ∷ b) t l = next_stops i (held_by s p) (length log₀ - n) more x b t

-- ---- the next record of a piece, answered by r

module _ (i : ℕ) (s : State) (room : ℕ) (more : Bool) (h : sound s ≡ true) (r : step.Answer × Bytes) where
  one_goes : (b : Bytes) → 0 < length b → IsBytes b → takes_on i b room more ≡ true → step_stream s b job_buffer ≡ r → ends_job r.0.number ≡ false
      → next_lines i s b room more ≡ after_line (line (entry_of i r)) (next_lines (suc i) r.0.state r.1 (room - length (line (entry_of i r))) more)
  one_goes [] l is t e d = absurd (omega arith)
  one_goes (x ∷ b) l is t e d = rw (← e) (next_goes i s room more x b is h t (rw (← e) at d))

  one_last : (b : Bytes) → 0 < length b → takes_on i b room more ≡ true → step_stream s b job_buffer ≡ r → ends_job r.0.number ≡ true
      → next_lines i s b room more ≡ after_line (line (entry_of i r)) (halt (suc i) r.0.state r.1 true)
  one_last [] l t e d = absurd (omega arith)
  one_last (x ∷ b) l t e d = rw (← e) (next_last i s room more x b t (rw (← e) at d))

  one_shorter : (b : Bytes) → 0 < length b → step_stream s b job_buffer ≡ r → ends_job r.0.number ≡ false → length r.1 < length b
  one_shorter [] l e d = absurd (omega arith)
  one_shorter (x ∷ b) l e d = go (rw e at (stream_on s h x b))
    where
      go : Goes_on b r → length r.1 < suc (length b)
      go (shorter y) = omega arith
      go (over y) = absurd (let o : ◌≡◌ {A = ℕ} 0 1 = cc in omega arith)

-- ---- one line in the log

-- a log whose first n bytes are written, and then the text
pub record Longer (log₀ log : Bytes) (n : ℕ) (text log' : Bytes) (n' : ℕ) : Type 0 where
  pub size : length log' ≡ length log₀
  pub fits : n' ≤ length log₀
  pub front : take n' log' ≡ take n log ++ text
  pub others : log' ≡ take n' log' ++ drop n' log₀

longer : (log₀ log : Bytes) (n : ℕ) (text log' : Bytes) (n' : ℕ) → length log ≡ length log₀ → n + length text ≤ length log₀ → log ≡ take n log ++ drop n log₀ → Wrote log n text log' n' → Longer log₀ log n text log' n'
longer log₀ log n text log' n' z l o q =
    let a : length (take n log) ≡ n = length-take n log ∙ omega (arith, z, l) in
    let b : length (take n log ++ text) ≡ n + length text = length-append (take n log) text ∙ ap (λ (k : ℕ). k + length text) a in
    let d : drop n' log ≡ drop n' log₀ = rw q.next_is (ap (λ (m : Bytes). drop (n + length text) m) o ∙ ap (λ (k : ℕ). drop (k + length text) (take n log ++ drop n log₀)) (sym a) ∙ drop-append-add (take n log) (drop n log₀) (length text) ∙ drop-drop (length text) n log₀) in
    let e : log' ≡ take n log ++ text ++ drop n' log₀ = q.is ∙ ap (λ (m : Bytes). take n log ++ text ++ m) ((rw q.next_is refl) ∙ d) in
    let f : take n' log' ≡ take n log ++ text = ap (λ (m : Bytes). take n' m) e ∙ take_at (take n log ++ text) (drop n' log₀) n' (b ∙ sym q.next_is) in
    record {
      size = ap length e ∙ length-append (take n log ++ text) (drop n' log₀) ∙ omega (arith, b, l, q.next_is, length-drop n' log₀);
      fits = omega (arith, l, q.next_is);
      front = f;
      others = e ∙ ap (λ (m : Bytes). m ++ drop n' log₀) (sym f);
    }

-- ---- the loop's turn

pub takes_room : (i : ℕ) (b : Bytes) (room : ℕ) (more : Bool) → takes_on i b room more ≡ true → (line_room b ≤ room) × (i < 18446744073709551615)
unfolding takes_on max_index
takes_room i b room more t =
    let q = and_r (not more || leb max_record (length b)) (leb (line_room b) room && ltb i 18446744073709551615) t in
    (leb→le (line_room b) room (test (and_l (leb (line_room b) room) (ltb i 18446744073709551615) q)), ltb→lt i 18446744073709551615 (test (and_r (leb (line_room b) room) (ltb i 18446744073709551615) q)))

-- a record's longest line is room for the begin of any, and behind it for the record's longest payload
begin_few : (i : ℕ) (bytes p : Bytes) → length p ≡ least_buffer bytes → length (begin_of i) + 2 + least_buffer bytes ≤ line_room bytes
unfolding line_room
begin_few i bytes p h =
    let z : ℕ = 0 in
    omega (
      arith,
      h,
      line_size bytes (record { index = i; number = z; payload = p }) (omega arith) (omega (arith, h)),
      ap length (line_is i z p),
      length-append (begin_of i) (end_of z p),
      end_size z p,
      decimal_more z,
    )

-- a record is taken on: its line's begin is written, and what is left of the log is lent for its payload
module _ {s₀ : Table} {p₀ : List (List ℕ)} {index : ℕ} {stream : Bytes} {more : Bool} {log₀ : List ℕ} {s : Table} {p : List (List ℕ)} {log : Bytes} {at n i : ℕ} (g : Going s₀ p₀ index stream more log₀ s p log at n i)
    (t : takes_on i (drop at stream) (length log₀ - n) more ≡ true) where
  abbrev most : ℕ
  most = least_buffer (drop at stream)

  all_room : n + line_room (drop at stream) ≤ length log
  all_room = omega (arith, (takes_room i (drop at stream) (length log₀ - n) more t).0, g.size, g.fits)

  few : length (begin_of i) + 2 + most ≤ line_room (drop at stream)
  few = begin_few i (drop at stream) (replicate most 0) (length-replicate most 0)

  pub begin_room : n + length (begin_of i) ≤ length log
  begin_room = omega (arith, all_room, few)

  module _ {log₁ : List ℕ} {b : ℕ} (w : Wrote log n (begin_of i) log₁ b) where
    pub begun_size : length log₁ ≡ length log
    begun_size = wrote_length log n (begin_of i) log₁ b begin_room w

    free_room : b + 2 + most ≤ length log₁
    free_room = omega (arith, w.next_is, begun_size, all_room, few)

    pub free_begin : b + 2 ≤ length log₁
    free_begin = omega (arith, free_room)

    pub free_size : most ≤ length (take (length log₁ - (b + 2)) (drop (b + 2) log₁))
    free_size = omega (arith, free_room, ap length (take_rest log₁ (b + 2)), length-drop (b + 2) log₁)

module _ {s₀ : Table} {p₀ : List (List ℕ)} {index : ℕ} {stream : Bytes} {more : Bool} {log₀ : List ℕ} {s : Table} {p : List (List ℕ)} {log : Bytes} {at n i : ℕ} (g : Going s₀ p₀ index stream more log₀ s p log at n i)
    (is : IsBytes stream) (l : at < length stream) (t : takes_on i (drop at stream) (length log₀ - n) more ≡ true)
    {t' : Table} {p' : List (List ℕ)} {buf buf' : Bytes} {r : Stepped} (st : Steps false s p stream at buf t' p' buf' r) where
  abbrev text : Bytes
  text = line_of i r.number (take r.len buf')

  abbrev answer : step.Answer × Bytes
  answer = (record { number = r.number; payload = take r.len buf'; state = held_by t' p' }, drop r.next stream)

  answer_is : step_stream (held_by s p) (drop at stream) job_buffer ≡ answer
  unfolding answered unread
  answer_is = trusted (held_by s p) (drop at stream) g.stands.is_sound ∙ ap₂ (λ (x : step.Answer) (y : Bytes). (x, y)) st.is st.rest

  left : 0 < length (drop at stream)
  left = omega (arith, length-drop at stream, l)

  pub whole_room : n + length text ≤ length log
  whole_room =
      let m : length text ≤ line_room (drop at stream) = rw answer_is at (line_fits i (held_by s p) (drop at stream)) in
      omega (arith, m, (takes_room i (drop at stream) (length log₀ - n) more t).0, g.size, g.fits)

  -- an answer with a payload is none of 5 and above
  one_digit : r.len ≤ length buf' → 0 < r.len → r.number < 10
  one_digit k h = go (leb 5 r.number) refl
    where
      at_answer : {x y : step.Answer × Bytes} → x ≡ y → (5 ≤ x.0.number → (x.0.state ≡ held_by s p) × (x.0.payload ≡ [])) → 5 ≤ y.0.number → y.0.payload ≡ []
      at_answer e f h = (rw e at f h).1

      go : (b : Bool) → leb 5 r.number ≡ b → r.number < 10
      go false e = omega (arith, leb-false 5 r.number e)
      go true e =
          let none : take r.len buf' ≡ [] = at_answer answer_is (stream_refusal_leaves (held_by s p) (drop at stream) job_buffer) (leb-true 5 r.number e) in
          absurd (omega (arith, ap length none, length-take-le r.len buf' k, h))

  turned : {log' : Bytes} {n' : ℕ} → Wrote log n text log' n' → Longer log₀ log n text log' n'
  turned {log'} {n'} q = longer log₀ log n text log' n' g.size (omega (arith, whole_room, g.size)) g.others q

  -- after this record's line the piece is q
  piece_is : {log' : Bytes} {n' : ℕ} → Wrote log n text log' n' → (q : Piece) → next_lines i (held_by s p) (drop at stream) (length log₀ - n) more ≡ after_line text q → after_line (take n' log') q ≡ next_lines index (held_by s₀ p₀) stream (length log₀) more
  piece_is q x e = ap (λ (m : Bytes). after_line m x) (turned q).front ∙ sym (two_lines (take n log) text x) ∙ ap (λ (y : Piece). after_line (take n log) y) (sym e) ∙ g.is

  pub going_less : ends_job r.number ≡ false → at < r.next
  going_less d = omega (arith, one_shorter i (held_by s p) 0 more g.stands.is_sound answer (drop at stream) left answer_is d, length-drop at stream, length-drop r.next stream)

  -- the line's begin was written, and the buffer is what was left of the log behind it
  module _ {log₁ : List ℕ} {b : ℕ} (w : Wrote log n (begin_of i) log₁ b) (lent_is : buf ≡ take (length log₁ - (b + 2)) (drop (b + 2) log₁)) (kept : length buf' ≡ length buf) where
    payload_room : b + 2 + r.len ≤ length log₁
    payload_room = omega (arith, free_room g t w, st.few)

    same : length buf' ≡ length (take (length log₁ - (b + 2)) (drop (b + 2) log₁))
    same = kept ∙ ap length lent_is

    front : buf' ≡ take r.len buf' ++ drop r.len (take (length log₁ - (b + 2)) (drop (b + 2) log₁))
    front = st.buffer ∙ ap (λ (x : Bytes). take r.len buf' ++ drop r.len x) lent_is

    abbrev pub lent : List ℕ
    lent = filled log₁ b buf'

    lent_size : length lent ≡ length log₁
    lent_size = filled_size log₁ b r.len buf' same payload_room front

    text_room : b + length (end_of r.number (take r.len buf')) ≤ length log₁
    text_room =
        omega (arith, whole_room, ap length (line_is i r.number (take r.len buf')), length-append (begin_of i) (end_of r.number (take r.len buf')), w.next_is, begun_size g t w)

    pub end_room : (b + 2 + r.len ≤ length lent) × (b + length (end_of r.number (take r.len (drop (b + 2) lent))) ≤ length lent)
    end_room = rw (lent_size, filled_payload log₁ b r.len buf' same payload_room front) (payload_room, text_room)

    pub lent_digit : 0 < r.len → r.number < 10
    lent_digit = one_digit (omega (arith, same, ap length (take_rest log₁ (b + 2)), length-drop (b + 2) log₁, payload_room))

    whole_line : {log' : List ℕ} {n' : ℕ} → Wrote lent b (end_of r.number (take r.len (drop (b + 2) lent))) log' n' → Wrote log n text log' n'
    whole_line {log'} {n'} v =
        rw (line_is i r.number (take r.len buf'))
        (wrote_more log n (begin_of i) (end_of r.number (take r.len buf')) log₁ log' b n' (begin_room g t) w
        (wrote_over log₁ b r.len buf' same payload_room front r.number log' n' text_room v))

    pub going_last : {log' : Bytes} {n' : ℕ} → ends_job r.number ≡ true → Wrote lent b (end_of r.number (take r.len (drop (b + 2) lent))) log' n' → Lists s₀ p₀ index stream more log₀ t' p' log' (lines_at r.next n' (i + 1) true)
    unfolding halt after_line
    going_last {log'} {n'} d v =
        let q = whole_line v in
        let z = turned q in
        let e : i + 1 ≡ suc i = omega arith in
        record {
          same = st.same ∙ g.same;
          stands = st.stands;
          fits = z.fits;
          within = st.within;
          others = z.others;
          is = rw e (sym (piece_is q _ (one_last i (held_by s p) (length log₀ - n) more g.stands.is_sound answer (drop at stream) left t answer_is d)) ∙ rw (append-nil (take n' log')) refl);
        }

    pub going_on : {log' : Bytes} {n' : ℕ} → ends_job r.number ≡ false → Wrote lent b (end_of r.number (take r.len (drop (b + 2) lent))) log' n' → Going s₀ p₀ index stream more log₀ t' p' log' r.next n' (i + 1)
    going_on {log'} {n'} d v =
        let q = whole_line v in
        let z = turned q in
        let e : i + 1 ≡ suc i = omega arith in
        let f : length log₀ - n' ≡ length log₀ - n - length text = omega (arith, q.next_is) in
        record {
          same = st.same ∙ g.same;
          stands = st.stands;
          size = z.size;
          within = st.within;
          fits = z.fits;
          others = z.others;
          is = rw (e, f) (piece_is q _ (one_goes i (held_by s p) (length log₀ - n) more g.stands.is_sound answer (drop at stream) left (bytes_after at stream is) t answer_is d));
        }
