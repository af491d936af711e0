-- From a state that was tested once to what the public calls give. Assumes nothing.
-- The words that were tested are a sound state's, so a call on trusted words says what the public one gives; where the test fails, it is 15 and nothing changes.
use mathlib.Core.Path.{◌≡◌, refl, sym, ap, ap₂, ◌∙◌}
use mathlib.Core.Bool.{Bool, true, false, ◌&&◌}
use mathlib.Core.List.{List, [], ◌++◌}
use Prim.Native.Nat.{ℕ, ◌-◌, ◌≤◌, ◌<◌}
use native.Mathlib.Omega.{arith}
use lib.Dec.{leb}
use lib.ListN.{length, take, drop, length-take, length-drop}
use lib.Seq.{take_all}
use Rattle.definition.specs.Types.{State, Struct, unsound_state}
use Rattle.definition.specs.Write.{Bytes}
use Rattle.definition.specs.Record.{read_record}
use Rattle.definition.specs.Sound.{sound}
use Rattle.definition.specs.Step as step
use Rattle.definition.specs.Step.{lent, step, least_buffer, usable}
use Rattle.pieces.specs.Pieces.{line_room, max_line, next_lines}
use Rattle.pieces.proofs.Pieces.{room_enough}
use Rattle.theorems.proofs.SoundKept.{usable_enough}
use Rattle.table.specs.Encode.{encode}
use Rattle.table.specs.State.{Lay, Declares}
use Rattle.table.specs.Did.{held as seen_in}
use Rattle.table.specs.declared.Used.{Used}
use Rattle.table.specs.declared.state.State.{State as Table}
use Rattle.sound.specs.Lent.{used_of, structs_of, decode, lent_sound}
use Rattle.sound.proofs.Tested.{lent_says}
use Rattle.sound.proofs.Lays.{lent_lay, lent_declares}
use Rattle.step.specs.declared.Stepped.{Stepped}
use Rattle.lines.specs.declared.Lines.{Lines}
use Rattle.engine.specs.Public.{LentAnswer, lent_answer, lent_step, in_front, GivesAnswer, LentPiece, lent_piece, lent_lines, GivesLines}
use Rattle.step.specs.Trusted.{held, held_by, Stands, answered, unread, Steps}
use Rattle.lines.specs.Lists.{no_lines, Lists}
use Rattle.lent.proofs.Passed.{lent_size, held_lent}

-- where a call ends: the counts are written
module _ (s : Table) (p : List (List ℕ)) (w' : List ℕ) (f : (ds : List Struct) → Declares s.words.now s.used ds → w' ≡ encode (seen_in s ds)) where
  pub written : w' ≡ encode (held_by s p)
  unfolding held
  written = f (structs_of s.words.now p s.used.structs) (lent_declares s.words.now p s.used)

-- .. or all is as it was
pub last_is : {w'' w' w : List ℕ} → w' ≡ w → w'' ≡ w' → w'' ≡ w
last_is e f = f ∙ e

-- ---- one lent record

-- a payload's length is far below 2 to the 32
pub few_bytes : (bytes : Bytes) (n : ℕ) → n ≤ least_buffer bytes → n < 4294967296
unfolding line_room max_line
few_bytes bytes n l = omega (arith, room_enough bytes)

long : (n : ℕ) (l : List ℕ) → n ≤ length l → length (take n l) ≡ n
long n l h = length-take n l ∙ omega (arith, h)

module _ (w : List ℕ) (p : List (List ℕ)) (h : lent_sound w p ≡ true) (s : Table) (n : s.words.now ≡ w) (c : s.used ≡ used_of w)
    (bytes buf : Bytes) (k : least_buffer bytes ≤ length buf) (t : Table) (p' : List (List ℕ)) (buf' : Bytes) (r : Stepped)
    (g : Steps true s p bytes 0 buf t p' buf' r) (w' : List ℕ)
    (e : (ds : List Struct) → Declares t.words.now t.used ds → w' ≡ encode (seen_in t ds)) (w'' : List ℕ) (last : w'' ≡ w') where
  steps : step (decode w p) bytes (length buf) ≡ record { number = r.number; payload = take r.len buf'; state = held_by t p' }
  unfolding step answered
  steps =
      let t : usable (decode w p) bytes (length buf) ≡ true = usable_enough (decode w p) bytes (length buf) k (lent_says w p h).is_sound in
      ap (λ q. elim q as (λ x. step.Answer) [ true ↦ lent (decode w p) (read_record (decode w p) bytes) | false ↦ step.refusal (decode w p) unsound_state ]) t ∙ (rw (held_lent w p h s n c) at g.is)

  recorded : lent_step w p bytes (length buf) ≡ record { number = r.number; payload = take r.len buf'; words = w''; params = p' }
  unfolding lent_step lent_answer
  recorded =
      ap (λ q. elim q as (λ x. LentAnswer) [ true ↦ lent_answer (step (decode w p) bytes (length buf)) | false ↦ record { number = 15; payload = []; words = w; params = p } ]) h
      ∙ ap lent_answer steps
      ∙ ap₂ (λ (x : List ℕ) (y : List (List ℕ)). record { number = r.number; payload = take r.len buf'; words = x; params = y }) (sym (last ∙ written t p' w' e)) (sym g.stands.bytes)

  pub record_gives : length buf' ≡ length buf → GivesAnswer (lent_step w p bytes (length buf)) buf (record { number = r.number; length = r.len }) w'' p' buf'
  unfolding in_front
  record_gives l =
      let n : length (take r.len buf') ≡ r.len = long r.len buf' (omega (arith, l, k, g.few)) in
      let front = g.buffer ∙ ap (λ (n : ℕ). take r.len buf' ++ drop n buf) (sym n) in
      rw recorded (record { told = refl; words = refl; params = refl; front = front; size = sym n })

-- ---- 15

no_room : (s : State) (bytes : Bytes) (buffer : ℕ) → leb (least_buffer bytes) buffer ≡ false → step s bytes buffer ≡ step.refusal s unsound_state
unfolding step usable
no_room s bytes buffer e = ap {B = step.Answer} (λ b. elim (b && sound s) as (λ x. step.Answer) [ true ↦ lent s (read_record s bytes) | false ↦ step.refusal s unsound_state ]) e

-- the buffer is too short
pub short_gives : (w : List ℕ) (p : List (List ℕ)) (bytes buf : Bytes) → leb (least_buffer bytes) (length buf) ≡ false
    → GivesAnswer (lent_step w p bytes (length buf)) buf (record { number = 15; length = 0 }) w p buf
unfolding lent_step lent_answer in_front step.refusal step.number_of_refusal
short_gives w p bytes buf e = rw (go (lent_sound w p) refl) (record { told = refl; words = refl; params = refl; front = refl; size = refl })
  where
    go : (b : Bool) → lent_sound w p ≡ b → ◌≡◌ {A = LentAnswer} (elim b as (λ x. LentAnswer) [ true ↦ lent_answer (step (decode w p) bytes (length buf)) | false ↦ record { number = 15; payload = []; words = w; params = p } ]) (record { number = 15; payload = []; words = w; params = p })
    go false h = refl
    go true h =
        let l = lent_says w p h in
        ap lent_answer (no_room (decode w p) bytes (length buf) e)
        ∙ ap₂ (λ (x : List ℕ) (y : List (List ℕ)). record { number = 15; payload = []; words = x; params = y }) (sym l.words) (sym l.bytes)

-- the state is not sound
pub unsound_gives : (w : List ℕ) (p : List (List ℕ)) (bytes buf : Bytes) → lent_sound w p ≡ false
    → GivesAnswer (lent_step w p bytes (length buf)) buf (record { number = 15; length = 0 }) w p buf
unfolding lent_step in_front
unsound_gives w p bytes buf e = rw (lent_step, e) (record { told = refl; words = refl; params = refl; front = refl; size = refl })

-- ---- a job's lines

module _ (w : List ℕ) (p : List (List ℕ)) (h : lent_sound w p ≡ true) (s : Table) (n : s.words.now ≡ w) (c : s.used ≡ used_of w) (index : ℕ)
    (stream : Bytes) (more : Bool) (log : Bytes) (t : Table) (p' : List (List ℕ)) (log' : Bytes) (r : Lines)
    (g : Lists s p index stream more log t p' log' r) (w' : List ℕ)
    (e : (ds : List Struct) → Declares t.words.now t.used ds → w' ≡ encode (seen_in t ds)) (w'' : List ℕ) (last : w'' ≡ w') where
  abbrev lines : LentPiece
  lines = lent_lines w p index stream (length log) more

  listed : lines ≡ record { number = 0; text = take r.written log'; words = w''; params = p'; rest = drop r.read stream; index = r.index; ended = r.ended }
  unfolding lent_lines lent_piece
  listed =
      ap (λ q. elim q as (λ x. LentPiece) [ true ↦ lent_piece (next_lines index (decode w p) stream (length log) more) | false ↦ record { number = 15; text = []; words = w; params = p; rest = stream; index = index; ended = true } ]) h
      ∙ ap lent_piece (rw (held_lent w p h s n c) at g.is)
      ∙ ap₂ (λ (x : List ℕ) (y : List (List ℕ)). record { number = 0; text = take r.written log'; words = x; params = y; rest = drop r.read stream; index = r.index; ended = r.ended }) (sym (last ∙ written t p' w' e)) (sym g.stands.bytes)

  pub job_gives : length log' ≡ length log → GivesLines lines stream log 0 r w'' p' log'
  unfolding in_front
  job_gives l =
      let n : length (take r.written log') ≡ r.written = long r.written log' (omega (arith, l, g.fits)) in
      rw listed
      (record {
        told = refl;
        words = refl;
        params = refl;
        front = g.others ∙ ap (λ (n : ℕ). take r.written log' ++ drop n log) (sym n);
        size = sym n;
        fits = g.fits;
        rest = refl;
        inside = g.within;
        next = refl;
        ends = refl;
      })

pub unsound_lines : (w : List ℕ) (p : List (List ℕ)) (index : ℕ) (stream : Bytes) (more : Bool) (log : Bytes) → lent_sound w p ≡ false
    → GivesLines (lent_lines w p index stream (length log) more) stream log 15 (no_lines index) w p log
unfolding in_front lent_lines
unsound_lines w p index stream more log h =
    let piece : LentPiece = record { number = 15; text = []; words = w; params = p; rest = stream; index = index; ended = true } in
    let e : lent_lines w p index stream (length log) more ≡ piece =
    ap (λ q. elim q as (λ x. LentPiece) [ true ↦ lent_piece (next_lines index (decode w p) stream (length log) more) | false ↦ piece ]) h in
    rw e
    (record {
      told = refl;
      words = refl;
      params = refl;
      front = refl;
      size = refl;
      fits = omega arith;
      rest = refl;
      inside = omega arith;
      next = refl;
      ends = refl;
    })

pub other_size : (w : List ℕ) (p : List (List ℕ)) → (length w ≡ 24069 → ⊥) → lent_sound w p ≡ false
other_size w p n = go (lent_sound w p) refl
  where
    go : (b : Bool) → lent_sound w p ≡ b → lent_sound w p ≡ false
    go false e = e
    go true e = absurd (n (lent_size w p e))
