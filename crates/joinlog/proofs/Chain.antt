-- A run's turns so far, and how they end. Assumes nothing.
use mathlib.Core.Path.{◌≡◌, refl, sym, ap, ◌∙◌}
use mathlib.Core.Bool.{Bool, true, false, ◌||◌}
use mathlib.Core.List.{List, [], ◌++◌}
use Prim.Native.Nat.{ℕ, ◌+◌, ◌-◌, ◌*◌, ◌≤◌, ◌<◌}
use native.Mathlib.Numerals.{add-one}
use native.Mathlib.Omega.{arith}
use lib.ListN.{length, take, drop, get_or, length-append}
use Rattle.definition.specs.Write.{IsBytes}
use Rattle.definition.specs.Job.{joinlog}
use Rattle.theorems.proofs.SoundRead.{bytes_append, bytes_take}
use Rattle.log_lines.proofs.Text.{bytes_of}
use Rattle.step.proofs.Keeping.{bytes_after}
use Rattle.std.specs.Prelude.{Option, Some, None, IfSome}
use Rattle.std.specs.Io.KnownBytes.{Appends}
use Rattle.engine.specs.declared.Lines.{Lines}
use Rattle.engine.specs.Public.{GivesLines}
use Rattle.pieces.specs.Pieces.{max_line}
use Rattle.turns.specs.Filling.{ended, lost, first, at_hand, Within, last_read, Took, Handed, Gave}
use Rattle.turns.specs.declared.Stage.{Stage}
use Rattle.turns.specs.declared.Turn.{Turn}
use Rattle.joinlog.specs.declared.Job.{Job}
use Rattle.joinlog.specs.Turns.{Held, stream, lines_of, Listed, Turned, reads, lists, bytes_read, text_handed, Turns, none, and_turn, RanOver}
use Rattle.turns.proofs.Taken.{took_none, took_on, gave_none, gave_on}
use Rattle.joinlog.proofs.Moves.{passed, passed_within, front_size}
use Rattle.joinlog.proofs.Logs.{bytes_back, stands, turns_log, turns_front}
use Rattle.joinlog.proofs.Ends.{spare, Paced, paced_first, paced_on, in_time}

-- ---- what a turn read and handed over

pub read_bytes : (t : Turn) (buf : List ℕ) → ((i : ℕ) → get_or buf i 0 < 256) → IsBytes (last_read t buf)
unfolding last_read
read_bytes t buf is = bytes_take t.read _ (bytes_after (t.have - t.read) buf (bytes_of buf (λ i. record { fits = is i })))

none_read : (t : Turn) (buf : List ℕ) → t.read ≡ 0 → last_read t buf ≡ []
unfolding last_read
none_read t buf e = ap (λ (n : ℕ). take n (drop (t.have - n) buf)) e

pub read_none : (t : Turn) (buf : List ℕ) → t.read ≡ 0 → IsBytes (last_read t buf)
read_none t buf e = rw (none_read t buf e) tt

pub took_no_bytes : (left : Option (List ℕ)) (t : Turn) (buf : List ℕ) (more : Bool) → t.read ≡ 0 → t.more ≡ more → Took left left (last_read t buf) more t.more
took_no_bytes left t buf more e m = rw (none_read t buf e) (took_none left more t.more m)

pub gave_text : (held held' : Option (List ℕ)) (h : Job) (n : ℕ) (stage : Stage) → h.turn.written ≡ n → Gave held held' (take n h.log) stage → Gave held held' (text_handed h) stage
unfolding text_handed
gave_text held held' h n stage e g = rw e g

pub gave_no_text : (held : Option (List ℕ)) (h : Job) (stage : Stage) → h.turn.written ≡ 0 → Gave held held (text_handed h) stage
gave_no_text held h stage e = gave_text held held h 0 stage e (gave_none held stage)

turned_within : {h h' : Held} → Turned h h' → length h'.job.buf ≡ length h.job.buf → Within h'.job.turn h'.job.buf
turned_within (reads cut ew er el f) e = record { ordered = omega (arith, f.front); inside = omega (arith, f.inside) }
turned_within (lists whole l) e = record { ordered = l.within.ordered; inside = omega (arith, l.within.inside) }

-- lines of the bytes at hand, handed to the writer
pub listed : {h h' : Held} {lines : Lines} (m : ℕ) → Within h.job.turn h.job.buf → GivesLines (lines_of h) (stream h.job) h.job.log (lines_of h).number lines h'.job.words h'.rows h'.job.log → h'.job.buf ≡ h.job.buf → Handed h.job.turn m lines h'.job.turn → m ≡ lines.written → Listed h h'
listed {h} {h'} {lines} m w g b d e =
    let t = h.job.turn in
    let from : h'.job.turn.from ≡ t.from + lines.read = ap (λ (x : Turn). x.from) d.is in
    let have : h'.job.turn.have ≡ t.have = ap (λ (x : Turn). x.have) d.is in
    let at : stream h'.job ≡ at_hand (t.from + lines.read) t.have h.job.buf = rw (from, have, b) refl in
    let few = passed_within t.from lines.read t.have h.job.buf w.ordered w.inside g.inside in
    record {
      words = g.words;
      rows = g.params;
      text = g.front;
      handed = ap (λ (x : Turn). x.written) d.is ∙ e ∙ g.size;
      fits = omega (arith, g.size, g.fits);
      within = record { ordered = omega (arith, from, have, few); inside = omega (arith, have, w.inside) };
      rest = at ∙ passed t.from lines.read t.have h.job.buf ∙ g.rest;
      same_bytes = b;
      none = ap (λ (x : Turn). x.read) d.is;
      follow = ap (λ (x : Turn). x.more) d.is;
      next = ap (λ (x : Turn). x.index) d.is ∙ ap (λ (i : ℕ). Some i) g.next;
      ends = d.ends ∙ ap (λ (x : Bool). x || lost h'.job.turn.stage) g.ends;
    }

-- the log is as long after a turn as before it
same_log : {h h' : Held} → Turned h h' → length h'.job.log ≡ length h.job.log
same_log (reads cut ew er el f) = ap (λ (l : List ℕ). length l) el
same_log {h} (lists whole l) = ap (λ (b : List ℕ). length b) l.text ∙ front_size (lines_of h).text h.job.log l.fits

spare_one : (more : Bool) → spare more ≤ 1
spare_one true = omega arith
spare_one false = omega arith

-- the log of what was read is that of all that the reader had
all_logged : (left left' held held' : Option (List ℕ)) (input output : List ℕ) (t : Turn) → Took left left' input true t.more → Appends held held' output
    → ((b : List ℕ) → IsBytes b → (t.more ≡ false → b ≡ []) → joinlog (input ++ b) ≡ output) → IfSome left (λ known. IsBytes known → Appends held held' (joinlog known))
all_logged None left' held held' input output t k g log = tt
all_logged (Some known) None held held' input output t k g log = absurd k.front
all_logged (Some known) (Some later) held held' input output t k g log = λ is.
    let e : known ≡ input ++ later = k.front in
    let after : IsBytes later = bytes_back input later (rw e at is) in
    rw (ap (λ (l : List ℕ). joinlog l) e ∙ log later after (λ z. let n : Some later ≡ Some [] = k.spent refl z in cc)) g

-- n turns, with what they read and handed over, and what is known of reader and writer
pub record Made (left left' held held' : Option (List ℕ)) (h₀ h : Held) (n : ℕ) : Type 0 where
  pub input : List ℕ
  pub output : List ℕ
  pub turns : Turns h₀ n input output h
  pub bytes : IsBytes input
  pub within : Within h.job.turn h.job.buf
  pub room : max_line ≤ length h.job.log
  pub paced : ended h.job.turn.stage ≡ false → Paced input h n
  pub few : n ≤ 2 * length input + 2
  pub took : Took left left' input true h.job.turn.more
  pub gave : Gave held held' output h.job.turn.stage

pub made_none : (left held : Option (List ℕ)) (h : Held) → h.job.turn ≡ first → max_line ≤ length h.job.log → Made left left held held h h 0
made_none left held h e room = record {
  input = [];
  output = [];
  turns = none;
  bytes = tt;
  within = rw e (record { ordered = omega arith; inside = omega arith });
  room = room;
  paced = λ z. paced_first h e;
  few = omega arith;
  took = took_none left true h.job.turn.more (ap (λ (t : Turn). t.more) e);
  gave = gave_none held h.job.turn.stage;
}

-- before the first turn a job's words are those of a state in number
module _ (h₀ : Held) (at_first : h₀.job.turn ≡ first) (start : length h₀.job.words ≡ 24069) where
  pub made_on : {left left' left'' held held' held'' : Option (List ℕ)} {h h' : Held} {n : ℕ} → Made left left' held held' h₀ h n → ended h.job.turn.stage ≡ false → n < 18446744073709551615
      → Turned h h' → length h'.job.buf ≡ length h.job.buf → IsBytes (bytes_read h'.job)
      → Took left' left'' (bytes_read h'.job) h.job.turn.more h'.job.turn.more → Gave held' held'' (text_handed h'.job) h'.job.turn.stage → Made left left'' held held'' h₀ h' (n + 1)
  made_on {left} {left'} {left''} {held} {held'} {held''} {h} {h'} {n} g e less d same is took gave =
      let s = stands h₀ at_first start g.turns e g.bytes in
      let more = length-append g.input (bytes_read h'.job) in
      rw (add-one n)
      (record {
        input = g.input ++ bytes_read h'.job;
        output = g.output ++ text_handed h'.job;
        turns = and_turn g.turns e d;
        bytes = bytes_append g.input (bytes_read h'.job) g.bytes is;
        within = turned_within d same;
        room = omega (arith, g.room, same_log d);
        paced = λ on. rw (sym (add-one n)) (paced_on g.input g.output h h' s n (g.paced e) on d g.within same g.room less);
        few = omega (arith, (g.paced e).few, spare_one h.job.turn.more, more);
        took = took_on left left' left'' g.input (bytes_read h'.job) true h.job.turn.more h'.job.turn.more g.took took;
        gave = gave_on held held' held'' g.output (text_handed h'.job) h.job.turn.stage h'.job.turn.stage e g.gave gave;
      })

  -- the job ended, or no turn is left
  pub ran : {left left' held held' : Option (List ℕ)} {h : Held} {n : ℕ} → Made left left' held held' h₀ h n → (ended h.job.turn.stage ≡ false → n ≡ 18446744073709551615) → RanOver left left' held held' h₀ h
  ran {left} {left'} {held} {held'} {h} {n} g z =
      let log = turns_log h₀ at_first start g.turns g.bytes in
      record {
        ran = record {
          count = _;
          input = g.input;
          output = g.output;
          turns = g.turns;
          bytes = g.bytes;
          few = g.few;
          all = z;
          ends = in_time (ended h.job.turn.stage) n (length g.input) g.few z;
          front = turns_front h₀ at_first start g.turns g.bytes;
          log = log;
        };
        took = g.took;
        gave = g.gave;
        log = λ e o. all_logged left left' held held' g.input g.output h.job.turn g.took (g.gave o) (log e o);
      }
