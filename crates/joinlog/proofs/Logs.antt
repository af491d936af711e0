-- What a run hands to the writer is the log of what it read; where it stopped before the end, it is the log's front. Assumes nothing.
-- `Stands` is kept turn after turn: the log of all that was read is the text handed over, and then the log from the state that is held. It is carried over filling the buffer and over listing lines.
use mathlib.Core.Path.{◌≡◌, refl, sym, ap, ap₂, ◌∙◌}
use mathlib.Core.Bool.{Bool, true, false, ◌||◌}
use mathlib.Core.List.{List, [], ◌∷◌, ◌++◌, append-nil, append_assoc}
use Prim.Native.Nat.{ℕ, ◌+◌, ◌-◌}
use native.Mathlib.Omega.{arith}
use lib.ListN.{length, take, drop}
use lib.Seq.{take_at, take-add}
use Rattle.std.specs.Prelude.{Option, Some, None}
use Rattle.definition.specs.Types.{State, fresh}
use Rattle.definition.specs.Write.{Bytes, IsBytes}
use Rattle.definition.specs.Sound.{sound}
use Rattle.definition.specs.Job.{job_from, job_log, lines, joinlog}
use Rattle.pieces.specs.Pieces.{Piece, next_lines}
use Rattle.theorems.proofs.SoundFacts.{and_l}
use Rattle.theorems.proofs.SoundRead.{bytes_append}
use Rattle.theorems.proofs.SoundKept.{fresh_sound}
use Rattle.pieces.proofs.Pieces.{log_from, onward, piece_follows}
use Rattle.table.specs.Encode.{encode}
use Rattle.sound.specs.Lent.{decode, encode_params}
use Rattle.sound.proofs.Tested.{lent_passes}
use Rattle.sound.proofs.Decoded.{decoded, encode_lent}
use Rattle.engine.specs.Public.{LentPiece, in_front, lent_piece, lent_lines}
use Rattle.engine.proofs.Fresh.{from_fresh}
use Rattle.turns.specs.declared.Turn.{Turn}
use Rattle.turns.specs.Filling.{ended, lost, first, last_read, Filled}
use Rattle.joinlog.specs.Turns.{Held, stream, job_lines, lines_of, Listed, reads, lists, bytes_read, text_handed, Turns, none, and_turn}
use Rattle.turns.proofs.Taken.{clash}

-- ---- lists and tests

pub bytes_front : (a b : Bytes) → IsBytes (a ++ b) → IsBytes a
bytes_front [] b is = tt
bytes_front (x ∷ a) b is = (is.0, bytes_front a b is.1)

pub bytes_back : (a b : Bytes) → IsBytes (a ++ b) → IsBytes b
bytes_back [] b is = is
bytes_back (x ∷ a) b is = bytes_back a b is.1

pub or_false : (a b : Bool) → (a || b) ≡ false → a ≡ false
or_false true b e = e
or_false false b e = refl

or_left : (a b : Bool) → b ≡ false → (a || b) ≡ true → a ≡ true
or_left true b e o = refl
or_left false b e o = sym e ∙ o

-- ---- the words of a sound state

module _ (s : State) (ok : sound s ≡ true) (i : ℕ) (a : Bytes) (room : ℕ) (more : Bool) where
  sound_lines : lent_lines (encode s) (encode_params s) i a room more ≡ lent_piece (next_lines i s a room more)
  unfolding lent_lines
  sound_lines =
      let unlent : LentPiece = record { number = 15; text = []; words = encode s; params = encode_params s; rest = a; index = i; ended = true } in
      ap (λ q. elim q as (λ x. LentPiece) [ true ↦ lent_piece (next_lines i (decode (encode s) (encode_params s)) a room more) | false ↦ unlent ])
      (lent_passes (encode s) (encode_params s) (encode_lent s ok))
      ∙ ap (λ (x : State). lent_piece (next_lines i x a room more)) (decoded s ok)

-- the same lines are asked for
same_lines : {i i' : Option ℕ} {w w' : Bytes} {r r' : List Bytes} → i' ≡ i → w' ≡ w → r' ≡ r → (a : Bytes) (room : ℕ) (more : Bool) → job_lines i' w' r' a room more ≡ job_lines i w r a room more
same_lines {i} {w'} {r'} ei ew er a room more =
    ap (λ (k : Option ℕ). job_lines k w' r' a room more) ei ∙ ap₂ (λ (x : Bytes) (y : List Bytes). job_lines i x y a room more) ew er

-- the next record's number
abbrev pub number : Option ℕ → ℕ
number None = 0
number (Some i) = i

-- ---- turn after turn

-- what may follow the bytes read
pub record Later (t : Turn) (b : Bytes) : Type 0 where
  pub are : IsBytes b
  pub none : t.more ≡ false → b ≡ []

-- a sound state, from which the next lines come, and the log of all that was read and of b after it is the text handed to the writer, and then the log from here on
pub record Stands (input output : Bytes) (h : Held) : Type 0 where
  pub state : State
  pub asks : (a : Bytes) (room : ℕ) (more : Bool) → job_lines h.job.turn.index h.job.words h.rows a room more ≡ lent_piece (next_lines (number h.job.turn.index) state a room more)
  pub is_sound : sound state ≡ true
  pub bytes : IsBytes (stream h.job)
  pub logs : (b : Bytes) → Later h.job.turn b → log_from 0 fresh (input ++ b) ≡ output ++ log_from (number h.job.turn.index) state (stream h.job ++ b)

stands_first : (h : Held) → h.job.turn ≡ first → length h.job.words ≡ 24069 → Stands [] [] h
stands_first h f n = record {
  state = fresh;
  asks = λ a room more. rw f (from_fresh h.job.words h.rows a room more n (encode fresh) (encode_params fresh) refl refl ∙ sound_lines fresh fresh_sound 0 a room more);
  is_sound = fresh_sound;
  bytes = rw f tt;
  logs = λ b l. rw f refl;
}

module _ (input output : Bytes) (h h' : Held) (s : Stands input output h) where
  module _ (more : h.job.turn.more ≡ true) (f : Filled h.job.buf h.job.turn h'.job.buf h'.job.turn) where
    -- the bytes at hand are those that were, and those read
    pub rest_read : stream h'.job ≡ stream h.job ++ bytes_read h'.job
    unfolding last_read
    rest_read =
        let m = h.job.turn.have - h.job.turn.from in
        let e : h'.job.turn.have - h'.job.turn.from ≡ m + h'.job.turn.read = omega (arith, f.front, f.end) in
        let d : h'.job.turn.have - h'.job.turn.read ≡ m = omega (arith, f.end) in
        ap₂ (λ (k n : ℕ). take k (drop n h'.job.buf)) e f.front ∙ take-add m h'.job.turn.read h'.job.buf ∙ ap₂ (λ (l : Bytes) (n : ℕ). l ++ take h'.job.turn.read (drop n h'.job.buf)) f.kept (sym d)

    none_handed : text_handed h'.job ≡ []
    unfolding text_handed
    none_handed = ap (λ (n : ℕ). take n h'.job.log) f.silent

    stands_read : h'.job.words ≡ h.job.words → h'.rows ≡ h.rows → IsBytes (bytes_read h'.job) → Stands (input ++ bytes_read h'.job) (output ++ text_handed h'.job) h'
    unfolding last_read lines job_from
    stands_read ew er is = record {
      state = s.state;
      asks = λ a room more. same_lines f.same_index ew er a room more ∙ s.asks a room more ∙ ap (λ (i : Option ℕ). lent_piece (next_lines (number i) s.state a room more)) (sym f.same_index);
      is_sound = s.is_sound;
      bytes = rw rest_read (bytes_append (stream h.job) (bytes_read h'.job) s.bytes is);
      logs = λ b l. rw (append_assoc input (bytes_read h'.job) b, none_handed, append-nil output, rest_read, f.same_index, append_assoc (stream h.job) (bytes_read h'.job) b) (s.logs (bytes_read h'.job ++ b) (record { are = bytes_append (bytes_read h'.job) b is l.are; none = λ z. clash more z }));
    }

  abbrev pub piece : Piece
  piece = next_lines (number h.job.turn.index) s.state (stream h.job) (length h.job.log) h.job.turn.more

  pub lines_are : lines_of h ≡ lent_piece piece
  lines_are = s.asks (stream h.job) (length h.job.log) h.job.turn.more

  module _ (l : Listed h h') where
    pub none_read : bytes_read h'.job ≡ []
    unfolding last_read
    none_read = ap (λ (n : ℕ). take n (drop (h'.job.turn.have - n) h'.job.buf)) l.none

    text_is : text_handed h'.job ≡ piece.text
    unfolding text_handed lent_piece in_front
    text_is = ap₂ (λ (n : ℕ) (a : Bytes). take n a) l.handed l.text ∙ take_at (lines_of h).text _ _ refl ∙ ap (λ (p : LentPiece). p.text) lines_are

    pub ended_is : (lines_of h).ended ≡ piece.ended
    unfolding lent_piece
    ended_is = ap (λ (p : LentPiece). p.ended) lines_are

    -- the log, by way of this turn's lines
    by_lines : (b : Bytes) → Later h'.job.turn b → log_from 0 fresh ((input ++ bytes_read h'.job) ++ b) ≡ (output ++ text_handed h'.job) ++ onward piece b
    by_lines b q =
        let none : h.job.turn.more ≡ false → b ≡ [] = λ z. q.none (l.follow ∙ z) in
        let g = piece_follows (number h.job.turn.index) s.state (stream h.job) b (length h.job.log) h.job.turn.more s.bytes q.are s.is_sound none in
        rw (none_read, append-nil input, text_is, append_assoc output piece.text (onward piece b)) (s.logs b (record { are = q.are; none = none }) ∙ ap (λ (m : Bytes). output ++ m) g.is)

    goes_on : (b : Bytes) → piece.ended ≡ false → onward piece b ≡ log_from piece.index piece.state (piece.rest ++ b)
    goes_on b e = rw e refl

    -- where the lines end the job, they end the log
    by_last : piece.ended ≡ true → (b : Bytes) → Later h'.job.turn b → log_from 0 fresh ((input ++ bytes_read h'.job) ++ b) ≡ output ++ text_handed h'.job
    by_last e b q = by_lines b q ∙ (rw e (append-nil (output ++ text_handed h'.job)))

    pub goes : ended h'.job.turn.stage ≡ false → piece.ended ≡ false
    goes e = sym ended_is ∙ or_false _ (lost h'.job.turn.stage) (sym l.ends ∙ e)

    pub next_is : h'.job.turn.index ≡ Some piece.index
    unfolding lent_piece
    next_is = l.next ∙ ap (λ (p : LentPiece). Some p.index) lines_are

    pub rest_is : stream h'.job ≡ piece.rest
    unfolding lent_piece
    rest_is = l.rest ∙ ap (λ (p : LentPiece). p.rest) lines_are

    stands_listed : ended h'.job.turn.stage ≡ false → Stands (input ++ bytes_read h'.job) (output ++ text_handed h'.job) h'
    unfolding lent_piece last_read text_handed
    stands_listed e =
        let g = piece_follows (number h.job.turn.index) s.state (stream h.job) [] (length h.job.log) h.job.turn.more s.bytes tt s.is_sound (λ z. refl) in
        let o = goes e in
        let n = next_is in
        let r = rest_is in
        record {
          state = piece.state;
          asks = λ a room more.
              same_lines n (l.words ∙ ap (λ (p : LentPiece). p.words) lines_are)
              (l.rows ∙ ap (λ (p : LentPiece). p.params) lines_are) a room more
              ∙ sound_lines piece.state g.left piece.index a room more
              ∙ ap (λ (i : Option ℕ). lent_piece (next_lines (number i) piece.state a room more)) (sym n);
          is_sound = g.left;
          bytes = rw r g.bytes;
          logs = λ b q. rw (r, n) (by_lines b q ∙ ap (λ (m : Bytes). (output ++ text_handed h'.job) ++ m) (goes_on b o));
        }

module _ (h₀ : Held) (at_first : h₀.job.turn ≡ first) (start : length h₀.job.words ≡ 24069) where
  pub stands : {n : ℕ} {input output : Bytes} {h : Held} → Turns h₀ n input output h → ended h.job.turn.stage ≡ false → IsBytes input → Stands input output h
  stands none e is = stands_first h₀ at_first start
  stands (and_turn {input = input} {output = output} {h = h} {h' = h'} c o (reads cut ew er el f)) e is =
      stands_read input output h h' (stands c o (bytes_front input (bytes_read h'.job) is)) (and_l h.job.turn.more _ cut) f ew er (bytes_back input (bytes_read h'.job) is)
  stands (and_turn {input = input} {output = output} {h = h} {h' = h'} c o (lists whole l)) e is =
      stands_listed input output h h' (stands c o (bytes_front input (bytes_read h'.job) is)) l e

  -- the job ended, nothing was lost: the text is the log
  pub turns_log : {n : ℕ} {input output : Bytes} {h : Held} → Turns h₀ n input output h → IsBytes input → ended h.job.turn.stage ≡ true → lost h.job.turn.stage ≡ false → (b : Bytes) → IsBytes b → (h.job.turn.more ≡ false → b ≡ []) → joinlog (input ++ b) ≡ output
  unfolding joinlog job_log
  turns_log none is e o b ib q = clash e (ap (λ (t : Turn). ended t.stage) at_first)
  turns_log (and_turn c d (reads cut ew er el f)) is e o b ib q = clash e (f.ends ∙ o)
  turns_log (and_turn {input = input} {output = output} {h = h} {h' = h'} c d (lists whole l)) is e o b ib q =
      let s = stands c d (bytes_front input (bytes_read h'.job) is) in
      by_last input output h h' s l (sym (ended_is input output h h' s l) ∙ or_left _ (lost h'.job.turn.stage) o (sym l.ends ∙ e)) b (record { are = ib; none = q })

  -- wherever the turns stopped: the text is a front of the log
  pub turns_front : {n : ℕ} {input output : Bytes} {h : Held} → Turns h₀ n input output h → IsBytes input → (b : Bytes) → IsBytes b → (h.job.turn.more ≡ false → b ≡ []) → (later : Bytes) × (joinlog (input ++ b) ≡ output ++ later)
  unfolding joinlog job_log
  turns_front none is b ib q = (joinlog b, refl)
  turns_front (and_turn {input = input} {output = output} {h = h} {h' = h'} c d (reads cut ew er el f)) is b ib q =
      let s = stands c d (bytes_front input (bytes_read h'.job) is) in
      (_, (stands_read input output h h' s (and_l h.job.turn.more _ cut) f ew er (bytes_back input (bytes_read h'.job) is)).logs b (record { are = ib; none = q }))
  turns_front (and_turn {input = input} {output = output} {h = h} {h' = h'} c d (lists whole l)) is b ib q =
      let s = stands c d (bytes_front input (bytes_read h'.job) is) in
      (onward (piece input output h h' s) b, by_lines input output h h' s l b (record { are = ib; none = q }))
