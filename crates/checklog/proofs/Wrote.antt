-- Call after call: what was written, and what the log has from there on. Assumes nothing.
use mathlib.Core.Path.{◌≡◌, refl, sym, ap, ap₂, ◌∙◌}
use mathlib.Core.Bool.{Bool, true, false}
use mathlib.Core.List.{List, [], ◌++◌, append-nil, append_assoc}
use Prim.Native.Nat.{ℕ}
use lib.ListN.{length, take, drop}
use lib.Seq.{take_at}
use Rattle.std.specs.Prelude.{Option, Some, None, IfSome, Result, Ok, Err, OnOk}
use Rattle.std.specs.Io.KnownBytes.{Appends}
use Rattle.definition.specs.Types.{State, fresh}
use Rattle.definition.specs.Write.{Bytes, IsBytes}
use Rattle.definition.specs.Sound.{sound}
use Rattle.definition.specs.Job.{joinlog}
use Rattle.pieces.specs.Pieces.{Piece, next_lines}
use Rattle.pieces.proofs.Pieces.{Logged, last, call, piece_follows, pieces_joinlog}
use Rattle.theorems.proofs.SoundKept.{fresh_sound}
use Rattle.table.specs.Encode.{encode}
use Rattle.sound.specs.Lent.{decode, encode_params}
use Rattle.sound.proofs.Tested.{lent_passes}
use Rattle.sound.proofs.Decoded.{decoded, encode_lent}
use Rattle.engine.specs.declared.Lines.{Lines}
use Rattle.checklog.specs.declared.compare.Tally.{Tally}
use Rattle.checklog.specs.Checked.{Tallied, verdict, ChecksLog}
use Rattle.engine.specs.Public.{LentPiece, in_front, lent_piece, lent_lines, GivesLines}

-- ---- what a writer holds

append_none : (a b : Option (List ℕ)) → a ≡ b → Appends a b []
append_none None b e = tt
append_none (Some known) None e = absurd (cc)
append_none (Some known) (Some later) e = ap (λ (o : Option (List ℕ)). elim o [ None ↦ later | Some x ↦ x ]) (sym e) ∙ sym (append-nil known)

pub appends_on : (a b c : Option (List ℕ)) (x y : List ℕ) → Appends a b x → Appends b c y → Appends a c (x ++ y)
appends_on None b c x y e f = tt
appends_on (Some k) None c x y e f = absurd e
appends_on (Some k) (Some l) None x y e f = absurd f
appends_on (Some k) (Some l) (Some m) x y e f = f ∙ ap (λ (z : List ℕ). z ++ y) e ∙ append_assoc k x y

-- ---- a call on the words of a sound state

module _ (s : State) (ok : sound s ≡ true) (i : ℕ) (a : Bytes) (room : ℕ) where
  lines_of_state : lent_lines (encode s) (encode_params s) i a room false ≡ lent_piece (next_lines i s a room false)
  unfolding lent_lines
  lines_of_state =
      let unlent : LentPiece = record { number = 15; text = []; words = encode s; params = encode_params s; rest = a; index = i; ended = true } in
      ap (λ q. elim q as (λ x. LentPiece) [ true ↦ lent_piece (next_lines i (decode (encode s) (encode_params s)) a room false) | false ↦ unlent ])
      (lent_passes (encode s) (encode_params s) (encode_lent s ok))
      ∙ ap (λ (x : State). lent_piece (next_lines i x a room false)) (decoded s ok)

-- a sound state in words, and of all lines from here on those before it are the front
pub record Wrote (out₀ out : Option (List ℕ)) (stream rest w : List ℕ) (rows : List (List ℕ)) (index : ℕ) : Type 0 where
  pub state : State
  pub words : w ≡ encode state
  pub params : rows ≡ encode_params state
  pub is_sound : sound state ≡ true
  pub bytes : IsBytes rest
  pub text : Bytes
  pub wrote : Appends out₀ out text
  pub on : (later : Bytes) → Logged index state rest later → Logged 0 fresh stream (text ++ later)

pub wrote_none : (out : Option (List ℕ)) (stream w : List ℕ) (rows : List (List ℕ)) → w ≡ encode fresh → rows ≡ encode_params fresh → IsBytes stream → Wrote out out stream stream w rows 0
wrote_none out stream w rows e f is =
    record { state = fresh; words = e; params = f; is_sound = fresh_sound; bytes = is; text = []; wrote = append_none out out refl; on = λ later l. l }

module _ {out₀ out : Option (List ℕ)} {stream rest w : List ℕ} {rows : List (List ℕ)} {index : ℕ} (g : Wrote out₀ out stream rest w rows index) (log : List ℕ) (n : ℕ) (lines : Lines) (w' : List ℕ) (rows' : List (List ℕ)) (log' : List ℕ)
    (given : GivesLines (lent_lines w rows index rest (length log) false) rest log n lines w' rows' log') where
  abbrev piece : Piece
  piece = next_lines index g.state rest (length log) false

  lent : lent_lines w rows index rest (length log) false ≡ lent_piece piece
  lent = ap₂ (λ (x : List ℕ) (y : List (List ℕ)). lent_lines x y index rest (length log) false) g.words g.params ∙ lines_of_state g.state g.is_sound index rest (length log)

  text_is : take lines.written log' ≡ piece.text
  unfolding lent_piece in_front
  text_is = ap₂ (λ (k : ℕ) (l : List ℕ). take k l) given.size given.front ∙ take_at (lent_lines w rows index rest (length log) false).text _ _ refl ∙ ap (λ (p : LentPiece). p.text) lent

  ends_is : lines.ended ≡ piece.ended
  unfolding lent_piece
  ends_is = given.ends ∙ ap (λ (p : LentPiece). p.ended) lent

  module _ (out' : Option (List ℕ)) (wrote : Appends out out' (take lines.written log')) where
    pub wrote_all : lines.ended ≡ true → IsBytes stream → Appends out₀ out' (joinlog stream)
    wrote_all e is =
        let l = g.on piece.text (last rest [] (length log) false (sym (append-nil rest)) (λ z. refl) (sym ends_is ∙ e)) in
        rw (pieces_joinlog stream (g.text ++ piece.text) is l) at (appends_on out₀ out out' g.text piece.text g.wrote (rw text_is at wrote))

    pub wrote_on : lines.ended ≡ false → Wrote out₀ out' stream (drop lines.read rest) w' rows' lines.index
    unfolding lent_piece
    wrote_on e =
        let f = piece_follows index g.state rest [] (length log) false g.bytes tt g.is_sound (λ z. refl) in
        let r = given.rest ∙ ap (λ (p : LentPiece). p.rest) lent in
        let i = given.next ∙ ap (λ (p : LentPiece). p.index) lent in
        record {
          state = piece.state;
          words = given.words ∙ ap (λ (p : LentPiece). p.words) lent;
          params = given.params ∙ ap (λ (p : LentPiece). p.params) lent;
          is_sound = f.left;
          bytes = rw r f.bytes;
          text = g.text ++ piece.text;
          wrote = appends_on out₀ out out' g.text piece.text g.wrote (rw text_is at wrote);
          on = λ later l.
              let l' : Logged piece.index piece.state (piece.rest ++ []) later = rw (append-nil piece.rest) (rw (r, i) at l) in
              rw (append_assoc g.text piece.text later) (g.on (piece.text ++ later) (call rest [] (length log) false (sym (append-nil rest)) (λ z. refl) (sym ends_is ∙ e) l'));
        }

-- ---- the whole

pub on_ok : {A E : Type 0} (r : Result A E) {P Q : Type 0} → (P → Q) → OnOk r P → OnOk r Q
on_ok (Ok x) f h = f h
on_ok (Err e) f h = tt

-- the log of what was read, and then the last line
pub told : (left a b c : Option (List ℕ)) (items : List ℕ) (t : Tally) → IfSome left (λ known. items ≡ [] ++ known) → Appends a b (joinlog items) → Tallied items t → Appends b c (verdict t) → ChecksLog left a c
told None a b c items t e log counted line = tt
told (Some known) a b c items t e log counted line = record { tally = t; counted = rw e at counted; wrote = rw e at (appends_on a b c (joinlog items) (verdict t) log line) }
