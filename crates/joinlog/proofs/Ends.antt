-- A run comes to its end: each turn reads a byte or takes on a record, but for two more. Assumes nothing.
use mathlib.Core.Path.{◌≡◌, refl, sym, ap, ◌∙◌}
use mathlib.Core.Bool.{Bool, true, false, not, ◌||◌, ◌&&◌}
use mathlib.Core.List.{[], ◌∷◌, ◌++◌, append-nil}
use Prim.Native.Nat.{ℕ, suc, ◌+◌, ◌*◌, ◌≤◌, ◌<◌}
use native.Mathlib.Omega.{arith}
use lib.Dec.{leb, ltb}
use lib.ListN.{length, length-append}
use Rattle.std.specs.Prelude.{Option}
use Rattle.std.proofs.lemmas.Bool.{ltb-true, ltb-false}
use Rattle.definition.specs.Types.{State}
use Rattle.definition.specs.Write.{Bytes, IsBytes}
use Rattle.definition.specs.Record.{max_record}
use Rattle.definition.specs.Sound.{sound}
use Rattle.pieces.specs.Pieces.{Piece, line_room, max_line, max_index, takes_on, halt, next_lines}
use Rattle.pieces.proofs.Pieces.{Nearer, nearer, at_end, near_next, next_spent, next_stops, room_enough}
use Rattle.theorems.proofs.SoundFacts.{and_l}
use Rattle.theorems.proofs.Soundness.{and, le_test}
use Rattle.turns.specs.Filling.{ended, lost, first, short, Within, Filled}
use Rattle.turns.proofs.Taken.{clash}
use Rattle.joinlog.specs.Turns.{Held, stream, Listed, Turned, reads, lists, bytes_read}
use Rattle.joinlog.proofs.Moves.{hand_size, read_size}
use Rattle.joinlog.proofs.Logs.{number, Stands, rest_read, piece, none_read, goes, next_is, rest_is}

-- ---- a piece

-- it ends the job, takes on a record, or has no number left
data Steps (i : ℕ) (a : Bytes) (p : Piece) : Type 0 where
  ends : p.ended ≡ true → Steps i a p
  takes : p.index + length p.rest ≤ i + length a → length p.rest < length a → Steps i a p
  no_number : 18446744073709551615 ≤ i → p.index ≡ i → p.rest ≡ a → Steps i a p

whole : (more : Bool) (n : ℕ) → (more && ltb n 4096) ≡ false → (not more || leb 4096 n) ≡ true
whole true n e = le_test 4096 n (ltb-false n 4096 e)
whole false n e = refl

not_third : (a b c : Bool) → c ≡ false → (a && (b && c)) ≡ false
not_third true true c e = e
not_third true false c e = refl
not_third false b c e = refl

-- with room for a line
steps : (i : ℕ) (s : State) (a : Bytes) (room : ℕ) (more : Bool) → IsBytes a → sound s ≡ true → max_line ≤ room → (more && ltb (length a) 4096) ≡ false → Steps i a (next_lines i s a room more)
unfolding takes_on halt max_record max_index
steps i s [] room true is h r w = clash refl w
steps i s [] room false is h r w = ends (ap (λ (p : Piece). p.ended) (next_spent i s room false))
steps i s (x ∷ a) room more is h r w = go (ltb i 18446744073709551615) refl
  where
    near : Nearer (suc i) (length a) (next_lines i s (x ∷ a) room more) → Steps i (x ∷ a) (next_lines i s (x ∷ a) room more)
    near (nearer u v) = takes (omega (arith, u)) (omega (arith, v))
    near (at_end e) = ends e

    go : (o : Bool) → ltb i 18446744073709551615 ≡ o → Steps i (x ∷ a) (next_lines i s (x ∷ a) room more)
    go true e = near (near_next i s x a room more is h (and (whole more (length (x ∷ a)) w) (and (le_test (line_room (x ∷ a)) room (omega (arith, r, room_enough (x ∷ a)))) e)))
    go false e =
        let stops = next_stops i s room more x a (not_third (not more || leb 4096 (length (x ∷ a))) (leb (line_room (x ∷ a)) room) (ltb i 18446744073709551615) e) in
        no_number (ltb-false i 18446744073709551615 e) (ap (λ (p : Piece). p.index) stops) (ap (λ (p : Piece). p.rest) stops)

-- ---- a turn

-- one turn finds that no more follow
abbrev pub spare : Bool → ℕ
spare true = 0
spare false = 1

-- each record had a byte, and each of n turns read one or took on a record
pub record Paced (input : Bytes) (h : Held) (n : ℕ) : Type 0 where
  pub index : number h.job.turn.index + length (stream h.job) ≤ length input
  pub few : n + length (stream h.job) ≤ 2 * length input + spare h.job.turn.more

pub paced_first : (h : Held) → h.job.turn ≡ first → Paced [] h 0
paced_first h e = rw e (record { index = omega arith; few = omega arith })

module _ (input output : Bytes) (h h' : Held) (s : Stands input output h) (n : ℕ) (p : Paced input h n) (on : ended h'.job.turn.stage ≡ false) where
  paced_read : h.job.turn.more ≡ true → Filled h.job.buf h.job.turn h'.job.buf h'.job.turn → length h'.job.buf ≡ length h.job.buf → Paced (input ++ bytes_read h'.job) h' (n + 1)
  paced_read m f same = go (ltb 0 h'.job.turn.read) refl
    where
      read : length (bytes_read h'.job) ≡ h'.job.turn.read
      read = read_size h'.job.turn h'.job.buf (omega (arith, f.end)) (omega (arith, f.inside, same))

      all : length (input ++ bytes_read h'.job) ≡ length input + h'.job.turn.read
      all = length-append input (bytes_read h'.job) ∙ ap (λ (k : ℕ). length input + k) read

      rest : length (stream h'.job) ≡ length (stream h.job) + h'.job.turn.read
      rest = ap (λ (l : Bytes). length l) (rest_read input output h h' s m f) ∙ length-append (stream h.job) (bytes_read h'.job) ∙ ap (λ (k : ℕ). length (stream h.job) + k) read

      follow : (o : Bool) → ltb 0 h'.job.turn.read ≡ o → h'.job.turn.more ≡ (o || lost h'.job.turn.stage)
      follow o e = f.follow ∙ ap (λ (b : Bool). b || lost h'.job.turn.stage) e

      before : n + length (stream h.job) ≤ 2 * length input
      before = let few : n + length (stream h.job) ≤ 2 * length input + spare true = rw m at p.few in omega (arith, few)

      index : number h'.job.turn.index + length (stream h'.job) ≤ length (input ++ bytes_read h'.job)
      index = let same = ap (λ (i : Option ℕ). number i) f.same_index in omega (arith, p.index, rest, all, same)

      go : (o : Bool) → ltb 0 h'.job.turn.read ≡ o → Paced (input ++ bytes_read h'.job) h' (n + 1)
      go true e =
          let none : spare h'.job.turn.more ≡ 0 = ap spare (follow true e) in
          record { index = index; few = omega (arith, before, rest, all, none, ltb-true 0 h'.job.turn.read e) }
      go false e =
          let one : spare h'.job.turn.more ≡ 1 = ap spare (follow false e ∙ sym f.ends ∙ on) in
          record { index = index; few = omega (arith, before, rest, all, one) }

  paced_listed : Listed h h' → Within h.job.turn h.job.buf → short h.job.turn ≡ false → max_line ≤ length h.job.log → n < 18446744073709551615 → Paced (input ++ bytes_read h'.job) h' (n + 1)
  paced_listed l w cut room left = rw (none_read input output h h' s l, append-nil input) (go (steps (number h.job.turn.index) s.state (stream h.job) (length h.job.log) h.job.turn.more s.bytes s.is_sound room long))
    where
      long : (h.job.turn.more && ltb (length (stream h.job)) 4096) ≡ false
      long = rw (hand_size h.job.turn.from h.job.turn.have h.job.buf w.ordered w.inside) cut

      q : Piece
      q = piece input output h h' s

      rest : length (stream h'.job) ≡ length q.rest
      rest = ap (λ (b : Bytes). length b) (rest_is input output h h' s l)

      next : number h'.job.turn.index ≡ q.index
      next = ap (λ (i : Option ℕ). number i) (next_is input output h h' s l)

      go : Steps (number h.job.turn.index) (stream h.job) q → Paced input h' (n + 1)
      go (ends e) = clash e (goes input output h h' s l on)
      go (takes u v) = record { index = omega (arith, p.index, rest, next, u); few = rw l.follow (omega (arith, p.few, rest, v)) }
      go (no_number z i r) =
          let same = ap (λ (b : Bytes). length b) r in
          record { index = omega (arith, p.index, rest, next, i, same); few = rw l.follow (omega (arith, p.index, rest, same, z, left)) }

  pub paced_on : Turned h h' → Within h.job.turn h.job.buf → length h'.job.buf ≡ length h.job.buf → max_line ≤ length h.job.log → n < 18446744073709551615 → Paced (input ++ bytes_read h'.job) h' (n + 1)
  paced_on (reads cut ew er el f) w same room left = paced_read (and_l h.job.turn.more _ cut) f same
  paced_on (lists cut l) w same room left = paced_listed l w cut room left

-- a run of so few turns ended, unless it read very many bytes
pub in_time : (b : Bool) (n size : ℕ) → n ≤ 2 * size + 2 → (b ≡ false → n ≡ 18446744073709551615) → size < 9223372036854775807 → b ≡ true
in_time true n size few all less = refl
in_time false n size few all less = absurd (omega (arith, few, all refl, less))
