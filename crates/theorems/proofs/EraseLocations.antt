-- R-4: locations decide nothing. Two jobs from a fresh state that are equal but for location fields get equal numbers, payloads equal but for location fields,
-- and equal counts. Assumes nothing.
-- One record: both answers are alike by EraseRun, with the states equal but for locations. Then the list by induction; at the end the table at work, computed.
use mathlib.Core.Path.{◌≡◌, refl, sym, ap, ◌∙◌, subst}
use mathlib.Core.Bool.{Bool, true, false, ◌&&◌}
use mathlib.Core.List.{List, [], ◌∷◌}
use Prim.Native.Nat.{ℕ}
use lib.ListN.{get_or, drop}
use lib.Dec.{leb}
use Rattle.definition.specs.Types.{State, fresh, unsound_state}
use Rattle.definition.specs.Write.{IsBytes, Bytes}
use Rattle.definition.specs.Record.{read_record}
use Rattle.definition.specs.Instantiate.{builtin_tparams}
use Rattle.definition.specs.Trees.{arity}
use Rattle.definition.specs.Sound.{sound}
use Rattle.definition.specs.Step.{Answer, refusal, usable, lent, step, least_buffer}
use Rattle.definition.specs.Locations.{failures, loc_field, tag_fields, expand, blank, mark_fields, after_mark, told, counts_of, blank_record, blank_payload, blank_job, Seen, seen, blank_log, JobOfBytes, LocationsDecideNothing, type, codes}
use Rattle.theorems.proofs.DemandTracks.{never}
use Rattle.definition.proofs.Spelling.{hex}
use Rattle.theorems.proofs.SoundKept.{sound_kept, fresh_sound}
use Rattle.theorems.proofs.Erase.{erase, count_erase, taken_erase, args_erase, structs_erase, constraints_erase}
use Rattle.theorems.proofs.EraseRead.{record_alike}
use Rattle.theorems.proofs.EraseShown.{read_shows}
use Rattle.theorems.proofs.EraseRun.{lent_erase, nothing_before}
use Rattle.theorems.proofs.SoundRead.{well_read}

-- two answers that are alike, and the states that they leave
record Alike (s : State) (bytes : Bytes) (a : Answer) (s' : State) (bytes' : Bytes) (a' : Answer) : Type 0 where
  numbers : a.number ≡ a'.number
  payloads : blank_payload s bytes a ≡ blank_payload s' bytes' a'
  states : erase a.state ≡ erase a'.state

counts_erase : (s : State) → counts_of (erase s) ≡ counts_of s
unfolding counts_of
counts_erase s = rw (count_erase s, args_erase s, taken_erase s, constraints_erase s, structs_erase s) refl

same_counts : (s s' : State) → erase s ≡ erase s' → counts_of s ≡ counts_of s'
same_counts s s' e = sym (counts_erase s) ∙ ap counts_of e ∙ counts_erase s'

same_seen : {n n' : ℕ} {p p' : Bytes} {c c' : List ℕ} → n ≡ n' → p ≡ p' → c ≡ c' → ◌≡◌ {A = Seen} (record { number = n; payload = p; counts = c }) (record { number = n'; payload = p'; counts = c' })
same_seen h1 h2 h3 = rw (h1, h2, h3) refl

seen_alike : {s s' : State} {bytes bytes' : Bytes} {a a' : Answer} → Alike s bytes a s' bytes' a' → seen s bytes a ≡ seen s' bytes' a'
unfolding seen
seen_alike r = same_seen r.numbers r.payloads (same_counts _ _ r.states)

mark_kept : (s : State) (bytes : Bytes) → least_buffer (blank_record s bytes) ≡ least_buffer bytes
unfolding least_buffer blank_record blank told
mark_kept s [] = refl
mark_kept s (a ∷ []) = refl
mark_kept s (a ∷ b ∷ bytes) = refl

module _ (s s' : State) (h : sound s ≡ true) (h' : sound s' ≡ true) (e : erase s ≡ erase s') (bytes bytes' : Bytes) (i : IsBytes bytes) (i' : IsBytes bytes') (r : blank_record s bytes ≡ blank_record s' bytes') where
  lent_alike : Alike s bytes (lent s (read_record s bytes)) s' bytes' (lent s' (read_record s' bytes'))
  unfolding blank_payload
  lent_alike =
      let p = lent_erase s h (well_read (Unit {0}) s bytes (λ u. i)) (read_shows s bytes) (record_alike s bytes) in
      let q = lent_erase s' h' (well_read (Unit {0}) s' bytes' (λ u. i')) (read_shows s' bytes') (record_alike s' bytes') in
      let both : lent (erase s) (read_record (erase s) (blank_record s bytes)) ≡ lent (erase s') (read_record (erase s') (blank_record s' bytes')) = rw (e, r) refl in
      record {
        numbers = sym p.same_number ∙ ap (λ (a : Answer). a.number) both ∙ q.same_number;
        payloads = sym p.same_payload ∙ ap (λ (a : Answer). a.payload) both ∙ q.same_payload;
        states = sym p.same_state ∙ ap (λ (a : Answer). a.state) both ∙ q.same_state;
      }

  unsound_alike : Alike s bytes (refusal s unsound_state) s' bytes' (refusal s' unsound_state)
  unfolding refusal blank_payload
  unsound_alike = record { numbers = refl; payloads = nothing_before s (told bytes).2 _ ∙ sym (nothing_before s' (told bytes').2 _); states = e }

  -- the mark is no location
  same_buffer : least_buffer bytes ≡ least_buffer bytes'
  same_buffer = sym (mark_kept s bytes) ∙ ap least_buffer r ∙ mark_kept s' bytes'

  step_alike : (buffer : ℕ) → Alike s bytes (step s bytes buffer) s' bytes' (step s' bytes' buffer)
  unfolding step usable
  step_alike buffer = go (leb (least_buffer bytes) buffer && true) (usable s bytes buffer) (usable s' bytes' buffer) (ap (λ b. leb (least_buffer bytes) buffer && b) h)
      (ap (λ (n : ℕ). leb n buffer && sound s') (sym same_buffer) ∙ ap (λ b. leb (least_buffer bytes) buffer && b) h')
    where
      go : (b c d : Bool) → c ≡ b → d ≡ b → Alike s bytes (elim c [ true ↦ lent s (read_record s bytes) | false ↦ refusal s unsound_state ]) s' bytes' (elim d [ true ↦ lent s' (read_record s' bytes') | false ↦ refusal s' unsound_state ])
      go true c d p q = rw (p, q) lent_alike
      go false c d p q = rw (p, q) unsound_alike

abbrev Job : Type 0
Job = List (Bytes × ℕ)

from_alike : (job job' : Job) → JobOfBytes job → JobOfBytes job' → (s s' : State) → sound s ≡ true → sound s' ≡ true → erase s ≡ erase s' → blank_job s job ≡ blank_job s' job' → blank_log s job ≡ blank_log s' job'
unfolding blank_job blank_log
from_alike [] [] i i' s s' h h' e q = refl
from_alike [] (r ∷ job') i i' s s' h h' e q = never (cc)
from_alike (r ∷ job) [] i i' s s' h h' e q = never (cc)
from_alike ((bytes, buffer) ∷ job) ((bytes', buffer') ∷ job') i i' s s' h h' e q =
    let record_same : blank_record s bytes ≡ blank_record s' bytes' = ap (λ (l : Job). (get_or l 0 ([], 0)).0) q in
    let buffer_same : buffer ≡ buffer' = ap (λ (l : Job). (get_or l 0 ([], 0)).1) q in
    let rest_same : blank_job (step s bytes buffer).state job ≡ blank_job (step s' bytes' buffer').state job' = ap (λ (l : Job). drop 1 l) q in
    let a : Alike s bytes (step s bytes buffer) s' bytes' (step s' bytes' buffer') = subst (λ n. Alike s bytes (step s bytes buffer) s' bytes' (step s' bytes' n)) buffer_same (step_alike s s' h h' e bytes bytes' i.0 i'.0 record_same buffer) in
    rw (seen_alike a, from_alike job job' i.1 i'.1 (step s bytes buffer).state (step s' bytes' buffer').state (sound_kept s bytes buffer i.0 h) (sound_kept s' bytes' buffer' i'.0 h') a.states rest_same) refl

-- the theorem
pub locations_decide_nothing : (job job' : Job) → LocationsDecideNothing job job'
unfolding LocationsDecideNothing
locations_decide_nothing job job' i i' q = from_alike job job' i i' fresh fresh fresh_sound fresh_sound refl q

-- ---- the table at work

-- a join of V0 with u8
join_blanked : blank_record fresh (hex "4a4e 06 02000000 0000 03 03000000 00 02") ≡ hex "4a4e 06 00000000 0000 03 00000000 00 02"
unfolding blank_record told after_mark mark_fields blank expand loc_field tag_fields arity builtin_tparams
join_blanked = refl

-- a reference to `()` where a base type is wanted, then `()` where an integer is wanted: a code 1 is no tag 1
failures_blanked : blank fresh (hex "02 07000000 01 08000000 00 00 09000000 01 0a000000 00 0b000000") (failures ∷ []) ≡ hex "02 00000000 01 00000000 00 00 00000000 01 00000000 00 00000000"
unfolding blank expand loc_field tag_fields
failures_blanked = refl

-- .. of code 4: ability, type and rule, of one byte or of two
abilities_blanked : blank fresh (hex "04 07000000 08 00 08000000 01 04 09000000 01 00 0a000000 02 05 01 0b000000 00 0c000000") (failures ∷ []) ≡ hex "04 00000000 08 00 00000000 01 04 00000000 01 00 00000000 02 05 01 00000000 00 00000000"
unfolding blank expand loc_field tag_fields
abilities_blanked = refl

-- XP: a vector of `!` that was a variable, then its code: a code 5 is no struct's tag
codes_blanked : blank fresh (hex "03 02000000 17 05 08 09000000 05 09000000 05 0a000000") (type ∷ codes ∷ []) ≡ hex "03 00000000 17 05 08 00000000 05 00000000 05 00000000"
unfolding blank expand loc_field tag_fields arity builtin_tparams
codes_blanked = refl
