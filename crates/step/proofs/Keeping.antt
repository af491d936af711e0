-- A record leaves a sound state sound; what a sound state's declarations and saved variables are. Assumes nothing.
use mathlib.Core.Path.{◌≡◌, refl, sym, ap, ◌∙◌}
use mathlib.Core.Bool.{Bool, true, false, ◌&&◌}
use mathlib.Core.List.{List, [], ◌∷◌}
use Prim.Native.Nat.{ℕ, zero, suc, ◌+◌, ◌*◌, ◌/◌, ◌%◌, ◌≤◌, ◌<◌}
use native.Mathlib.Nat.{div-add-mod', mod-lt}
use native.Mathlib.Omega.{arith}
use native.Mathlib.Decide.{dec_lt}
use lib.Dec.{leb, leb→le}
use lib.ListN.{length, get_or, drop, length-append, get_or-append, get_or-eq_default}
use Rattle.definition.specs.Types.{State, Struct, Cell}
use Rattle.definition.specs.Write.{Bytes, IsBytes}
use Rattle.definition.specs.Record.{read_record}
use Rattle.definition.specs.Sound.{sound, struct_allowed}
use Rattle.definition.specs.Trees.{is_set}
use Rattle.definition.specs.Step as step
use Rattle.definition.specs.Step.{least_buffer, lent, usable, job_buffer}
use Rattle.theorems.proofs.DemandOrder.{All}
use Rattle.theorems.proofs.SoundFacts.{and_l, and_r, test}
use Rattle.theorems.proofs.SoundRanges.{StructIn}
use Rattle.theorems.proofs.SoundKept.{ranges_of, sound_kept, stream_sound_kept, usable_enough, trusted}
use Rattle.table.specs.Rows.{row, entries, Clean, var_table, struct_table}
use Rattle.table.specs.State.{view, Lay, Front, Declares}
use Rattle.table.specs.Did.{tables}
use Rattle.table.specs.declared.Used.{Used}
use Rattle.table.specs.declared.state.State.{State as Table}
use Rattle.table.proofs.Rows.{length_entries, row_word}
use Rattle.table.proofs.Steps.{front_is}
use Rattle.snapshot.specs.Snap.{Saved}
use Rattle.answer.specs.Ran.{Still}
use Rattle.heads.specs.Fields.{Arities}
use Rattle.step.specs.Trusted.{answered}
use Rattle.step.proofs.Rows.{none}

pub bytes_after : (n : ℕ) (l : Bytes) → IsBytes l → IsBytes (drop n l)
bytes_after zero l h = h
bytes_after (suc n) [] h = tt
bytes_after (suc n) (b ∷ l) h = bytes_after n l h.1

pub answered_sound : (whole : Bool) (s : State) (bytes : Bytes) → IsBytes bytes → sound s ≡ true → sound (answered whole s bytes).state ≡ true
unfolding answered step.step
answered_sound true s bytes is h =
    let most : ℕ = least_buffer bytes in
    let t : usable s bytes most ≡ true = usable_enough s bytes most (omega arith) h in
    let e : step.step s bytes most ≡ lent s (read_record s bytes) = rw (t, step.step) refl in
    rw e at (sound_kept s bytes most is h)
answered_sound false s bytes is h = rw (trusted s bytes h) at (stream_sound_kept s bytes job_buffer is h).0

-- ---- declarations

short : (l : List Struct) → All StructIn l → (i : ℕ) → length (get_or l i none).params ≤ 8
unfolding struct_allowed
short [] h i = omega arith
short (d ∷ l) h zero = leb→le (length d.params) 8 (test (and_r (is_set d.abilities) _ (and_l (is_set d.abilities && leb (length d.params) 8) _ h.0.struct_in)))
short (d ∷ l) h (suc i) = short l h.1 i

pub sound_arities : (s : State) → sound s ≡ true → Arities s.structs
unfolding Arities
sound_arities s h i = short s.structs (ranges_of s h).structs_in i

pub view_arities : (w : List ℕ) (u : Used) (ds : List Struct) → Declares w u ds → Arities ds → Arities (view w u).structs
unfolding Arities view
view_arities w u ds d a i = by (dec_lt i u.structs)
  where
    by : Dec (i < u.structs) → length (get_or (view w u).structs i none).params ≤ 8
    by (yes p) = omega (arith, d.params i p, a i)
    by (no p) = rw (get_or-eq_default (view w u).structs none {n = i} (omega (arith, length_entries struct_table w u.structs))) (omega arith)

-- ---- the saved variables

-- as long as they stay in front
module _ (w₀ : List ℕ) (before : Used) (w : List ℕ) (u : Used) (a : Lay w₀ before) (b : Lay w u) (front : Front (view w₀ before).vars (view w u).vars) where
  as_many : before.vars ≤ u.vars
  unfolding view
  as_many = omega (arith, length_entries var_table w u.vars, length_entries var_table w₀ before.vars, ap length front.is, length-append (entries var_table w₀ before.vars) front.rest)

  same_row : (i : ℕ) → i < before.vars → row var_table w i ≡ row var_table w₀ i
  unfolding Clean view
  same_row i lt =
      let l : i < 1024 = omega (arith, a.vars) in
      b.clean_vars i l
      ∙ ap (λ (l : List Cell). var_table.write (get_or l i var_table.blank)) front.is
      ∙ ap var_table.write (get_or-append (entries var_table w₀ before.vars) front.rest var_table.blank i (rw (length_entries var_table w₀ before.vars) lt))
      ∙ sym (a.clean_vars i l)

  same_word : (i k : ℕ) → i < before.vars → k < 5 → get_or w (16389 + i * 5 + k) 0 ≡ get_or w₀ (16389 + i * 5 + k) 0
  same_word i k lt h = sym (row_word var_table w i k h) ∙ ap (λ (l : List ℕ). get_or l k 0) (same_row i lt) ∙ row_word var_table w₀ i k h

  pub partly_still : (saved : List ℕ) → Saved w₀ before saved → (k : ℕ) → k < before.vars * 5 → get_or saved k 0 ≡ get_or w (16389 + k) 0
  partly_still saved h k lt = h.word k lt ∙ sym (at k lt)
    where
      at : (k : ℕ) → k < before.vars * 5 → get_or w (16389 + k) 0 ≡ get_or w₀ (16389 + k) 0
      at k lt =
          let e : k / 5 * 5 + k % 5 ≡ k = div-add-mod' k 5 in
          let f : 16389 + k / 5 * 5 + k % 5 ≡ 16389 + k = omega arith in
          let g = same_word (k / 5) (k % 5) (omega arith) (mod-lt k (omega arith)) in
          rw f at g

-- as long as none is bound or taken
pub saved_still : (w₀ : List ℕ) (before : Used) (s : Table) → Lay w₀ before → (tables s).vars ≡ (view w₀ before).vars → (saved : List ℕ) → Saved w₀ before saved → Still s.words.now s.used before saved
unfolding view
saved_still w₀ before s a same saved h =
    let w : List ℕ = s.words.now in
    let many : s.used.vars ≡ before.vars = sym (length_entries var_table w s.used.vars) ∙ ap length same ∙ length_entries var_table w₀ before.vars in
    record { many = many; rows = record { word = rw many (partly_still w₀ before w s.used a s.lay (front_is _ _ same) saved h) } }
