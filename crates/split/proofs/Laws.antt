-- The rest of a stream on a sound state and on another. Assumes nothing.
use mathlib.Core.Path.{◌≡◌, refl, sym, ap, ◌∙◌}
use mathlib.Core.Bool.{true, false}
use mathlib.Core.List.{List}
use Prim.Native.Nat.{ℕ, ◌-◌, ◌≤◌}
use native.Mathlib.Omega.{arith}
use lib.ListN.{length, take, drop, length-drop}
use lib.Seq.{take_all}
use Rattle.definition.specs.Write.{Bytes}
use Rattle.definition.specs.Step as step
use Rattle.definition.specs.Step.{step_stream, job_buffer}
use Rattle.theorems.proofs.SoundKept.{trusted}
use Rattle.table.specs.declared.state.State.{State as Table}
use Rattle.sound.specs.Lent.{used_of, decode, lent_sound}
use Rattle.sound.proofs.Tested.{lent_says}
use Rattle.step.specs.Trusted.{held_by, unread}
use Rattle.lent.proofs.Passed.{held_lent}
use Rattle.split.specs.Rest.{rest_of}

pub unsound_rest : (w : List ℕ) (p : List (List ℕ)) (stream : Bytes) → lent_sound w p ≡ false → stream ≡ rest_of w p stream
unfolding rest_of
unsound_rest w p stream h = rw (h, rest_of) refl

pub sound_rest : (w : List ℕ) (p : List (List ℕ)) → lent_sound w p ≡ true → (s : Table) → s.words.now ≡ w → s.used ≡ used_of w → (stream rest : Bytes) → unread (held_by s p) stream ≡ rest → rest ≡ rest_of w p stream
unfolding rest_of unread
sound_rest w p h s n c stream rest e = sym (
    ap {B = Bytes} (λ q. elim q as (λ x. Bytes) [ true ↦ (step_stream (decode w p) stream job_buffer).1 | false ↦ stream ]) h
    ∙ ap (λ (x : step.Answer × Bytes). x.1) (trusted (decode w p) stream (lent_says w p h).is_sound)
    ∙ (rw (held_lent w p h s n c) at e))

-- a part to the end is what is left
pub rest_all : (s : List ℕ) (n : ℕ) → take (length s - n) (drop n s) ≡ drop n s
rest_all s n = let h : length (drop n s) ≤ length s - n = simp length-drop (omega arith) in take_all (length s - n) (drop n s) h
