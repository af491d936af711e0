-- What the call gives, by the main engine's answer of the four marks, and 5 after 15 of any other. Assumes nothing.
use mathlib.Core.Path.{◌≡◌, refl, ap, ◌∙◌}
use mathlib.Core.Bool.{Bool, true, false, ◌&&◌}
use mathlib.Core.List.{List}
use Prim.Native.Nat.{ℕ, ◌≤◌, ◌<◌}
use borrow.Author.Tests.{le-leb, lt-leb}
use lib.Dec.{leb}
use lib.ListN.{length}
use Rattle.definition.specs.Write.{Bytes}
use Rattle.sound.specs.Lent.{lent_sound}
use Rattle.engine.specs.Public.{LentAnswer, lent_step, in_front, GivesAnswer}
use Rattle.engine.proofs.Laws.{short_gives, unsound_gives}
use Rattle.recheck.specs.Check.{is_checked, lent_refused, check_step}
use Rattle.recheck.proofs.Marked.{least_checked}

module _ (w : List ℕ) (p : List (List ℕ)) (bytes buf : Bytes) where
  abbrev room : ℕ
  room = length buf

  abbrev other : Bool → LentAnswer
  other b = elim b as (λ x. LentAnswer) [ true ↦ lent_refused w p 5 | false ↦ lent_refused w p 15 ]

  chosen : (b : Bool) → is_checked bytes ≡ b → check_step w p bytes room ≡ (elim b as (λ x. LentAnswer) [ true ↦ lent_step w p bytes room | false ↦ other (leb 4096 room && lent_sound w p) ])
  unfolding check_step
  chosen b e = ap (λ b. elim b as (λ x. LentAnswer) [ true ↦ lent_step w p bytes room | false ↦ other (leb 4096 room && lent_sound w p) ]) e

  -- the slow engine is the main one, of its four marks
  pub slow_is_main : is_checked bytes ≡ true → check_step w p bytes room ≡ lent_step w p bytes room
  slow_is_main e = chosen true e

  -- .. and any other is 5, after 15
  pub others_are_5 : is_checked bytes ≡ false → check_step w p bytes room ≡ other (leb 4096 room && lent_sound w p)
  others_are_5 e = chosen false e

  abbrev Refuses : ℕ → Type 0
  Refuses n = GivesAnswer (check_step w p bytes room) buf (record { number = n; length = 0 }) w p buf

  gives_refused : (n : ℕ) → GivesAnswer (lent_refused w p n) buf (record { number = n; length = 0 }) w p buf
  unfolding lent_refused in_front
  gives_refused n = record { told = refl; words = refl; params = refl; front = refl; size = refl }

  refused_as : (b : Bool) → leb 4096 room && lent_sound w p ≡ b → is_checked bytes ≡ false → (n : ℕ) → other b ≡ lent_refused w p n → Refuses n
  refused_as b e c n q = rw (others_are_5 c ∙ ap other e ∙ q) (gives_refused n)

  -- the buffer is too short
  pub short_recheck : room < 4096 → Refuses 15
  short_recheck l = go (is_checked bytes) refl
    where
      go : (b : Bool) → is_checked bytes ≡ b → Refuses 15
      go true e = rw (slow_is_main e) (short_gives w p bytes buf (ap (λ (n : ℕ). leb n room) (least_checked bytes e) ∙ lt-leb 4096 room l))
      go false e = refused_as false (ap (λ (b : Bool). b && lent_sound w p) (lt-leb 4096 room l)) e 15 refl

  -- the state is not sound
  pub unsound_recheck : lent_sound w p ≡ false → Refuses 15
  unsound_recheck h = go (is_checked bytes) refl
    where
      no_state : (b : Bool) → b && lent_sound w p ≡ false
      no_state true = h
      no_state false = refl

      go : (b : Bool) → is_checked bytes ≡ b → Refuses 15
      go true e = rw (slow_is_main e) (unsound_gives w p bytes buf h)
      go false e = refused_as false (no_state (leb 4096 room)) e 15 refl

  -- another mark
  pub other_recheck : is_checked bytes ≡ false → 4096 ≤ room → lent_sound w p ≡ true → Refuses 5
  other_recheck e l h = refused_as true (ap (λ (b : Bool). b && lent_sound w p) (le-leb 4096 room l) ∙ h) e 5 refl
