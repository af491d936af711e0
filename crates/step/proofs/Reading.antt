-- What a record at the head of these bytes is answered with, by what reading and placing it came to. Assumes nothing.
use mathlib.Core.Path.{◌≡◌, refl, sym, ap, ◌∙◌}
use mathlib.Core.Bool.{Bool, true, false, ◌&&◌}
use mathlib.Core.List.{[], ◌∷◌}
use Prim.Native.Nat.{ℕ, ◌≤◌, ◌<◌}
use native.Mathlib.Omega.{arith}
use borrow.Author.Tests.{ltb-true, ltb-false}
use lib.Dec.{ltb}
use lib.ListN.{length, drop, length-drop}
use Rattle.std.specs.Prelude.{if◌then◌else◌}
use Rattle.definition.specs.Types.{State, Refusal, malformed, Result}
use Rattle.definition.specs.Write.{Bytes}
use Rattle.definition.specs.Reader.{Read, got, not_read}
use Rattle.definition.specs.Record.{Record, read_record}
use Rattle.definition.specs.Step.{reply, refusal, lent, streamed}
use Rattle.reader.specs.Taken.{stopped, placed, place_read}
use Rattle.fields.specs.Noded.{Noded, place_record}
use Rattle.step.specs.Trusted.{answered, unread}

-- ---- from what was placed to what was read

pub stop_is : (r : Read Record) (x : Refusal) (s : State) → stopped x ≡ place_read false place_record r s → r ≡ not_read x
unfolding place_read
stop_is (got a l) x s e = absurd (let z : ◌≡◌ {A = ℕ} 0 1 = cc in omega arith)
stop_is (not_read y) x s e = cc

pub record Got (r : Read Record) (q : Result (State × Noded)) (l : Bytes) (s : State) : Type 0 where
  pub what : Record
  pub read : r ≡ got what l
  pub placed : place_record what s ≡ q

pub got_is : (r : Read Record) (q : Result (State × Noded)) (l : Bytes) (s : State) → placed q l ≡ place_read false place_record r s → Got r q l s
unfolding place_read
got_is (got a m) q l s e = record { what = a; read = cc; placed = cc }
got_is (not_read y) q l s e = absurd (let z : ◌≡◌ {A = ℕ} 0 1 = cc in omega arith)

-- ---- the answer

module _ (whole : Bool) (s : State) (bytes : Bytes) where
  pub answered_not : (x : Refusal) → read_record s bytes ≡ not_read x → answered whole s bytes ≡ refusal s x
  unfolding answered lent streamed
  answered_not x e = go whole
    where
      go : (b : Bool) → answered b s bytes ≡ refusal s x
      go true = ap (λ (r : Read Record). lent s r) e
      go false = ap (λ (r : Read Record). (streamed s bytes r).0) e

  pub unread_not : (x : Refusal) → read_record s bytes ≡ not_read x → unread s bytes ≡ bytes
  unfolding unread streamed
  unread_not x e = ap (λ (r : Read Record). (streamed s bytes r).1) e

  pub unread_got : (x : Record) (l : Bytes) → read_record s bytes ≡ got x l → unread s bytes ≡ l
  unfolding unread streamed
  unread_got x l e = ap (λ (r : Read Record). (streamed s bytes r).1) e

  -- bytes left over are 5, where the record is all that is lent
  pub answered_got : (x : Record) (stream : Bytes) (next : ℕ) → read_record s bytes ≡ got x (drop next stream) → (over : Bool) → over ≡ whole && ltb next (length stream)
      → answered whole s bytes ≡ (if over then refusal s malformed else reply s x)
  unfolding answered lent streamed
  answered_got x stream next e over o = go whole o
    where
      lent_is : (l : Bytes) (b : Bool) → (b ≡ true → 0 < length l) → (b ≡ false → length l ≤ 0) → lent s (got x l) ≡ (if b then refusal s malformed else reply s x)
      lent_is [] true f g = absurd (omega (arith, f refl))
      lent_is [] false f g = refl
      lent_is (y ∷ l) true f g = refl
      lent_is (y ∷ l) false f g = absurd (omega (arith, g refl))

      go : (b : Bool) → over ≡ b && ltb next (length stream) → answered b s bytes ≡ (if over then refusal s malformed else reply s x)
      go true o =
          ap (λ (r : Read Record). lent s r) e
          ∙ lent_is (drop next stream) over (λ t. simp length-drop (omega (arith, ltb-true next (length stream) (sym o ∙ t)))) (λ t. simp length-drop (omega (arith, ltb-false next (length stream) (sym o ∙ t))))
      go false o = ap (λ (r : Read Record). (streamed s bytes r).0) e ∙ sym (ap (λ (b : Bool). if b then refusal s malformed else reply s x) o)
