-- Record after record: what was counted, and what is counted from here on. Assumes nothing.
use mathlib.Core.Path.{◌≡◌, refl, sym, ap, ap₂, ◌∙◌}
use mathlib.Core.List.{List}
use mathlib.Core.Bool.{Bool, true, false, ◌&&◌}
use Prim.Native.Nat.{ℕ, suc, ◌+◌, ◌-◌, ◌≤◌, ◌<◌}
use native.Mathlib.Omega.{arith}
use lib.ListN.{length, take, length-take}
use Rattle.std.specs.Prelude.{Decides}
use Rattle.engine.specs.Public.{LentAnswer, lent_step}
use Rattle.recheck.specs.Check.{is_checked, check_step}
use Rattle.split.specs.Rest.{rest_of}
use Rattle.checklog.specs.declared.compare.Tally.{Tally}
use Rattle.checklog.specs.Checked.{Leaves, head, Counted, over, by_both, by_one, Checked, Going}

and_true : (b : Bool) → (b && true) ≡ b
and_true true = refl
and_true false = refl

and_of : (a b c : Bool) → (a && (b && c)) ≡ ((a && b) && c)
and_of true b c = refl
and_of false b c = refl

counted_as : {w : List ℕ} {rows : List (List ℕ)} {stream : List ℕ} {n m : ℕ} {b c : Bool} → n ≡ m → b ≡ c → Counted w rows stream n b → Counted w rows stream m c
counted_as en eb k = rw (en, eb) at k

-- a record has a byte
pub shorter : (n : ℕ) (rest : List ℕ) → 0 < length (take (length rest - n) rest) → n < length rest
shorter n rest some = omega (arith, some, length-take (length rest - n) rest)

pub none_left : (w : List ℕ) (rows : List (List ℕ)) (rest : List ℕ) → length rest ≡ 0 → length (head w rows rest) ≡ 0
none_left w rows rest e = omega (arith, e, length-take (length rest - length (rest_of w rows rest)) rest)

pub going_first : (w : List ℕ) (rows : List (List ℕ)) (stream payload : List ℕ) → length w ≡ 24069 → length payload ≡ 61485
    → Going w rows stream w rows payload stream (record { many = 0; same = true }) 0
going_first w rows stream payload e p = record { size = e; room = p; few = omega arith; left = omega arith; on = λ m c k. counted_as (omega arith) refl k }

module _ {w₀ : List ℕ} {rows₀ : List (List ℕ)} {stream w : List ℕ} {rows : List (List ℕ)} {payload rest : List ℕ} {t : Tally} {i : ℕ} (g : Going w₀ rows₀ stream w rows payload rest t i) where
  pub going_over : length (head w rows rest) ≡ 0 → Checked w₀ rows₀ stream t
  going_over e = counted_as (omega arith) (and_true t.same) (g.on 0 true (over e))

  module _ (after record' w' : List ℕ) (rows' : List (List ℕ)) (is : after ≡ rest_of w rows rest) (at_head : record' ≡ head w rows rest) (size : length w' ≡ 24069) (shorter : length after < length rest) where
    pub going_both : (one : Bool) → is_checked record' ≡ true → Decides one (lent_step w rows record' 4096 ≡ check_step w rows record' 4096)
        → Leaves (lent_step w rows record' 4096) w' rows' → Going w₀ rows₀ stream w' rows' payload after (record { many = t.many + 1; same = t.same && one }) (i + 1)
    going_both one e d l = record {
      size = size;
      room = g.room;
      few = omega (arith, g.few);
      left = omega (arith, g.left, shorter);
      on = λ m c k.
          let k' = rw (l.words, l.params, is, at_head) at k in
          counted_as (omega arith) (and_of t.same one c) (g.on (suc m) (one && c) (by_both one (rw at_head at e) (rw at_head at d) k'));
    }

    pub going_one : (payload' : List ℕ) → length payload' ≡ 61485 → is_checked record' ≡ false → Leaves (lent_step w rows record' 61485) w' rows' → Going w₀ rows₀ stream w' rows' payload' after t (i + 1)
    going_one payload' room e l = record {
      size = size;
      room = room;
      few = omega (arith, g.few);
      left = omega (arith, g.left, shorter);
      on = λ m c k. let k' = rw (l.words, l.params, is, at_head) at k in g.on m c (by_one (rw at_head at e) k');
    }
