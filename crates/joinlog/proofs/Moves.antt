-- Bytes passed, and a buffer's room for the next ones. Assumes nothing.
use mathlib.Core.Path.{◌≡◌, sym, ap, ap₂, ◌∙◌}
use mathlib.Core.Bool.{true}
use mathlib.Core.List.{List, [], ◌∷◌}
use Prim.Native.Nat.{ℕ, zero, suc, ◌+◌, ◌-◌, ◌≤◌, ◌<◌}
use native.Mathlib.Omega.{arith}
use lib.Dec.{ltb, ltb→lt}
use lib.ListN.{length, take, drop, length-drop, length-append}
use lib.Seq.{take-nil, drop-drop, length-take-le}
use Rattle.theorems.proofs.SoundFacts.{and_r, test}
use Rattle.turns.specs.declared.Turn.{Turn}
use Rattle.engine.specs.Public.{in_front}
use Rattle.turns.specs.Filling.{at_hand, short, last_read}

-- bytes that a record may not fill are fewer than the buffer has room for
pub short_few : (t : Turn) → short t ≡ true → t.have - t.from < 4096
short_few t e = ltb→lt (t.have - t.from) 4096 (test (and_r t.more (ltb (t.have - t.from) 4096) e))

drop_take : (r m : ℕ) (l : List ℕ) → drop r (take m l) ≡ take (m - r) (drop r l)
drop_take zero m l = ap (λ (k : ℕ). take k l) (let e : m ≡ m - 0 = omega arith in e)
drop_take (suc r) zero l = sym (ap (λ (k : ℕ). take k (drop (suc r) l)) (let e : 0 - suc r ≡ 0 = omega arith in e))
drop_take (suc r) (suc m) [] = sym (take-nil (suc m - suc r))
drop_take (suc r) (suc m) (x ∷ l) = drop_take r m l ∙ ap (λ (k : ℕ). take k (drop r l)) (let e : m - r ≡ suc m - suc r = omega arith in e)

-- the bytes at hand, without the first n of them
pub passed : (from n have : ℕ) (buf : List ℕ) → at_hand (from + n) have buf ≡ drop n (at_hand from have buf)
passed from n have buf =
    let d : have - (from + n) ≡ (have - from) - n = omega arith in
    sym (drop_take n (have - from) (drop from buf) ∙ ap₂ (λ (k : ℕ) (l : List ℕ). take k l) (sym d) (drop-drop n from buf))

-- what is passed lies within them
pub passed_within : (from n have : ℕ) (buf : List ℕ) → from ≤ have → have ≤ length buf → n ≤ length (at_hand from have buf) → from + n ≤ have
passed_within from n have buf ordered inside few =
    let long : have - from ≤ length (drop from buf) = simp length-drop (omega arith) in
    omega (arith, few, length-take-le (have - from) (drop from buf) long)

-- the bytes at hand are as many as their places say
pub hand_size : (from have : ℕ) (buf : List ℕ) → from ≤ have → have ≤ length buf → length (at_hand from have buf) ≡ have - from
hand_size from have buf ordered inside =
    let long : have - from ≤ length (drop from buf) = simp length-drop (omega arith) in
    length-take-le (have - from) (drop from buf) long

-- .. and so are those read
pub read_size : (t : Turn) (buf : List ℕ) → t.read ≤ t.have → t.have ≤ length buf → length (last_read t buf) ≡ t.read
unfolding last_read
read_size t buf few inside =
    let long : t.read ≤ length (drop (t.have - t.read) buf) = simp length-drop (omega (arith, few, inside)) in
    length-take-le t.read (drop (t.have - t.read) buf) long

-- a text in front of a log leaves it as long
pub front_size : (text log : List ℕ) → length text ≤ length log → length (in_front text log) ≡ length log
unfolding in_front
front_size text log fits = omega (arith, fits, length-append text (drop (length text) log), length-drop (length text) log)
