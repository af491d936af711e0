-- Numbers as digits, and bytes as two digits each: what the libraries write is the definition's. Then a line in its pieces. Assumes nothing.
use mathlib.Core.Path.{◌≡◌, refl, sym, ap, ap₂, ◌∙◌}
use mathlib.Core.Bool.{Bool, true, false}
use mathlib.Core.List.{List, [], ◌∷◌, ◌++◌, map, append_assoc, append-nil}
use Prim.Native.Nat.{ℕ, zero, suc, ◌+◌, ◌-◌, ◌*◌, ◌/◌, ◌%◌, ◌≤◌, ◌<◌}
use native.Mathlib.Omega.{arith}
use borrow.Author.Tests.{lt-ltb, le-ltb, ltb-true, ltb-false}
use borrow.Rule.Slice.PartMut.{put_mid, same_len_mid}
use mir.Syntax.{w8}
use mir.Val.{Fits}
use lib.Dec.{ltb}
use lib.ListN.{length, get_or, take, drop, length-append, length-drop, get_or-append, drop_of_length-le}
use lib.Seq.{drop-drop, drop-cons, drop_at, take-append-le, take-take, get_or-take, length-take-le, take_all}
use Rattle.std.specs.Fmt as fmt
use Rattle.std.specs.List.{range_with_len}
use Rattle.std.proofs.lemmas.List.{take_rest}
use Rattle.std.proofs.lemmas.Fmt.{decimal_by_steps}
use Rattle.std.proofs.lemmas.List.FromFn.{get_or-map-range_with_len}
use Rattle.hex.specs.Hex.{lower_digits, encode_with, encode_lower}
use Rattle.std.specs.Bool.{if◌then◌else◌}
use Rattle.definition.specs.Write.{Bytes, IsBytes}
use Rattle.definition.specs.Job.{digits, decimal, hex_digit, hexadecimal, payload_text, line}
use Rattle.log_lines.specs.Line.{Wrote, line_of, begin_of, end_of}
use Rattle.log_lines.proofs.Writing.{wrote_length, wrote_none, wrote_more, same_behind, written_over, room_front, room_more}

-- ---- digits

-- 10 to the n
unfoldable power : ℕ → ℕ
power zero = 1
power (suc n) = 10 * power n

digits_one : (n x : ℕ) → x < 10 → digits (suc n) x ≡ (48 + x) ∷ []
unfolding digits
digits_one n x h = let m : x % 10 ≡ x = omega arith in rw (lt-ltb x 10 h, m)

digits_next : (n x : ℕ) → 10 ≤ x → digits (suc n) x ≡ digits n (x / 10) ++ ((48 + x % 10) ∷ [])
unfolding digits
digits_next n x h = rw (le-ltb x 10 h)

-- more digits than there are make no difference
digits_more : (n x : ℕ) → x < power (suc n) → digits (suc n) x ≡ digits (suc (suc n)) x
unfolding power
digits_more zero x h = let l : x < 10 = omega arith in digits_one zero x l ∙ sym (digits_one (suc zero) x l)
digits_more (suc n) x h = either (ltb x 10) refl (λ l. digits_more n (x / 10) l)
  where
    either : (b : Bool) → ltb x 10 ≡ b → (x / 10 < power (suc n) → digits (suc n) (x / 10) ≡ digits (suc (suc n)) (x / 10)) → digits (suc (suc n)) x ≡ digits (suc (suc (suc n))) x
    either true e f = let l = ltb-true x 10 e in digits_one (suc n) x l ∙ sym (digits_one (suc (suc n)) x l)
    either false e f =
        let l = ltb-false x 10 e in
        let m : x / 10 < power (suc n) = omega arith in
        digits_next (suc n) x l ∙ ap (λ (d : Bytes). d ++ ((48 + x % 10) ∷ [])) (f m) ∙ sym (digits_next (suc (suc n)) x l)

pub decimal_one : (x : ℕ) → x < 10 → decimal x ≡ (48 + x) ∷ []
unfolding decimal
decimal_one x h = digits_one 19 x h

-- 20 digits are enough for 64 bits
decimal_next : (x : ℕ) → 10 ≤ x → x < 18446744073709551616 → decimal x ≡ decimal (x / 10) ++ ((48 + x % 10) ∷ [])
unfolding decimal power
decimal_next x h b =
    let enough : x / 10 < power 19 = omega arith in
    digits_next 19 x h ∙ ap (λ (d : Bytes). d ++ ((48 + x % 10) ∷ [])) (digits_more 18 (x / 10) enough)

pub decimal_is : (x : ℕ) → x < 18446744073709551616 → fmt.decimal x ≡ decimal x
decimal_is x h = decimal_by_steps (λ (n : ℕ) (ds : Bytes). n < 18446744073709551616 → ds ≡ decimal n) (λ n l b. sym (decimal_one n l)) more x h h
  where
    more : (n : ℕ) (ds : Bytes) → 10 ≤ n → (n / 10 < 18446744073709551616 → ds ≡ decimal (n / 10)) → n < 18446744073709551616 → ds ++ ((48 + n % 10) ∷ []) ≡ decimal n
    more n ds l p b = ap (λ (d : Bytes). d ++ ((48 + n % 10) ∷ [])) (p (omega arith)) ∙ sym (decimal_next n l b)

pub length_hexadecimal : (p : Bytes) → length (hexadecimal p) ≡ 2 * length p
unfolding hexadecimal
length_hexadecimal [] = refl
length_hexadecimal (b ∷ p) = let e = length_hexadecimal p in omega arith

hex_digits : lower_digits ≡ map hex_digit (range_with_len 0 16)
unfolding hex_digit
hex_digits = refl

hex_digit_is : (n : ℕ) → n < 16 → get_or lower_digits n 0 ≡ hex_digit n
hex_digit_is n h = ap (λ (t : Bytes). get_or t n 0) hex_digits ∙ get_or-map-range_with_len hex_digit 0 16 n n 0 h (let e : 0 + n ≡ n = omega arith in e)

pub hex_is : (p : Bytes) → IsBytes p → encode_lower p ≡ hexadecimal p
unfolding hexadecimal encode_with
hex_is [] is = refl
hex_is (b ∷ p) is =
    let byte : b < 256 = is.0 in
    ap₂ (λ (x y : ℕ). x ∷ y ∷ encode_lower p) (hex_digit_is (b / 16) (omega arith)) (hex_digit_is (b % 16) (omega arith))
    ∙ ap (λ (l : Bytes). hex_digit (b / 16) ∷ hex_digit (b % 16) ∷ l) (hex_is p is.1)

-- no byte of a payload is spelled
pub spelled_none : (text : Bytes) (len : ℕ) → length text ≡ 2 * len → text ≡ take (2 * len) text ++ hexadecimal (drop len (take len text))
unfolding hexadecimal
spelled_none text len n =
    let none : drop len (take len text) ≡ [] = drop_of_length-le (take len text) (omega (arith, length-take-le len text (omega arith))) in
    rw (none, append-nil (take (2 * len) text)) (sym (take_all (2 * len) text (omega arith)))

-- one byte more of a payload is spelled, before those that are
pub spelled_more : (text₀ text pair : Bytes) (len k : ℕ) → 0 < k → k ≤ len → length text₀ ≡ 2 * len → text ≡ take (2 * k) text₀ ++ hexadecimal (drop k (take len text₀)) → get_or text (k - 1) 0 < 256
    → pair ≡ encode_lower (get_or text (k - 1) 0 ∷ []) → put_mid (2 * (k - 1)) (2 * (k - 1) + 2 - 2 * (k - 1)) text pair ≡ take (2 * (k - 1)) text₀ ++ hexadecimal (drop (k - 1) (take len text₀))
unfolding hexadecimal
spelled_more text₀ text pair len zero m h n e b q = absurd (omega arith)
spelled_more text₀ text pair len (suc j) m h n e b q =
    let k : suc j - 1 ≡ j = omega arith in
    let two : 2 * j + 2 - 2 * j ≡ 2 = omega arith in
    let p = take len text₀ in
    let rest = hexadecimal (drop (suc j) p) in
    let long : length (take (2 * suc j) text₀) ≡ 2 * suc j = length-take-le (2 * suc j) text₀ (omega arith) in
    let same : get_or text j 0 ≡ get_or p j 0 =
    ap (λ (x : Bytes). get_or x j 0) e ∙ get_or-append (take (2 * suc j) text₀) rest 0 j (omega arith) ∙ get_or-take (2 * suc j) text₀ j 0 (omega arith) ∙ sym (get_or-take len text₀ j 0 (omega arith)) in
    let front : take (2 * j) text ≡ take (2 * j) text₀ = ap (λ (x : Bytes). take (2 * j) x) e ∙ take-append-le (2 * j) (take (2 * suc j) text₀) rest (omega arith) ∙ take-take (2 * j) (2 * suc j) text₀ (omega arith) in
    let back : drop 2 (drop (2 * j) text) ≡ rest = drop-drop 2 (2 * j) text ∙ ap (λ (x : Bytes). drop (2 * j + 2) x) e ∙ drop_at (take (2 * suc j) text₀) rest (2 * j + 2) (omega arith) in
    let spelled : pair ≡ hexadecimal (get_or p j 0 ∷ []) = q ∙ hex_is (get_or text (suc j - 1) 0 ∷ []) (b, tt) ∙ rw (k, same) refl in
    let next : drop j p ≡ get_or p j 0 ∷ drop (suc j) p = drop-cons p j 0 (omega (arith, length-take-le len text₀ (omega arith))) in
    rw (k, two, front, back, next, spelled) refl

pub bytes_of : (l : List ℕ) → ((i : ℕ) → Fits w8 (get_or l i 0)) → IsBytes l
bytes_of [] f = tt
bytes_of (x ∷ l) f = ((f 0).fits, bytes_of l (λ i. f (suc i)))

-- a part of the log, written whole
pub wrote_part : (log : List ℕ) (at k : ℕ) (part bytes : Bytes) → k ≡ length bytes → part ≡ bytes → Wrote log at bytes (put_mid at (at + k - at) log part) (at + k)
wrote_part log at k part bytes n e = let d : at + k - at ≡ k = omega arith in record { next_is = ap (λ (m : ℕ). at + m) n; is = rw (d, e, n) (ap (λ (l : Bytes). take at log ++ (bytes ++ l)) (drop-drop (length bytes) at log) ∙ sym (append_assoc (take at log) bytes _)) }

-- ---- a payload's text

some_payload : (p : Bytes) → 0 < length p → payload_text p ≡ (32 ∷ []) ++ hexadecimal p
unfolding payload_text
some_payload [] h = absurd (omega arith)
some_payload (b ∷ p) h = refl

-- an empty payload has none
pub wrote_no_payload : (log : List ℕ) (at len : ℕ) → len ≡ 0 → Wrote log at (payload_text (take len (drop (at + 1) log))) log at
unfolding payload_text
wrote_no_payload log at len e = rw e (wrote_none log at)

-- the payload stands behind the space; the rest of its room is its text's
module _ (log : List ℕ) (at len : ℕ) (more : 0 < len) (room : at + 1 + 2 * len ≤ length log) {l₁ : List ℕ} {a : ℕ} (w : Wrote log at (32 ∷ []) l₁ a) where
  abbrev payload : Bytes
  payload = take len (drop (at + 1) log)

  long : length payload ≡ len
  long = length-take-le len (drop (at + 1) log) (omega (arith, length-drop (at + 1) log, room))

  pub text_room : a + 2 * len ≤ length l₁
  text_room = omega (arith, room, w.next_is, wrote_length log at (32 ∷ []) l₁ a (omega (arith, room)) w)

  payload_there : take len (take (a + 2 * len - a) (drop a l₁)) ≡ payload
  payload_there =
      let d : a + 2 * len - a ≡ 2 * len = omega arith in
      let none : at + 1 + 0 ≡ at + 1 = omega arith in
      let behind : drop a l₁ ≡ drop (at + 1) log = rw w.next_is (rw none at (same_behind log at (32 ∷ []) l₁ a (omega (arith, room)) w 0)) in
      ap (λ (n : ℕ). take len (take n (drop a l₁))) d ∙ take-take len (2 * len) (drop a l₁) (omega arith) ∙ ap (λ (l : Bytes). take len l) behind

  pub wrote_payload : {part : Bytes} → part ≡ hexadecimal (take len (take (a + 2 * len - a) (drop a l₁))) → Wrote log at (payload_text payload) (put_mid a (a + 2 * len - a) l₁ part) (a + 2 * len)
  wrote_payload {part} e =
      let text : part ≡ hexadecimal payload = e ∙ ap hexadecimal payload_there in
      let size : 2 * len ≡ length (hexadecimal payload) = sym (length_hexadecimal payload ∙ ap (λ (n : ℕ). 2 * n) long) in
      rw (some_payload payload (omega (arith, long, more)))
      (wrote_more log at (32 ∷ []) (hexadecimal payload) l₁ _ a _ (omega (arith, room)) w (wrote_part l₁ a (2 * len) part (hexadecimal payload) size text))

-- ---- a line's end

pub decimal_more : (x : ℕ) → 0 < length (decimal x)
unfolding decimal digits
decimal_more x = omega (arith, length-append (if ltb x 10 then [] else digits 19 (x / 10)) ((48 + x % 10) ∷ []))

payload_size : (p : Bytes) → 2 * length p ≤ length (payload_text p)
unfolding payload_text
payload_size [] = omega arith
payload_size (b ∷ p) = omega (arith, length_hexadecimal (b ∷ p))

pub end_size : (number : ℕ) (p : Bytes) → length (decimal number) + 2 * length p < length (end_of number p)
end_size number p = omega (arith, payload_size p, length-append (decimal number) (payload_text p), length-append (decimal number ++ payload_text p) (10 ∷ []))

module _ (number len : ℕ) (log : List ℕ) (at : ℕ) (one : 0 < len → number < 10) (there : at + 2 + len ≤ length log) (room : at + length (end_of number (take len (drop (at + 2) log))) ≤ length log) where
  abbrev p : Bytes
  p = take len (drop (at + 2) log)

  whole : length p ≡ len
  whole = length-take-le len (drop (at + 2) log) (omega (arith, length-drop (at + 2) log, there))

  front_room : at + length (decimal number ++ payload_text p) ≤ length log
  front_room = room_front at (decimal number ++ payload_text p) (10 ∷ []) log room

  pub number_room : at + length (decimal number) ≤ length log
  number_room = room_front at (decimal number) (payload_text p) log front_room

  module _ {l₁ : List ℕ} {a : ℕ} (w : Wrote log at (decimal number) l₁ a) where
    same_size : length l₁ ≡ length log
    same_size = wrote_length log at (decimal number) l₁ a number_room w

    one_on : 0 < len → a ≡ at + 1
    one_on h = rw w.next_is (ap (λ (l : Bytes). at + length l) (decimal_one number (one h)))

    pub payload_room : a + 1 + 2 * len ≤ length l₁
    payload_room = omega (arith, same_size, whole, room, w.next_is, end_size number p)

    -- it stands where it stood
    payload_same : (b : Bool) → ltb 0 len ≡ b → take len (drop (a + 1) l₁) ≡ p
    payload_same false e = let none : len ≡ 0 = omega (arith, ltb-false 0 len e) in rw none refl
    payload_same true e =
        let h : 0 < len = ltb-true 0 len e in
        let size : at + length (decimal number) ≡ at + 1 = sym w.next_is ∙ one_on h in
        let f : at + 1 + 1 ≡ at + 2 = omega arith in
        ap (λ (l : Bytes). take len l) (rw (one_on h, f) (rw (size, f) at (same_behind log at (decimal number) l₁ a number_room w 1)))

    module _ {l₂ : List ℕ} {b : ℕ} (v : Wrote l₁ a (payload_text (take len (drop (a + 1) l₁))) l₂ b) where
      v' : Wrote l₁ a (payload_text p) l₂ b
      v' = rw (payload_same (ltb 0 len) refl) at v

      wrote_front : Wrote log at (decimal number ++ payload_text p) l₂ b
      wrote_front = wrote_more log at (decimal number) (payload_text p) l₁ l₂ a b number_room w v'

      pub last_room : b + length {A = ℕ} (10 ∷ []) ≤ length l₂
      last_room = room_more log at (decimal number ++ payload_text p) (10 ∷ []) l₂ b room wrote_front

      pub wrote_end : {l₃ : List ℕ} {e : ℕ} → Wrote l₂ b (10 ∷ []) l₃ e → Wrote log at (end_of number p) l₃ e
      wrote_end {l₃} {e} u = wrote_more log at (decimal number ++ payload_text p) (10 ∷ []) l₂ l₃ b e front_room wrote_front u

-- ---- a line

pub line_is : (index number : ℕ) (p : Bytes) → line_of index number p ≡ begin_of index ++ end_of number p
unfolding line
line_is index number p = simp append_assoc

-- the log, when what is left of it from two bytes behind the begin of an answer's number on is `rest`
abbrev pub filled : List ℕ → ℕ → Bytes → List ℕ
filled log at rest = put_mid (at + 2) (length log - (at + 2)) log rest

-- a payload was written in front of it: the line's end covers it
module _ (log : List ℕ) (at len : ℕ) (rest : Bytes) (same : length rest ≡ length (take (length log - (at + 2)) (drop (at + 2) log))) (room : at + 2 + len ≤ length log)
    (front : rest ≡ take len rest ++ drop len (take (length log - (at + 2)) (drop (at + 2) log))) where
  before : take (length log - (at + 2)) (drop (at + 2) log) ≡ drop (at + 2) log
  before = take_rest log (at + 2)

  filled_is : filled log at rest ≡ take (at + 2) log ++ rest
  filled_is =
      let none : drop (length log - (at + 2)) (drop (at + 2) log) ≡ [] = drop_of_length-le (drop (at + 2) log) (omega (arith, length-drop (at + 2) log)) in
      ap (λ (x : List ℕ). take (at + 2) log ++ (rest ++ x)) none ∙ ap (λ (x : List ℕ). take (at + 2) log ++ x) (append-nil rest)

  pub filled_size : length (filled log at rest) ≡ length log
  filled_size = same_len_mid (at + 2) (length log - (at + 2)) log rest same

  pub filled_payload : take len (drop (at + 2) (filled log at rest)) ≡ take len rest
  filled_payload =
      ap (λ (x : List ℕ). take len x) (ap (λ (x : List ℕ). drop (at + 2) x) filled_is ∙ drop_at (take (at + 2) log) rest (at + 2) (length-take-le (at + 2) log (omega (arith, room))))

  long_enough : len ≤ length rest
  long_enough = omega (arith, same, ap length before, length-drop (at + 2) log, room)

  pub wrote_over : (number : ℕ) (log' : List ℕ) (n : ℕ) → at + length (end_of number (take len rest)) ≤ length log
      → Wrote (filled log at rest) at (end_of number (take len (drop (at + 2) (filled log at rest)))) log' n → Wrote log at (end_of number (take len rest)) log' n
  wrote_over number log' n k w =
      let long : length (take len rest) ≡ len = length-take-le len rest long_enough in
      written_over log at (at + 2) len rest (end_of number (take len rest)) (filled log at rest) log' n (omega arith) (omega (arith, end_size number (take len rest), decimal_more number, long)) k long_enough filled_is
      (front ∙ ap (λ (x : List ℕ). take len rest ++ drop len x) before) (rw filled_payload at w)
