-- A payload in a buffer, and what stands before it, put there after it. Assumes nothing.
use mathlib.Core.Path.{◌≡◌, sym, ap, ap₂, ◌∙◌}
use mathlib.Core.List.{List, [], ◌++◌, append_assoc, append-nil}
use Prim.Native.Nat.{ℕ, ◌+◌, ◌-◌, ◌≤◌}
use native.Mathlib.Omega.{arith}
use borrow.Rule.Slice.PartMut.{put_mid, same_len_mid}
use lib.ListN.{length, take, drop, length-append, length-drop, drop_of_length-le}
use lib.Seq.{take_at, drop_at, drop-drop, drop-append-add, length-take-le}
use Rattle.std.proofs.lemmas.List.{take_rest}
use Rattle.std.proofs.lemmas.Slice.{take-put_mid_below}
use Rattle.definition.specs.Write.{Bytes}
use Rattle.writer.specs.Bytes.{put, Wrote}

-- the buffer, where what is left of it from place `from` on is `rest`
abbrev pub filled : List ℕ → ℕ → Bytes → List ℕ
filled buf from rest = put_mid from (length buf - from) buf rest

module _ (buf : List ℕ) (at len : ℕ) (rest : Bytes) (room : at + 3 + len ≤ length buf) (same : length rest ≡ length (take (length buf - (at + 3)) (drop (at + 3) buf)))
    (front : rest ≡ take len rest ++ drop len (take (length buf - (at + 3)) (drop (at + 3) buf))) where
  abbrev from : ℕ
  from = at + 3

  left : take (length buf - from) (drop from buf) ≡ drop from buf
  left = take_rest buf from

  long : length rest ≡ length buf - from
  long = same ∙ ap length left ∙ length-drop from buf

  filled_is : filled buf from rest ≡ take from buf ++ rest
  filled_is =
      let none : drop (length buf - from) (drop from buf) ≡ [] = drop_of_length-le (drop from buf) (omega (arith, length-drop from buf)) in
      ap (λ (x : List ℕ). take from buf ++ (rest ++ x)) none ∙ ap (λ (x : List ℕ). take from buf ++ x) (append-nil rest)

  pub filled_size : length (filled buf from rest) ≡ length buf
  filled_size = same_len_mid from (length buf - from) buf rest same

  pub payload_size : length (take len rest) ≡ len
  payload_size = length-take-le len rest (omega (arith, long))

  pub head_wrote : (head buf' : List ℕ) (n : ℕ) → length head ≡ 3 → Wrote (filled buf from rest) at head buf' n → Wrote buf at (head ++ take len rest) buf' (n + len)
  unfolding put
  head_wrote head buf' n h w =
      let begin : take at (filled buf from rest) ≡ take at buf = take-put_mid_below from (length buf - from) buf rest at (omega arith) (omega arith) in
      let behind : drop (at + length head) (filled buf from rest) ≡ rest =
      ap (λ (x : List ℕ). drop (at + length head) x) filled_is ∙ drop_at (take from buf) rest (at + length head) (length-take-le from buf (omega arith) ∙ omega (arith, h)) in
      let size : at + length (head ++ take len rest) ≡ from + len = omega (arith, h, length-append head (take len rest), payload_size) in
      let others : drop len (drop from buf) ≡ drop (at + length (head ++ take len rest)) buf = drop-drop len from buf ∙ ap (λ (k : ℕ). drop k buf) (sym size) in
      let tail : List ℕ = drop (at + length (head ++ take len rest)) buf in
      let all : rest ≡ take len rest ++ tail = front ∙ ap (λ (x : List ℕ). take len rest ++ x) (ap (λ (x : List ℕ). drop len x) left ∙ others) in
      let seen : buf' ≡ (take at buf ++ head) ++ rest = w.is ∙ ap₂ (λ (x y : List ℕ). (x ++ head) ++ y) begin behind in
      record {
        next_is = omega (arith, w.next_is, h, size);
        is =
            seen
            ∙ ap (λ (x : List ℕ). (take at buf ++ head) ++ x) all
            ∙ sym (append_assoc (take at buf ++ head) (take len rest) tail)
            ∙ ap (λ (x : List ℕ). x ++ tail) (append_assoc (take at buf) head (take len rest));
      }

-- what was written in front stays there, and behind it all is as it was
module _ (buf₀ buf buf' : List ℕ) (at : ℕ) (bytes : Bytes) (next : ℕ) (room : at + length bytes ≤ length buf) (rest : buf ≡ take at buf ++ drop at buf₀) (w : Wrote buf at bytes buf' next) where
  size_at : length (take at buf) ≡ at
  size_at = length-take-le at buf (omega arith)

  pub more_front : take next buf' ≡ take at buf ++ bytes
  unfolding put
  more_front =
      let size : length (take at buf ++ bytes) ≡ next = length-append (take at buf) bytes ∙ omega (arith, size_at, w.next_is) in
      ap (λ (x : List ℕ). take next x) w.is ∙ take_at (take at buf ++ bytes) _ next size

  pub more_rest : buf' ≡ take next buf' ++ drop next buf₀
  unfolding put
  more_rest =
      let tail : drop (at + length bytes) buf ≡ drop next buf₀ =
      ap (λ (x : List ℕ). drop (at + length bytes) x) rest
      ∙ ap (λ (k : ℕ). drop (k + length bytes) (take at buf ++ drop at buf₀)) (sym size_at)
      ∙ drop-append-add (take at buf) (drop at buf₀) (length bytes)
      ∙ drop-drop (length bytes) at buf₀ ∙ ap (λ (k : ℕ). drop k buf₀) (sym w.next_is) in
      w.is ∙ ap (λ (x : List ℕ). (take at buf ++ bytes) ++ x) tail ∙ ap (λ (x : List ℕ). x ++ drop next buf₀) (sym more_front)
