-- Payloads in the buffer, and their lengths. Assumes nothing.
use mathlib.Core.Path.{◌≡◌, refl, sym, ap, ◌∙◌}
use mathlib.Core.List.{List, [], ◌++◌, append-nil}
use Rattle.std.specs.Prelude.{Option, None, Some}
use Prim.Native.Nat.{ℕ, ◌+◌, ◌<◌, ◌≤◌}
use native.Mathlib.Omega.{arith}
use native.Mathlib.Nat.{zero-add}
use lib.ListN.{length, take, drop, length-append}
use lib.Seq.{take_at}
use Rattle.definition.specs.Types as d
use Rattle.definition.specs.Types.{State}
use Rattle.definition.specs.Write.{Bytes, u16, u32, head, write}
use Rattle.definition.specs.Step.{behind}
use Rattle.payload.specs.Payload.{shown, tail_bytes, Paid}
use Rattle.payload.specs.declared.Show.{Show}
use Rattle.payload.specs.declared.Show.TheVariants.{Node, Two}
use Rattle.writer.specs.Bytes.{put, Wrote}
use Rattle.writer.proofs.Put.{put_put, put_nothing, length_put}

-- ---- bytes from the front

wrote_is : (buf : List ℕ) (bytes : Bytes) (buf' : List ℕ) (n : ℕ) → Wrote buf 0 bytes buf' n → buf' ≡ bytes ++ drop n buf
unfolding put
wrote_is buf bytes buf' n w = let e : n ≡ length bytes = w.next_is ∙ zero-add (length bytes) in rw e (w.is ∙ rw (zero-add (length bytes)))

pub wrote_payload : (buf : List ℕ) (bytes : Bytes) (buf' : List ℕ) (n : ℕ) → Wrote buf 0 bytes buf' n → take n buf' ≡ bytes
wrote_payload buf bytes buf' n w =
    let e : length bytes ≡ n = sym (w.next_is ∙ zero-add (length bytes)) in
    ap (λ (l : List ℕ). take n l) (wrote_is buf bytes buf' n w) ∙ take_at bytes (drop n buf) n e

pub wrote_rest : (buf : List ℕ) (bytes : Bytes) (buf' : List ℕ) (n : ℕ) → Wrote buf 0 bytes buf' n → buf' ≡ take n buf' ++ drop n buf
wrote_rest buf bytes buf' n w = rw (wrote_payload buf bytes buf' n w) (wrote_is buf bytes buf' n w)

pub wrote_few : (buf : List ℕ) (bytes : Bytes) (buf' : List ℕ) (n : ℕ) → Wrote buf 0 bytes buf' n → length bytes ≤ 4096 → n ≤ 4096
wrote_few buf bytes buf' n w h = let e = w.next_is in omega arith

pub wrote_none : (buf : List ℕ) (n : ℕ) → n ≤ length buf → Wrote buf n [] buf n
wrote_none buf n h = record { next_is = omega arith; is = put_nothing buf n h }

pub wrote_nothing : (buf : List ℕ) → Wrote buf 0 [] buf 0
wrote_nothing buf = wrote_none buf 0 (omega arith)

-- two types, the second after the first
pub wrote_two : (buf : List ℕ) (a b : Bytes) (buf₁ buf₂ : List ℕ) (m n : ℕ) → length (a ++ b) ≤ length buf → Wrote buf 0 a buf₁ m → Wrote buf₁ m b buf₂ n → Wrote buf 0 (a ++ b) buf₂ n
wrote_two buf a b buf₁ buf₂ m n h v w =
    let k = length-append a b in
    let e : m ≡ 0 + length a = v.next_is in
    let f = w.next_is in
    record {
      next_is = omega arith;
      is = w.is ∙ rw (v.is, e) (put_put buf 0 a b (omega arith));
    }

pub two_room : (buf : List ℕ) (a b : Bytes) (buf₁ : List ℕ) (m : ℕ) → length (a ++ b) ≤ length buf → Wrote buf 0 a buf₁ m → m + length b ≤ length buf₁
two_room buf a b buf₁ m h v =
    let k = length-append a b in
    let e = v.next_is in
    let l : length buf₁ ≡ length buf = ap length v.is ∙ length_put buf 0 a (omega arith) in
    omega arith

pub first_room : (a b : Bytes) (n : ℕ) → length (a ++ b) ≤ n → length a ≤ n
first_room a b n h = let k = length-append a b in omega arith

-- ---- the tail

behind_is : (tail : Option ℕ) (p : Bytes) → behind (tail_bytes tail) p ≡ p ++ tail_bytes tail
unfolding behind u32
behind_is None p = sym (append-nil p)
behind_is (Some n) p = refl

pub tail_few : (tail : Option ℕ) → length (tail_bytes tail) ≤ 4
unfolding u32
tail_few None = omega arith
tail_few (Some n) = omega arith

module _ (tail : Option ℕ) (p : Bytes) where
  behind_length : length (behind (tail_bytes tail) p) ≡ length p + length (tail_bytes tail)
  behind_length = ap length (behind_is tail p) ∙ length-append p (tail_bytes tail)

  module _ (most : ℕ) (is : most + length (tail_bytes tail) ≡ 4096) where
    -- it is too long
    pub unpaid : (buf : List ℕ) {r : Option ℕ} → most < length p → r ≡ None → Paid (behind (tail_bytes tail) p) buf buf r
    unpaid buf h e = rw e (omega (arith, h, is, behind_length), refl)

    module _ {buf buf₁ : List ℕ} {m : ℕ} (long : 4096 ≤ length buf) (h : length p ≤ most) (v : Wrote buf 0 p buf₁ m) where
      pub tail_room : m + length (tail_bytes tail) ≤ length buf₁
      tail_room = two_room buf p (tail_bytes tail) buf₁ m (omega (arith, length-append p (tail_bytes tail), h, is, long)) v

      pub paid : {buf₂ : List ℕ} {n : ℕ} → Wrote buf₁ m (tail_bytes tail) buf₂ n → Paid (behind (tail_bytes tail) p) buf buf₂ (Some n)
      paid {buf₂} {n} w = (omega (arith, h, is, behind_length), rw (behind_is tail p) (wrote_two buf p (tail_bytes tail) buf₁ buf₂ m n (omega (arith, length-append p (tail_bytes tail), h, is, long)) v w))

-- ---- four numbers, one after the other
module _ (buf : List ℕ) (fits : 4096 ≤ length buf) (a b c e : ℕ) where
  pub wrote_four : (buf₁ buf₂ buf₃ buf₄ : List ℕ) (k l m n : ℕ) → Wrote buf 0 (u32 a) buf₁ k → Wrote buf₁ k (u32 b) buf₂ l → Wrote buf₂ l (u32 c) buf₃ m → Wrote buf₃ m (u32 e) buf₄ n
      → Wrote buf 0 (u32 a ++ u32 b ++ u32 c ++ u32 e) buf₄ n
  unfolding u32
  wrote_four buf₁ buf₂ buf₃ buf₄ k l m n p q r t =
      wrote_two buf (u32 a ++ u32 b ++ u32 c) (u32 e) _ _ _ _ (omega arith) (wrote_two buf (u32 a ++ u32 b) (u32 c) _ _ _ _ (omega arith) (wrote_two buf (u32 a) (u32 b) _ _ _ _ (omega arith) p q) r) t

-- ---- lengths

pub length_variable : (loc v : ℕ) → length (head loc (d.Var v)) ≡ 7
unfolding head u32 u16
length_variable loc v = refl

pub length_anything : (loc : ℕ) → length (head loc d.Anything) ≡ 5
unfolding head u32
length_anything loc = refl

pub types_fit : (show : Show) (t a b : ℕ) (s : State) → show ≡ Two a b → length (shown show t s) ≤ 4096 → length (write s a ++ write s b) ≤ 4096
unfolding shown
types_fit show t a b s e h = rw e at h

pub node_fits : (show : Show) (t : ℕ) (s : State) → show ≡ Node → length (shown show t s) ≤ 4096 → length (write s t) ≤ 4096
unfolding shown
node_fits show t s e h = rw e at h

pub length_location : (loc : ℕ) → length (u32 loc) ≡ 4
unfolding u32
length_location loc = refl
