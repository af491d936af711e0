-- Bytes put one after the other. Assumes nothing.
use mathlib.Core.Path.{◌≡◌, refl, sym, ap, ◌∙◌}
use mathlib.Core.List.{List, [], ◌∷◌, ◌++◌, append_assoc, append-nil}
use Prim.Native.Nat.{ℕ, ◌+◌, ◌-◌, ◌≤◌, ◌<◌}
use native.Mathlib.Omega.{arith}
use native.Mathlib.Nat.{add-zero}
use native.Mathlib.Numerals.{add-one}
use lib.ListN.{length, set, take, drop, length-append, length-drop, take-append-drop}
use lib.Seq.{take_at, take-append-le, take-take, drop-drop, drop-append-add, length-take-le, set_split, append_snoc}
use Rattle.definition.specs.Write.{Bytes}
use Rattle.log_lines.specs.Line.{Wrote}

pub wrote_length : (l : List ℕ) (at : ℕ) (bytes : Bytes) (l' : List ℕ) (n : ℕ) → at + length bytes ≤ length l → Wrote l at bytes l' n → length l' ≡ length l
wrote_length l at bytes l' n h w = rw w.is (simp (length-append, length-drop, length-take-le at l (omega arith)) (omega arith))

pub wrote_none : (l : List ℕ) (at : ℕ) → Wrote l at [] l at
wrote_none l at = record { next_is = sym (add-zero at); is = sym (rw (add-zero at, append-nil (take at l)) (take-append-drop at l)) }

pub wrote_one : (l : List ℕ) (at b : ℕ) → at < length l → Wrote l at (b ∷ []) (set l at b) (at + 1)
wrote_one l at b h = record { next_is = refl; is = set_split l at b h ∙ sym (rw (append_snoc, add-one at)) }

-- two runs of bytes, the second right after the first
pub wrote_more : (l : List ℕ) (at : ℕ) (a b : Bytes) (l' l'' : List ℕ) (m n : ℕ) → at + length a ≤ length l → Wrote l at a l' m → Wrote l' m b l'' n → Wrote l at (a ++ b) l'' n
wrote_more l at a b l' l'' m n h v w =
    let e = w.next_is in
    let f = v.next_is in
    let k : at + length a + length b ≡ at + length (a ++ b) = simp length-append (omega arith) in
    let long : length (take at l ++ a) ≡ at + length a = simp (length-append, length-take-le at l (omega arith)) in
    let t : take (at + length a) (take at l ++ a ++ drop (at + length a) l) ≡ take at l ++ a = take_at (take at l ++ a) _ _ long in
    let d : drop (at + length a + length b) (take at l ++ a ++ drop (at + length a) l) ≡ drop (at + length (a ++ b)) l =
    ap (λ (k : ℕ). drop (k + length b) (take at l ++ a ++ drop (at + length a) l)) (sym long)
    ∙ drop-append-add (take at l ++ a) (drop (at + length a) l) (length b)
    ∙ drop-drop (length b) (at + length a) l
    ∙ ap (λ (k : ℕ). drop k l) k
    in
    record {
      next_is = omega arith;
      is = w.is ∙ rw (v.is, f, t, d) (ap (λ (x : List ℕ). x ++ drop (at + length (a ++ b)) l) (append_assoc (take at l) a b));
    }

-- room for both is room for the first
pub room_front : (at : ℕ) (a b : Bytes) (l : List ℕ) → at + length (a ++ b) ≤ length l → at + length a ≤ length l
room_front at a b l h = let e = length-append a b in omega arith

-- .. and for the second after it
pub room_more : (l : List ℕ) (at : ℕ) (a b : Bytes) (l' : List ℕ) (m : ℕ) → at + length (a ++ b) ≤ length l → Wrote l at a l' m → m + length b ≤ length l'
room_more l at a b l' m h w =
    let e = length-append a b in
    let f = w.next_is in
    let k : length l' ≡ length l = wrote_length l at a l' m (omega arith) w in
    omega arith

-- what stands behind is as it was
pub same_behind : (l : List ℕ) (at : ℕ) (bytes : Bytes) (l' : List ℕ) (n : ℕ) → at + length bytes ≤ length l → Wrote l at bytes l' n → (j : ℕ) → drop (at + length bytes + j) l' ≡ drop (at + length bytes + j) l
same_behind l at bytes l' n h w j =
    let long : length (take at l ++ bytes) ≡ at + length bytes = length-append (take at l) bytes ∙ ap (λ (k : ℕ). k + length bytes) (length-take-le at l (omega arith)) in
    ap (λ (x : List ℕ). drop (at + length bytes + j) x) w.is
    ∙ ap (λ (k : ℕ). drop (k + j) ((take at l ++ bytes) ++ drop (at + length bytes) l)) (sym long)
    ∙ drop-append-add (take at l ++ bytes) (drop (at + length bytes) l) j
    ∙ drop-drop j (at + length bytes) l

-- bytes put over the first `len` of those that were written from k on: as if those had never been written
pub written_over : (log : List ℕ) (n k len : ℕ) (buf : List ℕ) (text : Bytes) (log₁ log₂ : List ℕ) (n' : ℕ) → n ≤ k → k + len ≤ n + length text → n + length text ≤ length log → len ≤ length buf
    → log₁ ≡ take k log ++ buf → buf ≡ take len buf ++ drop len (drop k log) → Wrote log₁ n text log₂ n' → Wrote log n text log₂ n'
written_over log n k len buf text log₁ log₂ n' a b c d e f w =
    let long : length (take k log) ≡ k = length-take-le k log (omega arith) in
    let front : take n log₁ ≡ take n log = ap (λ (x : List ℕ). take n x) e ∙ take-append-le n (take k log) buf (omega arith) ∙ take-take n k log a in
    let p : List ℕ = take k log ++ take len buf in
    let p_long : length p ≡ k + len = omega (arith, length-append (take k log) (take len buf), long, length-take-le len buf d) in
    let whole : log₁ ≡ p ++ drop (k + len) log =
    e ∙ ap (λ (x : List ℕ). take k log ++ x) (f ∙ ap (λ (x : List ℕ). take len buf ++ x) (drop-drop len k log)) ∙ sym (append_assoc (take k log) (take len buf) (drop (k + len) log))
    in
    let m : ℕ = n + length text - (k + len) in
    let m_is : length p + m ≡ n + length text = omega arith in
    let m_is' : k + len + m ≡ n + length text = omega arith in
    let back : drop (n + length text) log₁ ≡ drop (n + length text) log =
    ap (λ (x : List ℕ). drop (n + length text) x) whole
    ∙ ap (λ (x : ℕ). drop x (p ++ drop (k + len) log)) (sym m_is)
    ∙ drop-append-add p (drop (k + len) log) m
    ∙ drop-drop m (k + len) log
    ∙ ap (λ (x : ℕ). drop x log) m_is'
    in
    record { next_is = w.next_is; is = w.is ∙ rw (front, back) refl }
