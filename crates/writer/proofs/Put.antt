-- Bytes put one after the other. Assumes nothing.
-- By lists cut where the bytes are put: what stands before and after is kept, and the lengths add up.
use mathlib.Core.Path.{◌≡◌, refl, sym, ap, ◌∙◌, subst}
use mathlib.Core.List.{List, [], ◌++◌, append_assoc, append-nil}
use Prim.Native.Nat.{ℕ, ◌+◌, ◌-◌, ◌≤◌}
use native.Mathlib.Omega.{arith}
use native.Mathlib.Nat.{add-zero}
use lib.ListN.{length, take, drop, length-append, length-drop, take-append-drop}
use lib.Seq.{take_all, take_at, drop-drop, drop-append-add, length-take-le}
use borrow.Rule.Slice.PartMut.{put_mid}
use Rattle.std.proofs.lemmas.Slice.{put_mid-paste}
use Rattle.definition.specs.Write.{Bytes}
use Rattle.writer.specs.Bytes.{put, Wrote}

pub length_put : (buf : List ℕ) (at : ℕ) (bytes : Bytes) → at + length bytes ≤ length buf → length (put buf at bytes) ≡ length buf
unfolding put
length_put buf at bytes h = simp (length-append, length-drop, length-take-le at buf (omega arith)) (omega arith)

-- two runs of bytes, the second right after the first
pub put_put : (buf : List ℕ) (at : ℕ) (a b : Bytes) → at + length a ≤ length buf → put (put buf at a) (at + length a) b ≡ put buf at (a ++ b)
unfolding put
put_put buf at a b h =
    let n : length (take at buf ++ a) ≡ at + length a = simp (length-append, length-take-le at buf (omega arith)) in
    let t : take (at + length a) (take at buf ++ a ++ drop (at + length a) buf) ≡ take at buf ++ a = take_at (take at buf ++ a) _ _ n in
    let k : at + length a + length b ≡ at + length (a ++ b) = simp length-append (omega arith) in
    let d : drop (at + length a + length b) (take at buf ++ a ++ drop (at + length a) buf) ≡ drop (at + length (a ++ b)) buf =
    ap (λ (k : ℕ). drop (k + length b) (take at buf ++ a ++ drop (at + length a) buf)) (sym n)
    ∙ drop-append-add (take at buf ++ a) (drop (at + length a) buf) (length b)
    ∙ drop-drop (length b) (at + length a) buf
    ∙ ap (λ (k : ℕ). drop k buf) k
    in
    rw (t, d) (ap (λ (l : List ℕ). l ++ drop (at + length (a ++ b)) buf) (append_assoc (take at buf) a b))

pub put_nothing : (buf : List ℕ) (at : ℕ) → at ≤ length buf → buf ≡ put buf at []
unfolding put
put_nothing buf at h = sym (rw (add-zero at, append-nil (take at buf)) (take-append-drop at buf))

-- ---- written

-- into a part of the buffer
pub wrote_mid : (buf : List ℕ) (at : ℕ) (bytes mid : List ℕ) → at + length bytes ≤ length buf → mid ≡ bytes → Wrote buf at bytes (put_mid at (at + length bytes - at) buf mid) (at + length bytes)
unfolding put
wrote_mid buf at bytes mid h e = record { next_is = refl; is = put_mid-paste at (at + length bytes - at) buf mid bytes (length bytes) e (omega arith) refl ∙ rw (take_all (length bytes) bytes (omega arith)) refl }

-- one run of bytes after another
pub wrote_wrote : (buf : List ℕ) (at : ℕ) (a : Bytes) (buf₁ : List ℕ) (n₁ : ℕ) (b : Bytes) (buf₂ : List ℕ) (n₂ : ℕ)
    → at + length a ≤ length buf → Wrote buf at a buf₁ n₁ → Wrote buf₁ n₁ b buf₂ n₂ → Wrote buf at (a ++ b) buf₂ n₂
wrote_wrote buf at a buf₁ n₁ b buf₂ n₂ le x y =
    record {
      next_is = y.next_is ∙ ap (λ (k : ℕ). k + length b) x.next_is ∙ (let e = length-append a b in omega (arith, e));
      is = y.is ∙ ap (λ (l : List ℕ). put l n₁ b) x.is ∙ ap (λ (k : ℕ). put (put buf at a) k b) x.next_is ∙ put_put buf at a b le;
    }

pub wrote_length : (buf : List ℕ) (at : ℕ) (a : Bytes) (buf' : List ℕ) (n : ℕ) → at + length a ≤ length buf → Wrote buf at a buf' n → length buf' ≡ length buf
wrote_length buf at a buf' n le h = ap length h.is ∙ length_put buf at a le

pub record Joined (a b whole : Bytes) : Type 0 where
  pub is : a ++ b ≡ whole

module _ (a b whole : Bytes) (j : Joined a b whole) where
  lengths : length a + length b ≡ length whole
  lengths = sym (length-append a b) ∙ ap length j.is

  pub first_fits : (at m : ℕ) → at + length whole ≤ m → at + length a ≤ m
  first_fits at m fits = omega (arith, lengths)

  module _ (buf : List ℕ) (at : ℕ) (fits : at + length whole ≤ length buf) (buf₁ : List ℕ) (next : ℕ) (h : Wrote buf at a buf₁ next) where
    pub rest_fits : next + length b ≤ length buf₁
    rest_fits = let l = wrote_length buf at a buf₁ next (first_fits at (length buf) fits) h in omega (arith, lengths, h.next_is, l)

    pub both_wrote : (buf₂ : List ℕ) (end : ℕ) → Wrote buf₁ next b buf₂ end → Wrote buf at whole buf₂ end
    both_wrote buf₂ end g = subst (λ (x : Bytes). Wrote buf at x buf₂ end) j.is (wrote_wrote buf at a buf₁ next b buf₂ end (first_fits at (length buf) fits) h g)
