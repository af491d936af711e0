-- Bytes in pieces one after the other, sized up to a limit and written. Assumes nothing.
use mathlib.Core.Path.{◌≡◌, refl, sym, ap, ◌∙◌, subst}
use mathlib.Core.List.{List, [], ◌++◌, append-nil, append_assoc}
use Prim.Native.Nat.{ℕ, ◌+◌, ◌-◌, ◌≤◌, ◌<◌}
use native.Mathlib.Omega.{arith}
use Rattle.std.specs.Prelude.{Some, None}
use lib.ListN.{length, length-append}
use Rattle.definition.specs.Types.{Struct}
use Rattle.definition.specs.Write.{Bytes}
use Rattle.writer.specs.Bytes.{Capped, Wrote}
use Rattle.writer.proofs.Put.{put_nothing, wrote_wrote, wrote_length}

-- n pieces of a whole, with declarations of which K tells; `rest i` has those from i on
pub record Pieces (K : List Struct → Type 0) (n : ℕ) (one rest : List Struct → ℕ → Bytes) (whole : List Struct → Bytes) : Type 0 where
  pub first : (ds : List Struct) → K ds → rest ds 0 ≡ whole ds
  pub more : (ds : List Struct) (i : ℕ) → i < n → rest ds i ≡ one ds i ++ rest ds (i + 1)
  pub none : (ds : List Struct) (i : ℕ) → n ≤ i → rest ds i ≡ []

-- ---- sized

-- of the room, `left` is left by the pieces below i, with declarations of which K tells
pub record Sized (K : List Struct → Type 0) (n : ℕ) (rest : List Struct → ℕ → Bytes) (whole : List Struct → Bytes) (room left i : ℕ) : Type 0 where
  pub within : i ≤ n
  pub small : left ≤ room
  pub is : (ds : List Struct) → K ds → room + length (rest ds i) ≡ left + length (whole ds)

module _ (K : List Struct → Type 0) (n : ℕ) (one rest : List Struct → ℕ → Bytes) (whole : List Struct → Bytes) (p : Pieces K n one rest whole) (room : ℕ) where
  pub sized_none : Sized K n rest whole room room 0
  sized_none = record { within = omega arith; small = omega arith; is = λ ds k. omega (arith, ap length (p.first ds k)) }

  pub sized_all : (left i : ℕ) → Sized K n rest whole room left i → n ≤ i → (ds : List Struct) → K ds → Capped room (length (whole ds)) (Some (room - left))
  sized_all left i h le ds k =
      let z : length (rest ds i) ≡ 0 = ap length (p.none ds i le) in
      (omega (arith, h.is ds k), omega (arith, h.is ds k))

  -- piece i is empty
  pub sized_past : (left i : ℕ) → Sized K n rest whole room left i → i < n → ((ds : List Struct) → K ds → [] ≡ one ds i) → Sized K n rest whole room left (i + 1)
  sized_past left i h lt e = record {
    within = omega arith;
    small = h.small;
    is = λ ds q. let m : rest ds i ≡ rest ds (i + 1) = p.more ds i lt ∙ ap (λ (b : Bytes). b ++ rest ds (i + 1)) (sym (e ds q)) in omega (arith, h.is ds q, ap length m);
  }

  -- piece i, which is x
  module _ (left i : ℕ) (h : Sized K n rest whole room left i) (lt : i < n) (x : List Struct → Bytes) (xe : (ds : List Struct) → K ds → x ds ≡ one ds i) where
    both : (ds : List Struct) → K ds → length (rest ds i) ≡ length (x ds) + length (rest ds (i + 1))
    both ds q = ap length (p.more ds i lt ∙ ap (λ (b : Bytes). b ++ rest ds (i + 1)) (sym (xe ds q))) ∙ length-append (x ds) (rest ds (i + 1))

    -- it has k bytes
    pub sized_more : (k : ℕ) → ((ds : List Struct) → K ds → Capped left (length (x ds)) (Some k)) → Sized K n rest whole room (left - k) (i + 1)
    sized_more k ke = record {
      within = omega arith;
      small = omega (arith, h.small);
      is = λ ds q. omega (arith, both ds q, h.is ds q, (ke ds q).0, (ke ds q).1);
    }

    -- it is too long
    pub sized_over : ((ds : List Struct) → K ds → Capped left (length (x ds)) None) → (ds : List Struct) → K ds → Capped room (length (whole ds)) None
    sized_over ke ds q = omega (arith, both ds q, h.is ds q, ke ds q)

-- ---- written

pub wrote_none : (buf : List ℕ) (at : ℕ) → at ≤ length buf → Wrote buf at [] buf at
wrote_none buf at le = record { next_is = omega arith; is = put_nothing buf at le }

-- `buf` has the pieces below i from place `at` on
pub record Written (K : List Struct → Type 0) (n : ℕ) (rest : List Struct → ℕ → Bytes) (whole : List Struct → Bytes) (buf₀ : List ℕ) (at : ℕ) (buf : List ℕ) (next i : ℕ) : Type 0 where
  pub within : i ≤ n
  pub size : length buf ≡ length buf₀
  pub front : List Struct → Bytes
  pub joined : (ds : List Struct) → K ds → front ds ++ rest ds i ≡ whole ds
  pub is : (ds : List Struct) → K ds → Wrote buf₀ at (front ds) buf next

module _ (K : List Struct → Type 0) (n : ℕ) (one rest : List Struct → ℕ → Bytes) (whole : List Struct → Bytes) (p : Pieces K n one rest whole) (buf₀ : List ℕ) (at : ℕ) where
  pub written_all : (buf : List ℕ) (next i : ℕ) → Written K n rest whole buf₀ at buf next i → n ≤ i → (ds : List Struct) → K ds → Wrote buf₀ at (whole ds) buf next
  written_all buf next i h le ds k =
      let e : h.front ds ≡ whole ds = sym (append-nil (h.front ds)) ∙ ap (λ (b : Bytes). h.front ds ++ b) (sym (p.none ds i le)) ∙ h.joined ds k in
      subst (λ (b : Bytes). Wrote buf₀ at b buf next) e (h.is ds k)

  -- all of them fit, and there are such declarations
  module _ (fits : (ds : List Struct) → K ds → at + length (whole ds) ≤ length buf₀) (ds₀ : List Struct) (k₀ : K ds₀) where
    pub written_none : Written K n rest whole buf₀ at buf₀ at 0
    written_none = record { within = omega arith; size = refl; front = λ ds. []; joined = p.first; is = λ ds k. wrote_none buf₀ at (omega (arith, fits ds₀ k₀)) }

    -- piece i is x
    module _ (buf : List ℕ) (next i : ℕ) (h : Written K n rest whole buf₀ at buf next i) (lt : i < n) (x : List Struct → Bytes) (xe : (ds : List Struct) → K ds → x ds ≡ one ds i) where
      split : (ds : List Struct) → K ds → x ds ++ rest ds (i + 1) ≡ rest ds i
      split ds k = ap (λ (b : Bytes). b ++ rest ds (i + 1)) (xe ds k) ∙ sym (p.more ds i lt)

      front_more : (ds : List Struct) → K ds → (h.front ds ++ one ds i) ++ rest ds (i + 1) ≡ whole ds
      front_more ds k = append_assoc (h.front ds) (one ds i) (rest ds (i + 1)) ∙ ap (λ (b : Bytes). h.front ds ++ b) (sym (p.more ds i lt)) ∙ h.joined ds k

      lengths : (ds : List Struct) → K ds → length (h.front ds) + (length (x ds) + length (rest ds (i + 1))) ≡ length (whole ds)
      lengths ds k =
          let a = sym (length-append (h.front ds) (rest ds i)) ∙ ap length (h.joined ds k) in
          let b = sym (length-append (x ds) (rest ds (i + 1))) ∙ ap length (split ds k) in
          omega (arith, a, b)

      pub one_fits : (ds : List Struct) → K ds → next + length (x ds) ≤ length buf
      one_fits ds k = omega (arith, lengths ds k, fits ds k, h.size, (h.is ds k).next_is)

      module _ (buf' : List ℕ) (next' : ℕ) (g : (ds : List Struct) → K ds → Wrote buf next (x ds) buf' next') where
        grown : (ds : List Struct) → K ds → Wrote buf₀ at (h.front ds ++ one ds i) buf' next'
        grown ds k =
            let y = wrote_wrote buf₀ at (h.front ds) buf next (x ds) buf' next' (omega (arith, lengths ds k, fits ds k)) (h.is ds k) (g ds k) in
            subst (λ (b : Bytes). Wrote buf₀ at (h.front ds ++ b) buf' next') (xe ds k) y

        pub written_more : Written K n rest whole buf₀ at buf' next' (i + 1)
        written_more = record {
          within = omega arith;
          size = wrote_length buf next (x ds₀) buf' next' (one_fits ds₀ k₀) (g ds₀ k₀) ∙ h.size;
          front = λ ds. h.front ds ++ one ds i;
          joined = front_more;
          is = grown;
        }
