-- The turns of the loops over a type's parts: what holds at the head of each, where it begins, a turn, and where it ends. Assumes nothing.
-- Each loop has a record of what holds at its head (`Sizing`, `Writing`); of each: where it begins, one part more, and where it ends.
use mathlib.Core.Path.{◌≡◌, refl, sym, ap, ◌∙◌}
use mathlib.Core.List.{List, [], ◌++◌}
use Prim.Native.Nat.{ℕ, ◌+◌, ◌-◌, ◌≤◌, ◌<◌}
use native.Mathlib.Omega.{arith}
use Rattle.std.specs.Prelude.{Some, None}
use lib.ListN.{length, get_or, length-append}
use Rattle.definition.specs.Types as d
use Rattle.definition.specs.Types.{State, Struct}
use Rattle.definition.specs.Store.{node, type_at, loc_of, with_args, with_structs}
use Rattle.definition.specs.Subst.{parts}
use Rattle.definition.specs.Write.{Bytes, head, write}
use Rattle.table.specs.State.{shape_of, value_of, view, seen}
use Rattle.table.specs.declared.Shape.{Shape}
use Rattle.table.specs.declared.Shape.TheVariants.{Unit as UnitS, Ref, Param, Apply, Var, Anything, UnresolvedError}
use Rattle.table.specs.declared.Used.{Used}
use Rattle.shapes.specs.Parts.{part_count}
use Rattle.shapes.proofs.Nodes.{At, counted, inside_seen, many_parts, part_is}
use Rattle.writer.specs.Bytes.{put, Wrote, Capped, ByteFields, AllBytes}
use Rattle.writer.proofs.Put.{length_put, put_put}
use Rattle.writer.proofs.Walk.{whole, write_is, front, front_none, front_more, front_all, front_fits}

-- ---- the bytes of a node up to its part i

-- the tag, location and fields do not depend on the parts
pub head_same : (s : State) (loc : ℕ) (h : Shape) → head loc (with_args s (shape_of h)) ≡ head loc (value_of h)
unfolding head with_args
head_same s loc UnitS = refl
head_same s loc (Ref m t) = refl
head_same s loc (Param id a) = refl
head_same s loc (Apply a) = refl
head_same s loc (Var v) = refl
head_same s loc Anything = refl
head_same s loc UnresolvedError = refl

-- f gives the bytes of parts: `write`, or what ready spells
module _ (f : State → ℕ → Bytes) {w : List ℕ} {u : Used} {t : ℕ} {sh : Shape} {n : ℕ} (a : At w u t sh n) where
  abbrev front_of : List Struct → ℕ → Bytes
  front_of ds i = front (f (seen w u ds)) (seen w u ds) t i

  front_head : (ds : List Struct) (loc : ℕ) → loc ≡ loc_of (seen w u ds) t → head loc (value_of sh) ≡ front_of ds 0
  front_head ds loc e =
      sym (head_same (seen w u ds) loc sh) ∙ ap (λ (v : d.TypeValue). head loc v) (a.is ds) ∙ ap (λ (l : ℕ). head l (type_at (seen w u ds) t)) e ∙ sym (front_none (f (seen w u ds)) (seen w u ds) t)

  front_part : (i p : ℕ) → i < n → ((ds : List Struct) → i < part_count (shape_of sh) → p ≡ get_or (parts (with_args (seen w u ds) (shape_of sh))) i 0)
      → (ds : List Struct) → front_of ds (i + 1) ≡ front_of ds i ++ f (seen w u ds) p
  front_part i p l e ds =
      front_more (f (seen w u ds)) (seen w u ds) t i (rw (many_parts a ds) l) ∙ ap (λ (q : ℕ). front_of ds i ++ f (seen w u ds) q) (sym (part_is a i p l e ds))

-- b is the bytes of the type
pub record Whole (f : State → ℕ → Bytes) (w : List ℕ) (u : Used) (t : ℕ) (b : List Struct → Bytes) : Type 0 where
  pub is : (ds : List Struct) → b ds ≡ whole (f (seen w u ds)) (seen w u ds) t

module _ {f : State → ℕ → Bytes} {w : List ℕ} {u : Used} {t : ℕ} {b : List Struct → Bytes} (k : Whole f w u t b) where
  front_in : (i : ℕ) (ds : List Struct) → length (front (f (seen w u ds)) (seen w u ds) t i) ≤ length (b ds)
  front_in i ds = rw (k.is ds) (front_fits (f (seen w u ds)) (seen w u ds) t i)

  front_whole : {sh : Shape} {n : ℕ} → At w u t sh n → (i : ℕ) → n ≤ i → (ds : List Struct) → front (f (seen w u ds)) (seen w u ds) t i ≡ b ds
  front_whole a i l ds = front_all (f (seen w u ds)) (seen w u ds) t i (rw (many_parts a ds) l) ∙ sym (k.is ds)

pub written : {w : List ℕ} {u : Used} {t : ℕ} {sh : Shape} {n : ℕ} → At w u t sh n → Whole write w u t (λ ds. write (seen w u ds) t)
written {w} {u} {t} a = record { is = λ ds. write_is (seen w u ds) (inside_seen w u ds a.lay) t (counted a ds) }

-- ---- the length, up to a limit

-- of the room, `left` is left by the bytes up to part i
pub record Sizing (w : List ℕ) (u : Used) (t room n left i : ℕ) : Type 0 where
  pub below : i ≤ n
  pub is : (ds : List Struct) → left + length (front (write (seen w u ds)) (seen w u ds) t i) ≡ room

module _ {w : List ℕ} {u : Used} {t : ℕ} {sh : Shape} {n : ℕ} (a : At w u t sh n) where
  head_length : (size : ℕ) → ((loc : ℕ) → size ≡ length (head loc (value_of sh))) → (ds : List Struct) → size ≡ length (front (write (seen w u ds)) (seen w u ds) t 0)
  head_length size e ds = e (loc_of (seen w u ds) t) ∙ ap length (front_head write a ds (loc_of (seen w u ds) t) refl)

  pub size_none : (room size left : ℕ) → ((loc : ℕ) → size ≡ length (head loc (value_of sh))) → left + size ≡ room → Sizing w u t room n left 0
  size_none room size left e l = record { below = omega arith; is = λ ds. omega (arith, l, head_length size e ds) }

  -- the head alone is too long
  pub size_long : (room size : ℕ) → ((loc : ℕ) → size ≡ length (head loc (value_of sh))) → room < size → (ds : List Struct) → room < length (write (seen w u ds) t)
  size_long room size e l ds = omega (arith, l, head_length size e ds, front_in (written a) 0 ds)

  module _ {room left i : ℕ} (s : Sizing w u t room n left i) where
    module _ (p : ℕ) (l : i < n) (part : (ds : List Struct) → i < part_count (shape_of sh) → p ≡ get_or (parts (with_args (seen w u ds) (shape_of sh))) i 0) where
      longer_by : (ds : List Struct) → length (front (write (seen w u ds)) (seen w u ds) t (i + 1)) ≡ length (front (write (seen w u ds)) (seen w u ds) t i) + length (write (seen w u ds) p)
      longer_by ds = ap length (front_part write a i p l part ds) ∙ length-append (front (write (seen w u ds)) (seen w u ds) t i) (write (seen w u ds) p)

      pub size_more : (k : ℕ) → ((ds : List Struct) → Capped left (length (write (seen w u ds) p)) (Some k)) → Sizing w u t room n (left - k) (i + 1)
      size_more k e = record { below = omega arith; is = λ ds. omega (arith, s.is ds, longer_by ds, (e ds).0, (e ds).1) }

      -- part i is too long
      pub size_over : ((ds : List Struct) → Capped left (length (write (seen w u ds) p)) None) → (ds : List Struct) → Capped room (length (write (seen w u ds) t)) None
      size_over e ds = omega (arith, s.is ds, longer_by ds, e ds, front_in (written a) (i + 1) ds)

    pub size_all : n ≤ i → (ds : List Struct) → Capped room (length (write (seen w u ds) t)) (Some (room - left))
    size_all l ds = let e = ap length (front_whole (written a) a i l ds) in (omega (arith, s.is ds, e), omega (arith, s.is ds, e))

-- ---- the bytes

pub bytes_at : {w : List ℕ} {u : Used} {t : ℕ} {sh : Shape} {n : ℕ} → At w u t sh n → AllBytes (view w u) → ByteFields (shape_of sh)
unfolding AllBytes seen with_structs node
bytes_at {t = t} a b = rw (a.shape []) (b t (counted a []))

pub record Writing (f : State → ℕ → Bytes) (w : List ℕ) (u : Used) (t n : ℕ) (buf₀ : List ℕ) (at : ℕ) (buf : List ℕ) (next i : ℕ) : Type 0 where
  pub left : i ≤ n
  pub size : length buf ≡ length buf₀
  pub is : (ds : List Struct) → Wrote buf₀ at (front (f (seen w u ds)) (seen w u ds) t i) buf next

-- the whole type fits
abbrev Fits : (List Struct → Bytes) → List ℕ → ℕ → Type 0
Fits b buf₀ at = (ds : List Struct) → at + length (b ds) ≤ length buf₀

module _ {f : State → ℕ → Bytes} {w : List ℕ} {u : Used} {t : ℕ} {b : List Struct → Bytes} (k : Whole f w u t b) {sh : Shape} {n : ℕ} (a : At w u t sh n) (buf₀ : List ℕ) (at : ℕ) (fits : Fits b buf₀ at) where
  front_room : (ds : List Struct) (i : ℕ) → at + length (front (f (seen w u ds)) (seen w u ds) t i) ≤ length buf₀
  front_room ds i =
      omega (arith, front_in k i ds, fits ds)

  module _ (loc : ℕ) (e : (ds : List Struct) → loc ≡ loc_of (seen w u ds) t) where
    pub head_room : at + length (head loc (value_of sh)) ≤ length buf₀
    head_room = rw (front_head f a [] loc (e [])) (front_room [] 0)

    pub write_none : (buf : List ℕ) (next : ℕ) → Wrote buf₀ at (head loc (value_of sh)) buf next → Writing f w u t n buf₀ at buf next 0
    write_none buf next r = record {
      left = omega arith;
      size = ap length r.is ∙ length_put buf₀ at (head loc (value_of sh)) head_room;
      is = λ ds. rw (← front_head f a ds loc (e ds)) r;
    }

  module _ (buf : List ℕ) (next i p : ℕ) (r : Writing f w u t n buf₀ at buf next i) (l : i < n)
      (part : (ds : List Struct) → i < part_count (shape_of sh) → p ≡ get_or (parts (with_args (seen w u ds) (shape_of sh))) i 0) where
    longer : (ds : List Struct) → length (front (f (seen w u ds)) (seen w u ds) t (i + 1)) ≡ length (front (f (seen w u ds)) (seen w u ds) t i) + length (f (seen w u ds) p)
    longer ds = ap length (front_part f a i p l part ds) ∙ length-append (front (f (seen w u ds)) (seen w u ds) t i) (f (seen w u ds) p)

    pub part_room : (ds : List Struct) → next + length (f (seen w u ds) p) ≤ length buf
    part_room ds = omega (arith, front_room ds (i + 1), longer ds, (r.is ds).next_is, r.size)

    pub write_more : (buf' : List ℕ) (next' : ℕ) → ((ds : List Struct) → Wrote buf next (f (seen w u ds) p) buf' next') → Writing f w u t n buf₀ at buf' next' (i + 1)
    write_more buf' next' h = record {
      left = omega arith;
      size = ap length (h []).is ∙ length_put buf next (f (seen w u []) p) (part_room []) ∙ r.size;
      is = λ ds.
          let v = seen w u ds in
          record {
            next_is = omega (arith, longer ds, (r.is ds).next_is, (h ds).next_is);
            is = (h ds).is ∙ ap (λ (l : List ℕ). put l next (f v p)) (r.is ds).is ∙ ap (λ (j : ℕ). put (put buf₀ at (front (f v) v t i)) j (f v p)) (r.is ds).next_is
                ∙ put_put buf₀ at (front (f v) v t i) (f v p) (front_room ds i) ∙ ap (λ (l : Bytes). put buf₀ at l) (sym (front_part f a i p l part ds));
          };
    }

pub write_all : {f : State → ℕ → Bytes} {w : List ℕ} {u : Used} {t : ℕ} {b : List Struct → Bytes} → Whole f w u t b → {sh : Shape} {n : ℕ} → At w u t sh n → (buf₀ : List ℕ) (at : ℕ) (buf : List ℕ) (next i : ℕ)
    → Writing f w u t n buf₀ at buf next i → n ≤ i → (ds : List Struct) → Wrote buf₀ at (b ds) buf next
write_all k a buf₀ at buf next i r l ds = rw (← front_whole k a i l ds) (r.is ds)

-- the loop begins once the head is written: what was written from E on stays so
abbrev pub Goes_on : (State → ℕ → Bytes) → List ℕ → Used → ℕ → ℕ → ℕ → List ℕ → ℕ → List ℕ → ℕ → ℕ → Type 0
Goes_on f w u t n at buf₀ next₀ buf next i = (i ≤ n) × ((E : List ℕ) → Writing f w u t n E at buf₀ next₀ 0 → Writing f w u t n E at buf next i)

pub goes_more : {f : State → ℕ → Bytes} {w : List ℕ} {u : Used} {t : ℕ} {b : List Struct → Bytes} → Whole f w u t b → {sh : Shape} {n : ℕ} → At w u t sh n → (E : List ℕ) (at : ℕ) → Fits b E at
    → (buf₀ : List ℕ) (next₀ : ℕ) (buf : List ℕ) (next i p : ℕ) (buf' : List ℕ) (next' : ℕ) → Writing f w u t n E at buf₀ next₀ 0 → Goes_on f w u t n at buf₀ next₀ buf next i → i < n
    → ((ds : List Struct) → i < part_count (shape_of sh) → p ≡ get_or (parts (with_args (seen w u ds) (shape_of sh))) i 0)
    → ((ds : List Struct) → Wrote buf next (f (seen w u ds) p) buf' next') → Goes_on f w u t n at buf₀ next₀ buf' next' (i + 1)
goes_more k a E at fits buf₀ next₀ buf next i p buf' next' h r l part wrote = (
  omega arith,
  λ D y.
      let e : length E ≡ length D = sym h.size ∙ y.size in
      write_more k a D at (λ ds. rw (← e) (fits ds)) buf next i p (r.1 D y) l part buf' next' wrote,
)
