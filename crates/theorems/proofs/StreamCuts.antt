-- Reading a record takes bytes from the front and looks at no others: the record cut off there is read alike, with nothing left. Assumes nothing.
-- One relation, `Cuts`, goes through the readers field by field: what is given of the bytes is given of a front of them, whatever follows.
use mathlib.Core.Path.{◌≡◌, refl, sym, ap, ◌∙◌}
use mathlib.Core.Bool.{Bool, true, false, not, ◌&&◌}
use mathlib.Core.List.{List, [], ◌∷◌, ◌++◌, append_assoc, append-nil}
use Rattle.std.specs.Prelude.{Option, None, Some}
use Prim.Native.Nat.{ℕ, zero, suc, ◌-◌, ◌≤◌}
use native.Mathlib.Omega.{arith}
use lib.ListN.{length, get_or, take, drop, length-append, length-take, take-append-drop, drop_of_length-le}
use lib.Seq.{take_all, take_at}
use lib.Dec.{eqb, ltb, leb}
use Rattle.std.specs.Prelude.{if◌then◌else◌}
use Rattle.definition.specs.Types.{TypeName, AbilityMark, State, Refusal, malformed, doubled_reference}
use Rattle.definition.specs.Store.{taken}
use Rattle.definition.specs.Write.{Bytes}
use Rattle.definition.specs.Reader.{Read, got, not_read, Reader, give, refuse, go_on, ◌>>=◌, byte, read_u16, read_u32, byte_if, read_bool, name_below, times, read_one, read_two, read_three}
use Rattle.definition.specs.Trees.{Tree, read_trees, mark_of, read_mark, mark_fits, arity, under_ref, read_apply, by_tag, is_name, read_nested, read_type}
use Rattle.definition.specs.Record.{Record, read_kind, read_SD, read_pair, read_TS, by_mark, fields_of, read_fields, max_record, hand_back, read_record, read_bits, read_case, read_case_pair, read_MJ, read_KP}
use Rattle.theorems.proofs.StreamRecords.{front}
use Rattle.theorems.proofs.DemandOrder.{All}
use Rattle.theorems.proofs.DemandTracks.{never}

-- what m gives of the bytes is what it gives of a front of them, whatever follows
data Cut {A : Type 0} (m : Reader A) (bytes : Bytes) : Read A → Type 0 where
  cut : {a : A} (taken rest : Bytes) → bytes ≡ taken ++ rest → ((more : Bytes) → m (taken ++ more) ≡ got a more) → Cut m bytes (got a rest)
  no_cut : {x : Refusal} → Cut m bytes (not_read x)

record Cuts {A : Type 0} (m : Reader A) : Type 0 where
  at : (bytes : Bytes) → Cut m bytes (m bytes)

module _ {A B : Type 0} (m : Reader A) (f : A → Reader B) where
  after : {a : A} {bytes : Bytes} (taken : Bytes) {rest : Bytes} → bytes ≡ taken ++ rest → ((more : Bytes) → m (taken ++ more) ≡ got a more) → {y : Read B} → Cut (f a) rest y → Cut (m >>= f) bytes y
  unfolding ◌>>=◌ go_on
  after taken e h (cut {a = b} taken2 rest2 e2 h2) =
      cut {a = b} (taken ++ taken2) rest2 (e ∙ ap (λ (l : Bytes). taken ++ l) e2 ∙ sym (append_assoc taken taken2 rest2)) (λ more. rw (append_assoc taken taken2 more) (ap (λ x. go_on x f) (h (taken2 ++ more)) ∙ h2 more))
  after taken e h no_cut = no_cut

  then_cut : {bytes : Bytes} {x : Read A} → Cut m bytes x → ((a : A) → Cuts (f a)) → Cut (m >>= f) bytes (go_on x f)
  unfolding go_on
  then_cut (cut {a = a} taken rest e h) k = after taken e h ((k a).at rest)
  then_cut no_cut k = no_cut

  c_bind : Cuts m → ((a : A) → Cuts (f a)) → Cuts (m >>= f)
  unfolding ◌>>=◌
  c_bind p k = record { at = λ bytes. then_cut (p.at bytes) k }

module _ {A : Type 0} where
  c_give : (a : A) → Cuts (give a)
  unfolding give
  c_give a = record { at = λ bytes. cut [] bytes refl (λ more. refl) }

  c_refuse : (x : Refusal) → Cuts {A = A} (refuse x)
  unfolding refuse
  c_refuse x = record { at = λ bytes. no_cut }

  c_if : (c : Bool) {x y : Reader A} → Cuts x → Cuts y → Cuts (if c then x else y)
  c_if true p q = p
  c_if false p q = q

  c_get : (l : List (Reader A)) → All (λ m. Cuts m) l → (i : ℕ) → Cuts (get_or l i (refuse malformed))
  c_get [] a i = c_refuse malformed
  c_get (m ∷ l) a zero = a.0
  c_get (m ∷ l) a (suc i) = c_get l a.1 i

c_times : {A : Type 0} (n : ℕ) (m : Reader A) → Cuts m → Cuts (times n m)
unfolding times
c_times zero m p = c_give _
c_times (suc n) m p = c_bind _ _ p (λ a. c_bind _ _ (c_times n m p) (λ as'. c_give _))

c_byte : Cuts byte
unfolding byte
c_byte = record { at = go }
  where
    go : (bytes : Bytes) → Cut byte bytes (byte bytes)
    go [] = no_cut
    go (b ∷ bytes) = cut (b ∷ []) bytes refl (λ more. refl)

c_u16 : Cuts read_u16
unfolding read_u16
c_u16 = c_bind _ _ c_byte (λ a. c_bind _ _ c_byte (λ b. c_give _))

c_u32 : Cuts read_u32
unfolding read_u32
c_u32 = c_bind _ _ c_byte (λ a. c_bind _ _ c_byte (λ b. c_bind _ _ c_byte (λ c. c_bind _ _ c_byte (λ d. c_give _))))

c_byte_if : (allowed : ℕ → Bool) → Cuts (byte_if allowed)
unfolding byte_if
c_byte_if allowed = c_bind _ _ c_byte (λ b. c_if (allowed b) (c_give b) (c_refuse _))

c_bool : Cuts read_bool
unfolding read_bool read_one
c_bool = c_bind _ _ (c_byte_if _) (λ b. c_give _)

c_name : (known : ℕ) → Cuts (name_below known)
unfolding name_below
c_name known = c_bind _ _ c_u16 (λ n. c_if (ltb n known) (c_give n) (c_refuse _))

c_mark : Cuts read_mark
unfolding read_mark
c_mark = c_bind _ _ c_byte (λ b. go (mark_of b))
  where
    go : (o : Option AbilityMark) → Cuts {A = AbilityMark} (elim o [ None ↦ refuse malformed | Some k ↦ give k ])
    go None = c_refuse _
    go (Some k) = c_give k

-- ---- types

c_trees : (n : ℕ) (m : Reader Tree) → Cuts m → Cuts (read_trees n m)
unfolding read_trees
c_trees zero m p = c_give _
c_trees (suc n) m p = c_bind _ _ p (λ t. c_bind _ _ (c_trees n m p) (λ ts. c_give _))

module _ (s : State) (m : Reader Tree) (p : Cuts m) (loc : ℕ) where
  c_apply : (number : Reader ℕ) → Cuts number → (name : ℕ → TypeName) (x : Refusal) → Cuts (read_apply s m loc number name x)
  unfolding read_apply
  c_apply number c name x =
      c_bind _ _ c_mark (λ k. c_bind _ _ c (λ n. c_if (not (is_name s (name n))) (c_refuse _) (c_if (not (mark_fits k (name n))) (c_refuse _) (c_bind _ _ (c_trees (arity s (name n)) m p) (λ ts. c_give _)))))

  c_tags : ((left : ℕ) → Cuts (under_ref left m)) → (left : ℕ) → All (λ r. Cuts r) (by_tag s m loc left)
  unfolding by_tag read_two read_one
  c_tags under left = (
    c_give _,
    (
      c_bind _ _ c_bool (λ mut. c_bind _ _ (under left) (λ t. c_give _)),
      (
        c_bind _ _ c_u32 (λ id. c_bind _ _ (c_byte_if _) (λ a. c_give _)),
        (
          c_apply _ c_byte _ _,
          (
            c_apply _ c_byte _ _,
            (
              c_apply _ c_u16 _ _,
              (
                c_bind _ _ (c_name (taken s)) (λ v. c_give _),
                (
                  c_give _,
                  (
                    c_give _,
                    tt,
                  ),
                ),
              ),
            ),
          ),
        ),
      ),
    ),
  )

-- a type takes a byte, so the byte that is looked at is one of those taken
module _ (m : Reader Tree) (nothing : m [] ≡ not_read malformed) (left : ℕ) where
  under_cut : (bytes : Bytes) (c : Bool) → ltb 0 left && eqb (get_or bytes 0 0) 1 ≡ c → {x : Read Tree} → Cut m bytes x → Cut (under_ref left m) bytes (if c then not_read doubled_reference else x)
  unfolding under_ref
  under_cut bytes true d k = no_cut
  under_cut bytes false d no_cut = no_cut
  under_cut bytes false d (cut {a = a} [] rest e h) = never (let t : ◌≡◌ {A = Read Tree} (got a []) (not_read malformed) = sym (h []) ∙ nothing in cc)
  under_cut bytes false d (cut {a = a} (b ∷ taken) rest e h) =
      let f : ltb 0 left && eqb b 1 ≡ false = ap (λ (l : Bytes). ltb 0 left && eqb (get_or l 0 0) 1) (sym e) ∙ d in
      cut {a = a} (b ∷ taken) rest e (λ more. rw f (h more))

  c_under : Cuts m → Cuts (under_ref left m)
  unfolding under_ref
  c_under p = record { at = λ bytes. under_cut bytes _ refl (p.at bytes) }

nested_nothing : (n : ℕ) (s : State) → read_nested n s [] ≡ not_read malformed
unfolding read_nested refuse byte_if byte ◌>>=◌ go_on
nested_nothing zero s = refl
nested_nothing (suc n) s = refl

c_nested : (n : ℕ) (s : State) → Cuts (read_nested n s)
unfolding read_nested
c_nested zero s = c_refuse _
c_nested (suc n) s = c_bind _ _ (c_byte_if _) (λ tag. c_bind _ _ c_u32 (λ loc. c_get (by_tag s (read_nested n s) loc n) (c_tags s (read_nested n s) (c_nested n s) loc (λ left. c_under (read_nested n s) (nested_nothing n s) left (c_nested n s)) n) tag))

-- ---- records

module _ (s : State) where
  c_type : Cuts (read_type s)
  unfolding read_type
  c_type = c_nested 64 s

  c_two : (mark : Tree → Tree → Record) → Cuts (read_two mark (read_type s) (read_type s))
  unfolding read_two
  c_two mark = c_bind _ _ c_type (λ t. c_bind _ _ c_type (λ u. c_give _))

  c_one : (mark : Tree → Record) → Cuts (read_one mark (read_type s))
  unfolding read_one
  c_one mark = c_bind _ _ c_type (λ t. c_give _)

  c_loc : (mark : ℕ → Record) → Cuts (read_one mark read_u32)
  unfolding read_one
  c_loc mark = c_bind _ _ c_u32 (λ l. c_give _)

  c_loc_type : (mark : ℕ → Tree → Record) → Cuts (read_two mark read_u32 (read_type s))
  unfolding read_two
  c_loc_type mark = c_bind _ _ c_u32 (λ l. c_bind _ _ c_type (λ t. c_give _))

  c_marks : All (λ (row : ℕ × ℕ × Reader Record). Cuts row.2) (by_mark s)
  unfolding by_mark read_SD read_two read_TS read_pair read_MJ read_case_pair read_three read_kind read_bits read_case read_one read_KP
  c_marks = (
    c_bind _ _ (c_byte_if _) (λ a. c_bind _ _ (c_byte_if _) (λ n. c_bind _ _ (c_times n _ (c_byte_if _)) (λ ps. c_give _))),
    (
      c_loc _,
      (
        c_loc _,
        (
          c_bind _ _ (c_name (taken s)) (λ v. c_bind _ _ c_u32 (λ l. c_give _)),
          (
            c_two _,
            (
              c_two _,
              (
                c_one _,
                (
                  c_one _,
                  (
                    c_bind _ _ (c_byte_if _) (λ n. c_bind _ _ (c_times n _ (c_bind _ _ c_u32 (λ id. c_bind _ _ c_type (λ t. c_give _)))) (λ ps. c_bind _ _ c_type (λ t. c_give _))),
                    (
                      c_one _,
                      (
                        c_bind _ _ c_u32 (λ l. c_bind _ _ (c_bind _ _ (c_byte_if _) (λ b. c_give _)) (λ kind. c_bind _ _ c_type (λ t. c_give _))),
                        (
                          c_loc_type _,
                          (
                            c_loc_type _,
                            (
                              c_give _,
                              (
                                c_one _,
                                (
                                  c_one _,
                                  (
                                    c_one _,
                                    (
                                      c_bind _ _ c_u32 (λ l. c_bind _ _ (c_bind _ _ c_u16 (λ n. c_if (leb 1 n && leb n 256) (c_give n) (c_refuse _))) (λ n. c_give _)),
                                      (
                                        c_bind _ _ (c_byte_if _) (λ n. c_bind _ _ (c_times n _ (c_bind _ _ (c_bind _ _ (c_byte_if _) (λ b. c_give _)) (λ c. c_bind _ _ c_type (λ t. c_bind _ _ c_type (λ u. c_give _))))) (λ ps. c_give _)),
                                        (c_one _, (c_two _, (c_bind _ _ c_byte (λ n. c_bind _ _ (c_times n _ (c_name (taken s))) (λ vs. c_give _)), tt))),
                                      ),
                                    ),
                                  ),
                                ),
                              ),
                            ),
                          ),
                        ),
                      ),
                    ),
                  ),
                ),
              ),
            ),
          ),
        ),
      ),
    ),
  )

  c_fields_of : (l : List (ℕ × ℕ × Reader Record)) → All (λ (row : ℕ × ℕ × Reader Record). Cuts row.2) l → (a b : ℕ) → Cuts (fields_of l a b)
  unfolding fields_of
  c_fields_of [] r a b = c_refuse _
  c_fields_of ((a', b', m) ∷ l) r a b = c_if (eqb a a' && eqb b b') r.0 (c_fields_of l r.1 a b)

  c_fields : Cuts (read_fields s)
  unfolding read_fields
  c_fields = c_bind _ _ c_byte (λ a. c_bind _ _ c_byte (λ b. c_fields_of (by_mark s) c_marks a b))

-- a record that is read: the bytes that it took are read as the same record, and nothing is left
pub data Fronted (s : State) (bytes : Bytes) : Read Record → Type 0 where
  fronted : {r : Record} {rest : Bytes} → read_record s (front bytes rest) ≡ got r [] → Fronted s bytes (got r rest)
  not_fronted : {x : Refusal} → Fronted s bytes (not_read x)

-- what was taken, alone
alone : (s : State) (r : Record) (taken : Bytes) → length taken ≤ 4096 → ((more : Bytes) → read_fields s (taken ++ more) ≡ got r more) → read_record s taken ≡ got r []
unfolding read_record max_record hand_back
alone s r taken l h = rw (take_all 4096 taken l, drop_of_length-le taken l, ← (append-nil taken), h []) refl

is_front : (bytes taken rest : Bytes) → bytes ≡ taken ++ rest → front bytes rest ≡ taken
unfolding front
is_front bytes taken rest e = rw e (take_at taken rest (length (taken ++ rest) - length rest) (omega (arith, length-append taken rest)))

pub fronts : (s : State) (bytes : Bytes) → Fronted s bytes (read_record s bytes)
unfolding read_record max_record hand_back
fronts s bytes = go ((c_fields s).at (take 4096 bytes))
  where
    go : {x : Read Record} → Cut (read_fields s) (take 4096 bytes) x → Fronted s bytes (hand_back (drop 4096 bytes) x)
    go (cut {a = r} taken rest e h) =
        let whole : bytes ≡ taken ++ (rest ++ drop 4096 bytes) = sym (take-append-drop 4096 bytes) ∙ ap (λ (l : Bytes). l ++ drop 4096 bytes) e ∙ append_assoc taken rest (drop 4096 bytes) in
        fronted {r = r} {rest = rest ++ drop 4096 bytes} (rw (is_front bytes taken (rest ++ drop 4096 bytes) whole) (alone s r taken (omega (arith, ap length e, length-append taken rest, length-take 4096 bytes)) h))
    go no_cut = not_fronted
