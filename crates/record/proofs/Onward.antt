-- What reading leaves is the bytes' end: the definition's readers go onward. Assumes nothing.
use mathlib.Core.Path.{◌≡◌, refl, sym, ap, ◌∙◌}
use mathlib.Core.Bool.{Bool, true, false, not, ◌&&◌}
use mathlib.Core.List.{List, [], ◌∷◌, ◌++◌, append_assoc}
use Rattle.std.specs.Prelude.{None, Some}
use Prim.Native.Nat.{ℕ, zero, suc, ◌-◌}
use lib.Dec.{ltb, leb, eqb}
use lib.ListN.{get_or}
use Rattle.std.specs.Prelude.{if◌then◌else◌}
use Rattle.definition.specs.Types.{State, AbilityMark, TypeName, Builtin, Multiple, ModuleType, Refusal, malformed, unknown_name, doubled_reference}
use Rattle.definition.specs.Store.{taken}
use Rattle.definition.specs.Write.{Bytes}
use Rattle.definition.specs.Reader.{Read, got, not_read, Reader, give, refuse, go_on, ◌>>=◌, byte, read_u16, read_u32, byte_if, byte_to, read_bool, name_below, times, read_one, read_two, read_three}
use Rattle.definition.specs.Trees.{Tree, unit_tree, anything_tree, error_tree, ref_tree, param_tree, var_tree, is_set, is_name, read_trees, mark_of, read_mark, mark_fits, arity, under_ref, read_apply, by_tag, read_nested, read_type}
use Rattle.definition.specs.Record.{Record, read_kind, read_bits, read_case, is_many, read_SD, read_pair, read_TS, read_case_pair, read_MJ, read_KP, by_mark, fields_of, read_fields}

-- what is left is l without some bytes in front
pub data Onward (l : Bytes) {A : Type 0} : Read A → Type 0 where
  on : {a : A} {rest : Bytes} (front : Bytes) → l ≡ front ++ rest → Onward l (got a rest)
  off : {x : Refusal} → Onward l (not_read x)

abbrev Goes : {A : Type 0} → Reader A → Type 0
Goes m = (l : Bytes) → Onward l (m l)

further : {A : Type 0} {r : Read A} {l rest : Bytes} (front : Bytes) → l ≡ front ++ rest → Onward rest r → Onward l r
further front e (on {a = a} {rest = left} more f) = on (front ++ more) (e ∙ ap (λ (k : Bytes). front ++ k) f ∙ sym (append_assoc front more left))
further front e off = off

goes_then : {A B : Type 0} (m : Reader A) (h : A → Reader B) → Goes m → ((a : A) → Goes (h a)) → Goes (m >>= h)
unfolding ◌>>=◌ go_on
goes_then {A} {B} m h p q l = go (m l) (p l)
  where
    go : (r : Read A) → Onward l r → Onward l (go_on r h)
    go (got a rest) (on front e) = further front e (q a rest)
    go (not_read x) off = off

goes_give : {A : Type 0} (a : A) → Goes (give a)
unfolding give
goes_give a l = on [] refl

goes_refuse : {A : Type 0} (x : Refusal) → Goes {A = A} (refuse x)
unfolding refuse
goes_refuse x l = off

goes_if : {A : Type 0} (b : Bool) {x y : Reader A} → Goes x → Goes y → Goes (if b then x else y)
goes_if true p q = p
goes_if false p q = q

goes_one : {A B : Type 0} (make : A → B) (m : Reader A) → Goes m → Goes (read_one make m)
unfolding read_one
goes_one make m p = goes_then m _ p (λ a. goes_give _)

goes_two : {A B C : Type 0} (make : A → B → C) (m : Reader A) (n : Reader B) → Goes m → Goes n → Goes (read_two make m n)
unfolding read_two
goes_two make m n p q = goes_then m _ p (λ a. goes_then n _ q (λ b. goes_give _))

goes_three : {A B C D : Type 0} (make : A → B → C → D) (m : Reader A) (n : Reader B) (o : Reader C) → Goes m → Goes n → Goes o → Goes (read_three make m n o)
unfolding read_three
goes_three make m n o p q r = goes_then m _ p (λ a. goes_then n _ q (λ b. goes_then o _ r (λ c. goes_give _)))

-- ---- numbers

goes_byte : Goes byte
unfolding byte
goes_byte [] = off
goes_byte (b ∷ l) = on (b ∷ []) refl

goes_u16 : Goes read_u16
unfolding read_u16
goes_u16 = goes_then byte _ goes_byte (λ a. goes_then byte _ goes_byte (λ b. goes_give _))

goes_u32 : Goes read_u32
unfolding read_u32
goes_u32 = goes_then byte _ goes_byte (λ a. goes_then byte _ goes_byte (λ b. goes_then byte _ goes_byte (λ c. goes_then byte _ goes_byte (λ d. goes_give _))))

goes_byte_if : (allowed : ℕ → Bool) → Goes (byte_if allowed)
unfolding byte_if
goes_byte_if allowed = goes_then byte _ goes_byte (λ b. goes_if (allowed b) (goes_give b) (goes_refuse malformed))

goes_bool : Goes read_bool
unfolding read_bool
goes_bool = goes_one _ (byte_to 1) (goes_byte_if _)

goes_name : (known : ℕ) → Goes (name_below known)
unfolding name_below
goes_name known = goes_then read_u16 _ goes_u16 (λ n. goes_if (ltb n known) (goes_give n) (goes_refuse unknown_name))

goes_mark : Goes read_mark
unfolding read_mark mark_of
goes_mark = goes_then byte _ goes_byte (λ b. go b (eqb b 0) (leb 16 b && is_set (b - 16)))
  where
    go : (b : ℕ) (z : Bool) (s : Bool) → Goes {A = AbilityMark} (elim (if z then Some None else if s then Some (Some (b - 16)) else None) [ None ↦ refuse malformed | Some k ↦ give k ])
    go b true s = goes_give None
    go b false true = goes_give (Some (b - 16))
    go b false false = goes_refuse malformed

goes_times : {A : Type 0} (n : ℕ) (m : Reader A) → Goes m → Goes (times n m)
unfolding times
goes_times zero m p = goes_give []
goes_times (suc n) m p = goes_then m _ p (λ a. goes_then (times n m) _ (goes_times n m p) (λ l. goes_give _))

-- ---- types

module _ (s : State) where
  goes_trees : (n : ℕ) (m : Reader Tree) → Goes m → Goes (read_trees n m)
  unfolding read_trees
  goes_trees zero m p = goes_give _
  goes_trees (suc n) m p = goes_then m _ p (λ t. goes_then (read_trees n m) _ (goes_trees n m p) (λ ts. goes_give _))

  module _ (m : Reader Tree) (p : Goes m) (loc : ℕ) where
    goes_apply : (number : Reader ℕ) → Goes number → (name : ℕ → TypeName) (x : Refusal) → Goes (read_apply s m loc number name x)
    unfolding read_apply
    goes_apply number q name x = goes_then read_mark _ goes_mark (λ k. goes_then number _ q (λ n.
        goes_if (not (is_name s (name n))) (goes_refuse x) (goes_if (not (mark_fits k (name n))) (goes_refuse malformed)
        (goes_then (read_trees (arity s (name n)) m) _ (goes_trees (arity s (name n)) m p) (λ ts. goes_give _)))))

    goes_under : (left : ℕ) → Goes (under_ref left m)
    unfolding under_ref
    goes_under left l = go (ltb 0 left && eqb (get_or l 0 0) 1)
      where
        go : (c : Bool) → Onward l (if c then not_read doubled_reference else m l)
        go true = off
        go false = p l

    abbrev AllGo : List (Reader Tree) → Type 0
    AllGo [] = Unit {0}
    AllGo (r ∷ rs) = Goes r × AllGo rs

    goes_at : (rs : List (Reader Tree)) → AllGo rs → (i : ℕ) → Goes (get_or rs i (refuse malformed))
    goes_at [] a i = goes_refuse malformed
    goes_at (r ∷ rs) a zero = a.0
    goes_at (r ∷ rs) a (suc i) = goes_at rs a.1 i

    goes_by_tag : (left tag : ℕ) → Goes (get_or (by_tag s m loc left) tag (refuse malformed))
    unfolding by_tag
    goes_by_tag left tag = goes_at (by_tag s m loc left) (
      goes_give (unit_tree loc),
      (
        goes_two (ref_tree loc) read_bool _ goes_bool (goes_under left),
        (
          goes_two (param_tree loc) read_u32 _ goes_u32 (goes_byte_if is_set),
          (
            goes_apply byte goes_byte Builtin malformed,
            (
              goes_apply byte goes_byte Multiple malformed,
              (
                goes_apply read_u16 goes_u16 ModuleType unknown_name,
                (
                  goes_one (var_tree loc) _ (goes_name (taken s)),
                  (goes_give (anything_tree loc), (goes_give (error_tree loc), tt)),
                ),
              ),
            ),
          ),
        ),
      ),
    ) tag

  goes_nested : (n : ℕ) → Goes (read_nested n s)
  unfolding read_nested
  goes_nested zero = goes_refuse malformed
  goes_nested (suc n) = goes_then (byte_to 8) _ (goes_byte_if _) (λ tag. goes_then read_u32 _ goes_u32 (λ loc. goes_by_tag (read_nested n s) (goes_nested n) loc n tag))

  goes_type : Goes (read_type s)
  unfolding read_type
  goes_type = goes_nested 64

  -- ---- records

  goes_kind : Goes read_kind
  unfolding read_kind
  goes_kind = goes_one _ (byte_to 2) (goes_byte_if _)

  goes_bits : Goes read_bits
  unfolding read_bits
  goes_bits = goes_then read_u16 _ goes_u16 (λ n. goes_if (leb 1 n && leb n 256) (goes_give n) (goes_refuse malformed))

  goes_SD : Goes (read_SD s)
  unfolding read_SD
  goes_SD = goes_then (byte_if _) _ (goes_byte_if _) (λ a. goes_then (byte_if _) _ (goes_byte_if _) (λ n. goes_then (times n (byte_if _)) _ (goes_times n (byte_if _) (goes_byte_if _)) (λ ps. goes_give _)))

  goes_pair : Goes (read_pair s)
  unfolding read_pair
  goes_pair = goes_two _ read_u32 (read_type s) goes_u32 goes_type

  goes_TS : Goes (read_TS s)
  unfolding read_TS
  goes_TS = goes_then (byte_to 8) _ (goes_byte_if _) (λ n. goes_then (times n (read_pair s)) _ (goes_times n (read_pair s) goes_pair) (λ ps. goes_then (read_type s) _ goes_type (λ t. goes_give _)))

  goes_case_pair : Goes (read_case_pair s)
  unfolding read_case_pair read_case
  goes_case_pair = goes_three _ read_case (read_type s) (read_type s) (goes_one _ (byte_to 1) (goes_byte_if _)) goes_type goes_type

  goes_MJ : Goes (read_MJ s)
  unfolding read_MJ
  goes_MJ = goes_then (byte_if is_many) _ (goes_byte_if is_many) (λ n. goes_then (times n (read_case_pair s)) _ (goes_times n (read_case_pair s) goes_case_pair) (λ ps. goes_give _))

  goes_KP : Goes (read_KP s)
  unfolding read_KP
  goes_KP = goes_then byte _ goes_byte (λ n. goes_then (times n (name_below (taken s))) _ (goes_times n (name_below (taken s)) (goes_name (taken s))) (λ listed. goes_give _))

  abbrev AllMarks : List (ℕ × ℕ × Reader Record) → Type 0
  AllMarks [] = Unit {0}
  AllMarks (e ∷ es) = Goes e.2 × AllMarks es

  goes_fields_of : (es : List (ℕ × ℕ × Reader Record)) → AllMarks es → (a b : ℕ) → Goes (fields_of es a b)
  unfolding fields_of
  goes_fields_of [] h a b = goes_refuse malformed
  goes_fields_of (e ∷ es) h a b = goes_if (eqb a e.0 && eqb b e.1) h.0 (goes_fields_of es h.1 a b)

  goes_marks : AllMarks (by_mark s)
  unfolding by_mark
  goes_marks = (
    goes_SD,
    (
      goes_one _ read_u32 goes_u32,
      (
        goes_one _ read_u32 goes_u32,
        (
          goes_two _ (name_below (taken s)) read_u32 (goes_name (taken s)) goes_u32,
          (
            goes_two _ (read_type s) (read_type s) goes_type goes_type,
            (
              goes_two _ (read_type s) (read_type s) goes_type goes_type,
              (
                goes_one _ (read_type s) goes_type,
                (
                  goes_one _ (read_type s) goes_type,
                  (
                    goes_TS,
                    (
                      goes_one _ (read_type s) goes_type,
                      (
                        goes_three _ read_u32 read_kind (read_type s) goes_u32 goes_kind goes_type,
                        (
                          goes_two _ read_u32 (read_type s) goes_u32 goes_type,
                          (
                            goes_two _ read_u32 (read_type s) goes_u32 goes_type,
                            (
                              goes_give _,
                              (goes_one _ (read_type s) goes_type, (goes_one _ (read_type s) goes_type, (goes_one _ (read_type s) goes_type, (goes_two _ read_u32 read_bits goes_u32 goes_bits, (goes_MJ, (goes_one _ (read_type s) goes_type, (goes_two _ (read_type s) (read_type s) goes_type goes_type, (goes_KP, tt)))))))),
                            ),
                          ),
                        ),
                      ),
                    ),
                  ),
                ),
              ),
            ),
          ),
        ),
      ),
    ),
  )

  pub goes_fields : (l : Bytes) → Onward l (read_fields s l)
  unfolding read_fields
  goes_fields = goes_then byte _ goes_byte (λ a. goes_then byte _ goes_byte (λ b. goes_fields_of (by_mark s) goes_marks a b))
