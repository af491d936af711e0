-- R-12: what the reader of types gives of bytes is the read type that `parse` gives of them, locations left out. Assumes nothing.
-- One relation, `ToldOf`, goes through the readers field by field; by the nesting that is left.
use mathlib.Core.Path.{◌≡◌, refl, ap, ◌∙◌}
use mathlib.Core.Bool.{Bool, true, false, not, ◌&&◌}
use mathlib.Core.List.{[], ◌∷◌}
use Rattle.std.specs.Prelude.{None, Some, if◌then◌else◌}
use Prim.Native.Nat.{ℕ, zero, suc, ◌+◌, ◌*◌, ◌-◌, ◌≤◌}
use native.Mathlib.Omega.{arith}
use lib.ListN.{get_or}
use lib.Dec.{eqb, leb, ltb, leb→le}
use borrow.Author.Tests.{eqb-true, le-ltb}
use Rattle.definition.specs.Types.{State, TypeName, Multiple, Builtin, ModuleType, AbilityMark, Refusal, malformed, unknown_name, doubled_reference}
use Rattle.definition.specs.Store.{taken}
use Rattle.definition.specs.Rank.{ReadType, any, unresolved, unit, open_var, parameter, reference, named, ReadTypes, no_types, ◌and◌}
use Rattle.definition.specs.Write.{Bytes}
use Rattle.definition.specs.Reader.{Read, got, not_read, Reader, give, refuse, go_on, ◌>>=◌, read_one, read_two, byte, read_u16, read_u32, byte_if, byte_to, read_bool, name_below}
use Rattle.definition.specs.Trees.{Tree, unit_tree, anything_tree, error_tree, ref_tree, param_tree, apply_tree, var_tree, Trees, no_trees, ◌then◌, is_set, is_name, mark_fits, mark_of, read_mark, read_trees, arity, under_ref, read_apply, by_tag, read_nested, read_type}
use Rattle.theorems.proofs.SoundFacts.{and_l, test}
use Rattle.theorems.proofs.CanonicalBytes.{unmark, parse_all, parse}

-- ---- a tree without its locations

unfoldable mutual
  pub read_of : Tree → ReadType
  read_of (unit_tree loc) = unit
  read_of (anything_tree loc) = any
  read_of (error_tree loc) = unresolved
  read_of (ref_tree loc m t) = reference m (read_of t)
  read_of (param_tree loc id a) = parameter id a
  read_of (apply_tree loc k n ts) = named k n (reads_of ts)
  read_of (var_tree loc v) = open_var v

  pub reads_of : Trees → ReadTypes
  reads_of no_trees = no_types
  reads_of (◌then◌ t ts) = ◌and◌ (read_of t) (reads_of ts)

-- ---- readers

-- what is given, and the rest, have Q
pub data ToldOf {A : Type 0} (Q : A → Bytes → Type 0) : Read A → Type 0 where
  told_of : {a : A} {rest : Bytes} → Q a rest → ToldOf Q (got a rest)
  none_told : {x : Refusal} → ToldOf Q (not_read x)

f_then : {A B : Type 0} {P : A → Bytes → Type 0} {Q : B → Bytes → Type 0} (m : Reader A) (f : A → Reader B) (bytes : Bytes) → ToldOf P (m bytes) → ((a : A) (rest : Bytes) → P a rest → ToldOf Q (f a rest)) → ToldOf Q ((m >>= f) bytes)
unfolding ◌>>=◌ go_on
f_then {A} {B} {P} {Q} m f bytes h k = go (m bytes) h
  where
    go : (r : Read A) → ToldOf P r → ToldOf Q (go_on r f)
    go (got a rest) (told_of p) = k a rest p
    go (not_read x) none_told = none_told

f_give : {A : Type 0} {Q : A → Bytes → Type 0} (a : A) (bytes : Bytes) → Q a bytes → ToldOf Q (give a bytes)
unfolding give
f_give a bytes q = told_of q

f_refuse : {A : Type 0} {Q : A → Bytes → Type 0} (x : Refusal) (bytes : Bytes) → ToldOf Q (refuse x bytes)
unfolding refuse
f_refuse x bytes = none_told

f_if : {A : Type 0} {Q : A → Bytes → Type 0} (b : Bool) (x y : Reader A) (bytes : Bytes) → (b ≡ true → ToldOf Q (x bytes)) → (b ≡ false → ToldOf Q (y bytes)) → ToldOf Q ((if b then x else y) bytes)
f_if true x y bytes f g = f refl
f_if false x y bytes f g = g refl

f_byte : (bytes : Bytes) → ToldOf (λ b rest. bytes ≡ b ∷ rest) (byte bytes)
unfolding byte
f_byte [] = none_told
f_byte (b ∷ bytes) = told_of refl

record Two (bytes : Bytes) (n : ℕ) (rest : Bytes) : Type 0 where
  low : ℕ
  high : ℕ
  two_are : bytes ≡ low ∷ high ∷ rest
  two_is : n ≡ low + 256 * high

record Four (bytes : Bytes) (n : ℕ) (rest : Bytes) : Type 0 where
  b0 : ℕ
  b1 : ℕ
  b2 : ℕ
  b3 : ℕ
  four_are : bytes ≡ b0 ∷ b1 ∷ b2 ∷ b3 ∷ rest
  four_is : n ≡ b0 + 256 * b1 + 65536 * b2 + 16777216 * b3

f_u16 : (bytes : Bytes) → ToldOf (Two bytes) (read_u16 bytes)
unfolding read_u16
f_u16 bytes = f_then byte _ bytes (f_byte bytes) (λ a r p. f_then byte _ r (f_byte r) (λ b r' q. f_give _ r' (record { low = a; high = b; two_are = p ∙ ap (λ (l : Bytes). a ∷ l) q; two_is = refl })))

f_u32 : (bytes : Bytes) → ToldOf (Four bytes) (read_u32 bytes)
unfolding read_u32
f_u32 bytes = f_then byte _ bytes (f_byte bytes) (λ a r p. f_then byte _ r (f_byte r) (λ b r1 q. f_then byte _ r1 (f_byte r1) (λ c r2 u. f_then byte _ r2 (f_byte r2) (λ d r3 v.
    f_give _ r3 (record { b0 = a; b1 = b; b2 = c; b3 = d; four_are = p ∙ ap (λ (l : Bytes). a ∷ l) (q ∙ ap (λ (l : Bytes). b ∷ l) (u ∙ ap (λ (l : Bytes). c ∷ l) v)); four_is = refl })))))

f_byte_if : (allowed : ℕ → Bool) (bytes : Bytes) → ToldOf (λ b rest. (bytes ≡ b ∷ rest) × (allowed b ≡ true)) (byte_if allowed bytes)
unfolding byte_if
f_byte_if allowed bytes = f_then byte _ bytes (f_byte bytes) (λ b r p. f_if (allowed b) _ _ r (λ e. f_give b r (p, e)) (λ e. f_refuse malformed r))

-- 0 or 1
bit : (b : ℕ) → leb b 1 ≡ true → ltb 0 b ≡ eqb b 1
bit zero e = refl
bit (suc zero) e = refl
bit (suc (suc b)) e = absurd (omega (arith, leb→le (suc (suc b)) 1 (test e)))

f_bool : (bytes : Bytes) → ToldOf (λ m rest. (b : ℕ) × (bytes ≡ b ∷ rest) × (m ≡ eqb b 1)) (read_bool bytes)
unfolding read_bool read_one
f_bool bytes = f_then (byte_to 1) _ bytes (f_byte_if _ bytes) (λ b r p. f_give _ r (b, p.0, bit b p.1))

f_mark : (bytes : Bytes) → ToldOf (λ k rest. (b : ℕ) × (bytes ≡ b ∷ rest) × (k ≡ unmark b)) (read_mark bytes)
unfolding read_mark mark_of
f_mark bytes = f_then byte _ bytes (f_byte bytes) (λ b r p. go b r p (eqb b 0) (leb 16 b && is_set (b - 16)) refl refl)
  where
    low_mark : (b : ℕ) → eqb b 0 ≡ true → None ≡ unmark b
    low_mark b e = let z : b ≡ 0 = eqb-true b 0 e in rw z refl

    high_mark : (b : ℕ) → leb 16 b ≡ true → Some (b - 16) ≡ unmark b
    high_mark b e = rw (le-ltb b 16 (leb→le 16 b (test e))) refl

    go : (b : ℕ) (r : Bytes) → bytes ≡ b ∷ r → (z m : Bool) → eqb b 0 ≡ z → leb 16 b && is_set (b - 16) ≡ m
        → ToldOf (λ k rest. (c : ℕ) × (bytes ≡ c ∷ rest) × (k ≡ unmark c)) ((elim (if z then Some None else if m then Some (Some (b - 16)) else None) as (λ o. Reader AbilityMark) [ None ↦ refuse malformed | Some k ↦ give k ]) r)
    go b r p true m e f = f_give None r (b, p, low_mark b e)
    go b r p false true e f = f_give (Some (b - 16)) r (b, p, high_mark b (and_l (leb 16 b) (is_set (b - 16)) f))
    go b r p false false e f = f_refuse malformed r

f_name : (known : ℕ) (bytes : Bytes) → ToldOf (Two bytes) (name_below known bytes)
unfolding name_below
f_name known bytes = f_then read_u16 _ bytes (f_u16 bytes) (λ n r p. f_if (ltb n known) _ _ r (λ e. f_give n r p) (λ e. f_refuse unknown_name r))

f_under : {Q : Tree → Bytes → Type 0} (left : ℕ) (m : Reader Tree) (bytes : Bytes) → ToldOf Q (m bytes) → ToldOf Q (under_ref left m bytes)
unfolding under_ref
f_under {Q} left m bytes h = go (ltb 0 left && eqb (get_or bytes 0 0) 1)
  where
    go : (c : Bool) → ToldOf Q (if c then not_read doubled_reference else m bytes)
    go true = none_told
    go false = h

module _ (s : State) where
  abbrev ar : TypeName → ℕ
  ar = arity s

  -- parsed in as many levels, or more
  abbrev Parses : ℕ → Bytes → Tree → Bytes → Type 0
  Parses n bytes t rest = (m : ℕ) → n ≤ m → parse ar m bytes ≡ (read_of t, rest)

  module _ (n : ℕ) (h : (bytes : Bytes) → ToldOf (Parses n bytes) (read_nested n s bytes)) where
    f_trees : (k : ℕ) (bytes : Bytes) → ToldOf (λ ts rest. (m : ℕ) → n ≤ m → parse_all (λ l. parse ar m l) k bytes ≡ (reads_of ts, rest)) (read_trees k (read_nested n s) bytes)
    unfolding read_trees reads_of
    f_trees zero bytes = f_give no_trees bytes (λ m l. refl)
    f_trees (suc k) bytes = f_then (read_nested n s) _ bytes (h bytes) (λ t r p. f_then (read_trees k (read_nested n s)) _ r (f_trees k r) (λ ts r' q. f_give (◌then◌ t ts) r' (λ m l. rw (p m l, q m l) refl)))

    module _ (loc a b c d : ℕ) where
      abbrev Parsed : ℕ → Bytes → Tree → Bytes → Type 0
      Parsed tag more t rest = (m : ℕ) → n ≤ m → parse ar (suc m) (tag ∷ a ∷ b ∷ c ∷ d ∷ more) ≡ (read_of t, rest)

      f_unit : (more : Bytes) → ToldOf (Parsed 0 more) (give (unit_tree loc) more)
      unfolding parse read_of
      f_unit more = f_give _ more (λ m l. refl)

      f_any : (more : Bytes) → ToldOf (Parsed 7 more) (give (anything_tree loc) more)
      unfolding parse read_of
      f_any more = f_give _ more (λ m l. refl)

      f_error : (more : Bytes) → ToldOf (Parsed 8 more) (give (error_tree loc) more)
      unfolding parse read_of
      f_error more = f_give _ more (λ m l. refl)

      f_ref : (more : Bytes) → ToldOf (Parsed 1 more) (read_two (ref_tree loc) read_bool (under_ref n (read_nested n s)) more)
      unfolding read_two parse read_of
      f_ref more = f_then read_bool _ more (f_bool more) (λ x r p. f_then (under_ref n (read_nested n s)) _ r (f_under n (read_nested n s) r (h r)) (λ t r' q. f_give (ref_tree loc x t) r' (λ m l. rw (p.1, p.2, q m l) refl)))

      f_param : (more : Bytes) → ToldOf (Parsed 2 more) (read_two (param_tree loc) read_u32 (byte_if is_set) more)
      unfolding read_two parse read_of
      f_param more = f_then read_u32 _ more (f_u32 more) (λ id r p. f_then (byte_if is_set) _ r (f_byte_if is_set r) (λ x r' q. f_give (param_tree loc id x) r' (λ m l. rw (p.four_are, q.0, p.four_is) refl)))

      f_var : (more : Bytes) → ToldOf (Parsed 6 more) (read_one (var_tree loc) (name_below (taken s)) more)
      unfolding read_one parse read_of
      f_var more = f_then (name_below (taken s)) _ more (f_name (taken s) more) (λ v r p. f_give (var_tree loc v) r (λ m l. rw (p.two_are, p.two_is) refl))

      f_apply : {P : Bytes → ℕ → Bytes → Type 0} (tag : ℕ) (number : Reader ℕ) (name : ℕ → TypeName) (x : Refusal) → ((bytes : Bytes) → ToldOf (P bytes) (number bytes))
          → ((mb i : ℕ) (more r r' rest : Bytes) (rs : ReadTypes) (m : ℕ) → more ≡ mb ∷ r → P r i r' → parse_all (λ l. parse ar m l) (ar (name i)) r' ≡ (rs, rest) → parse ar (suc m) (tag ∷ a ∷ b ∷ c ∷ d ∷ more) ≡ (named (unmark mb) (name i) rs, rest))
          → (more : Bytes) → ToldOf (Parsed tag more) (read_apply s (read_nested n s) loc number name x more)
      unfolding read_apply read_of
      f_apply tag number name x g join more = f_then read_mark _ more (f_mark more) (λ k r p. f_then number _ r (g r) (λ i r' q. f_if (not (is_name s (name i))) _ _ r' (λ e. f_refuse x r') (λ e. f_if (not (mark_fits k (name i))) _ _ r' (λ e'. f_refuse malformed r') (λ e'.
          f_then (read_trees (ar (name i)) (read_nested n s)) _ r' (f_trees (ar (name i)) r') (λ ts rest u. f_give (apply_tree loc k (name i) ts) rest (λ m l. join p.0 i more r r' rest (reads_of ts) m p.1 q (u m l) ∙ rw p.2 refl))))))

      f_builtin : (more : Bytes) → ToldOf (Parsed 3 more) (read_apply s (read_nested n s) loc byte Builtin malformed more)
      unfolding parse
      f_builtin = f_apply 3 byte Builtin malformed f_byte (λ mb i more r r' rest rs m e q u. rw (e, q, u) refl)

      f_list : (more : Bytes) → ToldOf (Parsed 4 more) (read_apply s (read_nested n s) loc byte Multiple malformed more)
      unfolding parse
      f_list = f_apply 4 byte Multiple malformed f_byte (λ mb i more r r' rest rs m e q u. rw (e, q, u) refl)

      f_struct : (more : Bytes) → ToldOf (Parsed 5 more) (read_apply s (read_nested n s) loc read_u16 ModuleType unknown_name more)
      unfolding parse
      f_struct = f_apply 5 read_u16 ModuleType unknown_name f_u16 (λ mb i more r r' rest rs m e q u. rw (e, q.two_are, ← q.two_is, u) refl)

      f_tag : (tag : ℕ) (more : Bytes) → ToldOf (Parsed tag more) (get_or (by_tag s (read_nested n s) loc n) tag (refuse malformed) more)
      unfolding by_tag
      f_tag zero more = f_unit more
      f_tag (suc zero) more = f_ref more
      f_tag (suc (suc zero)) more = f_param more
      f_tag (suc (suc (suc zero))) more = f_builtin more
      f_tag (suc (suc (suc (suc zero)))) more = f_list more
      f_tag (suc (suc (suc (suc (suc zero))))) more = f_struct more
      f_tag (suc (suc (suc (suc (suc (suc zero)))))) more = f_var more
      f_tag (suc (suc (suc (suc (suc (suc (suc zero))))))) more = f_any more
      f_tag (suc (suc (suc (suc (suc (suc (suc (suc zero)))))))) more = f_error more
      f_tag (suc (suc (suc (suc (suc (suc (suc (suc (suc tag))))))))) more = f_refuse malformed more

  pub nested_parses : (n : ℕ) (bytes : Bytes) → ToldOf (Parses n bytes) (read_nested n s bytes)
  unfolding read_nested
  nested_parses zero bytes = f_refuse malformed bytes
  nested_parses (suc n) bytes = f_then (byte_to 8) _ bytes (f_byte_if _ bytes) (λ tag r p. f_then read_u32 _ r (f_u32 r) (λ loc more q. moved tag r loc more p.0 q (f_tag n (nested_parses n) loc q.b0 q.b1 q.b2 q.b3 tag more)))
    where
      moved : (tag : ℕ) (r : Bytes) (loc : ℕ) (more : Bytes) → bytes ≡ tag ∷ r → (q : Four r loc more) → {x : Read Tree} → ToldOf (λ t rest. (m : ℕ) → n ≤ m → parse ar (suc m) (tag ∷ q.b0 ∷ q.b1 ∷ q.b2 ∷ q.b3 ∷ more) ≡ (read_of t, rest)) x → ToldOf (Parses (suc n) bytes) x
      moved tag r loc more e q (told_of {a = t} {rest = rest} u) = told_of (λ m l. at m l)
        where
          at : (m : ℕ) → suc n ≤ m → parse ar m bytes ≡ (read_of t, rest)
          at zero l = absurd (omega (arith, l))
          at (suc m) l = ap (λ (x : Bytes). parse ar (suc m) x) (e ∙ ap (λ (x : Bytes). tag ∷ x) q.four_are) ∙ u m (omega (arith, l))
      moved tag r loc more e q none_told = none_told

  pub type_parses : (bytes : Bytes) → ToldOf (Parses 64 bytes) (read_type s bytes)
  unfolding read_type
  type_parses bytes = nested_parses 64 bytes
