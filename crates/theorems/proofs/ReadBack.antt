-- Readers on bytes that are known: what was spelled is read back. Assumes nothing.
use mathlib.Core.Path.{◌≡◌, refl, ap, ◌∙◌}
use mathlib.Core.Bool.{Bool, true, false, not, ◌&&◌}
use mathlib.Core.List.{◌∷◌, ◌++◌}
use Rattle.std.specs.Prelude.{None, Some}
use Prim.Native.Nat.{ℕ, suc, ◌+◌, ◌-◌, ◌*◌, ◌/◌, ◌%◌, ◌<◌}
use native.Mathlib.Omega.{arith}
use lib.ListN.{get_or}
use lib.Dec.{eqb, leb, ltb, ltb→lt}
use borrow.Author.Tests.{lt-ltb, le-leb, ne_eqb}
use Rattle.std.specs.Prelude.{if◌then◌else◌}
use Rattle.definition.specs.Types.{State, TypeName, AbilityMark, Refusal, malformed, doubled_reference}
use Rattle.definition.specs.Write.{Bytes, bool, mark}
use Rattle.definition.specs.Reader.{Read, got, not_read, Reader, give, refuse, go_on, ◌>>=◌, read_one, byte, read_u16, read_u32, byte_if, byte_to, read_bool, name_below}
use Rattle.definition.specs.Trees.{Tree, apply_tree, Trees, ◌then◌, is_set, is_mark, is_name, mark_fits, mark_of, read_mark, read_trees, arity, under_ref, read_apply, by_tag, read_nested, read_type}
use Rattle.definition.specs.Record.{Record, hand_back}
use Rattle.definition.specs.Sound.{is_u32}
use Rattle.theorems.proofs.DemandTracks.{never}
use Rattle.theorems.proofs.SoundFacts.{and_l, and_r, test}
use Rattle.theorems.proofs.SoundRanges.{U32, Named}

-- ---- numbers

pub u16_is : (n : ℕ) → n < 65536 → n % 256 + 256 * (n / 256 % 256) ≡ n
u16_is n h = omega arith

low_half : (n : ℕ) → n % 256 + 256 * (n / 256 % 256) ≡ n % 65536
low_half n = omega arith

halves : (n low high : ℕ) → low ≡ n % 65536 → high ≡ n / 65536 → low + 65536 * high ≡ n
halves n low high p q = omega (arith, p, q)

top_byte : (n : ℕ) → n / 16777216 ≡ n / 65536 / 256
top_byte n = omega arith

pub u32_is : (n : ℕ) → n < 4294967296 → n % 256 + 256 * (n / 256 % 256) + 65536 * (n / 65536 % 256) + 16777216 * (n / 16777216 % 256) ≡ n
u32_is n h = ap (λ (x : ℕ). n % 256 + 256 * (n / 256 % 256) + 65536 * (n / 65536 % 256) + 16777216 * (x % 256)) (top_byte n)
    ∙ gather (n % 256 + 256 * (n / 256 % 256)) (n / 65536 % 256) (n / 65536 / 256 % 256)
    ∙ halves n _ _ (low_half n) (u16_is (n / 65536) (omega arith))
  where
    gather : (a b c : ℕ) → a + 65536 * b + 16777216 * c ≡ a + 65536 * (b + 256 * c)
    gather a b c = omega arith

-- ---- readers, on bytes that are known

pub then_ok : {A B : Type 0} (m : Reader A) (f : A → Reader B) {bytes rest : Bytes} {a : A} → m bytes ≡ got a rest → (m >>= f) bytes ≡ f a rest
unfolding ◌>>=◌ go_on
then_ok m f e = ap (λ x. go_on x f) e

pub give_ok : {A : Type 0} (a : A) (bytes : Bytes) → give a bytes ≡ got a bytes
unfolding give
give_ok a bytes = refl

if_not : {A : Type 0} (b : Bool) (x y : Reader A) (bytes : Bytes) → b ≡ true → (if not b then x else y) bytes ≡ y bytes
if_not true x y bytes e = refl
if_not false x y bytes e = never (cc)

if_yes : {A : Type 0} (b : Bool) (x y : Reader A) (bytes : Bytes) → b ≡ true → (if b then x else y) bytes ≡ x bytes
if_yes true x y bytes e = refl
if_yes false x y bytes e = never (cc)

pub byte_ok : (b : ℕ) (rest : Bytes) → byte (b ∷ rest) ≡ got b rest
unfolding byte
byte_ok b rest = refl

pub byte_if_ok : (allowed : ℕ → Bool) (b : ℕ) (rest : Bytes) → allowed b ≡ true → byte_if allowed (b ∷ rest) ≡ got b rest
unfolding byte_if
byte_if_ok allowed b rest e = then_ok byte _ (byte_ok b rest) ∙ if_yes (allowed b) _ _ rest e ∙ give_ok b rest

pub u16_ok : (v : ℕ) (rest : Bytes) → v < 65536 → read_u16 (v % 256 ∷ v / 256 % 256 ∷ rest) ≡ got v rest
unfolding read_u16
u16_ok v rest h = then_ok byte _ (byte_ok _ _) ∙ then_ok byte _ (byte_ok _ _) ∙ give_ok _ rest ∙ ap (λ (n : ℕ). got n rest) (u16_is v h)

pub u32_ok : (v : ℕ) (rest : Bytes) → v < 4294967296 → read_u32 (v % 256 ∷ v / 256 % 256 ∷ v / 65536 % 256 ∷ v / 16777216 % 256 ∷ rest) ≡ got v rest
unfolding read_u32
u32_ok v rest h = then_ok byte _ (byte_ok _ _) ∙ then_ok byte _ (byte_ok _ _) ∙ then_ok byte _ (byte_ok _ _) ∙ then_ok byte _ (byte_ok _ _) ∙ give_ok _ rest ∙ ap (λ (n : ℕ). got n rest) (u32_is v h)

pub name_ok : (known v : ℕ) (rest : Bytes) → v < 65536 → v < known → name_below known (v % 256 ∷ v / 256 % 256 ∷ rest) ≡ got v rest
unfolding name_below
name_ok known v rest h l = then_ok read_u16 _ (u16_ok v rest h) ∙ if_yes (ltb v known) _ _ rest (lt-ltb v known l) ∙ give_ok v rest

pub bool_ok : (m : Bool) (rest : Bytes) → read_bool (bool m ∷ rest) ≡ got m rest
unfolding read_bool read_one bool
bool_ok true rest = then_ok (byte_to 1) _ (byte_if_ok _ 1 rest refl) ∙ give_ok _ rest
bool_ok false rest = then_ok (byte_to 1) _ (byte_if_ok _ 0 rest refl) ∙ give_ok _ rest

mark_ok : (k : AbilityMark) (rest : Bytes) → is_mark k ≡ true → read_mark (mark k ∷ rest) ≡ got k rest
unfolding read_mark mark is_mark mark_of
mark_ok None rest h = then_ok byte _ (byte_ok _ _) ∙ give_ok None rest
mark_ok (Some set) rest h = then_ok byte _ (byte_ok _ _) ∙ go (eqb (16 + set) 0) (leb 16 (16 + set)) (ne_eqb (16 + set) 0 (λ e. absurd (omega (arith, e)))) (le-leb 16 (16 + set) (omega arith))
  where
    less : 16 + set - 16 ≡ set
    less = omega arith

    go : (z l : Bool) → z ≡ false → l ≡ true → (elim (if z then Some None else if l && is_set (16 + set - 16) then Some (Some (16 + set - 16)) else None) as (λ o. Reader AbilityMark) [ None ↦ refuse malformed | Some k ↦ give k ]) rest ≡ got (Some set) rest
    go true l e f = never (cc)
    go false false e f = never (cc)
    go false true e f = rw (less, h) (give_ok (Some set) rest)

-- ---- types

pub of_u32 : (l : ℕ) → U32 l → l < 4294967296
unfolding is_u32
of_u32 l h = ltb→lt l 4294967296 (test h)

pub under_ok : (left : ℕ) (m : Reader Tree) (bytes : Bytes) → eqb (get_or bytes 0 0) 1 ≡ false → under_ref left m bytes ≡ m bytes
unfolding under_ref
under_ok left m bytes e = go (ltb 0 left) (eqb (get_or bytes 0 0) 1) e
  where
    go : (b c : Bool) → c ≡ false → (if b && c then not_read doubled_reference else m bytes) ≡ m bytes
    go true true e = never (cc)
    go true false e = refl
    go false c e = refl

module _ (s : State) where
  pub apply_ok : (loc : ℕ) (m : Reader Tree) (number : Reader ℕ) (name : ℕ → TypeName) (x : Refusal) (k : AbilityMark) (i : ℕ) {l r rest : Bytes} {ts : Trees} → Named s k (name i) → number l ≡ got i r → read_trees (arity s (name i)) m r ≡ got ts rest
      → read_apply s m loc number name x (mark k ∷ l) ≡ got (apply_tree loc k (name i) ts) rest
  unfolding read_apply
  apply_ok loc m number name x k i {l} {r} {rest} {ts} h e f =
      let marked : is_mark k ≡ true = and_l (is_mark k) (is_name s (name i)) (and_l (is_mark k && is_name s (name i)) (mark_fits k (name i)) h) in
      let known : is_name s (name i) ≡ true = and_r (is_mark k) (is_name s (name i)) (and_l (is_mark k && is_name s (name i)) (mark_fits k (name i)) h) in
      let fits : mark_fits k (name i) ≡ true = and_r (is_mark k && is_name s (name i)) (mark_fits k (name i)) h in
      then_ok read_mark _ (mark_ok k l marked) ∙ then_ok number _ e ∙ if_not (is_name s (name i)) _ _ r known ∙ if_not (mark_fits k (name i)) _ _ r fits ∙ then_ok (read_trees (arity s (name i)) m) _ f ∙ give_ok _ rest

  pub tag_ok : (n tag loc : ℕ) (more : Bytes) → leb tag 8 ≡ true → loc < 4294967296 → read_nested (suc n) s (tag ∷ loc % 256 ∷ loc / 256 % 256 ∷ loc / 65536 % 256 ∷ loc / 16777216 % 256 ∷ more) ≡ get_or (by_tag s (read_nested n s) loc n) tag (refuse malformed) more
  unfolding read_nested
  tag_ok n tag loc more e l = then_ok (byte_to 8) _ (byte_if_ok _ tag _ e) ∙ then_ok read_u32 _ (u32_ok loc more l)

  -- the record of a type that is read
  abbrev pub made : (Tree → Record) → Bytes → Read Tree → Read Record
  made make more (got t rest) = got (make t) (rest ++ more)
  made make more (not_read x) = not_read x

  pub made_is : (make : Tree → Record) (more bytes : Bytes) → hand_back more (read_one make (read_type s) bytes) ≡ made make more (read_type s bytes)
  unfolding hand_back read_one ◌>>=◌ go_on give
  made_is make more bytes = go (read_type s bytes)
    where
      go : (x : Read Tree) → hand_back more (go_on x (λ t. give (make t))) ≡ made make more x
      go (got t rest) = refl
      go (not_read x) = refl

  pub type_back : (bytes : Bytes) {x : Read Tree} → read_nested 64 s bytes ≡ x → read_type s bytes ≡ x
  unfolding read_type
  type_back bytes e = e
