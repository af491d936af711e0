-- R-12: a read type as bytes is read in one way, under given arities. Assumes nothing.
use mathlib.Core.Path.{◌≡◌, refl, sym, ap, ◌∙◌}
use mathlib.Core.Bool.{Bool, true, false}
use mathlib.Core.List.{List, [], ◌∷◌, ◌++◌, append_assoc}
use Rattle.std.specs.Prelude.{None, Some, if◌then◌else◌}
use Prim.Native.Nat.{ℕ, zero, suc, ◌+◌, ◌-◌, ◌*◌, ◌/◌, ◌%◌, ◌<◌, ◌≤◌}
use native.Mathlib.Omega.{arith}
use lib.ListN.{get_or, drop}
use lib.Dec.{eqb, ltb}
use borrow.Author.Tests.{le-ltb}
use Rattle.definition.specs.Types.{TypeName, Multiple, Builtin, ModuleType, AbilityMark}
use Rattle.definition.specs.Rank.{ReadType, any, unresolved, unit, open_var, parameter, reference, named, ReadTypes, no_types, ◌and◌}
use Rattle.definition.specs.Write.{Bytes, bool, mark}
use Rattle.theorems.proofs.ReadBack.{u16_is, u32_is}

-- ---- written, every location 0

unfoldable mutual
  pub plain : ReadType → Bytes
  plain any = 7 ∷ 0 ∷ 0 ∷ 0 ∷ 0 ∷ []
  plain unresolved = 8 ∷ 0 ∷ 0 ∷ 0 ∷ 0 ∷ []
  plain unit = 0 ∷ 0 ∷ 0 ∷ 0 ∷ 0 ∷ []
  plain (open_var v) = 6 ∷ 0 ∷ 0 ∷ 0 ∷ 0 ∷ v % 256 ∷ v / 256 % 256 ∷ []
  plain (parameter id a) = 2 ∷ 0 ∷ 0 ∷ 0 ∷ 0 ∷ id % 256 ∷ id / 256 % 256 ∷ id / 65536 % 256 ∷ id / 16777216 % 256 ∷ a ∷ []
  plain (reference m r) = 1 ∷ 0 ∷ 0 ∷ 0 ∷ 0 ∷ bool m ∷ plain r
  plain (named k (Builtin b) rs) = 3 ∷ 0 ∷ 0 ∷ 0 ∷ 0 ∷ mark k ∷ b ∷ plains rs
  plain (named k (Multiple n) rs) = 4 ∷ 0 ∷ 0 ∷ 0 ∷ 0 ∷ mark k ∷ n ∷ plains rs
  plain (named k (ModuleType n) rs) = 5 ∷ 0 ∷ 0 ∷ 0 ∷ 0 ∷ mark k ∷ n % 256 ∷ n / 256 % 256 ∷ plains rs

  pub plains : ReadTypes → Bytes
  plains no_types = []
  plains (◌and◌ r rs) = plain r ++ plains rs

-- ---- read back: at most n deep

abbrev pub unmark : ℕ → AbilityMark
unmark b = if ltb b 16 then None else Some (b - 16)

abbrev pub parse_all : (Bytes → ReadType × Bytes) → ℕ → Bytes → ReadTypes × Bytes
parse_all p zero l = (no_types, l)
parse_all p (suc k) l = (◌and◌ (p l).0 (parse_all p k (p l).1).0, (parse_all p k (p l).1).1)

abbrev pub apply_back : AbilityMark → TypeName → ReadTypes × Bytes → ReadType × Bytes
apply_back k n x = (named k n x.0, x.1)

module _ (ar : TypeName → ℕ) where
  -- tag by tag, from 0 to 8
  abbrev pub rows : (Bytes → ReadType × Bytes) → Bytes → List (ReadType × Bytes)
  rows p l =
      (unit, drop 5 l) ∷
      (reference (eqb (get_or l 5 0) 1) (p (drop 6 l)).0, (p (drop 6 l)).1) ∷
      (parameter (get_or l 5 0 + 256 * get_or l 6 0 + 65536 * get_or l 7 0 + 16777216 * get_or l 8 0) (get_or l 9 0), drop 10 l) ∷
      apply_back (unmark (get_or l 5 0)) (Builtin (get_or l 6 0)) (parse_all p (ar (Builtin (get_or l 6 0))) (drop 7 l)) ∷
      apply_back (unmark (get_or l 5 0)) (Multiple (get_or l 6 0)) (parse_all p (ar (Multiple (get_or l 6 0))) (drop 7 l)) ∷
      apply_back (unmark (get_or l 5 0)) (ModuleType (get_or l 6 0 + 256 * get_or l 7 0)) (parse_all p (ar (ModuleType (get_or l 6 0 + 256 * get_or l 7 0))) (drop 8 l)) ∷
      (open_var (get_or l 5 0 + 256 * get_or l 6 0), drop 7 l) ∷
      (any, drop 5 l) ∷
      (unresolved, drop 5 l) ∷
      []

  unfoldable pub parse : ℕ → Bytes → ReadType × Bytes
  parse zero l = (any, l)
  parse (suc n) l = get_or (rows (λ m. parse n m) l) (get_or l 0 0) (any, l)

  -- ---- what is within its fields, and has as many arguments as its name

  abbrev pub NameIn : TypeName → Type 0
  NameIn (Builtin b) = Unit {0}
  NameIn (Multiple n) = Unit {0}
  NameIn (ModuleType n) = n < 65536

  abbrev pub how_many : ReadTypes → ℕ
  how_many no_types = 0
  how_many (◌and◌ r rs) = suc (how_many rs)

  mutual
    pub data Within : ReadType → Type 0 where
      in_any : Within any
      in_error : Within unresolved
      in_unit : Within unit
      in_var : {v : ℕ} → v < 65536 → Within (open_var v)
      in_param : {id a : ℕ} → id < 4294967296 → Within (parameter id a)
      in_ref : {m : Bool} {r : ReadType} → Within r → Within (reference m r)
      in_named : {k : AbilityMark} {n : TypeName} {rs : ReadTypes} → NameIn n → how_many rs ≡ ar n → AllWithin rs → Within (named k n rs)

    pub data AllWithin : ReadTypes → Type 0 where
      in_none : AllWithin no_types
      in_each : {r : ReadType} {rs : ReadTypes} → Within r → AllWithin rs → AllWithin (◌and◌ r rs)

  mutual
    pub deep : ReadType → ℕ
    deep any = 1
    deep unresolved = 1
    deep unit = 1
    deep (open_var v) = 1
    deep (parameter id a) = 1
    deep (reference m r) = suc (deep r)
    deep (named k n rs) = suc (deeps rs)

    deeps : ReadTypes → ℕ
    deeps no_types = 0
    deeps (◌and◌ r rs) = deep r + deeps rs

  bool_is : (b : Bool) → eqb (bool b) 1 ≡ b
  unfolding bool
  bool_is true = refl
  bool_is false = refl

  mark_is : (k : AbilityMark) → unmark (mark k) ≡ k
  unfolding mark
  mark_is None = refl
  mark_is (Some set) = rw (le-ltb (16 + set) 16 (omega arith)) (ap Some (omega arith))

  mutual
    unfolding parse plain plains deep deeps

    pub parse_back : {r : ReadType} → Within r → (n : ℕ) → deep r ≤ n → (rest : Bytes) → parse n (plain r ++ rest) ≡ (r, rest)
    parse_back in_any zero d rest = absurd (omega (arith, d))
    parse_back in_any (suc n) d rest = refl
    parse_back in_error zero d rest = absurd (omega (arith, d))
    parse_back in_error (suc n) d rest = refl
    parse_back in_unit zero d rest = absurd (omega (arith, d))
    parse_back in_unit (suc n) d rest = refl
    parse_back (in_var h) zero d rest = absurd (omega (arith, d))
    parse_back (in_var {v = v} h) (suc n) d rest = rw (u16_is v h) refl
    parse_back (in_param h) zero d rest = absurd (omega (arith, d))
    parse_back (in_param {id = id} h) (suc n) d rest = rw (u32_is id h) refl
    parse_back (in_ref w) zero d rest = absurd (omega (arith, d))
    parse_back (in_ref {m = m} {r = r} w) (suc n) d rest = rw (bool_is m, parse_back w n (omega (arith, d)) rest) refl
    parse_back (in_named h c w) zero d rest = absurd (omega (arith, d))
    parse_back (in_named {k = k} {n = Builtin b} {rs = rs} h c w) (suc n) d rest = rw (mark_is k, ← c, parses_back w n (omega (arith, d)) rest) refl
    parse_back (in_named {k = k} {n = Multiple b} {rs = rs} h c w) (suc n) d rest = rw (mark_is k, ← c, parses_back w n (omega (arith, d)) rest) refl
    parse_back (in_named {k = k} {n = ModuleType b} {rs = rs} h c w) (suc n) d rest = rw (mark_is k, u16_is b h, ← c, parses_back w n (omega (arith, d)) rest) refl

    parses_back : {rs : ReadTypes} → AllWithin rs → (n : ℕ) → deeps rs ≤ n → (rest : Bytes) → parse_all (λ m. parse n m) (how_many rs) (plains rs ++ rest) ≡ (rs, rest)
    parses_back in_none n d rest = refl
    parses_back (in_each {r = r} {rs = rs} w ws) n d rest = rw (append_assoc (plain r) (plains rs) rest, parse_back w n (omega (arith, d)) (plains rs ++ rest), parses_back ws n (omega (arith, d)) rest) refl

  -- equal fronts: equal types, and equal rests
  pub plain_once : {r r' : ReadType} → Within r → Within r' → (rest rest' : Bytes) → plain r ++ rest ≡ plain r' ++ rest' → ◌≡◌ {A = ReadType × Bytes} (r, rest) (r', rest')
  plain_once {r} {r'} w w' rest rest' e =
      let n = deep r + deep r' in
      sym (parse_back w n (omega arith) rest) ∙ ap (λ (l : Bytes). parse n l) e ∙ parse_back w' n (omega arith) rest'
