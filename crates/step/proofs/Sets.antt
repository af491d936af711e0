-- The definition reads no record SD whose set is above 15: so much of the field `inside` of a RecordIs follows from its field `is`. Assumes nothing.
use mathlib.Core.Path.{◌≡◌, refl, sym, ap, ◌∙◌, subst}
use mathlib.Core.Bool.{Bool, true, false}
use mathlib.Core.List.{List, [], ◌∷◌}
use Prim.Native.Nat.{ℕ, ◌≤◌}
use native.Mathlib.Omega.{arith}
use lib.ListN.{length, take, drop}
use lib.Dec.{leb, leb→le}
use Rattle.std.specs.Prelude as std
use Rattle.std.specs.Prelude.{if◌then◌else◌, Option, Some, None, Ok, Err}
use Rattle.definition.specs.Types.{State, Struct, malformed, ok}
use Rattle.definition.specs.Types as t
use Rattle.definition.specs.Write.{Bytes}
use Rattle.definition.specs.Reader.{Read, got, not_read, Reader, give, refuse, go_on, ◌>>=◌, byte, byte_if}
use Rattle.definition.specs.Trees.{is_set}
use Rattle.definition.specs.Record as d
use Rattle.definition.specs.Record.{Record, read_SD, by_mark, fields_of, read_fields, max_record, hand_back, read_record}
use Rattle.theorems.proofs.SoundFacts.{test}
use Rattle.theorems.proofs.ReadLetters.{letters, Lettered, read_letters, letters_are}
use Rattle.refusals.specs.declared.Refusal.{Refusal}
use Rattle.table.specs.State.{Grown, Declares}
use Rattle.table.specs.Did.{held, tables, Linked}
use Rattle.table.specs.declared.state.State.{State as Table}
use Rattle.heads.proofs.Heads.{declares_self}
use Rattle.reader.specs.Taken.{place_read, PlacedSo}
use Rattle.fields.specs.declared.What.{What}
use Rattle.fields.specs.declared.What.TheVariants as q
use Rattle.fields.specs.declared.Fields.{Fields}
use Rattle.fields.specs.Noded.{Shape, declares, solves, expands, none, one, both, after_pairs, all_pairs, keeps, shape, place_record, noded, params_of, fields_as, WhatIn, RecordIs}
use Rattle.step.proofs.Reading.{got_is}
use Rattle.step.proofs.Placing.{placed_SD}

-- ---- a set that is read

data Small : Read Record → Type 0 where
  small : {a : ℕ} {ps : List ℕ} {rest : Bytes} → a ≤ 15 → Small (got (d.SD a ps) rest)
  unread : {x : t.Refusal} → Small (not_read x)

small_is : {a : ℕ} {ps : List ℕ} {rest : Bytes} → Small (got (d.SD a ps) rest) → a ≤ 15
small_is (small l) = l

handed : (more : Bytes) {x : Read Record} → Small x → Small (hand_back more x)
unfolding hand_back
handed more (small l) = small l
handed more unread = unread

small_then : {A : Type 0} (m : Reader A) (f : A → Reader Record) → ((a : A) (l : Bytes) → Small (f a l)) → (l : Bytes) → Small ((m >>= f) l)
unfolding ◌>>=◌ go_on
small_then {A} m f k l = go (m l)
  where
    go : (x : Read A) → Small (go_on x f)
    go (got a rest) = k a rest
    go (not_read x) = unread

set_first : (f : ℕ → Reader Record) → ((a : ℕ) → a ≤ 15 → (l : Bytes) → Small (f a l)) → (l : Bytes) → Small ((byte_if is_set >>= f) l)
unfolding ◌>>=◌ go_on byte_if byte give refuse
set_first f k [] = unread
set_first f k (b ∷ l) = go (leb b 15) refl
  where
    go : (c : Bool) → leb b 15 ≡ c → Small (go_on ((if c then give b else refuse malformed) l) f)
    go true e = k b (leb→le b 15 (test e)) l
    go false e = unread

given : (a : ℕ) (ps : List ℕ) → a ≤ 15 → (l : Bytes) → Small (give (d.SD a ps) l)
unfolding give
given a ps h l = small h

-- .. in what is placed of it
abbrev SetOf : Shape → Type 0
SetOf (declares a ps) = a ≤ 15
SetOf solves = Unit {0}
SetOf (expands t) = Unit {0}
SetOf (none r) = Unit {0}
SetOf (one t f) = Unit {0}
SetOf (both t u f) = Unit {0}
SetOf (after_pairs ps t f) = Unit {0}
SetOf (all_pairs ps) = Unit {0}
SetOf (keeps listed) = Unit {0}

module _ (s : State) where
  read_small : (l : Bytes) → Small (read_SD s l)
  unfolding read_SD
  read_small = set_first _ (λ a h. small_then _ _ (λ n. small_then _ _ (λ ps. given a ps h)))

  -- .. of bytes that begin with SD's letters
  begins_SD : (bytes : Bytes) → Small (read_record s (83 ∷ 68 ∷ bytes))
  unfolding read_record max_record read_fields ◌>>=◌ go_on byte by_mark fields_of
  begins_SD bytes = handed (drop 4094 bytes) (read_small (take 4094 bytes))

  letters_small : (bytes : Bytes) → 83 ∷ 68 ∷ [] ≡ take 2 bytes → Small (read_record s bytes)
  letters_small [] e = absurd (omega (arith, ap (λ (l : List ℕ). length l) e))
  letters_small (a ∷ []) e = absurd (omega (arith, ap (λ (l : List ℕ). length l) e))
  letters_small (a ∷ b ∷ bytes) e =
      let z : 83 ∷ 68 ∷ bytes ≡ a ∷ b ∷ bytes = cc in
      subst (λ (l : Bytes). Small (read_record s l)) z (begins_SD bytes)

  set_read : (bytes : Bytes) (x : Record) (rest : Bytes) → read_record s bytes ≡ got x rest → SetOf (shape x)
  unfolding letters
  set_read bytes (d.SD a ps) rest e =
      small_is (subst (λ (y : Read Record). Small y) e (letters_small bytes (letters_are (subst (λ (y : Read Record). Lettered (take 2 bytes) y) e (read_letters s bytes)))))
  set_read bytes (d.FV loc) rest e = tt
  set_read bytes (d.NV loc) rest e = tt
  set_read bytes (d.SN v loc) rest e = tt
  set_read bytes (d.NL loc bits) rest e = tt
  set_read bytes (d.JN t u) rest e = tt
  set_read bytes (d.SU t u) rest e = tt
  set_read bytes (d.UF t) rest e = tt
  set_read bytes (d.RD t) rest e = tt
  set_read bytes (d.IN t) rest e = tt
  set_read bytes (d.TS pairs t) rest e = tt
  set_read bytes (d.NC loc kind t) rest e = tt
  set_read bytes (d.BC loc t) rest e = tt
  set_read bytes (d.SC loc t) rest e = tt
  set_read bytes d.SV rest e = tt
  set_read bytes (d.RM t) rest e = tt
  set_read bytes (d.CN t) rest e = tt
  set_read bytes (d.XP t) rest e = tt
  set_read bytes (d.MJ pairs) rest e = tt
  set_read bytes (d.UL t) rest e = tt
  set_read bytes (d.JL t u) rest e = tt
  set_read bytes (d.KP listed) rest e = tt

-- ---- .. by a RecordIs

-- r is what the definition reads of b from place `start` on, whatever the declarations: the field `is` of a RecordIs
abbrev pub ReadAs : List ℕ → Table → List ℕ → ℕ → Table → Fields → Type 0
ReadAs names st b start t r =
    (ds : List Struct) → Declares st.words.now st.used ds
    → fields_as names r.read (held t ds) (drop r.next b) ≡ place_read false place_record (read_record (held st ds) (drop start b)) (held st ds)

-- WhatIn but for SD's set
abbrev pub PartsIn : List ℕ → ℕ → What → Type 0
PartsIn names n (q.SD abilities ps) = ps.many ≤ 8
PartsIn names n q.SV = WhatIn names n q.SV
PartsIn names n (q.XP t) = WhatIn names n (q.XP t)
PartsIn names n (q.MJ k) = WhatIn names n (q.MJ k)
PartsIn names n (q.KP k) = WhatIn names n (q.KP k)
PartsIn names n (q.Bind x) = WhatIn names n (q.Bind x)
PartsIn names n (q.Look x) = WhatIn names n (q.Look x)
PartsIn names n (q.Add x) = WhatIn names n (q.Add x)

module _ (names : List ℕ) (st : Table) (b : List ℕ) (start : ℕ) (t : Table) (r : Fields) (is : ReadAs names st b start t r) where
  with_set : (n : ℕ) (x : What) → r.read ≡ Ok (Some x) → PartsIn names n x → WhatIn names n x
  with_set n (q.SD abilities ps) e i =
      let ds : List Struct = (tables st).structs in
      let g = got_is (read_record (held st ds) (drop start b)) (ok (held t ds, noded names (q.SD abilities ps))) (drop r.next b) (held st ds)
      (ap (λ (p : std.Result (Option What) Refusal). fields_as names p (held t ds) (drop r.next b)) (sym e) ∙ is ds (declares_self st.words.now st.used)) in
      (subst (λ (h : Shape). SetOf h) (placed_SD g.what (held st ds) (held t ds) abilities.0 (params_of ps) g.placed).0 (set_read (held st ds) (drop start b) g.what _ g.read), i)
  with_set n q.SV e i = i
  with_set n (q.XP t) e i = i
  with_set n (q.MJ k) e i = i
  with_set n (q.KP k) e i = i
  with_set n (q.Bind x) e i = i
  with_set n (q.Look x) e i = i
  with_set n (q.Add x) e i = i

  inside_is : PlacedSo r.read (PartsIn names t.used.nodes) → PlacedSo r.read (WhatIn names t.used.nodes)
  inside_is inside = go r.read refl inside
    where
      go : (p : std.Result (Option What) Refusal) → r.read ≡ p → PlacedSo p (PartsIn names t.used.nodes) → PlacedSo p (WhatIn names t.used.nodes)
      go (Ok (Some x)) e i = with_set t.used.nodes x e i
      go (Ok None) e i = tt
      go (Err x) e i = tt

pub record_is : {names : List ℕ} {st : Table} {b : List ℕ} {start : ℕ} {t : Table} {r : Fields} → Linked st t → Grown (tables st) (tables t) → (tables t).structs ≡ (tables st).structs
    → PlacedSo r.read (PartsIn names t.used.nodes) → r.next ≤ length b → ReadAs names st b start t r → RecordIs names st b start t r
record_is {names} {st} {b} {start} {t} {r} same grown structs inside within is =
    record { same = same; grown = grown; structs = structs; inside = inside_is names st b start t r is inside; within = within; is = is }
