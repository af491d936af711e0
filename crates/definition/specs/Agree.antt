-- 02, R-12: when two resolved types agree, and what is claimed of CN's answers (theorems/proofs/Canonical ..). Assumes nothing: these are definitions.
use mathlib.Core.Logic.{◌≢◌, ◌↔◌}
use mathlib.Core.List.{Memᴰ}
use Rattle.std.specs.Prelude.{◌≡◌, ◌∷◌, ◌++◌, ◌+◌, ◌*◌, ◌≤◌, ◌<◌}
use Rattle.definition.specs.Types.{Bool, true, List, [], None, ℕ, suc, length, AbilityMark, TypeName, State, max_nodes, max_args, ok}
use Rattle.definition.specs.Store.{count, taken, type_at, get}
use Rattle.definition.specs.Rank.{ReadType, any, unresolved, unit, open_var, parameter, reference, named, ReadTypes, no_types, ◌and◌, Reads, Meets}
use Rattle.definition.specs.Write.{Bytes, IsBytes}
use Rattle.definition.specs.Canonical.{number_of, meet}
use Rattle.definition.specs.Reader.{got}
use Rattle.definition.specs.Record.{CN, read_record}
use Rattle.definition.specs.Trees.{Tree}
use Rattle.definition.specs.Build.{build}
use Rattle.definition.specs.Sound.{sound}
use Rattle.definition.specs.Step.{Answer, step}

-- ---- read types, which have no locations, equal but for a one-to-one renaming of unbound variables
unfoldable mutual
  pub rename : (ℕ → ℕ) → ReadType → ReadType
  rename f any = any
  rename f unresolved = unresolved
  rename f unit = unit
  rename f (open_var v) = open_var (f v)
  rename f (parameter id a) = parameter id a
  rename f (reference m r) = reference m (rename f r)
  rename f (named k n rs) = named k n (rename_all f rs)

  pub rename_all : (ℕ → ℕ) → ReadTypes → ReadTypes
  rename_all f no_types = no_types
  rename_all f (◌and◌ r rs) = ◌and◌ (rename f r) (rename_all f rs)

unfoldable mutual
  pub variables : ReadType → List ℕ
  variables any = []
  variables unresolved = []
  variables unit = []
  variables (open_var v) = v ∷ []
  variables (parameter id a) = []
  variables (reference m r) = variables r
  variables (named k n rs) = variables_all rs

  pub variables_all : ReadTypes → List ℕ
  variables_all no_types = []
  variables_all (◌and◌ r rs) = variables r ++ variables_all rs

pub record Agree (r r' : ReadType) : Type 0 where
  pub renaming : ℕ → ℕ
  pub one_to_one : (v w : ℕ) → Memᴰ v (variables r) → Memᴰ w (variables r) → renaming v ≡ renaming w → v ≡ w
  pub renamed : rename renaming r ≡ r'

-- the variables of a type in the order of their first appearance
abbrev pub meet_all : List ℕ → List ℕ → List ℕ
meet_all met [] = met
meet_all met (v ∷ vs) = meet_all (meet met v) vs

abbrev pub met_in : ReadType → List ℕ
met_in r = meet_all [] (variables r)

-- ---- what a record can carry
abbrev pub NoReference : ReadType → Type 0
NoReference any = Unit {0}
NoReference unresolved = Unit {0}
NoReference unit = Unit {0}
NoReference (open_var v) = Unit {0}
NoReference (parameter id a) = Unit {0}
NoReference (reference m r) = ⊥
NoReference (named k n rs) = Unit {0}

-- nested at most n deep, and no reference right under a reference
mutual
  pub data Nested : ℕ → ReadType → Type 0 where
    n_any : {n : ℕ} → Nested (suc n) any
    n_error : {n : ℕ} → Nested (suc n) unresolved
    n_unit : {n : ℕ} → Nested (suc n) unit
    n_var : {n v : ℕ} → Nested (suc n) (open_var v)
    n_param : {n id a : ℕ} → Nested (suc n) (parameter id a)
    n_ref : {n : ℕ} {m : Bool} {r : ReadType} → NoReference r → Nested n r → Nested (suc n) (reference m r)
    n_named : {n : ℕ} {k : AbilityMark} {c : TypeName} {rs : ReadTypes} → AllNested n rs → Nested (suc n) (named k c rs)

  pub data AllNested : ℕ → ReadTypes → Type 0 where
    n_none : {n : ℕ} → AllNested n no_types
    n_each : {n : ℕ} {r : ReadType} {rs : ReadTypes} → Nested n r → AllNested n rs → AllNested n (◌and◌ r rs)

-- the nodes that reading it takes, one a tag, and the argument places
unfoldable mutual
  pub tags : ReadType → ℕ
  tags any = 1
  tags unresolved = 1
  tags unit = 1
  tags (open_var v) = 1
  tags (parameter id a) = 1
  tags (reference m r) = suc (tags r)
  tags (named k n rs) = suc (tags_all rs)

  pub tags_all : ReadTypes → ℕ
  tags_all no_types = 0
  tags_all (◌and◌ r rs) = tags r + tags_all rs

unfoldable mutual
  pub places : ReadType → ℕ
  places any = 0
  places unresolved = 0
  places unit = 0
  places (open_var v) = 0
  places (parameter id a) = 0
  places (reference m r) = places r
  places (named k n rs) = places_all rs

  -- one an argument, and those below
  pub places_all : ReadTypes → ℕ
  places_all no_types = 0
  places_all (◌and◌ r rs) = suc (places r + places_all rs)

-- ---- what is claimed
-- equal numbers, payloads of equal length, equal states
pub record AsRD (a b : Answer) : Type 0 where
  pub same_number : a.number ≡ b.number
  pub same_length : length a.payload ≡ length b.payload
  pub same_state : a.state ≡ b.state

-- CN beside RD of the same type
unfoldable pub CNAsRD : State → Type 0
CNAsRD s = (bytes : Bytes) (buffer : ℕ) → AsRD (step s (67 ∷ 78 ∷ bytes) buffer) (step s (82 ∷ 68 ∷ bytes) buffer)

-- CN of these bytes answers 0 with p in s, and its type is read as r
pub record Spells (s : State) (bytes : Bytes) (buffer : ℕ) (p : Bytes) (r : ReadType) : Type 0 where
  pub are_bytes : IsBytes bytes
  pub tree : Tree
  pub is_CN : read_record s bytes ≡ got (CN tree) []
  pub number : (step s bytes buffer).number ≡ 0
  pub payload : (step s bytes buffer).payload ≡ p
  pub placed : State
  pub node : ℕ
  pub build_gives : build tree s ≡ ok (placed, node)
  pub reads : Reads placed (type_at placed node) r

-- every CN that answers 0 is such a one
unfoldable pub CNResolves : State → Type 0
CNResolves s = (bytes : Bytes) (buffer : ℕ) (tree : Tree) → IsBytes bytes → read_record s bytes ≡ got (CN tree) [] → (step s bytes buffer).number ≡ 0 → (r : ReadType) × Spells s bytes buffer (step s bytes buffer).payload r

-- under equal declarations the bytes of two answers 0 are equal exactly when the resolved types agree
unfoldable pub OneSpelling : State → State → Type 0
OneSpelling s s' = (bytes bytes' p p' : Bytes) (buffer buffer' : ℕ) (r r' : ReadType) → s.structs ≡ s'.structs → Spells s bytes buffer p r → Spells s' bytes' buffer' p' r' → (p ≡ p') ↔ Agree r r'

-- p is carried by a CN record that s' reads whole and has nodes for, and the variables in it are unbound there
pub record Carried (s' : State) (p : Bytes) : Type 0 where
  pub tree : Tree
  pub is_CN : read_record s' (67 ∷ 78 ∷ p) ≡ got (CN tree) []
  pub placed : State
  pub node : ℕ
  pub build_gives : build tree s' ≡ ok (placed, node)
  pub unbound_there : (v : ℕ) → Meets placed v (type_at placed node) → get s' v ≡ None

-- it is answered with p again, or with 7
unfoldable pub CNAgain : State → State → Type 0
CNAgain s s' = (bytes p : Bytes) (buffer buffer' : ℕ) (r : ReadType) → s.structs ≡ s'.structs → Spells s bytes buffer p r → Carried s' p → sound s' ≡ true → 4096 ≤ buffer'
    → (step s' (67 ∷ 78 ∷ p) buffer').number ≢ 7 → ((step s' (67 ∷ 78 ∷ p) buffer').number ≡ 0) × ((step s' (67 ∷ 78 ∷ p) buffer').payload ≡ p)

-- not with 7 where, beside what reading takes, as much again is left
unfoldable pub CNRoom : State → Type 0
CNRoom s' = (p : Bytes) (buffer : ℕ) (c : Carried s' p) → 2 * count c.placed ≤ max_nodes + count s' → 2 * length c.placed.args ≤ max_args + length s'.args → (step s' (67 ∷ 78 ∷ p) buffer).number ≢ 7

-- p can be carried where it fits a record, there is room to read it, and the variables of its numbers are taken and unbound
unfoldable pub CNCarried : State → State → Type 0
CNCarried s s' = (bytes p : Bytes) (buffer : ℕ) (r : ReadType) → s.structs ≡ s'.structs → Spells s bytes buffer p r → sound s' ≡ true → length p ≤ 4094 → Nested 64 r
    → count s' + tags r ≤ max_nodes → length s'.args + places r ≤ max_args
    → ((v : ℕ) → Memᴰ v (variables r) → (number_of (met_in r) v < taken s') × (get s' (number_of (met_in r) v) ≡ None)) → Carried s' p
