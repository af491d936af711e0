-- 02, R-9: UL and JL beside UF and JN of the same bytes. The claims, proved as `ul_is_uf` and `jl_is_jn` in theorems/proofs/LinksRecords.antt. Assumes nothing: these are definitions.
use Rattle.std.specs.Prelude.{◌≤◌, ◌<◌, ◌≡◌, ◌∷◌, ◌++◌}
use Rattle.definition.specs.Types.{List, [], ℕ, length, State, ok, answer_too_long}
use Rattle.definition.specs.Subst.{links_of}
use Rattle.definition.specs.Links.{join_links}
use Rattle.definition.specs.Write.{Bytes, u32}
use Rattle.definition.specs.Reader.{got}
use Rattle.definition.specs.Record.{JN, UF, read_record}
use Rattle.definition.specs.Trees.{Tree}
use Rattle.definition.specs.Build.{build}
use Rattle.definition.specs.Step.{Answer, refusal, step}

-- the answer a, and one that counts beside it: 0 to 4 with a number of links behind, for which P holds and which a u32 holds; 14 where payload and count are above
-- 4,096 bytes; a refusal as it is
pub data Counts (P : ℕ → Type 0) (s : State) (a : Answer) : Answer → Type 0 where
  count_behind : {n : ℕ} → a.number ≤ 4 → length a.payload ≤ 4092 → P n → n < 4294967296 → Counts P s a (record { number = a.number; payload = a.payload ++ u32 n; state = a.state })
  no_room : a.number ≤ 4 → 4092 < length a.payload → Counts P s a (refusal s answer_too_long)
  as_refused : 4 < a.number → Counts P s a a

-- the links of UF's type, once it is read and placed
pub data LinksOfOne (s : State) (fields : Bytes) : ℕ → Type 0 where
  of_the_type : {t : Tree} {s' : State} {ty : ℕ} → read_record s (85 ∷ 70 ∷ fields) ≡ got (UF t) [] → build t s ≡ ok (s', ty) → LinksOfOne s fields (links_of s' ty)

-- those of the merges of JN's join
pub data LinksOfTwo (s : State) (fields : Bytes) : ℕ → Type 0 where
  of_the_merges : {t1 t2 : Tree} {s1 s2 : State} {lhs rhs : ℕ} → read_record s (74 ∷ 78 ∷ fields) ≡ got (JN t1 t2) [] → build t1 s ≡ ok (s1, lhs) → build t2 s1 ≡ ok (s2, rhs)
      → LinksOfTwo s fields (join_links s2 lhs rhs)

unfoldable pub ULIsUF : State → Type 0
ULIsUF s = (fields : Bytes) (buffer : ℕ) → Counts (LinksOfOne s fields) s (step s (85 ∷ 70 ∷ fields) buffer) (step s (85 ∷ 76 ∷ fields) buffer)

unfoldable pub JLIsJN : State → Type 0
JLIsJN s = (fields : Bytes) (buffer : ℕ) → Counts (LinksOfTwo s fields) s (step s (74 ∷ 78 ∷ fields) buffer) (step s (74 ∷ 76 ∷ fields) buffer)
