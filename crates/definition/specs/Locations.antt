-- 02, R-4: which bytes of a record and of a payload are location fields; a job, and what it is answered, with these fields set to 0.
-- Assumes nothing: these are definitions.
use Rattle.std.specs.Prelude.{◌≡◌, ◌&&◌, ◌∷◌, ◌++◌, ◌+◌, ◌-◌, ◌*◌, if◌then◌else◌}
use Rattle.definition.specs.Types.{List, [], ℕ, zero, suc, length, get_or, take, drop, replicate, eqb, Builtin, ModuleType, State, fresh}
use Rattle.definition.specs.Store.{count, taken}
use Rattle.definition.specs.Trees.{arity}
use Rattle.definition.specs.Write.{Bytes, IsBytes}
use Rattle.definition.specs.Step.{Answer, step}

-- ---- bytes and what they are
-- what the next byte is: no location, a byte of a location, or one that tells what comes after it
pub data Part : Type 0 where
  plain location : Part
  -- a type's tag, alone or in a row of types that goes on to the end. A type's parts are the row's next types, so the row needs no arities
  type types : Part
  -- a builtin's number, a list's count, the two bytes of a struct's number, TS's count of pairs
  builtin list struct pairs : Part
  struct_high : ℕ → Part
  -- the code of a failure, in a row that goes on to the end; the rule that decided a failure of code 4
  failures rule : Part
  -- the code of a variable that is not inferred, in a row that goes on to the end
  codes : Part
  -- R-8: MJ's count of pairs. In its payload a pair's number, the two bytes of its length, and a row of types of so many bytes more
  many pair : Part
  pair_low : ℕ → Part
  pair_high : ℕ → ℕ → Part
  types_in : ℕ → Part

unfoldable pub loc_field : List Part
loc_field = location ∷ location ∷ location ∷ location ∷ []

unfoldable pub u32_field : List Part
u32_field = plain ∷ plain ∷ plain ∷ plain ∷ []

-- what stands after the location of a type, tag by tag from 0 to 8
unfoldable pub tag_fields : List (List Part)
tag_fields =
    [] ∷ (plain ∷ type ∷ []) ∷ (u32_field ++ (plain ∷ [])) ∷
    (plain ∷ builtin ∷ []) ∷ (plain ∷ list ∷ []) ∷ (plain ∷ struct ∷ []) ∷
    (plain ∷ plain ∷ []) ∷ [] ∷ [] ∷ []

-- .. and how many bytes that is without the parts
unfoldable pub tag_widths : List ℕ
tag_widths = 0 ∷ 1 ∷ 5 ∷ 2 ∷ 2 ∷ 3 ∷ 2 ∷ 0 ∷ 0 ∷ []

unfoldable pub pair_fields : ℕ → List Part
pair_fields zero = []
pair_fields (suc n) = u32_field ++ type ∷ pair_fields n

unfoldable pub many_fields : ℕ → List Part
many_fields zero = []
many_fields (suc n) = plain ∷ type ∷ type ∷ many_fields n

-- a row of types of n bytes
unfoldable pub row : ℕ → List Part
row n = if eqb n 0 then [] else types_in n ∷ []

-- what stands for a byte b, 0 for a location's, and what b brings, before all that is awaited already. The state tells a struct's arity
unfoldable pub expand : State → Part → ℕ → ℕ × List Part
expand s plain b = (b, [])
expand s location b = (0, [])
expand s type b = (b, loc_field ++ get_or tag_fields b [])
expand s types b = (b, loc_field ++ replicate (get_or tag_widths b 0) plain ++ (types ∷ []))
expand s builtin b = (b, replicate (arity s (Builtin b)) type)
expand s list b = (b, replicate b type)
expand s struct b = (b, struct_high b ∷ [])
expand s (struct_high a) b = (b, replicate (arity s (ModuleType (a + 256 * b))) type)
expand s pairs b = (b, pair_fields b ++ (type ∷ []))
expand s failures b = (b, loc_field ++ (if eqb b 4 then plain ∷ type ∷ rule ∷ [] else type ∷ failures ∷ []))
expand s codes b = (b, loc_field ++ (codes ∷ []))
expand s rule b = (b, if eqb b 2 then plain ∷ failures ∷ [] else failures ∷ [])
expand s many b = (b, many_fields b)
expand s pair b = (b, pair_low b ∷ [])
expand s (pair_low number) b = (b, pair_high number b ∷ [])
expand s (pair_high number low) b = (b, (if eqb number 4 then loc_field else row (low + 256 * b)) ++ (pair ∷ []))
expand s (types_in n) b = (b, loc_field ++ replicate (get_or tag_widths b 0) plain ++ row (n - 5 - get_or tag_widths b 0))

-- the bytes with every location field set to 0. Where nothing is awaited they stay as they are
unfoldable pub blank : State → Bytes → List Part → Bytes
blank s [] awaited = []
blank s (b ∷ bytes) [] = b ∷ bytes
blank s (b ∷ bytes) (part ∷ awaited) = (expand s part b).0 ∷ blank s bytes ((expand s part b).1 ++ awaited)

-- .. but for the last n bytes, which are no types and no locations
unfoldable pub blank_before : ℕ → State → Bytes → List Part → Bytes
blank_before zero s bytes awaited = blank s bytes awaited
blank_before (suc n) s bytes awaited =
    let shown = length bytes - suc n in
    blank s (take shown bytes) awaited ++ drop shown bytes

-- ---- records
-- what stands after each mark, and what 0 shows: SD a number, RM four, CN a type without locations, SV its failures, XP a type and its codes, MJ its pairs, the others types or nothing.
-- And how many bytes of a count end what 0 to 4 show (R-9)
unfoldable pub mark_fields : List (ℕ × ℕ × List Part × List Part × ℕ)
mark_fields =
    (83, 68, [], [], 0) ∷
    (70, 86, loc_field, types ∷ [], 0) ∷
    (78, 86, loc_field, types ∷ [], 0) ∷
    (83, 78, plain ∷ plain ∷ loc_field, types ∷ [], 0) ∷
    (74, 78, type ∷ type ∷ [], types ∷ [], 0) ∷
    (83, 85, type ∷ type ∷ [], types ∷ [], 0) ∷
    (85, 70, type ∷ [], types ∷ [], 0) ∷
    (82, 68, type ∷ [], types ∷ [], 0) ∷
    (84, 83, pairs ∷ [], types ∷ [], 0) ∷
    (73, 78, type ∷ [], types ∷ [], 0) ∷
    (78, 67, loc_field ++ (plain ∷ type ∷ []), types ∷ [], 0) ∷
    (66, 67, loc_field ++ (type ∷ []), types ∷ [], 0) ∷
    (83, 67, loc_field ++ (type ∷ []), types ∷ [], 0) ∷
    (83, 86, [], failures ∷ [], 0) ∷
    (82, 77, type ∷ [], [], 0) ∷
    (67, 78, type ∷ [], [], 0) ∷
    (88, 80, type ∷ [], type ∷ codes ∷ [], 0) ∷
    (78, 76, loc_field ++ (plain ∷ plain ∷ []), types ∷ [], 0) ∷
    (77, 74, many ∷ [], pair ∷ [], 0) ∷
    (85, 76, type ∷ [], types ∷ [], 4) ∷
    (74, 76, type ∷ type ∷ [], types ∷ [], 4) ∷
    (75, 80, [], [], 0) ∷
    []

unfoldable pub after_mark : List (ℕ × ℕ × List Part × List Part × ℕ) → ℕ → ℕ → List Part × List Part × ℕ
after_mark [] a b = ([], [], 0)
after_mark ((a', b', fields, shown, count) ∷ marks) a b = if eqb a a' && eqb b b' then (fields, shown, count) else after_mark marks a b

-- what the mark of a record tells
unfoldable pub told : Bytes → List Part × List Part × ℕ
told bytes = after_mark mark_fields (get_or bytes 0 0) (get_or bytes 1 0)

-- the record with its location fields set to 0, as far as tags, counts and numbers lead, whether it is well formed or not: two records are equal but
-- for location fields if this is equal. Reading never goes further, so bytes that it does not reach may differ where these fields would be
unfoldable pub blank_record : State → Bytes → Bytes
blank_record s bytes = take 2 bytes ++ blank s (drop 2 bytes) (told bytes).0

-- what an answer shows: 0 what its mark's row says, 1 to 3 two types, 4 a location. 5 and above show nothing
unfoldable pub shown_fields : List Part → ℕ → List Part
shown_fields success number = if eqb number 0 then success else if eqb number 4 then loc_field else types ∷ []

-- the payload of the answer to a record, with its location fields set to 0
unfoldable pub blank_payload : State → Bytes → Answer → Bytes
blank_payload s bytes a = blank_before (told bytes).2 s a.payload (shown_fields (told bytes).1 a.number)

-- ---- jobs
-- records, each with the length of the answer buffer that it is lent, all location fields set to 0
unfoldable pub blank_job : State → List (Bytes × ℕ) → List (Bytes × ℕ)
blank_job s [] = []
blank_job s ((bytes, buffer) ∷ records) = (blank_record s bytes, buffer) ∷ blank_job (step s bytes buffer).state records

-- of nodes, argument places, variables, constraints and structs
unfoldable pub counts_of : State → List ℕ
counts_of s = count s ∷ length s.args ∷ taken s ∷ length s.constraints ∷ length s.structs ∷ []

-- an answer: its number, its payload with the location fields set to 0, and the counts of the state that it leaves
pub record Seen : Type 0 where
  pub number : ℕ
  pub payload : Bytes
  pub counts : List ℕ

unfoldable pub seen : State → Bytes → Answer → Seen
seen s bytes a = record { number = a.number; payload = blank_payload s bytes a; counts = counts_of a.state }

-- what a job is answered, record by record, each in the state that the last one left
unfoldable pub blank_log : State → List (Bytes × ℕ) → List Seen
blank_log s [] = []
blank_log s ((bytes, buffer) ∷ records) = let a = step s bytes buffer in seen s bytes a ∷ blank_log a.state records

-- records are bytes
abbrev pub JobOfBytes : List (Bytes × ℕ) → Type 0
JobOfBytes [] = Unit {0}
JobOfBytes (r ∷ records) = IsBytes r.0 × JobOfBytes records

-- R-4 (theorems/proofs/EraseLocations.antt): two jobs that are equal but for location fields are answered alike but for location fields
unfoldable pub LocationsDecideNothing : List (Bytes × ℕ) → List (Bytes × ℕ) → Type 0
LocationsDecideNothing job job' = JobOfBytes job → JobOfBytes job' → blank_job fresh job ≡ blank_job fresh job' → blank_log fresh job ≡ blank_log fresh job'
