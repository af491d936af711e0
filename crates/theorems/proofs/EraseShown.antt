-- What the answer 0 to a record shows, by the record that is read: as the table of marks tells it. Assumes nothing.
-- By mark, row for row, through the reader of records: the mark that is read is the one that the table tells.
use mathlib.Core.Path.{◌≡◌, refl}
use mathlib.Core.Bool.{Bool, true, false, ◌&&◌}
use mathlib.Core.List.{List, [], ◌∷◌}
use Prim.Native.Nat.{ℕ}
use lib.ListN.{take, drop}
use lib.Dec.{eqb}
use Rattle.std.specs.Prelude.{if◌then◌else◌}
use Rattle.definition.specs.Types.{State, Refusal}
use Rattle.definition.specs.Write.{Bytes}
use Rattle.definition.specs.Reader.{Read, got, not_read, Reader, give, refuse, go_on, ◌>>=◌, byte, read_one, read_two, read_three}
use Rattle.definition.specs.Record.{Record, SD, FV, NV, SN, JN, SU, UF, RD, IN, TS, NC, BC, SC, SV, RM, CN, XP, read_SD, read_TS, by_mark, fields_of, read_fields, max_record, hand_back, read_record, NL, MJ, read_MJ, UL, JL, KP, read_KP}
use Rattle.definition.specs.Locations.{Part, type, types, codes, failures, mark_fields, after_mark, told, pair}
use Rattle.definition.specs.Step.{Apart, as_others, many, links_of_one, links_of_two, apart, keeps}

unfoldable pub success_fields : Record → List Part
success_fields (SD abilities params) = []
success_fields (FV loc) = types ∷ []
success_fields (NV loc) = types ∷ []
success_fields (SN v loc) = types ∷ []
success_fields (NL loc bits) = types ∷ []
success_fields (JN t1 t2) = types ∷ []
success_fields (SU t1 t2) = types ∷ []
success_fields (UF t) = types ∷ []
success_fields (RD t) = types ∷ []
success_fields (IN t) = types ∷ []
success_fields (TS args t) = types ∷ []
success_fields (NC loc kind t) = types ∷ []
success_fields (BC loc t) = types ∷ []
success_fields (SC loc t) = types ∷ []
success_fields SV = failures ∷ []
success_fields (RM t) = []
success_fields (CN t) = []
success_fields (XP t) = type ∷ codes ∷ []
success_fields (MJ ps) = pair ∷ []
success_fields (UL t) = types ∷ []
success_fields (JL t1 t2) = types ∷ []
success_fields (KP listed) = []

-- how many bytes of a count stand behind what it shows
unfoldable pub count_width : Apart → ℕ
count_width as_others = 0
count_width (many ps) = 0
count_width (links_of_one t) = 4
count_width (links_of_two t1 t2) = 4
count_width (keeps listed) = 0

unfoldable pub shown_of : Record → List Part × ℕ
shown_of r = (success_fields r, count_width (apart r))

-- the record, if one is read, shows this
pub data Shows (shown : List Part × ℕ) : Read Record → Type 0 where
  shows : {r : Record} {rest : Bytes} → shown_of r ≡ shown → Shows shown (got r rest)
  shows_none : {x : Refusal} → Shows shown (not_read x)

abbrev Showing : List Part × ℕ → Reader Record → Type 0
Showing shown m = (bytes : Bytes) → Shows shown (m bytes)

module _ {shown : List Part × ℕ} where
  sh_give : (r : Record) → shown_of r ≡ shown → Showing shown (give r)
  unfolding give
  sh_give r e bytes = shows e

  sh_bind : {A : Type 0} (m : Reader A) (f : A → Reader Record) → ((a : A) → Showing shown (f a)) → Showing shown (m >>= f)
  unfolding ◌>>=◌ go_on
  sh_bind {A} m f k bytes = go (m bytes)
    where
      go : (x : Read A) → Shows shown (go_on x f)
      go (got a rest) = k a rest
      go (not_read x) = shows_none

  sh_one : {A : Type 0} (make : A → Record) (m : Reader A) → ((a : A) → shown_of (make a) ≡ shown) → Showing shown (read_one make m)
  unfolding read_one
  sh_one make m e = sh_bind _ _ (λ a. sh_give _ (e a))

  sh_two : {A B : Type 0} (make : A → B → Record) (m : Reader A) (n : Reader B) → ((a : A) (b : B) → shown_of (make a b) ≡ shown) → Showing shown (read_two make m n)
  unfolding read_two
  sh_two make m n e = sh_bind _ _ (λ a. sh_bind _ _ (λ b. sh_give _ (e a b)))

  sh_three : {A B C : Type 0} (make : A → B → C → Record) (m : Reader A) (n : Reader B) (o : Reader C) → ((a : A) (b : B) (c : C) → shown_of (make a b c) ≡ shown)
      → Showing shown (read_three make m n o)
  unfolding read_three
  sh_three make m n o e = sh_bind _ _ (λ a. sh_bind _ _ (λ b. sh_bind _ _ (λ c. sh_give _ (e a b c))))

-- by mark, row for row
data Rows : List (ℕ × ℕ × Reader Record) → List (ℕ × ℕ × List Part × List Part × ℕ) → Type 0 where
  no_rows : Rows [] []
  row : {a b : ℕ} {m : Reader Record} {ps shown : List Part} {n : ℕ} {ms : List (ℕ × ℕ × Reader Record)} {pss : List (ℕ × ℕ × List Part × List Part × ℕ)} → Showing (shown, n) m → Rows ms pss
      → Rows ((a, b, m) ∷ ms) ((a, b, ps, shown, n) ∷ pss)

-- what is shown, of a row's
abbrev pub to_show : List Part × List Part × ℕ → List Part × ℕ
to_show of_mark = (of_mark.1, of_mark.2)

row_at : {ms : List (ℕ × ℕ × Reader Record)} {pss : List (ℕ × ℕ × List Part × List Part × ℕ)} → Rows ms pss → (a b : ℕ) → Showing (to_show (after_mark pss a b)) (fields_of ms a b)
unfolding after_mark fields_of refuse
row_at no_rows a b = λ bytes. shows_none
row_at (row {a = a'} {b = b'} {m = m} {ps = ps} {shown = shown} {n = n} {ms = ms} {pss = pss} r rows) a b = go (eqb a a' && eqb b b') (row_at rows a b)
  where
    go : (c : Bool) → Showing (to_show (after_mark pss a b)) (fields_of ms a b) → Showing (to_show (if c then (ps, shown, n) else after_mark pss a b)) (if c then m else fields_of ms a b)
    go true q = r
    go false q = q

rows : (s : State) → Rows (by_mark s) mark_fields
unfolding by_mark mark_fields shown_of success_fields count_width apart read_SD read_TS read_MJ read_KP
rows s =
    row (sh_bind _ _ (λ a. sh_bind _ _ (λ n. sh_bind _ _ (λ ps. sh_give _ refl)))) (row (sh_one _ _ (λ l. refl)) (row (sh_one _ _ (λ l. refl)) (row (sh_two _ _ _ (λ v l. refl))
    (row (sh_two _ _ _ (λ t u. refl)) (row (sh_two _ _ _ (λ t u. refl)) (row (sh_one _ _ (λ t. refl)) (row (sh_one _ _ (λ t. refl))
    (row (sh_bind _ _ (λ n. sh_bind _ _ (λ ps. sh_bind _ _ (λ t. sh_give _ refl)))) (row (sh_one _ _ (λ t. refl)) (row (sh_three _ _ _ _ (λ l k t. refl)) (row (sh_two _ _ _ (λ l t. refl)) (row (sh_two _ _ _ (λ l t. refl))
    (row (sh_give _ refl) (row (sh_one _ _ (λ t. refl)) (row (sh_one _ _ (λ t. refl)) (row (sh_one _ _ (λ t. refl)) (row (sh_two _ _ _ (λ l n. refl)) (row (sh_bind _ _ (λ n. sh_bind _ _ (λ ps. sh_give _ refl))) (row (sh_one _ _ (λ t. refl)) (row (sh_two _ _ _ (λ t u. refl)) (row (sh_bind _ _ (λ n. sh_bind _ _ (λ vs. sh_give _ refl))) no_rows)))))))))))))))))))))

handed : {shown : List Part × ℕ} (more : Bytes) {x : Read Record} → Shows shown x → Shows shown (hand_back more x)
unfolding hand_back
handed more (shows e) = shows e
handed more shows_none = shows_none

pub read_shows : (s : State) (bytes : Bytes) → Shows (to_show (told bytes)) (read_record s bytes)
unfolding read_record max_record read_fields ◌>>=◌ go_on byte hand_back told
read_shows s [] = shows_none
read_shows s (a ∷ []) = shows_none
read_shows s (a ∷ b ∷ bytes) = handed (drop 4094 bytes) (row_at (rows s) a b (take 4094 bytes))
