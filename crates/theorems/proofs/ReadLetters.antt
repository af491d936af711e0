-- A record begins with the letters of its mark. Assumes nothing.
-- Through the reader of records, row for row: each row's reader gives records of its own letters alone.
use mathlib.Core.Path.{◌≡◌, refl}
use mathlib.Core.Bool.{Bool, true, false, ◌&&◌}
use mathlib.Core.List.{List, [], ◌∷◌}
use Prim.Native.Nat.{ℕ}
use lib.ListN.{take, drop}
use lib.Dec.{eqb, eqb→eq}
use Rattle.std.specs.Prelude.{if◌then◌else◌}
use Rattle.definition.specs.Types.{State, Refusal}
use Rattle.definition.specs.Write.{Bytes}
use Rattle.definition.specs.Reader.{Read, got, not_read, Reader, give, refuse, go_on, ◌>>=◌, read_one, read_two, read_three, byte}
use Rattle.definition.specs.Record.{Record, SD, FV, NV, SN, JN, SU, UF, RD, IN, TS, NC, BC, SC, SV, RM, CN, XP, NL, MJ, read_SD, read_TS, read_MJ, by_mark, fields_of, read_fields, max_record, hand_back, read_record, UL, JL, KP, read_KP}
use Rattle.theorems.proofs.SoundFacts.{and_l, and_r, test}

unfoldable pub letters : Record → Bytes
letters (SD abilities params) = 83 ∷ 68 ∷ []
letters (FV loc) = 70 ∷ 86 ∷ []
letters (NV loc) = 78 ∷ 86 ∷ []
letters (SN v loc) = 83 ∷ 78 ∷ []
letters (NL loc bits) = 78 ∷ 76 ∷ []
letters (JN t1 t2) = 74 ∷ 78 ∷ []
letters (SU t1 t2) = 83 ∷ 85 ∷ []
letters (UF t) = 85 ∷ 70 ∷ []
letters (RD t) = 82 ∷ 68 ∷ []
letters (IN t) = 73 ∷ 78 ∷ []
letters (TS pairs t) = 84 ∷ 83 ∷ []
letters (NC loc kind t) = 78 ∷ 67 ∷ []
letters (BC loc t) = 66 ∷ 67 ∷ []
letters (SC loc t) = 83 ∷ 67 ∷ []
letters SV = 83 ∷ 86 ∷ []
letters (RM t) = 82 ∷ 77 ∷ []
letters (CN t) = 67 ∷ 78 ∷ []
letters (XP t) = 88 ∷ 80 ∷ []
letters (MJ pairs) = 77 ∷ 74 ∷ []
letters (UL t) = 85 ∷ 76 ∷ []
letters (JL t1 t2) = 74 ∷ 76 ∷ []
letters (KP listed) = 75 ∷ 80 ∷ []

-- what is read has these letters
pub data Lettered (l : Bytes) : Read Record → Type 0 where
  lettered : {r : Record} {rest : Bytes} → letters r ≡ l → Lettered l (got r rest)
  not_lettered : {x : Refusal} → Lettered l (not_read x)

abbrev Lettering : Bytes → Reader Record → Type 0
Lettering l m = (bytes : Bytes) → Lettered l (m bytes)

module _ {l : Bytes} where
  let_give : (r : Record) → letters r ≡ l → Lettering l (give r)
  unfolding give
  let_give r e bytes = lettered e

  let_bind : {A : Type 0} (m : Reader A) (f : A → Reader Record) → ((a : A) → Lettering l (f a)) → Lettering l (m >>= f)
  unfolding ◌>>=◌ go_on
  let_bind {A} m f k bytes = go (m bytes)
    where
      go : (x : Read A) → Lettered l (go_on x f)
      go (got a rest) = k a rest
      go (not_read x) = not_lettered

  let_one : {A : Type 0} (make : A → Record) (m : Reader A) → ((a : A) → letters (make a) ≡ l) → Lettering l (read_one make m)
  unfolding read_one
  let_one make m e = let_bind _ _ (λ a. let_give _ (e a))

  let_two : {A B : Type 0} (make : A → B → Record) (m : Reader A) (n : Reader B) → ((a : A) (b : B) → letters (make a b) ≡ l) → Lettering l (read_two make m n)
  unfolding read_two
  let_two make m n e = let_bind _ _ (λ a. let_bind _ _ (λ b. let_give _ (e a b)))

  let_three : {A B C : Type 0} (make : A → B → C → Record) (m : Reader A) (n : Reader B) (o : Reader C) → ((a : A) (b : B) (c : C) → letters (make a b c) ≡ l) → Lettering l (read_three make m n o)
  unfolding read_three
  let_three make m n o e = let_bind _ _ (λ a. let_bind _ _ (λ b. let_bind _ _ (λ c. let_give _ (e a b c))))

data Rows : List (ℕ × ℕ × Reader Record) → Type 0 where
  no_rows : Rows []
  row : {a b : ℕ} {m : Reader Record} {ms : List (ℕ × ℕ × Reader Record)} → Lettering (a ∷ b ∷ []) m → Rows ms → Rows ((a, b, m) ∷ ms)

rows : (s : State) → Rows (by_mark s)
unfolding by_mark letters read_SD read_TS read_MJ read_KP
rows s =
    row (let_bind _ _ (λ a. let_bind _ _ (λ n. let_bind _ _ (λ ps. let_give _ refl)))) (row (let_one _ _ (λ l. refl)) (row (let_one _ _ (λ l. refl)) (row (let_two _ _ _ (λ v l. refl))
    (row (let_two _ _ _ (λ t u. refl)) (row (let_two _ _ _ (λ t u. refl)) (row (let_one _ _ (λ t. refl)) (row (let_one _ _ (λ t. refl))
    (row (let_bind _ _ (λ n. let_bind _ _ (λ ps. let_bind _ _ (λ t. let_give _ refl)))) (row (let_one _ _ (λ t. refl)) (row (let_three _ _ _ _ (λ l b t. refl)) (row (let_two _ _ _ (λ l t. refl)) (row (let_two _ _ _ (λ l t. refl))
    (row (let_give _ refl) (row (let_one _ _ (λ t. refl)) (row (let_one _ _ (λ t. refl)) (row (let_one _ _ (λ t. refl)) (row (let_two _ _ _ (λ l n. refl)) (row (let_bind _ _ (λ n. let_bind _ _ (λ ps. let_give _ refl))) (row (let_one _ _ (λ t. refl)) (row (let_two _ _ _ (λ t u. refl)) (row (let_bind _ _ (λ n. let_bind _ _ (λ vs. let_give _ refl))) no_rows)))))))))))))))))))))

row_at : {ms : List (ℕ × ℕ × Reader Record)} → Rows ms → (a b : ℕ) → Lettering (a ∷ b ∷ []) (fields_of ms a b)
unfolding fields_of refuse
row_at no_rows a b bytes = not_lettered
row_at (row {a = a'} {b = b'} {m = m} {ms = ms} r rows) a b bytes = go (eqb a a' && eqb b b') refl (row_at rows a b bytes)
  where
    go : (c : Bool) → eqb a a' && eqb b b' ≡ c → Lettered (a ∷ b ∷ []) (fields_of ms a b bytes) → Lettered (a ∷ b ∷ []) ((if c then m else fields_of ms a b) bytes)
    go true e k = rw (eqb→eq a a' (test (and_l (eqb a a') _ e)), eqb→eq b b' (test (and_r (eqb a a') _ e))) (r bytes)
    go false e k = k

handed : {l : Bytes} (more : Bytes) {x : Read Record} → Lettered l x → Lettered l (hand_back more x)
unfolding hand_back
handed more (lettered e) = lettered e
handed more not_lettered = not_lettered

pub read_letters : (s : State) (bytes : Bytes) → Lettered (take 2 bytes) (read_record s bytes)
unfolding read_record max_record read_fields ◌>>=◌ go_on byte hand_back
read_letters s [] = not_lettered
read_letters s (a ∷ []) = not_lettered
read_letters s (a ∷ b ∷ bytes) = handed (drop 4094 bytes) (row_at (rows s) a b (take 4094 bytes))

pub letters_are : {l : Bytes} {r : Record} {rest : Bytes} → Lettered l (got r rest) → letters r ≡ l
letters_are (lettered e) = e
