-- The loop over MJ's pairs: where it begins, a turn, an early end, and all of them. Assumes nothing.
use mathlib.Core.Path.{◌≡◌, refl, sym, ap, ◌∙◌}
use mathlib.Core.Bool.{Bool, true, false}
use mathlib.Core.List.{List, [], ◌∷◌, ◌++◌, append-nil, append_assoc}
use Prim.Native.Nat.{ℕ, zero, suc, ◌+◌, ◌*◌, ◌-◌, ◌≤◌, ◌<◌}
use native.Mathlib.Nat.{sub-zero}
use native.Mathlib.Numerals.{add-one}
use native.Mathlib.Decide.{dec_lt}
use native.Mathlib.Omega.{arith}
use lib.ListN.{length, get_or, set, length-set}
use lib.Seq.{get_or-set_same, get_or-set_other}
use Rattle.std.specs.Prelude.{Option, Some, None, Ok, Err, is_none, unwrap_or}
use Rattle.definition.specs.Types as types
use Rattle.definition.specs.Types.{State, Struct, Result, ok, err, refused, ◌>>=◌}
use Rattle.definition.specs.Write.{Bytes}
use Rattle.definition.specs.Reader as rd
use Rattle.definition.specs.Reader.{Read, got, not_read, give, go_on, byte_to, times, read_one, read_three}
use Rattle.definition.specs.Join.{TypingCase}
use Rattle.definition.specs.Trees.{Tree, read_nested, read_type}
use Rattle.definition.specs.Build.{build, build_many}
use Rattle.definition.specs.Record as d
use Rattle.definition.specs.Record.{Record, read_case, read_case_pair}
use Rattle.table.specs.State.{Grown, Declares}
use Rattle.table.specs.Did.{held, tables, Linked}
use Rattle.table.specs.declared.state.State.{State as Table}
use Rattle.table.proofs.Steps.{grown_refl, grown_trans}
use Rattle.table.proofs.Grown.{nodes_grow}
use Rattle.table.proofs.Did.{linked, linked_now}
use Rattle.refusals.specs.Refusals.{refusal_of}
use Rattle.refusals.specs.declared.Refusal.{Refusal}
use Rattle.heads.specs.Fields.{Knows}
use Rattle.reader.specs.Taken as taken
use Rattle.reader.specs.Taken.{place_read, PlacedSo, Takes}
use Rattle.reader.proofs.Loop.{declares_kept, code}
use Rattle.reader.proofs.Parts.{never}
use Rattle.fields.specs.declared.What.TheVariants as q
use Rattle.fields.specs.Noded.{Noded, many, case_of, many_at, ManyIn, place_record, FieldsAre}
use Rattle.fields.proofs.Placing.{stopped_is, first_type}
use Rattle.fields.proofs.Forms.{was_open, first_in}

abbrev Pair : Type 0
Pair = TypingCase × ℕ × ℕ

-- ---- pairs in a list of names

many_last : (names : List ℕ) (j n : ℕ) → many_at names j (suc n) ≡ many_at names j n ++ ((case_of (get_or names (j + 3 * n) 0), get_or names (j + 3 * n + 1) 0, get_or names (j + 3 * n + 2) 0) ∷ [])
unfolding many_at
many_last names j zero =
    let z : j ≡ j + 3 * zero = omega arith in
    ap (λ (k : ℕ). (case_of (get_or names k 0), get_or names (k + 1) 0, get_or names (k + 2) 0) ∷ []) z
many_last names j (suc n) =
    let z : j + 3 + 3 * n ≡ j + 3 * suc n = omega arith in
    ap (λ (ps : List Pair). (case_of (get_or names j 0), get_or names (j + 1) 0, get_or names (j + 2) 0) ∷ ps)
    (many_last names (j + 3) n ∙ ap (λ (k : ℕ). many_at names (j + 3) n ++ ((case_of (get_or names k 0), get_or names (k + 1) 0, get_or names (k + 2) 0) ∷ [])) z)

many_same : (names names' : List ℕ) (j n : ℕ) → ((k : ℕ) → k < j + 3 * n → get_or names' k 0 ≡ get_or names k 0) → many_at names' j n ≡ many_at names j n
unfolding many_at
many_same names names' j zero h = refl
many_same names names' j (suc n) h =
    rw (h j (omega arith), h (j + 1) (omega arith), h (j + 2) (omega arith), many_same names names' (j + 3) n (λ k l. h k (omega arith))) refl

-- pair i is put into the list
abbrev pub with_pair : List ℕ → ℕ → ℕ → ℕ → ℕ → List ℕ
with_pair names i c x y = set (set (set names (3 * i) c) (3 * i + 1) x) (3 * i + 2) y

module _ (names : List ℕ) (i c x y : ℕ) (room : 3 * i + 2 < length names) where
  abbrev first : List ℕ
  first = set names (3 * i) c

  abbrev second : List ℕ
  second = set first (3 * i + 1) x

  long_first : length first ≡ length names
  long_first = length-set names (3 * i) c

  long_second : length second ≡ length names
  long_second = length-set first (3 * i + 1) x ∙ long_first

  pub pair_long : length (with_pair names i c x y) ≡ length names
  pair_long = length-set second (3 * i + 2) y ∙ long_second

  other : (k : ℕ) → k < 3 * i → get_or (with_pair names i c x y) k 0 ≡ get_or names k 0
  other k l =
      get_or-set_other second (3 * i + 2) k y 0 (λ e. omega arith)
      ∙ get_or-set_other first (3 * i + 1) k x 0 (λ e. omega arith)
      ∙ get_or-set_other names (3 * i) k c 0 (λ e. omega arith)

  case_at : get_or (with_pair names i c x y) (3 * i) 0 ≡ c
  case_at =
      get_or-set_other second (3 * i + 2) (3 * i) y 0 (λ e. omega arith)
      ∙ get_or-set_other first (3 * i + 1) (3 * i) x 0 (λ e. omega arith)
      ∙ get_or-set_same names (3 * i) c 0 (omega arith)

  pub lhs_at : get_or (with_pair names i c x y) (3 * i + 1) 0 ≡ x
  lhs_at = get_or-set_other second (3 * i + 2) (3 * i + 1) y 0 (λ e. omega arith) ∙ get_or-set_same first (3 * i + 1) x 0 (omega (arith, long_first))

  pub rhs_at : get_or (with_pair names i c x y) (3 * i + 2) 0 ≡ y
  rhs_at = get_or-set_same second (3 * i + 2) y 0 (omega (arith, long_second))

  pub many_more : many_at (with_pair names i c x y) 0 (i + 1) ≡ many_at names 0 i ++ ((case_of c, x, y) ∷ [])
  many_more =
      let z : 0 + 3 * i ≡ 3 * i = omega arith in
      ap (λ (k : ℕ). many_at (with_pair names i c x y) 0 k) (add-one i) ∙ many_last (with_pair names i c x y) 0 i
      ∙ rw (z, many_same names (with_pair names i c x y) 0 i (λ k l. other k (omega arith)), case_at, lhs_at, rhs_at) refl

  pub in_more : (n : ℕ) → ManyIn n names i → x < n → y < n → ManyIn n (with_pair names i c x y) (i + 1)
  in_more n h a b j l = by (dec_lt j i)
    where
      by : Dec (j < i) → (get_or (with_pair names i c x y) (3 * j + 1) 0 < n) × (get_or (with_pair names i c x y) (3 * j + 2) 0 < n)
      by (yes p) = rw (other (3 * j + 1) (omega arith), other (3 * j + 2) (omega arith)) (h j p)
      by (no p) = let z : j ≡ i = omega arith in rw (z, lhs_at, rhs_at) (a, b)

-- ---- what is left to read, and to place after the pairs xs

abbrev Left : Type 0
Left = List (TypingCase × Tree × Tree)

abbrev left_at : State → ℕ → Bytes → Read Left
left_at s n l = times n (read_case_pair s) l

abbrev put_after : List Pair → Result (State × List Pair) → Result (State × Noded)
put_after xs p = p >>= (λ (s, ys). ok (s, many (xs ++ ys)))

abbrev put_left : List Pair → Left → State → Result (State × Noded)
put_left xs ps s = put_after xs (build_many ps s)

-- a pair's second type, and the pairs after it
abbrev Behind : Type 0
Behind = Tree × Left

abbrev behind_at : State → ℕ → Bytes → Read Behind
behind_at s n l = go_on (read_type s l) (λ t l. go_on (left_at s n l) (λ ps. give (t, ps)))

abbrev put_behind : List Pair → TypingCase → ℕ → Behind → State → Result (State × Noded)
put_behind xs case lhs c s = build c.0 s >>= (λ (s, rhs). put_left (xs ++ ((case, lhs, rhs) ∷ [])) c.1 s)

put_one : (xs : List Pair) (case : TypingCase) (t : Tree) (c : Behind) (s : State) → put_left xs ((case, t, c.0) ∷ c.1) s ≡ (build t s >>= (λ (s, lhs). put_behind xs case lhs c s))
unfolding build_many ◌>>=◌
put_one xs case t c s = by (build t s)
  where
    rest_is : (lhs rhs : ℕ) (p : Result (State × List Pair)) → put_after xs (p >>= (λ (s, ps). ok (s, (case, lhs, rhs) ∷ ps))) ≡ put_after (xs ++ ((case, lhs, rhs) ∷ [])) p
    rest_is lhs rhs (ok (s, ys)) = ap (λ (k : List Pair). ok (s, many k)) (sym (append_assoc xs ((case, lhs, rhs) ∷ []) ys))
    rest_is lhs rhs (err s e) = refl
    rest_is lhs rhs (refused y) = refl

    second_is : (lhs : ℕ) (p : Result (State × ℕ))
        → put_after xs (p >>= (λ (s, rhs). build_many c.1 s >>= (λ (s, ps). ok (s, (case, lhs, rhs) ∷ ps)))) ≡ (p >>= (λ (s, rhs). put_left (xs ++ ((case, lhs, rhs) ∷ [])) c.1 s))
    second_is lhs (ok (s, rhs)) = rest_is lhs rhs (build_many c.1 s)
    second_is lhs (err s e) = refl
    second_is lhs (refused y) = refl

    by : (p : Result (State × ℕ))
        → put_after xs (p >>= (λ (s, lhs). build c.0 s >>= (λ (s, rhs). build_many c.1 s >>= (λ (s, ps). ok (s, (case, lhs, rhs) ∷ ps))))) ≡ (p >>= (λ (s, lhs). put_behind xs case lhs c s))
    by (ok (s, lhs)) = second_is lhs (build c.0 s)
    by (err s e) = refl
    by (refused y) = refl

-- a pair's case, by its byte
case_read : (b : ℕ) (l k : Bytes) → got b k ≡ byte_to 1 l → got (case_of b) k ≡ read_case l
unfolding read_case read_one rd.◌>>=◌ go_on give
case_read b l k e = rw (← e) refl

case_unread : (x : types.Refusal) (l : Bytes) → not_read x ≡ byte_to 1 l → not_read x ≡ read_case l
unfolding read_case read_one rd.◌>>=◌ go_on
case_unread x l e = rw (← e) refl

-- one pair more
left_more : (s : State) (n : ℕ) (case : TypingCase) (l k : Bytes) → got case k ≡ read_case l
    → left_at s (suc n) l ≡ go_on (read_type s k) (λ t l. go_on (behind_at s n l) (λ c. give ((case, t, c.0) ∷ c.1)))
unfolding times read_case_pair read_three rd.◌>>=◌ go_on give
left_more s n case l k e = rw (← e) (by (read_type s k))
  where
    last_by : (t u : Tree) (y : Read Left) → go_on {B = Left} y (λ ps. give ((case, t, u) ∷ ps)) ≡ go_on (go_on {B = Behind} y (λ ps. give (u, ps))) (λ c. give ((case, t, c.0) ∷ c.1))
    last_by t u (got ps j) = refl
    last_by t u (not_read z) = refl

    more_by : (t : Tree) (y : Read Tree)
        → go_on {B = Left} (go_on {B = TypingCase × Tree × Tree} y (λ u. give (case, t, u))) (λ a l. go_on (times n (read_case_pair s) l) (λ ps. give (a ∷ ps)))
        ≡ go_on {B = Left} (go_on {B = Behind} y (λ u l. go_on (left_at s n l) (λ ps. give (u, ps)))) (λ c. give ((case, t, c.0) ∷ c.1))
    more_by t (got u j) = last_by t u (times n (read_case_pair s) j)
    more_by t (not_read z) = refl

    by : (x : Read Tree)
        → go_on {B = Left} (go_on {B = TypingCase × Tree × Tree} x (λ t l. go_on (read_type s l) (λ u. give (case, t, u)))) (λ a l. go_on (times n (read_case_pair s) l) (λ ps. give (a ∷ ps)))
        ≡ go_on x (λ t l. go_on (behind_at s n l) (λ c. give ((case, t, c.0) ∷ c.1)))
    by (got t j) = more_by t (read_type s j)
    by (not_read z) = refl

left_cut : (s : State) (n : ℕ) (x : types.Refusal) (l : Bytes) → not_read x ≡ read_case l → not_read x ≡ left_at s (suc n) l
unfolding times read_case_pair read_three rd.◌>>=◌ go_on
left_cut s n x l e = rw (← e) refl

left_none : (s : State) (l : Bytes) → left_at s 0 l ≡ got [] l
unfolding times give
left_none s l = refl

-- as the definition has it
left_is : (s : State) (n : ℕ) (l : Bytes) (v : State)
    → place_read false (put_left []) (left_at s n l) v ≡ place_read false place_record (go_on (times n (read_case_pair s) l) (λ ps. give (d.MJ ps))) v
unfolding place_read go_on give place_record
left_is s n l v = by (times n (read_case_pair s) l)
  where
    by : (y : Read Left) → place_read false (put_left []) y v ≡ place_read false place_record (go_on y (λ ps. give (d.MJ ps))) v
    by (got ps j) = refl
    by (not_read z) = refl

-- ---- the loop

pub record ManyGo (st₀ : Table) (l₀ : Bytes) (known n : ℕ) (st : Table) (l : Bytes) (over : Bool) (names : List ℕ) (i : ℕ) : Type 0 where
  pub left : i ≤ n
  pub same : Linked st₀ st
  pub grown : Grown (tables st₀) (tables st)
  pub structs : (tables st).structs ≡ (tables st₀).structs
  pub long : 256 ≤ length names
  pub below : over ≡ false → ManyIn st.used.nodes names i
  pub is : (ds : List Struct) (s : State) → Declares st₀.words.now st₀.used ds → Knows s known ds
      → place_read false (put_left []) (left_at s n l₀) (held st₀ ds) ≡ place_read over (put_left (many_at names 0 i)) (left_at s (n - i) l) (held st ds)

pub many_none : {st : Table} (l : Bytes) (known n : ℕ) {names : List ℕ} → 256 ≤ length names → ManyGo st l known n st l false names 0
unfolding many_at
many_none {st} l known n e =
    record {
      left = omega arith;
      same = linked_now _;
      grown = grown_refl (tables st);
      structs = refl;
      long = e;
      below = λ o j h. absurd (omega arith);
      is = λ ds s d k. ap (λ (j : ℕ). place_read false (put_left []) (left_at s j l) (held st ds)) (sym (sub-zero n));
    }

module _ {st₀ : Table} {l₀ : Bytes} {known n : ℕ} {st : Table} {l : Bytes} {over : Bool} {names : List ℕ} {i : ℕ} (g : ManyGo st₀ l₀ known n st l over names i) where
  abbrev read_all : State → Read Record
  read_all s = go_on (times n (read_case_pair s) l₀) (λ pairs. give (d.MJ pairs))

  abbrev xs : List Pair
  xs = many_at names 0 i

  -- one pair more is read, if fewer than n are
  turn_is : i < n → (ds : List Struct) (s : State) → Declares st₀.words.now st₀.used ds → Knows s known ds
      → place_read false place_record (read_all s) (held st₀ ds) ≡ place_read over (put_left xs) (left_at s (suc (n - (i + 1))) l) (held st ds)
  turn_is h ds s d k =
      let z : n - i ≡ suc (n - (i + 1)) = omega arith in
      sym (left_is s n l₀ (held st₀ ds)) ∙ g.is ds s d k ∙ ap (λ (j : ℕ). place_read over (put_left xs) (left_at s j l) (held st ds)) z

  -- a case is not read
  pub many_cut : {names' : List ℕ} {l' : Bytes} {e : Refusal} → i < n → not_read (refusal_of e) ≡ byte_to 1 l → FieldsAre names' st₀ known read_all st l' (Err e)
  unfolding place_read
  many_cut {e = e} h f =
      record {
        same = g.same;
        grown = g.grown;
        structs = g.structs;
        inside = tt;
        is = λ ds s d k.
            ap (λ (x : Read Left). place_read over (put_left xs) x (held st ds)) (left_cut s (n - (i + 1)) (refusal_of e) l (case_unread (refusal_of e) l f))
            ∙ sym (turn_is h ds s d k);
      }

  module _ {b : ℕ} {l₁ : Bytes} (e : got b l₁ ≡ byte_to 1 l) (h : i < n) where
    abbrev one : Tree → Behind → Left
    one t c = (case_of b, t, c.0) ∷ c.1

    pair_is : (ds : List Struct) (s : State) → Declares st₀.words.now st₀.used ds → Knows s known ds → place_read false place_record (read_all s) (held st₀ ds)
        ≡ place_read over (put_left xs) (go_on (read_nested 64 s l₁) (λ t l. go_on (behind_at s (n - (i + 1)) l) (λ c. give (one t c)))) (held st ds)
    unfolding read_type
    pair_is ds s d k =
        turn_is h ds s d k
        ∙ ap (λ (x : Read Left). place_read over (put_left xs) x (held st ds)) (left_more s (n - (i + 1)) (case_of b) l l₁ (case_read b l l₁ e))

    -- its first type is not read
    pub many_stop : {names' : List ℕ} {st' : Table} {l' : Bytes} {x : Refusal} → Takes st known over (λ s. read_nested 64 s l₁) st' l' (Err x) → FieldsAre names' st₀ known read_all st' l' (Err x)
    unfolding place_read go_on
    many_stop {x = x} t =
        record {
          same = linked t.same g.same;
          grown = grown_trans _ _ _ g.grown t.grown;
          structs = t.structs ∙ g.structs;
          inside = tt;
          is = λ ds s d k.
              let y = stopped_is (read_nested 64 s l₁) over (held st ds) (refusal_of x) (t.is ds s (declares_kept _ _ _ _ ds g.structs d) k) in
              sym (pair_is ds s d k ∙ ap (λ (r : Read Tree). place_read over (put_left xs) (go_on r (λ t l. go_on (behind_at s (n - (i + 1)) l) (λ c. give (one t c)))) (held st ds)) y);
        }

    module _ {st₁ : Table} {l₂ : Bytes} {o : Option ℕ} (t : Takes st known over (λ s. read_nested 64 s l₁) st₁ l₂ (Ok o)) where
      abbrev lhs : ℕ
      lhs = unwrap_or o 0

      -- its second type is left, and the pairs after it
      behind_is : (ds : List Struct) (s : State) → Declares st₀.words.now st₀.used ds → Knows s known ds → place_read false place_record (read_all s) (held st₀ ds)
          ≡ place_read (is_none o) (put_behind xs (case_of b) lhs) (go_on (read_nested 64 s l₂) (λ u l. go_on (left_at s (n - (i + 1)) l) (λ ps. give (u, ps)))) (held st₁ ds)
      unfolding read_type
      behind_is ds s d k =
          pair_is ds s d k
          ∙ first_type (put_left xs) one (put_behind xs (case_of b)) (put_one xs (case_of b)) (behind_at s (n - (i + 1))) o over (read_nested 64 s l₁) (held st ds)
          (held st₁ ds) l₂ (t.is ds s (declares_kept _ _ _ _ ds g.structs d) k)

      then_declares : (ds : List Struct) → Declares st₀.words.now st₀.used ds → Declares st₁.words.now st₁.used ds
      then_declares ds d = declares_kept _ _ _ _ ds (t.structs ∙ g.structs) d

      pub many_stop_second : {names' : List ℕ} {st' : Table} {l' : Bytes} {x : Refusal} → Takes st₁ known (is_none o) (λ s. read_nested 64 s l₂) st' l' (Err x) → FieldsAre names' st₀ known read_all st' l' (Err x)
      unfolding place_read go_on
      many_stop_second {x = x} u =
          record {
            same = linked u.same (linked t.same g.same);
            grown = grown_trans _ _ _ (grown_trans _ _ _ g.grown t.grown) u.grown;
            structs = u.structs ∙ t.structs ∙ g.structs;
            inside = tt;
            is = λ ds s d k.
                let y = stopped_is (read_nested 64 s l₂) (is_none o) (held st₁ ds) (refusal_of x) (u.is ds s (then_declares ds d) k) in
                sym (behind_is ds s d k ∙ ap (λ (r : Read Tree). place_read (is_none o) (put_behind xs (case_of b) lhs) (go_on r (λ u l. go_on (left_at s (n - (i + 1)) l) (λ ps. give (u, ps)))) (held st₁ ds)) y);
          }

      module _ {st' : Table} {l' : Bytes} {p : Option ℕ} (u : Takes st₁ known (is_none o) (λ s. read_nested 64 s l₂) st' l' (Ok p)) where
        abbrev rhs : ℕ
        rhs = unwrap_or p 0

        open_first : (q : Option ℕ) → q ≡ p → is_none q ≡ false → is_none o ≡ false
        open_first (Some x) e b = was_open (rw (sym e) at u)
        open_first None e b = never (ap code (sym b))

        open_before : (q : Option ℕ) → q ≡ o → is_none q ≡ false → over ≡ false
        open_before (Some x) e b = was_open (rw (sym e) at t)
        open_before None e b = never (ap code (sym b))

        pub many_turn : n ≤ 15 → ManyGo st₀ l₀ known n st' l' (is_none p) (with_pair names i b lhs rhs) (i + 1)
        many_turn few =
            let long : 256 ≤ length names = g.long in
            let room : 3 * i + 2 < length names = omega arith in
            let up : st₁.used.nodes ≤ st'.used.nodes = nodes_grow _ _ _ _ u.grown in
            let all_up : st.used.nodes ≤ st'.used.nodes = (let z = nodes_grow _ _ _ _ t.grown in omega arith) in
            record {
              left = omega arith;
              same = linked u.same (linked t.same g.same);
              grown = grown_trans _ _ _ (grown_trans _ _ _ g.grown t.grown) u.grown;
              structs = u.structs ∙ t.structs ∙ g.structs;
              long = omega (arith, pair_long names i b lhs rhs room);
              below = λ f.
                  let f' = open_first p refl f in
                  let old = g.below (open_before o refl f') in
                  in_more names i b lhs rhs room st'.used.nodes (λ j h. let z = old j h in (omega (arith, z.0), omega (arith, z.1)))
                  (first_in o st₁.used.nodes st'.used.nodes up f' t.inside) (first_in p st'.used.nodes st'.used.nodes (omega arith) f u.inside);
              is = λ ds s d k.
                  left_is s n l₀ (held st₀ ds) ∙ behind_is ds s d k
                  ∙ first_type (put_behind xs (case_of b) lhs) (λ t ps. (t, ps)) (λ rhs ps s. put_left (xs ++ ((case_of b, lhs, rhs) ∷ [])) ps s) (λ t ps s. refl) (left_at s (n - (i + 1))) p (is_none o)
                  (read_nested 64 s l₂) (held st₁ ds) (held st' ds) l' (u.is ds s (then_declares ds d) k)
                  ∙ ap (λ (ys : List Pair). place_read (is_none p) (put_left ys) (left_at s (n - (i + 1)) l') (held st' ds)) (sym (many_more names i b lhs rhs room));
            }

  -- ---- all pairs

  all_read : n ≤ i → (ds : List Struct) (s : State) → Declares st₀.words.now st₀.used ds → Knows s known ds
      → place_read over (put_left (many_at names 0 n)) (got [] l) (held st ds) ≡ place_read false place_record (read_all s) (held st₀ ds)
  all_read h ds s d k =
      let z : i ≡ n = (let y = g.left in omega arith) in
      let none : n - i ≡ 0 = omega arith in
      ap (λ (x : Read Left). place_read over (put_left (many_at names 0 n)) x (held st ds)) (sym (left_none s l))
      ∙ ap (λ (j : ℕ). place_read over (put_left (many_at names 0 n)) (left_at s j l) (held st ds)) (sym none)
      ∙ ap (λ (j : ℕ). place_read over (put_left (many_at names 0 j)) (left_at s (n - i) l) (held st ds)) (sym z)
      ∙ sym (g.is ds s d k) ∙ left_is s n l₀ (held st₀ ds)

  -- there was no space
  pub many_full : n ≤ i → over ≡ true → FieldsAre names st₀ known read_all st l (Ok None)
  unfolding place_read
  many_full h o =
      record {
        same = g.same;
        grown = g.grown;
        structs = g.structs;
        inside = tt;
        is = λ ds s d k. let e = all_read h ds s d k in rw o at e;
      }

  pub many_all : n ≤ i → n ≤ 15 → over ≡ false → FieldsAre names st₀ known read_all st l (Ok (Some (q.MJ n)))
  unfolding place_read build_many ◌>>=◌
  many_all h few o =
      record {
        same = g.same;
        grown = g.grown;
        structs = g.structs;
        inside = (few, λ j l. g.below o j (omega arith));
        is = λ ds s d k.
            let e = all_read h ds s d k in
            ap (λ (ys : List Pair). taken.placed (ok (held st ds, many ys)) l) (sym (append-nil (many_at names 0 n))) ∙ (rw o at e);
      }
