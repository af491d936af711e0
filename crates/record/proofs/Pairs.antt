-- The loop over the pairs of an id and a type: where it begins, a turn, an early end, and the last type. Assumes nothing.
use mathlib.Core.Path.{◌≡◌, refl, sym, ap, ◌∙◌}
use mathlib.Core.Bool.{Bool, false}
use mathlib.Core.List.{List, [], ◌∷◌, ◌++◌, append-nil, append_assoc}
use Prim.Native.Nat.{ℕ, zero, suc, ◌+◌, ◌-◌, ◌≤◌, ◌<◌}
use native.Mathlib.Nat.{sub-zero}
use native.Mathlib.Numerals.{add-one}
use native.Mathlib.Decide.{ℕ_discrete}
use native.Mathlib.Omega.{arith}
use lib.ListN.{length, get_or, set, length-set}
use lib.Seq.{get_or-set_same, get_or-set_other}
use Rattle.std.specs.Prelude.{Option, Some, None, Ok, Err, is_none, unwrap_or}
use Rattle.std.specs.Option.{option_map}
use Rattle.definition.specs.Types as types
use Rattle.definition.specs.Types.{State, Struct, Result, ok, err, refused, ◌>>=◌}
use Rattle.definition.specs.Write.{Bytes}
use Rattle.definition.specs.Reader as rd
use Rattle.definition.specs.Reader.{Read, got, not_read, give, go_on, read_u32, times, read_two}
use Rattle.definition.specs.Trees.{Tree, read_nested, read_type}
use Rattle.definition.specs.Build.{build, build_pairs}
use Rattle.definition.specs.Record as d
use Rattle.definition.specs.Record.{Record, read_pair}
use Rattle.names.specs.declared.TParamID.{TParamID}
use Rattle.table.specs.State.{Grown, Declares}
use Rattle.table.specs.Did.{held, tables, Linked}
use Rattle.table.specs.declared.state.State.{State as Table}
use Rattle.table.proofs.Steps.{grown_refl, grown_trans}
use Rattle.table.proofs.Grown.{nodes_grow}
use Rattle.tparams.specs.Pairs.{id_at, pairs}
use Rattle.refusals.specs.Refusals.{refusal_of}
use Rattle.refusals.specs.declared.Refusal.{Refusal}
use Rattle.heads.specs.Fields.{Knows}
use Rattle.reader.specs.Taken.{place_read, Takes}
use Rattle.reader.proofs.Loop.{declares_kept, code}
use Rattle.reader.proofs.Parts.{never}
use Rattle.fields.specs.declared.Look.TheVariants as k
use Rattle.fields.specs.declared.What.{What}
use Rattle.fields.specs.declared.What.TheVariants as q
use Rattle.fields.specs.Noded.{Noded, run, looks, tparams, place_record, FieldsAre, WhatIn}
use Rattle.fields.proofs.Placing.{stopped_is, last_type, first_type}
use Rattle.fields.proofs.Forms.{was_open, made_with, made_so, first_in}
use Rattle.table.proofs.Did.{linked, linked_now}

-- ---- pairs in two arrays

pairs_last : (ids : List TParamID) (nodes : List ℕ) (j n : ℕ) → pairs ids nodes j (suc n) ≡ pairs ids nodes j n ++ ((id_at ids (j + n), get_or nodes (j + n) 0) ∷ [])
unfolding pairs
pairs_last ids nodes j zero =
    let z : j ≡ j + 0 = omega arith in
    ap (λ (k : ℕ). (id_at ids k, get_or nodes k 0) ∷ []) z
pairs_last ids nodes j (suc n) =
    let z : suc j + n ≡ j + suc n = omega arith in
    ap (λ (ps : List (ℕ × ℕ)). (id_at ids j, get_or nodes j 0) ∷ ps)
    (pairs_last ids nodes (suc j) n ∙ ap (λ (k : ℕ). pairs ids nodes (suc j) n ++ ((id_at ids k, get_or nodes k 0) ∷ [])) z)

pairs_other : (ids : List TParamID) (nodes : List ℕ) (i : ℕ) (x : TParamID) (y j n : ℕ) → j + n ≤ i → pairs (set ids i x) (set nodes i y) j n ≡ pairs ids nodes j n
unfolding pairs
pairs_other ids nodes i x y j zero l = refl
pairs_other ids nodes i x y j (suc n) l =
    let e : j ≡ i → ⊥ = λ e. omega arith in
    let r : suc j + n ≤ i = omega arith in
    let a : id_at (set ids i x) j ≡ id_at ids j = ap (λ (t : TParamID). t.0) (get_or-set_other ids i j x (record { 0 = 0 }) e) in
    rw (a, get_or-set_other nodes i j y 0 e, pairs_other ids nodes i x y (suc j) n r) refl

pairs_more : (ids : List TParamID) (nodes : List ℕ) (i : ℕ) (x : TParamID) (y : ℕ) → i < length ids → i < length nodes → pairs (set ids i x) (set nodes i y) 0 (i + 1) ≡ pairs ids nodes 0 i ++ ((x.0, y) ∷ [])
pairs_more ids nodes i x y l l' =
    let z : 0 + i ≡ i = omega arith in
    let o : 0 + i ≤ i = omega arith in
    let a : id_at (set ids i x) i ≡ x.0 = ap (λ (t : TParamID). t.0) (get_or-set_same ids i x (record { 0 = 0 }) l) in
    ap (λ (k : ℕ). pairs (set ids i x) (set nodes i y) 0 k) (add-one i) ∙ pairs_last (set ids i x) (set nodes i y) 0 i
    ∙ rw (z, pairs_other ids nodes i x y 0 i o, a, get_or-set_same nodes i y 0 l') refl

-- ---- what is left to read, and to place after the pairs xs

abbrev Left : Type 0
Left = List (ℕ × Tree) × Tree

abbrev left_at : State → ℕ → Bytes → Read Left
left_at s n l = go_on (times n (read_pair s) l) (λ ps l. go_on (read_type s l) (λ t. give (ps, t)))

abbrev put_after : List (ℕ × ℕ) → Tree → Result (State × List (ℕ × ℕ)) → Result (State × Noded)
put_after xs t p = p >>= (λ (s, ys). build t s >>= (λ (s, ty). ok (s, run (looks (tparams (xs ++ ys) ty)))))

abbrev put_left : List (ℕ × ℕ) → Left → State → Result (State × Noded)
put_left xs c s = put_after xs c.1 (build_pairs c.0 s)

put_one : (xs : List (ℕ × ℕ)) (id : ℕ) (t : Tree) (c : Left) (s : State) → put_left xs ((id, t) ∷ c.0, c.1) s ≡ (build t s >>= (λ (s, n). put_left (xs ++ ((id, n) ∷ [])) c s))
unfolding build_pairs ◌>>=◌
put_one xs id t c s = by (build t s)
  where
    rest_is : (n : ℕ) (p : Result (State × List (ℕ × ℕ))) → put_after xs c.1 (p >>= (λ (s, ps). ok (s, (id, n) ∷ ps))) ≡ put_after (xs ++ ((id, n) ∷ [])) c.1 p
    rest_is n (ok (s, ys)) = ap (λ (k : List (ℕ × ℕ)). build c.1 s >>= (λ (s, ty). ok (s, run (looks (tparams k ty))))) (sym (append_assoc xs ((id, n) ∷ []) ys))
    rest_is n (err s e) = refl
    rest_is n (refused y) = refl

    by : (p : Result (State × ℕ))
        → put_after xs c.1 (p >>= (λ (s, t). build_pairs c.0 s >>= (λ (s, ps). ok (s, (id, t) ∷ ps)))) ≡ (p >>= (λ (s, n). put_left (xs ++ ((id, n) ∷ [])) c s))
    by (ok (s, n)) = rest_is n (build_pairs c.0 s)
    by (err s e) = refl
    by (refused y) = refl

-- one pair more
left_more : (s : State) (n id : ℕ) (l k : Bytes) → got id k ≡ read_u32 l → left_at s (suc n) l ≡ go_on (read_type s k) (λ t l. go_on (left_at s n l) (λ c. give ((id, t) ∷ c.0, c.1)))
unfolding times read_pair read_two rd.◌>>=◌ go_on give
left_more s n id l k e = rw (← e) (by (read_type s k))
  where
    last_by : (t : Tree) (ps : List (ℕ × Tree)) (y : Read Tree) → go_on {B = Left} y (λ t'. give ((id, t) ∷ ps, t')) ≡ go_on (go_on {B = Left} y (λ t'. give (ps, t'))) (λ c. give ((id, t) ∷ c.0, c.1))
    last_by t ps (got t' j) = refl
    last_by t ps (not_read z) = refl

    more_by : (t : Tree) (y : Read (List (ℕ × Tree)))
        → go_on {B = Left} (go_on {B = List (ℕ × Tree)} y (λ ps. give ((id, t) ∷ ps))) (λ ps l. go_on (read_type s l) (λ t. give (ps, t)))
        ≡ go_on {B = Left} (go_on {B = Left} y (λ ps l. go_on (read_type s l) (λ t. give (ps, t)))) (λ c. give ((id, t) ∷ c.0, c.1))
    more_by t (got ps j) = last_by t ps (read_type s j)
    more_by t (not_read z) = refl

    by : (x : Read Tree)
        → go_on {B = Left} (go_on {B = List (ℕ × Tree)} (go_on {B = ℕ × Tree} x (λ t. give (id, t))) (λ a l. go_on (times n (read_pair s) l) (λ ps. give (a ∷ ps)))) (λ ps l. go_on (read_type s l) (λ t. give (ps, t)))
        ≡ go_on x (λ t l. go_on (left_at s n l) (λ c. give ((id, t) ∷ c.0, c.1)))
    by (got t j) = more_by t (times n (read_pair s) j)
    by (not_read z) = refl

left_cut : (s : State) (n : ℕ) (x : types.Refusal) (l : Bytes) → not_read x ≡ read_u32 l → not_read x ≡ left_at s (suc n) l
unfolding times read_pair read_two rd.◌>>=◌ go_on
left_cut s n x l e = rw (← e) refl

left_none : (s : State) (l : Bytes) → left_at s 0 l ≡ go_on (read_type s l) (λ t. give ([], t))
unfolding times go_on give
left_none s l = refl

-- as the definition has it
left_is : (s : State) (n : ℕ) (l : Bytes) (v : State)
    → place_read false (put_left []) (left_at s n l) v ≡ place_read false place_record (go_on (times n (read_pair s) l) (λ ps l. go_on (read_type s l) (λ t. give (d.TS ps t)))) v
unfolding place_read go_on give place_record
left_is s n l v = by (times n (read_pair s) l)
  where
    last_by : (ps : List (ℕ × Tree)) (y : Read Tree) → place_read false (put_left []) (go_on y (λ t. give (ps, t))) v ≡ place_read false place_record (go_on y (λ t. give (d.TS ps t))) v
    last_by ps (got t j) = refl
    last_by ps (not_read z) = refl

    by : (y : Read (List (ℕ × Tree)))
        → place_read false (put_left []) (go_on y (λ ps l. go_on (read_type s l) (λ t. give (ps, t)))) v ≡ place_read false place_record (go_on y (λ ps l. go_on (read_type s l) (λ t. give (d.TS ps t)))) v
    by (got ps j) = last_by ps (read_type s j)
    by (not_read z) = refl

-- no pair is left
put_last : (xs : List (ℕ × ℕ)) (t : Tree) (s : State) → put_left xs ([], t) s ≡ (build t s >>= (λ (s, n). ok (s, run (looks (tparams xs n)))))
unfolding build_pairs ◌>>=◌
put_last xs t s = ap (λ (k : List (ℕ × ℕ)). build t s >>= (λ (s, n). ok (s, run (looks (tparams k n))))) (append-nil xs)

-- ---- the loop

pub record PairsGo (st₀ : Table) (l₀ : Bytes) (known n : ℕ) (st : Table) (l : Bytes) (over : Bool) (ids : List TParamID) (nodes : List ℕ) (i : ℕ) : Type 0 where
  pub left : i ≤ n
  pub same : Linked st₀ st
  pub grown : Grown (tables st₀) (tables st)
  pub structs : (tables st).structs ≡ (tables st₀).structs
  pub long_ids : length ids ≡ 8
  pub long : length nodes ≡ 8
  pub below : over ≡ false → (j : ℕ) → j < i → get_or nodes j 0 < st.used.nodes
  pub is : (ds : List Struct) (s : State) → Declares st₀.words.now st₀.used ds → Knows s known ds
      → place_read false (put_left []) (left_at s n l₀) (held st₀ ds) ≡ place_read over (put_left (pairs ids nodes 0 i)) (left_at s (n - i) l) (held st ds)

pub pairs_none : {st : Table} (l : Bytes) (known n : ℕ) {ids : List TParamID} {nodes : List ℕ} → length ids ≡ 8 → length nodes ≡ 8 → PairsGo st l known n st l false ids nodes 0
unfolding pairs
pairs_none {st} l known n e e' =
    record {
      left = omega arith;
      same = linked_now _;
      grown = grown_refl (tables st);
      structs = refl;
      long_ids = e;
      long = e';
      below = λ o j h. absurd (omega arith);
      is = λ ds s d k. ap (λ (j : ℕ). place_read false (put_left []) (left_at s j l) (held st ds)) (sym (sub-zero n));
    }

module _ {st₀ : Table} {l₀ : Bytes} {known n : ℕ} {st : Table} {l : Bytes} {over : Bool} {ids : List TParamID} {nodes : List ℕ} {i : ℕ} (g : PairsGo st₀ l₀ known n st l over ids nodes i) where
  abbrev read_all : State → Read Record
  read_all s = go_on (times n (read_pair s) l₀) (λ ps l. go_on (read_type s l) (λ t. give (d.TS ps t)))

  -- one pair more is read, if fewer than n are
  turn_is : i < n → (ds : List Struct) (s : State) → Declares st₀.words.now st₀.used ds → Knows s known ds
      → place_read false place_record (read_all s) (held st₀ ds) ≡ place_read over (put_left (pairs ids nodes 0 i)) (left_at s (suc (n - (i + 1))) l) (held st ds)
  turn_is h ds s d k =
      let z : n - i ≡ suc (n - (i + 1)) = omega arith in
      sym (left_is s n l₀ (held st₀ ds)) ∙ g.is ds s d k ∙ ap (λ (j : ℕ). place_read over (put_left (pairs ids nodes 0 i)) (left_at s j l) (held st ds)) z

  -- an id is not read
  pub pairs_cut : {names : List ℕ} {l' : Bytes} {e : Refusal} → i < n → not_read (refusal_of e) ≡ read_u32 l → FieldsAre names st₀ known read_all st l' (Err e)
  unfolding place_read
  pairs_cut {e = e} h f =
      record {
        same = g.same;
        grown = g.grown;
        structs = g.structs;
        inside = tt;
        is = λ ds s d k.
            ap (λ (x : Read Left). place_read over (put_left (pairs ids nodes 0 i)) x (held st ds)) (left_cut s (n - (i + 1)) (refusal_of e) l f)
            ∙ sym (turn_is h ds s d k);
      }

  module _ {id : ℕ} {l₁ : Bytes} (e : got id l₁ ≡ read_u32 l) (h : i < n) where
    abbrev one : Tree → Left → Left
    one t c = ((id, t) ∷ c.0, c.1)

    abbrev after : ℕ → Left → State → Result (State × Noded)
    after x c s = put_left (pairs ids nodes 0 i ++ ((id, x) ∷ [])) c s

    pair_is : (ds : List Struct) (s : State) → Declares st₀.words.now st₀.used ds → Knows s known ds → place_read false place_record (read_all s) (held st₀ ds)
        ≡ place_read over (put_left (pairs ids nodes 0 i)) (go_on (read_nested 64 s l₁) (λ t l. go_on (left_at s (n - (i + 1)) l) (λ c. give (one t c)))) (held st ds)
    unfolding read_type
    pair_is ds s d k =
        turn_is h ds s d k ∙ ap (λ (x : Read Left). place_read over (put_left (pairs ids nodes 0 i)) x (held st ds)) (left_more s (n - (i + 1)) id l l₁ e)

    -- a type is not read
    pub pairs_stop : {names : List ℕ} {st' : Table} {l' : Bytes} {x : Refusal} → Takes st known over (λ s. read_nested 64 s l₁) st' l' (Err x) → FieldsAre names st₀ known read_all st' l' (Err x)
    unfolding place_read go_on
    pairs_stop {x = x} t =
        record {
          same = linked t.same g.same;
          grown = grown_trans _ _ _ g.grown t.grown;
          structs = t.structs ∙ g.structs;
          inside = tt;
          is = λ ds s d k.
              let y = stopped_is (read_nested 64 s l₁) over (held st ds) (refusal_of x) (t.is ds s (declares_kept _ _ _ _ ds g.structs d) k) in
              sym (pair_is ds s d k ∙ ap (λ (r : Read Tree). place_read over (put_left (pairs ids nodes 0 i)) (go_on r (λ t l. go_on (left_at s (n - (i + 1)) l) (λ c. give (one t c)))) (held st ds)) y);
        }

    module _ {st' : Table} {l' : Bytes} {o : Option ℕ} (t : Takes st known over (λ s. read_nested 64 s l₁) st' l' (Ok o)) where
      here : i < length nodes → is_none o ≡ false → (j : ℕ) → j < i + 1 → get_or (set nodes i (unwrap_or o 0)) j 0 < st'.used.nodes
      here lt b j h = either (ℕ_discrete j i)
        where
          part_open : (p : Option ℕ) → p ≡ o → is_none p ≡ false → over ≡ false
          part_open (Some x) q b = was_open (rw (sym q) at t)
          part_open None q b = never (ap code (sym b))

          either : Dec (j ≡ i) → get_or (set nodes i (unwrap_or o 0)) j 0 < st'.used.nodes
          either (yes q) =
              rw (q, get_or-set_same nodes i (unwrap_or o 0) 0 lt) (first_in o st'.used.nodes st'.used.nodes (omega arith) b t.inside)
          either (no q) =
              let a : get_or nodes j 0 < st.used.nodes = g.below (part_open o refl b) j (omega arith) in
              let z : st.used.nodes ≤ st'.used.nodes = nodes_grow _ _ _ _ t.grown in
              rw (get_or-set_other nodes i j (unwrap_or o 0) 0 q) (omega arith)

      pub pairs_turn : n ≤ 8 → PairsGo st₀ l₀ known n st' l' (is_none o) (set ids i (record { 0 = id })) (set nodes i (unwrap_or o 0)) (i + 1)
      pairs_turn few =
          let z : length nodes ≡ 8 = g.long in
          let z' : length ids ≡ 8 = g.long_ids in
          let lt : i < length nodes = omega arith in
          let lt' : i < length ids = omega arith in
          record {
            left = omega arith;
            same = linked t.same g.same;
            grown = grown_trans _ _ _ g.grown t.grown;
            structs = t.structs ∙ g.structs;
            long_ids = length-set ids i (record { 0 = id }) ∙ g.long_ids;
            long = length-set nodes i (unwrap_or o 0) ∙ g.long;
            below = λ b. here lt b;
            is = λ ds s d k.
                left_is s n l₀ (held st₀ ds) ∙ pair_is ds s d k
                ∙ first_type (put_left (pairs ids nodes 0 i)) one after (put_one (pairs ids nodes 0 i) id) (left_at s (n - (i + 1))) o over (read_nested 64 s l₁) (held st ds)
                (held st' ds) l' (t.is ds s (declares_kept _ _ _ _ ds g.structs d) k)
                ∙ ap (λ (xs : List (ℕ × ℕ)). place_read (is_none o) (put_left xs) (left_at s (n - (i + 1)) l') (held st' ds))
                (sym (pairs_more ids nodes i (record { 0 = id }) (unwrap_or o 0) lt' lt));
          }

  -- ---- the last type

  last_is : n ≤ i → (ds : List Struct) (s : State) → Declares st₀.words.now st₀.used ds → Knows s known ds
      → place_read over (put_left (pairs ids nodes 0 n)) (go_on (read_nested 64 s l) (λ t. give ([], t))) (held st ds) ≡ place_read false place_record (read_all s) (held st₀ ds)
  unfolding read_type
  last_is h ds s d k =
      let z : i ≡ n = (let y = g.left in omega arith) in
      let none : n - i ≡ 0 = omega arith in
      ap (λ (x : Read Left). place_read over (put_left (pairs ids nodes 0 n)) x (held st ds)) (sym (left_none s l))
      ∙ ap (λ (j : ℕ). place_read over (put_left (pairs ids nodes 0 n)) (left_at s j l) (held st ds)) (sym none)
      ∙ ap (λ (j : ℕ). place_read over (put_left (pairs ids nodes 0 j)) (left_at s (n - i) l) (held st ds)) (sym z)
      ∙ sym (g.is ds s d k) ∙ left_is s n l₀ (held st₀ ds)

  pub last_unread : {names : List ℕ} → n ≤ i → {st' : Table} {l' : Bytes} {x : Refusal} → Takes st known over (λ s. read_nested 64 s l) st' l' (Err x) → FieldsAre names st₀ known read_all st' l' (Err x)
  unfolding place_read go_on
  last_unread h {x = x} t =
      record {
        same = linked t.same g.same;
        grown = grown_trans _ _ _ g.grown t.grown;
        structs = t.structs ∙ g.structs;
        inside = tt;
        is = λ ds s d k.
            let y = stopped_is (read_nested 64 s l) over (held st ds) (refusal_of x) (t.is ds s (declares_kept _ _ _ _ ds g.structs d) k) in
            sym (ap (λ (r : Read Tree). place_read over (put_left (pairs ids nodes 0 n)) (go_on r (λ t. give ([], t))) (held st ds)) y) ∙ last_is h ds s d k;
      }

  abbrev all_made : ℕ → What
  all_made t = q.Look (k.TS (record { ids = ids; nodes = nodes; many = n }) t)

  pub pairs_all : {names : List ℕ} → n ≤ i → n ≤ 8 → {st' : Table} {l' : Bytes} {o : Option ℕ} → Takes st known over (λ s. read_nested 64 s l) st' l' (Ok o) → FieldsAre names st₀ known read_all st' l' (Ok (option_map all_made o))
  unfolding build_pairs
  pairs_all {names} h few {st'} {l'} {o} t =
      let z : i ≡ n = (let y = g.left in omega arith) in
      let up : st.used.nodes ≤ st'.used.nodes = nodes_grow _ _ _ _ t.grown in
      record {
        same = linked t.same g.same;
        grown = grown_trans _ _ _ g.grown t.grown;
        structs = t.structs ∙ g.structs;
        inside = made_so (WhatIn names st'.used.nodes) o st'.used.nodes all_made t.inside (λ x f q. (record { few = few; below = λ j h. under (was_open (rw f at t)) up j (omega arith) }, q));
        is = λ ds s d k.
            made_with names o all_made (λ x. run (looks (tparams (pairs ids nodes 0 n) x))) (held st' ds) l' (λ t. refl)
            ∙ last_type (put_left (pairs ids nodes 0 n)) (λ t. ([], t)) (λ x. run (looks (tparams (pairs ids nodes 0 n) x))) (put_last (pairs ids nodes 0 n)) (Ok o) over (read_nested 64 s l) (held st ds)
            (held st' ds) l' (t.is ds s (declares_kept _ _ _ _ ds g.structs d) k)
            ∙ last_is h ds s d k;
      }
    where
      under : over ≡ false → st.used.nodes ≤ st'.used.nodes → (j : ℕ) → j < i → get_or nodes j 0 < st'.used.nodes
      under o up j h =
          let a : get_or nodes j 0 < st.used.nodes = g.below o j h in
          omega arith
