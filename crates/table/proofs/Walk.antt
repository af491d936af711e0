-- A list of types gone through one after the other, and what a caller knows of the words at each. Assumes nothing.
use Rattle.std.specs.Prelude.{Option, None, Some}
use mathlib.Core.Path.{◌≡◌, refl, sym, ap, ◌∙◌}
use mathlib.Core.List.{List, [], ◌∷◌, ◌++◌, append-nil, append_assoc}
use Prim.Native.Nat.{ℕ, zero, suc, ◌+◌, ◌≤◌, ◌<◌, min}
use native.Mathlib.Numerals.{add-one}
use native.Mathlib.Omega.{arith}
use native.Mathlib.Decide.{dec_lt}
use lib.ListN.{length, get_or, set, take, drop, length-set, drop_of_length-le}
use lib.Seq.{take-suc-set, drop-cons, get_or-set_same, get_or-set_other}
use Rattle.definition.specs.Types.{AbilityMark, TypeName, Apply, State, Struct, Result, ok, err, refused, ◌>>=◌}
use Rattle.definition.specs.Store.{args_at, map_types, with_structs, sp}
use Rattle.table.specs.Rows.{places}
use Rattle.table.specs.State.{view, seen, Lay, Grown, Refines, When, Lists, Parts, Placed, Named, outcome, listed, done}
use Rattle.table.specs.Out.{Outcome}
use Rattle.table.specs.declared.Used.{Used}
use Rattle.table.proofs.Steps.{refines_now, refines_is, refines_on, refines_as, bind_ok, then_is, stop_same, after_on, after_done}
use Rattle.table.proofs.Grown.{nodes_grow, front_length, args_kept, args_length}
use Rattle.std.specs.Prelude.{Ok}

-- ---- the walk, as the definition has it: `through` are through, `tys` are to come, and h follows

module _ {B : Type 0} (f : State → ℕ → Result (State × ℕ)) (h : List ℕ → State → Result B) where
  unfoldable pub rest : List ℕ → List ℕ → State → Result B
  rest through tys s = map_types f s tys >>= (λ p. h (through ++ p.1) p.0)

  rest_none : (through : List ℕ) (s : State) → rest through [] s ≡ h through s
  unfolding rest map_types ◌>>=◌
  rest_none through s = ap (λ (l : List ℕ). h l s) (append-nil through)

  abbrev cons : ℕ → State × List ℕ → Result (State × List ℕ)
  cons t p = ok (p.0, t ∷ p.1)

  cons_then : (through : List ℕ) (t : ℕ) (m : Result (State × List ℕ))
      → (m >>= cons t >>= (λ p. h (through ++ p.1) p.0)) ≡ (m >>= (λ p. h ((through ++ (t ∷ [])) ++ p.1) p.0))
  unfolding ◌>>=◌
  cons_then through t (ok (s, ts)) = ap (λ (l : List ℕ). h l s) (sym (append_assoc through (t ∷ []) ts))
  cons_then through t (err s e) = refl
  cons_then through t (refused x) = refl

  rest_more : (through : List ℕ) (t : ℕ) (ts : List ℕ) (s : State)
      → rest through (t ∷ ts) s ≡ (f s t >>= (λ p. rest (through ++ (p.1 ∷ [])) ts p.0))
  unfolding rest map_types ◌>>=◌
  rest_more through t ts s = by (f s t)
    where
      by : (r : Result (State × ℕ)) → (r >>= (λ q. map_types f q.0 ts >>= cons q.1) >>= (λ p. h (through ++ p.1) p.0)) ≡ (r >>= (λ p. rest (through ++ (p.1 ∷ [])) ts p.0))
      by (ok (s', t')) = cons_then through t' (map_types f s' ts)
      by (err s' e) = refl
      by (refused x) = refl

-- ---- the walk over the words: i types are through, and their answers are the first i of parts

pub record Walked {B : Type 0} (K : List Struct → Type 0) (f : State → ℕ → Result (State × ℕ)) (h : List ℕ → State → Result B) (tys : List ℕ) (many : ℕ) (w₀ : List ℕ) (u₀ : Used) (w : List ℕ) (u : Used) (parts : List ℕ) (i : ℕ) : Type 0 where
  pub changed : Refines K w₀ u₀ w u (rest f h (take i parts) (drop i tys)) (rest f h [] tys)
  pub size : length tys ≡ many
  pub few : many ≤ 8
  pub room : length parts ≡ 8
  pub through : i ≤ many
  pub below : (j : ℕ) → j < i → get_or parts j 0 < u.nodes

module _ {B : Type 0} {K : List Struct → Type 0} {f : State → ℕ → Result (State × ℕ)} {h : List ℕ → State → Result B} {tys : List ℕ} {many : ℕ} {w₀ : List ℕ} {u₀ : Used} where
  pub walk_start : {parts : List ℕ} → Lay w₀ u₀ → length tys ≡ many → many ≤ 8 → length parts ≡ 8 → Walked K f h tys many w₀ u₀ w₀ u₀ parts 0
  walk_start l size few e = record { changed = refines_now l (λ ds k. refl); size = size; few = few; room = e; through = omega arith; below = λ j p. absurd (omega arith) }

  module _ {w : List ℕ} {u : Used} {parts : List ℕ} {i : ℕ}
      (wk : Walked K f h tys many w₀ u₀ w u parts i) where
    -- the step of type i
    module _ {t : ℕ} {w' : List ℕ} {r : Outcome} {b : (Option ℕ)} (lt : i < many) (t_is : t ≡ get_or tys i 0) (a : When K w u w' r (λ s. f s t)) (b_is : b ≡ done r.out) where
      next : State × ℕ → Result B
      next p = rest f h (take i parts ++ (p.1 ∷ [])) (drop (suc i) tys) p.0

      next_is : (s : State) → (f s t >>= next) ≡ rest f h (take i parts) (drop i tys) s
      unfolding next
      next_is s =
          ap (λ (x : ℕ). f s x >>= next) t_is
          ∙ sym (rest_more f h (take i parts) (get_or tys i 0) (drop (suc i) tys) s)
          ∙ ap (λ (l : List ℕ). rest f h (take i parts) l s) (sym (drop-cons tys i 0 (omega (arith, wk.size))))

      stepped : Refines K w₀ u₀ w' r.used (λ s. outcome r.out s >>= next) (rest f h [] tys)
      stepped = refines_on (λ x. x) wk.changed (refines_is (λ ds k. next_is (seen w u ds)) (refines_as (λ m. m >>= next) a.changed (λ s. refl)))

      -- it is no number, so the walk ends with it, whatever was to follow
      pub walk_stops : b ≡ None → (g : State × ℕ → Result B) → Refines K w₀ u₀ w' r.used (λ s. outcome r.out s >>= g) (rest f h [] tys)
      walk_stops q g = refines_as (λ x. x) stepped (λ s. stop_same r.out s g next (sym b_is ∙ q))

      -- it is the number p
      pub walk_more : {p at : ℕ} → b ≡ Some p → at ≡ i → Walked K f h tys many w₀ u₀ w' r.used (set parts at p) (i + 1)
      unfolding next
      walk_more {p} {at} q e =
          record {
            changed = refines_as (λ x. x) stepped (λ s. rw (e, add-one, take-suc-set parts i p (omega (arith, wk.room, wk.few))) (then_is r.out s next p (sym b_is ∙ q)));
            size = wk.size;
            few = wk.few;
            room = simp length-set wk.room;
            through = omega arith;
            below = λ j lt'. by j lt' (dec_lt j i);
          }
        where
          by : (j : ℕ) → j < i + 1 → Dec (j < i) → get_or (set parts at p) j 0 < r.used.nodes
          by j lt' (yes y) = rw (e, get_or-set_other parts i j p 0 (λ z. omega arith)) (omega (arith, wk.below j y, nodes_grow w u w' r.used a.changed.grown))
          by j lt' (no n) = let z : j ≡ i = omega arith in rw (e, z, get_or-set_same parts i p 0 (omega (arith, wk.room, wk.few))) (after_done a b_is q)

    -- all are through, and what follows is h
    pub walk_ends : many ≤ i → Refines K w₀ u₀ w u (h (take many parts)) (rest f h [] tys)
    walk_ends no_more = refines_as (λ x. x) wk.changed (λ s. sym (rest_none f h (take many parts) s) ∙ rw (e, drop_of_length-le tys {i = i} (omega (arith, wk.size, e))) refl)
      where
        e : many ≡ i
        e = omega (arith, wk.through)

    pub walk_parts : many ≤ i → Parts u.nodes parts many
    walk_parts no_more = record { few = wk.few; below = λ j lt. wk.below j (omega (arith, wk.through)) }

-- ---- the same, where h answers a node

module _ {K : List Struct → Type 0} {f : State → ℕ → Result (State × ℕ)} {h : List ℕ → State → Result (State × ℕ)} {tys : List ℕ} {many : ℕ} {w₀ : List ℕ} {u₀ : Used} {w : List ℕ} {u : Used} {parts : List ℕ} {i : ℕ}
    (wk : Walked K f h tys many w₀ u₀ w u parts i)
    {w' : List ℕ} {r : Outcome} where
  pub walk_stop : {t : ℕ} {b : (Option ℕ)} → i < many → t ≡ get_or tys i 0 → When K w u w' r (λ s. f s t) → b ≡ done r.out → b ≡ None → When K w₀ u₀ w' r (rest f h [] tys)
  walk_stop lt t_is a p q = record { changed = refines_as (λ x. x) (walk_stops wk lt t_is a p q (λ x. ok x)) (λ s. sym (bind_ok (outcome r.out s))); inside = a.inside }

  pub walk_end : many ≤ i → When K w u w' r (h (take many parts)) → When K w₀ u₀ w' r (rest f h [] tys)
  walk_end no_more n = after_on (λ x. x) (walk_ends wk no_more) n

-- ---- the same, where the list itself is the answer

abbrev pub just_list : List ℕ → State → Result (State × List ℕ)
just_list l s = ok (s, l)

module _ {K : List Struct → Type 0} {f : State → ℕ → Result (State × ℕ)} {tys : List ℕ} {many : ℕ} {w₀ : List ℕ} {u₀ : Used} {w : List ℕ} {u : Used} {parts : List ℕ} {i : ℕ} (wk : Walked K f just_list tys many w₀ u₀ w u parts i) where
  pub list_stop : {t : ℕ} {w' : List ℕ} {r : Outcome} {b : (Option ℕ)} (n : ℕ) → i < many → t ≡ get_or tys i 0 → When K w u w' r (λ s. f s t) → b ≡ done r.out → b ≡ None → Lists K w₀ u₀ w' r.used r.out parts n (rest f just_list [] tys)
  unfolding listed
  list_stop n lt t_is a p q =
      record {
        changed = walk_stops wk lt t_is a p q (λ x. ok (x.0, take n parts));
        inside = record { below = λ t e. let z : ◌≡◌ {A = ℕ} 0 1 = cc (e, q, p) in absurd (omega arith); inside = λ e. a.inside };
      }

  pub list_end : (n : ℕ) → many ≤ i → Lists K w₀ u₀ w u (Ok n) parts many (rest f just_list [] tys)
  unfolding listed outcome ◌>>=◌
  list_end n no_more =
      record {
        changed = walk_ends wk no_more;
        inside = record { below = λ t e. walk_parts wk no_more; inside = λ e. let z : ◌≡◌ {A = ℕ} 0 1 = cc in absurd (omega arith) };
      }

-- ---- the arguments of a named type

pub placed_length : (w : List ℕ) (u : Used) (first many : ℕ) → Placed w u first many → length (args_at (view w u) (places first many)) ≡ many
unfolding places
placed_length w u first many pl = args_length (view w u) (places first many) pl.inside

-- argument i, read when rows were added, is what it was
pub arg_kept : (w₀ : List ℕ) (u₀ : Used) (first many : ℕ) → Placed w₀ u₀ first many → (w : List ℕ) (u : Used) → Grown (view w₀ u₀) (view w u) → (t i : ℕ) → i < many
    → ((ds : List Struct) (n : ℕ) → i < n → t ≡ get_or (args_at (seen w u ds) (places first n)) i 0) → t ≡ get_or (args_at (view w₀ u₀) (places first many)) i 0
unfolding seen with_structs args_at places
arg_kept w₀ u₀ first many pl w u g t i lt e = e [] many lt ∙ ap (λ (l : List ℕ). get_or l i 0) (args_kept (view w₀ u₀) (view w u) (places first many) g pl.inside)

pub named_kept : (w₀ : List ℕ) (u₀ : Used) (first many ty : ℕ) → Named w₀ u₀ first many ty → (w : List ℕ) (u : Used) → Grown (view w₀ u₀) (view w u) → Named w u first many ty
unfolding places
named_kept w₀ u₀ first many ty nm w u g =
    record {
      placed = record { few = nm.placed.few; inside = omega (arith, nm.placed.inside, front_length _ _ g.args) };
      smaller = λ i lt. rw (args_kept (view w₀ u₀) (view w u) (places first many) g nm.placed.inside) (nm.smaller i lt);
    }

pub named_below : (w : List ℕ) (u : Used) (first many ty n : ℕ) → ty < n → Named w u first many ty → Named w u first many n
named_below w u first many ty n lt nm = record { placed = nm.placed; smaller = λ i h. omega (arith, nm.smaller i h) }

-- ---- the numbers j, j + 1, .., k of them: a walk over places

unfoldable pub range : ℕ → ℕ → List ℕ
range j zero = []
range j (suc k) = j ∷ range (suc j) k

pub range_length : (j k : ℕ) → length (range j k) ≡ k
unfolding range
range_length j zero = refl
range_length j (suc k) = ap suc (range_length (suc j) k)

range_from : (j k i : ℕ) → i < k → get_or (range j k) i 0 ≡ j + i
unfolding range
range_from j zero i h = absurd (omega arith)
range_from j (suc k) zero h = omega arith
range_from j (suc k) (suc i) h = range_from (suc j) k i (omega arith) ∙ (omega arith)

pub range_at : (k i : ℕ) → i < k → i ≡ get_or (range 0 k) i 0
range_at k i h = omega (arith, range_from 0 k i h)

-- ---- two lists gone through together, as far as both go

unfoldable pub zip_types : (State → ℕ → ℕ → Result (State × ℕ)) → State → List ℕ → List ℕ → Result (State × List ℕ)
zip_types g s [] m = ok (s, [])
zip_types g s (x ∷ l) [] = ok (s, [])
zip_types g s (x ∷ l) (y ∷ m) = do (s, t) ← g s x y; (s, ts) ← zip_types g s l m; ok (s, t ∷ ts)

-- .. is a walk over places: f does at place j + i what g does with the i-th of both
module _ (g : State → ℕ → ℕ → Result (State × ℕ)) (f : State → ℕ → Result (State × ℕ)) where
  abbrev onto : ℕ → State × List ℕ → Result (State × List ℕ)
  onto t p = ok (p.0, t ∷ p.1)

  zip_walk : (k : ℕ) (l m : List ℕ) (j : ℕ) (s : State) → k ≡ min (length l) (length m) → ((i : ℕ) (s : State) → i < k → g s (get_or l i 0) (get_or m i 0) ≡ f s (j + i)) → zip_types g s l m ≡ map_types f s (range j k)
  unfolding zip_types map_types range
  zip_walk zero [] m j s e p = refl
  zip_walk zero (x ∷ l) [] j s e p = refl
  zip_walk zero (x ∷ l) (y ∷ m) j s e p = absurd (omega arith)
  zip_walk (suc k) [] m j s e p = absurd (omega arith)
  zip_walk (suc k) (x ∷ l) [] j s e p = absurd (omega arith)
  zip_walk (suc k) (x ∷ l) (y ∷ m) j s e p =
      ap (λ (h : State × ℕ → Result (State × List ℕ)). g s x y >>= h)
      (λ i r. zip_walk k l m (suc j) r.0 (omega arith) (λ i s lt. p (suc i) s (omega arith) ∙ ap (f s) (omega arith)) i >>= onto r.1)
      ∙ ap (λ (c : Result (State × ℕ)). c >>= (λ r. map_types f r.0 (range (suc j) k) >>= onto r.1)) (p 0 s (omega arith) ∙ ap (f s) (omega arith))

  pub zip_is : {B : Type 0} (h : List ℕ → State → Result B) (k : ℕ) (l m : List ℕ) (s : State) → k ≡ min (length l) (length m) → ((i : ℕ) (s : State) → i < k → g s (get_or l i 0) (get_or m i 0) ≡ f s i)
      → rest f h [] (range 0 k) s ≡ (zip_types g s l m >>= (λ p. h p.1 p.0))
  unfolding rest
  zip_is h k l m s e p = ap (λ (c : Result (State × List ℕ)). c >>= (λ p. h p.1 p.0)) (sym (zip_walk k l m 0 s e (λ i s lt. p i s lt ∙ ap (f s) (omega arith))))

-- ---- what follows a named type's arguments: its node

unfoldable pub sp_apply : ℕ → AbilityMark → TypeName → List ℕ → State → Result (State × ℕ)
sp_apply loc k n tys s = sp s loc (Apply k n tys)
