-- The occurs walk: what is known of the spelling of node t once the parts before part i are passed without meeting v. Assumes nothing.
-- `Ahead` and `Ends` say it of a state of the definition, `Passed` of the code's loop; `Walked` adds the table, `Spent` the budget.
use mathlib.Core.Path.{◌≡◌, refl, sym, ap, ◌∙◌}
use mathlib.Core.Bool.{Bool, true, false, ◌||◌}
use mathlib.Core.List.{List, [], ◌∷◌, ◌++◌}
use Prim.Native.Nat.{ℕ, suc, ◌+◌, ◌-◌, ◌*◌, ◌<◌, ◌≤◌}
use native.Mathlib.Decide.{ℕ_discrete, dec_lt}
use native.Mathlib.Omega.{arith}
use lib.ListN.{length, get_or, set, drop, length-set, replicate, length-replicate}
use lib.Seq.{get_or-set_other, get_or-set_same}
use Rattle.std.proofs.lemmas.List.{drop_more, drop_all}
use Rattle.definition.specs.Types as d
use Rattle.definition.specs.Types.{Struct}
use Rattle.definition.specs.Store.{count, node, with_args, type_at, any_of}
use Rattle.definition.specs.Subst.{parts}
use Rattle.definition.specs.Join.{is_var, used}
use Rattle.definition.specs.Write.{each}
use Rattle.definition.specs.Spelled.{spelled, first_place, cut, looked_at}
use Rattle.theorems.proofs.DemandOrder.{All}
use Rattle.theorems.proofs.TotalFuel.{each_same}
use Rattle.theorems.proofs.Spelled.{is_it, used_spelled, spelled_levels, any_append}
use Rattle.table.specs.State.{shape_of, node_of, Inside}
use Rattle.table.specs.Did.{held}
use Rattle.table.specs.declared.state.State.{State}
use Rattle.table.specs.declared.Shape.{Shape}
use Rattle.table.specs.declared.Node.{Node}
use Rattle.shapes.specs.Parts.{part_count}
use Rattle.shapes.proofs.Nodes.{At, at_node, at_listed, listed_part, part_low, counted, few_parts, inside_seen, many_parts, part_is, parts_low}
use Rattle.subst.specs.declared.Soon.{Soon}
use Rattle.subst.specs.declared.Soon.TheVariants.{Met, Clear, Later}
use Rattle.subst.specs.Answers.{place, Looks, Leaves, SoonLooked, Counted}
use Rattle.subst.proofs.Lists.{any_here, any_later, place_here, place_later, place_found, place_passed, cut_low, cut_most, cut_sum, zero_at}

-- ---- a state of the definition

all_of_entries : (P : ℕ → Type 0) (l : List ℕ) → ((i : ℕ) → i < length l → P (get_or l i 0)) → All P l
all_of_entries P [] h = tt
all_of_entries P (x ∷ l) h = (h 0 (omega arith), all_of_entries P l (λ i k. h (suc i) (omega arith)))

-- the spellings of nodes, one after the other
abbrev pub spellings : d.State → List ℕ → List ℕ
spellings s ps = each (λ p. spelled (suc p) s p) ps

-- the first place of v in the spelling of t stands behind n parts, the whole type one of them: in the spellings of its parts from part i on
pub record Ahead (s : d.State) (v t i n : ℕ) : Type 0 where
  pub used_is : used (suc t) s v t ≡ any_of (is_it s v) (spellings s (drop i (parts (type_at s t))))
  pub place_is : place s v t ≡ n + first_place (is_it s v) (spellings s (drop i (parts (type_at s t))))

-- v is met in t, at place n; or it is not, and t has n parts
pub record Ends (s : d.State) (v t : ℕ) (met : Bool) (n : ℕ) : Type 0 where
  pub used_is : used (suc t) s v t ≡ met
  pub place_is : place s v t ≡ n

abbrev parts_of : d.State → ℕ → List ℕ
parts_of s t = parts (type_at s t)

module _ (s : d.State) (inside : Inside s) (v t : ℕ) (h : t < count s) where
  spelled_is : spelled (suc t) s t ≡ t ∷ spellings s (parts_of s t)
  unfolding spelled
  spelled_is =
      let below : (x : ℕ) → x < count s → All (λ p. p < x) (parts (type_at s x)) = λ x k. all_of_entries (λ p. p < x) (parts (type_at s x)) (parts_low s inside x k) in
      ap (λ (l : List ℕ). t ∷ l)
      (each_same (λ p. spelled t s p) (λ p. spelled (suc p) s p) (λ p. p < t) (λ p l. spelled_levels s below t (suc p) p (omega arith) l (omega arith)) (parts_of s t) (below t h))

  of_spelling : used (suc t) s v t ≡ any_of (is_it s v) (t ∷ spellings s (parts_of s t))
  of_spelling = let u : used (suc t) s v t ≡ any_of (is_it s v) (spelled (suc t) s t) = used_spelled (suc t) s v t in u ∙ ap (any_of (is_it s v)) spelled_is

  -- node t is v itself
  ends_self : is_it s v t ≡ true → Ends s v t true 1
  ends_self e = record { used_is = of_spelling ∙ any_here (is_it s v) t (spellings s (parts_of s t)) e; place_is = ap (first_place (is_it s v)) spelled_is ∙ place_here (is_it s v) t (spellings s (parts_of s t)) e }

  ahead_none : is_it s v t ≡ false → Ahead s v t 0 1
  ahead_none e = record {
    used_is = of_spelling ∙ any_later (is_it s v) t (spellings s (parts_of s t)) e;
    place_is = let q = place_later (is_it s v) t (spellings s (parts_of s t)) e in ap (first_place (is_it s v)) spelled_is ∙ omega (arith, q);
  }

module _ (s : d.State) (v t : ℕ) {i n : ℕ} (a : Ahead s v t i n) where
  ahead_all : length (parts_of s t) ≤ i → Ends s v t false n
  unfolding each any_of first_place
  ahead_all l =
      let z : drop i (parts_of s t) ≡ [] = drop_all i (parts_of s t) l in
      let q : first_place (is_it s v) (spellings s (drop i (parts_of s t))) ≡ 0 = ap (λ (ps : List ℕ). first_place (is_it s v) (spellings s ps)) z in
      record { used_is = a.used_is ∙ ap (λ (ps : List ℕ). any_of (is_it s v) (spellings s ps)) z; place_is = a.place_is ∙ omega (arith, q) }

  module _ (p : ℕ) (l : i < length (parts_of s t)) (e : p ≡ get_or (parts_of s t) i 0) where
    abbrev after : List ℕ
    after = spellings s (drop (i + 1) (parts_of s t))

    next : spellings s (drop i (parts_of s t)) ≡ spelled (suc p) s p ++ after
    unfolding each
    next = ap (spellings s) (drop_more (parts_of s t) i 0 l ∙ ap (λ (x : ℕ). x ∷ drop (i + 1) (parts_of s t)) (sym e))

    in_part : any_of (is_it s v) (spelled (suc p) s p) ≡ used (suc p) s v p
    in_part = sym (used_spelled (suc p) s v p)

    of_part : (b : Bool) → used (suc p) s v p ≡ b → used (suc t) s v t ≡ b || any_of (is_it s v) after
    of_part b u = a.used_is ∙ ap (any_of (is_it s v)) next ∙ any_append (is_it s v) (spelled (suc p) s p) after ∙ ap (λ (b : Bool). b || any_of (is_it s v) after) (in_part ∙ u)

    place_next : place s v t ≡ n + first_place (is_it s v) (spelled (suc p) s p ++ after)
    place_next = a.place_is ∙ ap (λ (l : List ℕ). n + first_place (is_it s v) l) next

    ahead_met : used (suc p) s v p ≡ true → Ends s v t true (n + place s v p)
    ahead_met u = record { used_is = of_part true u; place_is = place_next ∙ ap (λ (k : ℕ). n + k) (place_found (is_it s v) (spelled (suc p) s p) after (in_part ∙ u)) }

    ahead_more : used (suc p) s v p ≡ false → Ahead s v t (i + 1) (n + place s v p)
    ahead_more u = record { used_is = of_part false u; place_is = let q = place_passed (is_it s v) (spelled (suc p) s p) after (in_part ∙ u) in place_next ∙ omega (arith, q) }

-- ---- the walk at node t

module _ (s : State) (v : ℕ) {t : ℕ} {sh : Shape} {many : ℕ} (a : At s.words.now s.used t sh many) (b : Bool) (e : (x : d.State) → b ≡ is_var v (with_args x (shape_of sh))) where
  its_test : (ds : List Struct) → is_it (held s ds) v t ≡ b
  its_test ds = sym (e (held s ds) ∙ ap (is_var v) (a.is ds))

  self : b ≡ true → (ds : List Struct) → Ends (held s ds) v t true 1
  self z ds = ends_self (held s ds) (inside_seen s.words.now s.used ds a.lay) v t (counted a ds) (its_test ds ∙ z)

  pub self_looks : b ≡ true → Looks s v t true 1
  unfolding looked_at
  self_looks z = record { is = λ ds. (self z ds).used_is; many = λ ds. ap cut (self z ds).place_is ∙ cut_low 1 (omega arith) }

  pub self_leaves : b ≡ true → (budget left : ℕ) → 1 + left ≡ budget → Leaves s v t budget true left
  self_leaves z budget left l = record { is = λ ds. (self z ds).used_is; many = λ ds. let q = (self z ds).place_is in omega (arith, q, l) }

  start : b ≡ false → (ds : List Struct) → Ahead (held s ds) v t 0 1
  start z ds = ahead_none (held s ds) (inside_seen s.words.now s.used ds a.lay) v t (counted a ds) (its_test ds ∙ z)

-- the parts before part i are passed without meeting v, so many, whatever the declarations are
pub record Passed (s : State) (v t : ℕ) (sh : Shape) (many i : ℕ) : Type 0 where
  pub at : At s.words.now s.used t sh many
  pub passed : List Struct → ℕ
  pub ahead : (ds : List Struct) → Ahead (held s ds) v t i (passed ds)

module _ {s : State} {v t : ℕ} {sh : Shape} {many i : ℕ} (h : Passed s v t sh many i) where
  passed_all : many ≤ i → (ds : List Struct) → Ends (held s ds) v t false (h.passed ds)
  passed_all l ds = ahead_all (held s ds) v t (h.ahead ds) (rw (many_parts h.at ds) l)

  module _ (p : ℕ) (l : i < many) (e : (ds : List Struct) → i < part_count (shape_of sh) → p ≡ get_or (parts (with_args (held s ds) (shape_of sh))) i 0) where
    inside : (ds : List Struct) → i < length (parts (type_at (held s ds) t))
    inside ds = rw (many_parts h.at ds) l

    passed_met : ((ds : List Struct) → used (suc p) (held s ds) v p ≡ true) → (ds : List Struct) → Ends (held s ds) v t true (h.passed ds + place (held s ds) v p)
    passed_met u ds = ahead_met (held s ds) v t (h.ahead ds) p (inside ds) (part_is h.at i p l e ds) (u ds)

    passed_more : ((ds : List Struct) → used (suc p) (held s ds) v p ≡ false) → Passed s v t sh many (i + 1)
    passed_more u = record { at = h.at; passed = λ ds. h.passed ds + place (held s ds) v p; ahead = λ ds. ahead_more (held s ds) v t (h.ahead ds) p (inside ds) (part_is h.at i p l e ds) (u ds) }

-- ---- with the table

pub record Walked (s : State) (v t many : ℕ) (counts : List ℕ) (i looked : ℕ) : Type 0 where
  pub shape : Shape
  pub before : Passed s v t shape many i
  pub is_cut : (ds : List Struct) → cut looked ≡ cut (before.passed ds)
  pub few : looked ≤ 1 + i * 4096
  pub table : Counted s v counts

pub walked_none : (s : State) (v t : ℕ) (n : Node) (parts_now counts : List ℕ) → t < s.used.nodes → ((ds : List Struct) → node_of n ≡ node (held s ds) t) → ((ds : List Struct) → parts_now ≡ parts (type_at (held s ds) t)) → Counted s v counts → (b : Bool)
    → ((x : d.State) → b ≡ is_var v (with_args x (shape_of n.shape))) → b ≡ false → Walked s v t (length parts_now) counts 0 1
walked_none s v t n parts_now counts lt node_is listed c b e z =
    let a = at_listed (at_node s.words.now s.used t (part_count (shape_of n.shape)) n s.lay lt node_is refl) parts_now listed in
    record { shape = n.shape; before = record { at = a; passed = λ ds. 1; ahead = start s v a b e z }; is_cut = λ ds. refl; few = omega arith; table = c }

module _ {s : State} {v t many : ℕ} {counts : List ℕ} {i looked : ℕ} (h : Walked s v t many counts i looked) where
  pub walked_all : many ≤ i → (r : ℕ) → r ≡ cut looked → Looks s v t false r
  unfolding looked_at
  walked_all l r c = record { is = λ ds. (passed_all h.before l ds).used_is; many = λ ds. ap cut (passed_all h.before l ds).place_is ∙ sym (c ∙ h.is_cut ds) }

  -- a part whose number is known
  pub walked_known : (p n : ℕ) → 0 < get_or counts p 0 → n ≡ get_or counts p 0 → Looks s v p false n
  walked_known p n l e = rw e (h.table.known p l)

  -- part i of the list of them
  module _ (l : List ℕ) (listed : (ds : List Struct) → l ≡ parts (type_at (held s ds) t)) (lt : i < many) where
    is_part : (ds : List Struct) → i < part_count (shape_of h.shape) → get_or l i 0 ≡ get_or (parts (with_args (held s ds) (shape_of h.shape))) i 0
    is_part ds k = listed_part h.before.at l listed i ds

    pub part_below : get_or l i 0 < t
    part_below = part_low h.before.at i (get_or l i 0) lt is_part

    module _ (met : Bool) (n : ℕ) (part : Looks s v (get_or l i 0) met n) where
      abbrev sum : List Struct → ℕ
      sum ds = h.before.passed ds + place (held s ds) v (get_or l i 0)

      part_most : n ≤ 4096
      unfolding looked_at
      part_most = rw (← (part.many [])) (cut_most (place (held s []) v (get_or l i 0)))

      -- eight parts at most, each cut
      pub sum_most : looked + n ≤ 32769
      sum_most = omega (arith, part_most, h.few, lt, few_parts h.before.at)

      sum_is : (ds : List Struct) → cut (looked + n) ≡ cut (sum ds)
      unfolding looked_at
      sum_is ds =
          sym (cut_sum looked n)
          ∙ ap (λ (k : ℕ). cut (k + cut n)) (h.is_cut ds)
          ∙ ap (λ (k : ℕ). cut (cut (h.before.passed ds) + k)) (cut_low n part_most ∙ sym (part.many ds))
          ∙ cut_sum (h.before.passed ds) (place (held s ds) v (get_or l i 0))

      pub walked_met : met ≡ true → (r : ℕ) → r ≡ cut (looked + n) → Looks s v t true r
      unfolding looked_at
      walked_met z r c =
          let ends : (ds : List Struct) → Ends (held s ds) v t true (sum ds) = passed_met h.before (get_or l i 0) lt is_part (λ ds. part.is ds ∙ z) in
          record { is = λ ds. (ends ds).used_is; many = λ ds. ap cut (ends ds).place_is ∙ sym (c ∙ sum_is ds) }

      pub walked_more : met ≡ false → (counts' : List ℕ) → Counted s v counts' → Walked s v t many counts' (i + 1) (looked + n)
      unfolding passed_more
      walked_more z counts' table =
          record { shape = h.shape; before = passed_more h.before (get_or l i 0) lt is_part (λ ds. part.is ds ∙ z); is_cut = sum_is; few = omega (arith, part_most, h.few); table = table }

-- node t gets its number
pub counted_more : (s : State) (v t n : ℕ) (counts : List ℕ) → Counted s v counts → t < 2048 → Looks s v t false n → Counted s v (set counts t n)
counted_more s v t n counts c l e = record { size = length-set counts t n ∙ c.size; known = λ x. by x (ℕ_discrete x t) }
  where
    by : (x : ℕ) → Dec (x ≡ t) → 0 < get_or (set counts t n) x 0 → Looks s v x false (get_or (set counts t n) x 0)
    by x (yes d) k = rw (d, get_or-set_same counts t n 0 (rw c.size l)) e
    by x (no d) k = rw (get_or-set_other counts t x n 0 d) (c.known x (rw (get_or-set_other counts t x n 0 d) at k))

pub counted_none : (s : State) (v : ℕ) → Counted s v (replicate 2048 0)
counted_none s v = record { size = length-replicate {A = ℕ} 2048 0; known = λ t k. absurd (let z = zero_at 2048 t (dec_lt t 2048) in omega (arith, z, k)) }

-- ---- with a budget

pub record Spent (s : State) (v t : ℕ) (sh : Shape) (many budget i rest : ℕ) : Type 0 where
  pub before : Passed s v t sh many i
  pub left : (ds : List Struct) → before.passed ds + rest ≡ budget

pub spent_none : (s : State) (v t : ℕ) (sh : Shape) (many budget rest : ℕ) → At s.words.now s.used t sh many → 1 + rest ≡ budget → (b : Bool) → ((x : d.State) → b ≡ is_var v (with_args x (shape_of sh))) → b ≡ false → Spent s v t sh many budget 0 rest
spent_none s v t sh many budget rest a l b e z = record { before = record { at = a; passed = λ ds. 1; ahead = start s v a b e z }; left = λ ds. l }

module _ {s : State} {v t : ℕ} {sh : Shape} {many budget i rest : ℕ} (h : Spent s v t sh many budget i rest) where
  pub spent_all : many ≤ i → Leaves s v t budget false rest
  spent_all l = record { is = λ ds. (passed_all h.before l ds).used_is; many = λ ds. let q = (passed_all h.before l ds).place_is in let k = h.left ds in omega (arith, q, k) }

  module _ (p : ℕ) (l : i < many) (e : (ds : List Struct) → i < part_count (shape_of sh) → p ≡ get_or (parts (with_args (held s ds) (shape_of sh))) i 0) (met : Bool) (n : ℕ) (part : Leaves s v p rest met n) where
    pub spent_met : met ≡ true → Leaves s v t budget true n
    spent_met z =
        let ends : (ds : List Struct) → Ends (held s ds) v t true (h.before.passed ds + place (held s ds) v p) = passed_met h.before p l e (λ ds. part.is ds ∙ z) in
        record { is = λ ds. (ends ds).used_is; many = λ ds. let q = (ends ds).place_is in let k = h.left ds in let m = part.many ds in omega (arith, q, k, m) }

    pub spent_more : met ≡ false → Spent s v t sh many budget (i + 1) n
    unfolding passed_more
    spent_more z = record { before = passed_more h.before p l e (λ ds. part.is ds ∙ z); left = λ ds. let k = h.left ds in let m = part.many ds in omega (arith, k, m) }

  -- over, or no part is left in the budget
  pub spent_over : (p : ℕ) (l : i < many) (e : (ds : List Struct) → i < part_count (shape_of sh) → p ≡ get_or (parts (with_args (held s ds) (shape_of sh))) i 0) (r : Soon) → ((n : ℕ) → ¬ (r ≡ Clear n)) → SoonLooked s v p rest r → SoonLooked s v t budget r
  spent_over p l e (Met n) c part = spent_met p l e true n part refl
  spent_over p l e (Clear n) c part = absurd (c n refl)
  spent_over p l e Later c part = tt

-- so few parts that they are not cut
pub leaves_looks : (s : State) (v t budget : ℕ) (met : Bool) (rest : ℕ) → budget ≤ 4096 → Leaves s v t budget met rest → Looks s v t met (budget - rest)
unfolding looked_at
leaves_looks s v t budget met rest l h = record { is = h.is; many = λ ds. let q = h.many ds in cut_low (place (held s ds) v t) (omega (arith, q, l)) ∙ omega (arith, q) }

pub leaves_low : (s : State) (v t budget : ℕ) (met : Bool) (rest : ℕ) → Leaves s v t budget met rest → rest ≤ budget
leaves_low s v t budget met rest h = let q = h.many [] in omega (arith, q)
