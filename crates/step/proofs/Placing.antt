-- Only SD is placed as a declaration and only SV as solving, and both leave the state as it is; only RD, CN and XP are placed as ones to be spelled, each in its way, and the node is that of the record's tree; only MJ is placed as pairs. Assumes nothing.
use mathlib.Core.Path.{◌≡◌, refl, sym, ap, ◌∙◌}
use mathlib.Core.List.{List, []}
use Prim.Native.Nat.{ℕ, ◌≤◌}
use native.Mathlib.Omega.{arith}
use Rattle.definition.specs.Types.{State, BaseTypeConstraint, SingleTypeConstraint, Result, ok, err, refused, ◌>>=◌}
use Rattle.definition.specs.Trees.{Tree}
use Rattle.definition.specs.Build.{build, build_pairs, build_many}
use Rattle.definition.specs.Join.{TypingCase}
use Rattle.definition.specs.Step.{Apart, numeric_constraint, max_payload, apart, most_of, counted}
use Rattle.definition.specs.Step.{tail_of as tail_before}
use Rattle.definition.specs.Write.{Bytes}
use Rattle.definition.specs.Subst.{links_of}
use Rattle.definition.specs.Links.{join_links}
use Rattle.definition.specs.Record as d
use Rattle.definition.specs.Record.{Record}
use Rattle.theorems.specs.ReadySpelled.{Spelling, Located, Canonical, spelled_record}
use Rattle.theorems.proofs.DemandTracks.{never}
use Rattle.theorems.proofs.DemandEveryDepth.{ByApart, as_other, as_many, as_links_of_one, as_links_of_two, as_keeps, by_apart}
use Rattle.fields.specs.Noded.{set_num, two, joined_links, instantiate, unfolded, unfolded_links, ready, tparams, constrain, Run, binds, looks, adds, Noded, declare, solve, expand, many, keep, run, Shape, declares, solves, expands, none, one, both, after_pairs, all_pairs, keeps, shape, place, place_record}
use Rattle.run.specs.Runs.{join_tail, unfold_tail}
use Rattle.run.specs.Dispatch.{tail_of}

-- whether it is declared or solved, without a type
abbrev own : Noded → ℕ
own (declare a ps) = 1
own solve = 1
own (expand t) = 0
own (many ps) = 0
own (keep listed) = 0
own (run r) = 0

-- whether it is MJ's
abbrev pub is_many : Noded → ℕ
is_many (declare a ps) = 0
is_many solve = 0
is_many (expand t) = 0
is_many (many ps) = 1
is_many (keep listed) = 0
is_many (run r) = 0

-- whether it is RD's, CN's, XP's, MJ's or KP's, which the record tells
abbrev by_trees : Noded → ℕ
by_trees (declare a ps) = 0
by_trees solve = 0
by_trees (expand t) = 1
by_trees (many ps) = 1
by_trees (keep listed) = 1
by_trees (run (binds b)) = 0
by_trees (run (looks (unfolded t))) = 0
by_trees (run (looks (unfolded_links t))) = 0
by_trees (run (looks (ready how t))) = 1
by_trees (run (looks (tparams ps t))) = 0
by_trees (run (adds a)) = 0

-- whether a count stands behind what it shows
abbrev counts : Noded → ℕ
counts (declare a ps) = 0
counts solve = 0
counts (expand t) = 0
counts (many ps) = 0
counts (keep listed) = 0
counts (run (binds (set_num v loc))) = 0
counts (run (binds (two case lhs rhs))) = 0
counts (run (binds (joined_links lhs rhs))) = 1
counts (run (binds (instantiate t))) = 0
counts (run (looks (unfolded t))) = 0
counts (run (looks (unfolded_links t))) = 1
counts (run (looks (ready how t))) = 0
counts (run (looks (tparams ps t))) = 0
counts (run (adds a)) = 0

-- .. and which
abbrev pub tail_after : Noded → State → Bytes
tail_after (declare a ps) s = []
tail_after solve s = []
tail_after (expand t) s = []
tail_after (many ps) s = []
tail_after (keep listed) s = []
tail_after (run r) s = tail_of r s

abbrev whose : Noded → Shape
whose (declare a ps) = declares a ps
whose solve = solves
whose (expand t) = solves
whose (many ps) = solves
whose (keep listed) = solves
whose (run r) = none r

-- of a record whose run is told by no mark, placing it is told by none
module _ (told : Noded → ℕ) where
  abbrev told_in : Result (State × Noded) → ℕ
  told_in (ok p) = told p.1
  told_in (err s e) = 0
  told_in (refused x) = 0

  last : {A : Type 0} (m : Result (State × A)) (f : A → Noded) → ((a : A) → told (f a) ≡ 0) → told_in (m >>= (λ p. ok (p.0, f p.1))) ≡ 0
  unfolding ◌>>=◌
  last (ok p) f h = h p.1
  last (err s e) f h = refl
  last (refused x) f h = refl

  more : {A : Type 0} (m : Result (State × A)) (t : Tree) (f : A → ℕ → Run) → ((a : A) (u : ℕ) → told (run (f a u)) ≡ 0) → told_in (m >>= (λ p. build t p.0 >>= (λ q. ok (q.0, run (f p.1 q.1))))) ≡ 0
  unfolding ◌>>=◌
  more (ok p) t f h = last (build t p.0) (λ u. run (f p.1 u)) (h p.1)
  more (err s e) t f h = refl
  more (refused x) t f h = refl

  not_told : {A : Type 0} {s : State} {n : Noded} (m : Result (State × Noded)) → told_in m ≡ 0 → m ≡ ok (s, n) → 1 ≤ told n → A
  not_told m z e l = absurd (omega (arith, z, ap told_in e))

module _ (s' : State) (n : Noded) where
  parts : (s : State) (a : Noded) → ◌≡◌ {A = Result (State × Noded)} (ok (s, a)) (ok (s', n)) → (n ≡ a) × (s' ≡ s)
  parts s a e =
      let f : ◌≡◌ {A = State × Noded} (s', n) (s, a) = cc in
      (ap (λ (p : State × Noded). p.1) f, ap (λ (p : State × Noded). p.0) f)

  own_placed : (h : Shape) (s : State) → 1 ≤ own n → place h s ≡ ok (s', n) → (h ≡ whose n) × (s' ≡ s)
  own_placed (declares a ps) s l e = let p = parts s (declare a ps) e in (sym (ap whose p.0), p.1)
  own_placed solves s l e = let p = parts s solve e in (sym (ap whose p.0), p.1)
  own_placed (expands t) s l e = not_told own _ (last own (build t s) expand (λ a. refl)) e l
  own_placed (none r) s l e = not_told own _ refl e l
  own_placed (one t f) s l e = not_told own _ (last own (build t s) (λ u. run (f u)) (λ a. refl)) e l
  own_placed (both t u f) s l e = not_told own _ (more own (build t s) u f (λ a b. refl)) e l
  own_placed (after_pairs ps t f) s l e = not_told own _ (more own (build_pairs ps s) t f (λ a b. refl)) e l
  own_placed (all_pairs ps) s l e = not_told own _ (last own (build_many ps s) many (λ a. refl)) e l
  own_placed (keeps listed) s l e = not_told own _ refl e l

pub placed_SD : (x : Record) (s s' : State) (a : ℕ) (ps : List ℕ) → place_record x s ≡ ok (s', declare a ps) → (shape x ≡ declares a ps) × (s' ≡ s)
unfolding place_record
placed_SD x s s' a ps e = own_placed s' (declare a ps) (shape x) s (omega arith) e

pub placed_SV : (x : Record) (s s' : State) → place_record x s ≡ ok (s', solve) → s' ≡ s
unfolding place_record
placed_SV x s s' e = (own_placed s' solve (shape x) s (omega arith) e).1

-- the record that `make` gives, of a tree that is placed as node ty
pub record OfTree (s s' : State) (make : Tree → Record) (ty : ℕ) (x : Record) : Type 0 where
  pub tree : Tree
  pub is : x ≡ make tree
  pub placed : build tree s ≡ ok (s', ty)

-- .. MJ, of trees that are placed as the pairs qs
pub record OfTrees (s s' : State) (qs : List (TypingCase × ℕ × ℕ)) (x : Record) : Type 0 where
  pub trees : List (TypingCase × Tree × Tree)
  pub is : x ≡ d.MJ trees
  pub placed : build_many trees s ≡ ok (s', qs)

-- such a record, by what it is placed as
pub data PlacedTree (s s' : State) (x : Record) : Noded → Type 0 where
  placed_spelled : {how : Spelling} {ty : ℕ} → OfTree s s' (spelled_record how) ty x → PlacedTree s s' x (run (looks (ready how ty)))
  placed_expanded : {ty : ℕ} → OfTree s s' d.XP ty x → PlacedTree s s' x (expand ty)
  placed_pairs : {qs : List (TypingCase × ℕ × ℕ)} → OfTrees s s' qs x → PlacedTree s s' x (many qs)
  placed_kept : {listed : List ℕ} → x ≡ d.KP listed → s' ≡ s → PlacedTree s s' x (keep listed)

module _ (s s' : State) (n : Noded) where
  abbrev Placed : Result (State × Noded) → Type 0
  Placed m = m ≡ ok (s', n)

  built : {A : Type 0} (m : Result (State × A)) (f : A → Noded) → Placed (m >>= (λ p. ok (p.0, f p.1))) → (ty : A) × (m ≡ ok (s', ty)) × (n ≡ f ty)
  unfolding ◌>>=◌
  built (ok p) f e = let q = parts s' n p.0 (f p.1) e in (p.1, ap (λ (s : State). ok (s, p.1)) (sym q.1), q.0)
  built (err x y) f e = never (cc)
  built (refused x) f e = never (cc)

  module _ (l : 1 ≤ by_trees n) where
    not_by_trees : {A : Type 0} (m : Result (State × Noded)) → told_in by_trees m ≡ 0 → Placed m → A
    not_by_trees m z e = not_told by_trees m z e l

    as_spelled : (how : Spelling) (t : Tree) → Placed (build t s >>= (λ p. ok (p.0, run (looks (ready how p.1))))) → PlacedTree s s' (spelled_record how t) n
    as_spelled how t e = let (ty, b, q) = built (build t s) (λ u. run (looks (ready how u))) e in rw q (placed_spelled (record { tree = t; is = refl; placed = b }))

    pub placed_tree : (x : Record) → Placed (place_record x s) → PlacedTree s s' x n
    unfolding place_record
    placed_tree (d.SD abilities params) e = not_by_trees _ refl e
    placed_tree (d.FV loc) e = not_by_trees _ refl e
    placed_tree (d.NV loc) e = not_by_trees _ refl e
    placed_tree (d.SN v loc) e = not_by_trees _ refl e
    placed_tree (d.NL loc bits) e = not_by_trees _ refl e
    placed_tree (d.JN t1 t2) e = not_by_trees _ (more by_trees (build t1 s) t2 _ (λ a b. refl)) e
    placed_tree (d.SU t1 t2) e = not_by_trees _ (more by_trees (build t1 s) t2 _ (λ a b. refl)) e
    placed_tree (d.UF t) e = not_by_trees _ (last by_trees (build t s) (λ u. run (looks (unfolded u))) (λ a. refl)) e
    placed_tree (d.RD t) e = as_spelled Located t e
    placed_tree (d.IN t) e = not_by_trees _ (last by_trees (build t s) (λ u. run (binds (instantiate u))) (λ a. refl)) e
    placed_tree (d.TS pairs t) e = not_by_trees _ (more by_trees (build_pairs pairs s) t _ (λ a b. refl)) e
    placed_tree (d.NC loc kind t) e = not_by_trees _ (last by_trees (build t s) (λ u. run (adds (constrain (numeric_constraint kind loc u)))) (λ a. refl)) e
    placed_tree (d.BC loc t) e = not_by_trees _ (last by_trees (build t s) (λ u. run (adds (constrain (BaseTypeConstraint loc u)))) (λ a. refl)) e
    placed_tree (d.SC loc t) e = not_by_trees _ (last by_trees (build t s) (λ u. run (adds (constrain (SingleTypeConstraint loc u)))) (λ a. refl)) e
    placed_tree d.SV e = not_by_trees _ refl e
    placed_tree (d.RM t) e = not_by_trees _ refl e
    placed_tree (d.CN t) e = as_spelled Canonical t e
    placed_tree (d.XP t) e = let (ty, b, q) = built (build t s) expand e in rw q (placed_expanded (record { tree = t; is = refl; placed = b }))
    placed_tree (d.MJ ps) e = let (qs, b, q) = built (build_many ps s) many e in rw q (placed_pairs (record { trees = ps; is = refl; placed = b }))
    placed_tree (d.UL t) e = not_by_trees _ (last by_trees (build t s) (λ u. run (looks (unfolded_links u))) (λ a. refl)) e
    placed_tree (d.JL t1 t2) e = not_by_trees _ (more by_trees (build t1 s) t2 _ (λ a b. refl)) e
    placed_tree (d.KP listed) e = let q = parts s' n s (keep listed) e in rw q.0 (placed_kept refl q.1)

  -- a record that is answered in 4,096 bytes
  pub placed_most : is_many n ≡ 0 → (x : Record) → Placed (place_record x s) → most_of (apart x) ≡ max_payload
  unfolding place_record most_of
  placed_most l x e = go (by_apart x) e
    where
      go : {y : Record} {a : Apart} → ByApart y a → Placed (place_record y s) → most_of a ≡ max_payload
      go (as_other f) e = refl
      go as_links_of_one e = refl
      go as_links_of_two e = refl
      go as_keeps e = refl
      go (as_many {ps = ps}) e = let (qs, b, q) = built (build_many ps s) many e in absurd (omega (arith, l, ap is_many q))

  -- what stands behind what a record shows is told by what it is placed as
  untold : (x : Noded) → counts x ≡ 0 → [] ≡ tail_after x s'
  unfolding tail_of
  untold (declare a ps) h = refl
  untold solve h = refl
  untold (expand t) h = refl
  untold (many ps) h = refl
  untold (keep listed) h = refl
  untold (run (binds (set_num v loc))) h = refl
  untold (run (binds (two case lhs rhs))) h = refl
  untold (run (binds (joined_links lhs rhs))) h = never (omega (arith, h))
  untold (run (binds (instantiate t))) h = refl
  untold (run (looks (unfolded t))) h = refl
  untold (run (looks (unfolded_links t))) h = never (omega (arith, h))
  untold (run (looks (ready how t))) h = refl
  untold (run (looks (tparams ps t))) h = refl
  untold (run (adds a)) h = refl

  no_count : (m : Result (State × Noded)) → told_in counts m ≡ 0 → Placed m → [] ≡ tail_after n s'
  no_count m z e = untold n (sym (ap (told_in counts) e) ∙ z)

  counted_one : (m : Result (State × ℕ)) → Placed (m >>= (λ p. ok (p.0, run (looks (unfolded_links p.1))))) → counted (m >>= (λ (p : State × ℕ). ok (links_of p.0 p.1))) ≡ tail_after n s'
  unfolding ◌>>=◌ counted tail_of unfold_tail
  counted_one (ok p) e = let q = parts s' n p.0 (run (looks (unfolded_links p.1))) e in rw (q.0, q.1) refl
  counted_one (err y z) e = never (cc)
  counted_one (refused y) e = never (cc)

  counted_last : (a : ℕ) (m : Result (State × ℕ)) → Placed (m >>= (λ p. ok (p.0, run (binds (joined_links a p.1))))) → counted (m >>= (λ (p : State × ℕ). ok (join_links p.0 a p.1))) ≡ tail_after n s'
  unfolding ◌>>=◌ counted tail_of join_tail
  counted_last a (ok p) e = let q = parts s' n p.0 (run (binds (joined_links a p.1))) e in rw (q.0, q.1) refl
  counted_last a (err y z) e = never (cc)
  counted_last a (refused y) e = never (cc)

  counted_two : (u : Tree) (m : Result (State × ℕ)) → Placed (m >>= (λ p. build u p.0 >>= (λ q. ok (q.0, run (binds (joined_links p.1 q.1)))))) → counted (m >>= (λ (p : State × ℕ). build u p.0 >>= (λ (q : State × ℕ). ok (join_links q.0 p.1 q.1)))) ≡ tail_after n s'
  unfolding ◌>>=◌ counted
  counted_two u (ok p) e = counted_last p.1 (build u p.0) e
  counted_two u (err y z) e = never (cc)
  counted_two u (refused y) e = never (cc)

  pub placed_tail : (x : Record) → Placed (place_record x s) → tail_before s (apart x) ≡ tail_after n s'
  unfolding place_record tail_before apart
  placed_tail (d.SD abilities params) e = no_count _ refl e
  placed_tail (d.FV loc) e = no_count _ refl e
  placed_tail (d.NV loc) e = no_count _ refl e
  placed_tail (d.SN v loc) e = no_count _ refl e
  placed_tail (d.NL loc bits) e = no_count _ refl e
  placed_tail (d.JN t1 t2) e = no_count _ (more counts (build t1 s) t2 _ (λ a b. refl)) e
  placed_tail (d.SU t1 t2) e = no_count _ (more counts (build t1 s) t2 _ (λ a b. refl)) e
  placed_tail (d.UF t) e = no_count _ (last counts (build t s) (λ u. run (looks (unfolded u))) (λ a. refl)) e
  placed_tail (d.RD t) e = no_count _ (last counts (build t s) (λ u. run (looks (ready Located u))) (λ a. refl)) e
  placed_tail (d.IN t) e = no_count _ (last counts (build t s) (λ u. run (binds (instantiate u))) (λ a. refl)) e
  placed_tail (d.TS pairs t) e = no_count _ (more counts (build_pairs pairs s) t _ (λ a b. refl)) e
  placed_tail (d.NC loc kind t) e = no_count _ (last counts (build t s) (λ u. run (adds (constrain (numeric_constraint kind loc u)))) (λ a. refl)) e
  placed_tail (d.BC loc t) e = no_count _ (last counts (build t s) (λ u. run (adds (constrain (BaseTypeConstraint loc u)))) (λ a. refl)) e
  placed_tail (d.SC loc t) e = no_count _ (last counts (build t s) (λ u. run (adds (constrain (SingleTypeConstraint loc u)))) (λ a. refl)) e
  placed_tail d.SV e = no_count _ refl e
  placed_tail (d.RM t) e = no_count _ refl e
  placed_tail (d.CN t) e = no_count _ (last counts (build t s) (λ u. run (looks (ready Canonical u))) (λ a. refl)) e
  placed_tail (d.XP t) e = no_count _ (last counts (build t s) expand (λ a. refl)) e
  placed_tail (d.MJ ps) e = no_count _ (last counts (build_many ps s) many (λ a. refl)) e
  placed_tail (d.UL t) e = counted_one (build t s) e
  placed_tail (d.JL t1 t2) e = counted_two t2 (build t1 s) e
  placed_tail (d.KP listed) e = no_count _ refl e
