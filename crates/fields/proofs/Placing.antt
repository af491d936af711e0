-- A type read and placed as the first or the last of a record's. Assumes nothing.
use mathlib.Core.Path.{◌≡◌, refl, sym, ap, ◌∙◌}
use mathlib.Core.Bool.{Bool, true, false}
use Prim.Native.Nat.{ℕ}
use native.Mathlib.Omega.{arith}
use Rattle.std.specs.Prelude as std
use Rattle.std.specs.Prelude.{Option, Some, None, Ok, Err, is_none, unwrap_or, if◌then◌else◌}
use Rattle.definition.specs.Types as d
use Rattle.definition.specs.Types.{State, full, Result, ok, refused, ◌>>=◌}
use Rattle.definition.specs.Write.{Bytes}
use Rattle.definition.specs.Reader.{Read, got, not_read, Reader, give, go_on}
use Rattle.definition.specs.Trees.{Tree}
use Rattle.definition.specs.Build.{build}
use Rattle.refusals.specs.declared.Refusal.{Refusal}
use Rattle.reader.specs.Taken.{Placed, stopped, placed, place_read, part_of, read_with}

-- reading stopped
pub stopped_is : (x : Read Tree) (over : Bool) (s : State) (y : d.Refusal) → stopped y ≡ place_read over build x s → x ≡ not_read y
unfolding place_read
stopped_is (got a l) over s y e = absurd (let z : ◌≡◌ {A = ℕ} 0 1 = cc in omega arith)
stopped_is (not_read z) over s y e = cc

-- ---- the last type

module _ {A B : Type 0} (put : A → State → Result (State × B)) (h : Tree → A) (g : ℕ → B)
    (places : (t : Tree) (s : State) → put (h t) s ≡ (build t s >>= (λ (s, n). ok (s, g n)))) where
  abbrev mapped : Placed ℕ → Placed B
  mapped (stopped x) = stopped x
  mapped (placed q l) = placed (q >>= (λ (s, n). ok (s, g n))) l

  part_mapped : (p : std.Result (Option ℕ) Refusal) (s : State) (l : Bytes) → read_with p g s l ≡ mapped (part_of p s l)
  unfolding ◌>>=◌
  part_mapped (Ok (Some t)) s l = refl
  part_mapped (Ok None) s l = refl
  part_mapped (Err e) s l = refl

  read_mapped : (over : Bool) (x : Read Tree) (s : State) → mapped (place_read over build x s) ≡ place_read over put (go_on x (λ t. give (h t))) s
  unfolding ◌>>=◌ place_read go_on give
  read_mapped over (not_read y) s = refl
  read_mapped true (got t l) s = refl
  read_mapped false (got t l) s = ap (λ (q : Result (State × B)). placed q l) (sym (places t s))

  pub last_type : (p : std.Result (Option ℕ) Refusal) (over : Bool) (x : Read Tree) (s s' : State) (l : Bytes) → part_of p s' l ≡ place_read over build x s
      → read_with p g s' l ≡ place_read over put (go_on x (λ t. give (h t))) s
  last_type p over x s s' l e = part_mapped p s' l ∙ ap mapped e ∙ read_mapped over x s

-- ---- a type with more to read after it

module _ {A B C : Type 0} (put : A → State → Result (State × B)) (h : Tree → C → A) (after : ℕ → C → State → Result (State × B))
    (places : (t : Tree) (c : C) (s : State) → put (h t c) s ≡ (build t s >>= (λ (s, n). after n c s))) (more : Reader C) where
  abbrev going : Result (State × ℕ) → Read C → Placed B
  going q (not_read x) = stopped x
  going q (got c l) = placed (q >>= (λ (s, n). after n c s)) l

  abbrev onward : Placed ℕ → Placed B
  onward (stopped x) = stopped x
  onward (placed q l) = going q (more l)

  read_onward : (over : Bool) (x : Read Tree) (s : State) → place_read over put (go_on x (λ t l. go_on (more l) (λ c. give (h t c)))) s ≡ onward (place_read over build x s)
  unfolding place_read go_on give ◌>>=◌
  read_onward over (not_read y) s = refl
  read_onward over (got t l) s = by over (more l)
    where
      by : (over : Bool) (y : Read C) → place_read over put (go_on y (λ c. give (h t c))) s ≡ going (if over then refused full else build t s) y
      by over (not_read z) = refl
      by true (got c k) = refl
      by false (got c k) = ap (λ (q : Result (State × B)). placed q k) (places t c s)

  part_onward : (o : Option ℕ) (s : State) (l : Bytes) → onward (part_of (Ok o) s l) ≡ place_read (is_none o) (after (unwrap_or o 0)) (more l) s
  unfolding place_read ◌>>=◌
  part_onward (Some t) s l = by (more l)
    where
      by : (y : Read C) → going (ok (s, t)) y ≡ place_read false (after t) y s
      by (not_read z) = refl
      by (got c k) = refl
  part_onward None s l = by (more l)
    where
      by : (y : Read C) → going (refused full) y ≡ place_read true (after 0) y s
      by (not_read z) = refl
      by (got c k) = refl

  pub first_type : (o : Option ℕ) (over : Bool) (x : Read Tree) (s s' : State) (l : Bytes) → part_of (Ok o) s' l ≡ place_read over build x s
      → place_read over put (go_on x (λ t l. go_on (more l) (λ c. give (h t c)))) s ≡ place_read (is_none o) (after (unwrap_or o 0)) (more l) s'
  first_type o over x s s' l e = read_onward over x s ∙ ap onward (sym e) ∙ part_onward o s' l

-- true is not false
pub is_not : {A : Type 0} → true ≡ false → A
is_not e = let z : true ≡ false = e in cc

pub not_is : {A : Type 0} → false ≡ true → A
not_is e = let z : false ≡ true = e in cc
