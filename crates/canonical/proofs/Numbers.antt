-- A variable's number among those that were met, and the table of numbers, as one more is met. Assumes nothing.
use mathlib.Core.Path.{◌≡◌, refl, sym, ap, ◌∙◌}
use mathlib.Core.Bool.{Bool, true, false}
use mathlib.Core.List.{List, [], ◌∷◌, ◌++◌}
use Prim.Native.Nat.{ℕ, zero, suc, ◌+◌, ◌≤◌, ◌<◌}
use native.Mathlib.Nat.{not-suc-le-zero}
use native.Mathlib.Omega.{arith}
use native.Mathlib.Decide.{ℕ_discrete}
use native.Mathlib.Numerals.{add-one}
use borrow.Author.Tests.{eq-eqb, ne_eqb}
use lib.Dec.{eqb}
use lib.ListN.{length, get_or, set, replicate, length-append, length-set, length-replicate}
use lib.Seq.{get_or-set_same, get_or-set_other}
use Rattle.std.specs.Prelude.{None, Some, if◌then◌else◌}
use Rattle.definition.specs.Types as d
use Rattle.definition.specs.Types.{fresh}
use Rattle.definition.specs.Store.{with_args}
use Rattle.definition.specs.Subst.{as_var}
use Rattle.definition.specs.Write.{head, u16, u32}
use Rattle.definition.specs.Canonical.{number_of, meet, numbered, meet_in}
use Rattle.theorems.specs.ReadySpelled.{Spelling, Located, Canonical, head_by, met_by}
use Rattle.theorems.proofs.ReadyTold.{head_size_is}
use Rattle.writer.proofs.Turns.{head_same}
use Rattle.table.specs.State.{shape_of, value_of}
use Rattle.table.specs.declared.Shape.{Shape}
use Rattle.table.specs.declared.Shape.TheVariants.{Unit as UnitS, Ref, Param, Apply, Var, Anything, UnresolvedError}
use Rattle.canonical.specs.Named.{Numbered, filled, Named}
use Rattle.canonical.specs.declared.Names.{Names}

-- ---- a variable's number

-- one that was met
meet_old : (ms : List ℕ) (v : ℕ) → number_of ms v < length ms → meet ms v ≡ ms
unfolding number_of meet
meet_old [] v h = absurd (not-suc-le-zero h)
meet_old (w ∷ ms) v h = by (eqb w v) h (λ l. meet_old ms v l)
  where
    by : (b : Bool) → (if b then 0 else suc (number_of ms v)) < suc (length ms) → (number_of ms v < length ms → meet ms v ≡ ms) → (if b then w ∷ ms else w ∷ meet ms v) ≡ w ∷ ms
    by true h k = refl
    by false h k = ap (λ (l : List ℕ). w ∷ l) (k (omega (arith, h)))

number_old : (ms : List ℕ) (v w : ℕ) → number_of ms w < length ms → number_of (ms ++ v ∷ []) w ≡ number_of ms w
unfolding number_of
number_old [] v w h = absurd (not-suc-le-zero h)
number_old (x ∷ ms) v w h = by (eqb x w) h (λ l. number_old ms v w l)
  where
    by : (b : Bool) → (if b then 0 else suc (number_of ms w)) < suc (length ms) → (number_of ms w < length ms → number_of (ms ++ v ∷ []) w ≡ number_of ms w)
        → (if b then 0 else suc (number_of (ms ++ v ∷ []) w)) ≡ (if b then 0 else suc (number_of ms w))
    by true h k = refl
    by false h k = ap suc (k (omega (arith, h)))

-- one that was not
meet_new : (ms : List ℕ) (v : ℕ) → number_of ms v ≡ length ms → meet ms v ≡ ms ++ v ∷ []
unfolding number_of meet
meet_new [] v e = refl
meet_new (w ∷ ms) v e = by (eqb w v) e (λ q. meet_new ms v q)
  where
    by : (b : Bool) → (if b then 0 else suc (number_of ms v)) ≡ suc (length ms) → (number_of ms v ≡ length ms → meet ms v ≡ ms ++ v ∷ []) → (if b then w ∷ ms else w ∷ meet ms v) ≡ w ∷ (ms ++ v ∷ [])
    by true e k = absurd (omega (arith, e))
    by false e k = ap (λ (l : List ℕ). w ∷ l) (k (omega (arith, e)))

-- and the number of w then
number_new : (ms : List ℕ) (v w n : ℕ) → number_of (v ∷ []) w ≡ n → number_of ms w ≡ length ms → number_of (ms ++ v ∷ []) w ≡ length ms + n
unfolding number_of
number_new [] v w n e q = e ∙ omega arith
number_new (x ∷ ms) v w n e q = by (eqb x w) q (λ r. number_new ms v w n e r)
  where
    by : (b : Bool) → (if b then 0 else suc (number_of ms w)) ≡ suc (length ms) → (number_of ms w ≡ length ms → number_of (ms ++ v ∷ []) w ≡ length ms + n)
        → (if b then 0 else suc (number_of (ms ++ v ∷ []) w)) ≡ suc (length ms) + n
    by true q k = absurd (omega (arith, q))
    by false q k = ap suc (k (omega (arith, q))) ∙ omega arith

number_itself : (v : ℕ) → number_of (v ∷ []) v ≡ 0
unfolding number_of
number_itself v = rw (eq-eqb v v refl) refl

number_other : (v w : ℕ) → (v ≡ w → ⊥) → number_of (v ∷ []) w ≡ 1
unfolding number_of
number_other v w n = rw (ne_eqb v w n) (omega arith)

-- ---- how many numbers are not 0

filled_none : (n : ℕ) → filled (replicate n 0) ≡ 0
unfolding filled
filled_none zero = refl
filled_none (suc n) = filled_none n

filled_set : (l : List ℕ) (i n : ℕ) → i < length l → get_or l i 0 ≡ 0 → filled (set l i (suc n)) ≡ suc (filled l)
unfolding filled
filled_set [] i n h e = absurd (not-suc-le-zero h)
filled_set (zero ∷ l) zero n h e = refl
filled_set (suc x ∷ l) zero n h e = absurd (omega (arith, e))
filled_set (zero ∷ l) (suc i) n h e = filled_set l i n (omega (arith, h)) e
filled_set (suc x ∷ l) (suc i) n h e = ap suc (filled_set l i n (omega (arith, h)) e)

filled_few : (l : List ℕ) → filled l ≤ length l
unfolding filled
filled_few [] = omega arith
filled_few (zero ∷ l) = omega (arith, filled_few l)
filled_few (suc x ∷ l) = omega (arith, filled_few l)

filled_room : (l : List ℕ) (i : ℕ) → i < length l → get_or l i 0 ≡ 0 → filled l < length l
unfolding filled
filled_room [] i h e = absurd (not-suc-le-zero h)
filled_room (zero ∷ l) zero h e = omega (arith, filled_few l)
filled_room (suc x ∷ l) zero h e = absurd (omega (arith, e))
filled_room (zero ∷ l) (suc i) h e = omega (arith, filled_few l)
filled_room (suc x ∷ l) (suc i) h e = omega (arith, filled_room l i (omega (arith, h)) e)

-- ---- the table

zero_at : (n v : ℕ) → ◌≡◌ {A = ℕ} (get_or (replicate n 0) v 0) 0
zero_at zero v = refl
zero_at (suc n) zero = refl
zero_at (suc n) (suc v) = zero_at n v

-- nothing was met
pub named_none : Named (record { numbers = replicate 1024 0; many = 0 }) []
unfolding number_of
named_none = record {
  long = length-replicate {A = ℕ} 1024 0;
  many = refl;
  all = filled_none 1024;
  old = λ v h p. absurd (let z = zero_at 1024 v in omega (arith, p, z));
  new = λ v h e. refl;
}

module _ {n : Names} {ms : List ℕ} (k : Named n ms) {v : ℕ} (h : v < 1024) where
  -- v was met: its number is known
  pub named_known : (x : ℕ) → get_or n.numbers v 0 ≡ x + 1 → (x ≡ number_of ms v) × Named n (meet ms v)
  named_known x e =
      let o = k.old v h (omega (arith, e)) in
      (omega (arith, e, o.0), rw (meet_old ms v o.1) k)

  module _ (e : get_or n.numbers v 0 ≡ 0) where
    pub room_left : n.many < 1024
    room_left = omega (arith, k.many, k.all, k.long, filled_room n.numbers v (omega (arith, k.long, h)) e)

    is_next : number_of ms v ≡ length ms
    is_next = k.new v h e

    longer : length (ms ++ v ∷ []) ≡ suc (length ms)
    longer = length-append ms (v ∷ []) ∙ omega arith

    one_more : filled (set n.numbers v (n.many + 1)) ≡ suc (filled n.numbers)
    one_more = rw add-one (filled_set n.numbers v n.many (omega (arith, k.long, h)) e)

    here : get_or (set n.numbers v (n.many + 1)) v 0 ≡ n.many + 1
    here = get_or-set_same n.numbers v (n.many + 1) 0 (omega (arith, k.long, h))

    elsewhere : (w : ℕ) → (w ≡ v → ⊥) → get_or (set n.numbers v (n.many + 1)) w 0 ≡ get_or n.numbers w 0
    elsewhere w q = get_or-set_other n.numbers v w (n.many + 1) 0 q

    -- v is the next one
    pub named_next : (n.many ≡ number_of ms v) × Named (record { numbers = set n.numbers v (n.many + 1); many = n.many + 1 }) (meet ms v)
    named_next = (
      omega (arith, k.many, is_next),
      rw (meet_new ms v is_next) (record {
        long = length-set n.numbers v (n.many + 1) ∙ k.long;
        many = omega (arith, k.many, longer);
        all = omega (arith, one_more, k.all, longer);
        old = λ w l p. old w l p (ℕ_discrete w v);
        new = λ w l q. new w l q (ℕ_discrete w v);
      }),
    )
      where
        old : (w : ℕ) → w < 1024 → 0 < get_or (set n.numbers v (n.many + 1)) w 0 → Dec (w ≡ v)
            → (get_or (set n.numbers v (n.many + 1)) w 0 ≡ number_of (ms ++ v ∷ []) w + 1) × (number_of (ms ++ v ∷ []) w < length (ms ++ v ∷ []))
        old w l p (yes q) =
            let z = number_new ms v v 0 (number_itself v) is_next in
            rw q (omega (arith, here, k.many, z), omega (arith, z, longer))
        old w l p (no q) =
            let o = k.old w l (omega (arith, p, elsewhere w q)) in
            let z = number_old ms v w o.1 in
            (omega (arith, elsewhere w q, o.0, z), omega (arith, z, o.1, longer))

        new : (w : ℕ) → w < 1024 → get_or (set n.numbers v (n.many + 1)) w 0 ≡ 0 → Dec (w ≡ v) → number_of (ms ++ v ∷ []) w ≡ length (ms ++ v ∷ [])
        new w l q (yes r) = absurd (let z : get_or (set n.numbers v (n.many + 1)) v 0 ≡ 0 = ap (λ (y : ℕ). get_or (set n.numbers v (n.many + 1)) y 0) (sym r) ∙ q in omega (arith, here, z))
        new w l q (no r) = number_new ms v w 1 (number_other v w (λ y. r (sym y))) (k.new w l (omega (arith, q, elsewhere w r))) ∙ omega (arith, longer)

    -- .. in the place i that is v's
    pub named_next_at : (i : ℕ) → i ≡ v → (n.many ≡ number_of ms v) × Named (record { numbers = set n.numbers i (n.many + 1); many = n.many + 1 }) (meet ms v)
    named_next_at i q = rw q named_next

-- ---- a type without its parts

-- a variable
pub is_variable : (sh : Shape) (v : ℕ) → Some v ≡ as_var (with_args fresh (shape_of sh)) → (value_of sh ≡ d.Var v) × (Numbered (shape_of sh) → v < 1024)
unfolding as_var with_args
is_variable UnitS v e = absurd (let z : ◌≡◌ {A = ℕ} 0 1 = cc in omega (arith, z))
is_variable (Ref m t) v e = absurd (let z : ◌≡◌ {A = ℕ} 0 1 = cc in omega (arith, z))
is_variable (Param id a) v e = absurd (let z : ◌≡◌ {A = ℕ} 0 1 = cc in omega (arith, z))
is_variable (Apply a) v e = absurd (let z : ◌≡◌ {A = ℕ} 0 1 = cc in omega (arith, z))
is_variable (Var w) v e = let q : v ≡ w.0 = cc in (ap d.Var (sym q), λ h. omega (arith, h, q))
is_variable Anything v e = absurd (let z : ◌≡◌ {A = ℕ} 0 1 = cc in omega (arith, z))
is_variable UnresolvedError v e = absurd (let z : ◌≡◌ {A = ℕ} 0 1 = cc in omega (arith, z))

-- another type: it has no number, and no variable is met
pub no_variable : (sh : Shape) → None ≡ as_var (with_args fresh (shape_of sh)) → (ms : List ℕ) → (numbered ms (value_of sh) ≡ value_of sh) × (meet_in ms (value_of sh) ≡ ms)
unfolding as_var with_args numbered meet_in
no_variable UnitS e ms = (refl, refl)
no_variable (Ref m t) e ms = (refl, refl)
no_variable (Param id a) e ms = (refl, refl)
no_variable (Apply a) e ms = (refl, refl)
no_variable (Var w) e ms = absurd (let z : ◌≡◌ {A = ℕ} 0 1 = cc in omega (arith, z))
no_variable Anything e ms = (refl, refl)
no_variable UnresolvedError e ms = (refl, refl)

pub same_length : (l m : ℕ) (x : d.TypeValue) → length (head l x) ≡ length (head m x)
same_length l m x = head_size_is l x ∙ sym (head_size_is m x)

pub var_length : (l m v w : ℕ) → length (head l (d.Var v)) ≡ length (head m (d.Var w))
unfolding head u16 u32
var_length l m v w = refl

-- the parts of a type are no matter
pub head_by_same : (how : Spelling) (s : d.State) (ms : List ℕ) (loc : ℕ) (h : Shape) → head_by how ms loc (with_args s (shape_of h)) ≡ head_by how ms loc (value_of h)
unfolding head_by numbered with_args head
head_by_same Located s ms loc h = head_same s loc h
head_by_same Canonical s ms loc UnitS = refl
head_by_same Canonical s ms loc (Ref m t) = refl
head_by_same Canonical s ms loc (Param id a) = refl
head_by_same Canonical s ms loc (Apply a) = refl
head_by_same Canonical s ms loc (Var v) = refl
head_by_same Canonical s ms loc Anything = refl
head_by_same Canonical s ms loc UnresolvedError = refl

pub met_by_same : (how : Spelling) (s : d.State) (ms : List ℕ) (h : Shape) → met_by how ms (with_args s (shape_of h)) ≡ met_by how ms (value_of h)
unfolding met_by meet_in as_var with_args
met_by_same Located s ms h = refl
met_by_same Canonical s ms UnitS = refl
met_by_same Canonical s ms (Ref m t) = refl
met_by_same Canonical s ms (Param id a) = refl
met_by_same Canonical s ms (Apply a) = refl
met_by_same Canonical s ms (Var v) = refl
met_by_same Canonical s ms Anything = refl
met_by_same Canonical s ms UnresolvedError = refl
