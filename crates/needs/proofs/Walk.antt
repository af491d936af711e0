-- The walk over the parts of a type: where it begins, a turn, an early end, and the sums at the end. First over what the definition reads (`Walked`), then over the code's answers (`Going`). Assumes nothing.
use mathlib.Core.Path.{◌≡◌, refl, sym, ap, ◌∙◌, subst}
use mathlib.Core.Bool.{Bool}
use mathlib.Core.List.{List}
use Rattle.std.specs.Prelude as std
use Rattle.std.specs.Prelude.{Option, Some, None, Ok, Err}
use Prim.Native.Nat.{ℕ, suc, ◌+◌, ◌*◌, ◌-◌, ◌≤◌, ◌<◌}
use native.Mathlib.Nat.{sub-zero}
use native.Mathlib.Omega.{arith}
use lib.ListN.{length}
use Rattle.definition.specs.Types as d
use Rattle.definition.specs.Types.{State, Struct}
use Rattle.definition.specs.Write.{Bytes}
use Rattle.definition.specs.Reader.{Read, got, not_read, Reader, give, go_on, ◌>>=◌}
use Rattle.definition.specs.Trees.{Tree, Trees, no_trees, ◌then◌, read_trees, read_nested}
use Rattle.definition.specs.Needs.{Needs, ◌plus◌}
use Rattle.theorems.proofs.JoinAnswers.{tree_size, trees_size, Spent, spent, pays_nested}
use Rattle.table.specs.State.{Declares}
use Rattle.table.specs.Did.{tables}
use Rattle.table.specs.declared.state.State.{State as Table}
use Rattle.refusals.specs.Refusals.{refusal_of}
use Rattle.refusals.specs.declared.Refusal.{Refusal}
use Rattle.heads.specs.declared.Head.{Head}
use Rattle.heads.specs.Fields.{Knows, many_parts, tree_of, tree_read}
use Rattle.heads.proofs.Heads.{declares_self}
use Rattle.reader.proofs.Loop.{knowing, knows}
use Rattle.needs.specs.declared.Sums.{Sums}
use Rattle.needs.specs.Counted.{both, needs_of, Most, own, beside, is_apply, as_argument, Tells, Counts}
use Rattle.needs.proofs.Takings.{plus_assoc, plus_nothing, of_both, size, append, snoc, sum_of, append_snoc, append_none, size_snoc, trees_size_snoc, sum_snoc, whole, more, both_most, size_least}

-- ---- what the definition reads

-- i of n trees stand before the bytes `to`; o and their takings make c
pub record Walked (m : Reader Tree) (arg : Bool) (n i : ℕ) (from to : Bytes) (o c : Option Sums) : Type 0 where
  pub trees : Trees
  pub many : size trees ≡ i
  pub reads : read_trees n m from ≡ go_on (read_trees (n - i) m to) (λ us. give (append trees us))
  pub counts : needs_of c ≡ needs_of o plus sum_of arg trees
  pub few : Most (7 + 2 * trees_size trees) c
  pub bytes : trees_size trees + length to ≤ length from

go_give : (x : Read Trees) → x ≡ go_on x (λ us. give us)
unfolding go_on give
go_give (got a l) = refl
go_give (not_read x) = refl

module _ (m : Reader Tree) (arg : Bool) (n : ℕ) (from : Bytes) (o : Option Sums) where
  walk_none : Most 7 o → Walked m arg n 0 from from o o
  unfolding trees_size
  walk_none p =
      record {
        trees = no_trees;
        many = refl;
        reads = go_give _ ∙ ap (λ (j : ℕ). go_on (read_trees j m from) (λ us. give us)) (sym (sub-zero n));
        counts = sym (plus_nothing (needs_of o));
        few = more 7 _ o (omega arith) p;
        bytes = omega arith;
      }

  after : (x : Read Trees) (ts : Trees) (t : Tree) → go_on (go_on x (λ us. give (◌then◌ t us))) (λ us. give (append ts us)) ≡ go_on x (λ us. give (append (snoc ts t) us))
  unfolding go_on give
  after (got a l) ts t = ap (λ (z : Trees). got z l) (append_snoc ts t a)
  after (not_read x) ts t = refl

  module _ (i : ℕ) (to : Bytes) (c : Option Sums) (g : Walked m arg n i from to o c) (l : i < n) where
    one_more : n - i ≡ suc (n - (i + 1))
    one_more = omega arith

    walk_more : (t : Tree) (to' : Bytes) (d : Option Sums) → m to ≡ got t to' → needs_of d ≡ as_argument arg t → Most (2 * tree_size t) d → tree_size t + length to' ≤ length to
        → Walked m arg n (i + 1) from to' o (both c d)
    unfolding read_trees ◌>>=◌ go_on
    walk_more t to' d e f p q =
        let y = trees_size_snoc g.trees t in
        let z = g.bytes in
        record {
          trees = snoc g.trees t;
          many = size_snoc g.trees t ∙ ap (λ (j : ℕ). j + 1) g.many;
          reads = g.reads
              ∙ ap (λ (j : ℕ). go_on (read_trees j m to) (λ us. give (append g.trees us))) one_more
              ∙ ap (λ (x : Read Tree). go_on (go_on x (λ t bytes. go_on (read_trees (n - (i + 1)) m bytes) (λ ts. give (◌then◌ t ts)))) (λ us. give (append g.trees us))) e
              ∙ after (read_trees (n - (i + 1)) m to') g.trees t;
          counts = of_both c d ∙ rw (g.counts, f) (plus_assoc _ _ _ ∙ ap (λ (z : Option Needs). needs_of o plus z) (sym (sum_snoc arg g.trees t)));
          few = more _ _ (both c d) (omega arith) (both_most _ _ c d g.few p);
          bytes = omega arith;
        }

    walk_stop : (x : d.Refusal) → m to ≡ not_read x → read_trees n m from ≡ not_read x
    unfolding read_trees ◌>>=◌ go_on
    walk_stop x e = g.reads
        ∙ ap (λ (j : ℕ). go_on (read_trees j m to) (λ us. give (append g.trees us))) one_more
        ∙ ap (λ (x : Read Tree). go_on (go_on x (λ t bytes. go_on (read_trees (n - (i + 1)) m bytes) (λ ts. give (◌then◌ t ts)))) (λ us. give (append g.trees us))) e

  walk_all : (to : Bytes) (c : Option Sums) (g : Walked m arg n n from to o c) → read_trees n m from ≡ got g.trees to
  unfolding read_trees go_on give
  walk_all to c g =
      let z : n - n ≡ 0 = omega arith in
      g.reads ∙ ap (λ (j : ℕ). go_on (read_trees j m to) (λ us. give (append g.trees us))) z ∙ ap (λ (ts : Trees). got ts to) (append_none g.trees)

-- ---- what the code answers

paid : (nest : ℕ) (s : State) (l : Bytes) (t : Tree) (l' : Bytes) → read_nested nest s l ≡ got t l' → tree_size t + length l' ≤ length l
paid nest s l t l' e = go (subst (λ (x : Read Tree). Spent tree_size (0 + length l) x) e (pays_nested s nest l))
  where
    go : Spent tree_size (0 + length l) (got t l') → tree_size t + length l' ≤ length l
    go (spent h) = omega arith

pub record Going (st : Table) (l₀ : Bytes) (known nest : ℕ) (arg : Bool) (o : Option Sums) (n : ℕ) (l : Bytes) (c : Option Sums) (i : ℕ) : Type 0 where
  pub left : i ≤ n
  pub is : (ds : List Struct) (s : State) → Declares st.words.now st.used ds → Knows s known ds → Walked (read_nested nest s) arg n i l₀ l o c

pub go_none : (st : Table) (l : Bytes) (known nest : ℕ) (arg : Bool) {o : Option Sums} (n : ℕ) → Most 7 o → Going st l known nest arg o n l o 0
go_none st l known nest arg {o} n p = record { left = omega arith; is = λ ds s d k. walk_none _ arg n _ o p }

module _ {st : Table} {l₀ : Bytes} {known nest : ℕ} {arg : Bool} {o : Option Sums} {n : ℕ} {l : Bytes} {c : Option Sums} {i : ℕ} (g : Going st l₀ known nest arg o n l c i) where
  -- the sums so far, and those of a part
  pub go_few : length l₀ ≤ 4096 → Most 65536 c
  go_few p =
      let ds = (tables st).structs in
      let x = g.is ds (knowing known ds) (declares_self _ _) (knows known ds) in
      let y = x.bytes in
      more _ _ c (omega arith) x.few

  pub part_few : {l' : Bytes} {d : Option Sums} → Counts st known arg (λ s. read_nested nest s l) l' (Ok d) → length l ≤ 4096 → Most 65536 d
  part_few {l'} {d} t p =
      let ds = (tables st).structs in
      let k = t.is ds (knowing known ds) (declares_self _ _) (knows known ds) in
      let y = paid nest _ _ _ _ k.reads in
      more _ _ d (omega arith) k.few

  pub go_more : {l' : Bytes} {d : Option Sums} → Counts st known arg (λ s. read_nested nest s l) l' (Ok d) → i < n → Going st l₀ known nest arg o n l' (both c d) (i + 1)
  go_more {l'} {d} t h =
      record {
        left = omega arith;
        is = λ ds s e k. let q = t.is ds s e k in walk_more _ arg n _ o i _ c (g.is ds s e k) h q.tree _ d q.reads q.counts q.few (paid nest s _ _ _ q.reads);
      }

  pub go_stop : {arg' : Bool} {l' : Bytes} {x : Refusal} → Counts st known arg (λ s. read_nested nest s l) l' (Err x) → i < n → (h : Head) → n ≡ many_parts h.shape
      → Counts st known arg' (λ s. tree_read (Ok h) l₀ (read_nested nest s)) l' (Err x)
  unfolding go_on
  go_stop {x = x} t lt h m = record { is = λ ds s d k. rw (← m, walk_stop _ arg n _ o i _ c (g.is ds s d k) lt (refusal_of x) (t.is ds s d k)) refl }

  -- the parts are arguments just if the type is a name
  pub go_all : n ≤ i → (arg' : Bool) (h : Head) → n ≡ many_parts h.shape → arg ≡ is_apply h.shape → o ≡ both (own h.shape) (Some (beside arg' h.shape))
      → Counts st known arg' (λ s. tree_read (Ok h) l₀ (read_nested nest s)) l (Ok c)
  unfolding go_on give
  go_all lt arg' h m q p =
      let z : i ≡ n = (let y = g.left in omega arith) in
      record {
        is = λ ds s d k.
            let v = subst (λ (j : ℕ). Walked (read_nested nest s) arg n j l₀ l o c) z (g.is ds s d k) in
            let e : size v.trees ≡ many_parts h.shape = v.many ∙ m in
            let y = size_least h.loc v.trees h.shape e in
            record {
              tree = tree_of h.loc h.shape v.trees;
              reads = rw (← m, walk_all _ _ n _ _ _ c v);
              counts = v.counts ∙ ap (λ (a : Bool). needs_of o plus sum_of a v.trees) q ∙ ap (λ (z : Option Sums). needs_of z plus sum_of (is_apply h.shape) v.trees) p ∙ sym (whole h.loc v.trees arg' h.shape e);
              few = more _ _ c (omega arith) v.few;
            };
      }

-- what m reads, said otherwise
pub counts_is : {st : Table} {known : ℕ} {arg : Bool} {m m' : State → Read Tree} {l : Bytes} {r : std.Result (Option Sums) Refusal}
    → ((ds : List Struct) (s : State) → Declares st.words.now st.used ds → Knows s known ds → m s ≡ m' s) → Counts st known arg m l r → Counts st known arg m' l r
counts_is {arg = arg} {l = l} {r = r} e t = record { is = λ ds s d k. subst (λ (x : Read Tree). Tells r arg l x) (e ds s d k) (t.is ds s d k) }
