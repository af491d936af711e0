-- A pair that is run and settled, from the state that was saved before it. Assumes nothing.
use mathlib.Core.Path.{◌≡◌, refl, sym, ap, ◌∙◌, subst}
use mathlib.Core.Bool.{Bool, true, false}
use mathlib.Core.List.{List, [], ◌∷◌, ◌++◌}
use Prim.Native.Nat.{ℕ, ◌≤◌, ◌<◌}
use native.Mathlib.Omega.{arith}
use lib.Dec.{leb}
use lib.ListN.{length, take}
use Rattle.std.specs.Prelude.{if◌then◌else◌, Ok, Err}
use Rattle.std.specs.Prelude as core
use Rattle.definition.specs.Types.{State, Struct, answer_too_long, max_depth, Result, ok, err, refused, ◌>>=◌}
use Rattle.definition.specs.Store.{count, with_vars}
use Rattle.definition.specs.Join.{TypingCase, Join, Subtype, join, subtype}
use Rattle.definition.specs.Write.{Bytes, u16}
use Rattle.definition.specs.Step as step
use Rattle.definition.specs.Step.{answer, answer_within, answer_with, refusal, put_back, max_payload, pair_answer, pair_bytes}
use Rattle.theorems.proofs.SoundRanges.{Ranges}
use Rattle.theorems.proofs.SoundRefusals.{answer_number}
use Rattle.theorems.proofs.TotalWalk.{join_run, pair_in}
use Rattle.table.specs.State.{Any, outcome, seen, Declares}
use Rattle.table.specs.Did.{held, tables}
use Rattle.table.specs.declared.Used.{Used}
use Rattle.table.specs.declared.state.State.{State as Table}
use Rattle.table.specs.declared.state.Stop.{Stop}
use Rattle.table.specs.declared.state.Stop.TheVariants.{Failed, Refused}
use Rattle.table.proofs.Pushed.{count_seen}
use Rattle.table.proofs.Grown.{nodes_grow}
use Rattle.snapshot.specs.Snap.{Saved}
use Rattle.snapshot.specs.Back.{GrownFrom}
use Rattle.snapshot.specs.Noted.{Noted, SavesAll}
use Rattle.snapshot.specs.declared.before.Before.{Before}
use Rattle.writer.specs.Bytes.{AllBytes, Wrote}
use Rattle.payload.specs.declared.Answer.{Answer}
use Rattle.answer.specs.Ran.{ran, answered, Settles}
use Rattle.answer.specs.Answered.{AnswersIn}
use Rattle.answer.specs.declared.Ran.{Ran}
use Rattle.answer.proofs.Growing.{grown_now, grown_on, noted_since}
use Rattle.run.specs.Runs.{join_in, two_run, no_tail, Runs}
use Rattle.run.proofs.Bytes.{Leaves, step_bytes}
use Rattle.payload.specs.Payload.{shown, tail_bytes}
use Rattle.reader.proofs.Loop.{declares_kept}
use Rattle.arms.specs.Arms.{case_of as arm_case}
use Rattle.many.specs.Turns.{InRange, pair_of, PairAnswered}
use Rattle.many.specs.declared.Pair.{Pair}

-- ---- a pair's run is JN's or SU's, from the state with its types placed on

pair_is : (case : TypingCase) (lhs rhs : ℕ) (s : State) → pair_answer s (case, lhs, rhs) ≡ answer s (two_run case lhs rhs s s)
unfolding pair_answer two_run join_in join subtype
pair_is Join lhs rhs s = refl
pair_is Subtype lhs rhs s = refl

join_leaves : (b s : State) → Ranges b s → (case : TypingCase) (lhs rhs : ℕ) → Leaves b (join_in case s lhs rhs)
unfolding join_in join subtype
join_leaves b s i Join lhs rhs = join_run (Unit {0}) b true max_depth s (λ y. i) Join lhs rhs
join_leaves b s i Subtype lhs rhs = join_run (Unit {0}) b true max_depth s (λ y. i) Subtype lhs rhs

pub pair_number : (s : State) (p : TypingCase × ℕ × ℕ) → (pair_answer s p).number < 100
unfolding pair_answer answer
pair_number s (case, lhs, rhs) = answer_number max_payload [] s _

-- no answer has fewer nodes than there were
with_count : (n : ℕ) (s t : State) (k : ℕ) (p : Bytes) → n ≤ count s → n ≤ count t → n ≤ count (answer_with max_payload s k p t).state
unfolding answer_with refusal
with_count n s t k p a b = go (leb (length p) max_payload)
  where
    go : (x : Bool) → n ≤ count (if x then record { number = k; payload = p; state = t } else refusal s answer_too_long).state
    go true = b
    go false = a

-- .. than the states that a run may leave
abbrev AtLeast : ℕ → Result (State × Bytes) → Type 0
AtLeast n (ok x) = n ≤ count x.0
AtLeast n (err t e) = n ≤ count t
AtLeast n (refused x) = Unit {0}

put_back_count : (s t : State) → count (put_back s t) ≡ count t
unfolding put_back with_vars
put_back_count s t = refl

answer_count : (n : ℕ) (s : State) (tail : Bytes) (m : Result (State × Bytes)) → n ≤ count s → AtLeast n m → n ≤ count (answer_within max_payload tail s m).state
unfolding answer_within refusal
answer_count n s tail (ok (t, p)) a b = with_count n s t 0 _ a b
answer_count n s tail (err t e) a b = with_count n s (put_back s t) _ _ a (omega (arith, b, put_back_count s t))
answer_count n s tail (refused x) a b = a

ran_least : (n : ℕ) (r : Ran) (s t : State) → n ≤ count s → n ≤ count t → AtLeast n (ran r t s)
unfolding ran outcome ◌>>=◌
ran_least n r s t a b = go r.result
  where
    either : (k : Bool) → n ≤ count (if k then t else s)
    either true = b
    either false = a

    go : (o : core.Result ℕ Stop) → AtLeast n (outcome o t >>= (λ x. ok (if r.kept then x.0 else s, shown r.show x.1 x.0)))
    go (Ok x) = either r.kept
    go (Err (Failed e)) = b
    go (Err (Refused x)) = tt

-- ---- one pair

-- the state s, whose rows are saved, became u by the run
module _ {s u : Table} {rows : List ℕ} (all : s.saved ≡ s.used.vars) (kept : Saved s.words.now s.used rows) (p : Pair) {r : Ran} (c : Runs Any s u r true (λ s. join_in (arm_case p.case) s p.lhs p.rhs) (two_run (arm_case p.case) p.lhs p.rhs) no_tail) where
  -- the fields that its answer writes as a byte are bytes
  pub run_bytes : InRange s → Settles r.result → AllBytes (tables u)
  run_bytes i h = step_bytes c i.structs tt i.base (join_leaves i.base (held s i.structs) i.ranges (arm_case p.case) p.lhs p.rhs) h

  pub grown : (b : Before) → b.used ≡ s.used → b.saved.now ≡ rows → GrownFrom s.words.now b u
  grown b counts same = grown_on s.words.now b s u (grown_now b s counts all (rw same kept)) c.left.same c.left.step.grown

  -- it is settled, which leaves t
  module _ {b : Before} {t : Table} {mid mid' : List ℕ} {a : Answer} (g : AnswersIn s.words.now b u t mid mid' a (answered r)) (counts : b.used ≡ s.used) (same : b.saved.now ≡ rows) where
    same_either : (x : Bool) (ds : List Struct) → ds ≡ (if x then ds else ds)
    same_either true ds = refl
    same_either false ds = refl

    -- the answer, as f of the run's says it
    settled : (ds : List Struct) → answered r (held u ds) (held s ds) ≡ record { number = a.number; payload = take a.len mid'; state = held t ds }
    settled ds =
        let e : held s ds ≡ seen s.words.now b.used ds = ap (λ (x : Used). seen s.words.now x ds) (sym counts) in
        ap (λ (x : State). answered r (held u ds) x) e
        ∙ g.is ds ds
        ∙ ap (λ (x : List Struct). record { number = a.number; payload = take a.len mid'; state = held t x }) (sym (same_either a.kept ds))

    pub told : (ds : List Struct) → pair_answer (held s ds) (pair_of p) ≡ record { number = a.number; payload = take a.len mid'; state = held t ds }
    unfolding answer
    told ds =
        pair_is (arm_case p.case) p.lhs p.rhs (held s ds)
        ∙ ap (λ (x : Result (State × Bytes)). answer (held s ds) x) (sym (c.is ds tt (held s ds)))
        ∙ ap (λ (x : Bytes). answer_within max_payload x (held s ds) (ran r (held u ds) (held s ds))) (sym (c.tail_is ds))
        ∙ settled ds

    pub small : a.number < 100
    small = subst (λ (x : step.Answer). x.number < 100) (told []) (pair_number (held s []) (pair_of p))

    pub still_noted : Noted t rows
    still_noted = let h = grown b counts same in rw same at (noted_since h.many h.since g.same)

    pub named : t.words.ghost_name ≡ s.words.ghost_name
    named = g.same.name ∙ c.left.same.name

    pub more_nodes : s.used.nodes ≤ t.used.nodes
    more_nodes =
        let up : s.used.nodes ≤ u.used.nodes = nodes_grow _ _ _ _ c.left.step.grown in
        let first : s.used.nodes ≤ count (held s []) = omega (arith, count_seen s.words.now s.used []) in
        let second : s.used.nodes ≤ count (held u []) = omega (arith, up, count_seen u.words.now u.used []) in
        let left = answer_count s.used.nodes (held s []) (tail_bytes r.tail) (ran r (held u []) (held s [])) first (ran_least s.used.nodes r (held s []) (held u []) first second) in
        omega (arith, subst (λ (x : step.Answer). s.used.nodes ≤ count x.state) (settled []) left, count_seen t.words.now t.used [])

    pub declares : (ds : List Struct) → Declares s.words.now s.used ds → Declares t.words.now t.used ds
    declares ds d =
        let first : Declares s.words.now b.used ds = subst (λ (x : Used). Declares s.words.now x ds) (sym counts) d in
        let second : Declares u.words.now u.used ds = declares_kept _ _ _ _ ds c.left.step.structs d in
        subst (λ (x : List Struct). Declares t.words.now t.used x) (sym (same_either a.kept ds)) (g.declares ds ds first second)

    pub in_range : InRange s → InRange t
    in_range i = record {
      base = i.base;
      structs = i.structs;
      ranges = subst (λ (x : step.Answer). Ranges i.base x.state) (told i.structs) (pair_in (Unit {0}) i.base true (held s i.structs) (λ y. i.ranges) (pair_of p) tt);
    }

    -- its bytes
    pub wrote_pair : {buf buf' : List ℕ} {at n : ℕ} → length (take a.len mid') ≡ a.len → Wrote buf at ((a.number ∷ u16 a.len) ++ take a.len mid') buf' n
        → (ds : List Struct) → Wrote buf at (pair_bytes (pair_answer (held s ds) (pair_of p))) buf' n
    unfolding pair_bytes
    wrote_pair long w ds = rw (told ds, long) w

-- from the state before the rows were saved
pub pair_before : {s m t : Table} {saved : List ℕ} → SavesAll s m saved → {p : Pair} {at : ℕ} {buf buf' : List ℕ} {next : ℕ} → PairAnswered m p at buf t saved buf' next → PairAnswered s p at buf t saved buf' next
pair_before v k = record {
  name = k.name ∙ v.name;
  noted = k.noted;
  nodes = rw v.used at k.nodes;
  declares = rw (v.words, v.used) at k.declares;
  in_range = k.in_range;
  few = k.few;
  is = rw (v.words, v.used) at k.is;
  bytes = rw (v.words, v.used) at k.bytes;
}

pub range_saved : {s m : Table} {saved : List ℕ} → SavesAll s m saved → InRange s → InRange m
range_saved v i = record { base = i.base; structs = i.structs; ranges = rw (v.words, v.used) i.ranges }
