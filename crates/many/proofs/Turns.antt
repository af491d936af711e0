-- The loop over the pairs: where it begins, a turn, and all of them. Assumes nothing.
use mathlib.Core.Path.{◌≡◌, refl, sym, ap, ◌∙◌}
use mathlib.Core.List.{List, [], ◌∷◌, ◌++◌, append-nil, append_assoc}
use Prim.Native.Nat.{ℕ, suc, ◌+◌, ◌*◌, ◌-◌, ◌≤◌, ◌<◌}
use native.Mathlib.Nat.{sub-zero}
use native.Mathlib.Omega.{arith}
use lib.ListN.{length, take, drop}
use Rattle.definition.specs.Types.{State, Struct}
use Rattle.definition.specs.Join.{TypingCase}
use Rattle.definition.specs.Write.{Bytes}
use Rattle.definition.specs.Step.{pair_answer, pair_bytes, run_pairs}
use Rattle.table.specs.State.{Declares}
use Rattle.table.specs.Did.{held}
use Rattle.table.specs.declared.state.State.{State as Table}
use Rattle.snapshot.specs.Noted.{Noted}
use Rattle.fields.specs.Noded.{many_at, ManyIn}
use Rattle.payload.specs.declared.Answer.{Answer}
use Rattle.many.specs.Turns.{InRange, pair_of, StandsAt, PairIn, PairAnswered, ManyAnswered}
use Rattle.many.specs.declared.Pair.{Pair}
use Rattle.many.proofs.Bytes.{more_front, more_rest}

-- ---- pairs after one another

-- behind these bytes
abbrev behind : Bytes → State × Bytes → State × Bytes
behind bytes x = (x.0, bytes ++ x.1)

one_more : (s : State) (p : TypingCase × ℕ × ℕ) (ps : List (TypingCase × ℕ × ℕ)) (bytes : Bytes) → behind bytes (run_pairs s (p ∷ ps)) ≡ behind (bytes ++ pair_bytes (pair_answer s p)) (run_pairs (pair_answer s p).state ps)
unfolding run_pairs
one_more s p ps bytes = ap (λ (l : Bytes). ((run_pairs (pair_answer s p).state ps).0, l)) (sym (append_assoc bytes (pair_bytes (pair_answer s p)) (run_pairs (pair_answer s p).state ps).1))

none_left : (s : State) (bytes : Bytes) → behind bytes (run_pairs s []) ≡ (s, bytes)
unfolding run_pairs
none_left s bytes = ap (λ (l : Bytes). (s, l)) (append-nil bytes)

-- pair i of the list is p
next_is : (names : List ℕ) (i k : ℕ) (p : Pair) → StandsAt names i p → many_at names (3 * i) (suc k) ≡ pair_of p ∷ many_at names (3 * (i + 1)) k
unfolding many_at
next_is names i k p h =
    let z : 3 * i + 3 ≡ 3 * (i + 1) = omega arith in
    rw (h.case, h.lhs, h.rhs, z) refl

pub pair_in : {n k i : ℕ} {names : List ℕ} {p : Pair} → ManyIn n names k → i < k → StandsAt names i p → PairIn n p
pair_in {i = i} m l h = rw (h.lhs, h.rhs) (m i l)

-- ---- the loop

pub record Going (s₀ : Table) (names : List ℕ) (n : ℕ) (buf₀ : List ℕ) (s : Table) (saved buf : List ℕ) (at i : ℕ) : Type 0 where
  pub left : i ≤ n
  pub name : s.words.ghost_name ≡ s₀.words.ghost_name
  pub noted : Noted s saved
  pub nodes : s₀.used.nodes ≤ s.used.nodes
  pub declares : (ds : List Struct) → Declares s₀.words.now s₀.used ds → Declares s.words.now s.used ds
  pub in_range : InRange s
  pub few : at ≤ 4099 * i
  pub size : length buf ≡ length buf₀
  pub rest : buf ≡ take at buf ++ drop at buf₀
  pub is : (ds : List Struct) → run_pairs (held s₀ ds) (many_at names 0 n) ≡ behind (take at buf) (run_pairs (held s ds) (many_at names (3 * i) (n - i)))

pub going_start : (s : Table) (names : List ℕ) (n : ℕ) (saved buf : List ℕ) → Noted s saved → InRange s → Going s names n buf s saved buf 0 0
going_start s names n saved buf o r =
    let z : 0 ≡ 3 * 0 = omega arith in
    record {
      left = omega arith;
      name = refl;
      noted = o;
      nodes = omega arith;
      declares = λ ds d. d;
      in_range = r;
      few = omega arith;
      size = refl;
      rest = refl;
      is = λ ds. rw (sub-zero n, ← z) refl;
    }

module _ {s₀ : Table} {names : List ℕ} {n : ℕ} {buf₀ : List ℕ} {s : Table} {saved buf : List ℕ} {at i : ℕ} (g : Going s₀ names n buf₀ s saved buf at i) where
  -- the nodes of the pairs are still in use
  pub going_in : ManyIn s₀.used.nodes names n → ManyIn s.used.nodes names n
  going_in h j l = let z = h j l in (omega (arith, z.0, g.nodes), omega (arith, z.1, g.nodes))

  pub pair_room : n ≤ 15 → i < n → 61485 ≤ length buf₀ → at + 4099 ≤ length buf
  pair_room few h l = omega (arith, g.few, g.size)

  pub going_on : {p : Pair} {t : Table} {saved' buf' : List ℕ} {next : ℕ} → n ≤ 15 → i < n → 61485 ≤ length buf₀ → StandsAt names i p → PairAnswered s p at buf t saved' buf' next → length buf' ≡ length buf
      → Going s₀ names n buf₀ t saved' buf' next (i + 1)
  going_on {p} {t} {saved'} {buf'} {next} few h long stands a kept =
      let ds₀ : List Struct = [] in
      let w = a.bytes ds₀ in
      let room : at + length (pair_bytes (pair_answer (held s ds₀) (pair_of p))) ≤ length buf = omega (arith, w.next_is, a.few, pair_room few h long) in
      let z : n - i ≡ suc (n - (i + 1)) = omega arith in
      record {
        left = omega arith;
        name = a.name ∙ g.name;
        noted = a.noted;
        nodes = omega (arith, a.nodes, g.nodes);
        declares = λ ds d. a.declares ds (g.declares ds d);
        in_range = a.in_range;
        few = omega (arith, a.few, g.few);
        size = kept ∙ g.size;
        rest = more_rest buf₀ buf buf' at _ next room g.rest w;
        is = λ ds.
            let w = a.bytes ds in
            let room : at + length (pair_bytes (pair_answer (held s ds) (pair_of p))) ≤ length buf = omega (arith, w.next_is, a.few, pair_room few h long) in
            g.is ds
            ∙ ap (λ (k : ℕ). behind (take at buf) (run_pairs (held s ds) (many_at names (3 * i) k))) z
            ∙ ap (λ (ps : List (TypingCase × ℕ × ℕ)). behind (take at buf) (run_pairs (held s ds) ps)) (next_is names i (n - (i + 1)) p stands)
            ∙ one_more (held s ds) (pair_of p) (many_at names (3 * (i + 1)) (n - (i + 1))) (take at buf)
            ∙ ap (λ (l : Bytes). behind l (run_pairs (pair_answer (held s ds) (pair_of p)).state (many_at names (3 * (i + 1)) (n - (i + 1))))) (sym (more_front buf₀ buf buf' at _ next room g.rest w))
            ∙ ap (λ (x : State). behind (take next buf') (run_pairs x (many_at names (3 * (i + 1)) (n - (i + 1))))) (sym (a.is ds));
      }

  pub all_answered : n ≤ i → n ≤ 15 → {r : Answer} → r.number ≡ 0 → r.len ≡ at → ManyAnswered s₀ names n buf₀ s saved buf r
  unfolding many_at
  all_answered h few {r} e long =
      let none : n - i ≡ 0 = omega arith in
      record {
        name = g.name;
        noted = g.noted;
        declares = g.declares;
        number = e;
        few = omega (arith, long, g.few, g.left);
        rest = rw long g.rest;
        is = λ ds. g.is ds ∙ ap (λ (k : ℕ). behind (take at buf) (run_pairs (held s ds) (many_at names (3 * i) k))) none ∙ none_left (held s ds) (take at buf) ∙ ap (λ (k : ℕ). (held s ds, take k buf)) (sym long);
      }
