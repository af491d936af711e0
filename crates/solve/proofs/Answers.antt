-- SV's answer, from what its steps left. Assumes nothing.
use mathlib.Core.Path.{◌≡◌, refl, sym, ap, ◌∙◌}
use mathlib.Core.Bool.{true, false}
use mathlib.Core.List.{List, []}
use Rattle.std.specs.Prelude.{None, Some, Ok, Err}
use Prim.Native.Nat.{ℕ, ◌≤◌, ◌<◌}
use native.Mathlib.Omega.{arith}
use borrow.Author.Tests.{le-leb, lt-leb}
use lib.ListN.{length}
use Rattle.definition.specs.Types as d
use Rattle.definition.specs.Types.{Struct, ok, ◌>>=◌, refused, answer_too_long}
use Rattle.definition.specs.Constraints.{failures}
use Rattle.definition.specs.Store.{with_constraints, with_structs}
use Rattle.definition.specs.Write.{Bytes}
use Rattle.definition.specs.Step as step
use Rattle.definition.specs.Step.{answer, answer_with, answer_within, behind, refusal, max_payload}
use Rattle.refusals.specs.Refusals.{refusal_of}
use Rattle.refusals.specs.declared.Refusal.{Refusal}
use Rattle.table.specs.State.{outcome, seen, Grown}
use Rattle.table.specs.Did.{held, tables, Linked}
use Rattle.table.specs.Known.{Declared}
use Rattle.table.specs.declared.Used.{Used}
use Rattle.table.specs.declared.state.State.{State}
use Rattle.table.specs.declared.state.Stop.{Stop}
use Rattle.table.proofs.Known.{known_kept}
use Rattle.table.proofs.Did.{stop_none, linked}
use Rattle.reader.proofs.Loop.{declares_kept}
use Rattle.snapshot.specs.declared.before.Before.{Before}
use Rattle.snapshot.specs.Snap.{Saved}
use Rattle.snapshot.specs.Back.{GrownFrom}
use Rattle.constraints.specs.Emptied.{Emptied}
use Rattle.constraints.proofs.Solved.{goes_on, unsolved}
use Rattle.abilities.specs.Kept.{Knows}
use Rattle.abilities.specs.Rules.{AllKept, any_asks, bytes_of, Given, Checked}
use Rattle.abilities.proofs.Asking.{asks_clear}
use Rattle.writer.specs.Bytes.{Wrote, Capped}
use Rattle.payload.specs.Payload.{shown}
use Rattle.payload.specs.declared.Answer.{Answer}
use Rattle.payload.specs.declared.Show.TheVariants as show
use Rattle.payload.proofs.Payload.{wrote_payload, wrote_rest, wrote_few}
use Rattle.answer.specs.Ran.{ran, answered, refused_by}
use Rattle.answer.specs.Answered.{AnswersIn}
use Rattle.answer.proofs.Growing.{grown_now, grown_on}
use Rattle.solve.specs.Solves.{solved, solve_answer, Reports, Solves}
use Rattle.solve.proofs.Left.{Decided}

-- ---- the definition's answers

solved_given : (s before : d.State) → Given (failures s) → solved s before ≡ answer_with max_payload before 0 (bytes_of (failures s)) (with_constraints s [])
unfolding solved answer answer_within behind ◌>>=◌
solved_given s before e = ap (λ (m : d.Result Bytes). answer before (m >>= (λ b. ok (with_constraints s [], b)))) e

answer_fits : (before after : d.State) (b : Bytes) → length b ≤ 4096 → answer_with max_payload before 0 b after ≡ record { number = 0; payload = b; state = after }
unfolding answer_with max_payload
answer_fits before after b h = rw (le-leb (length b) 4096 h)

answer_long : (before after : d.State) (b : Bytes) → 4096 < length b → answer_with max_payload before 0 b after ≡ refusal before answer_too_long
unfolding answer_with max_payload
answer_long before after b h = rw (lt-leb (length b) 4096 h)

solved_fits : (s before : d.State) → Given (failures s) → length (bytes_of (failures s)) ≤ 4096 → solved s before ≡ record { number = 0; payload = bytes_of (failures s); state = with_constraints s [] }
solved_fits s before g h = solved_given s before g ∙ answer_fits before (with_constraints s []) (bytes_of (failures s)) h

solved_long : (s before : d.State) → Given (failures s) → 4096 < length (bytes_of (failures s)) → solved s before ≡ refusal before answer_too_long
solved_long s before g h = solved_given s before g ∙ answer_long before (with_constraints s []) (bytes_of (failures s)) h

solved_refused : (s before : d.State) (x : d.Refusal) → failures s ≡ refused x → solved s before ≡ refusal before x
unfolding solved answer answer_within behind ◌>>=◌
solved_refused s before x e = ap (λ (m : d.Result Bytes). answer before (m >>= (λ b. ok (with_constraints s [], b)))) e

-- ---- what is said of all declarations, and what is said otherwise

module _ {w₀ : List ℕ} {s t : State} {params : List (List ℕ)} {buf buf' : List ℕ} {r : Answer} {f : d.State → d.State → step.Answer} where
  reports_all : (before : Before) → AnswersIn w₀ before s t buf buf' r f → Reports w₀ before.used s params t buf buf' r f
  reports_all before a = record { same = a.same; used = a.used; few = a.few; rest = a.rest; is = λ ds₀ ds k. a.is ds₀ ds; declares = a.declares }

  reports_is : (before : Used) (g : d.State → d.State → step.Answer) → ((ds : List Struct) → Knows s params ds → (x : d.State) → g (held s ds) x ≡ f (held s ds) x)
      → Reports w₀ before s params t buf buf' r f → Reports w₀ before s params t buf buf' r g
  reports_is before g e a = record { same = a.same; used = a.used; few = a.few; rest = a.rest; is = λ ds₀ ds k. e ds k (seen w₀ before ds₀) ∙ a.is ds₀ ds k; declares = a.declares }

-- ---- the failures

module _ (s : State) (params : List (List ℕ)) (given : (ds : List Struct) → Knows s params ds → Given (failures (held s ds))) where
  -- too long
  pub report_long : (w₀ : List ℕ) (before : Before) (t : State) (buf buf' : List ℕ) (r : Answer) → ((ds : List Struct) → Knows s params ds → Capped 4096 (length (bytes_of (failures (held s ds)))) None)
      → AnswersIn w₀ before s t buf buf' r (refused_by answer_too_long) → Reports w₀ before.used s params t buf buf' r solved
  report_long w₀ before t buf buf' r long a = reports_is before.used solved (λ ds k x. solved_long (held s ds) x (given ds k) (long ds k)) (reports_all before a)

  -- of this size
  module _ (size : ℕ) (sized : (ds : List Struct) → Knows s params ds → Capped 4096 (length (bytes_of (failures (held s ds)))) (Some size)) where
    pub report_room : (buf : List ℕ) → 4096 ≤ length buf → (ds : List Struct) → Knows s params ds → length (bytes_of (failures (held s ds))) ≤ length buf
    report_room buf room ds k = omega (arith, (sized ds k).1)

    pub report_kept : (w₀ : List ℕ) (before : Before) (t : State) (buf buf' : List ℕ) → Declared s.words.now s.used params → (len : ℕ)
        → ((ds : List Struct) → Knows s params ds → Wrote buf 0 (bytes_of (failures (held s ds))) buf' len) → Emptied s t
        → Reports w₀ before.used s params t buf buf' (record { number = 0; len = len; used = t.used; kept = true }) solved
    report_kept w₀ before t buf buf' d len wrote e =
        let once = wrote d.structs d.known in
        record {
          same = e.same;
          used = refl;
          few = wrote_few buf _ buf' len once (sized d.structs d.known).1;
          rest = wrote_rest buf _ buf' len once;
          is = λ ds₀ ds k. solved_fits (held s ds) (seen w₀ before.used ds₀) (given ds k) (sized ds k).1 ∙ rw (wrote_payload buf _ buf' len (wrote ds k), e.is ds);
          declares = λ ds₀ ds a b. declares_kept s.words.now s.used t.words.now t.used ds e.structs b;
        }

-- ---- 9 and 16

pub abilities_refused : {w₀ : List ℕ} (before : Before) {s t : State} {params : List (List ℕ)} {buf buf' : List ℕ} {r : Answer} {sets sets' : List ℕ} (x : Refusal)
    → Checked s params sets sets' (Err x) failures (λ l. AllKept l (tables s).constraints) → AnswersIn w₀ before s t buf buf' r (refused_by (refusal_of x)) → Reports w₀ before.used s params t buf buf' r solved
abilities_refused before {s} x c a = reports_is before.used solved (λ ds k y. solved_refused (held s ds) y (refusal_of x) (c.is ds k)) (reports_all before a)

-- where none asks for abilities, none is refused
pub none_refused : (s : State) → any_asks (tables s).constraints ≡ false → (ds : List Struct) → Given (failures (held s ds))
unfolding seen with_structs
none_refused s e ds = asks_clear (held s ds) (tables s).constraints e

-- ---- from the state at entry

module _ {w₀ : List ℕ} (before : Before) (s s₁ : State) (e : w₀ ≡ s.words.now) (f : before.used ≡ s.used) where
  pub grown_from : s.saved ≡ s.used.vars → Saved s.words.now s.used before.saved.now → Linked s s₁ → Grown (tables s) (tables s₁) → GrownFrom w₀ before s₁
  grown_from m k l g = rw e (grown_on s.words.now before s s₁ (grown_now before s f m k) l g)

  module _ {t : State} {params : List (List ℕ)} {buf buf' : List ℕ} {x : Answer} where
    solves : (g : d.State → d.State → step.Answer) → Linked s s₁ → (tables s₁).structs ≡ (tables s).structs
        → ((ds : List Struct) (y : d.State) → solve_answer (held s ds) y ≡ g (held s₁ ds) y) → Reports w₀ before.used s₁ params t buf buf' x g → Solves s params t buf buf' x
    solves g same structs h c =
        let r : Reports w₀ before.used s params t buf buf' x solve_answer = record {
          same = linked c.same same;
          used = c.used;
          few = c.few;
          rest = c.rest;
          is = λ ds₀ ds k. h ds (seen w₀ before.used ds₀) ∙ c.is ds₀ ds (known_kept s.words.now s.used s₁.words.now s₁.used params structs ds k);
          declares = λ ds₀ ds d₀ d. c.declares ds₀ ds d₀ (declares_kept s.words.now s.used s₁.words.now s₁.used ds structs d);
        } in
        rw (e, f) at r

    pub solved_done : {one : Unit} → Decided s s₁ (Ok one) → Reports w₀ before.used s₁ params t buf buf' x solved → Solves s params t buf buf' x
    unfolding solve_answer solved outcome ◌>>=◌
    solved_done a c = solves solved a.changed.same a.changed.step.structs (λ ds y. ap (answer y) (sym (goes_on (Ok 0) a.changed ds))) c

    pub solved_stop : {stop : Stop} → Decided s s₁ (Err stop) → AnswersIn w₀ before s₁ t buf buf' x (answered (record { result = Err stop; show = show.Nothing; tail = None; kept = true })) → Solves s params t buf buf' x
    unfolding solve_answer ran shown answer
    solved_stop {stop = stop} a c = solves _ a.changed.same a.changed.step.structs (λ ds y. ap (answer y) (sym (unsolved (Err stop) a.changed (stop_none stop) ds))) (reports_all before c)
