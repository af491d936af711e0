-- The answers one by one: a success, an error, a refusal. Assumes nothing.
use mathlib.Core.Path.{◌≡◌, refl, ap, ◌∙◌}
use mathlib.Core.Bool.{Bool, true, false}
use mathlib.Core.List.{List, []}
use Prim.Native.Nat.{ℕ, ◌≤◌, ◌<◌}
use lib.ListN.{length}
use Rattle.std.specs.Prelude.{Option, if◌then◌else◌, Ok, Err}
use Rattle.definition.specs.Types.{State, Struct, Result, ok, err, refused, ◌>>=◌, TypingError, answer_too_long}
use Rattle.definition.specs.Write.{Bytes, write_error}
use Rattle.definition.specs.Step as step
use Rattle.definition.specs.Step.{answer, answer_with, answer_within, behind, max_payload, refusal, put_back, number_of_error}
use Rattle.theorems.specs.ReadySpelled.{with_state}
use Rattle.ready.specs.Spell.{Spells, spelt, too_long, stopped}
use Rattle.refusals.specs.Refusals.{refusal_of}
use Rattle.table.specs.State.{outcome, error_of, seen, Lay}
use Rattle.table.specs.declared.Used.{Used}
use Rattle.table.specs.declared.state.Stop.TheVariants.{Failed, Refused}
use Rattle.table.specs.declared.TypingError as table
use Rattle.refusals.specs.declared.Refusal.{Refusal}
use Rattle.snapshot.specs.Snap.{Rows, PutBack, Undone}
use Rattle.table.specs.Touched.{Stay}
use Rattle.writer.specs.Bytes.{Wrote}
use Rattle.payload.specs.Payload.{shown, tail_bytes}
use Rattle.answer.specs.Ran.{ran, told_by, answered, success, failure, refused_by, Answers}
use Rattle.payload.specs.declared.Show.{Show}
use Rattle.answer.specs.declared.Ran.{Ran}
use Rattle.payload.specs.declared.Answer.{Answer}
use Rattle.answer.proofs.Settling.{answer_long, answers_is, success_with, failure_with, long, keeps, goes_back, puts_back}

module _ (w : List ℕ) (u before : Used) (saved : Rows) (buf : List ℕ) where
  -- a success
  module _ (kept : Bool) (show : Show) (t : ℕ) (tail : Option ℕ) where
    abbrev state : State → State → State
    state after before = if kept then after else before

    abbrev pub tells : State → Bytes
    tells s = behind (tail_bytes tail) (shown show t s)

    pub success_long : (w' buf' : List ℕ) (r : Answer) → ((ds : List Struct) → 4096 < length (tells (seen w u ds))) → Answers w u before saved buf w' buf' r (refused_by answer_too_long) → Answers w u before saved buf w' buf' r (success kept show t tail)
    success_long w' buf' r h a = long w u before saved (success kept show t tail) 0 tells state (success_with kept show t tail) w' buf buf' r h a

    module _ (buf' : List ℕ) (len : ℕ) (fits : (ds : List Struct) → length (tells (seen w u ds)) ≤ 4096) (wrote : (ds : List Struct) → Wrote buf 0 (tells (seen w u ds)) buf' len) where
      pub success_kept : kept ≡ true → Lay w u → Answers w u before saved buf w buf' (record { number = 0; len = len; used = u; kept = true }) (success kept show t tail)
      success_kept e lay = keeps w u before saved (success kept show t tail) 0 tells state (success_with kept show t tail) w buf buf' len fits wrote refl lay (λ a b. rw e)

      pub success_back : (w' : List ℕ) → kept ≡ false → Undone w u w' before saved × Stay saved.touched before.vars w w' → Answers w u before saved buf w' buf' (record { number = 0; len = len; used = before; kept = false }) (success kept show t tail)
      success_back w' e back = goes_back w u before saved (success kept show t tail) 0 tells state (success_with kept show t tail) w' buf buf' len fits wrote back (λ a b. rw e)

  -- an error
  module _ (show : Show) (e : TypingError) (tail : Option ℕ) (number : ℕ) (numbered : number_of_error e ≡ number) (writes : (s : State) → write_error s e ≡ shown show 0 s) where
    with_shown : (after before : State) → failure e tail after before ≡ answer_with max_payload before number (behind (tail_bytes tail) (shown show 0 after)) (put_back before after)
    with_shown after before = failure_with e tail after before ∙ rw (numbered, writes after)

    pub failure_long : (w' buf' : List ℕ) (r : Answer) → ((ds : List Struct) → 4096 < length (behind (tail_bytes tail) (shown show 0 (seen w u ds)))) → Answers w u before saved buf w' buf' r (refused_by answer_too_long) → Answers w u before saved buf w' buf' r (failure e tail)
    failure_long w' buf' r h x = long w u before saved (failure e tail) number (λ s. behind (tail_bytes tail) (shown show 0 s)) (λ after before. put_back before after) with_shown w' buf buf' r h x

    pub failure_fits : (w' buf' : List ℕ) (len : ℕ) → ((ds : List Struct) → length (behind (tail_bytes tail) (shown show 0 (seen w u ds))) ≤ 4096) → ((ds : List Struct) → Wrote buf 0 (behind (tail_bytes tail) (shown show 0 (seen w u ds))) buf' len) → PutBack w u w' before saved × Stay saved.touched before.vars w w'
        → Answers w u before saved buf w' buf' (record { number = number; len = len; used = u; kept = true }) (failure e tail)
    failure_fits w' buf' len fits wrote back =
        puts_back w u before saved (failure e tail) number (λ s. behind (tail_bytes tail) (shown show 0 s)) (λ after before. put_back before after) with_shown w' buf buf' len fits wrote back (λ x y. refl)

-- ---- a payload that was spelled

abbrev bytes_of : Result Bytes → Bytes
bytes_of (ok b) = b
bytes_of (err s e) = []
bytes_of (refused x) = []

module _ {m : Result Bytes} {buf buf' : List ℕ} where
  told_bytes : {len : ℕ} → Spells m buf buf' (Ok len) → (m ≡ ok (bytes_of m)) × (length (bytes_of m) ≤ 4096) × Wrote buf 0 (bytes_of m) buf' len
  told_bytes (spelt e l h) = rw e (refl, l, h)

  told_refusal : {x : Refusal} → Spells m buf buf' (Err x) → (before : State) → answer before (with_state before m) ≡ refusal before (refusal_of x)
  unfolding answer answer_within behind with_state ◌>>=◌
  told_refusal (too_long {b = b} e l q) before = rw e (answer_long before 0 b before l)
  told_refusal (stopped e q) before = rw e refl

  told_same : {x : Refusal} → Spells m buf buf' (Err x) → buf' ≡ buf
  told_same (too_long e l q) = q
  told_same (stopped e q) = q

module _ (w : List ℕ) (u before : Used) (saved : Rows) (buf w' buf' : List ℕ) (tell : State → Result Bytes) where
  pub spelled_back : (len : ℕ) → ((ds : List Struct) → Spells (tell (seen w u ds)) buf buf' (Ok len)) → Undone w u w' before saved × Stay saved.touched before.vars w w'
      → Answers w u before saved buf w' buf' (record { number = 0; len = len; used = before; kept = false }) (told_by tell)
  unfolding answer answer_within behind with_state ◌>>=◌
  spelled_back len h back =
      let bytes : State → Bytes = λ s. bytes_of (tell s) in
      let plain : State → State → step.Answer = λ after s. answer_with max_payload s 0 (bytes after) s in
      answers_is w u before saved buf w' buf' _ plain (told_by tell) (λ ds s. let e = (told_bytes (h ds)).0 in ap (λ (m : Result Bytes). answer s (with_state s m)) e)
      (goes_back w u before saved plain 0 bytes (λ after s. s) (λ after s. refl) w' buf buf' len (λ ds. (told_bytes (h ds)).1) (λ ds. (told_bytes (h ds)).2) back (λ after s. refl))

  pub spelled_refused : (x : Refusal) (r : Answer) → ((ds : List Struct) → Spells (tell (seen w u ds)) buf buf' (Err x)) → Answers w u before saved buf w' buf r (refused_by (refusal_of x)) → Answers w u before saved buf w' buf' r (told_by tell)
  spelled_refused x r h a = rw (told_same (h [])) (answers_is w u before saved buf w' buf r (refused_by (refusal_of x)) (told_by tell) (λ ds s. told_refusal (h ds) s) a)

-- ---- what a run left, by its answer

module _ (r : Ran) (after before : State) where
  pub is_done : (t : ℕ) → r.result ≡ Ok t → answered r after before ≡ success r.kept r.show t r.tail after before
  unfolding ran outcome ◌>>=◌
  is_done t e = rw e

  pub is_failed : (x : table.TypingError) → r.result ≡ Err (Failed x) → answered r after before ≡ failure (error_of x) r.tail after before
  unfolding ran outcome ◌>>=◌
  is_failed x e = rw e

  pub is_refused : (x : Refusal) → r.result ≡ Err (Refused x) → answered r after before ≡ refused_by (refusal_of x) after before
  unfolding ran outcome ◌>>=◌ answer_within
  is_refused x e = rw e
