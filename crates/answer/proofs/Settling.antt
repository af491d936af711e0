-- What the words hold after an answer is what the definition says. Assumes nothing.
use mathlib.Core.Path.{◌≡◌, refl, sym, ap, ◌∙◌, subst}
use mathlib.Core.Bool.{Bool, true, false}
use mathlib.Core.List.{List, []}
use Prim.Native.Nat.{ℕ, ◌≤◌, ◌<◌}
use native.Mathlib.Omega.{arith}
use borrow.Author.Tests.{le-leb, lt-leb}
use lib.ListN.{length}
use Rattle.std.specs.Prelude.{Option, if◌then◌else◌}
use Rattle.definition.specs.Types.{State, Struct, TypingError, Refusal, answer_too_long}
use Rattle.definition.specs.Store.{with_structs}
use Rattle.definition.specs.Write.{Bytes, write_error}
use Rattle.definition.specs.Step as step
use Rattle.definition.specs.Step.{answer_with, answer_within, behind, refusal, put_back, max_payload, number_of_error, number_of_refusal}
use Rattle.table.specs.State.{view, seen, Lay, Declares}
use Rattle.table.specs.declared.Used.{Used}
use Rattle.snapshot.specs.Snap.{Rows, Since, PutBack, GivenBack, Undone}
use Rattle.table.specs.Touched.{Untouched, Stay}
use Rattle.table.specs.declared.Touched.{Touched}
use Rattle.table.specs.declared.Touched.TheVariants.{Nothing}
use Rattle.snapshot.proofs.Tails.{saved_stood}
use Rattle.writer.specs.Bytes.{Wrote}
use Rattle.payload.specs.Payload.{shown, tail_bytes}
use Rattle.answer.specs.Ran.{success, failure, refused_by, Still, Answers}
use Rattle.answer.specs.Answered.{AnswersIn}
use Rattle.table.specs.Did.{held, Linked}
use Rattle.table.specs.declared.state.State.{State as Held}
use Rattle.snapshot.specs.declared.before.Before.{Before}
use Rattle.snapshot.specs.Back.{GrownFrom, WentBack}
use Rattle.payload.specs.declared.Show.{Show}
use Rattle.payload.specs.declared.Answer.{Answer}
use Rattle.payload.proofs.Payload.{wrote_payload, wrote_rest, wrote_few}

-- ---- the definition's answers

answer_fits : (before : State) (n : ℕ) (p : Bytes) (after : State) → length p ≤ 4096 → answer_with max_payload before n p after ≡ record { number = n; payload = p; state = after }
unfolding answer_with max_payload
answer_fits before n p after h = rw (le-leb (length p) 4096 h)

pub answer_long : (before : State) (n : ℕ) (p : Bytes) (after : State) → 4096 < length p → answer_with max_payload before n p after ≡ refusal before answer_too_long
unfolding answer_with max_payload
answer_long before n p after h = rw (lt-leb (length p) 4096 h)

pub success_with : (kept : Bool) (show : Show) (t : ℕ) (tail : Option ℕ) (after before : State) → success kept show t tail after before ≡ answer_with max_payload before 0 (behind (tail_bytes tail) (shown show t after)) (if kept then after else before)
unfolding answer_within
success_with kept show t tail after before = refl

pub failure_with : (e : TypingError) (tail : Option ℕ) (after before : State) → failure e tail after before ≡ answer_with max_payload before (number_of_error e) (behind (tail_bytes tail) (write_error after e)) (put_back before after)
unfolding answer_within
failure_with e tail after before = refl

-- ---- states

seen_same : (w w' : List ℕ) (u : Used) (ds : List Struct) → view w' u ≡ view w u → seen w' u ds ≡ seen w u ds
unfolding seen
seen_same w w' u ds e = ap (λ (s : State). with_structs s ds) e

declares_same : (w w' : List ℕ) (u : Used) (ds : List Struct) → (view w' u).structs ≡ (view w u).structs → Declares w u ds → Declares w' u ds
declares_same w w' u ds e h = record { many = h.many; abilities = λ i l. rw e (h.abilities i l); params = λ i l. rw e (h.params i l) }

put_back_same : (w₀ : List ℕ) (before : Used) (ds₀ ds₁ : List Struct) (after : State) → put_back (with_structs (view w₀ before) ds₁) after ≡ put_back (seen w₀ before ds₀) after
unfolding put_back seen with_structs
put_back_same w₀ before ds₀ ds₁ after = refl

-- what f says, said otherwise
pub answers_is : (w : List ℕ) (u before : Used) (saved : Rows) (buf w' buf' : List ℕ) (r : Answer) (f g : State → State → step.Answer)
    → ((ds : List Struct) (s : State) → g (seen w u ds) s ≡ f (seen w u ds) s) → Answers w u before saved buf w' buf' r f → Answers w u before saved buf w' buf' r g
answers_is w u before saved buf w' buf' r f g e a =
    record {
      few = a.few;
      rest = a.rest;
      stay = a.stay;
      settled = λ w₀ s. let x = a.settled w₀ s in record { lay = x.lay; is = λ ds₀ ds. e ds (seen w₀ before ds₀) ∙ x.is ds₀ ds; declares = x.declares };
    }

module _ (w : List ℕ) (u before : Used) (saved : Rows) where
  -- a refusal
  pub refuses : (w' buf : List ℕ) (number : ℕ) → Undone w u w' before saved × Stay saved.touched before.vars w w' → (x : Refusal) → number ≡ number_of_refusal x
      → Answers w u before saved buf w' buf (record { number = number; len = 0; used = before; kept = false }) (refused_by x)
  unfolding refusal
  refuses w' buf number h x e =
      record {
        few = omega arith;
        rest = refl;
        stay = h.1;
        settled = λ w₀ s.
            let back = h.0 w₀ s in
            record {
              lay = back.0;
              is = λ ds₀ ds. rw (← e, seen_same w₀ w' before ds₀ back.1);
              declares = λ ds₀ ds p q. declares_same w₀ w' before ds₀ (ap (λ (s : State). s.structs) back.1) p;
            };
      }

  -- f answers with this number, the payload p and the state q, if that is not too long
  module _ (f : State → State → step.Answer) (number : ℕ) (p : State → Bytes) (q : State → State → State) (with : (after before : State) → f after before ≡ answer_with max_payload before number (p after) (q after before)) where
    pub long : (w' buf buf' : List ℕ) (r : Answer) → ((ds : List Struct) → 4096 < length (p (seen w u ds))) → Answers w u before saved buf w' buf' r (refused_by answer_too_long)
        → Answers w u before saved buf w' buf' r f
    long w' buf buf' r h a = answers_is w u before saved buf w' buf' r (refused_by answer_too_long) f (λ ds s. with (seen w u ds) s ∙ answer_long s number _ _ (h ds)) a

    module _ (w' buf buf' : List ℕ) (len : ℕ) (fits : (ds : List Struct) → length (p (seen w u ds)) ≤ 4096) (wrote : (ds : List Struct) → Wrote buf 0 (p (seen w u ds)) buf' len) where
      pub settles : (used : Used) (kept : Bool) → Stay saved.touched before.vars w w'
          → ((w₀ : List ℕ) → Since w₀ before saved w u → Lay w' used)
          → ((w₀ : List ℕ) → Since w₀ before saved w u → (ds₀ ds : List Struct) → q (seen w u ds) (seen w₀ before ds₀) ≡ seen w' used (if kept then ds else ds₀))
          → ((w₀ : List ℕ) → Since w₀ before saved w u → (ds₀ ds : List Struct) → Declares w₀ before ds₀ → Declares w u ds → Declares w' used (if kept then ds else ds₀))
          → Answers w u before saved buf w' buf' (record { number = number; len = len; used = used; kept = kept }) f
      settles used kept stay lay state declares =
          record {
            few = wrote_few buf _ buf' len (wrote []) (fits []);
            rest = wrote_rest buf _ buf' len (wrote []);
            stay = stay;
            settled = λ w₀ s. record {
              lay = lay w₀ s;
              is = λ ds₀ ds.
                  with (seen w u ds) (seen w₀ before ds₀)
                  ∙ answer_fits (seen w₀ before ds₀) number (p (seen w u ds)) (q (seen w u ds) (seen w₀ before ds₀)) (fits ds)
                  ∙ rw (wrote_payload buf _ buf' len (wrote ds), state w₀ s ds₀ ds);
              declares = declares w₀ s;
            };
          }

      -- the run's state stays
      pub keeps : w' ≡ w → Lay w u → ((after before : State) → q after before ≡ after) → Answers w u before saved buf w' buf' (record { number = number; len = len; used = u; kept = true }) f
      keeps e lay h =
          settles u true
          (λ v p q f. rw e refl)
          (λ w₀ s. rw e lay)
          (λ w₀ s ds₀ ds. rw e (h (seen w u ds) (seen w₀ before ds₀)))
          (λ w₀ s ds₀ ds a b. rw e b)

      -- the state at entry
      pub goes_back : Undone w u w' before saved × Stay saved.touched before.vars w w' → ((after before : State) → q after before ≡ before) → Answers w u before saved buf w' buf' (record { number = number; len = len; used = before; kept = false }) f
      goes_back back h =
          settles before false
          back.1
          (λ w₀ s. (back.0 w₀ s).0)
          (λ w₀ s ds₀ ds. h (seen w u ds) (seen w₀ before ds₀) ∙ sym (seen_same w₀ w' before ds₀ (back.0 w₀ s).1))
          (λ w₀ s ds₀ ds a b. declares_same w₀ w' before ds₀ (ap (λ (s : State). s.structs) (back.0 w₀ s).1) a)

      -- bindings and marks as at entry
      pub puts_back : PutBack w u w' before saved × Stay saved.touched before.vars w w' → ((after before : State) → q after before ≡ put_back before after) → Answers w u before saved buf w' buf' (record { number = number; len = len; used = u; kept = true }) f
      puts_back back h =
          settles u true
          back.1
          (λ w₀ s. (back.0 w₀ s).lay)
          (λ w₀ s ds₀ ds. h (seen w u ds) (seen w₀ before ds₀) ∙ sym ((back.0 w₀ s).is ds tt ∙ put_back_same w₀ before ds₀ (seen w u ds).structs (seen w u ds)))
          (λ w₀ s ds₀ ds a b. declares_same w w' u ds (back.0 w₀ s).structs b)

-- what was taken is given back where the variables stand
pub given_back : (w : List ℕ) (u before : Used) (saved : Rows) (w' : List ℕ) → Lay w u → Still w u before saved.words → GivenBack w u w' before × Stay Nothing before.vars w w'
    → Undone w u w' before saved × Stay saved.touched before.vars w w'
given_back w u before saved w' h s g = (λ w₀ x. g.0 w₀ (saved_stood w₀ before saved w u x h s.rows s.many), λ v p q f. g.1 v p q tt)

-- ---- the same of a state

-- .. that notes what it noted before
pub linked_stay : (s t : Held) (n : ℕ) → t.words.ghost_name ≡ s.words.ghost_name → t.saved ≡ s.saved → t.touched ≡ s.touched → s.saved ≡ n → Stay s.touched n s.words.now t.words.now → Linked s t
linked_stay s t n name saved e m h =
    record {
      name = name;
      saved = saved;
      rows = λ v p q f. let g : Untouched s.touched v = subst (λ (x : Touched). Untouched x v) e f in (g, h v p (rw m at q) g);
    }

-- .. whose words and counts were answered
pub answers_in : (w₀ : List ℕ) (b : Before) (s t : Held) (buf buf' : List ℕ) (r : Answer) (f : State → State → step.Answer) → GrownFrom w₀ b s → Linked s t → t.used ≡ r.used
    → Answers s.words.now s.used b.used (record { words = b.saved.now; touched = s.touched }) buf t.words.now buf' r f → AnswersIn w₀ b s t buf buf' r f
answers_in w₀ b s t buf buf' r f g same used a =
    let x = a.settled w₀ g.since in
    record {
      same = same;
      used = sym used;
      few = a.few;
      rest = a.rest;
      is = λ ds₀ ds. rw used (x.is ds₀ ds);
      declares = λ ds₀ ds p q. rw used (x.declares ds₀ ds p q);
    }

-- .. that went back
pub refused_in : (w₀ : List ℕ) (b : Before) (s t : Held) (buf : List ℕ) (number : ℕ) → WentBack w₀ b s t → (x : Refusal) → number ≡ number_of_refusal x
    → AnswersIn w₀ b s t buf buf (record { number = number; len = 0; used = t.used; kept = false }) (refused_by x)
unfolding refusal
refused_in w₀ b s t buf number a x e =
    record {
      same = a.same;
      used = refl;
      few = omega arith;
      rest = refl;
      is = λ ds₀ ds. let q : held t ds₀ ≡ seen w₀ b.used ds₀ = rw a.used (seen_same w₀ t.words.now b.used ds₀ a.is) in rw (← e, q);
      declares = λ ds₀ ds p q. rw a.used (declares_same w₀ t.words.now b.used ds₀ (ap (λ (s : State). s.structs) a.is) p);
    }

pub number_14 : number_of_refusal answer_too_long ≡ 14
unfolding number_of_refusal
number_14 = refl
