-- R-7: of every job without SN, from a fresh state, at every point: a numeric variable's chain ends in one that needs no less, unbound or bound to `!` or to an integer type that has the bits. Assumes nothing.
-- `Held` holds of a fresh state, and each record but SN's keeps it, whatever it answers; a record is SN's only where its first two bytes are. Along a chain `Held` gives `Met`.
use mathlib.Core.Path.{◌≡◌, refl, sym, ap, ◌∙◌}
use mathlib.Core.Logic.{◌≢◌}
use mathlib.Core.Bool.{Bool, true, false}
use mathlib.Core.List.{List, [], ◌∷◌, Memᴰ}
use Rattle.std.specs.Prelude.{Option, None, if◌then◌else◌}
use Prim.Native.Nat.{ℕ, zero, suc, ◌-◌, ◌≤◌, ◌<◌}
use native.Mathlib.Omega.{arith}
use lib.ListN.{length, take}
use lib.Dec.{leb}
use Rattle.definition.specs.Types.{TypeName, TypeValue, Var, State, fresh, unsound_state, answer_too_long, Result, ok, err, refused}
use Rattle.definition.specs.Store.{taken, num_loc, need_of}
use Rattle.definition.specs.Subst.{as_var, forward_tvar}
use Rattle.definition.specs.Join.{is_num_var}
use Rattle.definition.specs.Write.{Bytes, IsBytes}
use Rattle.definition.specs.Reader.{Read, got, not_read}
use Rattle.definition.specs.Record.{Record, read_record}
use Rattle.definition.specs.Trees.{arity}
use Rattle.definition.specs.Step.{Answer, refusal, put_back, answer_with, usable, lent, run, step, streamed, step_stream, Apart, most_of, apart, answer_within, reply, pair_answer, job_buffer, behind, tail_of}
use Rattle.definition.specs.Job.{Entry, ends_job, job_from}
use Rattle.definition.specs.Sound.{sound}
use Rattle.definition.specs.Demand.{Event, events, trace, point, FitsNeed, fits_error, fits_integer, Met, AllMet, WithoutSN, NeedsMet, at, nothing_done, events_by, lent_events, many_events, pair_events, one_event}
use Rattle.theorems.proofs.DemandTracks.{never, Ends, here, hop, ends_stop}
use Rattle.theorems.proofs.DemandOrder.{All, Sound, chain, next_bound}
use Rattle.theorems.proofs.LawsChains.{next_some}
use Rattle.theorems.proofs.DemandPutBack.{held_put_back}
use Rattle.theorems.proofs.SoundFacts.{facts}
use Rattle.theorems.proofs.LawsAnswer.{sound_of}
use Rattle.theorems.proofs.SoundRead.{FineRecord, ReadWell, given, not_given, well_read}
use Rattle.theorems.proofs.SoundRanges.{all_append}
use Rattle.theorems.proofs.ReadLetters.{letters, Lettered, read_letters, letters_are}
use Rattle.theorems.proofs.SoundKept.{stream_sound_kept, trusted, fresh_sound}
use Rattle.theorems.proofs.Stream.{ends}
use Rattle.theorems.proofs.StreamRecords.{front, records_from, records_of}
use Rattle.theorems.proofs.StreamCuts.{Fronted, fronted, not_fronted, fronts}
use Rattle.theorems.proofs.DemandRecords.{Literals, literals, ByLiterals, is_SN, is_NL, is_neither, by_literals, spares, Leaves, l_ok, l_cleared, l_err, l_refused, run_leaves, PairIn, pairs_on, pair_raised, PlacedPairs, many_went}
use Rattle.theorems.proofs.ManyPairs.{Pair}
use Rattle.theorems.proofs.LawsPost.{Post, p_ok}
use Rattle.definition.specs.Build.{build_many}
use Rattle.theorems.proofs.DemandEveryDepth.{between, ByApart, as_other, as_many, as_keeps, by_apart, as_links_of_one, as_links_of_two}
use Rattle.theorems.proofs.KeepHeld.{keep_claim}
use Rattle.theorems.proofs.MetSteps.{Claim, is_held, is_bare, Claimed, keeps_claim, Holds, holds_var, holds_fit, Held, NoNeeds}

-- ---- every record keeps the claim but those that begin with these letters: SN's, NL's

unfoldable pub letters_of : Claim → Bytes
letters_of is_held = 83 ∷ 78 ∷ []
letters_of is_bare = 78 ∷ 76 ∷ []

keeper : (q : Claim) {r : Record} {x : Literals} → ByLiterals r x → letters r ≢ letters_of q → spares q x ≡ true
unfolding spares letters letters_of
keeper is_held is_SN d = absurd (d refl)
keeper is_held is_NL d = refl
keeper is_held is_neither d = refl
keeper is_bare is_SN d = refl
keeper is_bare is_NL d = absurd (d refl)
keeper is_bare is_neither d = refl

spared : (q : Claim) (bytes : Bytes) {r : Record} {rest : Bytes} → take 2 bytes ≢ letters_of q → Lettered (take 2 bytes) (got r rest) → spares q (literals r) ≡ true
spared q bytes {r = r} d l = keeper q (by_literals r) (λ e. d (sym (letters_are l) ∙ e))

-- ---- a record keeps the claim

module _ (q : Claim) (s : State) (h : Claimed q s) where
  answer_with_kept : (most n : ℕ) (p : Bytes) (s' : State) → Claimed q s' → Claimed q (answer_with most s n p s').state
  unfolding answer_with refusal
  answer_with_kept most n p s' k = go (leb (length p) most)
    where
      go : (b : Bool) → Claimed q (if b then record { number = n; payload = p; state = s' } else refusal s answer_too_long).state
      go true = k
      go false = h

  answer_kept : sound s ≡ true → (r : Literals) → spares q r ≡ true → {k : Option (List ℕ)} (m : Result (State × Bytes)) → Leaves r (arity s) s k m → (most : ℕ) (tail : Bytes) → Claimed q (answer_within most tail s m).state
  unfolding answer_within refusal
  answer_kept f r e (ok (s', p)) (l_ok w k) most tail = answer_with_kept most _ (behind tail p) s' (k q e h)
  answer_kept f r e (ok (s', p)) (l_cleared {listed = listed} d i k) most tail = answer_with_kept most _ (behind tail p) s' (rw d (keep_claim s f listed k q h))
  answer_kept f r e (err s' x) (l_err g n) most tail = answer_with_kept most _ _ (put_back s s') (keeps_claim (held_put_back (facts s f) g n) q h)
  answer_kept f r e (refused x) l_refused most tail = h

  reply_kept : sound s ≡ true → (r : Record) → spares q (literals r) ≡ true → FineRecord (arity s) (taken s) r → Claimed q (reply s r).state
  unfolding reply
  reply_kept f r e p = answer_kept f (literals r) e (run s r) (run_leaves s (facts s f) r p) (most_of (apart r)) (tail_of s (apart r))

  lent_kept : sound s ≡ true → {n : ℕ} (bytes : Bytes) (r : Read Record) → ReadWell ⊥ s n r → take 2 bytes ≢ letters_of q → Lettered (take 2 bytes) r → Claimed q (lent s r).state
  unfolding lent refusal
  lent_kept f bytes (got r []) (given p i l) d e = reply_kept f r (spared q bytes d e) p.0
  lent_kept f bytes (got r (b ∷ rest)) p d e = h
  lent_kept f bytes (not_read x) p d e = h

  -- one that does not begin with the letters
  pub step_kept : (bytes : Bytes) (buffer : ℕ) → take 2 bytes ≢ letters_of q → Claimed q (step s bytes buffer).state
  unfolding step refusal
  step_kept bytes buffer d = go (usable s bytes buffer) refl
    where
      go : (b : Bool) → usable s bytes buffer ≡ b → Claimed q (elim b as (λ x. Answer) [ true ↦ lent s (read_record s bytes) | false ↦ refusal s unsound_state ]).state
      go true e = lent_kept (sound_of s bytes buffer e) bytes (read_record s bytes) (well_read ⊥ s bytes (λ x. absurd x)) d (read_letters s bytes)
      go false e = h

-- a state without needs stays without by every record that does not begin with the letters NL
pub no_needs : (s : State) (bytes : Bytes) (buffer : ℕ) → take 2 bytes ≢ 78 ∷ 76 ∷ [] → NoNeeds s → NoNeeds (step s bytes buffer).state
unfolding Claimed letters_of
no_needs s bytes buffer d h = step_kept is_bare s h bytes buffer d

pub step_held : (s : State) (bytes : Bytes) (buffer : ℕ) → take 2 bytes ≢ 83 ∷ 78 ∷ [] → Held s → Held (step s bytes buffer).state
unfolding Claimed letters_of
step_held s bytes buffer d h = step_kept is_held s h bytes buffer d

-- ---- a fresh state, and every point

pub held_fresh : Held fresh
unfolding Held is_num_var num_loc
held_fresh v t n e = never (cc)

-- each event of a record leaves what is held: MJ's pairs by the joins, all others as the record does
pairs_held : {ar : TypeName → ℕ} (ps : List Pair) (s : State) → Sound ar s → All (PairIn s) ps → Held s → All (λ e. Held e.state) (pair_events s ps)
unfolding pair_events Claimed
pairs_held [] s f i h = tt
pairs_held (p ∷ ps) s f i h =
    let a = pair_raised f p i.0 in
    let k : Held (pair_answer s p).state = keeps_claim a.grown.g_keeps is_held h in
    (k, pairs_held ps (pair_answer s p).state a.went.sound (pairs_on a.grown ps i.1) k)

many_held : {ar : TypeName → ℕ} (s : State) (m : Result (State × List Pair)) → Post ar s (PlacedPairs ar s) m → Held s → All (λ e. Held e.state) (many_events s m)
unfolding many_events nothing_done Claimed
many_held s (ok (S, ps)) (p_ok g p) h = pairs_held ps S p.went.sound p.pairs_in (keeps_claim g.g_keeps is_held h)
many_held s (err S e) p h = (h, tt)
many_held s (refused x) p h = (h, tt)

lent_events_held : (s : State) → sound s ≡ true → {n : ℕ} (bytes : Bytes) (r : Read Record) → ReadWell ⊥ s n r → take 2 bytes ≢ letters_of is_held → Lettered (take 2 bytes) r → Held s → All (λ e. Held e.state) (lent_events s r)
unfolding lent_events events_by one_event nothing_done Claimed
lent_events_held s f bytes (got r []) (given p i l) d e h = go r (apart r) (by_apart r) p.0 (spared is_held bytes d e)
  where
    go : (r : Record) (a : Apart) → ByApart r a → FineRecord (arity s) (taken s) r → spares is_held (literals r) ≡ true → All (λ e. Held e.state) (events_by s r a)
    go r a (as_other d) p e = (reply_kept is_held s h f r e p, tt)
    go r a as_keeps p e = (reply_kept is_held s h f r e p, tt)
    go r a as_links_of_one p e = (reply_kept is_held s h f r e p, tt)
    go r a as_links_of_two p e = (reply_kept is_held s h f r e p, tt)
    go r a (as_many {ps = ps}) p e = many_held s (build_many ps s) (many_went ps p.0 (facts s f) (omega arith)) h
lent_events_held s f bytes (got r (b ∷ rest)) p d e h = (h, tt)
lent_events_held s f bytes (not_read x) p d e h = (h, tt)

events_held : (s : State) (bytes : Bytes) (buffer : ℕ) → take 2 bytes ≢ 83 ∷ 78 ∷ [] → Held s → All (λ e. Held e.state) (events s bytes buffer)
unfolding events nothing_done letters_of
events_held s bytes buffer d h = go (usable s bytes buffer) refl
  where
    go : (b : Bool) → usable s bytes buffer ≡ b → All (λ e. Held e.state) (elim b as (λ x. List Event) [ true ↦ lent_events s (read_record s bytes) | false ↦ nothing_done s ])
    go true e = lent_events_held s (sound_of s bytes buffer e) bytes (read_record s bytes) (well_read ⊥ s bytes (λ x. absurd x)) d (read_letters s bytes) h
    go false e = (h, tt)

trace_held : (s : State) (records : List (Bytes × ℕ)) → WithoutSN records → Held s → All (λ e. Held e.state) (trace s records)
unfolding trace WithoutSN
trace_held s [] w h = tt
trace_held s ((bytes, buffer) ∷ records) w h =
    let d : take 2 bytes ≢ 83 ∷ 78 ∷ [] = w (bytes, buffer) (Memᴰ.head refl) in
    all_append (λ (e : Event). Held e.state) (events s bytes buffer) _ (events_held s bytes buffer d h) (trace_held (step s bytes buffer).state records (λ r m. w r (Memᴰ.tail m)) (step_held s bytes buffer d h))

point_held : (s : State) (es : List Event) (i : ℕ) → Held s → All (λ e. Held e.state) es → Held (point s es i)
unfolding point
point_held s es zero h k = h
point_held s [] (suc i) h k = h
point_held s (e ∷ es) (suc i) h k = point_held e.state es i k.0 k.1

-- ---- along a chain

var_holds : {S : State} {n w : ℕ} {T : TypeValue} → Holds S n T → T ≡ Var w → (is_num_var S w ≡ true) × (n ≤ need_of S w)
var_holds {S} {n} {w} (holds_var {w = u} h l) e = let c : u ≡ w = cc in (rw c at h, rw c at l)
var_holds (holds_fit fits_error) e = never (cc)
var_holds (holds_fit (fits_integer m l)) e = never (cc)

plain_holds : {S : State} {n : ℕ} {T : TypeValue} → Holds S n T → as_var T ≡ None → FitsNeed n T
unfolding as_var
plain_holds (holds_var h l) e = never (cc)
plain_holds (holds_fit h) e = h

module _ (S : State) (h : Held S) where
  walk : {v e : ℕ} → Ends S v e → is_num_var S v ≡ true → (is_num_var S e ≡ true) × (need_of S v ≤ need_of S e)
  unfolding Held
  walk (here n) k = (k, omega arith)
  walk (hop {v = v} {w = w} n d) k =
      let b = next_bound S v w n in
      let p = var_holds (h v b.0 k b.1) b.2 in
      let q = walk d p.0 in
      (q.0, omega (arith, p.1, q.1))

  pub held_met : {ar : TypeName → ℕ} → Sound ar S → (v : ℕ) → v < taken S → is_num_var S v ≡ true → Met S v
  unfolding Held
  held_met s v i k = let d = chain s v i in let w = walk d k in record {
    end_numeric = w.0;
    end_needs = w.1;
    end_holds = λ t g. plain_holds (h (forward_tvar S v) t w.0 g) (sym (next_some S (forward_tvar S v) t g) ∙ ends_stop d);
  }

-- every job of records none of which begins with SN, from a fresh state, at the start and after each event
pub needs_met : (records : List (Bytes × ℕ)) → NeedsMet records
unfolding NeedsMet AllMet at point
needs_met records w i l v j k = held_met (at fresh records i) (point_held fresh (trace fresh records) i held_fresh (trace_held fresh records w held_fresh)) ((between fresh records 0 i (omega arith)).still (record { ar = arity fresh; facts_of = facts fresh fresh_sound })).facts_of v j k

-- ---- streams

-- the states that the records of a stream leave, in their order: those of joinlog's job (specs/Job.antt)
unfoldable pub states_from : ℕ → State → Bytes → List State
states_from zero s bytes = []
states_from (suc n) s [] = []
states_from (suc n) s (b ∷ bytes) = let q = step_stream s (b ∷ bytes) job_buffer in elim (ends_job q.0.number) [ true ↦ q.0.state ∷ [] | false ↦ q.0.state ∷ states_from n q.0.state q.1 ]

-- one for each line of the job's log
pub states_many : (n i : ℕ) (s : State) (bytes : Bytes) → length (states_from n s bytes) ≡ length (job_from n i s bytes)
unfolding states_from job_from
states_many zero i s bytes = refl
states_many (suc n) i s [] = refl
states_many (suc n) i s (b ∷ bytes) = let q = step_stream s (b ∷ bytes) job_buffer in go q (ends_job q.0.number) (states_many n (suc i) q.0.state q.1)
  where
    go : (q : Answer × Bytes) (o : Bool) → length (states_from n q.0.state q.1) ≡ length (job_from n (suc i) q.0.state q.1)
        → length {A = State} (elim o [ true ↦ q.0.state ∷ [] | false ↦ q.0.state ∷ states_from n q.0.state q.1 ])
        ≡ length {A = Entry} (elim o [ true ↦ record { index = i; number = q.0.number; payload = q.0.payload } ∷ [] | false ↦ record { index = i; number = q.0.number; payload = q.0.payload } ∷ job_from n (suc i) q.0.state q.1 ])
    go q true e = refl
    go q false e = ap suc e

all_met : (s : State) → sound s ≡ true → Held s → AllMet s
unfolding AllMet
all_met s h k v i n = held_met s k (facts s h) v i n

stream_met : (n : ℕ) (s : State) (bytes : Bytes) → IsBytes bytes → sound s ≡ true → Held s → WithoutSN (records_from n s bytes) → All AllMet (states_from n s bytes)
unfolding states_from records_from streamed refusal WithoutSN Claimed letters_of
stream_met zero s bytes is h k w = tt
stream_met (suc n) s [] is h k w = tt
stream_met (suc n) s (b ∷ bytes) is h k w =
    let kept = stream_sound_kept s (b ∷ bytes) job_buffer is h in
    go (read_record s (b ∷ bytes)) (step_stream s (b ∷ bytes) job_buffer) (trusted s (b ∷ bytes) h) (fronts s (b ∷ bytes)) (well_read ⊥ s (b ∷ bytes) (λ x. absurd x)) kept.0
    (λ u f. stream_met n _ _ kept.1 kept.0 u f) w
  where
    on : (q : Answer × Bytes) (o : Bool) → AllMet q.0.state → (o ≡ false → All AllMet (states_from n q.0.state q.1)) → All AllMet (elim o [ true ↦ q.0.state ∷ [] | false ↦ q.0.state ∷ states_from n q.0.state q.1 ])
    on q true a f = (a, tt)
    on q false a f = (a, f refl)

    go : (x : Read Record) (q : Answer × Bytes) → q ≡ streamed s (b ∷ bytes) x → Fronted s (b ∷ bytes) x → ReadWell ⊥ s (length (b ∷ bytes) - 1) x → sound q.0.state ≡ true
        → (Held q.0.state → WithoutSN (records_from n q.0.state q.1) → All AllMet (states_from n q.0.state q.1))
        → WithoutSN (elim x [ got r rest ↦ (front (b ∷ bytes) rest, job_buffer) ∷ records_from n q.0.state rest | not_read x ↦ (b ∷ bytes, job_buffer) ∷ [] ])
        → All AllMet (elim (ends_job q.0.number) [ true ↦ q.0.state ∷ [] | false ↦ q.0.state ∷ states_from n q.0.state q.1 ])
    go (got r rest) q e (fronted f) (given p i l) safe later w =
        let left : q.1 ≡ rest = ap (λ (q : Answer × Bytes). q.1) e in
        let is : q.0 ≡ reply s r = ap (λ (q : Answer × Bytes). q.0) e in
        let none_SN : spares is_held (literals r) ≡ true = spared is_held (front (b ∷ bytes) rest) (λ y. w (front (b ∷ bytes) rest, job_buffer) (Memᴰ.head refl) y) (rw f at (read_letters s (front (b ∷ bytes) rest))) in
        let held : Held q.0.state = rw is (reply_kept is_held s k h r none_SN p.0) in
        on q (ends_job q.0.number) (all_met q.0.state safe held) (λ o. later held (λ z m. w z (Memᴰ.tail (rw left at m))))
    go (not_read x) q e not_fronted (not_given t) safe later w =
        let is : q.0 ≡ refusal s x = ap (λ (q : Answer × Bytes). q.0) e in
        let held : Held q.0.state = rw is k in
        on q (ends_job q.0.number) (all_met q.0.state safe held) (λ o. never (let z : ends_job q.0.number ≡ true = ap (λ (a : Answer). ends_job a.number) is ∙ ends t in cc))

-- of every stream of bytes none of whose records begins with SN, after each record
pub stream_needs_met : (bytes : Bytes) → IsBytes bytes → WithoutSN (records_of bytes) → All AllMet (states_from (length bytes) fresh bytes)
unfolding records_of
stream_needs_met bytes is w = stream_met (length bytes) fresh bytes is fresh_sound held_fresh w
