-- Demand 3 at every depth of unrolling, of every list of records and with no hypothesis. Assumes nothing.
-- First one record: the state rises, or is as it was (`Up`, `Stepped`). Then its events, one after the other (`Chain`): one for each pair of an MJ, one for any other record. Each join by the main lemma.
use mathlib.Core.Path.{◌≡◌, refl, sym, subst, ap, sym, ◌∙◌, subst}
use mathlib.Core.Bool.{Bool, true, false}
use mathlib.Core.List.Memᴰ
use mathlib.Core.List.{List, [], ◌∷◌, ◌++◌, Memᴰ}
use mathlib.Core.Logic.{inl, inr}
use Prim.Native.Nat.{ℕ, zero, suc, ◌-◌, ◌≤◌, ◌<◌}
use native.Mathlib.Omega.{arith}
use lib.ListN.{length, take, drop}
use lib.Dec.{leb}
use Rattle.std.specs.Prelude.{if◌then◌else◌}
use Rattle.definition.specs.Types.{TypeName, Var, State, max_depth, answer_too_long, unsound_state, Result, ok, err, refused}
use Rattle.definition.specs.Join.{TypingCase}
use Rattle.definition.specs.Store.{taken, type_at, need_of}
use Rattle.definition.specs.Write.{Bytes}
use Rattle.definition.specs.Reader.{Read, got, not_read}
use Rattle.definition.specs.Record.{Record, read_record, SD, FV, NV, SN, NL, JN, SU, UF, RD, IN, TS, NC, BC, SC, SV, RM, CN, XP, MJ, UL, JL, KP}
use Rattle.definition.specs.Trees.{arity, Tree}
use Rattle.definition.specs.Step.{Answer, refusal, put_back, max_payload, answer_with, usable, lent, run, step, answer_within, Apart, as_others, many, apart, most_of, reply, pair_answer, run_pairs, behind, tail_of, links_of_one, links_of_two, keeps}
use Rattle.definition.specs.Rank.{ReadType, Rank, NoneReachesItself}
use Rattle.definition.specs.Demand.{JoinCall, outcome, OnSuccess, Event, events, trace, point, at, NeedsGrow, pair_events, nothing_done, many_events, events_by, lent_events, one_event, NeedsGrowBy, stays, followed, from_to}
use Rattle.definition.specs.Build.{build_many}
use Rattle.theorems.proofs.DemandDepth.{unrolled}
use Rattle.theorems.proofs.DemandOrder.{Sound, ◌⊑◌, chain, ends_in, ends_keep, All}
use Rattle.theorems.proofs.DemandSteps.{quiet_⊑}
use Rattle.theorems.proofs.LawsPost.{Post, p_ok}
use Rattle.theorems.proofs.DemandCalls.{Joined}
use Rattle.theorems.proofs.DemandMain.{join_impl_good}
use Rattle.theorems.proofs.DemandReading.{rank_refl, rank_trans, tracks_rank, var_up}
use Rattle.theorems.proofs.DemandPutBack.{quiet_put_back, sound_put_back}
use Rattle.theorems.proofs.SoundFacts.{facts}
use Rattle.definition.specs.Subst.{forward_tvar}
use Rattle.theorems.proofs.DemandTracks.{ends_stop, ends_det}
use mathlib.Core.List.Memᴰ
use Rattle.theorems.proofs.SoundRead.{FineRecord, ReadWell, given, well_read}
use Rattle.std.specs.Prelude.{Option, None, Some}
use Rattle.definition.specs.Sound.{sound}
use Rattle.definition.specs.Keep.{cleared, moved}
use Rattle.theorems.proofs.DemandTracks.{never}
use Rattle.theorems.proofs.TotalFinite.{all_at}
use Rattle.theorems.proofs.KeepReach.{TakenAll}
use Rattle.theorems.proofs.KeepSound.{cleared_sound}
use Rattle.theorems.proofs.KeepRanges.{KP_answers}
use Rattle.theorems.proofs.KeepReads.{moved_below}
use Rattle.theorems.proofs.KeepDepth.{depth_ranks}
use Rattle.theorems.proofs.KeepHeld.{keep_needs}
use Rattle.theorems.proofs.JoinAnswers.{weight, Weighs, weighs, record_weighs}
use Rattle.theorems.proofs.LawsAnswer.{sound_of}
use Rattle.theorems.proofs.ManyPairs.{Pair, PairFits, fits_on, Placed, many_put, many_replies, many_refused}
use Rattle.theorems.proofs.DemandRecords.{literals, Leaves, l_ok, l_err, l_refused, clears, run_leaves, pair_raised, PlacedPairs, many_went, NoErr, no_many}
use Rattle.theorems.proofs.DemandFair.{Fair, AllFair, none_fair, run_calls_fair, pair_fair}

-- ---- the claim, with no hypothesis: where a variable reaches itself there is no whole reading, but there is one to every depth

-- every variable of s, read to any depth in s, ranks at or below what is read to that depth in s' of the variable that it is there
unfoldable pub RisesBy : (ℕ → Option ℕ) → State → State → Type 0
RisesBy go s s' = (v v' : ℕ) → v < taken s → go v ≡ Some v' → (rest : ReadType) (n : ℕ) → Rank (unrolled rest n s (Var v)) (unrolled rest n s' (Var v'))

unfoldable pub Rises : State → State → Type 0
Rises s s' = RisesBy stays s s'

-- the type x, read to any depth, ranks at or below t
abbrev pub BelowAtEveryDepth : State → ℕ → ℕ → Type 0
BelowAtEveryDepth s x t = (rest : ReadType) (n : ℕ) → Rank (unrolled rest n s (type_at s x)) (unrolled rest n s (type_at s t))

abbrev pub JoinsAtEveryDepth : JoinCall → State → ℕ → Type 0
JoinsAtEveryDepth call s t = BelowAtEveryDepth s call.lhs t × BelowAtEveryDepth s call.rhs t × Rises call.before s

pub record Demand3AtEveryDepth (s : State) (records : List (Bytes × ℕ)) : Type 0 where
  pub points : (i j : ℕ) → i ≤ j → RisesBy (from_to s records i j) (at s records i) (at s records j)
  pub joins : (e : Event) → Memᴰ e (trace s records) → (call : JoinCall) → Memᴰ call e.calls → OnSuccess (outcome call) (λ s t. JoinsAtEveryDepth call s t)

-- ---- a record raises what is known

-- .. of each variable under its later number
pub record Up (go : ℕ → Option ℕ) (s s' : State) : Type 0 where
  pub lands : (v v' : ℕ) → v < taken s → go v ≡ Some v' → v' < taken s'
  pub rises : RisesBy go s s'
  pub needs : NeedsGrowBy go s s'

-- where a variable goes, it keeps its number
abbrev pub Still : (ℕ → Option ℕ) → Type 0
Still go = (v v' : ℕ) → go v ≡ Some v' → v ≡ v'

still_stays : Still stays
unfolding stays
still_stays v v' e = cc

-- two moves, one after the other
abbrev pub Via : (ℕ → Option ℕ) → (ℕ → Option ℕ) → (ℕ → Option ℕ) → Type 0
Via go go' both = (v w : ℕ) → both v ≡ Some w → (u : ℕ) × (go v ≡ Some u) × (go' u ≡ Some w)

via_stays : Via stays stays stays
unfolding stays
via_stays v w e = (v, refl, e)

up_refl : {go : ℕ → Option ℕ} → Still go → (s : State) → Up go s s
unfolding RisesBy
up_refl k s = record {
  lands = λ v v' h e. omega (arith, k v v' e);
  rises = λ v v' h e rest n. subst (λ (w : ℕ). Rank (unrolled rest n s (Var v)) (unrolled rest n s (Var w))) (k v v' e) (rank_refl _);
  needs = record {
    mark_stays = λ v v' i e h. rw (← (k v v' e)) h;
    own_need = λ v v' i e. omega (arith, ap (need_of s) (k v v' e));
    end_need = λ v v' i e. omega (arith, ap (λ w. need_of s (forward_tvar s w)) (k v v' e));
  };
}

up_trans : {go go' both : ℕ → Option ℕ} {s s' s'' : State} → Via go go' both → Up go s s' → Up go' s' s'' → Up both s s''
unfolding RisesBy
up_trans k a b = record {
  lands = λ v w h e. let x = k v w e in b.lands x.0 w (a.lands v x.0 h x.1) x.2;
  rises = λ v w h e rest n. let x = k v w e in rank_trans (a.rises v x.0 h x.1 rest n) (b.rises x.0 w (a.lands v x.0 h x.1) x.2 rest n);
  needs = record {
    mark_stays = λ v w i e h. let x = k v w e in b.needs.mark_stays x.0 w (a.lands v x.0 i x.1) x.2 (a.needs.mark_stays v x.0 i x.1 h);
    own_need = λ v w i e. let x = k v w e in omega (arith, a.needs.own_need v x.0 i x.1, b.needs.own_need x.0 w (a.lands v x.0 i x.1) x.2);
    end_need = λ v w i e. let x = k v w e in omega (arith, a.needs.end_need v x.0 i x.1, b.needs.end_need x.0 w (a.lands v x.0 i x.1) x.2);
  };
}

-- some arity by which the state is sound
pub record Somehow (s : State) : Type 0 where
  pub ar : TypeName → ℕ
  pub facts_of : Sound ar s

needs_above : {ar : TypeName → ℕ} {s s' : State} → Sound ar s → Sound ar s' → s ⊑ s' → NeedsGrow s s'
needs_above {s = S} {s' = S'} s s' x = record {
  mark_stays = λ v v' i e h. rw (← (still_stays v v' e)) (x.num_stays v h);
  own_need = λ v v' i e. omega (arith, x.need_stays v i, ap (need_of S') (still_stays v v' e));
  end_need = λ v v' i e.
      let c = chain s v i in
      let j = ends_in s i c in
      let r = chain s' (forward_tvar S v) (omega (arith, x.more_vars)) in
      omega (
        arith,
        x.end_grows (forward_tvar S v) _ j (ends_stop c) r,
        ap (need_of S') (ends_det (ends_keep x c r) (chain s' v (omega (arith, x.more_vars)))),
        ap (λ w. need_of S' (forward_tvar S' w)) (still_stays v v' e),
      );
}

pub up_above : {ar : TypeName → ℕ} {s s' : State} → Sound ar s → Sound ar s' → s ⊑ s' → Up stays s s'
unfolding RisesBy
up_above {s = S} {s' = S'} s s' x = record {
  lands = λ v v' h e. omega (arith, x.more_vars, still_stays v v' e);
  rises = λ v v' h e rest n. subst (λ (w : ℕ). Rank (unrolled rest n S (Var v)) (unrolled rest n S' (Var w))) (still_stays v v' e) (var_up s s' x rest n v h);
  needs = needs_above s s' x;
}

pub record Stepped (go : ℕ → Option ℕ) (s s' : State) : Type 0 where
  pub up : Up go s s'
  pub still : Somehow s → Somehow s'

stepped_refl : {go : ℕ → Option ℕ} → Still go → (s : State) → Stepped go s s
stepped_refl k s = record { up = up_refl k s; still = λ h. h }

stepped_trans : {go go' both : ℕ → Option ℕ} {s s' s'' : State} → Via go go' both → Stepped go s s' → Stepped go' s' s'' → Stepped both s s''
stepped_trans k a b = record { up = up_trans k a.up b.up; still = λ h. b.still (a.still h) }

stepped_above : {ar : TypeName → ℕ} {s s' : State} → Sound ar s → Sound ar s' → s ⊑ s' → Stepped stays s s'
stepped_above {ar} s s' x = record { up = up_above s s' x; still = λ h. record { ar = ar; facts_of = s' } }

-- R-11: KP
stepped_cleared : (s : State) → sound s ≡ true → (listed : List ℕ) → TakenAll s listed → Stepped (moved s listed) s (cleared s listed)
unfolding RisesBy
stepped_cleared s h listed k = record {
  up = record {
    lands = λ v v' i e. moved_below s h listed k v v' e;
    rises = λ v v' i e rest n. depth_ranks s h listed k v v' e rest n;
    needs = keep_needs s h listed k;
  };
  still = λ f. record { ar = arity (cleared s listed); facts_of = facts (cleared s listed) (cleared_sound s h listed k) };
}

answer_with_stepped : (most : ℕ) (s : State) (n : ℕ) (p : Bytes) (s' : State) → Stepped stays s s' → Stepped stays s (answer_with most s n p s').state
unfolding answer_with refusal
answer_with_stepped most s n p s' h = go (leb (length p) most)
  where
    go : (b : Bool) → Stepped stays s (if b then record { number = n; payload = p; state = s' } else refusal s answer_too_long).state
    go true = h
    go false = stepped_refl still_stays s

reply_stepped : (s : State) → Sound (arity s) s → (r : Record) → FineRecord (arity s) (taken s) r → clears (apart r) ≡ None → Stepped stays s (reply s r).state
unfolding reply answer_within refusal
reply_stepped s h r f e = go (run s r) (rw e at (run_leaves s h r f))
  where
    go : (m : Result (State × Bytes)) → Leaves (literals r) (arity s) s None m → Stepped stays s (answer_within (most_of (apart r)) (tail_of s (apart r)) s m).state
    go (ok (s', p)) (l_ok w k) = answer_with_stepped _ s _ (behind (tail_of s (apart r)) p) s' (stepped_above h w.sound w.above)
    go (err s' x) (l_err g n) = answer_with_stepped _ s _ _ (put_back s s') (stepped_above h (sound_put_back h g n) (quiet_⊑ h (sound_put_back h g n) (quiet_put_back h g n)))
    go (refused x) l_refused = stepped_refl still_stays s

-- ---- the joins that a record asks for, at every depth

abbrev pub Gave : {E : Type 0} (a : JoinCall) → Fair E a → Result (State × ℕ) → Type 0
Gave a h m = Post h.ar a.before (Joined h.ar a.before a.lhs a.rhs) m

pub gave : {E : Type 0} (a : JoinCall) (h : Fair E a) → Gave a h (outcome a)
gave a h = join_impl_good max_depth a.before a.case a.lhs a.rhs h.from h.l_in h.r_in

answered : {E : Type 0} (a : JoinCall) (h : Fair E a) (m : Result (State × ℕ)) → Gave a h m → OnSuccess m (λ s t. JoinsAtEveryDepth a s t)
unfolding OnSuccess Rises
answered a h (ok (s, t)) (p_ok g j) = (
  (λ rest n. tracks_rank j.sound rest n a.lhs t (omega (arith, h.l_in, j.above.more_nodes)) j.t_in j.left),
  (λ rest n. tracks_rank j.sound rest n a.rhs t (omega (arith, h.r_in, j.above.more_nodes)) j.t_in j.right),
  (up_above h.from j.sound j.above).rises,
)
answered a h (err s e) p = tt
answered a h (refused x) p = tt

answered_at : {E : Type 0} (a : JoinCall) → Fair E a → OnSuccess (outcome a) (λ s t. JoinsAtEveryDepth a s t)
answered_at a h = answered a h _ (gave a h)

-- ---- events, one after the other

-- an event that follows s: it raises what is known, and its joins are fair where no variable reaches itself at its two ends
pub record Follows (E : Type 0) (s : State) (e : Event) : Type 0 where
  pub stepped : Stepped e.moves s e.state
  pub fair : (E → NoneReachesItself s) → (E → NoneReachesItself e.state) → AllFair E e.calls

pub data Chain (E : Type 0) : State → List Event → Type 0 where
  ended : {s : State} → Chain E s []
  next : {s : State} {e : Event} {es : List Event} → Follows E s e → Chain E e.state es → Chain E s (e ∷ es)

-- the state after all of them
abbrev pub last_of : State → List Event → State
last_of s [] = s
last_of s (e ∷ es) = last_of e.state es

chain_append : {E : Type 0} (s : State) (es es' : List Event) → Chain E s es → Chain E (last_of s es) es' → Chain E s (es ++ es')
chain_append s [] es' c c' = c'
chain_append s (e ∷ es) es' (next f c) c' = next f (chain_append e.state es es' c c')

-- those of a record, and its state after the last of them
pub record Events (E : Type 0) (s : State) (es : List Event) (s' : State) : Type 0 where
  pub chain : Chain E s es
  pub end : last_of s es ≡ s'
  pub some : 1 ≤ length es

-- .. a record that does nothing
nothing_events : {E : Type 0} (s : State) → Events E s (nothing_done s) s
unfolding nothing_done
nothing_events s = record { chain = next (record { stepped = stepped_refl still_stays s; fair = λ n z. none_fair }) ended; end = refl; some = omega arith }

-- .. MJ's pairs, from the state s that they were placed from, S: one event or more, if there is a pair or more
pairs_chain : {E : Type 0} {ar : TypeName → ℕ} (s : State) (ps : List Pair) (S : State) → Stepped stays s S → Sound ar S → All (PairFits S) ps → 1 ≤ length ps → Chain E s (pair_events S ps)
unfolding pair_events
pairs_chain s [] S u h f l = absurd (omega arith)
pairs_chain s (p ∷ []) S u h f l = let a = pair_raised h p (f.0.l_in, f.0.r_in) in
    next (record { stepped = stepped_trans via_stays u (stepped_above h a.went.sound a.went.above); fair = λ n z. pair_fair S h p f.0 z }) ended
pairs_chain s (p ∷ q ∷ ps) S u h f l = let a = pair_raised h p (f.0.l_in, f.0.r_in) in
    next (record { stepped = stepped_trans via_stays u (stepped_above h a.went.sound a.went.above); fair = λ n z. pair_fair S h p f.0 z })
    (pairs_chain (pair_answer S p).state (q ∷ ps) (pair_answer S p).state (stepped_refl still_stays _) a.went.sound (fits_on h a.went.sound a.grown (q ∷ ps) f.1) (omega arith))

pairs_end : (s : State) (ps : List Pair) (S : State) → 1 ≤ length ps → last_of s (pair_events S ps) ≡ (run_pairs S ps).0
unfolding pair_events run_pairs
pairs_end s [] S l = absurd (omega arith)
pairs_end s (p ∷ []) S l = refl
pairs_end s (p ∷ q ∷ ps) S l = pairs_end (pair_answer S p).state (q ∷ ps) (pair_answer S p).state (omega arith)

pairs_many : (s : State) (ps : List Pair) → length (pair_events s ps) ≡ length ps
unfolding pair_events
pairs_many s [] = refl
pairs_many s (p ∷ ps) = ap suc (pairs_many (pair_answer s p).state ps)

many_events_are : {E : Type 0} (s : State) → Sound (arity s) s → (ps : List (TypingCase × Tree × Tree)) → FineRecord (arity s) (taken s) (MJ ps) → weight (MJ ps) ≤ max_payload → Events E s (many_events s (build_many ps s)) (reply s (MJ ps)).state
unfolding many_events weight refusal
many_events_are {E} s h ps f w = go (build_many ps s) refl (no_many ps s) (many_put ps f.0 w h (omega arith)) (many_went ps f.0 h (omega arith))
  where
    go : (m : Result (State × List Pair)) → build_many ps s ≡ m → NoErr m → Post (arity s) s (Placed (arity s) (length ps)) m → Post (arity s) s (PlacedPairs (arity s) s) m
        → Events E s (elim m [ ok (s', pairs) ↦ pair_events s' pairs | err s' e ↦ nothing_done s | refused x ↦ nothing_done s ]) (reply s (MJ ps)).state
    go (ok (S, qs)) e n (p_ok g p) (p_ok g' q) =
        let r : (reply s (MJ ps)).state ≡ (run_pairs S qs).0 = ap (λ (a : Answer). a.state) (many_replies s ps f.2 S qs e) in
        record {
          chain = pairs_chain s qs S (stepped_above h q.went.sound q.went.above) p.sound p.fits (omega (arith, p.so_many, f.1));
          end = pairs_end s qs S (omega (arith, p.so_many, f.1)) ∙ sym r;
          some = omega (arith, pairs_many S qs, p.so_many, f.1);
        }
    go (err _ _) e n p q = elim n [ ]
    go (refused x) e n p q = let r : (reply s (MJ ps)).state ≡ s = ap (λ (a : Answer). a.state) (many_refused s ps x e) in rw r (nothing_events s)

-- one event for every other record that does not clear
its_end : {E : Type 0} (s : State) → Sound (arity s) s → (r : Record) → FineRecord (arity s) (taken s) r → clears (apart r) ≡ None → weight r ≤ max_payload → Events E s (one_event s r) (reply s r).state
unfolding one_event
its_end s h r f e w = record { chain = next (record { stepped = reply_stepped s h r f e; fair = λ n z. run_calls_fair s h r f w n z }) ended; end = refl; some = omega arith }

-- KP's
cleared_event : {E : Type 0} (s : State) → sound s ≡ true → (listed : List ℕ) → TakenAll s listed
    → Events E s (record { state = (reply s (KP listed)).state; calls = []; moves = moved s listed } ∷ []) (reply s (KP listed)).state
cleared_event s h listed k =
    let e : (reply s (KP listed)).state ≡ cleared s listed = ap (λ (a : Answer). a.state) (KP_answers s h listed) in
    record { chain = next (record { stepped = subst (λ (x : State). Stepped (moved s listed) s x) (sym e) (stepped_cleared s h listed k); fair = λ n z. none_fair }) ended; end = refl; some = omega arith }

-- MJ, UL, JL and KP stand apart
pub data ByApart : Record → Apart → Type 0 where
  as_other : {r : Record} → clears (apart r) ≡ None → ByApart r as_others
  as_many : {ps : List (TypingCase × Tree × Tree)} → ByApart (MJ ps) (many ps)
  as_links_of_one : {t : Tree} → ByApart (UL t) (links_of_one t)
  as_links_of_two : {t1 t2 : Tree} → ByApart (JL t1 t2) (links_of_two t1 t2)
  as_keeps : {listed : List ℕ} → ByApart (KP listed) (keeps listed)

pub by_apart : (r : Record) → ByApart r (apart r)
unfolding apart clears
by_apart (SD a ps) = as_other refl
by_apart (FV loc) = as_other refl
by_apart (NV loc) = as_other refl
by_apart (NL loc bits) = as_other refl
by_apart (SN v loc) = as_other refl
by_apart (JN t u) = as_other refl
by_apart (SU t u) = as_other refl
by_apart (UF t) = as_other refl
by_apart (RD t) = as_other refl
by_apart (IN t) = as_other refl
by_apart (TS ps t) = as_other refl
by_apart (NC loc kind t) = as_other refl
by_apart (BC loc t) = as_other refl
by_apart (SC loc t) = as_other refl
by_apart SV = as_other refl
by_apart (RM t) = as_other refl
by_apart (CN t) = as_other refl
by_apart (XP t) = as_other refl
by_apart (MJ ps) = as_many
by_apart (UL t) = as_links_of_one
by_apart (JL t u) = as_links_of_two
by_apart (KP listed) = as_keeps

events_of : {E : Type 0} (s : State) → sound s ≡ true → {r : Record} {a : Apart} → ByApart r a → FineRecord (arity s) (taken s) r → weight r ≤ max_payload → Events E s (events_by s r a) (reply s r).state
unfolding events_by apart clears
events_of s h (as_other {r = r} e) f w = its_end s (facts s h) r f e w
events_of s h (as_links_of_one {t = t}) f w = its_end s (facts s h) (UL t) f refl w
events_of s h (as_links_of_two {t1 = t1} {t2 = t2}) f w = its_end s (facts s h) (JL t1 t2) f refl w
events_of s h (as_many {ps = ps}) f w = many_events_are s (facts s h) ps f w
events_of s h (as_keeps {listed = listed}) f w = cleared_event s h listed (λ v m. all_at (λ v. v < taken s) listed f v m)

lent_events_are : {E : Type 0} (s : State) → sound s ≡ true → {n : ℕ} (r : Read Record) → ReadWell ⊥ s n r → Weighs max_payload r → Events E s (lent_events s r) (lent s r).state
unfolding lent_events lent refusal
lent_events_are s h (got r []) (given f i l) (weighs w) = events_of s h (by_apart r) f.0 w
lent_events_are s h (got r (b ∷ rest)) f w = nothing_events s
lent_events_are s h (not_read x) f w = nothing_events s

pub record_events : {E : Type 0} (s : State) (bytes : Bytes) (buffer : ℕ) → Events E s (events s bytes buffer) (step s bytes buffer).state
unfolding events step refusal
record_events {E} s bytes buffer = go (usable s bytes buffer) refl
  where
    go : (b : Bool) → usable s bytes buffer ≡ b → Events E s (elim b [ true ↦ lent_events s (read_record s bytes) | false ↦ nothing_done s ])
        (elim b as (λ x. Answer) [ true ↦ lent s (read_record s bytes) | false ↦ refusal s unsound_state ]).state
    go true e = lent_events_are s (sound_of s bytes buffer e) (read_record s bytes) (well_read ⊥ s bytes (λ h. absurd h)) (record_weighs s bytes)
    go false e = nothing_events s

-- every record has an event, and the last of them ends in the state that the record leaves
pub trace_ends : (s : State) (bytes : Bytes) (buffer : ℕ) → (1 ≤ length (events s bytes buffer)) × (last_of s (events s bytes buffer) ≡ (step s bytes buffer).state)
trace_ends s bytes buffer = let e = record_events {E = ⊥} s bytes buffer in (e.some, e.end)

pub chained : {E : Type 0} (s : State) (records : List (Bytes × ℕ)) → Chain E s (trace s records)
unfolding trace
chained s [] = ended
chained {E} s ((bytes, buffer) ∷ records) =
    let e : Events E s (events s bytes buffer) (step s bytes buffer).state = record_events s bytes buffer in
    chain_append s (events s bytes buffer) (trace (step s bytes buffer).state records) e.chain (rw e.end (chained (step s bytes buffer).state records))

-- ---- between the points of a chain

nothing_follows : Still (followed [])
unfolding followed
nothing_follows v v' e = cc

-- an event, and those after it
via_event : (e : Event) (es : List Event) → Via e.moves (followed es) (followed (e ∷ es))
unfolding followed
via_event e es v w d = go (e.moves v) refl d
  where
    go : (o : Option ℕ) → e.moves v ≡ o → elim o as (λ o. Option ℕ) [ None ↦ None | Some u ↦ followed es u ] ≡ Some w → (u : ℕ) × (e.moves v ≡ Some u) × (followed es u ≡ Some w)
    go None c d = never (cc)
    go (Some u) c d = (u, c, d)

take_none : (n : ℕ) → take {A = Event} n [] ≡ []
take_none zero = refl
take_none (suc n) = refl

up_to : {E : Type 0} (s : State) (es : List Event) → Chain E s es → (j : ℕ) → Stepped (followed (take j es)) s (point s es j)
unfolding point
up_to s es c zero = stepped_refl nothing_follows s
up_to s [] c (suc j) = stepped_refl nothing_follows s
up_to s (e ∷ es) (next f c) (suc j) = stepped_trans (via_event e (take j es)) f.stepped (up_to e.state es c j)

between_points : {E : Type 0} (s : State) (es : List Event) → Chain E s es → (i j : ℕ) → i ≤ j → Stepped (followed (take (j - i) (drop i es))) (point s es i) (point s es j)
unfolding point
between_points s es c zero j h = let d : j - 0 ≡ j = omega arith in rw d (up_to s es c j)
between_points s es c (suc i) zero h = absurd (omega arith)
between_points s [] c (suc i) (suc j) h = stepped_refl (rw (take_none (suc j - suc i)) nothing_follows) s
between_points s (e ∷ es) (next f c) (suc i) (suc j) h = let d : suc j - suc i ≡ j - i = omega arith in rw d (between_points e.state es c i j (omega arith))

pub between : (s : State) (records : List (Bytes × ℕ)) (i j : ℕ) → i ≤ j → Stepped (from_to s records i j) (at s records i) (at s records j)
unfolding at from_to
between s records i j h = between_points {E = ⊥} s (trace s records) (chained s records) i j h

-- the joins of an event of the chain
pub calls_fair : {E : Type 0} (s : State) (es : List Event) → Chain E s es → (E → (i : ℕ) → i ≤ length es → NoneReachesItself (point s es i)) → (e : Event) → Memᴰ e es → AllFair E e.calls
unfolding point
calls_fair s [] c n e m = absurd (Memᴰ.not-nil m)
calls_fair {E} s (e ∷ es) (next f c) n x m = elim (Memᴰ.cases_cons m) [
  | inl i ↦ subst (λ (y : Event). AllFair E y.calls) (sym i) (f.fair (λ d. n d 0 (omega arith)) (λ d. n d 1 (omega arith)))
  | inr i ↦ calls_fair e.state es c (λ d k l. n d (suc k) (omega (arith, l))) x i
]

pub demand_3_at_every_depth : (s : State) (records : List (Bytes × ℕ)) → Demand3AtEveryDepth s records
demand_3_at_every_depth s records = record {
  points = λ i j h. (between s records i j h).up.rises;
  joins = λ e i a m. answered_at a (calls_fair {E = ⊥} s (trace s records) (chained s records) (λ d. absurd d) e i a m);
}
