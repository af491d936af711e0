-- MJ: its pairs are answered one behind the other, each in the state that the one before it left; one pair is answered as JN or SU. Its payload always fits, and a pair whose join succeeds
-- answers 0. Assumes nothing.
-- First the pairs as placed, by the rules of Post; then the bytes of the answers; then the turns by induction on the pairs, and one pair beside its JN or SU by cases of the join.
use mathlib.Core.Path.{◌≡◌, refl, sym, ap, ◌∙◌, subst}
use mathlib.Core.Bool.{Bool, true, false}
use mathlib.Core.List.{List, [], ◌∷◌, ◌++◌, append-nil, append_assoc, Memᴰ}
use mathlib.Core.Logic.{inl, inr}
use Prim.Native.Nat.{ℕ, zero, suc, ◌+◌, ◌*◌, ◌-◌, ◌≤◌, ◌<◌}
use native.Mathlib.Omega.{arith}
use lib.ListN.{length, get_or, length-append}
use lib.Dec.{leb, leb→le}
use Rattle.std.specs.Prelude.{if◌then◌else◌}
use Rattle.definition.specs.Types.{TypeName, TypeValue, UnitType, Ref, Param, Apply, Var, Anything, UnresolvedError, Cell, State, Refusal, answer_too_long, max_depth, Result, ok, err, refused, ◌>>=◌}
use Rattle.definition.specs.Store.{count, taken, with_node, sp}
use Rattle.definition.specs.Join.{TypingCase, Join, Subtype, join_impl, join, subtype}
use Rattle.definition.specs.Write.{Bytes, u16, write, write_error}
use Rattle.definition.specs.Reader.{Read, got}
use Rattle.definition.specs.Trees.{Tree, unit_tree, anything_tree, error_tree, ref_tree, param_tree, apply_tree, var_tree, Trees, no_trees, ◌then◌, arity}
use Rattle.definition.specs.Record.{Record, MJ, read_record}
use Rattle.definition.specs.Build.{build, build_all, build_many}
use Rattle.definition.specs.Step.{Answer, number_of_error, refusal, put_back, max_payload, answer_with, answer_within, answer, two_types, pair_answer, pair_bytes, run_pairs, run, apart, max_many, most_of, reply, usable, lent, step, behind, tail_of}
use Rattle.definition.specs.Demand.{JoinCall, outcome, Event, pair_events, nothing_done, many_events, events_by, lent_events, events, stays}
use Rattle.theorems.proofs.DemandOrder.{All, All_map, Sound}
use Rattle.theorems.proofs.LawsPost.{Grown, grown_refl, Post, p_ok, bind_post}
use Rattle.theorems.proofs.SoundRoom.{with_room, sp_room}
use Rattle.theorems.proofs.SoundFacts.{test, facts}
use Rattle.theorems.proofs.SoundRead.{FineMany, ReadWell, given, well_read}
use Rattle.theorems.proofs.SoundRefusals.{error_number, reply_untouched}
use Rattle.theorems.proofs.TotalWalk.{seven, Ends, e_ok, e_refused, bind, place_run}
use Rattle.theorems.proofs.DemandRecords.{NoErr, no_place, pair_raised}
use Rattle.theorems.proofs.JoinWrites.{wrote, wrote_kept, post_is, join_impl_slim}
use Rattle.theorems.proofs.JoinAnswers.{many_size, weight, Weighs, weighs, record_weighs, place_put, length_wrote, two_of, fitting, no_calls}
use Rattle.theorems.proofs.LawsAnswer.{refusal_number_5, sound_of}

abbrev pub Pair : Type 0
Pair = TypingCase × ℕ × ℕ

-- ---- the pairs as placed: both types are in the state, and are written in no more bytes than a payload may have

pub record PairFits (S : State) (p : Pair) : Type 0 where
  pub l_in : p.1 < count S
  pub r_in : p.2 < count S
  pub short : wrote S p.1 + wrote S p.2 ≤ max_payload

pub record Placed (ar : TypeName → ℕ) (n : ℕ) (S : State) (ps : List Pair) : Type 0 where
  pub sound : Sound ar S
  pub fits : All (PairFits S) ps
  pub so_many : length ps ≡ n

pub fits_on : {ar : TypeName → ℕ} {S S' : State} → Sound ar S → Sound ar S' → Grown S S' → (ps : List Pair) → All (PairFits S) ps → All (PairFits S') ps
fits_on s s' g ps h = All_map (λ p i. record {
  l_in = omega (arith, i.l_in, g.g_nodes);
  r_in = omega (arith, i.r_in, g.g_nodes);
  short = omega (arith, i.short, wrote_kept s s' g p.1 i.l_in, wrote_kept s s' g p.2 i.r_in);
}) ps h

pub many_put : {ar : TypeName → ℕ} {vars : ℕ} (ps : List (TypingCase × Tree × Tree)) → FineMany ar vars ps → many_size ps ≤ max_payload → {S : State} → Sound ar S → vars ≤ taken S → Post ar S (Placed ar (length ps)) (build_many ps S)
unfolding build_many many_size
many_put [] f l {S} s h = p_ok {b = []} (grown_refl S) (record { sound = s; fits = tt; so_many = refl })
many_put ((c, t1, t2) ∷ ps) f l s h =
    bind_post _ (place_put f.0.0 s h) (λ S1 x g1 p.
    bind_post _ (place_put f.0.1 p.sound (omega (arith, h, g1.g_vars))) (λ S2 y g2 q.
    bind_post _ (many_put ps f.1 (omega arith) q.sound (omega (arith, h, g1.g_vars, g2.g_vars))) (λ S3 qs g3 r.
    p_ok {b = (c, x, y) ∷ qs} (grown_refl S3) (record {
      sound = r.sound;
      fits = (
        record {
          l_in = omega (arith, p.t_in, g2.g_nodes, g3.g_nodes);
          r_in = omega (arith, q.t_in, g3.g_nodes);
          short = omega (arith, l, p.written, q.written, wrote_kept p.sound q.sound g2 x p.t_in, wrote_kept q.sound r.sound g3 x (omega (arith, p.t_in, g2.g_nodes)), wrote_kept q.sound r.sound g3 y q.t_in);
        },
        r.fits,
      );
      so_many = ap suc r.so_many;
    }))))

-- a pair whose join succeeds answers 0, with the state that the join leaves
pub pair_fits : {ar : TypeName → ℕ} {S : State} → Sound ar S → (p : Pair) → PairFits S p → (S' : State) (t : ℕ) → join_impl max_depth S p.0 p.1 p.2 ≡ ok (S', t)
    → pair_answer S p ≡ record { number = 0; payload = write S' t; state = S' }
unfolding pair_answer answer behind ◌>>=◌
pair_fits {S = S} s (c, l, r) i S' t e =
    rw e (fitting max_payload [] S S' (write S' t) (omega (arith, length_wrote S' t, i.short, post_is (join_impl_slim max_depth S c l r s i.l_in i.r_in) e)))

-- ---- the bytes of the answers

with_length : (most : ℕ) (s : State) (n : ℕ) (p : Bytes) (s' : State) → length (answer_with most s n p s').payload ≤ most
unfolding answer_with refusal
with_length most s n p s' = go (leb (length p) most) refl
  where
    go : (b : Bool) → leb (length p) most ≡ b → length (if b then record { number = n; payload = p; state = s' } else refusal s answer_too_long).payload ≤ most
    go true e = leb→le (length p) most (test e)
    go false e = omega arith

pub answer_length : (most : ℕ) (tail : Bytes) (s : State) (m : Result (State × Bytes)) → length (answer_within most tail s m).payload ≤ most
unfolding answer_within refusal
answer_length most tail s (ok (s', p)) = with_length most s 0 (behind tail p) s'
answer_length most tail s (err s' e) = with_length most s (number_of_error e) (behind tail (write_error s' e)) (put_back s s')
answer_length most tail s (refused x) = omega arith

pair_length : (s : State) (p : Pair) → length (pair_bytes (pair_answer s p)) ≤ 4099
unfolding pair_bytes pair_answer answer u16 max_payload
pair_length s (c, l, r) = omega (arith, answer_length max_payload [] s (join_impl max_depth s c l r >>= λ (x : State × ℕ). ok (x.0, write x.0 x.1)))

pub pair_short : (s : State) (p : Pair) → length (pair_answer s p).payload ≤ 4096
unfolding pair_answer answer max_payload
pair_short s (c, l, r) = answer_length max_payload [] s (join_impl max_depth s c l r >>= λ (x : State × ℕ). ok (x.0, write x.0 x.1))

pairs_length : (ps : List Pair) (s : State) → length (run_pairs s ps).1 ≤ 4099 * length ps
unfolding run_pairs
pairs_length [] s = omega arith
pairs_length (p ∷ ps) s =
    omega (arith, pair_length s p, pairs_length ps (pair_answer s p).state, length-append (pair_bytes (pair_answer s p)) (run_pairs (pair_answer s p).state ps).1)

pub many_count : (ps : List (TypingCase × Tree × Tree)) (s : State) → Ends true (λ x. ⊥) (λ (a : State × List Pair). length a.1 ≡ length ps) (build_many ps s)
unfolding build_many
many_count [] s = e_ok refl
many_count ((c, t1, t2) ∷ ps) s =
    bind _ (place_run ⊥ s true t1 (λ h. absurd h) s (λ h. absurd h)) (λ x j. bind _ (place_run ⊥ s true t2 (λ h. absurd h) x.0 (λ h. absurd h)) (λ y k. bind _ (many_count ps y.0) (λ z e. e_ok (ap suc e))))

pub ends_is : {A : Type 0} {z : Bool} {E : State → Type 0} {P : A → Type 0} {m : Result A} {a : A} → Ends z E P m → m ≡ ok a → P a
ends_is {A} {z} {E} {P} {a = a} p e = go (subst (λ (y : Result A). Ends z E P y) e p)
  where
    go : Ends z E P (ok a) → P a
    go (e_ok q) = q

run_length : (s : State) (ps : List (TypingCase × Tree × Tree)) → length ps ≤ 15 → Ends true (λ x. ⊥) (λ (a : State × Bytes). length a.1 ≤ max_many) (run s (MJ ps))
unfolding run max_many
run_length s ps h = bind _ (many_count ps s) (λ x e. e_ok (omega (arith, h, e, pairs_length x.1 x.0)))

pub few_read : (s : State) (bytes : Bytes) (ps : List (TypingCase × Tree × Tree)) (rest : Bytes) → read_record s bytes ≡ got (MJ ps) rest → (1 ≤ length ps) × (length ps ≤ 15)
few_read s bytes ps rest e = go (subst (λ (y : Read Record). ReadWell ⊥ s (length bytes - 1) y) e (well_read ⊥ s bytes (λ h. absurd h)))
  where
    go : {n : ℕ} → ReadWell ⊥ s n (got (MJ ps) rest) → (1 ≤ length ps) × (length ps ≤ 15)
    go (given f i l) = (f.0.1, f.0.2)

-- the payload of an MJ always fits: it is never 14
pub many_fits : (s : State) (bytes : Bytes) (ps : List (TypingCase × Tree × Tree)) (rest : Bytes) → read_record s bytes ≡ got (MJ ps) rest → (s' : State) (payload : Bytes) → run s (MJ ps) ≡ ok (s', payload) → length payload ≤ max_many
many_fits s bytes ps rest e s' payload d = ends_is (run_length s ps (few_read s bytes ps rest e).1) d

placed : (s : State) (ps : List (TypingCase × Tree × Tree)) (s' : State) (qs : List Pair) → build_many ps s ≡ ok (s', qs) → run s (MJ ps) ≡ ok (run_pairs s' qs)
unfolding run ◌>>=◌
placed s ps s' qs e = rw e refl

pub many_replies : (s : State) (ps : List (TypingCase × Tree × Tree)) → length ps ≤ 15 → (s' : State) (qs : List Pair) → build_many ps s ≡ ok (s', qs)
    → reply s (MJ ps) ≡ record { number = 0; payload = (run_pairs s' qs).1; state = (run_pairs s' qs).0 }
unfolding reply apart most_of tail_of behind
many_replies s ps h s' qs e = let d : run s (MJ ps) ≡ ok (run_pairs s' qs) = placed s ps s' qs e in
    ap (λ (m : Result (State × Bytes)). answer_within max_many [] s m) d ∙ fitting max_many [] s (run_pairs s' qs).0 (run_pairs s' qs).1 (ends_is (run_length s ps h) d)

pub many_refused : (s : State) (ps : List (TypingCase × Tree × Tree)) (x : Refusal) → build_many ps s ≡ refused x → reply s (MJ ps) ≡ refusal s x
unfolding reply run ◌>>=◌ answer_within
many_refused s ps x e = rw e refl

-- ---- the pairs in turn

-- the state that the first i pairs leave, and their bytes
unfoldable pub state_before : State → List Pair → ℕ → State
state_before s ps zero = s
state_before s [] (suc i) = s
state_before s (p ∷ ps) (suc i) = state_before (pair_answer s p).state ps i

unfoldable pub bytes_before : State → List Pair → ℕ → Bytes
bytes_before s ps zero = []
bytes_before s [] (suc i) = []
bytes_before s (p ∷ ps) (suc i) = pair_bytes (pair_answer s p) ++ bytes_before (pair_answer s p).state ps i

abbrev pub pair_at : State → List Pair → ℕ → Answer
pair_at s ps i = pair_answer (state_before s ps i) (get_or ps i (Join, 0, 0))

-- pair i: its number, length and payload stand behind the bytes of the pairs before it
pub record Turn (s : State) (ps : List Pair) (payload : Bytes) (i : ℕ) : Type 0 where
  pub behind : Bytes
  pub stands : payload ≡ bytes_before s ps i ++ (((pair_at s ps i).number ∷ u16 (length (pair_at s ps i).payload) ++ (pair_at s ps i).payload) ++ behind)
  pub told_then : bytes_before s ps (suc i) ≡ bytes_before s ps i ++ ((pair_at s ps i).number ∷ u16 (length (pair_at s ps i).payload) ++ (pair_at s ps i).payload)
  pub left_then : state_before s ps (suc i) ≡ (pair_at s ps i).state

pub record InTurn (s : State) (ps : List Pair) (a : Answer) : Type 0 where
  pub number_0 : a.number ≡ 0
  pub none_told : bytes_before s ps 0 ≡ []
  pub starts : state_before s ps 0 ≡ s
  pub turn : (i : ℕ) → i < length ps → Turn s ps a.payload i
  pub all_told : a.payload ≡ bytes_before s ps (length ps)
  pub ends : a.state ≡ state_before s ps (length ps)

turns : (ps : List Pair) (s : State) (i : ℕ) → i < length ps → Turn s ps (run_pairs s ps).1 i
unfolding run_pairs state_before bytes_before pair_bytes
turns [] s i h = absurd (omega arith)
turns (p ∷ ps) s zero h = record { behind = (run_pairs (pair_answer s p).state ps).1; stands = refl; told_then = append-nil _; left_then = refl }
turns (p ∷ ps) s (suc i) h =
    let r = turns ps (pair_answer s p).state i (omega arith) in
    let front : Bytes = pair_bytes (pair_answer s p) in
    record {
      behind = r.behind;
      stands = ap (λ (l : Bytes). front ++ l) r.stands ∙ sym (append_assoc front (bytes_before (pair_answer s p).state ps i) _);
      told_then = ap (λ (l : Bytes). front ++ l) r.told_then ∙ sym (append_assoc front (bytes_before (pair_answer s p).state ps i) _);
      left_then = r.left_then;
    }

all_bytes : (ps : List Pair) (s : State) → (run_pairs s ps).1 ≡ bytes_before s ps (length ps)
unfolding run_pairs bytes_before
all_bytes [] s = refl
all_bytes (p ∷ ps) s = ap (λ (l : Bytes). pair_bytes (pair_answer s p) ++ l) (all_bytes ps (pair_answer s p).state)

last_state : (ps : List Pair) (s : State) → (run_pairs s ps).0 ≡ state_before s ps (length ps)
unfolding run_pairs state_before
last_state [] s = refl
last_state (p ∷ ps) s = last_state ps (pair_answer s p).state

in_turn : (ps : List Pair) (s : State) → InTurn s ps (record { number = 0; payload = (run_pairs s ps).1; state = (run_pairs s ps).0 })
unfolding state_before bytes_before
in_turn ps s = record { number_0 = refl; none_told = refl; starts = refl; turn = λ i h. turns ps s i h; all_told = all_bytes ps s; ends = last_state ps s }

-- an MJ that is read and placed
pub pairs_in_turn : (s : State) (bytes : Bytes) (buffer : ℕ) (ps : List (TypingCase × Tree × Tree)) → usable s bytes buffer ≡ true → read_record s bytes ≡ got (MJ ps) []
    → (s' : State) (qs : List Pair) → build_many ps s ≡ ok (s', qs) → InTurn s' qs (step s bytes buffer)
unfolding step lent
pairs_in_turn s bytes buffer ps u e s' qs d = rw (u, step) (rw e (rw (many_replies s ps (few_read s bytes ps [] e).1 s' qs d) (in_turn qs s')))

-- ---- one pair, beside its JN or SU

-- placing takes no variable and binds none
sp_vars : (s : State) (l : ℕ) (x : TypeValue) (vs : List Cell) → s.vars ≡ vs → Ends true (λ y. ⊥) (λ (a : State × ℕ). a.0.vars ≡ vs) (sp s l x)
unfolding with_node
sp_vars s l x vs e = with_room (Ends true (λ y. ⊥) (λ (a : State × ℕ). a.0.vars ≡ vs)) (sp_room s l x) (λ h. e_ok e) (e_refused seven)

mutual
  unfolding build build_all

  pub place_vars : (t : Tree) (s : State) (vs : List Cell) → s.vars ≡ vs → Ends true (λ y. ⊥) (λ (a : State × ℕ). a.0.vars ≡ vs) (build t s)
  place_vars (unit_tree loc) s vs e = sp_vars s loc UnitType vs e
  place_vars (anything_tree loc) s vs e = sp_vars s loc Anything vs e
  place_vars (error_tree loc) s vs e = sp_vars s loc UnresolvedError vs e
  place_vars (ref_tree loc mut t) s vs e = bind _ (place_vars t s vs e) (λ x d. sp_vars x.0 loc (Ref mut x.1) vs d)
  place_vars (param_tree loc id a) s vs e = sp_vars s loc (Param id a) vs e
  place_vars (apply_tree loc k n ts) s vs e = bind _ (place_all_vars ts s vs e) (λ x d. sp_vars x.0 loc (Apply k n x.1) vs d)
  place_vars (var_tree loc v) s vs e = sp_vars s loc (Var v) vs e

  place_all_vars : (ts : Trees) (s : State) (vs : List Cell) → s.vars ≡ vs → Ends true (λ y. ⊥) (λ (a : State × List ℕ). a.0.vars ≡ vs) (build_all ts s)
  place_all_vars no_trees s vs e = e_ok e
  place_all_vars (◌then◌ t ts) s vs e = bind _ (place_vars t s vs e) (λ x d. bind _ (place_all_vars ts x.0 vs d) (λ y c. e_ok c))

-- an answer from s, and the one from the placed state
record Beside (placed : State) (a b : Answer) : Type 0 where
  same_number : b.number ≡ a.number
  same_payload : b.payload ≡ a.payload
  same_state : a.number ≤ 4 → b.state ≡ a.state
  kept : 5 ≤ a.number → b.state ≡ placed

refusal_beside : (s s2 : State) (x : Refusal) → Beside s2 (refusal s x) (refusal s2 x)
unfolding refusal
refusal_beside s s2 x = record { same_number = refl; same_payload = refl; same_state = λ l. absurd (omega (arith, l, refusal_number_5 x)); kept = λ l. refl }

with_beside : (s s2 : State) (n : ℕ) (p : Bytes) (s1 s1' : State) → n ≤ 4 → s1' ≡ s1 → Beside s2 (answer_with max_payload s n p s1) (answer_with max_payload s2 n p s1')
unfolding answer_with
with_beside s s2 n p s1 s1' h e = go (leb (length p) max_payload)
  where
    go : (b : Bool) → Beside s2 (if b then record { number = n; payload = p; state = s1 } else refusal s answer_too_long) (if b then record { number = n; payload = p; state = s1' } else refusal s2 answer_too_long)
    go true = record { same_number = refl; same_payload = refl; same_state = λ l. e; kept = λ l. absurd (omega (arith, h, l)) }
    go false = refusal_beside s s2 answer_too_long

back_same : (s s2 s' : State) → s2.vars ≡ s.vars → put_back s2 s' ≡ put_back s s'
unfolding put_back
back_same s s2 s' e = rw e refl

answer_beside : (s s2 : State) → s2.vars ≡ s.vars → (m : Result (State × Bytes)) → Beside s2 (answer_within max_payload [] s m) (answer_within max_payload [] s2 m)
unfolding answer_within behind
answer_beside s s2 e (ok (s', p)) = with_beside s s2 0 p s' s' (omega arith) refl
answer_beside s s2 e (err s' x) = with_beside s s2 (number_of_error x) (write_error s' x) (put_back s s') (put_back s2 s') (error_number x) (back_same s s2 s' e)
answer_beside s s2 e (refused x) = refusal_beside s s2 x

two_placed : (s : State) (c : TypingCase) (t1 t2 : Tree) (s1 : State) (l : ℕ) (s2 : State) (r : ℕ) → build t1 s ≡ ok (s1, l) → build t2 s1 ≡ ok (s2, r)
    → reply s (two_of c t1 t2) ≡ answer_within max_payload [] s (join_impl max_depth s2 c l r >>= λ (x : State × ℕ). ok (x.0, write x.0 x.1))
unfolding reply apart most_of tail_of run two_types join subtype ◌>>=◌
two_placed s Join t1 t2 s1 l s2 r e d = rw e (rw d refl)
two_placed s Subtype t1 t2 s1 l s2 r e d = rw e (rw d refl)

one_placed : (s : State) (c : TypingCase) (t1 t2 : Tree) (s1 : State) (l : ℕ) (s2 : State) (r : ℕ) → build t1 s ≡ ok (s1, l) → build t2 s1 ≡ ok (s2, r) → build_many ((c, t1, t2) ∷ []) s ≡ ok (s2, (c, l, r) ∷ [])
unfolding build_many ◌>>=◌
one_placed s c t1 t2 s1 l s2 r e d = rw e (rw d refl)

one_told : (s : State) (p : Pair) → (run_pairs s (p ∷ [])).1 ≡ (pair_answer s p).number ∷ u16 (length (pair_answer s p).payload) ++ (pair_answer s p).payload
unfolding run_pairs pair_bytes
one_told s p = append-nil (pair_bytes (pair_answer s p))

one_left : (s : State) (p : Pair) → (run_pairs s (p ∷ [])).0 ≡ (pair_answer s p).state
unfolding run_pairs
one_left s p = refl

pair_beside : (s s2 : State) (c : TypingCase) (l r : ℕ) → s2.vars ≡ s.vars → Beside s2 (answer_within max_payload [] s (join_impl max_depth s2 c l r >>= λ (x : State × ℕ). ok (x.0, write x.0 x.1))) (pair_answer s2 (c, l, r))
unfolding pair_answer answer
pair_beside s s2 c l r e = answer_beside s s2 e (join_impl max_depth s2 c l r >>= λ (x : State × ℕ). ok (x.0, write x.0 x.1))

u16_0 : u16 0 ≡ 0 ∷ 0 ∷ []
unfolding u16
u16_0 = refl

abbrev pub AsSingle : Answer → Answer → Type 0
AsSingle single many = (many.payload ≡ single.number ∷ u16 (length single.payload) ++ single.payload) × (many.state ≡ single.state)

-- an MJ of one pair, beside the JN or SU of its types. From 5 on: the types alone stay placed
pub record AsRecord (placed : State) (single many : Answer) : Type 0 where
  pub number_0 : many.number ≡ 0
  pub answered : single.number ≤ 4 → AsSingle single many
  pub refused : 5 ≤ single.number → (many.payload ≡ single.number ∷ 0 ∷ 0 ∷ []) × (many.state ≡ placed)

pub pair_is_record : (s : State) (c : TypingCase) (t1 t2 : Tree) (s1 : State) (l : ℕ) (s2 : State) (r : ℕ) → build t1 s ≡ ok (s1, l) → build t2 s1 ≡ ok (s2, r) → AsRecord s2 (reply s (two_of c t1 t2)) (reply s (MJ ((c, t1, t2) ∷ [])))
pair_is_record s c t1 t2 s1 l s2 r e d =
    let vars : s2.vars ≡ s.vars = ends_is (place_vars t2 s1 s.vars (ends_is (place_vars t1 s s.vars refl) e)) d in
    let p : Pair = (c, l, r) in
    let a : Answer = reply s (two_of c t1 t2) in
    let b : Beside s2 a (pair_answer s2 p) = subst (λ (x : Answer). Beside s2 x (pair_answer s2 p)) (sym (two_placed s c t1 t2 s1 l s2 r e d)) (pair_beside s s2 c l r vars) in
    let m = many_replies s ((c, t1, t2) ∷ []) (omega arith) s2 (p ∷ []) (one_placed s c t1 t2 s1 l s2 r e d) in
    let told : (reply s (MJ ((c, t1, t2) ∷ []))).payload ≡ a.number ∷ u16 (length a.payload) ++ a.payload =
    ap (λ (x : Answer). x.payload) m ∙ one_told s2 p ∙ ap (λ (n : ℕ). n ∷ u16 (length (pair_answer s2 p).payload) ++ (pair_answer s2 p).payload) b.same_number ∙ ap (λ (q : Bytes). a.number ∷ u16 (length q) ++ q) b.same_payload in
    let left : (reply s (MJ ((c, t1, t2) ∷ []))).state ≡ (pair_answer s2 p).state = ap (λ (x : Answer). x.state) m ∙ one_left s2 p in
    record {
      number_0 = ap (λ (x : Answer). x.number) m;
      answered = λ h. (told, left ∙ b.same_state h);
      refused = λ h. (told ∙ ap (λ (q : Bytes). a.number ∷ u16 (length q) ++ q) (reply_untouched s (two_of c t1 t2) h).1 ∙ ap (λ (q : Bytes). a.number ∷ q ++ []) u16_0, left ∙ b.kept h);
    }

not_placed_1 : (s : State) (c : TypingCase) (t1 t2 : Tree) (x : Refusal) → build t1 s ≡ refused x → reply s (two_of c t1 t2) ≡ refusal s x
unfolding reply apart most_of tail_of run two_types join subtype ◌>>=◌ answer_within
not_placed_1 s Join t1 t2 x e = rw e refl
not_placed_1 s Subtype t1 t2 x e = rw e refl

not_placed_2 : (s : State) (c : TypingCase) (t1 t2 : Tree) (s1 : State) (l : ℕ) (x : Refusal) → build t1 s ≡ ok (s1, l) → build t2 s1 ≡ refused x → reply s (two_of c t1 t2) ≡ refusal s x
unfolding reply apart most_of tail_of run two_types join subtype ◌>>=◌ answer_within
not_placed_2 s Join t1 t2 s1 l x e d = rw e (rw d refl)
not_placed_2 s Subtype t1 t2 s1 l x e d = rw e (rw d refl)

not_few : (s : State) (x : Refusal) (a : Answer) → a ≡ refusal s x → a.number ≤ 4 → ⊥
unfolding refusal
not_few s x a e h = absurd (omega (arith, h, refusal_number_5 x, ap (λ (y : Answer). y.number) e))

-- .. where JN or SU answers 0 to 4 the types were placed
pub pair_answers_as_record : (s : State) (c : TypingCase) (t1 t2 : Tree) → (reply s (two_of c t1 t2)).number ≤ 4 → AsSingle (reply s (two_of c t1 t2)) (reply s (MJ ((c, t1, t2) ∷ [])))
pair_answers_as_record s c t1 t2 h = first (build t1 s) refl (no_place t1 s)
  where
    second : (s1 : State) (l : ℕ) → build t1 s ≡ ok (s1, l) → (m : Result (State × ℕ)) → build t2 s1 ≡ m → NoErr m → AsSingle (reply s (two_of c t1 t2)) (reply s (MJ ((c, t1, t2) ∷ [])))
    second s1 l e (ok (s2, r)) d n = (pair_is_record s c t1 t2 s1 l s2 r e d).answered h
    second s1 l e (err _ _) d n = elim n [ ]
    second s1 l e (refused x) d n = absurd (not_few s x _ (not_placed_2 s c t1 t2 s1 l x e d) h)

    first : (m : Result (State × ℕ)) → build t1 s ≡ m → NoErr m → AsSingle (reply s (two_of c t1 t2)) (reply s (MJ ((c, t1, t2) ∷ [])))
    first (ok (s1, l)) e n = second s1 l e (build t2 s1) refl (no_place t2 s1)
    first (err _ _) e n = elim n [ ]
    first (refused x) e n = absurd (not_few s x _ (not_placed_1 s c t1 t2 x e) h)

-- ---- a pair whose join succeeds answers 0, and leaves the state that the join leaves

-- the pair of an event, whose join a leaves s' with t
abbrev pub Answers0 : Event → JoinCall → State → ℕ → Type 0
Answers0 e a s' t = (pair_answer a.before (a.case, a.lhs, a.rhs) ≡ record { number = 0; payload = write s' t; state = s' }) × (e.state ≡ s')

pair_calls : {ar : TypeName → ℕ} (qs : List Pair) (S : State) → Sound ar S → All (PairFits S) qs → (e : Event) → Memᴰ e (pair_events S qs) → (a : JoinCall) → Memᴰ a e.calls → (s' : State) (t : ℕ) → outcome a ≡ ok (s', t) → Answers0 e a s' t
unfolding pair_events
pair_calls [] S h f e m a n s' t d = absurd (mathlib.Core.List.Memᴰ.not-nil m)
pair_calls (p ∷ qs) S h f e m a n s' t d =
    let r = pair_raised h p (f.0.l_in, f.0.r_in) in
    elim (mathlib.Core.List.Memᴰ.cases_cons m) [
      | inl i ↦ this i
      | inr i ↦ pair_calls qs (pair_answer S p).state r.went.sound (fits_on h r.went.sound r.grown qs f.1) e i a n s' t d
    ]
  where
    this : e ≡ record { state = (pair_answer S p).state; calls = record { before = S; case = p.0; lhs = p.1; rhs = p.2 } ∷ []; moves = stays } → Answers0 e a s' t
    this i =
        let b : a ≡ record { before = S; case = p.0; lhs = p.1; rhs = p.2 } = mathlib.Core.List.Memᴰ.eq_of_singleton (subst (λ (y : Event). Memᴰ a y.calls) i n) in
        let k : join_impl max_depth S p.0 p.1 p.2 ≡ ok (s', t) = subst (λ (x : JoinCall). outcome x ≡ ok (s', t)) b d in
        let q = pair_fits h p f.0 s' t k in
        (subst (λ (x : JoinCall). pair_answer x.before (x.case, x.lhs, x.rhs) ≡ record { number = 0; payload = write s' t; state = s' }) (sym b) q, ap (λ (y : Event). y.state) i ∙ ap (λ (x : Answer). x.state) q)

pub pair_answers_0 : (s : State) (bytes : Bytes) (buffer : ℕ) (ps : List (TypingCase × Tree × Tree)) → read_record s bytes ≡ got (MJ ps) [] → (e : Event) → Memᴰ e (events s bytes buffer)
    → (a : JoinCall) → Memᴰ a e.calls → (s' : State) (t : ℕ) → outcome a ≡ ok (s', t) → Answers0 e a s' t
unfolding events lent_events events_by apart many_events weight
pair_answers_0 s bytes buffer ps e x mem a call s' t d = go (usable s bytes buffer) refl mem
  where
    fine : {n : ℕ} → ReadWell ⊥ s n (got (MJ ps) []) → FineMany (arity s) (taken s) ps
    fine (given f i l) = f.0.0

    light : Weighs max_payload (got (MJ ps) []) → many_size ps ≤ max_payload
    light (weighs w) = w

    by : (m : Result (State × List Pair)) → Post (arity s) s (Placed (arity s) (length ps)) m → Memᴰ x (elim m as (λ y. List Event) [ ok (s', pairs) ↦ pair_events s' pairs | err s' e ↦ nothing_done s | refused x ↦ nothing_done s ]) → Answers0 x a s' t
    by (ok (S, qs)) (p_ok g p) m = pair_calls qs S p.sound p.fits x m a call s' t d
    by (err S y) p m = absurd (no_calls s a m call)
    by (refused y) p m = absurd (no_calls s a m call)

    go : (b : Bool) → usable s bytes buffer ≡ b → Memᴰ x (elim b as (λ x. List Event) [ true ↦ lent_events s (read_record s bytes) | false ↦ nothing_done s ]) → Answers0 x a s' t
    go true u m =
        let m' : Memᴰ x (lent_events s (got (MJ ps) [])) = subst (λ (y : Read Record). Memᴰ x (lent_events s y)) e m in
        by (build_many ps s) (many_put ps (fine (subst (λ (y : Read Record). ReadWell ⊥ s (length bytes - 1) y) e (well_read ⊥ s bytes (λ h. absurd h))))
        (light (subst (λ (y : Read Record). Weighs max_payload y) e (record_weighs s bytes))) (facts s (sound_of s bytes buffer u)) (omega arith)) m'
    go false u m = absurd (no_calls s a m call)
