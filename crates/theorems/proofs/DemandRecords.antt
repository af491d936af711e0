-- Every record's run goes up, or leaves the state as it was, or ends in an error whose nodes are sound; KP's leaves what it keeps. Assumes nothing.
-- First the runs that give back the state as it was, then constraints, then record by record by the rules of Went and the main lemma.
use mathlib.Core.Path.{◌≡◌, refl, ◌∙◌}
use mathlib.Core.Bool.{Bool, true, false}
use mathlib.Core.List.{List, [], ◌∷◌, ◌++◌}
use Rattle.std.specs.Prelude.{Option, None, Some}
use Prim.Native.Nat.{ℕ, ◌<◌, ◌≤◌}
use native.Mathlib.Omega.{arith}
use lib.Dec.{leb}
use Rattle.definition.specs.Types.{TypeName, TypeValue, Constraint, State, TypingError, Refusal, Result, ok, err, refused, ◌>>=◌, Var, answer_too_long, max_depth}
use Rattle.definition.specs.Store.{count, taken, get, with_constraints, with_structs, sp, declare, num_loc, need_of, with_need, with_var, with_vars}
use Rattle.definition.specs.Join.{join, subtype, is_num_var, TypingCase}
use Rattle.std.specs.Prelude.{if◌then◌else◌}
use Rattle.definition.specs.TParams.{subst_tparams}
use Rattle.definition.specs.Constraints.{num_vars, solve_constraints}
use Rattle.definition.specs.Write.{Bytes, head, write_error}
use Rattle.definition.specs.Record.{NumericKind, Numeric, Bits, Ordered, Record, SD, FV, NV, SN, JN, SU, UF, RD, IN, TS, NC, BC, SC, SV, RM, CN, XP, NL, MJ, UL, JL, KP}
use Rattle.definition.specs.Trees.{Tree, arity}
use Rattle.definition.specs.Build.{build, build_many}
use Rattle.definition.specs.Needs.{Needs, needs}
use Rattle.definition.specs.Step.{numeric_constraint, constrain, two_types, tell, run, number_of_error, refusal, put_back, max_payload, answer_with, answer_within, answer, pair_answer, run_pairs, behind, unfolded, Apart, as_others, many, links_of_one, links_of_two, keeps, apart}
use Rattle.definition.specs.Keep.{reach, cleared, survivors, moved}
use Rattle.definition.specs.Demand.{stays}
use Rattle.theorems.proofs.TotalFinite.{all_at}
use Rattle.theorems.proofs.KeepReach.{TakenAll}
use Rattle.theorems.proofs.Laws.{SameNodes, num_marks, type_on, NeedsIn, value_same, need_set_num, literal_marks, literal_others}
use Rattle.theorems.proofs.DemandOrder.{Sound, Nodes, All, All_map}
use Rattle.theorems.proofs.DemandSteps.{quiet_same, quiet_marks, sound_marks, sound_chains, quiet_fresh}
use Rattle.theorems.proofs.LawsPost.{Grown, grown_refl, Post, p_ok, p_err, p_refused, post_map, bind_post, grown_trans}
use Rattle.theorems.proofs.SoundRoom.{with_room, sp_room, struct_room, tvar_room}
use Rattle.theorems.proofs.DemandCalls.{quiet_grown, next_tvar_post, new_var}
use lib.ListN.{length}
use lib.Dec.{leb}
use Rattle.theorems.proofs.DemandPutBack.{held_put_back, quiet_put_back, sound_put_back}
use Rattle.theorems.proofs.DemandMain.{join_impl_good}
use Rattle.theorems.proofs.SoundRead.{Fine, FineRecord, FineMany}
use Rattle.theorems.proofs.SolveInTurn.{solve_cases}
use Rattle.theorems.proofs.DemandWent.{Went, WentTo, went_refl, went_trans, went_of, went_quiet, bindS_post, quiet_list, sound_cleared, add_went, join_went, held_list}
use Rattle.theorems.proofs.TotalWalk.{Ends, e_ok, e_err, e_refused, RunOr, place_run, pairs_run, ready_tvars_run, subst_run, make_run, expand_run}
use Rattle.theorems.proofs.DemandRuns.{declared_on, place_went, instantiate_went, defaults_went, num_vars_below}
use Rattle.definition.specs.Subst.{set_num_var}
use Rattle.theorems.proofs.DemandTracks.{never}
use Rattle.theorems.proofs.MetSteps.{Keeps, Claim, is_held, is_bare, Claimed, keeps_claim, bare_num, held_same, held_var, held_num, held_literal}

-- what a record does to needs of its own: SN marks variables without a check, NL takes one that has a need
pub data Literals : Type 0 where
  marks takes neither : Literals

unfoldable pub literals : Record → Literals
literals (SD abilities params) = neither
literals (FV loc) = neither
literals (NV loc) = neither
literals (SN v loc) = marks
literals (NL loc bits) = takes
literals (JN t1 t2) = neither
literals (SU t1 t2) = neither
literals (UF t) = neither
literals (RD t) = neither
literals (IN t) = neither
literals (TS pairs t) = neither
literals (NC loc kind t) = neither
literals (BC loc t) = neither
literals (SC loc t) = neither
literals SV = neither
literals (RM t) = neither
literals (CN t) = neither
literals (XP t) = neither
literals (MJ pairs) = neither
literals (KP listed) = neither
literals (UL t) = neither
literals (JL t1 t2) = neither

pub data ByLiterals : Record → Literals → Type 0 where
  is_SN : {v loc : ℕ} → ByLiterals (SN v loc) marks
  is_NL : {loc bits : ℕ} → ByLiterals (NL loc bits) takes
  is_neither : {r : Record} → ByLiterals r neither

pub by_literals : (r : Record) → ByLiterals r (literals r)
unfolding literals
by_literals (SD abilities params) = is_neither
by_literals (FV loc) = is_neither
by_literals (NV loc) = is_neither
by_literals (SN v loc) = is_SN
by_literals (NL loc bits) = is_NL
by_literals (JN t1 t2) = is_neither
by_literals (SU t1 t2) = is_neither
by_literals (UF t) = is_neither
by_literals (RD t) = is_neither
by_literals (IN t) = is_neither
by_literals (TS pairs t) = is_neither
by_literals (NC loc kind t) = is_neither
by_literals (BC loc t) = is_neither
by_literals (SC loc t) = is_neither
by_literals SV = is_neither
by_literals (RM t) = is_neither
by_literals (CN t) = is_neither
by_literals (XP t) = is_neither
by_literals (MJ pairs) = is_neither
by_literals (UL t) = is_neither
by_literals (JL t1 t2) = is_neither
by_literals (KP listed) = is_neither

-- a claim is kept by every record but those of one mark
unfoldable pub spares : Claim → Literals → Bool
spares is_held r = elim r [ marks ↦ false | takes ↦ true | neither ↦ true ]
spares is_bare r = elim r [ marks ↦ true | takes ↦ false | neither ↦ true ]

-- the variables that a record lists, if it is one that clears
unfoldable pub clears : Apart → Option (List ℕ)
clears as_others = None
clears (many pairs) = None
clears (links_of_one t) = None
clears (links_of_two t1 t2) = None
clears (keeps listed) = Some listed

-- .. and where a variable goes then
unfoldable pub goes : State → Option (List ℕ) → ℕ → Option ℕ
goes s k = elim k [ None ↦ stays | Some listed ↦ moved s listed ]

pub data Leaves (r : Literals) (ar : TypeName → ℕ) (S : State) : Option (List ℕ) → Result (State × Bytes) → Type 0 where
  l_ok : {S' : State} {p : Bytes} → Went ar S S' → ((q : Claim) → spares q r ≡ true → Claimed q S → Claimed q S') → Leaves r ar S None (ok (S', p))
  l_cleared : {listed : List ℕ} {S' : State} {p : Bytes} → S' ≡ cleared S listed → p ≡ survivors (reach S listed).vars → TakenAll S listed → Leaves r ar S (Some listed) (ok (S', p))
  l_err : {S' : State} {e : TypingError} → Grown S S' → Nodes ar S' → Leaves r ar S None (err S' e)
  l_refused : {k : Option (List ℕ)} {x : Refusal} → Leaves r ar S k (refused x)

leaves_post : {r : Literals} {ar : TypeName → ℕ} {S : State} {m : Result (State × Bytes)} → Post ar S (λ S' p. Went ar S S') m → Leaves r ar S None m
leaves_post (p_ok g w) = l_ok w (λ q c. keeps_claim g.g_keeps q)
leaves_post (p_err g n) = l_err g n
leaves_post p_refused = l_refused

-- ---- runs that give back the state as it was

pub data NoErr {A : Type 0} : Result A → Type 0 where
  no_ok : {a : A} → NoErr (ok a)
  no_refused : {x : Refusal} → NoErr (refused x)

pub data Returns (S : State) : Result (State × Bytes) → Type 0 where
  r_ok : {p : Bytes} → Returns S (ok (S, p))
  r_refused : {x : Refusal} → Returns S (refused x)

leaves_returns : {r : Literals} {ar : TypeName → ℕ} {S : State} {m : Result (State × Bytes)} → Sound ar S → Returns S m → Leaves r ar S None m
leaves_returns s r_ok = l_ok (went_refl s) (λ q c h. h)
leaves_returns s r_refused = l_refused

pub no_bind : {A B : Type 0} {m : Result A} (f : A → Result B) → NoErr m → ((a : A) → NoErr (f a)) → NoErr (m >>= f)
unfolding ◌>>=◌
no_bind f (no_ok {a = a}) h = h a
no_bind f no_refused h = no_refused

-- a call that meets no error
returns_bind : {A : Type 0} {S : State} {z : Bool} {P : A → Type 0} {m : Result A} (f : A → Result (State × Bytes)) → Ends z (λ s. ⊥) P m → ((a : A) → Returns S (f a)) → Returns S (m >>= f)
unfolding ◌>>=◌
returns_bind f (e_ok {a = a} p) h = h a
returns_bind f (e_err p) h = absurd p
returns_bind f (e_refused t) h = r_refused

tells : (S : State) (n : Option Needs) → Returns S (tell S n)
unfolding tell
tells S None = r_refused
tells S (Some n) = r_ok

pub no_sp : (s : State) (l : ℕ) (sh : TypeValue) → NoErr (sp s l sh)
no_sp s l sh = with_room NoErr (sp_room s l sh) (λ e. no_ok) no_refused

no_ends : {A : Type 0} {z : Bool} {P : A → Type 0} {m : Result A} → Ends z (λ s. ⊥) P m → NoErr m
no_ends (e_ok p) = no_ok
no_ends (e_err p) = absurd p
no_ends (e_refused t) = no_refused

pub no_place : (t : Tree) (s : State) → NoErr (build t s)
no_place t s = no_ends (place_run ⊥ s true t (λ h. absurd h) s (λ h. absurd h))

-- ---- constraints

numeric_on : (kind : NumericKind) (loc ty : ℕ) → type_on (numeric_constraint kind loc ty) ≡ ty
unfolding numeric_constraint
numeric_on Numeric loc ty = refl
numeric_on Bits loc ty = refl
numeric_on Ordered loc ty = refl

-- ---- MJ's pairs: each is answered in a sound state above the one before it

-- the two types of a pair are of the state
abbrev pub PairIn : State → TypingCase × ℕ × ℕ → Type 0
PairIn S p = (p.1 < count S) × (p.2 < count S)

pub record Raised (ar : TypeName → ℕ) (S S' : State) : Type 0 where
  pub went : Went ar S S'
  pub grown : Grown S S'

back_structs : (S S' : State) → (put_back S S').structs ≡ S'.structs
unfolding put_back with_vars
back_structs S S' = refl

pub pairs_on : {S S' : State} → Grown S S' → (ps : List (TypingCase × ℕ × ℕ)) → All (PairIn S) ps → All (PairIn S') ps
pairs_on g ps h = All_map (λ p i. (omega (arith, i.0, g.g_nodes), omega (arith, i.1, g.g_nodes))) ps h

module _ {ar : TypeName → ℕ} where
  pub raised_refl : {S : State} → Sound ar S → Raised ar S S
  raised_refl {S} s = record { went = went_refl s; grown = grown_refl S }

  pub raised_trans : {S S' S'' : State} → Sound ar S → Raised ar S S' → Raised ar S' S'' → Raised ar S S''
  raised_trans s a b = record { went = went_trans s a.went b.went; grown = grown_trans a.grown b.grown }

  with_raised : (most : ℕ) {S : State} → Sound ar S → (n : ℕ) (p : Bytes) (S' : State) → Raised ar S S' → Raised ar S (answer_with most S n p S').state
  unfolding answer_with refusal
  with_raised most {S} s n p S' h = go (leb (length p) most)
    where
      go : (b : Bool) → Raised ar S (if b then record { number = n; payload = p; state = S' } else refusal S answer_too_long).state
      go true = h
      go false = raised_refl s

  answer_raised : {S : State} → Sound ar S → (m : Result (State × Bytes)) → Post ar S (λ S' p. Went ar S S') m → Raised ar S (answer S m).state
  unfolding answer answer_within behind refusal
  answer_raised s (ok (S', p)) (p_ok g w) = with_raised max_payload s 0 p S' (record { went = w; grown = g })
  answer_raised {S} s (err S' e) (p_err g n) =
      with_raised max_payload s (number_of_error e) (write_error S' e) (put_back S S') (record { went = went_quiet s (sound_put_back s g n) (quiet_put_back s g n); grown = quiet_grown (quiet_put_back s g n) (back_structs S S' ∙ g.g_structs) (held_put_back s g n) })
  answer_raised s (refused x) p_refused = raised_refl s

  pub pair_raised : {S : State} → Sound ar S → (p : TypingCase × ℕ × ℕ) → PairIn S p → Raised ar S (pair_answer S p).state
  unfolding pair_answer
  pair_raised {S} s (c, l, r) i = answer_raised s _ (bind_post _ (join_impl_good max_depth S c l r s i.0 i.1) (λ S1 t g j. p_ok (grown_refl S1) (record { sound = j.sound; above = j.above })))

  pub pairs_raised : (ps : List (TypingCase × ℕ × ℕ)) {S : State} → Sound ar S → All (PairIn S) ps → Raised ar S (run_pairs S ps).0
  unfolding run_pairs
  pairs_raised [] s i = raised_refl s
  pairs_raised (p ∷ ps) s i = let a = pair_raised s p i.0 in raised_trans s a (pairs_raised ps a.went.sound (pairs_on a.grown ps i.1))

pub no_many : (ps : List (TypingCase × Tree × Tree)) (s : State) → NoErr (build_many ps s)
unfolding build_many
no_many [] s = no_ok
no_many ((c, t1, t2) ∷ ps) s = no_bind _ (no_place t1 s) (λ x. no_bind _ (no_place t2 x.0) (λ y. no_bind _ (no_many ps y.0) (λ z. no_ok)))

-- placed
pub record PlacedPairs (ar : TypeName → ℕ) (S S' : State) (ps : List (TypingCase × ℕ × ℕ)) : Type 0 where
  pub went : Went ar S S'
  pub pairs_in : All (PairIn S') ps

pub many_went : {ar : TypeName → ℕ} {vars : ℕ} (ps : List (TypingCase × Tree × Tree)) → FineMany ar vars ps → {S : State} → Sound ar S → vars ≤ taken S → Post ar S (PlacedPairs ar S) (build_many ps S)
unfolding build_many
many_went [] f {S} s h = p_ok (grown_refl S) (record { went = went_refl s; pairs_in = tt })
many_went ((c, t1, t2) ∷ ps) f s h =
    bind_post _ (place_went f.0.0 s h) (λ S1 l g1 w1.
    bind_post _ (place_went f.0.1 w1.sound (omega (arith, h, g1.g_vars))) (λ S2 r g2 w2.
    bind_post _ (many_went ps f.1 w2.sound (omega (arith, h, g1.g_vars, g2.g_vars))) (λ S3 qs g3 w3.
    p_ok {b = (c, l, r) ∷ qs} (grown_refl S3) (record {
      went = went_trans s (went_of w1) (went_trans w1.sound (went_of w2) w3.went);
      pairs_in = ((omega (arith, w1.t_in, g2.g_nodes, g3.g_nodes), omega (arith, w2.t_in, g3.g_nodes)), w3.pairs_in);
    }))))

-- ---- record by record

module _ (S : State) (s : Sound (arity S) S) where
  abbrev ar : TypeName → ℕ
  ar = arity S

  two_leaves : (f : State → ℕ → ℕ → Result (State × ℕ)) → ((S' : State) (l r : ℕ) → Sound ar S' → l < count S' → r < count S' → Post ar S' (WentTo ar S') (f S' l r))
      → (t1 t2 : Tree) → Fine ar (taken S) t1 → Fine ar (taken S) t2 → Leaves neither ar S None (two_types f S t1 t2)
  unfolding two_types
  two_leaves f h t1 t2 f1 f2 = leaves_post (
      bind_post _ (place_went f1 s (omega arith)) (λ S1 l g1 w1.
      bind_post _ (place_went f2 w1.sound (omega (arith, w1.above.more_vars))) (λ S2 r g2 w2.
      bind_post _ (h S2 l r w2.sound (omega (arith, w1.t_in, w2.above.more_nodes)) w2.t_in) (λ S3 t g3 w3.
      p_ok (grown_refl S3) (went_trans s (went_of w1) (went_trans w1.sound (went_of w2) (went_of w3)))))))

  subtype_went : (S' : State) (l r : ℕ) → Sound ar S' → l < count S' → r < count S' → Post ar S' (WentTo ar S') (subtype S' l r)
  unfolding subtype
  subtype_went S' l r s' i j = post_map (λ S'' t g k. record { sound = k.sound; above = k.above; t_in = k.t_in }) (join_impl_good _ S' _ l r s' i j)

  constrain_leaves : (t : Tree) (make : ℕ → Constraint) → ((ty : ℕ) → type_on (make ty) ≡ ty) → Fine ar (taken S) t → Leaves neither ar S None (constrain S t make)
  unfolding constrain
  constrain_leaves t make on f = leaves_post (
      bind_post _ (place_went f s (omega arith)) (λ S1 ty g1 w1.
      bindS_post _ (add_went w1.sound _ (rw (on ty) w1.t_in)) (λ S2 g2 w2. p_ok (grown_refl S2) (went_trans s (went_of w1) w2))))

  declare_leaves : (a : ℕ) (ps : List ℕ) (f : ℕ → Bytes) → Leaves neither ar S None (declare S a ps >>= λ (x : State × ℕ). ok (x.0, f x.1))
  unfolding ◌>>=◌ with_structs get num_loc need_of is_num_var NeedsIn
  declare_leaves a ps f = with_room (λ m. Leaves neither ar S None (m >>= λ (x : State × ℕ). ok (x.0, f x.1))) (struct_room S a ps)
      (λ e. l_ok (went_quiet s (sound_chains s same (omega arith) (λ v. refl) (record { on = s.constraints_on.on }) (λ n. n)) (quiet_same s same (omega arith) (λ v. refl) (λ v h. h) (λ v h. refl))) (λ q c. keeps_claim kept q)) l_refused
    where
      S' : State
      S' = with_structs S (S.structs ++ (record { abilities = a; params = ps } ∷ []))

      same : SameNodes S S'
      same = record { same_nodes = refl; same_args = refl }

      kept : Keeps S S'
      kept = held_same S S' (λ v t e. value_same same t) (λ v. refl) (λ v. refl) (λ v. refl)

  solve_leaves : Leaves neither ar S None (solve_constraints S)
  unfolding solve_constraints with_constraints
  solve_leaves = leaves_post (bindS_post _ (defaults_went (num_vars 0 S.vars) s (λ n. refl) (num_vars_below 0 S.vars (taken S) (omega arith))) (λ S1 g1 w1.
      let q = quiet_list w1.sound [] in
      solve_cases S1 (Post ar S1 (λ S2 p. Went ar S S2)) (λ failures. p_ok (quiet_grown q refl (held_list w1.sound [])) (went_trans s w1 (went_quiet w1.sound (sound_cleared w1.sound) q))) p_refused p_refused))

  placed : (t : Tree) (S' : State) → RunOr ⊥ S true (λ s. ⊥) (build t S')
  placed t S' = place_run ⊥ S true t (λ h. absurd h) S' (λ h. absurd h)

  unfolded_leaves : (t : Tree) → Leaves neither ar S None (unfolded S t)
  unfolding unfolded
  unfolded_leaves t = leaves_returns s (returns_bind _ (placed t S) (λ a. r_ok))

  literal_kept : (loc bits : ℕ) → leb bits 256 ≡ true → (q : Claim) → spares q takes ≡ true → Claimed q S → Claimed q (with_need (set_num_var (with_var S) (taken S) loc) (taken S) bits)
  unfolding Claimed spares
  literal_kept loc bits f is_held c h = held_literal (with_var S) (taken S) loc bits (new_var s).free (new_var s).no_need f ((held_var s).held h)
  literal_kept loc bits f is_bare c h = never (cc)

  mark_kept : (v loc : ℕ) (q : Claim) → spares q marks ≡ true → Claimed q S → Claimed q (set_num_var S v loc)
  unfolding Claimed spares
  mark_kept v loc is_held c h = never (cc)
  mark_kept v loc is_bare c h = bare_num S v loc h

  pub run_leaves : (r : Record) → FineRecord ar (taken S) r → Leaves (literals r) ar S (clears (apart r)) (run S r)
  unfolding run subst_tparams literals apart clears ◌>>=◌
  run_leaves (SD a ps) f = declare_leaves a ps _
  run_leaves (FV loc) f = leaves_post (bind_post _ (next_tvar_post s) (λ S1 v g w. p_ok (grown_refl S1) (went_quiet s w.sound w.quiet)))
  run_leaves (NV loc) f = leaves_post (bind_post _ (next_tvar_post s) (λ S1 v g w.
      let m = num_marks S1 v loc in
      let q = quiet_marks w.sound m (λ x h. need_set_num S1 v loc x) in
      p_ok (quiet_grown q m.m_structs (held_num S1 v loc w.free)) (went_trans s (went_quiet s w.sound w.quiet) (went_quiet w.sound (sound_marks w.sound m) q))))
  run_leaves (NL loc bits) f = with_room (λ m. Leaves takes ar S None (m >>= λ (x : State × ℕ). ok (with_need (set_num_var x.0 x.1 loc) x.1 bits, head loc (Var x.1)))) (tvar_room S) (λ e.
      let w = new_var s in
      let m = literal_marks (with_var S) (taken S) loc bits f in
      l_ok (went_quiet s (sound_marks w.sound m) (quiet_fresh w.sound w.quiet m (λ x h. literal_others (with_var S) (taken S) loc bits x (λ d. omega arith))))
      (literal_kept loc bits f)) l_refused
  run_leaves (SN v loc) f = let m = num_marks S v loc in l_ok (went_quiet s (sound_marks s m) (quiet_marks s m (λ x h. need_set_num S v loc x))) (mark_kept v loc)
  run_leaves (JN t1 t2) f = two_leaves join (λ S' l r s' i j. join_went s' l r i j) t1 t2 f.0 f.1
  run_leaves (SU t1 t2) f = two_leaves subtype subtype_went t1 t2 f.0 f.1
  run_leaves (UF t) f = unfolded_leaves t
  run_leaves (UL t) f = unfolded_leaves t
  run_leaves (JL t1 t2) f = two_leaves join (λ S' l r s' i j. join_went s' l r i j) t1 t2 f.0 f.1
  run_leaves (RD t) f = leaves_returns s (returns_bind _ (placed t S) (λ a. returns_bind _ (ready_tvars_run ⊥ S true refl a.0 (λ h. absurd h) a.1) (λ b. r_ok)))
  run_leaves (IN t) f = leaves_post (
      bind_post _ (place_went f s (omega arith)) (λ S1 ty g1 w1.
      bind_post _ (instantiate_went S1 ty w1.sound (declared_on {ar = ar} {S = S} (λ n. refl) g1) w1.t_in) (λ S2 t g2 w2. p_ok (grown_refl S2) (went_trans s (went_of w1) (went_of w2)))))
  run_leaves (TS ps t) f = leaves_returns s (
      returns_bind _ (pairs_run ⊥ S true ps (λ h. absurd h) S (λ h. absurd h)) (λ a. returns_bind _ (placed t a.0) (λ b. returns_bind _ (make_run ⊥ S true a.1) (λ c. returns_bind _ (subst_run ⊥ S true refl _ c b.0 (λ h. absurd h) b.1) (λ d. r_ok)))))
  run_leaves (NC loc kind t) f = constrain_leaves t _ (numeric_on kind loc) f
  run_leaves (BC loc t) f = constrain_leaves t _ (λ ty. refl) f
  run_leaves (SC loc t) f = constrain_leaves t _ (λ ty. refl) f
  run_leaves SV f = solve_leaves
  run_leaves (RM t) f = leaves_returns s (tells S (needs t))
  run_leaves (CN t) f = leaves_returns s (returns_bind _ (placed t S) (λ a. returns_bind _ (ready_tvars_run ⊥ S true refl a.0 (λ h. absurd h) a.1) (λ b. r_ok)))
  run_leaves (XP t) f = leaves_returns s (returns_bind _ (placed t S) (λ a. returns_bind _ (expand_run true refl _ a.0 a.1) (λ b. r_ok)))
  run_leaves (MJ ps) f = leaves_post (bind_post _ (many_went ps f.0 s (omega arith)) (λ S1 qs g w.
      let a = pairs_raised qs w.went.sound w.pairs_in in p_ok a.grown (went_trans s w.went a.went)))
  run_leaves (KP listed) f = l_cleared refl refl (λ v m. all_at (λ v. v < taken S) listed f v m)
