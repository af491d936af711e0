-- R-6 of states: where no reference stands directly over a reference, every record leaves such a state, whatever it answers. Assumes nothing.
-- How it goes: a record's types are placed as they are read, and reading hands back no doubled reference. Joins keep what is asked (DoubledSingle.antt), and
-- instantiate makes of a node that is no reference another such. UF, RD and TS give back the state that they got: RD and TS may build a doubled one and show it.
use mathlib.Core.Path.{◌≡◌, refl, ap}
use mathlib.Core.Logic.{◌≢◌}
use mathlib.Core.Bool.{Bool, true, false, ◌&&◌, ◌||◌}
use mathlib.Core.List.{List, [], ◌∷◌, ◌++◌}
use Rattle.std.specs.Prelude.{Option, None, Some}
use Prim.Native.Nat.{ℕ, zero, suc, ◌<◌}
use native.Mathlib.Decide.{dec_lt}
use native.Mathlib.Omega.{arith}
use lib.ListN.{length, get_or-eq_default}
use lib.Dec.{leb}
use Rattle.std.specs.Prelude.{if◌then◌else◌}
use Rattle.definition.specs.Types.{TypeName, Shape, UnitType, Ref, Param, Apply, Var, Anything, UnresolvedError, TypeValue, Places, Node, State, fresh, max_depth}
use Rattle.definition.specs.Types.{Constraint, answer_too_long, unsound_state, Result, ok, err, refused, ◌>>=◌}
use Rattle.definition.specs.Store.{nowhere, count, node, type_at, loc_of, with_args, with_constraints, add_constraint, with_structs, declare, map_types, with_need}
use Rattle.definition.specs.Subst.{parts, set_num_var}
use Rattle.definition.specs.Join.{TypingCase, join, subtype}
use Rattle.definition.specs.TParams.{subst_tparams}
use Rattle.definition.specs.Instantiate.{make_tvar, make_tparams, join_args, instantiate_type_args, instantiate_apply, instantiate_value, instantiate_down, instantiate}
use Rattle.definition.specs.Constraints.{undecided, default_num_var, default_num_vars, solve_constraints, default_integer, default_of}
use Rattle.definition.specs.Write.{Bytes, u32}
use Rattle.definition.specs.Reader.{Read, got, not_read}
use Rattle.definition.specs.Trees.{Tree, unit_tree, anything_tree, error_tree, ref_tree, param_tree, apply_tree, var_tree, Trees, no_trees, ◌then◌}
use Rattle.definition.specs.Record.{Record, SD, FV, NV, SN, JN, SU, UF, RD, IN, TS, NC, BC, SC, SV, RM, CN, XP, read_record, NL, MJ, UL, JL, KP}
use Rattle.definition.specs.Needs.{Needs, needs}
use Rattle.definition.specs.Build.{build, build_all, build_many}
use Rattle.definition.specs.Sound.{sound}
use Rattle.definition.specs.Step.{constrain, two_types, tell, pair_answer, run_pairs, run, Answer, refusal, put_back, max_payload, answer_with, answer_within, answer, apart, most_of, reply, least_buffer, usable, lent, step, streamed, step_stream, behind, tail_of, unfolded}
use Rattle.definition.specs.Demand.{after}
use Rattle.definition.proofs.Spelling.{imm, param, u8, var, text, FV as FV', JN as JN', RD as RD'}
use Rattle.definition.proofs.AnswersJoin.{after as records_after}
use Rattle.theorems.proofs.Laws.{num_marks, vars_nodes}
use Rattle.theorems.proofs.DemandTracks.{never}
use Rattle.theorems.proofs.SoundRoom.{with_room, constraint_room, struct_room}
use Rattle.theorems.proofs.Soundness.{sound_is}
use Rattle.theorems.proofs.TotalWalk.{seven, nine, eleven, sixteen, Ends, e_ok, e_err, e_refused, bind, RunOr, place_run, pairs_run, ready_tvars_run, make_run, subst_run, expand_run}
use Rattle.theorems.proofs.SolveInTurn.{solve_cases}
use Rattle.theorems.proofs.Doubled.{is_ref as is_ref_tree, doubled, doubled_in, NoDoubled, NoDoubledIn, doubled_record, NoDoubledRecord, or_l, or_r, doubled_many}
use Rattle.definition.specs.Trees.{arity}
use Rattle.definition.specs.Store.{taken}
use Rattle.definition.specs.Keep.{cleared}
use Rattle.theorems.proofs.SoundRead.{FineRecord, read_fine}
use Rattle.theorems.proofs.TotalFinite.{all_at}
use Rattle.theorems.proofs.KeepReach.{TakenAll}
use Rattle.theorems.proofs.KeepSound.{cleared_sound}
use Rattle.theorems.proofs.KeepDepth.{keep_none_doubled}
use Rattle.theorems.proofs.DoubledReads.{record_none_doubled}
use Rattle.theorems.proofs.DoubledSingle.{is_ref, Plain, Single, under, plain_no_ref, Left, left_same, left_refl, Goes, goes_from, goes_map, goes, Unasked, IsPlain, sp_goes, tvar_goes, Joined, join_goes}
use mathlib.Core.List.Memᴰ

-- ---- the claim

-- no reference node stands directly over a reference node. A variable under a reference may be bound to a reference
abbrev pub NoDoubledState : State → Type 0
NoDoubledState s = (n : ℕ) → n < count s → (m : Bool) (t : ℕ) → type_at s n ≡ Ref m t → (m' : Bool) (t' : ℕ) → type_at s t ≢ Ref m' t'

-- ---- the types of a record

mutual
  unfolding build build_all doubled is_ref_tree

  place_goes : (t : Tree) → NoDoubled t → (s : State) → Single s → Goes s (λ a. is_ref_tree t ≡ false → IsPlain a) (build t s)
  place_goes (unit_tree loc) d s i = sp_goes s i loc UnitType tt
  place_goes (anything_tree loc) d s i = sp_goes s i loc Anything tt
  place_goes (error_tree loc) d s i = sp_goes s i loc UnresolvedError tt
  place_goes (ref_tree loc m t) d s i = goes _ (place_goes t (or_r (is_ref_tree t) (doubled t) d) s i) (λ x l p. sp_goes x.0 l.single loc (Ref m x.1) (p (or_l (is_ref_tree t) (doubled t) d)))
  place_goes (param_tree loc id a) d s i = sp_goes s i loc (Param id a) tt
  place_goes (apply_tree loc k n ts) d s i = goes _ (place_all_goes ts d s i) (λ x l p. sp_goes x.0 l.single loc (Apply k n x.1) tt)
  place_goes (var_tree loc v) d s i = sp_goes s i loc (Var v) tt

  place_all_goes : (ts : Trees) → NoDoubledIn ts → (s : State) → Single s → Goes s Unasked (build_all ts s)
  place_all_goes no_trees d s i = e_ok (left_refl i, tt)
  place_all_goes (◌then◌ t ts) d s i =
      goes _ (place_goes t (or_l (doubled t) (doubled_in ts) d) s i) (λ x l1 p. goes _ (place_all_goes ts (or_r (doubled t) (doubled_in ts) d) x.0 l1.single) (λ y l2 q. e_ok (left_refl l2.single, tt)))

-- ---- instantiate

left_list : {s : State} → Single s → (cs : List Constraint) → Left s (with_constraints s cs)
unfolding with_constraints
left_list i cs = left_same (record { same_nodes = refl; same_args = refl }) i

add_goes : (s : State) → Single s → (c : Constraint) → Ends true Single (Left s) (add_constraint s c)
add_goes s i c = with_room (Ends true Single (Left s)) (constraint_room s c) (λ e. e_ok (left_list i _)) (e_refused seven)

added : {B : Type 0} (s : State) → Single s → (c : Constraint) {Q : State × B → Type 0} (f : State → Result (State × B)) → ((s' : State) → Left s s' → Goes s' Q (f s')) → Goes s Q (add_constraint s c >>= f)
added s i c f k = bind f (add_goes s i c) (λ s' l. goes_from l (k s' l))

make_tvar_goes : (s : State) → Single s → (loc : ℕ) → Goes s IsPlain (make_tvar s loc)
unfolding make_tvar
make_tvar_goes s i loc = goes _ (tvar_goes s i) (λ x l p. goes_map (λ a l p. p refl) (sp_goes x.0 l.single loc (Var x.1) tt))

tparams_goes : (s : State) → Single s → (loc : ℕ) (n : TypeName) (tys cs : List ℕ) → Goes s Unasked (make_tparams s loc n tys cs)
unfolding make_tparams
tparams_goes s i loc n [] cs = e_ok (left_refl i, tt)
tparams_goes s i loc n (ty ∷ tys) [] = e_ok (left_refl i, tt)
tparams_goes s i loc n (ty ∷ tys) (c ∷ cs) =
    goes _ (make_tvar_goes s i (loc_of s ty)) (λ x l1 p.
    added x.0 l1.single _ _ (λ s2 l2.
    added s2 l2.single _ _ (λ s3 l3.
    goes _ (tparams_goes s3 l3.single loc n tys cs) (λ y l4 q. e_ok (left_refl l4.single, tt)))))

join_args_goes : (s : State) → Single s → (vs ts : List ℕ) → Goes s Unasked (join_args s vs ts)
unfolding join_args join
join_args_goes s i [] ts = e_ok (left_refl i, tt)
join_args_goes s i (v ∷ vs) [] = e_ok (left_refl i, tt)
join_args_goes s i (v ∷ vs) (t ∷ ts) = goes _ (join_goes max_depth s i _ v t) (λ x l1 p. goes _ (join_args_goes x.0 l1.single vs ts) (λ y l2 q. e_ok (left_refl l2.single, tt)))

module _ (f : State → ℕ → Result (State × ℕ)) (h : (s : State) → Single s → (ty : ℕ) → Goes s (λ a. Plain s ty → IsPlain a) (f s ty)) where
  map_goes : (ts : List ℕ) (s : State) → Single s → Goes s Unasked (map_types f s ts)
  unfolding map_types
  map_goes [] s i = e_ok (left_refl i, tt)
  map_goes (t ∷ ts) s i = goes _ (h s i t) (λ x l1 p. goes _ (map_goes ts x.0 l1.single) (λ y l2 q. e_ok (left_refl l2.single, tt)))

  inst_value_goes : (s : State) → Single s → (ty loc : ℕ) (x : TypeValue) → type_at s ty ≡ x → Goes s (λ a. Plain s ty → IsPlain a) (instantiate_value f s ty loc x)
  unfolding instantiate_value instantiate_apply instantiate_type_args
  inst_value_goes s i ty loc UnitType e = e_ok (left_refl i, λ p. p)
  inst_value_goes s i ty loc UnresolvedError e = e_ok (left_refl i, λ p. p)
  inst_value_goes s i ty loc Anything e = goes_map (λ a l p q. p) (make_tvar_goes s i loc)
  inst_value_goes s i ty loc (Ref m t) e =
      added s i _ _ (λ s1 l1. goes _ (h s1 l1.single t) (λ x l2 p. goes_map (λ a l p q. plain_no_ref q m t e) (sp_goes x.0 l2.single loc (Ref m x.1) (p (l1.kept t (under i ty m t e))))))
  inst_value_goes s i ty loc (Apply k n tys) e =
      goes _ (goes _ (tparams_goes s i loc n tys _) (λ x l1 p1. goes _ (map_goes tys x.0 l1.single) (λ y l2 p2. join_args_goes y.0 l2.single x.1 y.1)))
      (λ x l p. goes_map (λ a l p q. p refl) (sp_goes x.0 l.single loc (Apply k n x.1) tt))
  inst_value_goes s i ty loc (Param id a) e = e_ok (left_refl i, λ p. p)
  inst_value_goes s i ty loc (Var v) e = e_refused eleven

inst_goes : (n : ℕ) (s : State) → Single s → (ty : ℕ) → Goes s (λ a. Plain s ty → IsPlain a) (instantiate_down n s ty)
unfolding instantiate_down
inst_goes zero s i ty = e_refused (nine refl)
inst_goes (suc n) s i ty = inst_value_goes (λ s t. instantiate_down n s t) (λ s i t. inst_goes n s i t) s i ty (loc_of s ty) (type_at s ty) refl

-- ---- constraints

default_goes : (s : State) → Single s → (v loc : ℕ) → Ends true Single Single (default_num_var s v loc)
unfolding default_num_var join default_of default_integer
default_goes s i v loc = go (undecided _) (
    bind _ (sp_goes s i loc (default_of s v) tt) (λ x p.
    bind _ (sp_goes x.0 p.0.single loc (Var v) tt) (λ y q.
    bind _ (join_goes max_depth y.0 q.0.single _ x.1 y.1) (λ z r. e_ok r.0.single))))
  where
    go : (c : Bool) {x : Result State} → Ends true Single Single x → Ends {A = State} true Single Single (elim c [ false ↦ ok s | true ↦ x ])
    go false p = e_ok i
    go true p = p

defaults_goes : (l : List (ℕ × ℕ)) (s : State) → Single s → Ends true Single Single (default_num_vars s l)
unfolding default_num_vars
defaults_goes [] s i = e_ok i
defaults_goes ((v, loc) ∷ l) s i = bind _ (default_goes s i v loc) (λ x j. defaults_goes l x j)

-- ---- records

-- what a record leaves, on 0 and where it fails
abbrev Leaves : {B : Type 0} → Result (State × B) → Type 0
Leaves m = Ends true Single (λ a. Single a.0) m

two_leaves : (f : State → ℕ → ℕ → Result (State × ℕ)) → ((s : State) → Single s → (l r : ℕ) → Goes s (Joined s l r) (f s l r)) → (s : State) → Single s → (t1 t2 : Tree) → doubled t1 || doubled t2 ≡ false → Leaves (two_types f s t1 t2)
unfolding two_types
two_leaves f h s i t1 t2 d =
    bind _ (place_goes t1 (or_l (doubled t1) (doubled t2) d) s i) (λ x p.
    bind _ (place_goes t2 (or_r (doubled t1) (doubled t2) d) x.0 p.0.single) (λ y q.
    bind _ (h y.0 q.0.single x.1 y.1) (λ z r. e_ok r.0.single)))

constrain_leaves : (s : State) → Single s → (t : Tree) → NoDoubled t → (make : ℕ → Constraint) → Leaves (constrain s t make)
unfolding constrain
constrain_leaves s i t d make = bind _ (place_goes t d s i) (λ x p. bind _ (add_goes x.0 p.0.single _) (λ y l. e_ok l.single))

declare_leaves : (s : State) → Single s → (a : ℕ) (ps : List ℕ) → Leaves (declare s a ps)
unfolding with_structs
declare_leaves s i a ps = with_room Leaves (struct_room s a ps) (λ e. e_ok (left_same (record { same_nodes = refl; same_args = refl }) i).single) (e_refused seven)

marked : {s : State} → Single s → (v loc : ℕ) → Single (set_num_var s v loc)
marked {s} i v loc = (left_same (num_marks s v loc).m_nodes i).single

needed : {s : State} → Single s → (v n : ℕ) → Single (with_need s v n)
unfolding with_need
needed {s} i v n = (left_same (vars_nodes s _) i).single

-- ---- the answer

module _ (s : State) (i : Single s) where
  with_single : (most n : ℕ) (p : Bytes) (s' : State) → Single s' → Single (answer_with most s n p s').state
  unfolding answer_with refusal
  with_single most n p s' i' = go (leb (length p) most)
    where
      go : (b : Bool) → Single (if b then record { number = n; payload = p; state = s' } else refusal s answer_too_long).state
      go true = i'
      go false = i

  answer_single : (most : ℕ) (tail : Bytes) (m : Result (State × Bytes)) → Leaves m → Single (answer_within most tail s m).state
  unfolding answer_within refusal put_back
  answer_single most tail (ok (s', p)) (e_ok i') = with_single most 0 (behind tail p) s' i'
  answer_single most tail (err s' e) (e_err i') = with_single most _ _ (put_back s s') (left_same (vars_nodes s' _) i').single
  answer_single most tail (refused x) l = i

-- ---- MJ

many_leaves : (ps : List (TypingCase × Tree × Tree)) → doubled_many ps ≡ false → (s : State) → Single s → Leaves (build_many ps s)
unfolding build_many doubled_many
many_leaves [] d s i = e_ok i
many_leaves ((c, t1, t2) ∷ ps) d s i =
    let both : doubled t1 || doubled t2 ≡ false = or_l (doubled t1 || doubled t2) (doubled_many ps) d in
    bind _ (place_goes t1 (or_l (doubled t1) (doubled t2) both) s i) (λ x p.
    bind _ (place_goes t2 (or_r (doubled t1) (doubled t2) both) x.0 p.0.single) (λ y q.
    bind _ (many_leaves ps (or_r (doubled t1 || doubled t2) (doubled_many ps) d) y.0 q.0.single) (λ z j. e_ok j)))

pair_single : (s : State) → Single s → (p : TypingCase × ℕ × ℕ) → Single (pair_answer s p).state
unfolding pair_answer answer
pair_single s i (c, l, r) = answer_single s i max_payload [] _ (bind _ (join_goes max_depth s i c l r) (λ x p. e_ok p.0.single))

pairs_single : (ps : List (TypingCase × ℕ × ℕ)) (s : State) → Single s → Single (run_pairs s ps).0
unfolding run_pairs
pairs_single [] s i = i
pairs_single (p ∷ ps) s i = pairs_single ps (pair_answer s p).state (pair_single s i p)

-- ---- what is asked of nodes, of those of the state alone

single_state : {s : State} → Single s → NoDoubledState s
single_state i n h m t e m' t' d = plain_no_ref (under i n m t e) m' t' d

state_single : (s : State) → sound s ≡ true → NoDoubledState s → Single s
unfolding node type_at with_args parts
state_single s h d = record { over = λ n m t e. over n m t e (dec_lt n (count s)) }
  where
    plain : (t : ℕ) → ((m : Bool) (t' : ℕ) → type_at s t ≢ Ref m t') → (x : Shape Places) → (node s t).value ≡ x → is_ref x ≡ false
    plain t f UnitType e = refl
    plain t f (Ref m t') e = absurd (f m t' (rw e refl))
    plain t f (Param id a) e = refl
    plain t f (Apply k n p) e = refl
    plain t f (Var v) e = refl
    plain t f Anything e = refl
    plain t f UnresolvedError e = refl

    over : (n : ℕ) (m : Bool) (t : ℕ) → (node s n).value ≡ Ref m t → Dec (n < count s) → Plain s t
    over n m t e (yes l) =
        let v : type_at s n ≡ Ref m t = rw e refl in
        let below : t < n = ((sound_is s).0 h).smaller_parts n t l (rw v (Memᴰ.head refl)) in
        record { plain_in = omega arith; no_ref = plain t (λ m' t' c. d n l m t v m' t' c) (node s t).value refl }
    over n m t e (no l) = never (let z : (node s n).value ≡ UnresolvedError = ap (λ (x : Node). x.value) (get_or-eq_default s.nodes nowhere {n = n} (omega arith)) in cc)

-- ---- record by record

module _ (s : State) (safe : sound s ≡ true) (i : Single s) where
  -- UF, RD and TS give back s: of what they build on the way nothing is asked
  unasked : {A : Type 0} → ⊥ → A
  unasked h = absurd h

  placed : (t : Tree) (s' : State) → RunOr ⊥ s true Single (build t s')
  placed t s' = place_run ⊥ s true t unasked s' unasked

  unfolded_leaves : (t : Tree) → Leaves (unfolded s t)
  unfolding unfolded
  unfolded_leaves t = bind _ (placed t s) (λ x j. e_ok i)

  tell_leaves : (n : Option Needs) → Leaves (tell s n)
  unfolding tell
  tell_leaves None = e_refused eleven
  tell_leaves (Some n) = e_ok i

  run_leaves : (r : Record) → NoDoubledRecord r → FineRecord (arity s) (taken s) r → Leaves (run s r)
  unfolding run join subtype subst_tparams instantiate solve_constraints doubled_record
  run_leaves (SD a ps) d f = bind _ (declare_leaves s i a ps) (λ x j. e_ok j)
  run_leaves (FV loc) d f = bind _ (tvar_goes s i) (λ x p. e_ok p.0.single)
  run_leaves (NV loc) d f = bind _ (tvar_goes s i) (λ x p. e_ok (marked p.0.single x.1 loc))
  run_leaves (NL loc bits) d f = bind _ (tvar_goes s i) (λ x p. e_ok (needed (marked p.0.single x.1 loc) x.1 bits))
  run_leaves (SN v loc) d f = e_ok (marked i v loc)
  run_leaves (JN t1 t2) d f = two_leaves _ (λ s i l r. join_goes max_depth s i _ l r) s i t1 t2 d
  run_leaves (SU t1 t2) d f = two_leaves _ (λ s i l r. join_goes max_depth s i _ l r) s i t1 t2 d
  run_leaves (UF t) d f = unfolded_leaves t
  run_leaves (UL t) d f = unfolded_leaves t
  run_leaves (JL t1 t2) d f = two_leaves _ (λ s i l r. join_goes max_depth s i _ l r) s i t1 t2 d
  run_leaves (RD t) d f = bind _ (placed t s) (λ x j. bind _ (ready_tvars_run ⊥ s true refl x.0 unasked x.1) (λ y k. e_ok i))
  run_leaves (TS ps t) d f =
      bind _ (pairs_run ⊥ s true ps unasked s unasked) (λ x j. bind _ (placed t x.0) (λ y k. bind _ (make_run ⊥ s true x.1) (λ subst p. bind _ (subst_run ⊥ s true refl _ subst y.0 unasked y.1) (λ z l. e_ok i))))
  run_leaves (IN t) d f = bind _ (place_goes t d s i) (λ x p. bind _ (inst_goes _ x.0 p.0.single x.1) (λ y q. e_ok q.0.single))
  run_leaves (NC loc kind t) d f = constrain_leaves s i t d _
  run_leaves (BC loc t) d f = constrain_leaves s i t d _
  run_leaves (SC loc t) d f = constrain_leaves s i t d _
  run_leaves (RM t) d f = tell_leaves (needs t)
  run_leaves (CN t) d f = bind _ (placed t s) (λ x j. bind _ (ready_tvars_run ⊥ s true refl x.0 unasked x.1) (λ y k. e_ok i))
  run_leaves (XP t) d f = bind _ (placed t s) (λ x j. bind _ (expand_run true refl _ x.0 x.1) (λ y k. e_ok i))
  run_leaves (KP listed) d f =
      let known : TakenAll s listed = λ v m. all_at (λ v. v < taken s) listed f v m in
      e_ok (state_single (cleared s listed) (cleared_sound s safe listed known) (keep_none_doubled s safe listed known (single_state i)))
  run_leaves (MJ ps) d f = bind _ (many_leaves ps d s i) (λ x j. e_ok (pairs_single x.1 x.0 j))
  run_leaves SV d f = bind _ (defaults_goes _ s i) (λ x j. solve_cases x (λ m. Leaves m) (λ failures. e_ok (left_list j []).single) (e_refused (nine refl)) (e_refused (sixteen refl)))

  reply_single : (r : Record) → NoDoubledRecord r × FineRecord (arity s) (taken s) r → Single (reply s r).state
  unfolding reply
  reply_single r d = answer_single s i (most_of (apart r)) (tail_of s (apart r)) (run s r) (run_leaves r d.0 d.1)

  abbrev NoneRead : Read Record → Type 0
  NoneRead x = (r : Record) (rest : Bytes) → x ≡ got r rest → NoDoubledRecord r × FineRecord (arity s) (taken s) r

  lent_single : (x : Read Record) → NoneRead x → Single (lent s x).state
  unfolding lent refusal
  lent_single (got r []) f = reply_single r (f r [] refl)
  lent_single (got r (b ∷ rest)) f = i
  lent_single (not_read x) f = i

  streamed_single : (bytes : Bytes) (x : Read Record) → NoneRead x → Single (streamed s bytes x).0.state
  unfolding streamed refusal
  streamed_single bytes (got r rest) f = reply_single r (f r rest refl)
  streamed_single bytes (not_read x) f = i

-- ---- the theorem

-- where a call is made, the state is sound
tested : {A : Type 0} (s : State) (bytes : Bytes) (buffer : ℕ) (P : A → Type 0) (x y : A) → (sound s ≡ true → P x) → P y → P (elim (usable s bytes buffer) as (λ b. A) [ true ↦ x | false ↦ y ])
unfolding usable
tested {A} s bytes buffer P x y f p = go (leb (least_buffer bytes) buffer) (sound s) f
  where
    go : (b c : Bool) → (c ≡ true → P x) → P (elim (b && c) as (λ b. A) [ true ↦ x | false ↦ y ])
    go true true g = g refl
    go true false g = p
    go false c g = p

-- whatever the bytes are, and also where the state is not sound: it is 15 then
pub none_arises : (s : State) (bytes : Bytes) (buffer : ℕ) → NoDoubledState s → NoDoubledState (step s bytes buffer).state
unfolding step refusal
none_arises s bytes buffer d =
    tested s bytes buffer (λ (a : Answer). NoDoubledState a.state) (lent s (read_record s bytes)) (refusal s unsound_state)
    (λ h. single_state (lent_single s h (state_single s h d) (read_record s bytes) (λ r rest e. (record_none_doubled s bytes r rest e, read_fine s bytes r rest e)))) d

-- .. and at the head of a stream
pub none_arises_streamed : (s : State) (bytes : Bytes) (buffer : ℕ) → NoDoubledState s → NoDoubledState (step_stream s bytes buffer).0.state
unfolding step_stream refusal
none_arises_streamed s bytes buffer d =
    tested s bytes buffer (λ (a : Answer × Bytes). NoDoubledState a.0.state) (streamed s bytes (read_record s bytes)) (refusal s unsound_state, bytes)
    (λ h. single_state (streamed_single s h (state_single s h d) bytes (read_record s bytes) (λ r rest e. (record_none_doubled s bytes r rest e, read_fine s bytes r rest e)))) d

-- so of any list of records
pub none_arises_after : (records : List (Bytes × ℕ)) (s : State) → NoDoubledState s → NoDoubledState (after s records)
unfolding after
none_arises_after [] s d = d
none_arises_after ((bytes, buffer) ∷ records) s d = none_arises_after records _ (none_arises s bytes buffer d)

-- from a fresh state none ever arises
pub none_in_runs : (records : List (Bytes × ℕ)) → NoDoubledState (after fresh records)
none_in_runs records = none_arises_after records fresh (λ n h m t e m' t' c. omega arith)

-- ---- the claim is not empty: a state may hold `&&()`. Nor can more be asked: RD and TS may answer a doubled reference

abbrev pub doubled_unit : State
doubled_unit = record { nodes = record { loc = 0; value = UnitType } ∷ record { loc = 0; value = Ref false 0 } ∷ record { loc = 0; value = Ref false 1 } ∷ []; args = []; vars = []; constraints = []; structs = [] }

pub some_hold_one : ¬ NoDoubledState doubled_unit
unfolding type_at node with_args
some_hold_one d = d 2 (omega arith) false 1 refl false 0 refl

abbrev reference : Bytes
reference = imm 2 (u8 3)

pub rd_answers_one : records_after (FV' 1 ∷ JN' (var 1 0) reference ∷ []) (RD' (imm 4 (var 5 0))) ≡ (0, imm 4 reference)
unfolding records_after
rd_answers_one = refl

pub ts_answers_one : records_after [] (text "TS" ++ (1 ∷ u32 7) ++ reference ++ imm 4 (param 5 7)) ≡ (0, imm 4 reference)
unfolding records_after
ts_answers_one = refl
