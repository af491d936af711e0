-- Soundness kept: from a sound state every record, whatever bytes it is, leaves a sound state. So a list of records does, and a job never meets 15. Assumes nothing.
-- From the test to the ranges, through the run by Walk and Records, and from there back to the test. Then the answer, streams, and jobs.
use mathlib.Core.Path.{◌≡◌, refl, sym, ap, ◌∙◌}
use mathlib.Core.Logic.{◌≢◌}
use mathlib.Core.Bool.{Bool, true, false, ◌&&◌}
use mathlib.Core.List.{List, [], ◌∷◌, append-nil, Memᴰ}
use Prim.Native.Nat.{ℕ, zero, suc, ◌+◌, ◌≤◌, ◌<◌}
use native.Mathlib.Omega.{arith}
use lib.ListN.{length, get_or, length-append, get_or-append}
use lib.Dec.{leb, eqb, eqb_refl, ltb→lt}
use Rattle.std.specs.Prelude.{if◌then◌else◌}
use Rattle.definition.specs.Types.{TypeName, Multiple, Builtin, ModuleType, Shape, UnitType, Ref, Param, Apply, Var, Anything, UnresolvedError, Places, Node, unbound, State, fresh, max_nodes, max_args, max_vars, max_constraints, max_structs}
use Rattle.definition.specs.Types.{Constraint, AbilityConstraint, NumericConstraint, BitsConstraint, OrderedConstraint, BaseTypeConstraint, SingleTypeConstraint, Struct}
use Rattle.definition.specs.Types.{Refusal, answer_too_long, Result, ok, err, refused}
use Rattle.definition.specs.Store.{nowhere, count, taken, node, type_at, with_args, args_at, num_loc, all_of, need_of}
use Rattle.definition.specs.Subst.{parts}
use Rattle.definition.specs.Trees.{mark_fits, arity, is_set, is_mark, is_name}
use Rattle.definition.specs.Instantiate.{struct_tparams}
use Rattle.definition.specs.Write.{Bytes, IsBytes}
use Rattle.definition.specs.Reader.{Read, got, not_read}
use Rattle.definition.specs.Record.{Record, read_record}
use Rattle.definition.specs.Sound.{all_at, counts_fit, parts_smaller, fields_allowed, no_binding_anything, chains_end, is_u32, places_fit, shape_allowed, node_allowed, at_node, constraint_allowed, binding_allowed, cell_allowed, sound, need_allowed}
use Rattle.definition.specs.Step.{run, Answer, number_of_error, number_of_refusal, refusal, put_back, answer_with, max_buffer, usable, lent, step, streamed, step_stream, answer_within, apart, most_of, reply, max_many, least_buffer, job_buffer, behind, tail_of}
use Rattle.definition.specs.Demand.{after}
use Rattle.definition.specs.Job.{Entry, ends_job, job_from, job_log}
use Rattle.theorems.proofs.Laws.{PlacesIn, type_on}
use Rattle.theorems.proofs.DemandOrder.{All, Sound}
use Rattle.theorems.proofs.TotalFinite.{all_at as each}
use Rattle.theorems.proofs.SoundFacts.{and_l, and_r, test, length_args, cell, facts, need_in}
use Rattle.theorems.proofs.Soundness.{untest, and, lt_test, le_test, not_anything, numeric_u32, sound_is, marked_need, unmarked_need}
use Rattle.theorems.proofs.DemandPutBack.{sound_put_back}
use Rattle.theorems.proofs.SoundRanges.{ShapeIn, NodeIn, CellIn, ConstraintIn, StructIn, Ranges, node_in, cell_in, need_cell, put_back_ranges}
use Rattle.theorems.proofs.SoundRead.{ReadTime, five, six, eighteen, ReadWell, given, not_given, well_read, FineRecord, RecordIn}
use Rattle.theorems.proofs.SoundRefusals.{error_number, step_cases, stream_cases}
use Rattle.theorems.proofs.DemandRecords.{Leaves, l_ok, l_cleared, l_err, l_refused, run_leaves, Literals, literals}
use Rattle.theorems.proofs.KeepSound.{cleared_sound}
use Rattle.std.specs.Prelude.{Option}
use Rattle.theorems.proofs.TotalWalk.{RunTime, seven, eight, nine, ten, eleven, twelve, thirteen, sixteen, seventeen, e_ok, e_err, e_refused, Run, run_walk}

-- ---- from the test to the ranges

module _ {A : Type 0} (P : A → Type 0) where
  all_each : (d : A) (l : List A) → ((i : ℕ) → i < length l → P (get_or l i d)) → All P l
  all_each d [] f = tt
  all_each d (x ∷ l) f = (f 0 (omega arith), all_each d l (λ i h. f (suc i) (omega arith)))

  all_members : (l : List A) → ((a : A) → Memᴰ a l → P a) → All P l
  all_members [] f = tt
  all_members (x ∷ l) f = (f x (Memᴰ.head refl), all_members l (λ a m. f a (Memᴰ.tail m)))

shape_ranges : (s : State) (x : Shape Places) → shape_allowed s x ≡ true → ShapeIn s x
unfolding shape_allowed
shape_ranges s UnitType e = tt
shape_ranges s (Ref m t) e = tt
shape_ranges s (Param id a) e = e
shape_ranges s (Apply k n p) e = and_l (is_mark k && is_name s n && mark_fits k n) (places_fit s n p) e
shape_ranges s (Var v) e = tt
shape_ranges s Anything e = tt
shape_ranges s UnresolvedError e = tt

node_ranges : (s : State) (n : Node) → node_allowed s n ≡ true → NodeIn s n
unfolding node_allowed
node_ranges s n e = record { loc_in = and_l (is_u32 n.loc) _ e; shape_in = shape_ranges s n.value (and_r (is_u32 n.loc) _ e) }

constraint_ranges : (s : State) (c : Constraint) → constraint_allowed s c ≡ true → ConstraintIn c
unfolding constraint_allowed at_node
constraint_ranges s (AbilityConstraint loc ty a) e = (and_l (is_u32 loc) _ (and_l (at_node s loc ty) (is_set a) e), and_r (at_node s loc ty) (is_set a) e)
constraint_ranges s (NumericConstraint loc ty) e = and_l (is_u32 loc) _ e
constraint_ranges s (BitsConstraint loc ty) e = and_l (is_u32 loc) _ e
constraint_ranges s (OrderedConstraint loc ty) e = and_l (is_u32 loc) _ e
constraint_ranges s (BaseTypeConstraint loc ty) e = and_l (is_u32 loc) _ e
constraint_ranges s (SingleTypeConstraint loc ty) e = and_l (is_u32 loc) _ e

pub ranges_of : (s : State) → sound s ≡ true → Ranges s s
unfolding node cell_allowed num_loc need_of
ranges_of s h = let w = (sound_is s).0 h in record {
  few_nodes = w.few_nodes;
  few_args = w.few_args;
  few_vars = w.few_vars;
  few_constraints = w.few_constraints;
  few_structs = w.few_structs;
  extra = [];
  declared = sym (append-nil s.structs);
  nodes_in = all_each (NodeIn s) nowhere s.nodes (λ t i. node_ranges s (node s t) (w.node_fields t i));
  cells_in = all_each CellIn unbound s.vars (λ v i. record { mark_in = and_r (binding_allowed s (get_or s.vars v unbound).binding) _ (and_l _ (need_allowed (get_or s.vars v unbound).numeric (get_or s.vars v unbound).need) (cell s h v i)); need_in = need_in s h v });
  constraints_in = all_members ConstraintIn s.constraints (λ c m. constraint_ranges s c (w.constraint_fields c m));
  structs_in = all_members StructIn s.structs (λ d m. record { struct_in = w.struct_fields d m });
}

-- ---- from the ranges to the test

module _ {s s' : State} (w : Sound (arity s) s') (r : Ranges s s') where
  more_structs : length s.structs ≤ length s'.structs
  more_structs = omega (arith, ap length r.declared, length-append s.structs r.extra)

  known : (n : TypeName) → is_name s n ≡ true → is_name s' n ≡ true
  unfolding is_name
  known (Multiple n) h = h
  known (Builtin b) h = h
  known (ModuleType n) h = lt_test n (length s'.structs) (omega (arith, more_structs, ltb→lt n (length s.structs) (test h)))

  same_arity : (n : TypeName) → is_name s n ≡ true → arity s' n ≡ arity s n
  unfolding is_name arity struct_tparams
  same_arity (Multiple n) h = refl
  same_arity (Builtin b) h = refl
  same_arity (ModuleType n) h =
      let none : Struct = record { abilities = 0; params = [] } in
      ap (λ (d : Struct). length d.params) (ap (λ (ds : List Struct). get_or ds n none) r.declared ∙ get_or-append s.structs r.extra none n (ltb→lt n (length s.structs) (test h)))

  same_value : (t : ℕ) (x : Shape Places) → (node s' t).value ≡ x → type_at s' t ≡ with_args s' x
  unfolding type_at
  same_value t x e = ap (λ y. with_args s' y) e

  shape_back : (t : ℕ) → t < count s' → (x : Shape Places) → (node s' t).value ≡ x → ShapeIn s x → PlacesIn s' x → shape_allowed s' x ≡ true
  unfolding shape_allowed places_fit with_args
  shape_back t i UnitType e h p = refl
  shape_back t i (Ref m u) e h p = refl
  shape_back t i (Param id a) e h p = h
  shape_back t i (Apply k n q) e h p =
      let front = and_l (is_mark k && is_name s n) (mark_fits k n) h in
      let name : is_name s n ≡ true = and_r (is_mark k) (is_name s n) front in
      let many : q.many ≡ arity s' n = sym (length_args s' q p) ∙ w.arity t k n (args_at s' q) i (same_value t (Apply k n q) e) ∙ sym (same_arity n name) in
      and (and (and (and_l (is_mark k) (is_name s n) front) (known n name)) (and_r (is_mark k && is_name s n) (mark_fits k n) h))
      (and {a = eqb q.many (arity s' n)} (rw many (untest (eqb_refl (arity s' n)))) (le_test (q.first + q.many) (length s'.args) p))
  shape_back t i (Var v) e h p = lt_test v (taken s') (w.var_in t v i (same_value t (Var v) e))
  shape_back t i Anything e h p = refl
  shape_back t i UnresolvedError e h p = refl

  node_back : (t : ℕ) → t < count s' → node_allowed s' (node s' t) ≡ true
  unfolding node_allowed
  node_back t i = and (node_in r t).loc_in (shape_back t i (node s' t).value refl (node_in r t).shape_in (w.places_in t i))

  constraint_back : (c : Constraint) → ConstraintIn c → type_on c < count s' → constraint_allowed s' c ≡ true
  unfolding constraint_allowed at_node
  constraint_back (AbilityConstraint loc ty a) h l = and (and h.0 (lt_test ty (count s') l)) h.1
  constraint_back (NumericConstraint loc ty) h l = and h (lt_test ty (count s') l)
  constraint_back (BitsConstraint loc ty) h l = and h (lt_test ty (count s') l)
  constraint_back (OrderedConstraint loc ty) h l = and h (lt_test ty (count s') l)
  constraint_back (BaseTypeConstraint loc ty) h l = and h (lt_test ty (count s') l)
  constraint_back (SingleTypeConstraint loc ty) h l = and h (lt_test ty (count s') l)

  still_sound : sound s' ≡ true
  still_sound = (sound_is s').1 (record {
    few_nodes = r.few_nodes;
    few_args = r.few_args;
    few_vars = r.few_vars;
    few_constraints = r.few_constraints;
    few_structs = r.few_structs;
    smaller_parts = λ t p i m. each (λ q. q < t) (parts (type_at s' t)) (w.parts_below t i) p m;
    node_fields = node_back;
    binding_fields = w.bind_in;
    numeric_fields = λ v loc e. numeric_u32 (num_loc s' v) loc e (cell_in r v);
    need_fields = λ v loc e. marked_need (num_loc s' v) (need_of s' v) loc e (need_cell r v);
    no_need_fields = λ v e. unmarked_need (num_loc s' v) (need_of s' v) e (need_cell r v);
    constraint_fields = λ c m. constraint_back c (each ConstraintIn s'.constraints r.constraints_in c m) (w.constraints_on.on c m);
    struct_fields = λ d m. (each StructIn s'.structs r.structs_in d m).struct_in;
    bindings_not_anything = λ v t e. not_anything (type_at s' t) (w.bind_known v t e);
    ending_chains = w.chains;
  })

-- ---- the answer

-- an answer that leaves a sound state, and is no 15
record Good (a : Answer) : Type 0 where
  left : sound a.state ≡ true
  no_15 : a.number ≢ 15

with_good : (most : ℕ) (s : State) → sound s ≡ true → (n : ℕ) → n ≢ 15 → (p : Bytes) (s' : State) → sound s' ≡ true → Good (answer_with most s n p s')
unfolding answer_with refusal number_of_refusal
with_good most s h n l p s' h' = go (leb (length p) most)
  where
    go : (b : Bool) → Good (if b then record { number = n; payload = p; state = s' } else refusal s answer_too_long)
    go true = record { left = h'; no_15 = l }
    go false = record { left = h; no_15 = λ d. absurd (omega (arith, d)) }

run_time_number : {z : Bool} {x : Refusal} → RunTime z x → number_of_refusal x ≢ 15
unfolding number_of_refusal
run_time_number seven d = absurd (omega (arith, d))
run_time_number eight d = absurd (omega (arith, d))
run_time_number (nine y) d = absurd (omega (arith, d))
run_time_number ten d = absurd (omega (arith, d))
run_time_number eleven d = absurd (omega (arith, d))
run_time_number twelve d = absurd (omega (arith, d))
run_time_number thirteen d = absurd (omega (arith, d))
run_time_number (sixteen y) d = absurd (omega (arith, d))
run_time_number (seventeen y) d = absurd (omega (arith, d))

read_time_number : {x : Refusal} → ReadTime x → number_of_refusal x ≢ 15
unfolding number_of_refusal
read_time_number five d = absurd (omega (arith, d))
read_time_number six d = absurd (omega (arith, d))
read_time_number eighteen d = absurd (omega (arith, d))

module _ (s : State) (h : sound s ≡ true) where
  refusal_good : (x : Refusal) → number_of_refusal x ≢ 15 → Good (refusal s x)
  unfolding refusal
  refusal_good x l = record { left = h; no_15 = l }

  answer_good : (r : Literals) {k : Option (List ℕ)} (most : ℕ) (tail : Bytes) (m : Result (State × Bytes)) → Leaves r (arity s) s k m → Run (Unit {0}) s true m → Good (answer_within most tail s m)
  unfolding answer_within
  answer_good r most tail (ok (s', p)) (l_ok w k) (e_ok i) = with_good most s h 0 (λ d. absurd (omega (arith, d))) (behind tail p) s' (still_sound w.sound (i tt))
  answer_good r most tail (ok (s', p)) (l_cleared {listed = listed} d e k) (e_ok i) = with_good most s h 0 (λ d. absurd (omega (arith, d))) (behind tail p) s' (rw d (cleared_sound s h listed k))
  answer_good r most tail (err s' e) (l_err g n) (e_err i) = with_good most s h (number_of_error e) (λ d. absurd (omega (arith, error_number e, d))) _ (put_back s s') (still_sound (sound_put_back (facts s h) g n) (put_back_ranges (ranges_of s h) (i tt)))
  answer_good r most tail (refused x) l_refused (e_refused t) = refusal_good x (run_time_number t)

  reply_good : (r : Record) → FineRecord (arity s) (taken s) r → (Unit {0} → RecordIn s r) → Good (reply s r)
  unfolding reply
  reply_good r f i = answer_good (literals r) (most_of (apart r)) (tail_of s (apart r)) (run s r) (run_leaves s (facts s h) r f) (run_walk (Unit {0}) s true refl s (λ u. ranges_of s h) r i)

  lent_good : {n : ℕ} (r : Read Record) → ReadWell (Unit {0}) s n r → Good (lent s r)
  unfolding lent number_of_refusal
  lent_good (got r []) (given f i l) = reply_good r f.0 f.1
  lent_good (got r (b ∷ rest)) f = refusal_good _ (λ d. absurd (omega (arith, d)))
  lent_good (not_read x) (not_given t) = refusal_good x (read_time_number t)

  streamed_good : (bytes : Bytes) → IsBytes bytes → {n : ℕ} (r : Read Record) → ReadWell (Unit {0}) s n r → Good (streamed s bytes r).0 × IsBytes (streamed s bytes r).1
  unfolding streamed
  streamed_good bytes is (got r rest) (given f i l) = (reply_good r f.0 f.1, i tt)
  streamed_good bytes is (not_read x) (not_given t) = (refusal_good x (read_time_number t), is)

-- ---- the theorem

pub sound_kept : (s : State) (bytes : Bytes) (buffer : ℕ) → IsBytes bytes → sound s ≡ true → sound (step s bytes buffer).state ≡ true
unfolding refusal
sound_kept s bytes buffer is h = step_cases s bytes buffer (λ a. sound a.state ≡ true) (lent_good s h (read_record s bytes) (well_read (Unit {0}) s bytes (λ u. is))).left h

-- .. and of a stream, whose rest is bytes again
pub stream_sound_kept : (s : State) (bytes : Bytes) (buffer : ℕ) → IsBytes bytes → sound s ≡ true → (sound (step_stream s bytes buffer).0.state ≡ true) × IsBytes (step_stream s bytes buffer).1
unfolding refusal
stream_sound_kept s bytes buffer is h =
    let g = streamed_good s h bytes is (read_record s bytes) (well_read (Unit {0}) s bytes (λ u. is)) in
    stream_cases s bytes buffer (λ x. (sound x.0.state ≡ true) × IsBytes x.1) (g.0.left, g.1) (h, is)

-- after any list of records
pub after_sound : (s : State) (records : List (Bytes × ℕ)) → All (λ (r : Bytes × ℕ). IsBytes r.0) records → sound s ≡ true → sound (after s records) ≡ true
unfolding after
after_sound s [] is h = h
after_sound s ((bytes, buffer) ∷ records) is h = after_sound (step s bytes buffer).state records is.1 (sound_kept s bytes buffer is.0 h)

-- ---- a job never meets 15

pub usable_enough : (s : State) (bytes : Bytes) (buffer : ℕ) → least_buffer bytes ≤ buffer → sound s ≡ true → usable s bytes buffer ≡ true
unfolding usable
usable_enough s bytes buffer l h = and (le_test (least_buffer bytes) buffer l) h

-- a job's buffer is enough for every record
job_enough : (bytes : Bytes) → least_buffer bytes ≤ job_buffer
unfolding least_buffer job_buffer max_many max_buffer
job_enough bytes = go (eqb (get_or bytes 0 0) 77 && eqb (get_or bytes 1 0) 74)
  where
    go : (b : Bool) → (if b then max_many else max_buffer) ≤ job_buffer
    go true = omega arith
    go false = omega arith

pub usable_sound : (s : State) (bytes : Bytes) → sound s ≡ true → usable s bytes job_buffer ≡ true
usable_sound s bytes h = usable_enough s bytes job_buffer (job_enough bytes) h

-- so a job need not test its state again
pub trusted : (s : State) (bytes : Bytes) → sound s ≡ true → step_stream s bytes job_buffer ≡ streamed s bytes (read_record s bytes)
unfolding step_stream
trusted s bytes h = rw (usable_sound s bytes h, step_stream) refl

pub stream_no_15 : (s : State) (bytes : Bytes) → IsBytes bytes → sound s ≡ true → (step_stream s bytes job_buffer).0.number ≢ 15
stream_no_15 s bytes is h = rw (trusted s bytes h) (streamed_good s h bytes is (read_record s bytes) (well_read (Unit {0}) s bytes (λ u. is))).0.no_15

abbrev No15 : Entry → Type 0
No15 e = e.number ≢ 15

from_no_15 : (n i : ℕ) (s : State) (bytes : Bytes) → IsBytes bytes → sound s ≡ true → All No15 (job_from n i s bytes)
unfolding job_from
from_no_15 zero i s bytes is h = tt
from_no_15 (suc n) i s [] is h = tt
from_no_15 (suc n) i s (b ∷ bytes) is h =
    let kept = stream_sound_kept s (b ∷ bytes) job_buffer is h in
    go (ends_job (step_stream s (b ∷ bytes) job_buffer).0.number) _ _ (stream_no_15 s (b ∷ bytes) is h) (from_no_15 n (suc i) _ _ kept.1 kept.0)
  where
    go : (x : Bool) (e : Entry) (es : List Entry) → No15 e → All No15 es → All No15 (elim x [ true ↦ e ∷ [] | false ↦ e ∷ es ])
    go true e es l f = (l, tt)
    go false e es l f = (l, f)

pub fresh_sound : sound fresh ≡ true
unfolding sound counts_fit parts_smaller fields_allowed no_binding_anything chains_end all_of all_at max_nodes max_args max_vars max_constraints max_structs
fresh_sound = refl

pub job_no_15 : (bytes : Bytes) → IsBytes bytes → (e : Entry) → Memᴰ e (job_log bytes) → e.number ≢ 15
unfolding job_log
job_no_15 bytes is e m d = each No15 (job_log bytes) (from_no_15 (length bytes) 0 fresh bytes is fresh_sound) e m d
