-- A record's run with all locations set to 0 is its run, with locations set to 0 in what it shows and leaves. Assumes nothing.
-- Placing by the tree, SV by its steps, then record by record (`run_erase`) from EraseJoin and EraseWrite; at the end the answer (`Blanked`).
use mathlib.Core.Path.{◌≡◌, refl, sym, ap, ◌∙◌}
use mathlib.Core.Bool.{Bool, true, false, not, ◌&&◌}
use mathlib.Core.List.{List, [], ◌∷◌, ◌++◌, map, append-nil}
use Rattle.std.specs.Prelude.{Option, None, Some}
use Prim.Native.Nat.{ℕ, suc, ◌≤◌, ◌<◌, zero, ◌-◌}
use native.Mathlib.Omega.{arith}
use lib.ListN.{length, get_or-eq_default, take, drop, length-append}
use lib.Dec.{leb, ltb, ltb→lt, nltb→le}
use Rattle.std.specs.Prelude.{if◌then◌else◌}
use Rattle.definition.specs.Types.{TypeName, Multiple, Builtin, ModuleType, UnitType, Ref, Param, Apply, Var, Anything, UnresolvedError, TypeValue, Spanned, Node, Cell, State, max_structs, Constraint, Refusal, answer_too_long, Result, ok, ◌>>=◌, refused}
use Rattle.definition.specs.Store.{nowhere, count, taken, node, type_at, with_args, spanned, with_constraints}
use Rattle.definition.specs.Subst.{parts, unfold_type, forward_tvar}
use Rattle.definition.specs.Join.{join, subtype, TypingCase}
use Rattle.definition.specs.TParams.{arg_of, make_tparam_subst}
use Rattle.definition.specs.Constraints.{num_vars, undecided, default_num_var, default_num_vars, solve_all, solve_constraints, default_integer, default_of}
use Rattle.definition.specs.Write.{Bytes, u16, write_error, u32}
use Rattle.definition.specs.Reader.{Read}
use Rattle.definition.specs.Trees.{Tree, unit_tree, anything_tree, error_tree, ref_tree, param_tree, apply_tree, var_tree, Trees, no_trees, ◌then◌, mark_fits, arity, is_mark, is_name}
use Rattle.definition.specs.Record.{NumericKind, Numeric, Bits, Ordered, Record, SD, FV, NV, SN, JN, SU, UF, RD, IN, TS, NC, BC, SC, SV, RM, CN, XP, NL, MJ, UL, JL, KP}
use Rattle.definition.specs.Build.{build, build_all, build_pairs, build_many}
use Rattle.definition.specs.Canonical.{canonical}
use Rattle.definition.specs.Needs.{Needs, merge, needs, needs_args, write_needs}
use Rattle.definition.specs.Sound.{sound}
use Rattle.definition.specs.Step.{numeric_constraint, constrain, two_types, tell, run, Answer, number_of_error, refusal, put_back, answer_with, answer_within, apart, most_of, reply, lent, Apart, as_others, many, links_of_one, links_of_two, counted, tail_of, behind, unfolded, keeps}
use Rattle.definition.specs.Expand.{Expanded, expand_type}
use Rattle.definition.specs.Locations.{Part, type, types, codes, failures, blank, shown_fields, blank_before}
use Rattle.theorems.proofs.EraseShown.{success_fields, Shows, shows, shows_none, count_width, shown_of}
use Rattle.theorems.proofs.DemandTracks.{never}
use Rattle.theorems.proofs.DemandOrder.{All, All_map, Sound}
use Rattle.theorems.proofs.SoundFacts.{and_l, and_r, test, facts}
use Rattle.theorems.proofs.SoundRanges.{ShapeIn, Ranges, value_in}
use Rattle.theorems.proofs.DemandWent.{Went, WentTo, PostS, ps_ok}
use Rattle.theorems.proofs.DemandRuns.{num_vars_below, place_went, defaults_went}
use Rattle.theorems.proofs.TotalWalk.{Ends, e_ok, In, place_run, starts_run}
use Rattle.theorems.proofs.SoundKept.{ranges_of}
use Rattle.theorems.proofs.Erase.{erase_mark, erase_cell, erase_constraint, erase, spanned_erase, constraints_erased, Erased, er_ok, er_err, er_refused, with_state, er_bind, er_elim, er_opt, sp_erase, next_erase, add_erase, declare_erase, need_erase}
use Rattle.theorems.proofs.EraseJoin.{unfold_type_erase, set_num_erase, ready_tvars_erase, join_erase, subtype_erase, subst_erase, instantiate_erase, end_erase, literal_erase}
use Rattle.theorems.proofs.EraseRead.{erase_tree, erase_trees, erase_pair, erase_record, blank_nil, length_blank, ReadAlike, w_got, w_not, erase_case_pair}
use Rattle.theorems.proofs.Canonical.{canonical_erase}
use Rattle.theorems.proofs.EraseExpand.{Both, both_ok, both_refused, whole_blank, type_both}
use Rattle.theorems.proofs.KeepErase.{cleared_erase, shown_erase}
use Rattle.definition.specs.Keep.{reach, survivors}
use Rattle.theorems.proofs.SoundRead.{FineRecord, RecordIn, ReadWell, given}
use Rattle.theorems.proofs.LawsPost.{Post, p_ok}
use Rattle.theorems.proofs.EraseWrite.{NameFits, Fits, Fitting, spanned_row, write_row, var_row, error_shown, Shown, shown_told, shown_refused, constraints_shown}
use Rattle.theorems.proofs.EraseMany.{error_number_erase, put_back_erase, pairs_erase as run_pairs_erase}
use Rattle.theorems.proofs.LinksErase.{links_of_erase, join_links_erase}
use Rattle.theorems.proofs.DemandEveryDepth.{ByApart, as_other, as_many, as_links_of_one, as_links_of_two, as_keeps, by_apart}
use Rattle.theorems.proofs.LawsAnswer.{behind_length}
use lib.Seq.{take-append_seam, drop-append_seam}
use Rattle.theorems.proofs.LinksTail.{Tail, of_links, nothing_shown, one_tail, two_tail}

-- ---- placing

mutual
  unfolding build build_all erase_tree erase_trees

  place_erase : (t : Tree) (s : State) → Erased with_state (build t s) (build (erase_tree t) (erase s))
  place_erase (unit_tree loc) s = sp_erase s loc 0 UnitType refl
  place_erase (anything_tree loc) s = sp_erase s loc 0 Anything refl
  place_erase (error_tree loc) s = sp_erase s loc 0 UnresolvedError refl
  place_erase (ref_tree loc mut t) s = er_bind _ _ (place_erase t s) (λ x. sp_erase x.0 loc 0 (Ref mut x.1) refl)
  place_erase (param_tree loc id a) s = sp_erase s loc 0 (Param id a) refl
  place_erase (apply_tree loc k n ts) s = er_bind _ _ (place_all_erase ts s) (λ x. sp_erase x.0 loc 0 (Apply k n x.1) refl)
  place_erase (var_tree loc v) s = sp_erase s loc 0 (Var v) refl

  place_all_erase : (ts : Trees) (s : State) → Erased with_state (build_all ts s) (build_all (erase_trees ts) (erase s))
  place_all_erase no_trees s = er_ok refl
  place_all_erase (◌then◌ t ts) s = er_bind _ _ (place_erase t s) (λ x. er_bind _ _ (place_all_erase ts x.0) (λ y. er_ok refl))

merge_erase : (t : Tree) → merge (erase_tree t) ≡ merge t
unfolding merge erase_tree
merge_erase (unit_tree loc) = refl
merge_erase (anything_tree loc) = refl
merge_erase (error_tree loc) = refl
merge_erase (ref_tree loc mut t) = refl
merge_erase (param_tree loc id a) = refl
merge_erase (apply_tree loc k n ts) = refl
merge_erase (var_tree loc v) = refl

mutual
  unfolding needs needs_args erase_tree erase_trees

  needs_erase : (t : Tree) → needs (erase_tree t) ≡ needs t
  needs_erase (unit_tree loc) = refl
  needs_erase (anything_tree loc) = refl
  needs_erase (error_tree loc) = refl
  needs_erase (ref_tree loc mut t) = rw (needs_erase t) refl
  needs_erase (param_tree loc id a) = refl
  needs_erase (apply_tree loc k n ts) = rw (needs_args_erase ts) refl
  needs_erase (var_tree loc v) = refl

  needs_args_erase : (ts : Trees) → needs_args (erase_trees ts) ≡ needs_args ts
  needs_args_erase no_trees = refl
  needs_args_erase (◌then◌ t ts) = rw (merge_erase t, needs_erase t, needs_args_erase ts) refl

pairs_erase : (ps : List (ℕ × Tree)) (s : State) → Erased with_state (build_pairs ps s) (build_pairs (map erase_pair ps) (erase s))
unfolding build_pairs
pairs_erase [] s = er_ok refl
pairs_erase ((id, t) ∷ ps) s = er_bind _ _ (place_erase t s) (λ x. er_bind _ _ (pairs_erase ps x.0) (λ y. er_ok refl))

many_erase : (ps : List (TypingCase × Tree × Tree)) (s : State) → Erased with_state (build_many ps s) (build_many (map erase_case_pair ps) (erase s))
unfolding build_many
many_erase [] s = er_ok refl
many_erase ((c, t, u) ∷ ps) s = er_bind _ _ (place_erase t s) (λ x. er_bind _ _ (place_erase u x.0) (λ y. er_bind _ _ (many_erase ps y.0) (λ z. er_ok refl)))

abbrev same : {A : Type 0} → A → A
same a = a

make_erase : (ps : List (ℕ × ℕ)) → Erased same (make_tparam_subst ps) (make_tparam_subst ps)
unfolding make_tparam_subst
make_erase [] = er_ok refl
make_erase ((id, arg) ∷ ps) = er_bind _ _ (make_erase ps) (λ subst. er_opt (arg_of subst id) _ refl (er_ok refl) (λ old. er_refused))

-- ---- SV

abbrev zero_loc : ℕ × ℕ → ℕ × ℕ
zero_loc p = (p.0, 0)

num_vars_erase : (v : ℕ) (cells : List Cell) → num_vars v (map erase_cell cells) ≡ map zero_loc (num_vars v cells)
unfolding num_vars
num_vars_erase v [] = refl
num_vars_erase v (c ∷ cells) = go c.numeric (num_vars_erase (suc v) cells)
  where
    go : (o : Option ℕ) → num_vars (suc v) (map erase_cell cells) ≡ map zero_loc (num_vars (suc v) cells)
        → ◌≡◌ {A = List (ℕ × ℕ)} (elim (erase_mark o) [ None ↦ num_vars (suc v) (map erase_cell cells) | Some loc ↦ (v, loc) ∷ num_vars (suc v) (map erase_cell cells) ])
        (map zero_loc (elim o [ None ↦ num_vars (suc v) cells | Some loc ↦ (v, loc) ∷ num_vars (suc v) cells ]))
    go None e = e
    go (Some loc) e = ap (λ (l : List (ℕ × ℕ)). (v, 0) ∷ l) e

default_of_erase : (s : State) (v : ℕ) → default_of (erase s) v ≡ default_of s v
unfolding default_of
default_of_erase s v = ap default_integer (rw (end_erase s v) (need_erase s (forward_tvar s v)))

default_erase : (s : State) (v loc : ℕ) → Erased erase (default_num_var s v loc) (default_num_var (erase s) v 0)
unfolding default_num_var
default_erase s v loc =
    er_elim (undecided (unfold_type s (record { loc = loc; value = Var v })).value) _ (ap (λ (t : Spanned TypeValue). undecided t.value) (unfold_type_erase s (record { loc = loc; value = Var v })))
    (er_bind _ _ (rw (default_of_erase s v) (sp_erase s loc 0 (default_of s v) refl)) (λ x. er_bind _ _ (sp_erase x.0 loc 0 (Var v) refl) (λ y. er_bind _ _ (join_erase y.0 x.1 y.1) (λ w. er_ok refl)))) (er_ok refl)

defaults_erase : (l : List (ℕ × ℕ)) (s : State) → Erased erase (default_num_vars s l) (default_num_vars (erase s) (map zero_loc l))
unfolding default_num_vars
defaults_erase [] s = er_ok refl
defaults_erase ((v, loc) ∷ l) s = er_bind _ _ (default_erase s v loc) (λ s1. defaults_erase l s1)

-- the declared arities hold in the state that SV writes from
module _ (S s : State) (few : length S.structs ≤ max_structs) (w : Sound (arity S) s) (r : (t : ℕ) → ShapeIn S (type_at s t)) where
  outside : (t : ℕ) → count s ≤ t → type_at s t ≡ UnresolvedError
  unfolding type_at node with_args
  outside t h = ap (λ (n : Node). with_args s n.value) (get_or-eq_default s.nodes nowhere h)

  name_fits : (n : TypeName) → is_name S n ≡ true → NameFits n
  unfolding is_name max_structs
  name_fits (Multiple m) h = tt
  name_fits (Builtin b) h = tt
  name_fits (ModuleType m) h = omega (arith, ltb→lt m (length S.structs) (test h))

  value_fits : (t : ℕ) → t < count s → (x : TypeValue) → type_at s t ≡ x → ShapeIn S x → Fits S x
  value_fits t i UnitType e h = tt
  value_fits t i (Ref m u) e h = tt
  value_fits t i (Param id a) e h = tt
  value_fits t i (Apply k n tys) e h = (w.arity t k n tys i e, name_fits n (and_r (is_mark k) (is_name S n) (and_l (is_mark k && is_name S n) (mark_fits k n) h)))
  value_fits t i (Var v) e h = tt
  value_fits t i Anything e h = tt
  value_fits t i UnresolvedError e h = tt

  in_or_out : (P : TypeValue → Type 0) → P UnresolvedError → (t : ℕ) → (t < count s → P (type_at s t)) → P (type_at s t)
  in_or_out P out t f = go (ltb t (count s)) refl
    where
      go : (b : Bool) → ltb t (count s) ≡ b → P (type_at s t)
      go true e = f (ltb→lt t (count s) (test e))
      go false e = rw (outside t (nltb→le t (count s) (test (ap not e)))) out

  pub fitting : Fitting S s
  unfolding parts
  fitting = record {
    fits = λ t. in_or_out (Fits S) tt t (λ i. value_fits t i (type_at s t) refl (r t));
    below = λ t. in_or_out (λ x. All (λ p. p < t) (parts x)) tt t (λ i. w.parts_below t i);
    inside = λ t. in_or_out (λ x. All (λ p. p < count s) (parts x)) tt t (λ i. All_map {P = λ p. p < t} (λ p l. omega arith) (parts (type_at s t)) (w.parts_below t i));
  }

-- what a run shows and leaves, with locations set to 0
abbrev pub blanked : State → List Part → State × Bytes → State × Bytes
blanked S fields x = (erase x.0, blank S x.1 fields)

pair_same : {A B : Type 0} {a a' : A} {b b' : B} → a ≡ a' → b ≡ b' → ◌≡◌ {A = A × B} (a, b) (a', b')
pair_same p q = rw (p, q) refl

nums_erase : (s : State) → num_vars 0 (erase s).vars ≡ map zero_loc (num_vars 0 s.vars)
unfolding erase
nums_erase s = num_vars_erase 0 s.vars

constraints_are : (s : State) → (erase s).constraints ≡ map erase_constraint s.constraints
unfolding erase
constraints_are s = refl

-- nothing follows
whole : (S : State) (b b' : Bytes) → ((rest : Bytes) → blank S (b ++ rest) (failures ∷ []) ≡ b' ++ blank S rest (failures ∷ [])) → blank S b (failures ∷ []) ≡ b'
unfolding blank
whole S b b' p = rw (append-nil b, append-nil b') at (p [])

module _ (S : State) (h : sound S ≡ true) where
  finished : (s : State) → Went (arity S) S s → Ranges S s → Erased (blanked S (failures ∷ [])) (solve_all s) (solve_all (erase s))
  unfolding ◌>>=◌
  finished s w r = go (rw (sym (constraints_are s)) at (constraints_shown S s fit s.constraints))
    where
      fit : Fitting S s
      fit = fitting S s (ranges_of S h).few_structs w.sound (value_in r)

      go : {m m' : Result Bytes} → Shown S m m' → Erased (blanked S (failures ∷ [])) (m >>= λ failures. ok (with_constraints s [], failures)) (m' >>= λ failures. ok (with_constraints (erase s) [], failures))
      go (shown_told {b = b} {b' = b'} p) = er_ok (pair_same (constraints_erased s []) (sym (whole S b b' p)))
      go shown_refused = er_refused

  close : {d d' : Result State} → Erased erase d d' → PostS (arity S) S (Went (arity S) S) d → Ends true (In (Unit {0}) S true) (In (Unit {0}) S true) d
      → Erased (blanked S (failures ∷ [])) (d >>= λ (s : State). solve_all s) (d' >>= λ (s : State). solve_all s)
  unfolding ◌>>=◌
  close (er_ok {a = s} e) (ps_ok g w) (e_ok i) = rw e (finished s w (i tt))
  close (er_err e d) p q = er_err e d
  close er_refused p q = er_refused

  solve_erase : Erased (blanked S (failures ∷ [])) (solve_constraints S) (solve_constraints (erase S))
  unfolding solve_constraints
  solve_erase = rw (nums_erase S) (close (defaults_erase (num_vars 0 S.vars) S)
      (defaults_went (num_vars 0 S.vars) (facts S h) (λ n. refl) (num_vars_below 0 S.vars (taken S) (omega arith)))
      (starts_run (Unit {0}) S true S (λ u. ranges_of S h)))

  -- ---- record by record

  two_erase : (f : State → ℕ → ℕ → Result (State × ℕ)) → ((s : State) (l r : ℕ) → Erased with_state (f s l r) (f (erase s) l r)) → (t u : Tree)
      → Erased (blanked S (types ∷ [])) (two_types f S t u) (two_types f (erase S) (erase_tree t) (erase_tree u))
  unfolding two_types
  two_erase f e t u = er_bind _ _ (place_erase t S) (λ x. er_bind _ _ (place_erase u x.0) (λ y. er_bind _ _ (e y.0 x.1 y.1) (λ z. er_ok (rw (write_row S z.0 z.1) refl))))

  empty : (fields : List Part) → blank S [] fields ≡ []
  unfolding blank
  empty fields = refl

  unfolded_erase : (t : Tree) → Erased (blanked S (types ∷ [])) (unfolded S t) (unfolded (erase S) (erase_tree t))
  unfolding unfolded
  unfolded_erase t = er_bind _ _ (place_erase t S) (λ x. er_ok (rw (spanned_erase x.0 x.1, unfold_type_erase x.0 (spanned x.0 x.1), spanned_row S x.0 (unfold_type x.0 (spanned x.0 x.1))) refl))

  constrain_erase : (t : Tree) (make make' : ℕ → Constraint) → ((ty : ℕ) → make' ty ≡ erase_constraint (make ty)) → Erased (blanked S (types ∷ [])) (constrain S t make) (constrain (erase S) (erase_tree t) make')
  unfolding constrain
  constrain_erase t make make' e = er_bind _ _ (place_erase t S) (λ x. er_bind _ _ (add_erase x.0 (make x.1) (make' x.1) (e x.1)) (λ s. er_ok (rw (empty (types ∷ [])) refl)))

  numeric_erase : (kind : NumericKind) (loc ty : ℕ) → numeric_constraint kind 0 ty ≡ erase_constraint (numeric_constraint kind loc ty)
  unfolding numeric_constraint
  numeric_erase Numeric loc ty = refl
  numeric_erase Bits loc ty = refl
  numeric_erase Ordered loc ty = refl

  tell_erase : (n : Option Needs) → Erased (blanked S []) (tell S n) (tell (erase S) n)
  unfolding tell
  tell_erase None = er_refused
  tell_erase (Some n) = er_ok (pair_same refl (sym (blank_nil S (write_needs n))))

  -- XP: the state that its type is placed in has the declared arities
  payload_erase : {m m' : Result Expanded} → Both S (type ∷ []) m m' → Erased (blanked S (type ∷ codes ∷ [])) (m >>= λ (x : Expanded). ok (S, x.type ++ x.codes)) (m' >>= λ (x : Expanded). ok (erase S, x.type ++ x.codes))
  unfolding ◌>>=◌
  payload_erase (both_ok p) = er_ok (pair_same refl (whole_blank S p))
  payload_erase both_refused = er_refused

  expanded_erase : (s : State) (ty : ℕ) → Sound (arity S) s → Ranges S s
      → Erased (blanked S (type ∷ codes ∷ [])) (expand_type s ty >>= λ (x : Expanded). ok (S, x.type ++ x.codes)) (expand_type (erase s) ty >>= λ (x : Expanded). ok (erase S, x.type ++ x.codes))
  expanded_erase s ty w r = payload_erase (type_both S s (fitting S s (ranges_of S h).few_structs w (value_in r)) ty)

  expand_erase : {d d' : Result (State × ℕ)} → Erased with_state d d' → Post (arity S) S (WentTo (arity S) S) d → Ends true (In (Unit {0}) S true) (λ x. In (Unit {0}) S true x.0) d
      → Erased (blanked S (type ∷ codes ∷ [])) (d >>= λ (p : State × ℕ). expand_type p.0 p.1 >>= λ (x : Expanded). ok (S, x.type ++ x.codes))
      (d' >>= λ (p : State × ℕ). expand_type p.0 p.1 >>= λ (x : Expanded). ok (erase S, x.type ++ x.codes))
  unfolding ◌>>=◌
  expand_erase (er_ok {a = p} e) (p_ok g w) (e_ok i) = rw e (expanded_erase p.0 p.1 w.sound (i tt))
  expand_erase (er_err e d) p q = er_err e d
  expand_erase er_refused p q = er_refused

  pub run_erase : (r : Record) → FineRecord (arity S) (taken S) r → RecordIn S r → Erased (blanked S (success_fields r)) (run S r) (run (erase S) (erase_record r))
  unfolding run erase_record success_fields
  run_erase (SD a ps) f b = er_bind _ _ (declare_erase S a ps) (λ x. er_ok (rw (blank_nil S (u16 x.1)) refl))
  run_erase (FV loc) f b = er_bind _ _ (next_erase S) (λ x. er_ok (pair_same refl (sym (var_row S loc _))))
  run_erase (NV loc) f b = er_bind _ _ (next_erase S) (λ x. er_ok (pair_same (set_num_erase x.0 x.1 loc 0 refl) (sym (var_row S loc _))))
  run_erase (NL loc bits) f b = er_bind _ _ (next_erase S) (λ x. er_ok (pair_same (literal_erase x.0 x.1 loc 0 bits refl) (sym (var_row S loc _))))
  run_erase (SN v loc) f b = er_ok (pair_same (set_num_erase S v loc 0 refl) (sym (empty (types ∷ []))))
  run_erase (JN t u) f b = two_erase join join_erase t u
  run_erase (SU t u) f b = two_erase subtype subtype_erase t u
  run_erase (UF t) f b = unfolded_erase t
  run_erase (UL t) f b = unfolded_erase t
  run_erase (JL t u) f b = two_erase join join_erase t u
  run_erase (RD t) f b = er_bind _ _ (place_erase t S) (λ x. er_bind _ _ (ready_tvars_erase x.0 x.1) (λ y. er_ok (rw (write_row S y.0 y.1) refl)))
  run_erase (TS ps t) f b = er_bind _ _ (pairs_erase ps S) (λ x. er_bind _ _ (place_erase t x.0) (λ y. er_bind _ _ (make_erase x.1) (λ subst. er_bind _ _ (subst_erase subst y.0 y.1) (λ z. er_ok (rw (write_row S z.0 z.1) refl)))))
  run_erase (IN t) f b = er_bind _ _ (place_erase t S) (λ x. er_bind _ _ (instantiate_erase x.0 x.1) (λ y. er_ok (rw (write_row S y.0 y.1) refl)))
  run_erase (NC loc kind t) f b = constrain_erase t _ _ (λ ty. numeric_erase kind loc ty)
  run_erase (BC loc t) f b = constrain_erase t _ _ (λ ty. refl)
  run_erase (SC loc t) f b = constrain_erase t _ _ (λ ty. refl)
  run_erase SV f b = solve_erase
  run_erase (RM t) f b = rw (needs_erase t) (tell_erase (needs t))
  run_erase (CN t) f b = er_bind _ _ (place_erase t S) (λ x. er_bind _ _ (ready_tvars_erase x.0 x.1) (λ y. er_ok (rw (canonical_erase y.0 y.1, blank_nil S (canonical y.0 y.1)) refl)))
  run_erase (XP t) f b = expand_erase (place_erase t S) (place_went f (facts S h) (omega arith)) (place_run (Unit {0}) S true t (λ u. b) S (λ u. ranges_of S h))
  run_erase (KP listed) f b = er_ok (pair_same (cleared_erase S listed) (shown_erase S listed ∙ sym (blank_nil S (survivors (reach S listed).vars))))
  run_erase (MJ ps) f b = er_bind _ _ (many_erase ps S) (λ x. er_ok (let e = run_pairs_erase S x.1 x.0 in pair_same e.0 e.1))

-- ---- the count behind what a record shows: it has no locations

-- the tail of an answer is n bytes long, if the run shows anything
data Behind (n : ℕ) (tail : Bytes) : Result (State × Bytes) → Type 0 where
  so_long : {m : Result (State × Bytes)} → length tail ≡ n → Behind n tail m
  shows_nothing : {x : Refusal} → Behind n tail (refused x)

unfoldable erase_apart : Apart → Apart
erase_apart as_others = as_others
erase_apart (many ps) = many (map erase_case_pair ps)
erase_apart (links_of_one t) = links_of_one (erase_tree t)
erase_apart (links_of_two t u) = links_of_two (erase_tree t) (erase_tree u)
erase_apart (keeps listed) = keeps listed

apart_erase : (r : Record) → apart (erase_record r) ≡ erase_apart (apart r)
unfolding apart erase_record erase_apart
apart_erase (SD a ps) = refl
apart_erase (FV loc) = refl
apart_erase (NV loc) = refl
apart_erase (NL loc bits) = refl
apart_erase (SN v loc) = refl
apart_erase (JN t u) = refl
apart_erase (SU t u) = refl
apart_erase (UF t) = refl
apart_erase (RD t) = refl
apart_erase (IN t) = refl
apart_erase (TS ps t) = refl
apart_erase (NC loc kind t) = refl
apart_erase (BC loc t) = refl
apart_erase (SC loc t) = refl
apart_erase SV = refl
apart_erase (RM t) = refl
apart_erase (CN t) = refl
apart_erase (XP t) = refl
apart_erase (MJ ps) = refl
apart_erase (UL t) = refl
apart_erase (JL t u) = refl
apart_erase (KP listed) = refl

most_erase : (a : Apart) → most_of (erase_apart a) ≡ most_of a
unfolding most_of erase_apart
most_erase as_others = refl
most_erase (many ps) = refl
most_erase (links_of_one t) = refl
most_erase (links_of_two t u) = refl
most_erase (keeps listed) = refl

counted_erase : {m m' : Result ℕ} → Erased (λ (n : ℕ). n) m m' → counted m' ≡ counted m
unfolding counted
counted_erase (er_ok e) = rw e refl
counted_erase (er_err p q) = refl
counted_erase er_refused = refl

module _ (S : State) where
  tail_erase : (a : Apart) → tail_of (erase S) (erase_apart a) ≡ tail_of S a
  unfolding tail_of erase_apart
  tail_erase as_others = refl
  tail_erase (many ps) = refl
  tail_erase (keeps listed) = refl
  tail_erase (links_of_one t) = counted_erase (er_bind _ _ (place_erase t S) (λ x. er_ok (links_of_erase x.0 x.1)))
  tail_erase (links_of_two t u) = counted_erase (er_bind _ _ (place_erase t S) (λ x. er_bind _ _ (place_erase u x.0) (λ y. er_ok (join_links_erase y.0 x.1 y.1))))

  counted_behind : {P : ℕ → Type 0} {tail : Bytes} {m : Result (State × Bytes)} → Tail P tail m → Behind 4 tail m
  unfolding u32
  counted_behind (of_links e p) = so_long (rw e refl)
  counted_behind nothing_shown = shows_nothing

  tail_behind : {r : Record} {a : Apart} → ByApart r a → Behind (count_width a) (tail_of S a) (run S r)
  unfolding count_width tail_of run
  tail_behind (as_other e) = so_long refl
  tail_behind as_keeps = so_long refl
  tail_behind as_many = so_long refl
  tail_behind (as_links_of_one {t = t}) = counted_behind (one_tail S t)
  tail_behind (as_links_of_two {t1 = t} {t2 = u}) = counted_behind (two_tail S t u)

  -- its bytes are left as they are
  before_tail : (n : ℕ) (tail p : Bytes) (fields : List Part) → length tail ≡ n → blank_before n S (behind tail p) fields ≡ behind tail (blank S p fields)
  unfolding blank_before behind
  before_tail zero [] p fields e = refl
  before_tail zero (b ∷ tail) p fields e = absurd (omega (arith, e))
  before_tail (suc n) [] p fields e = absurd (omega (arith, e))
  before_tail (suc n) (b ∷ tail) p fields e =
      let shown : length (p ++ (b ∷ tail)) - suc n ≡ length p = omega (arith, e, length-append p (b ∷ tail)) in
      rw (shown, take-append_seam p (b ∷ tail), drop-append_seam p (b ∷ tail)) refl

  pub nothing_before : (n : ℕ) (fields : List Part) → blank_before n S [] fields ≡ []
  unfolding blank_before blank
  nothing_before zero fields = refl
  nothing_before (suc n) fields = go (0 - suc n)
    where
      go : (k : ℕ) → blank S (take k []) fields ++ drop k [] ≡ []
      go zero = refl
      go (suc k) = refl

-- ---- the answer

-- an answer, and the one with locations set to 0; `fields` tells what a payload is made of, but for a count of n bytes at its end
pub record Blanked (S : State) (n : ℕ) (fields : ℕ → List Part) (a a' : Answer) : Type 0 where
  pub same_number : a'.number ≡ a.number
  pub same_payload : a'.payload ≡ blank_before n S a.payload (fields a.number)
  pub same_state : a'.state ≡ erase a.state

module _ (S : State) (n : ℕ) where
  refusal_erase : (fields : ℕ → List Part) (x : Refusal) → Blanked S n fields (refusal S x) (refusal (erase S) x)
  unfolding refusal
  refusal_erase fields x = record { same_number = refl; same_payload = sym (nothing_before S n (fields _)); same_state = refl }

  with_erase : (most : ℕ) (fields : ℕ → List Part) (number : ℕ) (p p' : Bytes) (s s' : State) → length p' ≡ length p → p' ≡ blank_before n S p (fields number) → s' ≡ erase s
      → Blanked S n fields (answer_with most S number p s) (answer_with most (erase S) number p' s')
  unfolding answer_with
  with_erase most fields number p p' s s' l b e = rw l (go (leb (length p) most))
    where
      go : (c : Bool) → Blanked S n fields (if c then record { number = number; payload = p; state = s } else refusal S answer_too_long)
          (if c then record { number = number; payload = p'; state = s' } else refusal (erase S) answer_too_long)
      go true = record { same_number = refl; same_payload = b; same_state = e }
      go false = refusal_erase fields answer_too_long

  -- a payload and its tail
  tail_kept : (most : ℕ) (tail : Bytes) → length tail ≡ n → (fields : ℕ → List Part) (number : ℕ) (p : Bytes) (s s' : State) → s' ≡ erase s
      → Blanked S n fields (answer_with most S number (behind tail p) s) (answer_with most (erase S) number (behind tail (blank S p (fields number))) s')
  tail_kept most tail l fields number p s s' e =
      with_erase most fields number (behind tail p) (behind tail (blank S p (fields number))) s s' (omega (arith, behind_length tail p, behind_length tail (blank S p (fields number)), length_blank S p (fields number)))
      (sym (before_tail S n tail p (fields number) l)) e

  answer_erase : (most : ℕ) (tail : Bytes) (success : List Part) {m m' : Result (State × Bytes)} → Behind n tail m → Erased (blanked S success) m m' → Blanked S n (shown_fields success) (answer_within most tail S m) (answer_within most tail (erase S) m')
  unfolding answer_within shown_fields
  answer_erase most tail success (so_long l) (er_ok {a = x} e) = rw e (tail_kept most tail l (shown_fields success) 0 x.1 x.0 (erase x.0) refl)
  answer_erase most tail success (so_long l) (er_err {s = s} {e = e} p q) =
      rw (p, q, error_number_erase e, ← (error_shown S success s e)) (tail_kept most tail l (shown_fields success) (number_of_error e) (write_error s e) (put_back S s) _ (put_back_erase S s))
  answer_erase most tail success b (er_refused {x = x}) = refusal_erase (shown_fields success) x

reply_erase : (S : State) → sound S ≡ true → (r : Record) → FineRecord (arity S) (taken S) r → RecordIn S r → Blanked S (count_width (apart r)) (shown_fields (success_fields r)) (reply S r) (reply (erase S) (erase_record r))
unfolding reply
reply_erase S h r f b =
    rw (apart_erase r, most_erase (apart r), tail_erase S (apart r)) (answer_erase S (count_width (apart r)) (most_of (apart r)) (tail_of S (apart r)) (success_fields r) (tail_behind S (by_apart r)) (run_erase S h r f b))

pub lent_erase : (S : State) → sound S ≡ true → {k : ℕ} {shown : List Part × ℕ} {x x' : Read Record} → ReadWell (Unit {0}) S k x → Shows shown x → ReadAlike x x' → Blanked S shown.1 (shown_fields shown.0) (lent S x) (lent (erase S) x')
unfolding lent shown_of
lent_erase S h (given p i m) (shows q) (w_got {r = r} {rest = []} {rest' = []} e l) = rw (e, ← q) (reply_erase S h r p.0 (p.1 tt))
lent_erase S h g (shows q) (w_got {rest = []} {rest' = b ∷ rest'} e l) = never (cc)
lent_erase S h g (shows q) (w_got {rest = b ∷ rest} {rest' = []} e l) = never (cc)
lent_erase S h {shown = shown} g (shows q) (w_got {rest = b ∷ rest} {rest' = b' ∷ rest'} e l) = refusal_erase S shown.1 (shown_fields shown.0) _
lent_erase S h {shown = shown} g shows_none (w_not {x = x}) = refusal_erase S shown.1 (shown_fields shown.0) x
