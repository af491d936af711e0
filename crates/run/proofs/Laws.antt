-- A step's answer as a run's. Assumes nothing.
use mathlib.Core.Path.{◌≡◌, refl, sym, ap, ◌∙◌, subst}
use mathlib.Core.Bool.{Bool, true, false}
use mathlib.Core.List.{List, []}
use Rattle.std.specs.Prelude.{Option, None, Some, Ok, Err, if◌then◌else◌}
use Rattle.std.specs.Prelude as core
use Prim.Native.Nat.{ℕ, ◌<◌}
use native.Mathlib.Omega.{arith}
use lib.Dec.{ltb, ltb→lt}
use lib.ListN.{length, set, replicate, length-replicate}
use Rattle.definition.specs.Types as d
use Rattle.definition.specs.Types.{Struct, Result, ok, err, refused, ◌>>=◌, max_structs, full, parameter_twice, Spanned, TypeValue}
use Rattle.definition.specs.Store.{spanned, with_need, next_tvar, add_constraint, declare}
use Rattle.definition.specs.Subst.{set_num_var}
use Rattle.definition.specs.Join as j
use Rattle.definition.specs.Join.{join, subtype}
use Rattle.definition.specs.TParams.{make_tparam_subst, subst_tparams}
use Rattle.definition.specs.Instantiate.{instantiate}
use Rattle.definition.specs.Write.{Bytes, u32, head, write, write_spanned}
use Rattle.theorems.proofs.SoundFacts.{test}
use Rattle.names.specs.declared.TVar.{TVar}
use Rattle.table.specs.State.{Any, NodesIn, outcome, done, pushed_constraint, FoundIn, more}
use Rattle.table.specs.Did.{held, zero_of, FineIn, Became, DidFor, Did, Kept, Took, Added, DeclaredBy}
use Rattle.table.specs.declared.Used.{Used}
use Rattle.refusals.specs.declared.Refusal.TheVariants.{OpenVariable, ParameterTwice}
use Rattle.table.specs.declared.state.State.{State}
use Rattle.table.specs.declared.state.Stop.{Stop}
use Rattle.table.specs.declared.state.Stop.TheVariants.{Failed, Refused}
use Rattle.table.proofs.Did.{stop_in, err_is, became_now, became_is, became_on, became_as, became_number, did_is}
use Rattle.table.proofs.Steps.{NoError}
use Rattle.table.proofs.States.{plain_if}
use Rattle.arms.specs.Arms.{case_of}
use Rattle.arms.specs.declared.TypingCase.{TypingCase}
use Rattle.arms.specs.declared.TypingCase.TheVariants.{Join, Subtype}
use Rattle.fields.specs.Noded.{joined_links, binds}
use Rattle.subst.specs.Answers.{Unfolds}
use Rattle.subst.specs.declared.Unfolded.{Unfolded}
use Rattle.subst.specs.declared.Unfolded.TheVariants.{Node as NodeU, Anything as AnythingU}
use Rattle.payload.specs.Payload.{shown, tail_bytes}
use Rattle.payload.specs.declared.Show.{Show}
use Rattle.payload.specs.declared.Show.TheVariants.{Nothing, Number, Variable, Node, Anything, Four}
use Rattle.answer.specs.Ran.{ran, Tells}
use Rattle.answer.specs.declared.Ran.{Ran}
use Rattle.answer.proofs.Calls.{write_anything}
use Rattle.definition.specs.Needs.{write_needs}
use Rattle.needs.specs.Counted.{needs_of}
use Rattle.needs.specs.declared.Sums.{Sums}
use Rattle.definition.specs.Step.{tell}
use Rattle.definition.specs.Links.{join_links}
use Rattle.run.specs.Dispatch.{run_of, step_of, tail_of, RanAs}
use Rattle.run.specs.Runs.{join_in, two_run, unfold_run, subst_in, tparams_run, instantiate_run, tvar_run, marked_in, marked_run, needing, set_num_in, set_num_run, constraint_run, needs_run, declare_run, no_tail, join_tail, Runs, TakenIn, TakesVar, with_row, Declared}

-- ---- what an answer tells

tells_node : (u : Used) (r : core.Result ℕ Stop) → NodesIn u.nodes r → Tells u Node r
tells_node u (Ok t) i = i
tells_node u (Err e) i = stop_in u.nodes e i

tells_var : (u : Used) (loc : ℕ) (r : core.Result ℕ Stop) → TakenIn u r → Tells u (Variable loc) r
tells_var u loc (Ok v) i = i
tells_var u loc (Err e) i = i

tells_none : (u : Used) (r : core.Result (Unit {0}) Stop) → FineIn u.nodes r → Tells u Nothing (zero_of r)
tells_none u (Ok x) i = tt
tells_none u (Err e) i = i

-- ---- a step, and what its answer shows

-- what follows the step
abbrev shows : Bool → Show → d.State → d.State × ℕ → Result (d.State × Bytes)
shows kept show before x = ok (if kept then x.0 else before, shown show x.1 x.0)

-- a step's answer as a run's
abbrev as_run : core.Result ℕ Stop → Show → Option ℕ → Bool → Ran
as_run a show tail kept = record { result = a; show = show; tail = tail; kept = kept }

module _ {s t : State} (a : core.Result ℕ Stop) (step : d.State → Result (d.State × ℕ)) (f : d.State → d.State → Result (d.State × Bytes)) (show : Show) (kept : Bool) (tail : Option ℕ) (says : d.State → Bytes)
    (told : (ds : List Struct) → tail_bytes tail ≡ says (held s ds)) (follows : (x before : d.State) → (step x >>= shows kept show before) ≡ f x before) where
  -- for the declarations in K
  run_changed : {K : List Struct → Type 0} → Became K s t (outcome a) step → Tells t.used show a → {r : Ran} → r ≡ as_run a show tail kept → Runs K s t r kept step f says
  unfolding ran
  run_changed {K} c i {r} e =
      subst (λ (x : Ran). Runs K s t x kept step f says) (sym e)
      (record {
        left = c;
        tells = i;
        kept_is = refl;
        is = λ ds k before. ap (λ (x : Result (d.State × ℕ)). x >>= shows kept show before) (c.step.is ds k) ∙ follows (held s ds) before;
        tail_is = told;
      })

module _ {s t : State} {a : core.Result ℕ Stop} (step : d.State → Result (d.State × ℕ)) (f : d.State → d.State → Result (d.State × Bytes)) (kept : Bool) (follows : (x before : d.State) → (step x >>= shows kept Node before) ≡ f x before) where
  run_after : {K : List Struct → Type 0} → DidFor K s t a step → {r : Ran} → r ≡ as_run a Node None kept → Runs K s t r kept step f no_tail
  run_after c e = run_changed a step f Node kept None no_tail (λ ds. refl) follows c.changed (tells_node t.used a c.inside) e

-- ---- JN, SU

two_follows : (case : j.TypingCase) (lhs rhs : ℕ) (s before : d.State) → (join_in case s lhs rhs >>= shows true Node before) ≡ two_run case lhs rhs s before
unfolding two_run shown
two_follows case lhs rhs s before = refl

abbrev RanCase : State → State → ℕ → ℕ → Ran → TypingCase → Type 0
RanCase s t lhs rhs r case = Runs Any s t r true (λ s. join_in (case_of case) s lhs rhs) (two_run (case_of case) lhs rhs) no_tail

module _ {s t : State} {a : core.Result ℕ Stop} (lhs rhs : ℕ) where
  pub ran_join : (case : TypingCase) → case ≡ Join → Did s t a (λ s. join s lhs rhs) → {r : Ran} → r ≡ as_run a Node None true → RanCase s t lhs rhs r case
  unfolding join_in
  ran_join case q c e = rw q (run_after _ _ true (two_follows j.Join lhs rhs) c e)

  pub ran_subtype : (case : TypingCase) → case ≡ Subtype → Did s t a (λ s. subtype s lhs rhs) → {r : Ran} → r ≡ as_run a Node None true → RanCase s t lhs rhs r case
  unfolding join_in
  ran_subtype case q c e = rw q (run_after _ _ true (two_follows j.Subtype lhs rhs) c e)

  -- JL
  pub ran_links : (n : ℕ) → Did s t a (λ s. join s lhs rhs) → ((ds : List Struct) → n ≡ join_links (held s ds) lhs rhs) → {r : Ran} → r ≡ as_run a Node (Some n) true → RanAs Any s t r (binds (joined_links lhs rhs))
  unfolding join_in run_of step_of tail_of join_tail
  ran_links n c l e = run_changed a _ _ Node true (Some n) (join_tail lhs rhs) (λ ds. ap u32 (l ds)) (two_follows j.Join lhs rhs) c.changed (tells_node t.used a c.inside) e

-- ---- UF

abbrev Unfolding : (d.State → Bytes) → State → ℕ → Ran → Type 0
Unfolding says s t r = Runs Any s s r false (λ x. outcome r.result x) (unfold_run t) says

abbrev Telling : State → Option Sums → Ran → Type 0
Telling s c r = Runs Any s s r true (λ x. outcome r.result x) (needs_run (needs_of c)) no_tail

module _ {s : State} where
  -- nothing was written
  ran_told : (a : core.Result ℕ Stop) (show : Show) (tail : Option ℕ) (kept : Bool) (step : d.State → Result (d.State × ℕ)) (f : d.State → d.State → Result (d.State × Bytes)) (says : d.State → Bytes) → ((ds : List Struct) → tail_bytes tail ≡ says (held s ds)) → Tells s.used show a
      → ((ds : List Struct) → outcome a (held s ds) ≡ step (held s ds)) → ((ds : List Struct) (before : d.State) → (outcome a (held s ds) >>= shows kept show before) ≡ f (held s ds) before) → {r : Ran} → r ≡ as_run a show tail kept → Runs Any s s r kept step f says
  unfolding ran
  ran_told a show tail kept step f says told i l q e = subst (λ (x : Ran). Runs Any s s x kept step f says) (sym e) (record { left = became_now (λ ds k. l ds); tells = i; kept_is = refl; is = λ ds k before. q ds before; tail_is = told })

  ran_now : (a : core.Result ℕ Stop) (show : Show) (kept : Bool) (step : d.State → Result (d.State × ℕ)) (f : d.State → d.State → Result (d.State × Bytes)) → Tells s.used show a → ((ds : List Struct) → outcome a (held s ds) ≡ step (held s ds))
      → ((ds : List Struct) (before : d.State) → (outcome a (held s ds) >>= shows kept show before) ≡ f (held s ds) before) → {r : Ran} → r ≡ as_run a show None kept → Runs Any s s r kept step f no_tail
  ran_now a show kept step f i l q e = ran_told a show None kept step f no_tail (λ ds. refl) i l q e

  module _ (tail : Option ℕ) (says : d.State → Bytes) (told : (ds : List Struct) → tail_bytes tail ≡ says (held s ds)) where
    pub ran_unfolded : (t x : ℕ) (y : Unfolded) → Unfolds s y (λ s. spanned s t) → y ≡ NodeU x → {r : Ran} → r ≡ as_run (Ok x) Node tail false → Unfolding says s t r
    unfolding unfold_run outcome shown ◌>>=◌ write
    ran_unfolded t x y a q e =
        subst (Unfolding says s t) (sym e)
        (ran_told (Ok x) Node tail false _ _ says told (let i = a.inside in rw q at i) (λ ds. refl)
        (λ ds before. ap (λ (z : Spanned TypeValue). ok (before, write_spanned (held s ds) z)) (let e = a.is ds in rw q at e)) refl)

    pub ran_anything : (t loc : ℕ) (y : Unfolded) → Unfolds s y (λ s. spanned s t) → y ≡ AnythingU loc → {r : Ran} → r ≡ as_run (Ok 0) (Anything loc) tail false → Unfolding says s t r
    unfolding unfold_run outcome shown ◌>>=◌
    ran_anything t loc y a q e =
        subst (Unfolding says s t) (sym e)
        (ran_told (Ok 0) (Anything loc) tail false _ _ says told tt (λ ds. refl)
        (λ ds before. ap (λ (z : Bytes). ok (before, z)) (sym (write_anything (held s ds) loc) ∙ ap (λ (z : Spanned TypeValue). write_spanned (held s ds) z) (let e = a.is ds in rw q at e))) refl)

  -- ---- RM

  pub ran_needs : (c : Sums) {r : Ran} → r ≡ as_run (Ok 0) (Four c.nodes c.places c.variables c.constraints) None true → Telling s (Some c) r
  unfolding needs_run tell write_needs outcome shown ◌>>=◌
  ran_needs c e = subst (Telling s (Some c)) (sym e) (ran_now (Ok 0) (Four c.nodes c.places c.variables c.constraints) true _ _ tt (λ ds. refl) (λ ds before. refl) refl)

  pub ran_open : {r : Ran} → r ≡ as_run (Err (Refused OpenVariable)) Nothing None true → Telling s None r
  unfolding needs_run tell outcome shown ◌>>=◌
  ran_open e = subst (Telling s None) (sym e) (ran_now (Err (Refused OpenVariable)) Nothing true _ _ tt (λ ds. refl) (λ ds before. refl) refl)

  -- ---- TS

  pub ran_twice : (ps : List (ℕ × ℕ)) (t : ℕ) → refused parameter_twice ≡ make_tparam_subst ps → {r : Ran} → r ≡ as_run (Err (Refused ParameterTwice)) Node None false → Runs Any s s r false (subst_in ps t) (tparams_run ps t) no_tail
  unfolding subst_in tparams_run outcome ◌>>=◌
  ran_twice ps t m e = ran_now (Err (Refused ParameterTwice)) Node false _ _ tt (λ ds. rw (← m) refl) (λ ds before. rw (← m) refl) e

-- ---- IN, FV, NV, NL: what follows their step

instantiate_follows : (t : ℕ) (s before : d.State) → (instantiate s t >>= shows true Node before) ≡ instantiate_run t s before
unfolding instantiate_run shown
instantiate_follows t s before = refl

tvar_follows : (loc : ℕ) (s before : d.State) → (next_tvar s >>= shows true (Variable loc) before) ≡ tvar_run loc s before
unfolding tvar_run shown
tvar_follows loc s before = refl

-- the marking of a new variable
abbrev Mark : Type 0
Mark = d.State → ℕ → d.State

abbrev then_mark : Mark → d.State × ℕ → Result (d.State × ℕ)
then_mark mark x = ok (mark x.0 x.1, x.1)

in_is : (mark : Mark) (s : d.State) → (next_tvar s >>= then_mark mark) ≡ marked_in mark s
unfolding marked_in
in_is mark s = refl

marked_follows : (mark : Mark) (loc : ℕ) (s before : d.State) → (marked_in mark s >>= shows true (Variable loc) before) ≡ marked_run mark loc s before
unfolding marked_in marked_run ◌>>=◌ shown
marked_follows mark loc s before = go (next_tvar s)
  where
    go : (m : Result (d.State × ℕ)) → ((m >>= then_mark mark) >>= shows true (Variable loc) before) ≡ (m >>= (λ x. ok (mark x.0 x.1, head loc (d.Var x.1))))
    go (ok x) = refl
    go (err s e) = refl
    go (refused x) = refl

module _ {s t : State} {a : core.Result ℕ Stop} where
  pub ran_tparams : (ps subst : List (ℕ × ℕ)) (ty : ℕ) → ok subst ≡ make_tparam_subst ps → Did s t a (λ s. subst_tparams subst s ty) → {r : Ran} → r ≡ as_run a Node None false → Runs Any s t r false (subst_in ps ty) (tparams_run ps ty) no_tail
  unfolding subst_in tparams_run shown ◌>>=◌
  ran_tparams ps subst ty m c e = run_after (subst_in ps ty) (tparams_run ps ty) false follows (did_is (λ ds k. substitutes (held s ds)) c) e
    where
      substitutes : (s : d.State) → subst_tparams subst s ty ≡ subst_in ps ty s
      substitutes s = rw (← m) refl

      follows : (s before : d.State) → (subst_in ps ty s >>= shows false Node before) ≡ tparams_run ps ty s before
      follows s before = rw (← m) refl

  -- ---- IN

  pub ran_instantiate : (K : List Struct → Type 0) (ty : ℕ) → DidFor K s t a (λ s. instantiate s ty) → {r : Ran} → r ≡ as_run a Node None true → Runs K s t r true (λ s. instantiate s ty) (instantiate_run ty) no_tail
  ran_instantiate K ty c e = run_after _ _ true (instantiate_follows ty) c e

  -- ---- FV, NV, NL

  pub ran_tvar : (loc : ℕ) → TakesVar s t a (λ s. next_tvar s) → {r : Ran} → r ≡ as_run a (Variable loc) None true → Runs Any s t r true (λ s. next_tvar s) (tvar_run loc) no_tail
  ran_tvar loc c e = run_changed a _ _ (Variable loc) true None no_tail (λ ds. refl) (tvar_follows loc) c.changed (tells_var t.used loc a c.inside) e

  pub ran_marked : (mark : Mark) (loc : ℕ) → TakesVar s t a (marked_in mark) → {r : Ran} → r ≡ as_run a (Variable loc) None true → Runs Any s t r true (marked_in mark) (marked_run mark loc) no_tail
  ran_marked mark loc c e = run_changed a _ _ (Variable loc) true None no_tail (λ ds. refl) (marked_follows mark loc) c.changed (tells_var t.used loc a c.inside) e

-- a mark, then its need
pub literal_kept : {s m t : State} (v loc : ℕ) {n bits : ℕ} → Kept s m (λ s. set_num_var s v loc) → Kept m t (λ s. with_need s v n) → n ≡ bits → Kept s t (λ s. needing loc bits s v)
literal_kept v loc {n = n} a b e = rw (← e) (record { changed = became_on (λ s. with_need s v n) a.changed b.changed; used = b.used ∙ a.used })

module _ {s t : State} where
  -- none is left
  pub no_tvar : {e : Stop} {r : core.Result ℕ Stop} → Took s t (Err e) (λ s. next_tvar s) → r ≡ Err e → TakesVar s t r (λ s. next_tvar s)
  no_tvar c q = rw q (record { changed = c.changed; inside = c.inside })

  pub took_tvar : {v : TVar} {n : ℕ} → Took s t (Ok v) (λ s. next_tvar s) → n ≡ v.0 → TakesVar s t (Ok n) (λ s. next_tvar s)
  took_tvar c q = rw q (record { changed = c.changed; inside = c.inside })

  module _ (mark : Mark) where
    pub none_marked : {e : Stop} {r : core.Result ℕ Stop} → Took s t (Err e) (λ s. next_tvar s) → r ≡ Err e → TakesVar s t r (marked_in mark)
    none_marked {e} c q = rw q (record { changed = became_is (λ ds k. in_is mark (held s ds)) (became_as (λ m. m >>= then_mark mark) c.changed (λ x. err_is e x (then_mark mark))); inside = c.inside })

    pub took_marked : {v : TVar} {t' : State} {n : ℕ} → Took s t (Ok v) (λ s. next_tvar s) → Kept t t' (λ s. mark s v.0) → n ≡ v.0 → TakesVar s t' (Ok n) (marked_in mark)
    unfolding outcome ◌>>=◌
    took_marked {v} {t'} c m q = rw q
        (record {
          changed = became_is (λ ds k. in_is mark (held s ds)) (became_number (λ m. m >>= then_mark mark) c.changed (became_as (λ x. ok (x, v.0)) m.changed (λ x. refl)));
          inside = rw m.used c.inside;
        })

  -- ---- NC, BC, SC

  pub ran_constraint : {a : core.Result (Unit {0}) Stop} (k : d.Constraint) → Added s t a (pushed_constraint k) → {r : Ran} → r ≡ as_run (zero_of a) Nothing None true → Runs Any s t r true (pushed_constraint k) (constraint_run k) no_tail
  unfolding pushed_constraint constraint_run ◌>>=◌ shown
  ran_constraint {a} k c e = run_changed (zero_of a) _ _ Nothing true None no_tail (λ ds. refl) follows c.changed (tells_none t.used a c.inside) e
    where
      go : (before : d.State) (m : Result d.State) → ((m >>= (λ (x : d.State). ok (x, 0))) >>= shows true Nothing before) ≡ (m >>= (λ (x : d.State). ok (x, [])))
      go before (ok x) = refl
      go before (err s e) = refl
      go before (refused x) = refl

      follows : (x before : d.State) → (pushed_constraint k x >>= shows true Nothing before) ≡ constraint_run k x before
      follows x before = go before (add_constraint x k)

  -- ---- SN

  pub ran_set_num : (v loc : ℕ) → Kept s t (λ s. set_num_var s v loc) → {r : Ran} → r ≡ as_run (Ok 0) Nothing None true → Runs Any s t r true (set_num_in v loc) (set_num_run v loc) no_tail
  unfolding set_num_in set_num_run outcome shown ◌>>=◌
  ran_set_num v loc c e = run_changed (Ok 0) _ _ Nothing true None no_tail (λ ds. refl) (λ x before. refl) (became_as (λ s. ok (s, 0)) c.changed (λ s. refl)) tt e

-- ---- SD

declare_no_error : (s : d.State) (abilities : ℕ) (params : List ℕ) → NoError (declare s abilities params)
unfolding declare
declare_no_error s abilities params = plain_if (ltb (length s.structs) max_structs) _ _

abbrev answered : Result (d.State × ℕ) → ℕ
answered (ok x) = x.1
answered (err s e) = 0
answered (refused x) = 0

declare_number : (s : d.State) (abilities : ℕ) (params : List ℕ) → answered (declare s abilities params) < 256
unfolding declare max_structs
declare_number s abilities params = go (ltb (length s.structs) 256) _ refl
  where
    go : (b : Bool) (x : d.State) → ltb (length s.structs) 256 ≡ b → answered (if b then ok (x, length s.structs) else refused full) < 256
    go true x e = ltb→lt _ _ (test e)
    go false x e = omega arith

-- it is no typing error, so it names none
tells_number : (u : Used) (a : core.Result ℕ Stop) (s : d.State) → NoError (outcome a s) → Tells u Number a
unfolding outcome
tells_number u (Ok n) s h = tt
tells_number u (Err (Failed e)) s h = absurd h
tells_number u (Err (Refused x)) s h = tt

module _ {s t : State} {a : core.Result ℕ Stop} {abilities n : ℕ} (c : DeclaredBy s t a abilities n) where
  blanks : List Struct
  blanks = replicate s.used.structs (record { abilities = 0; params = [] })

  after : d.State
  after = held t (more (done a) blanks (record { abilities = abilities; params = [] }))

  blank_is : outcome a after ≡ declare (held s blanks) abilities []
  unfolding blanks after
  blank_is = c.declared.is blanks [] (length-replicate s.used.structs _)

  number : (b : core.Result ℕ Stop) → b ≡ a → FoundIn 256 (done b)
  unfolding outcome
  number (Ok k) e =
      let q : k ≡ answered (declare (held s blanks) abilities []) = ap answered (ap (λ (r : core.Result ℕ Stop). outcome r after) e ∙ blank_is) in
      omega (arith, q, declare_number (held s blanks) abilities [])
  number (Err (Failed x)) e = tt
  number (Err (Refused x)) e = tt

  pub ran_declare : {r : Ran} → r ≡ as_run a Number None true → Declared s t r abilities n
  unfolding ran declare_run shown
  ran_declare e =
      subst (λ (x : Ran). Declared s t x abilities n) (sym e)
      (record {
        same = c.same;
        grown = c.declared.grown;
        tells = tells_number t.used a after (subst (λ (x : Result (d.State × ℕ)). NoError x) (sym blank_is) (declare_no_error (held s blanks) abilities []));
        kept_is = refl;
        tail_is = refl;
        number = number a refl;
        is = λ ds ps many before. ap (λ (x : Result (d.State × ℕ)). x >>= shows true Number before) (c.declared.is ds ps many);
        declares = c.declared.declares;
      })

pub found_below : (f : Option ℕ) (n k : ℕ) → FoundIn n f → f ≡ Some k → k < n
found_below f n k h e = rw e at h

pub row_set : (f : Option ℕ) (params : List (List ℕ)) (bytes : List ℕ) (k at : ℕ) → at ≡ k → f ≡ Some k → set params at bytes ≡ with_row f params bytes
row_set f params bytes k at p q = rw q (rw p refl)
