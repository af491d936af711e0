-- What default_num_vars leaves of a sound state: each constraint is on a node, and the fields that are written as a byte are bytes. Assumes nothing.
use Rattle.std.specs.Prelude.{Ok, Err}
use Rattle.std.specs.Prelude as core
use mathlib.Core.Path.{◌≡◌, refl, sym, subst}
use mathlib.Core.Bool.{true}
use mathlib.Core.List.{List, [], ◌∷◌, Memᴰ}
use Prim.Native.Nat.{ℕ, zero, suc, ◌<◌}
use native.Mathlib.Omega.{arith}
use lib.ListN.{length, get_or}
use Rattle.definition.specs.Types as d
use Rattle.definition.specs.Types.{Struct, Constraint, AbilityConstraint, NumericConstraint, BitsConstraint, OrderedConstraint, BaseTypeConstraint, SingleTypeConstraint, Result, ok, err, refused, ◌>>=◌}
use Rattle.definition.specs.Store.{taken, with_structs}
use Rattle.definition.specs.Constraints.{num_vars, default_num_vars}
use Rattle.definition.specs.Trees.{arity}
use Rattle.definition.specs.Sound.{sound}
use Rattle.theorems.proofs.Laws.{type_on, OnNodes}
use Rattle.theorems.proofs.SoundFacts.{facts}
use Rattle.theorems.proofs.DemandWent.{Went, PostS, ps_ok, ps_err}
use Rattle.theorems.proofs.DemandRuns.{num_vars_below, defaults_went}
use Rattle.theorems.proofs.TotalWalk.{e_ok, e_err, Ends, In, starts_run}
use Rattle.theorems.proofs.SoundKept.{ranges_of}
use Rattle.table.specs.Rows.{constraint_table}
use Rattle.table.specs.State.{outcome, view, seen}
use Rattle.table.specs.Did.{held, tables, zero_of, Added}
use Rattle.table.specs.Known.{Declared}
use Rattle.table.specs.declared.Used.{Used}
use Rattle.table.specs.declared.state.State.{State}
use Rattle.table.specs.declared.state.Stop.{Stop}
use Rattle.table.specs.declared.state.Stop.TheVariants.{Failed, Refused}
use Rattle.table.proofs.Known.{known_kept}
use Rattle.constraints.specs.Solve.{numbered}
use Rattle.failing.specs.Failing.{ty_of}
use Rattle.writer.specs.Bytes.{AllBytes}
use Rattle.failures.specs.Report.{TysIn}
use Rattle.answer.specs.Ran.{Settles}
use Rattle.answer.proofs.Calls.{ranges_bytes, seen_bytes}
use Rattle.solve.specs.Solves.{HoldsSound}

-- what the report asks of a state
abbrev pub Fit : d.State → Type 0
Fit s = TysIn s × AllBytes s

-- ---- constraints on nodes

same_ty : (c : Constraint) → ty_of c ≡ type_on c
same_ty (AbilityConstraint loc ty a) = refl
same_ty (NumericConstraint loc ty) = refl
same_ty (BitsConstraint loc ty) = refl
same_ty (OrderedConstraint loc ty) = refl
same_ty (BaseTypeConstraint loc ty) = refl
same_ty (SingleTypeConstraint loc ty) = refl

member : (d : Constraint) (l : List Constraint) (i : ℕ) → i < length l → Memᴰ (get_or l i d) l
member d [] i h = absurd (omega arith)
member d (c ∷ l) zero h = Memᴰ.head refl
member d (c ∷ l) (suc i) h = Memᴰ.tail (member d l i (omega arith))

tys_in : (s : d.State) → OnNodes s → TysIn s
unfolding TysIn
tys_in s o i h = let c = get_or s.constraints i constraint_table.blank in omega (arith, same_ty c, o.on c (member constraint_table.blank s.constraints i h))

-- ---- the state that is left

-- with a success or a typing error it has P
abbrev Met : (d.State → Type 0) → {A : Type 0} → Result (d.State × A) → Type 0
Met P (ok x) = P x.0
Met P (err s e) = P s
Met P (refused x) = Unit {0}

module _ (s : d.State) (h : sound s ≡ true) where
  went : PostS (arity s) s (Went (arity s) s) (default_num_vars s (num_vars 0 s.vars))
  went = defaults_went (num_vars 0 s.vars) (facts s h) (λ n. refl) (num_vars_below 0 s.vars (taken s) (omega arith))

  walked : Ends true (In (Unit {0}) s true) (In (Unit {0}) s true) (default_num_vars s (num_vars 0 s.vars))
  walked = starts_run (Unit {0}) s true s (λ y. ranges_of s h)

  both : (m : Result d.State) → PostS (arity s) s (Went (arity s) s) m → Ends true (In (Unit {0}) s true) (In (Unit {0}) s true) m → Met Fit (numbered m)
  unfolding numbered ◌>>=◌
  both (ok t) (ps_ok g w) (e_ok i) = (tys_in t w.sound.constraints_on, ranges_bytes s t (i tt))
  both (err t e) (ps_err g n) (e_err i) = (tys_in t n.n_constraints, ranges_bytes s t (i tt))
  both (refused x) p e = tt

  left : Met Fit (numbered (default_num_vars s (num_vars 0 s.vars)))
  left = both _ went walked

-- ---- in the words

met : (P : d.State → Type 0) (r : core.Result ℕ Stop) (s : d.State) → Met P (outcome r s) → Settles r → P s
unfolding outcome
met P (Ok t) s p h = p
met P (Err (Failed x)) s p h = p
met P (Err (Refused x)) s p h = absurd h

seen_tys : (w : List ℕ) (u : Used) (ds : List Struct) → TysIn (seen w u ds) → TysIn (view w u)
unfolding seen with_structs TysIn
seen_tys w u ds h = h

-- the numeric variables are decided
abbrev pub Decided : State → State → core.Result Unit Stop → Type 0
Decided s t r = Added s t r (λ x. numbered (default_num_vars x (num_vars 0 x.vars)))

module _ {s t : State} {r : core.Result Unit Stop} (a : Decided s t r) {params : List (List ℕ)} (h : HoldsSound s params) where
  pub fits : Settles (zero_of r) → Fit (tables t)
  fits k =
      let ds = h.structs in
      let x : Fit (held t ds) = met Fit (zero_of r) _ (subst (λ (m : Result (d.State × ℕ)). Met Fit m) (sym (a.changed.step.is ds tt)) (left (held s ds) h.is_sound)) k in
      (seen_tys t.words.now t.used ds x.0, seen_bytes t.words.now t.used ds x.1)

  -- the declarations stay
  pub still_declared : Declared t.words.now t.used params
  still_declared = record { structs = h.structs; known = known_kept s.words.now s.used t.words.now t.used params a.changed.step.structs h.structs h.known }
