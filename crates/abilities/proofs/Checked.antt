-- 9 and 16 in list order, by the levels and the sets that are kept. Assumes nothing.
-- First one constraint: 9 where there are no levels, 16 where a mark contradicts, else nothing. Then the list: `Passed` says that the constraints before i are given.
use mathlib.Core.Path.{◌≡◌, refl, sym, ap, ◌∙◌, subst}
use mathlib.Core.Bool.{Bool, true, false, not}
use mathlib.Core.List.{List, [], ◌∷◌}
use Rattle.std.specs.Prelude.{Option, None, Some, Result, Ok, Err}
use Rattle.std.specs.Option.{is_some}
use Prim.Native.Nat.{ℕ, suc, ◌+◌, ◌≤◌, ◌<◌}
use native.Mathlib.Nat.{not-suc-le-zero}
use native.Mathlib.Decide.{ℕ_discrete}
use native.Mathlib.Numerals.{add-one}
use native.Mathlib.Omega.{arith}
use lib.ListN.{get_or, drop, drop_of_length-le}
use lib.Seq.{drop-cons}
use denote.Enum.Declared.{tag_of}
use types.Run.{OneOf}
use Rattle.definition.specs.Types as d
use Rattle.std.specs.Prelude.{if◌then◌else◌}
use Rattle.definition.specs.Types.{Struct, Constraint, runs_into_itself, ok, refused}
use Rattle.definition.specs.Store.{any_of, spanned, with_structs}
use Rattle.definition.specs.Subst.{unfold_type, reaches_itself}
use Rattle.definition.specs.Abilities.{Rule, declaration, argument, contradicted, rule}
use Rattle.definition.specs.Constraints.{is_integer, is_base, is_single, solve, missing, by_rule, in_turn, solve_ability_constraint, solve_constraint, failures}
use Rattle.definition.specs.Write.{Bytes}
use Rattle.refusals.specs.declared.Refusal.{Refusal}
use Rattle.refusals.specs.declared.Refusal.TheVariants.{RunsIntoItself, MarkContradicted}
use Rattle.theorems.proofs.SolveInTurn.{turn_first}
use Rattle.table.specs.Rows.{constraint_table}
use Rattle.names.specs.declared.AbilitySet.{AbilitySet}
use Rattle.table.specs.declared.Constraint as table
use Rattle.table.specs.declared.Constraint.TheVariants.{Ability}
use Rattle.table.specs.State.{constraint_of, seen}
use Rattle.table.specs.Did.{held, tables}
use Rattle.table.specs.declared.state.State.{State}
use Rattle.table.specs.contracts.Constraint.{the_type}
use Rattle.table.proofs.Pushed.{count_view, constraints_view, constraints_seen}
use Rattle.shapes.proofs.Tags.{plain_tags, other_constraints}
use Rattle.ends.specs.Itself.{Measured, Levels}
use Rattle.ends.proofs.Itself.{reaches_is}
use Rattle.abilities.specs.Kept.{Knows, Ends, HasSet, Kept, Inferred}
use Rattle.abilities.specs.Rules.{misses, any_misses, clashes, AskedIn, AskedKept, AllAsked, AllKept, is_contradicted, bytes_of, Given, Meets, Checked}
use Rattle.abilities.proofs.Laws.{none_of, is_false}
use Rattle.abilities.proofs.Turn.{given_ok, meets_none, meets_next}

abbrev blank : Constraint
blank = constraint_table.blank

-- ---- a constraint that asks for abilities

-- nothing is missing, so nothing is contradicted
pub nothing_missing : (s : d.State) (t a : ℕ) (b : Bool) → b ≡ any_misses s t a → not b ≡ true → false ≡ any_of (clashes s t) (missing s t a)
unfolding any_misses missing
nothing_missing s t a b e z = none_of (clashes s t) (λ ability. misses s t a ability) (sym e ∙ is_false b z)

nine_is : (s : d.State) (loc t a : ℕ) → reaches_itself s t ≡ true → solve_ability_constraint s loc t a ≡ refused runs_into_itself
unfolding solve_ability_constraint
nine_is s loc t a e = rw (e, solve_ability_constraint) refl

any_first : (g : ℕ → Bool) (x : ℕ) (xs : List ℕ) → g x ≡ true → true ≡ any_of g (x ∷ xs)
unfolding any_of
any_first g x xs e = rw (e, any_of) refl

any_next : (g : ℕ → Bool) (x : ℕ) (xs : List ℕ) → g x ≡ false → any_of g xs ≡ any_of g (x ∷ xs)
unfolding any_of
any_next g x xs e = rw (e, any_of) refl

-- the abilities of a list, each missing, of the type t
module _ (s : d.State) (loc t : ℕ) where
  abbrev why : ℕ → Rule
  why ability = rule s ability (unfold_type s (spanned s t)).value

  abbrev told : ℕ → Rule → d.Result Bytes
  told ability = by_rule s loc ability (unfold_type s (spanned s t))

  abbrev decided : ℕ → d.Result Bytes
  decided ability = told ability (why ability)

  abbrev sixteen : Bool → Result (Unit {0}) Refusal
  sixteen b = if b then Err MarkContradicted else Ok tt

  in_order : (l : List ℕ) → Meets (sixteen (any_of (clashes s t) l)) (in_turn decided l)
  unfolding any_of by_rule is_contradicted
  in_order [] = meets_none decided
  in_order (x ∷ xs) = by (in_order xs) (why x) refl
    where
      All : Bool → Type 0
      All b = Meets (sixteen b) (in_turn decided (x ∷ xs))

      Rest : Type 0
      Rest = Meets (sixteen (any_of (clashes s t) xs)) (in_turn decided xs)

      goes_on : Rest → clashes s t x ≡ false → Given (decided x) → All (any_of (clashes s t) (x ∷ xs))
      goes_on rest e g = subst All (any_next (clashes s t) x xs e) (meets_next decided x xs g (sixteen (any_of (clashes s t) xs)) rest)

      by : Rest → (r : Rule) → why x ≡ r → All (any_of (clashes s t) (x ∷ xs))
      by rest declaration e = goes_on rest (ap is_contradicted e) (given_ok (decided x) _ (ap (told x) e))
      by rest (argument place) e = goes_on rest (ap is_contradicted e) (given_ok (decided x) _ (ap (told x) e))
      by rest contradicted e = subst All (any_first (clashes s t) x xs (ap is_contradicted e)) (turn_first decided x xs (ap (told x) e))

  sixteen_is : (a : ℕ) (b : Bool) → reaches_itself s t ≡ false → b ≡ any_of (clashes s t) (missing s t a) → Meets (sixteen b) (solve_ability_constraint s loc t a)
  unfolding solve_ability_constraint
  sixteen_is a b e f = rw (f, e, solve_ability_constraint) (in_order (missing s t a))

module _ {s : State} {t : ℕ} {r : Option ℕ} (l : Levels s t s.used.nodes r) where
  pub ends_of : {n : ℕ} → r ≡ Some n → Ends s n t
  ends_of {n} z = let e = l.over n z in record { few = e.few; over = e.ends }

  pub checked_nine : (params : List (List ℕ)) (sets : List ℕ) (loc a : ℕ) → r ≡ None → Kept s params sets → Checked s params sets sets (Err RunsIntoItself) (λ s. solve_ability_constraint s loc t a) (λ x. HasSet x t)
  checked_nine params sets loc a z k = record {
    kept = k;
    still = λ x y. y;
    is = λ ds kn. nine_is (held s ds) loc t a (sym (reaches_is s t r l true (ap is_some z) ds));
    all = tt;
  }

  module _ (params : List (List ℕ)) (sets sets' : List ℕ) (loc a : ℕ) {n : ℕ} (z : r ≡ Some n) (i : Inferred s params t sets sets') (b : Bool) (f : (ds : List Struct) → Knows s params ds → b ≡ any_of (clashes (held s ds) t) (missing (held s ds) t a)) where
    by_mark : (c : Bool) → b ≡ c → (ds : List Struct) → Knows s params ds → Meets (sixteen (held s ds) loc t c) (solve_ability_constraint (held s ds) loc t a)
    by_mark c e ds k = sixteen_is (held s ds) loc t a c (sym (reaches_is s t r l false (ap is_some z) ds)) (sym e ∙ f ds k)

    pub checked_sixteen : b ≡ true → Checked s params sets sets' (Err MarkContradicted) (λ s. solve_ability_constraint s loc t a) (λ x. HasSet x t)
    checked_sixteen e = record { kept = i.kept; still = i.still; is = by_mark true e; all = tt }

    pub checked_clear : b ≡ false → Checked s params sets sets' (Ok tt) (λ s. solve_ability_constraint s loc t a) (λ x. HasSet x t)
    checked_clear e = record { kept = i.kept; still = i.still; is = by_mark false e; all = i.here }

-- ---- any constraint

-- one that asks for no abilities
pub checked_plain : (s : State) (params : List (List ℕ)) (sets : List ℕ) → Kept s params sets → (c : table.Constraint) → OneOf plain_tags (tag_of the_type c)
    → Checked s params sets sets (Ok tt) (λ s. solve_constraint s (constraint_of c)) (λ l. AskedKept l (constraint_of c))
unfolding solve_constraint bytes_of
checked_plain s params sets k = other_constraints (λ c. Checked s params sets sets (Ok tt) (λ s. solve_constraint s (constraint_of c)) (λ l. AskedKept l (constraint_of c)))
    (λ loc ty. given (λ x. solve x is_integer 1 loc ty))
    (λ loc ty. given (λ x. solve x is_integer 1 loc ty))
    (λ loc ty. given (λ x. solve x is_integer 1 loc ty))
    (λ loc ty. given (λ x. solve x is_base 2 loc ty))
    (λ loc ty. given (λ x. solve x is_single 3 loc ty))
  where
    given : (bytes : d.State → Bytes) → Checked s params sets sets (Ok tt) (λ x. ok (bytes x)) (λ l. Unit {0})
    given bytes = record { kept = k; still = λ x y. y; is = λ ds kn. refl; all = tt }

pub asked_node : (n : ℕ) (c : table.Constraint) (loc t : ℕ) (a : AbilitySet) → AskedIn n (constraint_of c) → c ≡ Ability loc t a → t < n
asked_node n c loc t a h e = subst (λ (x : table.Constraint). AskedIn n (constraint_of x)) e h

asked_still : (sets sets' : List ℕ) → ((x : ℕ) → HasSet sets x → HasSet sets' x) → (c : Constraint) → AskedKept sets c → AskedKept sets' c
asked_still sets sets' h (d.AbilityConstraint loc ty a) k = h ty k
asked_still sets sets' h (d.NumericConstraint loc ty) k = tt
asked_still sets sets' h (d.BitsConstraint loc ty) k = tt
asked_still sets sets' h (d.OrderedConstraint loc ty) k = tt
asked_still sets sets' h (d.BaseTypeConstraint loc ty) k = tt
asked_still sets sets' h (d.SingleTypeConstraint loc ty) k = tt

-- ---- the list

-- those of the list from i on
abbrev from : d.State → ℕ → d.Result Bytes
from s i = in_turn (λ c. solve_constraint s c) (drop i s.constraints)

-- the constraints before i are given, so that those from i on decide, and the sets of their types are known
pub record Passed (s : State) (params : List (List ℕ)) (sets₀ heights sets : List ℕ) (i : ℕ) : Type 0 where
  pub asked : AllAsked (tables s)
  pub measured : Measured s heights
  pub kept : Kept s params sets
  pub still : (x : ℕ) → HasSet sets₀ x → HasSet sets x
  pub le : i ≤ s.used.constraints
  pub is : (ds : List Struct) → Knows s params ds → (r : Result (Unit {0}) Refusal) → Meets r (from (held s ds) i) → Meets r (failures (held s ds))
  pub known : (j : ℕ) → j < i → AskedKept sets (get_or (tables s).constraints j blank)

pub passed_none : (s : State) (params : List (List ℕ)) (sets heights : List ℕ) → AllAsked (tables s) → Measured s heights → Kept s params sets → Passed s params sets heights sets 0
passed_none s params sets heights a m k = record { asked = a; measured = m; kept = k; still = λ x y. y; le = omega arith; is = λ ds kn r m. m; known = λ j p. absurd (not-suc-le-zero p) }

module _ {s : State} {params : List (List ℕ)} {sets₀ heights sets : List ℕ} {i : ℕ} (h : Passed s params sets₀ heights sets i) where
  -- none is left
  pub passed_all : s.used.constraints ≤ i → Checked s params sets₀ sets (Ok tt) failures (λ l. AllKept l (tables s).constraints)
  unfolding AllKept
  passed_all l = record {
    kept = h.kept;
    still = h.still;
    is = λ ds k. h.is ds k (Ok tt) (rw (drop_of_length-le (held s ds).constraints {i = i} (rw (constraints_seen s.words.now s.used ds) l)) (meets_none (λ c. solve_constraint (held s ds) c)));
    all = λ j p. h.known j (omega (arith, constraints_view s.words.now s.used));
  }

  module _ (l : i < s.used.constraints) (c : Constraint) (e : (ds : List Struct) → c ≡ get_or (held s ds).constraints i blank) where
    at_view : c ≡ get_or (tables s).constraints i blank
    unfolding seen with_structs
    at_view = e []

    pub passed_asked : AskedIn s.used.nodes c
    unfolding AllAsked
    passed_asked = rw at_view (subst (λ (n : ℕ). AskedIn n (get_or (tables s).constraints i blank)) (count_view s.words.now s.used) (h.asked i (rw (constraints_view s.words.now s.used) l)))

    here : (ds : List Struct) → drop i (held s ds).constraints ≡ c ∷ drop (suc i) (held s ds).constraints
    here ds = drop-cons (held s ds).constraints i blank (rw (constraints_seen s.words.now s.used ds) l) ∙ ap (λ (x : Constraint). x ∷ drop (suc i) (held s ds).constraints) (sym (e ds))

    pub passed_stop : (x : Refusal) (sets' : List ℕ) → Checked s params sets sets' (Err x) (λ s. solve_constraint s c) (λ x. AskedKept x c)
        → Checked s params sets₀ sets' (Err x) failures (λ x. AllKept x (tables s).constraints)
    passed_stop x sets' f = record {
      kept = f.kept;
      still = λ x y. f.still x (h.still x y);
      is = λ ds k. h.is ds k (Err x) (rw (here ds) (turn_first (λ c. solve_constraint (held s ds) c) c (drop (suc i) (held s ds).constraints) (f.is ds k)));
      all = tt;
    }

    module _ (sets' : List ℕ) (f : Checked s params sets sets' (Ok tt) (λ s. solve_constraint s c) (λ x. AskedKept x c)) where
      pub passed_more : (heights' : List ℕ) → Measured s heights' → Passed s params sets₀ heights' sets' (i + 1)
      passed_more heights' m = record {
        asked = h.asked;
        measured = m;
        kept = f.kept;
        still = λ x y. f.still x (h.still x y);
        le = omega arith;
        is = λ ds k r m. h.is ds k r (rw (here ds) (meets_next (λ c. solve_constraint (held s ds) c) c (drop (suc i) (held s ds).constraints) (f.is ds k) r (rw (add-one i) at m)));
        known = λ j p. by j p (ℕ_discrete j i);
      }
        where
          by : (j : ℕ) → j < i + 1 → Dec (j ≡ i) → AskedKept sets' (get_or (tables s).constraints j blank)
          by j p (yes y) = rw (y, ← at_view) f.all
          by j p (no y) = asked_still sets sets' f.still (get_or (tables s).constraints j blank) (h.known j (omega arith))
