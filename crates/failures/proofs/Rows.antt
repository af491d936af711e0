-- The failures of a constraint in four rows, and of a list of constraints, as pieces. Assumes nothing.
use mathlib.Core.Path.{◌≡◌, refl, sym, ap, ◌∙◌, subst}
use mathlib.Core.List.{List, [], ◌++◌}
use Prim.Native.Nat.{ℕ, zero, suc, ◌+◌, ◌≤◌, ◌<◌}
use native.Mathlib.Omega.{arith}
use native.Mathlib.Numerals.{add-one}
use lib.ListN.{length, get_or, drop, drop_of_length-le}
use lib.Seq.{drop-cons}
use lib.Dec.{eqb}
use Rattle.definition.specs.Types as d
use Rattle.std.specs.Prelude.{if◌then◌else◌, Option}
use Rattle.definition.specs.Types.{Struct, Constraint}
use Rattle.definition.specs.Store.{with_structs}
use Rattle.definition.specs.Abilities.{all, has}
use Rattle.definition.specs.Constraints.{solve_constraint, failures}
use Rattle.definition.specs.Write.{Bytes, each}
use Rattle.table.specs.Rows.{constraint_table}
use Rattle.table.specs.State.{seen}
use Rattle.table.specs.Did.{held, tables}
use Rattle.table.specs.declared.state.State.{State}
use Rattle.table.proofs.Pushed.{count_view, constraints_view, constraints_seen}
use Rattle.failing.specs.Failing.{report, TyIn}
use Rattle.constraints.specs.Lacking.{row, IsAbility, Lacking, AskedReady, AllReady}
use Rattle.failing.specs.declared.Failing.{Failing}
use Rattle.abilities.specs.Kept.{Knows}
use Rattle.abilities.specs.Rules.{bytes_of, Given}
use Rattle.abilities.proofs.Laws.{four}
use Rattle.abilities.proofs.Turn.{each_bytes, turn_each, given_at}
use Rattle.constraints.proofs.Lacks.{four_rows}
use Rattle.failures.specs.Report.{TysIn, row_count}
use Rattle.failures.proofs.Series.{Pieces}

abbrev blank : Constraint
blank = constraint_table.blank

-- ---- a constraint of the list

module _ (s : State) (i : ℕ) (c : Constraint) (lt : i < s.used.constraints) (e : (ds : List Struct) → c ≡ get_or (held s ds).constraints i blank) where
  pub ty_in : TysIn (tables s) → TyIn s.used.nodes c
  unfolding TysIn seen with_structs
  ty_in h = rw (e []) (subst (λ (n : ℕ). TyIn n (get_or (tables s).constraints i blank)) (count_view s.words.now s.used) (h i (rw (constraints_view s.words.now s.used) lt)))

  pub ready_in : (params : List (List ℕ)) (sets : List ℕ) → AllReady s params sets (tables s).constraints → AskedReady s params sets c
  unfolding AllReady seen with_structs
  ready_in params sets h = rw (e []) (h i (rw (constraints_view s.words.now s.used) lt))

  pub given_in : (params : List (List ℕ)) → ((ds : List Struct) → Knows s params ds → Given (failures (held s ds))) → (ds : List Struct) → Knows s params ds → Given (solve_constraint (held s ds) c)
  given_in params g ds k = rw (e ds) (given_at (λ c. solve_constraint (held s ds) c) (held s ds).constraints (g ds k) i blank (rw (constraints_seen s.words.now s.used ds) lt))

-- ---- four rows, of which some may hold a failure

pub is_ability : (k : ℕ) → k < 4 → IsAbility (get_or four k 0)
unfolding has all
is_ability zero h = record { some_bit = omega arith; in_all = refl }
is_ability (suc zero) h = record { some_bit = omega arith; in_all = refl }
is_ability (suc (suc zero)) h = record { some_bit = omega arith; in_all = refl }
is_ability (suc (suc (suc zero))) h = record { some_bit = omega arith; in_all = refl }
is_ability (suc (suc (suc (suc k)))) h = absurd (omega arith)

each_cons : (f : ℕ → Bytes) (l : List ℕ) (i : ℕ) → i < length l → each f (drop i l) ≡ f (get_or l i 0) ++ each f (drop (i + 1) l)
unfolding each
each_cons f l i lt = rw (drop-cons l i 0 lt, add-one i) refl

each_none : (f : ℕ → Bytes) (l : List ℕ) (i : ℕ) → length l ≤ i → each f (drop i l) ≡ []
unfolding each
each_none f l i le = rw (drop_of_length-le l {i = i} le) refl

-- bytes in the first row only
after_first : (b : Bytes) (i : ℕ) → 1 ≤ i → each (λ ability. if eqb ability 1 then b else []) (drop i four) ≡ []
unfolding each
after_first b zero le = absurd (omega arith)
after_first b (suc zero) le = refl
after_first b (suc (suc zero)) le = refl
after_first b (suc (suc (suc zero))) le = refl
after_first b (suc (suc (suc (suc i)))) le = each_none (λ ability. if eqb ability 1 then b else []) four (suc (suc (suc (suc i)))) (omega arith)

after_rows : (s : d.State) (c : Constraint) (i : ℕ) → row_count c ≤ i → each (λ ability. row s c ability) (drop i four) ≡ []
unfolding row
after_rows s (d.AbilityConstraint loc ty a) i le = each_none _ four i le
after_rows s (d.NumericConstraint loc ty) i le = after_first _ i le
after_rows s (d.BitsConstraint loc ty) i le = after_first _ i le
after_rows s (d.OrderedConstraint loc ty) i le = after_first _ i le
after_rows s (d.BaseTypeConstraint loc ty) i le = after_first _ i le
after_rows s (d.SingleTypeConstraint loc ty) i le = after_first _ i le

module _ (s : State) (c : Constraint) where
  abbrev pub all_rows : List Struct → Bytes
  all_rows ds = bytes_of (solve_constraint (held s ds) c)

  unfoldable pub one_row : List Struct → ℕ → Bytes
  one_row ds k = row (held s ds) c (get_or four k 0)

  unfoldable pub rows_from : List Struct → ℕ → Bytes
  rows_from ds k = each (λ ability. row (held s ds) c ability) (drop k four)

  pub row_pieces : (params : List (List ℕ)) → ((ds : List Struct) → Knows s params ds → Given (solve_constraint (held s ds) c)) → (n : ℕ) → (n ≡ row_count c) × (n ≤ 4) → Pieces (Knows s params) n one_row rows_from all_rows
  unfolding one_row rows_from
  row_pieces params g n h = record {
    first = λ ds k. sym (four_rows (held s ds) c (g ds k));
    more = λ ds i lt. each_cons (λ ability. row (held s ds) c ability) four i (omega (arith, h.1));
    none = λ ds i le. after_rows (held s ds) c i (omega (arith, h.0));
  }

  pub row_is : (params : List (List ℕ)) (f : Option Failing) (ability i : ℕ) → Lacking s params f (λ x. row x c ability) → ability ≡ get_or four i 0
      → (ds : List Struct) → Knows s params ds → report f (held s ds) ≡ one_row ds i
  unfolding one_row
  row_is params f ability i h e ds k = h.is ds k ∙ ap (row (held s ds) c) e

-- ---- the constraints of the list

module _ (s : d.State) where
  abbrev one_of : Constraint → d.Result Bytes
  one_of c = solve_constraint s c

  bytes_cons : (l : List Constraint) (i : ℕ) → i < length l → each_bytes one_of (drop i l) ≡ bytes_of (one_of (get_or l i blank)) ++ each_bytes one_of (drop (i + 1) l)
  unfolding each_bytes
  bytes_cons l i lt = rw (drop-cons l i blank lt, add-one i) refl

  bytes_none : (l : List Constraint) (i : ℕ) → length l ≤ i → each_bytes one_of (drop i l) ≡ []
  unfolding each_bytes
  bytes_none l i le = rw (drop_of_length-le l {i = i} le) refl

module _ (s : State) where
  abbrev pub all_failures : List Struct → Bytes
  all_failures ds = bytes_of (failures (held s ds))

  unfoldable pub one_constraint : List Struct → ℕ → Bytes
  one_constraint ds i = bytes_of (solve_constraint (held s ds) (get_or (held s ds).constraints i blank))

  unfoldable pub failures_from : List Struct → ℕ → Bytes
  failures_from ds i = each_bytes (λ c. solve_constraint (held s ds) c) (drop i (held s ds).constraints)

  pub list_pieces : (params : List (List ℕ)) → ((ds : List Struct) → Knows s params ds → Given (failures (held s ds))) → Pieces (Knows s params) s.used.constraints one_constraint failures_from all_failures
  unfolding one_constraint failures_from
  list_pieces params g = record {
    first = λ ds k. sym (turn_each (λ c. solve_constraint (held s ds) c) (held s ds).constraints (g ds k));
    more = λ ds i lt. bytes_cons (held s ds) (held s ds).constraints i (rw (constraints_seen s.words.now s.used ds) lt);
    none = λ ds i le. bytes_none (held s ds) (held s ds).constraints i (rw (constraints_seen s.words.now s.used ds) le);
  }

  pub constraint_is : (params : List (List ℕ)) (c : Constraint) (i : ℕ) → ((ds : List Struct) → c ≡ get_or (held s ds).constraints i blank)
      → (ds : List Struct) → Knows s params ds → bytes_of (solve_constraint (held s ds) c) ≡ one_constraint ds i
  unfolding one_constraint
  constraint_is params c i e ds k = ap (λ (c : Constraint). bytes_of (solve_constraint (held s ds) c)) (e ds)
