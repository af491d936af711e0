-- Whether any constraint of a list asks for abilities. Assumes nothing.
-- By the list, and by the places of its constraints, from the first on.
use mathlib.Core.Path.{◌≡◌, refl, sym, ap, ◌∙◌}
use mathlib.Core.Bool.{Bool, true, false}
use mathlib.Core.List.{List, [], ◌∷◌}
use Rattle.std.specs.Prelude.{Ok}
use Prim.Native.Nat.{ℕ, zero, suc, ◌+◌, ◌<◌}
use native.Mathlib.Numerals.{add-one}
use native.Mathlib.Omega.{arith}
use lib.ListN.{length, get_or, drop, drop_of_length-le}
use lib.Seq.{drop-cons}
use Rattle.std.specs.List.{list_any, range_with_len}
use Rattle.definition.specs.Types as d
use Rattle.definition.specs.Types.{Struct, Constraint}
use Rattle.definition.specs.Store.{with_structs}
use Rattle.definition.specs.Constraints.{in_turn, solve_constraint}
use Rattle.table.specs.Rows.{constraint_table}
use Rattle.table.specs.State.{seen}
use Rattle.table.specs.Did.{held, tables}
use Rattle.table.specs.declared.state.State.{State}
use Rattle.table.proofs.Pushed.{constraints_view}
use Rattle.abilities.specs.Rules.{asks_abilities, any_asks, Given, bytes_of}
use Rattle.abilities.proofs.Turn.{meets_none, meets_next}

abbrev blank : Constraint
blank = constraint_table.blank

none_asks : any_asks [] ≡ false
unfolding any_asks
none_asks = refl

first_asks : (c : Constraint) (cs : List Constraint) → asks_abilities c ≡ true → any_asks (c ∷ cs) ≡ true
unfolding any_asks
first_asks c cs e = rw (e, any_asks) refl

later_asks : (c : Constraint) (cs : List Constraint) → asks_abilities c ≡ false → any_asks (c ∷ cs) ≡ any_asks cs
unfolding any_asks
later_asks c cs e = rw (e, any_asks) refl

-- where none asks, the one at i does not
pub asks_not : (cs : List Constraint) → any_asks cs ≡ false → (i : ℕ) → i < length cs → asks_abilities (get_or cs i constraint_table.blank) ≡ false
asks_not [] e i h = absurd (omega arith)
asks_not (c ∷ cs) e i h = by (asks_abilities c) refl i h (asks_not cs)
  where
    Rest : Type 0
    Rest = any_asks cs ≡ false → (j : ℕ) → j < length cs → asks_abilities (get_or cs j blank) ≡ false

    by : (b : Bool) → asks_abilities c ≡ b → (i : ℕ) → i < length (c ∷ cs) → Rest → asks_abilities (get_or (c ∷ cs) i blank) ≡ false
    by true z i h rest = let y : true ≡ false = sym (first_asks c cs z) ∙ e in cc
    by false z zero h rest = z
    by false z (suc i) h rest = rest (sym (later_asks c cs z) ∙ e) i (omega arith)

plain_clear : (s : d.State) (c : Constraint) → asks_abilities c ≡ false → Given (solve_constraint s c)
unfolding asks_abilities solve_constraint bytes_of
plain_clear s (d.AbilityConstraint loc ty a) e = cc
plain_clear s (d.NumericConstraint loc ty) e = refl
plain_clear s (d.BitsConstraint loc ty) e = refl
plain_clear s (d.OrderedConstraint loc ty) e = refl
plain_clear s (d.BaseTypeConstraint loc ty) e = refl
plain_clear s (d.SingleTypeConstraint loc ty) e = refl

-- where none asks, none is refused
pub asks_clear : (s : d.State) (cs : List Constraint) → any_asks cs ≡ false → Given (in_turn (λ c. solve_constraint s c) cs)
asks_clear s [] e = meets_none (λ c. solve_constraint s c)
asks_clear s (c ∷ cs) e = by (asks_abilities c) refl (asks_clear s cs)
  where
    by : (b : Bool) → asks_abilities c ≡ b → (any_asks cs ≡ false → Given (in_turn (λ c. solve_constraint s c) cs)) → Given (in_turn (λ c. solve_constraint s c) (c ∷ cs))
    by true z rest = let y : true ≡ false = sym (first_asks c cs z) ∙ e in cc
    by false z rest = meets_next (λ c. solve_constraint s c) c cs (plain_clear s c z) (Ok tt) (rest (sym (later_asks c cs z) ∙ e))

-- ---- the list, by the places of its constraints

abbrev pub asks_at : List Constraint → ℕ → Bool
asks_at cs i = asks_abilities (get_or cs i blank)

asks_from : (cs : List Constraint) (n a : ℕ) → a + n ≡ length cs → list_any (asks_at cs) (range_with_len a n) ≡ any_asks (drop a cs)
asks_from cs zero a e = sym (ap any_asks (drop_of_length-le cs {i = a} (omega arith)) ∙ none_asks)
asks_from cs (suc n) a e = by (asks_at cs a) refl (asks_from cs n (a + 1) (omega arith))
  where
    here : drop a cs ≡ get_or cs a blank ∷ drop (suc a) cs
    here = drop-cons cs a blank (omega arith)

    by : (b : Bool) → asks_at cs a ≡ b → list_any (asks_at cs) (range_with_len (a + 1) n) ≡ any_asks (drop (a + 1) cs) → list_any (asks_at cs) (range_with_len a (suc n)) ≡ any_asks (drop a cs)
    by true z rest = rw z (sym (ap any_asks here ∙ first_asks (get_or cs a blank) (drop (suc a) cs) z))
    by false z rest = rw z (rest ∙ ap (λ (k : ℕ). any_asks (drop k cs)) (add-one a) ∙ sym (ap any_asks here ∙ later_asks (get_or cs a blank) (drop (suc a) cs) z))

-- one constraint that is read
pub asked_at : (s : State) (i : ℕ) (c : Constraint) → ((ds : List Struct) → c ≡ get_or (held s ds).constraints i blank) → asks_abilities c ≡ asks_at (tables s).constraints i
unfolding seen with_structs
asked_at s i c e = ap asks_abilities (e [])

pub asks_all : (s : State) → list_any (asks_at (tables s).constraints) (range_with_len 0 s.used.constraints) ≡ any_asks (tables s).constraints
asks_all s = asks_from (tables s).constraints s.used.constraints 0 (omega (arith, constraints_view s.words.now s.used))
