-- What is written with all locations set to 0 is what is written, with its location fields set to 0. Assumes nothing.
-- By rows of types: what is written is blanked part by part as it is awaited. One type by its node's number, whose parts are smaller; then errors, and SV's failures.
use mathlib.Core.Path.{◌≡◌, refl, ap, ◌∙◌}
use mathlib.Core.Bool.{Bool, true, false}
use mathlib.Core.List.{List, [], ◌∷◌, ◌++◌, map, append_assoc, append-nil}
use Prim.Native.Nat.{ℕ, zero, suc, ◌+◌, ◌*◌, ◌/◌, ◌%◌, ◌<◌}
use native.Mathlib.Omega.{arith}
use lib.Dec.{eqb}
use lib.ListN.{length, replicate}
use Rattle.std.specs.Prelude.{if◌then◌else◌}
use Rattle.definition.specs.Types.{TypeName, Multiple, Builtin, ModuleType, UnitType, Ref, Param, Apply, Var, Anything, UnresolvedError, TypeValue, Spanned, State}
use Rattle.definition.specs.Types.{Constraint, AbilityConstraint, NumericConstraint, BitsConstraint, OrderedConstraint, BaseTypeConstraint, SingleTypeConstraint, TypingError, SubtypeError, Incompatible, ArityMismatch, RecursiveType, Refusal, runs_into_itself, Result, ok, refused, ◌>>=◌}
use Rattle.definition.specs.Store.{count, type_at, spanned}
use Rattle.definition.specs.Subst.{parts, unfold_type, reaches_itself}
use Rattle.definition.specs.Write.{Bytes, u16, u32, apply_head, head, each, write_down, write_spanned, write, write_error}
use Rattle.definition.specs.Trees.{arity}
use Rattle.definition.specs.Constraints.{is_integer, is_base, is_single, failure, solve, missing, ability_failure, by_rule, in_turn, solve_ability_constraint, solve_constraint}
use Rattle.definition.specs.Abilities.{Rule, declaration, argument, contradicted, rule}
use Rattle.definition.specs.Step.{number_of_error}
use Rattle.definition.specs.Locations.{Part, type, types, failures, rule as rule_part, loc_field, u32_field, tag_fields, tag_widths, expand, blank, shown_fields}
use Rattle.theorems.proofs.DemandOrder.{All, All_map}
use Rattle.theorems.proofs.Erase.{erase_spanned, erase_constraint, erase_error, erase, count_erase, spanned_erase}
use Rattle.theorems.proofs.EraseJoin.{unfold_type_erase, itself_erase}
use Rattle.theorems.proofs.EraseAbilities.{rule_erase, missing_erase}
use Rattle.theorems.proofs.SolveInferred.{unfolded as as_unfolded}
use Rattle.theorems.proofs.SolveInTurn.{turn_map}

-- a struct's number is two bytes
abbrev pub NameFits : TypeName → Type 0
NameFits (Multiple n) = Unit {0}
NameFits (Builtin b) = Unit {0}
NameFits (ModuleType n) = n < 65536

-- failures, and those with locations set to 0, which are the same with their location fields set to 0, whatever follows; or one refusal
pub data Shown (S : State) : Result Bytes → Result Bytes → Type 0 where
  shown_told : {b b' : Bytes} → ((rest : Bytes) → blank S (b ++ rest) (failures ∷ []) ≡ b' ++ blank S rest (failures ∷ [])) → Shown S (ok b) (ok b')
  shown_refused : {x : Refusal} → Shown S (refused x) (refused x)

turn_shown : {A : Type 0} (S : State) (f f' : A → Result Bytes) → ((a : A) → Shown S (f a) (f' a)) → (l : List A) → Shown S (in_turn f l) (in_turn f' l)
unfolding in_turn ◌>>=◌
turn_shown S f f' h [] = shown_told (λ rest. refl)
turn_shown S f f' h (a ∷ l) = go (h a) (turn_shown S f f' h l)
  where
    go : {m m' n n' : Result Bytes} → Shown S m m' → Shown S n n' → Shown S (m >>= λ failures. n >>= λ more. ok (failures ++ more)) (m' >>= λ failures. n' >>= λ more. ok (failures ++ more))
    go (shown_told {b = b} {b' = b'} p) (shown_told {b = c} {b' = c'} q) =
        shown_told (λ rest. rw (append_assoc b c rest, append_assoc b' c' (blank S rest (failures ∷ []))) (p (c ++ rest) ∙ ap (λ (l : Bytes). b' ++ l) (q rest)))
    go (shown_told p) shown_refused = shown_refused
    go shown_refused q = shown_refused

module _ (S : State) where
  -- ---- a row of types

  abbrev row : List Part
  row = types ∷ []

  head_row : (l : ℕ) (x : TypeValue) (rest : Bytes) → blank S (head l x ++ rest) row ≡ head 0 x ++ blank S rest row
  unfolding head apply_head u32 u16 blank expand loc_field tag_widths
  head_row l UnitType rest = refl
  head_row l (Ref m t) rest = refl
  head_row l (Param id a) rest = refl
  head_row l (Apply k (Builtin b) tys) rest = refl
  head_row l (Apply k (Multiple n) tys) rest = refl
  head_row l (Apply k (ModuleType n) tys) rest = refl
  head_row l (Var v) rest = refl
  head_row l Anything rest = refl
  head_row l UnresolvedError rest = refl

  each_row : (f f' : ℕ → Bytes) → ((p : ℕ) (rest : Bytes) → blank S (f p ++ rest) row ≡ f' p ++ blank S rest row) → (ps : List ℕ) (rest : Bytes) → blank S (each f ps ++ rest) row ≡ each f' ps ++ blank S rest row
  unfolding each
  each_row f f' h [] rest = refl
  each_row f f' h (p ∷ ps) rest = rw (append_assoc (f p) (each f ps) rest, append_assoc (f' p) (each f' ps) (blank S rest row)) (h p (each f ps ++ rest) ∙ ap (λ (l : Bytes). f' p ++ l) (each_row f f' h ps rest))

  down_row : (n : ℕ) (s : State) (t : Spanned TypeValue) (rest : Bytes) → blank S (write_down n s t ++ rest) row ≡ write_down n (erase s) (erase_spanned t) ++ blank S rest row
  unfolding write_down
  down_row zero s t rest = refl
  down_row (suc n) s t rest =
      let f : ℕ → Bytes = λ p. write_down n s (spanned s p) in
      let f' : ℕ → Bytes = λ p. write_down n (erase s) (spanned (erase s) p) in
      rw (append_assoc (head t.loc t.value) (each f (parts t.value)) rest, append_assoc (head 0 t.value) (each f' (parts t.value)) (blank S rest row)) (
      head_row t.loc t.value (each f (parts t.value) ++ rest) ∙ ap (λ (l : Bytes). head 0 t.value ++ l) (each_row f f' (λ p rest. rw (spanned_erase s p) (down_row n s (spanned s p) rest)) (parts t.value) rest))

  spanned_row_on : (s : State) (t : Spanned TypeValue) (rest : Bytes) → blank S (write_spanned s t ++ rest) row ≡ write_spanned (erase s) (erase_spanned t) ++ blank S rest row
  unfolding write_spanned
  spanned_row_on s t rest = rw (count_erase s) (down_row (suc (count s)) s t rest)

  write_row_on : (s : State) (t : ℕ) (rest : Bytes) → blank S (write s t ++ rest) row ≡ write (erase s) t ++ blank S rest row
  unfolding write
  write_row_on s t rest = rw (spanned_erase s t) (spanned_row_on s (spanned s t) rest)

  nothing_left : (l m : Bytes) → blank S (l ++ []) row ≡ m ++ blank S [] row → blank S l row ≡ m
  unfolding blank
  nothing_left l m e = rw (append-nil l, append-nil m) at e

  pub spanned_row : (s : State) (t : Spanned TypeValue) → blank S (write_spanned s t) row ≡ write_spanned (erase s) (erase_spanned t)
  spanned_row s t = nothing_left _ _ (spanned_row_on s t [])

  pub write_row : (s : State) (t : ℕ) → blank S (write s t) row ≡ write (erase s) t
  write_row s t = nothing_left _ _ (write_row_on s t [])

  pub var_row : (l v : ℕ) → blank S (head l (Var v)) row ≡ head 0 (Var v)
  var_row l v = nothing_left _ _ (head_row l (Var v) [])

  two_row : (s : State) (t u : ℕ) → blank S (write s t ++ write s u) row ≡ write (erase s) t ++ write (erase s) u
  two_row s t u = write_row_on s t (write s u) ∙ ap (λ (l : Bytes). write (erase s) t ++ l) (write_row s u)

  pub error_shown : (success : List Part) (s : State) (e : TypingError) → blank S (write_error s e) (shown_fields success (number_of_error e)) ≡ write_error (erase s) (erase_error e)
  unfolding write_error number_of_error shown_fields u32 blank loc_field expand
  error_shown success s (SubtypeError t u) = two_row s t u
  error_shown success s (Incompatible t u) = two_row s t u
  error_shown success s (ArityMismatch t u) = two_row s t u
  error_shown success s (RecursiveType loc) = refl

  -- ---- one type: its arities are the declared ones

  abbrev pub Fits : TypeValue → Type 0
  Fits UnitType = Unit {0}
  Fits (Ref m t) = Unit {0}
  Fits (Param id a) = Unit {0}
  Fits (Apply k n tys) = (length tys ≡ arity S n) × NameFits n
  Fits (Var v) = Unit {0}
  Fits Anything = Unit {0}
  Fits UnresolvedError = Unit {0}

  u16_back : (n : ℕ) → n < 65536 → n % 256 + 256 * (n / 256 % 256) ≡ n
  u16_back n h = omega arith

  pub head_type : (l : ℕ) (x : TypeValue) → Fits x → (rest : Bytes) (more : List Part) → blank S (head l x ++ rest) (type ∷ more) ≡ head 0 x ++ blank S rest (replicate (length (parts x)) type ++ more)
  unfolding head apply_head u32 u16 blank expand loc_field u32_field tag_fields parts arity
  head_type l UnitType h rest more = refl
  head_type l (Ref m t) h rest more = refl
  head_type l (Param id a) h rest more = refl
  head_type l (Apply k (Builtin b) tys) h rest more = rw h.0 refl
  head_type l (Apply k (Multiple n) tys) h rest more = rw h.0 refl
  head_type l (Apply k (ModuleType n) tys) h rest more = rw (h.0, u16_back n h.1) refl
  head_type l (Var v) h rest more = refl
  head_type l Anything h rest more = refl
  head_type l UnresolvedError h rest more = refl

  each_type : (f f' : ℕ → Bytes) (P : ℕ → Type 0) → ((p : ℕ) → P p → (rest : Bytes) (more : List Part) → blank S (f p ++ rest) (type ∷ more) ≡ f' p ++ blank S rest more)
      → (ps : List ℕ) → All P ps → (rest : Bytes) (more : List Part) → blank S (each f ps ++ rest) (replicate (length ps) type ++ more) ≡ each f' ps ++ blank S rest more
  unfolding each
  each_type f f' P h [] a rest more = refl
  each_type f f' P h (p ∷ ps) a rest more = rw (append_assoc (f p) (each f ps) rest, append_assoc (f' p) (each f' ps) (blank S rest more)) (
      h p a.0 (each f ps ++ rest) (replicate (length ps) type ++ more) ∙ ap (λ (l : Bytes). f' p ++ l) (each_type f f' P h ps a.1 rest more))

  -- a state whose types can be told apart by the declarations of S
  pub record Fitting (s : State) : Type 0 where
    pub fits : (t : ℕ) → Fits (type_at s t)
    pub below : (t : ℕ) → All (λ p. p < t) (parts (type_at s t))
    pub inside : (t : ℕ) → All (λ p. p < count s) (parts (type_at s t))

  module _ (s : State) (w : Fitting s) where
    -- the parts of a type written one level less
    abbrev PartsShown : ℕ → Type 0
    PartsShown n = (p : ℕ) → p < n → (rest : Bytes) (more : List Part) → blank S (write_down n s (spanned s p) ++ rest) (type ∷ more) ≡ write_down n (erase s) (spanned (erase s) p) ++ blank S rest more

    level : (n : ℕ) → PartsShown n → (t : Spanned TypeValue) → Fits t.value → All (λ p. p < n) (parts t.value) → (rest : Bytes) (more : List Part)
        → blank S (write_down (suc n) s t ++ rest) (type ∷ more) ≡ write_down (suc n) (erase s) (erase_spanned t) ++ blank S rest more
    unfolding write_down
    level n h t f a rest more =
        let g : ℕ → Bytes = λ p. write_down n s (spanned s p) in
        let g' : ℕ → Bytes = λ p. write_down n (erase s) (spanned (erase s) p) in
        rw (append_assoc (head t.loc t.value) (each g (parts t.value)) rest, append_assoc (head 0 t.value) (each g' (parts t.value)) (blank S rest more)) (
        head_type t.loc t.value f (each g (parts t.value) ++ rest) more ∙ ap (λ (l : Bytes). head 0 t.value ++ l) (each_type g g' (λ p. p < n) h (parts t.value) a rest more))

    parts_shown : (n : ℕ) → PartsShown n
    unfolding spanned
    parts_shown zero p l rest more = absurd (omega arith)
    parts_shown (suc n) p l rest more = rw (spanned_erase s p) (
        level n (parts_shown n) (spanned s p) (w.fits p) (All_map {P = λ q. q < p} (λ q k. omega arith) (parts (type_at s p)) (w.below p)) rest more)

    spanned_type : (t : Spanned TypeValue) → Fits t.value → All (λ p. p < count s) (parts t.value) → (rest : Bytes) (more : List Part)
        → blank S (write_spanned s t ++ rest) (type ∷ more) ≡ write_spanned (erase s) (erase_spanned t) ++ blank S rest more
    unfolding write_spanned
    spanned_type t f a rest more = rw (count_erase s) (level (count s) (parts_shown (count s)) t f a rest more)

    -- ---- SV's failures

    abbrev Written : Spanned TypeValue → Type 0
    Written t = Fits t.value × All (λ p. p < count s) (parts t.value)

    unfolded : (t : ℕ) → Written (unfold_type s (spanned s t))
    unfolding parts
    unfolded t = as_unfolded s (λ x. Fits x × All (λ p. p < count s) (parts x)) (tt, tt) (λ u. (w.fits u, w.inside u)) t

    abbrev failing : List Part
    failing = failures ∷ []

    failure_shown : (code loc : ℕ) → eqb code 4 ≡ false → (t : Spanned TypeValue) → Written t → (rest : Bytes)
        → blank S (failure s code loc t ++ rest) failing ≡ failure (erase s) code 0 (erase_spanned t) ++ blank S rest failing
    unfolding failure u32 blank expand loc_field
    failure_shown code loc e t h rest = rw e (ap (λ (l : Bytes). code ∷ 0 ∷ 0 ∷ 0 ∷ 0 ∷ l) (spanned_type t h.0 h.1 rest failing))

    solve_shown : (good : TypeValue → Bool) (code loc ty : ℕ) → eqb code 4 ≡ false → Shown S (ok (solve s good code loc ty)) (ok (solve (erase s) good code 0 ty))
    unfolding solve
    solve_shown good code loc ty e = rw (spanned_erase s ty, unfold_type_erase s (spanned s ty)) (shown_told (go (good (unfold_type s (spanned s ty)).value)))
      where
        go : (b : Bool) (rest : Bytes) → blank S ((if b then [] else failure s code loc (unfold_type s (spanned s ty))) ++ rest) failing ≡ (if b then [] else failure (erase s) code 0 (erase_spanned (unfold_type s (spanned s ty)))) ++ blank S rest failing
        go true rest = refl
        go false rest = failure_shown code loc e (unfold_type s (spanned s ty)) (unfolded ty) rest

    -- code 4: the rule is one byte, or two
    ability_shown : (loc ability : ℕ) (t : Spanned TypeValue) → Written t → (why : Bytes) → ((rest : Bytes) → blank S (why ++ rest) (rule_part ∷ []) ≡ why ++ blank S rest failing) → (rest : Bytes)
        → blank S (ability_failure s loc ability t why ++ rest) failing ≡ ability_failure (erase s) 0 ability (erase_spanned t) why ++ blank S rest failing
    unfolding ability_failure u32 blank expand loc_field
    ability_shown loc ability t h why f rest =
        rw (append_assoc (write_spanned s t) why rest, append_assoc (write_spanned (erase s) (erase_spanned t)) why (blank S rest failing))
        (ap (λ (l : Bytes). 4 ∷ 0 ∷ 0 ∷ 0 ∷ 0 ∷ ability ∷ l) (spanned_type t h.0 h.1 (why ++ rest) (rule_part ∷ []) ∙ ap (λ (l : Bytes). write_spanned (erase s) (erase_spanned t) ++ l) (f rest)))

    rule_shown : (loc ability : ℕ) (t : Spanned TypeValue) → Written t → (r : Rule) → Shown S (by_rule s loc ability t r) (by_rule (erase s) 0 ability (erase_spanned t) r)
    unfolding by_rule blank expand
    rule_shown loc ability t h declaration = shown_told (ability_shown loc ability t h _ (λ rest. refl))
    rule_shown loc ability t h (argument place) = shown_told (ability_shown loc ability t h _ (λ rest. refl))
    rule_shown loc ability t h contradicted = shown_refused

    abilities_shown : (loc ty wanted : ℕ) → Shown S (solve_ability_constraint s loc ty wanted) (solve_ability_constraint (erase s) 0 ty wanted)
    unfolding solve_ability_constraint
    abilities_shown loc ty wanted = unless_shown (reaches_itself s ty) (reaches_itself (erase s) ty) (itself_erase s ty) (rw (missing_erase s ty wanted) (turn_shown S _ _ one (missing s ty wanted)))
      where
        one : (ability : ℕ) → Shown S (by_rule s loc ability (unfold_type s (spanned s ty)) (rule s ability (unfold_type s (spanned s ty)).value))
            (by_rule (erase s) 0 ability (unfold_type (erase s) (spanned (erase s) ty)) (rule (erase s) ability (unfold_type (erase s) (spanned (erase s) ty)).value))
        one ability = rw (rule_erase s ability ty, spanned_erase s ty, unfold_type_erase s (spanned s ty)) (rule_shown loc ability (unfold_type s (spanned s ty)) (unfolded ty) (rule s ability (unfold_type s (spanned s ty)).value))

        unless_shown : {m m' : Result Bytes} (b b' : Bool) → b' ≡ b → Shown S m m' → Shown S (elim b [ true ↦ refused runs_into_itself | false ↦ m ]) (elim b' [ true ↦ refused runs_into_itself | false ↦ m' ])
        unless_shown true b' e h = rw e shown_refused
        unless_shown false b' e h = rw e h

    constraint_shown : (c : Constraint) → Shown S (solve_constraint s c) (solve_constraint (erase s) (erase_constraint c))
    unfolding solve_constraint
    constraint_shown (AbilityConstraint loc ty a) = abilities_shown loc ty a
    constraint_shown (NumericConstraint loc ty) = solve_shown is_integer 1 loc ty refl
    constraint_shown (BitsConstraint loc ty) = solve_shown is_integer 1 loc ty refl
    constraint_shown (OrderedConstraint loc ty) = solve_shown is_integer 1 loc ty refl
    constraint_shown (BaseTypeConstraint loc ty) = solve_shown is_base 2 loc ty refl
    constraint_shown (SingleTypeConstraint loc ty) = solve_shown is_single 3 loc ty refl

    pub constraints_shown : (cs : List Constraint) → Shown S (in_turn (λ c. solve_constraint s c) cs) (in_turn (λ c. solve_constraint (erase s) c) (map erase_constraint cs))
    constraints_shown cs = rw (turn_map (λ c. solve_constraint (erase s) c) erase_constraint cs) (turn_shown S _ _ constraint_shown cs)
