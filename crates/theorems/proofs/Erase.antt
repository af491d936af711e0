-- A state with every location set to 0, and what the operations of the state do to it. Assumes nothing.
-- First what is read of an erased state, then each change of the state: erased before or after, it is the same.
use mathlib.Core.Path.{◌≡◌, refl, ap}
use mathlib.Core.Bool.{Bool, true, false}
use mathlib.Core.List.{List, [], ◌∷◌, ◌++◌, map, map-append}
use Rattle.std.specs.Prelude.{Option, None, Some}
use Prim.Native.Nat.{ℕ, zero, suc, ◌+◌}
use lib.ListN.{length, get_or, set, length-map, get_or-map}
use lib.Dec.{leb, ltb}
use Rattle.definition.specs.Types.{Shape, UnitType, Ref, Param, Apply, Var, Anything, UnresolvedError, TypeValue, Spanned, Places, Node, Cell, unbound, State}
use Rattle.definition.specs.Types.{Constraint, AbilityConstraint, NumericConstraint, BitsConstraint, OrderedConstraint, BaseTypeConstraint, SingleTypeConstraint}
use Rattle.std.specs.Prelude.{if◌then◌else◌}
use Rattle.definition.specs.Types.{max_nodes, max_args, max_vars, max_constraints, max_structs, TypingError, SubtypeError, Incompatible, ArityMismatch, RecursiveType, Refusal, Result, ok, err, refused, ◌>>=◌}
use Rattle.definition.specs.Store.{count, taken, nowhere, args_at, with_args, node, type_at, loc_of, spanned, get, num_loc, with_vars, with_constraints, with_structs, insert, args_of, with_node, sp, with_var, next_tvar, add_constraint, declare, map_types, any_of, all_of, need_of}

-- ---- locations set to 0

abbrev pub erase_node : Node → Node
erase_node n = record { loc = 0; value = n.value }

abbrev pub erase_spanned : Spanned TypeValue → Spanned TypeValue
erase_spanned t = record { loc = 0; value = t.value }

abbrev pub erase_mark : Option ℕ → Option ℕ
erase_mark None = None
erase_mark (Some loc) = Some 0

abbrev pub erase_cell : Cell → Cell
erase_cell c = record { binding = c.binding; numeric = erase_mark c.numeric; need = c.need }

abbrev pub erase_constraint : Constraint → Constraint
erase_constraint (AbilityConstraint loc ty abilities) = AbilityConstraint 0 ty abilities
erase_constraint (NumericConstraint loc ty) = NumericConstraint 0 ty
erase_constraint (BitsConstraint loc ty) = BitsConstraint 0 ty
erase_constraint (OrderedConstraint loc ty) = OrderedConstraint 0 ty
erase_constraint (BaseTypeConstraint loc ty) = BaseTypeConstraint 0 ty
erase_constraint (SingleTypeConstraint loc ty) = SingleTypeConstraint 0 ty

abbrev pub erase_error : TypingError → TypingError
erase_error (SubtypeError t1 t2) = SubtypeError t1 t2
erase_error (Incompatible t1 t2) = Incompatible t1 t2
erase_error (ArityMismatch t1 t2) = ArityMismatch t1 t2
erase_error (RecursiveType loc) = RecursiveType 0

unfoldable pub erase : State → State
erase s = record { nodes = map erase_node s.nodes; args = s.args; vars = map erase_cell s.vars; constraints = map erase_constraint s.constraints; structs = s.structs }

-- ---- what is read of it

module _ (s : State) where
  pub count_erase : count (erase s) ≡ count s
  unfolding erase
  count_erase = length-map s.nodes erase_node

  pub taken_erase : taken (erase s) ≡ taken s
  unfolding erase
  taken_erase = length-map s.vars erase_cell

  pub args_erase : (erase s).args ≡ s.args
  unfolding erase
  args_erase = refl

  pub structs_erase : (erase s).structs ≡ s.structs
  unfolding erase
  structs_erase = refl

  pub constraints_erase : length (erase s).constraints ≡ length s.constraints
  unfolding erase
  constraints_erase = length-map s.constraints erase_constraint

  pub node_erase : (t : ℕ) → node (erase s) t ≡ erase_node (node s t)
  unfolding node erase
  node_erase t = get_or-map erase_node s.nodes t nowhere

  with_args_erase : (x : Shape Places) → with_args (erase s) x ≡ with_args s x
  unfolding with_args args_at erase
  with_args_erase UnitType = refl
  with_args_erase (Ref m t) = refl
  with_args_erase (Param id a) = refl
  with_args_erase (Apply k n p) = refl
  with_args_erase (Var v) = refl
  with_args_erase Anything = refl
  with_args_erase UnresolvedError = refl

  pub value_erase : (t : ℕ) → type_at (erase s) t ≡ type_at s t
  unfolding type_at
  value_erase t = rw (node_erase t) (with_args_erase (node s t).value)

  pub loc_erase : (t : ℕ) → loc_of (erase s) t ≡ 0
  unfolding loc_of
  loc_erase t = ap (λ (n : Node). n.loc) (node_erase t)

  pub spanned_erase : (t : ℕ) → spanned (erase s) t ≡ erase_spanned (spanned s t)
  unfolding spanned
  spanned_erase t = rw (value_erase t, loc_erase t) refl

  cell_erase : (v : ℕ) → get_or (erase s).vars v unbound ≡ erase_cell (get_or s.vars v unbound)
  unfolding erase
  cell_erase v = get_or-map erase_cell s.vars v unbound

  pub get_erase : (v : ℕ) → get (erase s) v ≡ get s v
  unfolding get
  get_erase v = ap (λ (c : Cell). c.binding) (cell_erase v)

  pub num_erase : (v : ℕ) → num_loc (erase s) v ≡ erase_mark (num_loc s v)
  unfolding num_loc
  num_erase v = ap (λ (c : Cell). c.numeric) (cell_erase v)

  pub need_erase : (v : ℕ) → need_of (erase s) v ≡ need_of s v
  unfolding need_of
  need_erase v = ap (λ (c : Cell). c.need) (cell_erase v)

-- ---- the state changed

map_set : {A B : Type 0} (f : A → B) (l : List A) (i : ℕ) (a : A) → set (map f l) i (f a) ≡ map f (set l i a)
map_set f [] i a = refl
map_set f (x ∷ l) zero a = refl
map_set f (x ∷ l) (suc i) a = ap (λ m. f x ∷ m) (map_set f l i a)

pub vars_erase : (s : State) (cells : List Cell) → erase (with_vars s cells) ≡ with_vars (erase s) (map erase_cell cells)
unfolding erase with_vars
vars_erase s cells = refl

-- one variable's cell written
pub cell_set : (s : State) (v : ℕ) (c c' : Cell) → c' ≡ erase_cell c → with_vars (erase s) (set (erase s).vars v c') ≡ erase (with_vars s (set s.vars v c))
unfolding erase with_vars
cell_set s v c c' e = rw (e, map_set erase_cell s.vars v c) refl

pub insert_erase : (s : State) (v t : ℕ) → insert (erase s) v t ≡ erase (insert s v t)
unfolding insert
insert_erase s v t = cell_set s v _ _ (rw (num_erase s v, need_erase s v) refl)

pub node_erased : (s : State) (l : ℕ) (x : TypeValue) → with_node (erase s) 0 x ≡ erase (with_node s l x)
unfolding erase with_node
node_erased s l x = rw (map-append erase_node s.nodes) refl

pub var_erased : (s : State) → with_var (erase s) ≡ erase (with_var s)
unfolding erase with_var with_vars
var_erased s = rw (map-append erase_cell s.vars) refl

pub constraints_erased : (s : State) (cs : List Constraint) → with_constraints (erase s) (map erase_constraint cs) ≡ erase (with_constraints s cs)
unfolding erase with_constraints
constraints_erased s cs = refl

constraint_added : (s : State) (c : Constraint) → with_constraints (erase s) ((erase s).constraints ++ (erase_constraint c ∷ [])) ≡ erase (with_constraints s (s.constraints ++ (c ∷ [])))
unfolding erase with_constraints
constraint_added s c = rw (map-append erase_constraint s.constraints) refl

-- ---- results

-- a result, and the one with locations set to 0; h does that to what a success gives
pub data Erased {A B : Type 0} (h : A → B) : Result A → Result B → Type 0 where
  er_ok : {a : A} {b : B} → b ≡ h a → Erased h (ok a) (ok b)
  er_err : {s s' : State} {e e' : TypingError} → s' ≡ erase s → e' ≡ erase_error e → Erased h (err s e) (err s' e')
  er_refused : {x : Refusal} → Erased h (refused x) (refused x)

abbrev pub with_state : {A : Type 0} → State × A → State × A
with_state x = (erase x.0, x.1)

pub er_bind : {A A' B B' : Type 0} {h : A → A'} {g : B → B'} {m : Result A} {m' : Result A'} (f : A → Result B) (f' : A' → Result B')
    → Erased h m m' → ((a : A) → Erased g (f a) (f' (h a))) → Erased g (m >>= f) (m' >>= f')
unfolding ◌>>=◌
er_bind f f' (er_ok {a = a} e) k = rw e (k a)
er_bind f f' (er_err e d) k = er_err e d
er_bind f f' er_refused k = er_refused

module _ {A B : Type 0} {h : A → B} where
  pub er_if : (b b' : Bool) {x y : Result A} {x' y' : Result B} → b' ≡ b → Erased h x x' → Erased h y y' → Erased h (if b then x else y) (if b' then x' else y')
  er_if true b' e p q = rw e p
  er_if false b' e p q = rw e q

  pub er_elim : (b b' : Bool) {x y : Result A} {x' y' : Result B} → b' ≡ b → Erased h x x' → Erased h y y' → Erased h (elim b [ true ↦ x | false ↦ y ]) (elim b' [ true ↦ x' | false ↦ y' ])
  er_elim true b' e p q = rw e p
  er_elim false b' e p q = rw e q

  pub er_opt : (o o' : Option ℕ) {x : Result A} {x' : Result B} {k : ℕ → Result A} {k' : ℕ → Result B} → o' ≡ o → Erased h x x' → ((t : ℕ) → Erased h (k t) (k' t))
      → Erased h (elim o [ None ↦ x | Some t ↦ k t ]) (elim o' [ None ↦ x' | Some t ↦ k' t ])
  er_opt None o' e p q = rw e p
  er_opt (Some t) o' e p q = rw e (q t)

-- ---- the operations that may find no room

pub sp_erase : (s : State) (l l' : ℕ) (x : TypeValue) → l' ≡ 0 → Erased with_state (sp s l x) (sp (erase s) l' x)
unfolding sp
sp_erase s l l' x z =
    er_if (ltb (count s) max_nodes) _ (ap (λ n. ltb n max_nodes) (count_erase s))
    (er_if (leb (length s.args + length (args_of x)) max_args) (leb (length (erase s).args + length (args_of x)) max_args) (rw (args_erase s) refl) (er_ok (rw (z, node_erased s l x, count_erase s) refl)) er_refused) er_refused

pub next_erase : (s : State) → Erased with_state (next_tvar s) (next_tvar (erase s))
unfolding next_tvar
next_erase s = er_if (ltb (taken s) max_vars) _ (ap (λ n. ltb n max_vars) (taken_erase s)) (er_ok (rw (var_erased s, taken_erase s) refl)) er_refused

pub add_erase : (s : State) (c c' : Constraint) → c' ≡ erase_constraint c → Erased erase (add_constraint s c) (add_constraint (erase s) c')
unfolding add_constraint
add_erase s c c' e = er_if (ltb (length s.constraints) max_constraints) _ (ap (λ n. ltb n max_constraints) (constraints_erase s)) (er_ok (rw (e, constraint_added s c) refl)) er_refused

pub declare_erase : (s : State) (abilities : ℕ) (params : List ℕ) → Erased with_state (declare s abilities params) (declare (erase s) abilities params)
unfolding declare with_structs erase
declare_erase s abilities params = er_if (ltb (length s.structs) max_structs) _ refl (er_ok refl) er_refused

-- ---- lists of nodes

-- a function from a state and a type to a state and a type, the same with locations set to 0
abbrev pub Erases : (State → ℕ → Result (State × ℕ)) → Type 0
Erases f = (s : State) (t : ℕ) → Erased with_state (f s t) (f (erase s) t)

pub map_erase : (f : State → ℕ → Result (State × ℕ)) → Erases f → (ts : List ℕ) (s : State) → Erased with_state (map_types f s ts) (map_types f (erase s) ts)
unfolding map_types
map_erase f r [] s = er_ok refl
map_erase f r (t ∷ ts) s = er_bind _ _ (r s t) (λ x. er_bind _ _ (map_erase f r ts x.0) (λ y. er_ok refl))

-- choices between equal things
module _ {A : Type 0} where
  pub bool_same : (b b' : Bool) {x y x' y' : A} → b' ≡ b → x' ≡ x → y' ≡ y → ◌≡◌ {A = A} (elim b' [ true ↦ x' | false ↦ y' ]) (elim b [ true ↦ x | false ↦ y ])
  bool_same true b' e p q = rw e p
  bool_same false b' e p q = rw e q

  pub opt_same : {B : Type 0} (o o' : Option B) {x x' : A} {k k' : B → A} → o' ≡ o → x' ≡ x → ((t : B) → k' t ≡ k t) → ◌≡◌ {A = A} (elim o' [ None ↦ x' | Some t ↦ k' t ]) (elim o [ None ↦ x | Some t ↦ k t ])
  opt_same None o' e p q = rw e p
  opt_same (Some t) o' e p q = rw e (q t)

pub any_erase : (f g : ℕ → Bool) → ((t : ℕ) → f t ≡ g t) → (ts : List ℕ) → any_of f ts ≡ any_of g ts
unfolding any_of
any_erase f g h [] = refl
any_erase f g h (t ∷ ts) = bool_same (g t) (f t) (h t) refl (any_erase f g h ts)

pub all_erase : (f g : ℕ → Bool) → ((t : ℕ) → f t ≡ g t) → (ts : List ℕ) → all_of f ts ≡ all_of g ts
unfolding all_of
all_erase f g h [] = refl
all_erase f g h (t ∷ ts) = bool_same (g t) (f t) (h t) (all_erase f g h ts) refl
