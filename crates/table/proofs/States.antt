-- What the steps of a state keep: parts below their node, bindings that are nodes, rows only added. Assumes nothing.
use mathlib.Core.Path.{◌≡◌, refl, sym, ap, ◌∙◌}
use mathlib.Core.List.{List, [], ◌∷◌, ◌++◌}
use mathlib.Core.Bool.{Bool, true, false}
use Rattle.std.specs.Prelude.{Option, Some}
use Prim.Native.Nat.{ℕ, ◌+◌, ◌≤◌, ◌<◌}
use native.Mathlib.Omega.{arith}
use native.Mathlib.Decide.{dec_lt}
use lib.ListN.{length, get_or, set, length-append, get_or-append, get_or-eq_default}
use lib.Seq.{get_or_at, get_or-set_same, get_or-set_other, set_out}
use lib.Dec.{ltb}
use borrow.Author.Tests.{lt-ltb, le-ltb, le-leb, lt-leb}
use native.Mathlib.Decide.{ℕ_discrete}
use Rattle.definition.specs.Types as d
use Rattle.std.specs.Prelude.{if◌then◌else◌}
use Rattle.definition.specs.Types.{State, Shape, UnitType, Ref, Param, Apply, Var, Anything, UnresolvedError, Places, TypeValue, Cell, unbound, Constraint, max_nodes, max_args, max_vars, max_constraints, max_structs, full, ok, refused, Refusal, ◌>>=◌}
use Rattle.definition.specs.Store.{count, taken, nowhere, node, get, with_vars, with_var, with_constraints, with_structs, with_node, args_of, stored, sp, next_tvar, add_constraint, declare}
use Rattle.table.specs.State.{Below, Inside, Grown, cell, with_cell, pushed_constraint}
use Rattle.table.proofs.Steps.{front_refl, NoError}

-- ---- the definition's steps, with room and without

pub sp_room : (s : State) (loc : ℕ) (v : TypeValue) → count s < 2048 → length s.args + length (args_of v) ≤ 4096 → sp s loc v ≡ ok (with_node s loc v, count s)
unfolding sp max_nodes max_args
sp_room s loc v a b = simp (lt-ltb _ _ a, le-leb _ _ b)

pub sp_no_node : (s : State) (loc : ℕ) (v : TypeValue) → 2048 ≤ count s → sp s loc v ≡ refused full
unfolding sp max_nodes
sp_no_node s loc v a = simp (le-ltb _ _ a)

pub sp_no_place : (s : State) (loc : ℕ) (v : TypeValue) → count s < 2048 → 4096 < length s.args + length (args_of v) → sp s loc v ≡ refused full
unfolding sp max_nodes max_args
sp_no_place s loc v a b = simp (lt-ltb _ _ a, lt-leb _ _ b)

pub tvar_room : (s : State) → taken s < 1024 → next_tvar s ≡ ok (with_var s, taken s)
unfolding next_tvar max_vars
tvar_room s a = simp (lt-ltb _ _ a)

pub tvar_full : (s : State) → 1024 ≤ taken s → next_tvar s ≡ refused full
unfolding next_tvar max_vars
tvar_full s a = simp (le-ltb _ _ a)

pub constraint_room : (s : State) (c : Constraint) → length s.constraints < 512 → pushed_constraint c s ≡ ok (with_constraints s (s.constraints ++ (c ∷ [])), 0)
unfolding pushed_constraint add_constraint max_constraints d.◌>>=◌
constraint_room s c a = simp (lt-ltb _ _ a)

pub constraint_full : (s : State) (c : Constraint) → 512 ≤ length s.constraints → pushed_constraint c s ≡ refused full
unfolding pushed_constraint add_constraint max_constraints d.◌>>=◌
constraint_full s c a = simp (le-ltb _ _ a)

pub declare_room : (s : State) (abilities : ℕ) (params : List ℕ) → length s.structs < 256
    → declare s abilities params ≡ ok (with_structs s (s.structs ++ (record { abilities = abilities; params = params } ∷ [])), length s.structs)
unfolding declare max_structs
declare_room s abilities params a = simp (lt-ltb _ _ a)

pub declare_full : (s : State) (abilities : ℕ) (params : List ℕ) → 256 ≤ length s.structs → declare s abilities params ≡ refused full
unfolding declare max_structs
declare_full s abilities params a = simp (le-ltb _ _ a)

-- ---- steps that meet no error

pub plain_if : {A : Type 0} (b : Bool) (a : A) (x : Refusal) → NoError (if b then ok a else refused x)
plain_if true a x = tt
plain_if false a x = tt

pub tvar_plain : (s : State) → NoError (next_tvar s)
unfolding next_tvar
tvar_plain s = plain_if (ltb (taken s) max_vars) _ _

pub constraint_plain : (c : Constraint) (s : State) → NoError (pushed_constraint c s)
unfolding pushed_constraint add_constraint d.◌>>=◌
constraint_plain c s = by (ltb (length s.constraints) max_constraints) _
  where
    by : (b : Bool) (x : State) → NoError {A = State × ℕ} ((if b then ok x else refused full) >>= (λ t. ok (t, 0)))
    by true x = tt
    by false x = tt

-- ---- what is kept inside

below_more : (args more : List ℕ) (t : ℕ) (s : Shape Places) → Below args t s → Below (args ++ more) t s
below_more args more t UnitType b = tt
below_more args more t (Ref m p) b = b
below_more args more t (Param id a) b = tt
below_more args more t (Apply k n p) (few, (fits, b)) =
    (few, (omega (arith, length-append args more), λ i h. rw (get_or-append args more 0 (p.first + i) (omega arith)) (b i h)))
below_more args more t (Var v) b = tt
below_more args more t Anything b = tt
below_more args more t UnresolvedError b = tt

pub inside_node : (s : State) (loc : ℕ) (v : TypeValue) → Inside s → Below (s.args ++ args_of v) (count s) (stored (length s.args) v) → Inside (with_node s loc v)
unfolding with_node node get
inside_node s loc v h new =
    record {
      parts = λ t p. by t p (dec_lt t (count s));
      bindings = λ x t e. let b = h.bindings x t e in rw (length-append s.nodes (record { loc = loc; value = stored (length s.args) v } ∷ [])) (omega arith);
    }
  where
    by : (t : ℕ) → t < count (with_node s loc v) → Dec (t < count s) → Below (s.args ++ args_of v) t (get_or (s.nodes ++ (record { loc = loc; value = stored (length s.args) v } ∷ [])) t nowhere).value
    by t p (yes q) = rw (get_or-append s.nodes (record { loc = loc; value = stored (length s.args) v } ∷ []) nowhere t q) (below_more s.args (args_of v) t (get_or s.nodes t nowhere).value (h.parts t q))
    by t p (no q) =
        let e : count s ≡ t = omega (arith, length-append s.nodes (record { loc = loc; value = stored (length s.args) v } ∷ [])) in
        rw (get_or_at s.nodes (record { loc = loc; value = stored (length s.args) v }) [] nowhere t e, ← e) new

pub inside_cell : (s : State) (v : ℕ) (b m : Option ℕ) (n : ℕ) → Inside s → ((t : ℕ) → b ≡ Some t → t < count s) → Inside (with_cell v b m n s)
unfolding with_cell with_vars node get
inside_cell s v b m n h new =
    record { parts = h.parts; bindings = λ x t e. by x t e (ℕ_discrete x v) (dec_lt v (length s.vars)) }
  where
    by : (x t : ℕ) → (get_or (set s.vars v (cell b m n)) x unbound).binding ≡ Some t → Dec (x ≡ v) → Dec (v < length s.vars) → t < count s
    by x t e (yes p) (yes q) = new t (sym (ap (λ (z : Cell). z.binding) (get_or-set_same s.vars v (cell b m n) unbound q)) ∙ rw p at e)
    by x t e (yes p) (no q) = h.bindings x t (rw (set_out s.vars v (cell b m n) (omega arith)) at e)
    by x t e (no p) q = h.bindings x t (sym (ap (λ (z : Cell). z.binding) (get_or-set_other s.vars v x (cell b m n) unbound p)) ∙ e)

pub inside_var : (s : State) → Inside s → Inside (with_var s)
unfolding with_var with_vars node get
inside_var s h = record { parts = h.parts; bindings = λ x t e. h.bindings x t (sym (ap (λ (z : Cell). z.binding) (same x (dec_lt x (length s.vars)))) ∙ e) }
  where
    same : (x : ℕ) → Dec (x < length s.vars) → get_or (s.vars ++ (unbound ∷ [])) x unbound ≡ get_or s.vars x unbound
    same x (yes p) = get_or-append s.vars (unbound ∷ []) unbound x p
    same x (no p) = by (ℕ_discrete x (length s.vars))
      where
        by : Dec (x ≡ length s.vars) → get_or (s.vars ++ (unbound ∷ [])) x unbound ≡ get_or s.vars x unbound
        by (yes e) = get_or_at s.vars unbound [] unbound x (sym e) ∙ sym (get_or-eq_default s.vars unbound (omega arith))
        by (no e) = get_or-eq_default (s.vars ++ (unbound ∷ [])) unbound (rw (length-append s.vars (unbound ∷ [])) (omega arith)) ∙ sym (get_or-eq_default s.vars unbound (omega arith))

pub inside_constraints : (s : State) (l : List Constraint) → Inside s → Inside (with_constraints s l)
unfolding with_constraints node get
inside_constraints s l h = record { parts = h.parts; bindings = h.bindings }

pub inside_structs : (s : State) (l : List d.Struct) → Inside s → Inside (with_structs s l)
unfolding with_structs node get
inside_structs s l h = record { parts = h.parts; bindings = h.bindings }

-- ---- what grows

pub grown_node : (s : State) (loc : ℕ) (v : TypeValue) → Grown s (with_node s loc v)
unfolding with_node
grown_node s loc v =
    record {
      nodes = record { rest = _; is = refl };
      args = record { rest = _; is = refl };
      vars = omega arith;
      constraints = front_refl s.constraints;
      structs = front_refl s.structs;
    }

pub grown_vars : (s : State) (l : List Cell) → taken s ≤ length l → Grown s (with_vars s l)
unfolding with_vars
grown_vars s l h = record { nodes = front_refl s.nodes; args = front_refl s.args; vars = h; constraints = front_refl s.constraints; structs = front_refl s.structs }

pub grown_constraint : (s : State) (c : Constraint) → Grown s (with_constraints s (s.constraints ++ (c ∷ [])))
unfolding with_constraints
grown_constraint s c = record { nodes = front_refl s.nodes; args = front_refl s.args; vars = omega arith; constraints = record { rest = c ∷ []; is = refl }; structs = front_refl s.structs }

pub grown_struct : (s : State) (c : d.Struct) → Grown s (with_structs s (s.structs ++ (c ∷ [])))
unfolding with_structs
grown_struct s c = record { nodes = front_refl s.nodes; args = front_refl s.args; vars = omega arith; constraints = front_refl s.constraints; structs = record { rest = c ∷ []; is = refl } }
