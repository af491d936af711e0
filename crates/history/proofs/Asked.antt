-- Marking a variable that is not bound, the occurs walk, which asks for no binding, and what adds no entry. Assumes nothing.
use mathlib.Core.Path.{◌≡◌, refl, sym, ap, ◌∙◌}
use mathlib.Core.List.{List}
use Rattle.std.specs.Prelude.{None, Some, ◌||◌}
use Prim.Native.Nat.{ℕ, zero, suc}
use native.Mathlib.Omega.{arith}
use lib.Seq.{set_out}
use Rattle.definition.specs.Types.{State, Struct, Cell}
use Rattle.definition.specs.Store.{taken, get, num_loc, need_of, type_at, node, with_args, args_at, with_vars, any_of}
use Rattle.definition.specs.Subst.{parts, next_of, or_insert, mark_one, mark_chain, set_num_var}
use Rattle.definition.specs.Join.{is_var, used}
use Rattle.table.specs.Tab.{tab}
use Rattle.table.specs.Did.{held, tables}
use Rattle.history.specs.History.{cell_of}
use Rattle.history.specs.Past.{as_rows, Spends}
use Rattle.history.specs.declared.Past.{Past}
use Rattle.subst.proofs.Laws.{next_none}
use Rattle.history.proofs.Reading.{is_seen}
use Rattle.history.proofs.Room.{one_most}

-- ---- marking: an unbound variable's chain is itself

chain_last : (n : ℕ) (s : State) (v loc : ℕ) → n ≡ taken s → next_of s v ≡ None → mark_chain n s v loc ≡ mark_one s v loc
unfolding mark_chain mark_one with_vars
chain_last zero s v loc t e =
    let out = set_out s.vars v (record { binding = get s v; numeric = Some (or_insert (num_loc s v) loc); need = need_of s v }) (omega (arith, t)) in
    λ i. record { nodes = s.nodes; args = s.args; vars = sym out i; constraints = s.constraints; structs = s.structs }
chain_last (suc n) s v loc t e = rw (e, mark_chain) refl

pub num_of_unbound : (s : State) (v loc : ℕ) → get s v ≡ None → set_num_var s v loc ≡ mark_one s v loc
unfolding set_num_var
num_of_unbound s v loc e = chain_last (taken s) s v loc refl (sym (next_none s v (get s v) refl e))

-- ---- the occurs walk: nodes and argument places alone

module _ (s : State) (vars : List Cell) where
  type_with : (t : ℕ) → type_at (with_vars s vars) t ≡ type_at s t
  unfolding type_at node with_args args_at with_vars
  type_with t = refl

  pub used_with : (n v t : ℕ) → used n (with_vars s vars) v t ≡ used n s v t
  unfolding used
  used_with zero v t = refl
  used_with (suc n) v t = λ i. is_var v (type_with t i) || any_of (λ x. used_with n v x i) (parts (type_with t i))

-- the words' own rows of variables make no difference to it
pub used_of : (p : Past) (ds : List Struct) (n v t : ℕ) → used n (held (as_rows p) ds) v t ≡ used n (held p.st ds) v t
used_of p ds n v t =
    ap (λ (s : State). used n s v t) (is_seen p.st.words.now p.st.used p.st.lay p.bindings p.bound p.marks p.marked p.holds ds)
    ∙ used_with (held p.st ds) (tab p.st.used.vars (cell_of p.bindings p.bound p.marks p.marked)) n v t

-- ---- what changes nothing adds no entry

pub spends_none : (p : Past) (v : ℕ) → Spends p p v
spends_none p v = let most = one_most (get (tables (as_rows p)) v) in (omega (arith, most), omega arith)
