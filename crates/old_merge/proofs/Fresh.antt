-- The fresh variable of a merge is not bound, so that marking it is one entry. Assumes nothing.
use mathlib.Core.Path.{◌≡◌, refl, sym, ap, ◌∙◌}
use mathlib.Core.Bool.{Bool, true, false}
use mathlib.Core.List.{List, []}
use lib.Dec.{ltb}
use lib.Seq.{get_or_at}
use Rattle.std.specs.Prelude.{Option, None, Some, Ok, max, if◌then◌else◌}
use Rattle.std.specs.Option.{option_or}
use Prim.Native.Nat.{ℕ}
use Rattle.definition.specs.Types as d
use Rattle.definition.specs.Types.{Struct, Cell, unbound, Result, ok, err, refused, full, max_vars}
use Rattle.definition.specs.Store.{taken, get, with_need, with_vars, with_var, with_structs, next_tvar}
use Rattle.definition.specs.Subst.{mark_one, set_num_var}
use Rattle.definition.specs.Join.{merge_num, larger}
use Rattle.names.specs.declared.TVar.{TVar}
use Rattle.table.specs.State.{seen, outcome}
use Rattle.table.specs.Did.{held, tables, Took, Kept}
use Rattle.table.specs.declared.state.State.{State}
use Rattle.table.proofs.Did.{became_is}
use Rattle.merge.proofs.Laws.{max_larger}
use Rattle.history.proofs.Asked.{num_of_unbound}

-- ---- a fresh variable is not bound

new_unbound : (s : d.State) → get (with_var s) (taken s) ≡ None
unfolding get with_var with_vars
new_unbound s = ap (λ (c : Cell). c.binding) (get_or_at s.vars unbound [] unbound (taken s) refl)

next_unbound : (s t : d.State) (v : ℕ) (b : Bool) → ◌≡◌ {A = Result (d.State × ℕ)} (ok (t, v)) (if b then ok (with_var s, taken s) else refused full) → get t v ≡ None
next_unbound s t v true e = ap (λ (m : Result (d.State × ℕ)). elim m [ ok x ↦ get x.0 x.1 | err x y ↦ None | refused x ↦ None ]) e ∙ new_unbound s
next_unbound s t v false e = cc

pub fresh_unbound : {s t : State} {v : TVar} → Took s t (Ok v) (λ x. next_tvar x) → get (tables t) v.0 ≡ None
unfolding next_tvar outcome get seen with_structs
fresh_unbound {s} {t} {v} a = next_unbound (held s []) (held t []) v.0 (ltb (taken (held s [])) max_vars) (a.changed.step.is [] tt)

-- ---- marking it

num_once : (s : d.State) (v loc nloc need : ℕ) → nloc ≡ loc → get s v ≡ None → with_need (mark_one s v nloc) v need ≡ with_need (set_num_var s v loc) v need
num_once s v loc nloc need z u = ap (λ (l : ℕ). with_need (mark_one s v l) v need) z ∙ ap (λ (t : d.State). with_need t v need) (sym (num_of_unbound s v loc u))

num_some : (n1 n2 : Option ℕ) (nloc need : ℕ) → option_or n2 n1 ≡ Some nloc → (s : d.State) (v : ℕ) → get s v ≡ None → with_need (mark_one s v nloc) v need ≡ merge_num s n1 n2 need v
unfolding merge_num
num_some n1 (Some x) nloc need e s v u = let z : nloc ≡ x = cc in num_once s v x nloc need z u
num_some (Some y) None nloc need e s v u = let z : nloc ≡ y = cc in num_once s v y nloc need z u
num_some None None nloc need e s v u = cc

still_unbound : (s : State) (v : ℕ) (ds : List Struct) → get (tables s) v ≡ None → get (held s ds) v ≡ None
unfolding get seen with_structs
still_unbound s v ds e = e

pub marks_unbound : {s t : State} (n1 n2 : Option ℕ) (need v : ℕ) {r : Option ℕ} {nloc : ℕ} → r ≡ option_or n2 n1 → r ≡ Some nloc → get (tables s) v ≡ None
    → Kept s t (λ x. with_need (mark_one x v nloc) v need) → Kept s t (λ x. merge_num x n1 n2 need v)
marks_unbound {s} n1 n2 need v {nloc = nloc} is e u a =
    record { changed = became_is (λ ds k. num_some n1 n2 nloc need (sym is ∙ e) (held s ds) v (still_unbound s v ds u)) a.changed; used = a.used }

-- .. with the larger need of both ends
pub needs_larger : {s t : State} (n1 n2 : Option ℕ) (a b v : ℕ) {need : ℕ} → need ≡ max a b → Kept s t (λ x. merge_num x n1 n2 need v) → Kept s t (λ x. merge_num x n1 n2 (larger a b) v)
needs_larger {s} n1 n2 a b v e k = record { changed = became_is (λ ds j. ap (λ (m : ℕ). merge_num (held s ds) n1 n2 m v) (e ∙ max_larger a b)) k.changed; used = k.used }
