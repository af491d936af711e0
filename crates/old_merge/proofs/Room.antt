-- How the steps of a merge spend the room for entries. Assumes nothing.
use mathlib.Core.Path.{◌≡◌, refl, sym, ap, ◌∙◌}
use mathlib.Core.Bool.{Bool, true, false, not}
use mathlib.Core.List.{List, []}
use Rattle.std.specs.Prelude.{Option, None, Some, Ok}
use Rattle.std.specs.Option.{is_some}
use Prim.Native.Nat.{ℕ, ◌+◌, ◌<◌, ◌≤◌}
use native.Mathlib.Omega.{arith}
use Rattle.definition.specs.Types.{Struct}
use Rattle.definition.specs.Store.{get, with_structs}
use Rattle.names.specs.declared.TVar.{TVar}
use Rattle.table.specs.State.{seen}
use Rattle.table.specs.Did.{held, tables}
use Rattle.history.specs.Room.{one_if_none}
use Rattle.history.specs.Past.{as_rows, reach, marks_reach, open_at, Spare, Within, Spends, Marks, Frees}
use Rattle.history.specs.declared.Past.{Past}

none_is : (o : Option ℕ) → is_some o ≡ false → o ≡ None
none_is None e = refl
none_is (Some t) e = cc

module _ (p : Past) where
  pub within_now : Within p p
  within_now = (omega arith, omega arith)

  -- what is read of a variable, whatever the declarations are, is what the tables say
  pub unbound_at : (v : ℕ) (o : Option ℕ) → ((ds : List Struct) → o ≡ get (held (as_rows p) ds) v) → o ≡ None → get (tables (as_rows p)) v ≡ None
  unfolding get seen with_structs
  unbound_at v o e z = sym (e []) ∙ z

  pub unbound_by : (v : ℕ) (o : Option ℕ) {b : Bool} → ((ds : List Struct) → o ≡ get (held (as_rows p) ds) v) → is_some o ≡ not b → b ≡ true → get (tables (as_rows p)) v ≡ None
  unbound_by v o e f t = unbound_at v o e (none_is o (f ∙ ap not t))

  -- a variable that is not bound: there is room for its binding, which is paid for
  module _ (v : ℕ) (e : get (tables (as_rows p)) v ≡ None) where
    one : open_at p v ≡ 1
    one = ap one_if_none e

    pub spare_unbound : Spare p v
    spare_unbound = omega (arith, one, p.holds.few_bound)

    pub spends_unbound : (q : Past) → Spends p q v → Within p q
    spends_unbound q s = (omega (arith, one, s.0), s.1)

  module _ (q : Past) where
    pub within_on : (r : Past) → Within p q → Within q r → Within p r
    within_on r a b = (omega (arith, a.0, b.0), omega (arith, a.1, b.1))

    -- a fresh variable: room for three bindings and a mark
    module _ (new : TVar) (f : Frees p q (Ok new)) where
      pub spare_fresh : (r : Past) (v : ℕ) → reach r ≤ reach q + 2 → Spare r v
      spare_fresh r v le = omega (arith, f.0, le, p.holds.few_bound)

      pub mark_fresh : marks_reach q < 2048
      mark_fresh = omega (arith, f.1, p.holds.few_marked)

      pub within_fresh : (r : Past) → Marks q r → Within p r
      within_fresh r m = (omega (arith, f.0, m.0), omega (arith, f.1, m.1))
