-- A binding, as the state whose rows say the same has it. Assumes nothing.
use mathlib.Core.Path.{◌≡◌, refl, sym, ap, subst}
use mathlib.Core.List.{List}
use Rattle.std.specs.Prelude.{None}
use Prim.Native.Nat.{ℕ, ◌+◌, ◌<◌, ◌≤◌}
use native.Mathlib.Omega.{arith}
use lib.ListN.{set}
use lib.Seq.{set_out}
use Rattle.definition.specs.Types as d
use Rattle.definition.specs.Types.{Cell, unbound}
use Rattle.definition.specs.Store.{taken, get, insert, with_vars}
use Rattle.table.specs.Rows.{var_table}
use Rattle.table.specs.State.{Lay, view}
use Rattle.table.specs.Did.{Linked, Kept, held, tables}
use Rattle.table.specs.declared.Touched.TheVariants as touched
use Rattle.table.specs.declared.state.State.{State}
use Rattle.table.proofs.Did.{became_now, of_stored}
use Rattle.table.proofs.Pushed.{taken_seen}
use Rattle.table.proofs.Rows.{entry_out}
use Rattle.history.specs.Room.{room}
use Rattle.history.specs.History.{words_of, Holds}
use Rattle.history.specs.Past.{rows_of, as_rows, reach, marks_reach, open_at, Spare, Spends}
use Rattle.history.specs.declared.Past.{Past}
use Rattle.history.proofs.Entry.{bind_fits, bind_holds, bind_stored, bind_room}

-- whatever row was written is noted
pub linked_any : {s t : State} → t.words.ghost_name ≡ s.words.ghost_name → t.saved ≡ s.saved → t.touched ≡ touched.Any → Linked s t
linked_any name saved e = record { name = name; saved = saved; rows = λ v a b f. absurd (rw e at f) }

-- past the variables in use nothing is set
pub none_set : (s : d.State) (v : ℕ) (c : Cell) → taken s ≤ v → s ≡ with_vars s (set s.vars v c)
unfolding with_vars
none_set s v c h = λ i. record { nodes = s.nodes; args = s.args; vars = sym (set_out s.vars v c h) i; constraints = s.constraints; structs = s.structs }

module _ (p : Past) (id v t : ℕ) (e : id ≡ v) (r : (t < p.st.used.nodes) × Spare p v) where
  abbrev a : Holds p.st.words.now p.st.used p.bindings p.bound p.marks p.marked
  a = p.holds

  module _ (lt : id < p.st.used.vars) where
    spare : Spare p id
    spare = subst (λ (x : ℕ). Spare p x) (sym e) r.1

    pub past_fits : p.bound < 5120
    past_fits = bind_fits p.st.words.now p.st.used p.st.lay p.bindings p.bound p.marks p.marked a id lt t r.0 spare

    pub past_holds : Holds p.st.words.now p.st.used (set p.bindings p.bound (record { tvar = id; node = t })) (p.bound + 1) p.marks p.marked
    past_holds = bind_holds p.st.words.now p.st.used p.st.lay p.bindings p.bound p.marks p.marked a id lt t r.0 spare

    abbrev words' : List ℕ
    words' = words_of p.st.words.now (set p.bindings p.bound (record { tvar = id; node = t })) (p.bound + 1) p.marks p.marked

    pub past_bound : (l : Lay words' p.st.used) → Kept (as_rows p) (rows_of p.st words' l) (λ s. insert s v t) × ((p.bound + 1 + room (view words' p.st.used) + open_at p v ≤ reach p + 1) × (marks_reach p ≤ marks_reach p))
    past_bound l =
        subst (λ (x : ℕ). Kept (as_rows p) (rows_of p.st words' l) (λ s. insert s x t) × ((p.bound + 1 + room (view words' p.st.used) + open_at p x ≤ reach p + 1) × (marks_reach p ≤ marks_reach p))) e (
          of_stored (linked_any refl refl refl) refl (bind_stored p.st.words.now p.st.used p.st.lay p.bindings p.bound p.marks p.marked a id lt t r.0 spare),
          (omega (arith, bind_room p.st.words.now p.st.used p.st.lay p.bindings p.bound p.marks p.marked a id lt t r.0 spare), omega arith),
        )

  -- no variable in use: nothing is done
  module _ (le : p.st.used.vars ≤ id) where
    not_bound : get (tables (as_rows p)) v ≡ None
    unfolding get view
    not_bound = ap (λ (c : Cell). c.binding) (entry_out var_table (as_rows p).words.now p.st.used.vars v unbound (rw e at le))

    nothing : (s : d.State) → taken s ≤ v → s ≡ insert s v t
    unfolding insert
    nothing s h = none_set s v _ h

    pub past_same : Kept (as_rows p) (as_rows p) (λ s. insert s v t) × Spends p p v
    past_same = (
      record { changed = became_now (λ ds k. nothing (held (as_rows p) ds) (rw (taken_seen (as_rows p).words.now p.st.used ds) (rw e at le))); used = refl },
      (rw not_bound (omega arith), omega arith),
    )
