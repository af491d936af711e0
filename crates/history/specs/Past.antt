-- The state of table whose rows say what the histories say. Contracts of the engine are cited for it as they stand. Assumes nothing: these are definitions.
use Rattle.std.specs.Prelude.{List, ℕ, ◌+◌, ◌-◌, ◌<◌, ◌≤◌, set, Option, Result, Ok, Err}
use Rattle.definition.specs.Types as d
use Rattle.definition.specs.Store.{get, with_vars}
use Rattle.table.specs.State.{Lay}
use Rattle.table.specs.Did.{tables}
use Rattle.names.specs.declared.TVar.{TVar}
use Rattle.table.specs.declared.state.State.{State}
use Rattle.table.specs.declared.state.Stop.{Stop}
use Rattle.table.specs.declared.Touched.TheVariants.{Any}
use Rattle.history.specs.Room.{one_if_none, room}
use Rattle.history.specs.History.{words_of}
use Rattle.history.specs.declared.Past.{Past}

abbrev pub rows_of : (st : State) (w : List ℕ) → Lay w st.used → State
rows_of st w l = record { words = record st.words { now = w }; used = st.used; saved = st.saved; touched = Any; lay = l }

abbrev pub as_rows : Past → State
as_rows p = rows_of p.st (words_of p.st.words.now p.bindings p.bound p.marks p.marked) p.holds.lay

-- entries, and those that there is room for
abbrev pub reach : Past → ℕ
reach p = p.bound + room (tables (as_rows p))

-- .. of marks: one for each fresh variable
abbrev pub marks_reach : Past → ℕ
marks_reach p = p.marked + (1024 - p.st.used.vars)

abbrev pub open_at : Past → ℕ → ℕ
open_at p v = one_if_none (get (tables (as_rows p)) v)

-- variable v may be bound: it is not bound yet, or the last fresh variable left room
abbrev pub Spare : Past → ℕ → Type 0
Spare p v = reach p < 5120 + open_at p v

-- p became q, and no more was added than the room fell
abbrev pub Within : Past → Past → Type 0
Within p q = (reach q ≤ reach p) × (marks_reach q ≤ marks_reach p)

-- binding v came to one entry at most
abbrev pub Spends : Past → Past → ℕ → Type 0
Spends p q v = (reach q + open_at p v ≤ reach p + 1) × (marks_reach q ≤ marks_reach p)

-- a mark was added
abbrev pub Marks : Past → Past → Type 0
Marks p q = (reach q ≤ reach p) × (marks_reach q ≤ marks_reach p + 1)

-- a fresh variable leaves room for three bindings and a mark
abbrev pub Frees : Past → Past → Result TVar Stop → Type 0
Frees p q (Ok v) = (reach q + 3 ≤ reach p) × (marks_reach q + 1 ≤ marks_reach p)
Frees p q (Err e) = Within p q

-- variable v has this mark and this need
unfoldable pub with_mark : ℕ → Option ℕ → ℕ → d.State → d.State
with_mark v numeric need s = with_vars s (set s.vars v (record { binding = get s v; numeric = numeric; need = need }))
