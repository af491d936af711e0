-- A record whose types are placed: their nodes stand in the trees' stead. What the code's answer is as one. Assumes nothing: these are definitions.
use Rattle.std.specs.Prelude as std
use Rattle.std.specs.Prelude.{◌≡◌, false, List, [], ◌∷◌, ℕ, zero, suc, ◌+◌, ◌*◌, ◌≤◌, ◌<◌, length, get_or, take, drop, Option}
use Rattle.definition.specs.Types.{State, Struct, Constraint, BaseTypeConstraint, SingleTypeConstraint, Result, ok, ◌>>=◌}
use Rattle.definition.specs.Write.{Bytes}
use Rattle.definition.specs.Reader.{Read}
use Rattle.definition.specs.Record as d
use Rattle.definition.specs.Record.{Record, read_record}
use Rattle.definition.specs.Trees.{Tree}
use Rattle.definition.specs.Build.{build, build_pairs, build_many}
use Rattle.definition.specs.Join.{TypingCase, Join, Subtype}
use Rattle.definition.specs.Step.{numeric_constraint}
use Rattle.definition.specs.Needs.{Needs, needs}
use Rattle.theorems.specs.ReadySpelled.{Spelling, Located, Canonical}
use Rattle.table.specs.State.{Grown, Declares, Parts}
use Rattle.table.specs.Did.{held, tables, Linked}
use Rattle.table.specs.declared.state.State.{State as Table}
use Rattle.tparams.specs.Pairs.{pairs}
use Rattle.constraints.specs.Solve.{kind_of}
use Rattle.refusals.specs.declared.Refusal.{Refusal}
use Rattle.heads.specs.Fields.{Knows}
use Rattle.reader.specs.Taken.{Placed, place_read, read_with, PlacedSo}
use Rattle.needs.specs.Counted.{needs_of}
use Rattle.marks.specs.declared.LocMark.{LocMark}
use Rattle.marks.specs.declared.LocMark.TheVariants.{FV, NV}
use Rattle.marks.specs.declared.LookMark.{LookMark}
use Rattle.marks.specs.declared.LookMark.TheVariants.{UF, RD, CN, UL}
use Rattle.marks.specs.declared.TwoMark.{TwoMark}
use Rattle.marks.specs.declared.TwoMark.TheVariants.{JN, SU, JL}
use Rattle.marks.specs.declared.LocTypeMark.{LocTypeMark}
use Rattle.marks.specs.declared.LocTypeMark.TheVariants.{BC, SC}
use Rattle.fields.specs.declared.Bind.{Bind}
use Rattle.fields.specs.declared.Bind.TheVariants as c
use Rattle.fields.specs.declared.Look.{Look}
use Rattle.fields.specs.declared.Look.TheVariants as l
use Rattle.fields.specs.declared.Add.{Add}
use Rattle.fields.specs.declared.Add.TheVariants as a
use Rattle.fields.specs.declared.What.{What}
use Rattle.fields.specs.declared.What.TheVariants as q
use Rattle.fields.specs.declared.Pairs.{Pairs}
use Rattle.fields.specs.declared.Params.{Params}
use Rattle.fields.specs.declared.Fields.{Fields}

-- may bind or mark a variable that is there
pub data Binds : Type 0 where
  set_num : ℕ → ℕ → Binds
  two : TypingCase → ℕ → ℕ → Binds
  joined_links : ℕ → ℕ → Binds
  instantiate : ℕ → Binds

-- only shows: the state stays as at entry
pub data Looks : Type 0 where
  unfolded unfolded_links : ℕ → Looks
  ready : Spelling → ℕ → Looks
  tparams : List (ℕ × ℕ) → ℕ → Looks

-- takes new rows at most
pub data Adds : Type 0 where
  tvar num_tvar : ℕ → Adds
  literal : ℕ → ℕ → Adds
  constrain : Constraint → Adds
  tell : Option Needs → Adds

pub data Run : Type 0 where
  binds : Binds → Run
  looks : Looks → Run
  adds : Adds → Run

-- SD, SV, XP, MJ and KP have calls of their own
pub data Noded : Type 0 where
  declare : ℕ → List ℕ → Noded
  solve : Noded
  expand : ℕ → Noded
  many : List (TypingCase × ℕ × ℕ) → Noded
  keep : List ℕ → Noded
  run : Run → Noded

-- the types of a record, from left to right, and what is run of their nodes
pub data Shape : Type 0 where
  declares : ℕ → List ℕ → Shape
  solves : Shape
  expands : Tree → Shape
  none : Run → Shape
  one : Tree → (ℕ → Run) → Shape
  both : Tree → Tree → (ℕ → ℕ → Run) → Shape
  after_pairs : List (ℕ × Tree) → Tree → (List (ℕ × ℕ) → ℕ → Run) → Shape
  all_pairs : List (TypingCase × Tree × Tree) → Shape
  keeps : List ℕ → Shape

-- what is run of each mark of a form

abbrev pub loc_adds : LocMark → ℕ → Adds
loc_adds FV loc = tvar loc
loc_adds NV loc = num_tvar loc

abbrev pub one_looks : LookMark → ℕ → Looks
one_looks UF t = unfolded t
one_looks RD t = ready Located t
one_looks CN t = ready Canonical t
one_looks UL t = unfolded_links t

abbrev pub two_binds : TwoMark → ℕ → ℕ → Binds
two_binds JN lhs rhs = two Join lhs rhs
two_binds SU lhs rhs = two Subtype lhs rhs
two_binds JL lhs rhs = joined_links lhs rhs

abbrev pub loc_type_constraint : LocTypeMark → ℕ → ℕ → Constraint
loc_type_constraint BC loc t = BaseTypeConstraint loc t
loc_type_constraint SC loc t = SingleTypeConstraint loc t

abbrev pub loc_shape : LocMark → ℕ → Shape
loc_shape m loc = none (adds (loc_adds m loc))

abbrev pub look_shape : LookMark → Tree → Shape
look_shape m t = one t (λ ty. looks (one_looks m ty))

abbrev pub two_shape : TwoMark → Tree → Tree → Shape
two_shape m t1 t2 = both t1 t2 (λ lhs rhs. binds (two_binds m lhs rhs))

abbrev pub loc_type_shape : LocTypeMark → ℕ → Tree → Shape
loc_type_shape m loc t = one t (λ ty. adds (constrain (loc_type_constraint m loc ty)))

abbrev pub shape : Record → Shape
shape (d.SD abilities params) = declares abilities params
shape (d.FV loc) = loc_shape FV loc
shape (d.NV loc) = loc_shape NV loc
shape (d.SN v loc) = none (binds (set_num v loc))
shape (d.NL loc bits) = none (adds (literal loc bits))
shape (d.JN t1 t2) = two_shape JN t1 t2
shape (d.SU t1 t2) = two_shape SU t1 t2
shape (d.UF t) = look_shape UF t
shape (d.RD t) = look_shape RD t
shape (d.IN t) = one t (λ ty. binds (instantiate ty))
shape (d.TS pairs t) = after_pairs pairs t (λ pairs ty. looks (tparams pairs ty))
shape (d.NC loc kind t) = one t (λ ty. adds (constrain (numeric_constraint kind loc ty)))
shape (d.BC loc t) = loc_type_shape BC loc t
shape (d.SC loc t) = loc_type_shape SC loc t
shape d.SV = solves
shape (d.RM t) = none (adds (tell (needs t)))
shape (d.CN t) = look_shape CN t
shape (d.XP t) = expands t
shape (d.MJ pairs) = all_pairs pairs
shape (d.UL t) = look_shape UL t
shape (d.JL t1 t2) = two_shape JL t1 t2
shape (d.KP listed) = keeps listed

abbrev pub place : Shape → State → Result (State × Noded)
place (declares abilities params) s = ok (s, declare abilities params)
place solves s = ok (s, solve)
place (keeps listed) s = ok (s, keep listed)
place (expands t) s = do
  (s, ty) ← build t s
  ok (s, expand ty)
place (none r) s = ok (s, run r)
place (one t f) s = do
  (s, ty) ← build t s
  ok (s, run (f ty))
place (both t1 t2 f) s = do
  (s, lhs) ← build t1 s
  (s, rhs) ← build t2 s
  ok (s, run (f lhs rhs))
place (after_pairs pairs t f) s = do
  (s, pairs) ← build_pairs pairs s
  (s, ty) ← build t s
  ok (s, run (f pairs ty))
place (all_pairs pairs) s = do
  (s, pairs) ← build_many pairs s
  ok (s, many pairs)

unfoldable pub place_record : Record → State → Result (State × Noded)
place_record x s = place (shape x) s

-- ---- what the code's answer is

abbrev pub bind_of : Bind → Binds
bind_of (c.SN v loc) = set_num v.0 loc
bind_of (c.Two m lhs rhs) = two_binds m lhs rhs
bind_of (c.IN t) = instantiate t

abbrev pub pairs_of : Pairs → List (ℕ × ℕ)
pairs_of ps = pairs ps.ids ps.nodes 0 ps.many

abbrev pub look_of : Look → Looks
look_of (l.One m t) = one_looks m t
look_of (l.TS ps t) = tparams (pairs_of ps) t

abbrev pub add_of : Add → Adds
add_of (a.Loc m loc) = loc_adds m loc
add_of (a.NL loc bits) = literal loc bits
add_of (a.NC loc kind t) = constrain (numeric_constraint (kind_of kind) loc t)
add_of (a.LocType m loc t) = constrain (loc_type_constraint m loc t)
add_of (a.RM c) = tell (needs_of c)

abbrev pub params_of : Params → List ℕ
params_of ps = take ps.many ps.bytes

abbrev pub case_of : ℕ → TypingCase
case_of n = get_or (Join ∷ Subtype ∷ []) n Join

-- n pairs, in a list of names from place i on
unfoldable pub many_at : List ℕ → ℕ → ℕ → List (TypingCase × ℕ × ℕ)
many_at names i zero = []
many_at names i (suc n) = (case_of (get_or names i 0), get_or names (i + 1) 0, get_or names (i + 2) 0) ∷ many_at names (i + 3) n

abbrev pub noded : List ℕ → What → Noded
noded names (q.SD abilities ps) = declare abilities.0 (params_of ps)
noded names q.SV = solve
noded names (q.XP t) = expand t
noded names (q.MJ n) = many (many_at names 0 n)
noded names (q.KP n) = keep (take n names)
noded names (q.Bind x) = run (binds (bind_of x))
noded names (q.Look x) = run (looks (look_of x))
noded names (q.Add x) = run (adds (add_of x))

-- met in the state s, with these bytes left
abbrev pub fields_as : List ℕ → std.Result (Option What) Refusal → State → Bytes → Placed Noded
fields_as names r s bytes = read_with r (noded names) s bytes

-- nodes below n
abbrev pub BindIn : ℕ → Bind → Type 0
BindIn n (c.SN v loc) = Unit {0}
BindIn n (c.Two m lhs rhs) = (lhs < n) × (rhs < n)
BindIn n (c.IN t) = t < n

abbrev pub LookIn : ℕ → Look → Type 0
LookIn n (l.One m t) = t < n
LookIn n (l.TS ps t) = Parts n ps.nodes ps.many × (t < n)

-- those of the first k pairs
abbrev pub ManyIn : ℕ → List ℕ → ℕ → Type 0
ManyIn n names k = (i : ℕ) → i < k → (get_or names (3 * i + 1) 0 < n) × (get_or names (3 * i + 2) 0 < n)

abbrev pub WhatIn : List ℕ → ℕ → What → Type 0
WhatIn names n (q.SD abilities ps) = (abilities.0 ≤ 15) × (ps.many ≤ 8)
WhatIn names n q.SV = Unit {0}
WhatIn names n (q.XP t) = t < n
WhatIn names n (q.MJ k) = (k ≤ 15) × ManyIn n names k
WhatIn names n (q.KP k) = k ≤ 255
WhatIn names n (q.Bind x) = BindIn n x
WhatIn names n (q.Look x) = LookIn n x
WhatIn names n (q.Add x) = Unit {0}

-- the table st became t, which lends the same words; r is the record that m reads, its types placed, with what stands in the list of names, and the bytes l are left; s knows as many variables
-- and structs as the record began with
pub record FieldsAre (names : List ℕ) (st : Table) (known : ℕ) (m : State → Read Record) (t : Table) (l : Bytes) (r : std.Result (Option What) Refusal) : Type 0 where
  pub same : Linked st t
  pub grown : Grown (tables st) (tables t)
  pub structs : (tables t).structs ≡ (tables st).structs
  pub inside : PlacedSo r (WhatIn names t.used.nodes)
  pub is : (ds : List Struct) (s : State) → Declares st.words.now st.used ds → Knows s known ds → fields_as names r (held t ds) l ≡ place_read false place_record (m s) (held st ds)

-- a record that starts at place `start`: the bytes after it are those from place next on, of all that there are
pub record RecordIs (names : List ℕ) (st : Table) (b : List ℕ) (start : ℕ) (t : Table) (r : Fields) : Type 0 where
  pub same : Linked st t
  pub grown : Grown (tables st) (tables t)
  pub structs : (tables t).structs ≡ (tables st).structs
  pub inside : PlacedSo r.read (WhatIn names t.used.nodes)
  pub within : r.next ≤ length b
  pub is : (ds : List Struct) → Declares st.words.now st.used ds
      → fields_as names r.read (held t ds) (drop r.next b) ≡ place_read false place_record (read_record (held st ds) (drop start b)) (held st ds)
