-- What the definition reads after a mark. Assumes nothing: these are definitions.
use Rattle.std.specs.Prelude.{ℕ, Option, Some, None}
use Rattle.definition.specs.Types.{State, malformed}
use Rattle.definition.specs.Store.{taken}
use Rattle.definition.specs.Reader.{Reader, give, refuse, read_one, read_two, read_three, name_below, read_u32}
use Rattle.definition.specs.Trees.{Tree, read_type}
use Rattle.definition.specs.Record as d
use Rattle.definition.specs.Record.{Record, read_SD, read_TS, read_MJ, read_KP, read_kind, read_bits}
use Rattle.marks.specs.declared.RecordMark.{RecordMark}
use Rattle.marks.specs.declared.RecordMark.TheVariants as m
use Rattle.marks.specs.declared.LocMark.{LocMark}
use Rattle.marks.specs.declared.LocMark.TheVariants.{FV, NV}
use Rattle.marks.specs.declared.LookMark.{LookMark}
use Rattle.marks.specs.declared.LookMark.TheVariants.{UF, RD, CN, UL}
use Rattle.marks.specs.declared.TwoMark.{TwoMark}
use Rattle.marks.specs.declared.TwoMark.TheVariants.{JN, SU, JL}
use Rattle.marks.specs.declared.LocTypeMark.{LocTypeMark}
use Rattle.marks.specs.declared.LocTypeMark.TheVariants.{BC, SC}

-- a form's record of each of its marks

abbrev pub loc_record : LocMark → ℕ → Record
loc_record FV = d.FV
loc_record NV = d.NV

abbrev pub look_record : LookMark → Tree → Record
look_record UF = d.UF
look_record RD = d.RD
look_record CN = d.CN
look_record UL = d.UL

abbrev pub two_record : TwoMark → Tree → Tree → Record
two_record JN = d.JN
two_record SU = d.SU
two_record JL = d.JL

abbrev pub loc_type_record : LocTypeMark → ℕ → Tree → Record
loc_type_record BC = d.BC
loc_type_record SC = d.SC

-- the reader of a mark's fields; other letters are malformed
abbrev pub reader_of : Option RecordMark → State → Reader Record
reader_of (Some m.SD) s = read_SD s
reader_of (Some m.SN) s = read_two d.SN (name_below (taken s)) read_u32
reader_of (Some m.TS) s = read_TS s
reader_of (Some m.IN) s = read_one d.IN (read_type s)
reader_of (Some m.NC) s = read_three d.NC read_u32 read_kind (read_type s)
reader_of (Some m.SV) s = give d.SV
reader_of (Some m.RM) s = read_one d.RM (read_type s)
reader_of (Some m.XP) s = read_one d.XP (read_type s)
reader_of (Some m.NL) s = read_two d.NL read_u32 read_bits
reader_of (Some m.MJ) s = read_MJ s
reader_of (Some m.KP) s = read_KP s
reader_of (Some (m.Loc x)) s = read_one (loc_record x) read_u32
reader_of (Some (m.Look x)) s = read_one (look_record x) (read_type s)
reader_of (Some (m.Two x)) s = read_two (two_record x) (read_type s) (read_type s)
reader_of (Some (m.LocType x)) s = read_two (loc_type_record x) read_u32 (read_type s)
reader_of None s = refuse malformed
