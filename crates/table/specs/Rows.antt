-- The layout of the lent words (docs/STATE.md draws it): five tables of rows, one field to a word. Assumes nothing: these are definitions.
use Rattle.std.specs.Prelude.{◌≡◌, Bool, true, false, List, [], ◌∷◌, ℕ, ◌+◌, ◌*◌, ◌-◌, ◌<◌, ◌%◌, eqb, ltb, length, get_or, take, replicate, if◌then◌else◌}
use Rattle.std.specs.Prelude.{Option, None, Some}
use Rattle.definition.specs.Types.{TypeName, Multiple, Builtin, ModuleType, AbilityMark, Shape, UnitType, Ref, Param, Apply, Var, Anything, UnresolvedError, Places, Node, Cell, unbound}
use Rattle.definition.specs.Types.{Constraint, AbilityConstraint, NumericConstraint, BitsConstraint, OrderedConstraint, BaseTypeConstraint, SingleTypeConstraint, Struct}
use Rattle.table.specs.Tab.{tab}

-- where a table begins, how wide its rows are and how many it has; the entry whose row is all zeros; what a row says, and how an entry is written
pub record Table (A : Type 0) : Type 0 where
  pub base : ℕ
  pub width : ℕ
  pub rows : ℕ
  pub blank : A
  pub read : List ℕ → A
  pub write : A → List ℕ

-- n words from place `at` on
unfoldable pub words_at : List ℕ → ℕ → ℕ → List ℕ
words_at w at n = tab n (λ k. get_or w (at + k) 0)

-- the words of row i
unfoldable pub row : {A : Type 0} → Table A → List ℕ → ℕ → List ℕ
row T w i = words_at w (T.base + i * T.width) T.width

-- the first n rows
unfoldable pub entries : {A : Type 0} → Table A → List ℕ → ℕ → List A
entries T w n = tab n (λ i. T.read (row T w i))

-- every row, used or not, is just what its entry is written as
unfoldable pub Clean : {A : Type 0} → Table A → List ℕ → ℕ → Type 0
Clean T w n = (i : ℕ) → i < T.rows → row T w i ≡ T.write (get_or (entries T w n) i T.blank)

-- ---- numbers of a row

unfoldable pub flag : Bool → ℕ
flag true = 1
flag false = 0

-- 0, or 16 and the set
unfoldable pub read_mark : ℕ → AbilityMark
read_mark x = if ltb x 16 then None else Some ((x - 16) % 256)

unfoldable pub mark_word : AbilityMark → ℕ
mark_word None = 0
mark_word (Some set) = 16 + set

-- a flag and a number
unfoldable pub read_option : ℕ → ℕ → Option ℕ
read_option is x = if eqb is 1 then Some x else None

unfoldable pub option_flag : Option ℕ → ℕ
option_flag None = 0
option_flag (Some x) = 1

unfoldable pub option_word : Option ℕ → ℕ
option_word None = 0
option_word (Some x) = x

-- ---- nodes: tag, location, four fields. The tags are those of a record

unfoldable pub places : ℕ → ℕ → Places
places first many = record { first = first; many = many }

unfoldable pub read_name : ℕ → ℕ → TypeName
read_name tag x = if eqb tag 3 then Builtin x else if eqb tag 4 then Multiple x else ModuleType x

unfoldable pub read_shape : ℕ → ℕ → ℕ → ℕ → ℕ → Shape Places
read_shape tag a b c d =
    if eqb tag 0 then UnitType
    else if eqb tag 1 then Ref (eqb a 1) b
    else if eqb tag 2 then Param a (b % 256)
    else if ltb tag 6 then Apply (read_mark a) (read_name tag b) (places c d)
    else if eqb tag 6 then Var (a % 65536)
    else if eqb tag 7 then Anything
    else UnresolvedError

unfoldable pub read_node : List ℕ → Node
read_node r = record { loc = get_or r 1 0; value = read_shape (get_or r 0 0) (get_or r 2 0) (get_or r 3 0) (get_or r 4 0) (get_or r 5 0) }

unfoldable pub name_tag : TypeName → ℕ
name_tag (Builtin b) = 3
name_tag (Multiple n) = 4
name_tag (ModuleType n) = 5

unfoldable pub name_word : TypeName → ℕ
name_word (Builtin b) = b
name_word (Multiple n) = n
name_word (ModuleType n) = n

unfoldable pub shape_words : ℕ → Shape Places → List ℕ
shape_words loc UnitType = 0 ∷ loc ∷ 0 ∷ 0 ∷ 0 ∷ 0 ∷ []
shape_words loc (Ref m t) = 1 ∷ loc ∷ flag m ∷ t ∷ 0 ∷ 0 ∷ []
shape_words loc (Param id a) = 2 ∷ loc ∷ id ∷ a ∷ 0 ∷ 0 ∷ []
shape_words loc (Apply k n p) = name_tag n ∷ loc ∷ mark_word k ∷ name_word n ∷ p.first ∷ p.many ∷ []
shape_words loc (Var v) = 6 ∷ loc ∷ v ∷ 0 ∷ 0 ∷ 0 ∷ []
shape_words loc Anything = 7 ∷ loc ∷ 0 ∷ 0 ∷ 0 ∷ 0 ∷ []
shape_words loc UnresolvedError = 8 ∷ loc ∷ 0 ∷ 0 ∷ 0 ∷ 0 ∷ []

unfoldable pub node_words : Node → List ℕ
node_words n = shape_words n.loc n.value

abbrev pub node_table : Table Node
node_table = record { base = 5; width = 6; rows = 2048; blank = record { loc = 0; value = UnitType }; read = read_node; write = node_words }

-- ---- argument places: a node

unfoldable pub read_arg : List ℕ → ℕ
read_arg r = get_or r 0 0

unfoldable pub arg_words : ℕ → List ℕ
arg_words t = t ∷ []

abbrev pub arg_table : Table ℕ
arg_table = record { base = 12293; width = 1; rows = 4096; blank = 0; read = read_arg; write = arg_words }

-- ---- variables: whether bound, the node; whether numeric, the location; the need

unfoldable pub read_cell : List ℕ → Cell
read_cell r = record { binding = read_option (get_or r 0 0) (get_or r 1 0); numeric = read_option (get_or r 2 0) (get_or r 3 0); need = get_or r 4 0 }

unfoldable pub cell_words : Cell → List ℕ
cell_words c = option_flag c.binding ∷ option_word c.binding ∷ option_flag c.numeric ∷ option_word c.numeric ∷ c.need ∷ []

abbrev pub var_table : Table Cell
var_table = record { base = 16389; width = 5; rows = 1024; blank = unbound; read = read_cell; write = cell_words }

-- ---- constraints: kind, location, type, abilities

unfoldable pub read_constraint : List ℕ → Constraint
read_constraint r =
    if eqb (get_or r 0 0) 0 then AbilityConstraint (get_or r 1 0) (get_or r 2 0) (get_or r 3 0 % 256)
    else if eqb (get_or r 0 0) 1 then NumericConstraint (get_or r 1 0) (get_or r 2 0)
    else if eqb (get_or r 0 0) 2 then BitsConstraint (get_or r 1 0) (get_or r 2 0)
    else if eqb (get_or r 0 0) 3 then OrderedConstraint (get_or r 1 0) (get_or r 2 0)
    else if eqb (get_or r 0 0) 4 then BaseTypeConstraint (get_or r 1 0) (get_or r 2 0)
    else SingleTypeConstraint (get_or r 1 0) (get_or r 2 0)

unfoldable pub constraint_words : Constraint → List ℕ
constraint_words (AbilityConstraint loc ty abilities) = 0 ∷ loc ∷ ty ∷ abilities ∷ []
constraint_words (NumericConstraint loc ty) = 1 ∷ loc ∷ ty ∷ 0 ∷ []
constraint_words (BitsConstraint loc ty) = 2 ∷ loc ∷ ty ∷ 0 ∷ []
constraint_words (OrderedConstraint loc ty) = 3 ∷ loc ∷ ty ∷ 0 ∷ []
constraint_words (BaseTypeConstraint loc ty) = 4 ∷ loc ∷ ty ∷ 0 ∷ []
constraint_words (SingleTypeConstraint loc ty) = 5 ∷ loc ∷ ty ∷ 0 ∷ []

abbrev pub constraint_table : Table Constraint
constraint_table = record { base = 21509; width = 4; rows = 512; blank = AbilityConstraint 0 0 0; read = read_constraint; write = constraint_words }

-- ---- structs: abilities, how many parameters. Their bytes stand beside the words: here they are zeros

unfoldable pub read_struct : List ℕ → Struct
read_struct r = record { abilities = get_or r 0 0 % 256; params = replicate (get_or r 1 0) 0 }

unfoldable pub struct_words : Struct → List ℕ
struct_words d = d.abilities ∷ length d.params ∷ []

abbrev pub struct_table : Table Struct
struct_table = record { base = 23557; width = 2; rows = 256; blank = record { abilities = 0; params = [] }; read = read_struct; write = struct_words }

-- a row that is written, and read again, as the entry a
pub record Written {A : Type 0} (T : Table A) (words : List ℕ) (a : A) : Type 0 where
  pub is : take T.width words ≡ T.write a
  pub again : T.read (T.write a) ≡ a
