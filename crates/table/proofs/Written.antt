-- Entries written as rows, and read again. Assumes nothing.
use mathlib.Core.Path.{◌≡◌, refl, sym, ap, ◌∙◌}
use mathlib.Core.Bool.{Bool, true, false}
use mathlib.Core.List.{List, [], ◌∷◌}
use Rattle.std.specs.Prelude.{Option, None, Some, is_some, unwrap_or}
use mir.Val.{bool_byte}
use Prim.Native.Nat.{ℕ, ◌+◌, ◌-◌, ◌<◌, ◌%◌}
use native.Mathlib.Omega.{arith}
use lib.Dec.{eqb}
use lib.ListN.{length, take, replicate, length-replicate}
use borrow.Author.Tests.{le-ltb}
use Rattle.definition.specs.Types.{TypeName, Multiple, Builtin, ModuleType, AbilityMark, Shape, UnitType, Ref, Param, Apply, Var, Anything, UnresolvedError, Places, Node, Cell}
use Rattle.definition.specs.Types.{Constraint, AbilityConstraint, NumericConstraint, BitsConstraint, OrderedConstraint, BaseTypeConstraint, SingleTypeConstraint, Struct}
use Rattle.table.specs.Rows.{flag, read_mark, mark_word, read_option, option_flag, option_word, places, read_name, read_shape, read_node, name_tag, name_word, shape_words, node_words, node_table}
use Rattle.table.specs.Rows.{read_cell, cell_words, var_table, read_constraint, constraint_words, constraint_table, read_struct, struct_words, struct_table, Written}
use Rattle.table.specs.State.{cell}

-- ---- nodes

pub mark_again : (set : ℕ) → set < 256 → read_mark (16 + set) ≡ Some set
unfolding read_mark
mark_again set h =
    let e : (16 + set - 16) % 256 ≡ set = omega arith in
    rw (le-ltb (16 + set) 16 (omega arith), e)

flag_again : (m : Bool) → eqb (flag m) 1 ≡ m
unfolding flag
flag_again true = refl
flag_again false = refl

pub unit_row : (loc : ℕ) → Written node_table (0 ∷ loc ∷ 0 ∷ 0 ∷ 0 ∷ 0 ∷ []) (record { loc = loc; value = UnitType })
unfolding read_node read_shape node_words shape_words
unit_row loc = record { is = refl; again = refl }

pub flag_byte : (m : Bool) → bool_byte m ≡ flag m
unfolding flag
flag_byte true = refl
flag_byte false = refl

pub ref_row : (loc : ℕ) (m : Bool) (t f : ℕ) → f ≡ flag m → Written node_table (1 ∷ loc ∷ f ∷ t ∷ 0 ∷ 0 ∷ []) (record { loc = loc; value = Ref m t })
unfolding read_node read_shape node_words shape_words
ref_row loc m t f e = record { is = ap (λ (x : ℕ). 1 ∷ loc ∷ x ∷ t ∷ 0 ∷ 0 ∷ []) e; again = λ i. record { loc = loc; value = Ref (flag_again m i) t } }

pub param_row : (loc id a b : ℕ) → b ≡ a → b < 256 → Written node_table (2 ∷ loc ∷ id ∷ b ∷ 0 ∷ 0 ∷ []) (record { loc = loc; value = Param id a })
unfolding read_node read_shape node_words shape_words
param_row loc id a b e h =
    let m : a % 256 ≡ a = omega arith in
    record { is = ap (λ (x : ℕ). 2 ∷ loc ∷ id ∷ x ∷ 0 ∷ 0 ∷ []) e; again = λ i. record { loc = loc; value = Param id (m i) } }

apply_again : (loc k : ℕ) (n : TypeName) (first many : ℕ) → read_node (name_tag n ∷ loc ∷ k ∷ name_word n ∷ first ∷ many ∷ []) ≡ record { loc = loc; value = Apply (read_mark k) n (places first many) }
unfolding read_node read_shape name_tag name_word read_name
apply_again loc k (Multiple n) first many = refl
apply_again loc k (Builtin b) first many = refl
apply_again loc k (ModuleType n) first many = refl

pub apply_row : (loc k : ℕ) (mark : AbilityMark) (n : TypeName) (first many : ℕ) (r : List ℕ)
    → take 6 r ≡ name_tag n ∷ loc ∷ k ∷ name_word n ∷ first ∷ many ∷ [] → k ≡ mark_word mark → read_mark k ≡ mark
    → Written node_table r (record { loc = loc; value = Apply mark n (places first many) })
unfolding node_words shape_words places
apply_row loc k mark n first many r e f g =
    record {
      is = e ∙ ap (λ (x : ℕ). name_tag n ∷ loc ∷ x ∷ name_word n ∷ first ∷ many ∷ []) f;
      again = ap (λ (x : ℕ). read_node (name_tag n ∷ loc ∷ x ∷ name_word n ∷ first ∷ many ∷ [])) (sym f) ∙ apply_again loc k n first many ∙ ap (λ (x : AbilityMark). record { loc = loc; value = Apply x n (places first many) }) g;
    }

pub var_row : (loc v i : ℕ) → i ≡ v → i < 65536 → Written node_table (6 ∷ loc ∷ i ∷ 0 ∷ 0 ∷ 0 ∷ []) (record { loc = loc; value = Var v })
unfolding read_node read_shape node_words shape_words
var_row loc v i e h =
    let m : v % 65536 ≡ v = omega arith in
    record { is = ap (λ (x : ℕ). 6 ∷ loc ∷ x ∷ 0 ∷ 0 ∷ 0 ∷ []) e; again = λ i. record { loc = loc; value = Var (m i) } }

pub anything_row : (loc : ℕ) → Written node_table (7 ∷ loc ∷ 0 ∷ 0 ∷ 0 ∷ 0 ∷ []) (record { loc = loc; value = Anything })
unfolding read_node read_shape node_words shape_words
anything_row loc = record { is = refl; again = refl }

pub error_row : (loc : ℕ) → Written node_table (8 ∷ loc ∷ 0 ∷ 0 ∷ 0 ∷ 0 ∷ []) (record { loc = loc; value = UnresolvedError })
unfolding read_node read_shape node_words shape_words
error_row loc = record { is = refl; again = refl }

shape_long : (loc : ℕ) (s : Shape Places) → length (shape_words loc s) ≡ 6
unfolding shape_words
shape_long loc UnitType = refl
shape_long loc (Ref m t) = refl
shape_long loc (Param id a) = refl
shape_long loc (Apply k n p) = refl
shape_long loc (Var v) = refl
shape_long loc Anything = refl
shape_long loc UnresolvedError = refl

pub node_long : (n : Node) → length (node_words n) ≡ 6
unfolding node_words
node_long n = shape_long n.loc n.value

-- ---- variables

option_again : (o : Option ℕ) → read_option (option_flag o) (option_word o) ≡ o
unfolding read_option option_flag option_word
option_again None = refl
option_again (Some x) = refl

pub cell_again : (c : Cell) → read_cell (cell_words c) ≡ c
unfolding read_cell cell_words
cell_again c = λ i. record { binding = option_again c.binding i; numeric = option_again c.numeric i; need = c.need }

some_flag : (b : Bool) (o : Option ℕ) → b ≡ is_some o → bool_byte b ≡ option_flag o
unfolding option_flag
some_flag b None e = ap bool_byte e
some_flag b (Some x) e = ap bool_byte e

some_word : (x : ℕ) (o : Option ℕ) → x ≡ unwrap_or o 0 → x ≡ option_word o
unfolding option_word
some_word x None e = e
some_word x (Some y) e = e

pub cell_row : (b m : Option ℕ) (bf mf : Bool) (bw mw n : ℕ) → bf ≡ is_some b → bw ≡ unwrap_or b 0 → mf ≡ is_some m → mw ≡ unwrap_or m 0
    → Written var_table (bool_byte bf ∷ bw ∷ bool_byte mf ∷ mw ∷ n ∷ []) (cell b m n)
unfolding cell_words
cell_row b m bf mf bw mw n e f g h =
    record { is = λ i. some_flag bf b e i ∷ some_word bw b f i ∷ some_flag mf m g i ∷ some_word mw m h i ∷ n ∷ []; again = cell_again _ }

pub cell_long : (c : Cell) → length (cell_words c) ≡ 5
unfolding cell_words
cell_long c = refl

-- ---- constraints

pub ability_row : (loc ty a b : ℕ) → b ≡ a → b < 256 → Written constraint_table (0 ∷ loc ∷ ty ∷ b ∷ []) (AbilityConstraint loc ty a)
unfolding read_constraint constraint_words
ability_row loc ty a b e h =
    let m : a % 256 ≡ a = omega arith in
    record { is = ap (λ (x : ℕ). 0 ∷ loc ∷ ty ∷ x ∷ []) e; again = ap (λ (x : ℕ). AbilityConstraint loc ty x) m }

pub numeric_row : (loc ty : ℕ) → Written constraint_table (1 ∷ loc ∷ ty ∷ 0 ∷ []) (NumericConstraint loc ty)
unfolding read_constraint constraint_words
numeric_row loc ty = record { is = refl; again = refl }

pub bits_row : (loc ty : ℕ) → Written constraint_table (2 ∷ loc ∷ ty ∷ 0 ∷ []) (BitsConstraint loc ty)
unfolding read_constraint constraint_words
bits_row loc ty = record { is = refl; again = refl }

pub ordered_row : (loc ty : ℕ) → Written constraint_table (3 ∷ loc ∷ ty ∷ 0 ∷ []) (OrderedConstraint loc ty)
unfolding read_constraint constraint_words
ordered_row loc ty = record { is = refl; again = refl }

pub base_row : (loc ty : ℕ) → Written constraint_table (4 ∷ loc ∷ ty ∷ 0 ∷ []) (BaseTypeConstraint loc ty)
unfolding read_constraint constraint_words
base_row loc ty = record { is = refl; again = refl }

pub single_row : (loc ty : ℕ) → Written constraint_table (5 ∷ loc ∷ ty ∷ 0 ∷ []) (SingleTypeConstraint loc ty)
unfolding read_constraint constraint_words
single_row loc ty = record { is = refl; again = refl }

pub constraint_long : (c : Constraint) → length (constraint_words c) ≡ 4
unfolding constraint_words
constraint_long (AbilityConstraint loc ty a) = refl
constraint_long (NumericConstraint loc ty) = refl
constraint_long (BitsConstraint loc ty) = refl
constraint_long (OrderedConstraint loc ty) = refl
constraint_long (BaseTypeConstraint loc ty) = refl
constraint_long (SingleTypeConstraint loc ty) = refl

-- ---- structs

pub struct_row : (abilities a params : ℕ) → a ≡ abilities → a < 256 → Written struct_table (a ∷ params ∷ []) (record { abilities = abilities; params = replicate params 0 })
unfolding read_struct struct_words
struct_row abilities a params e h =
    let m : abilities % 256 ≡ abilities = omega arith in
    let l : length (replicate {A = ℕ} params 0) ≡ params = length-replicate {A = ℕ} params 0 in
    record { is = λ i. e i ∷ sym l i ∷ []; again = λ i. record { abilities = m i; params = replicate (l i) 0 } }

pub struct_long : (d : Struct) → length (struct_words d) ≡ 2
unfolding struct_words
struct_long d = refl
