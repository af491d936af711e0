-- R-2: the numeric rule, of every builtin number b at once. The rule goes by the list `integers` alone, so a number that joins the list joins the rule. Assumes nothing.
-- `NumericRule` is the claim in three parts: join and subtype, NC, marks without drop. Each part is computed from a name that is in the list.
use mathlib.Core.Path.{◌≡◌, refl, sym, ap, ◌∙◌, subst}
use mathlib.Core.Logic.{◌↔◌}
use mathlib.Core.Bool.{Bool, true, false, not, ◌&&◌, ◌||◌}
use mathlib.Core.List.{List, []}
use Rattle.std.specs.Prelude.{None, Some}
use Prim.Native.Nat.{ℕ, suc, ◌<◌, ◌≤◌}
use Rattle.std.specs.Prelude.{if◌then◌else◌, eqb}
use borrow.Author.Tests.{eqb-true}
use Rattle.definition.specs.Types.{TypeName, Builtin, Multiple, ModuleType, AbilityMark, UnitType, Ref, Param, Apply, Var, Anything, UnresolvedError, Places, State, TypeValue, Constraint, NumericConstraint, BitsConstraint, OrderedConstraint, Incompatible, malformed, Result, ok, err, ◌>>=◌}
use Rattle.definition.specs.Store.{count, type_at, loc_of, spanned, get, num_loc, insert, any_of, need_of}
use Rattle.definition.specs.Subst.{as_var, is_anything, parts, unfold_type}
use Rattle.definition.specs.Join.{TypingCase, integers, is_numeric, is_num_var, num_shape, check_num_tvar', check_num_tvar, is_var, used, join_bind_tvar, arm, join_unbound, join_arm, join_impl, width, fits}
use Rattle.definition.specs.Constraints.{is_integer, solve, failure, solve_constraint}
use Rattle.definition.specs.Write.{Bytes}
use Rattle.definition.specs.Reader.{got, not_read, Reader, give, refuse, go_on, byte}
use Rattle.definition.specs.Trees.{Tree, apply_tree, is_mark, is_name, has_drop, mark_fits, arity, read_trees, read_mark, read_apply}
use Rattle.definition.specs.Sound.{sound, places_fit, shape_allowed}
use Rattle.theorems.proofs.DemandTracks.{never}
use Rattle.theorems.proofs.SoundFacts.{facts, and_l}
use Rattle.theorems.proofs.MetSteps.{fits_parts}
use Rattle.theorems.proofs.TotalNoFail.{fits_from}
use Rattle.theorems.proofs.NumericCheck.{check_plain}
use Rattle.theorems.proofs.BookLiteral.{no_arguments}
use Rattle.definition.specs.Reader as reader

-- ---- the claim

-- an unbound numeric variable v, the node `var`, meets the node `other`: it is bound to it, or both are shown
unfoldable pub taken_or_shown : State → (v var other lhs rhs : ℕ) → Bool → Result (State × ℕ)
taken_or_shown s v var other lhs rhs true = ok (insert s v other, var)
taken_or_shown s v var other lhs rhs false = err s (Incompatible lhs rhs)

-- NC's constraint, of one of its kinds
pub data Numeric : Constraint → ℕ → ℕ → Type 0 where
  numeric : {loc ty : ℕ} → Numeric (NumericConstraint loc ty) loc ty
  bits : {loc ty : ℕ} → Numeric (BitsConstraint loc ty) loc ty
  ordered : {loc ty : ℕ} → Numeric (OrderedConstraint loc ty) loc ty

-- what stands after a builtin's mark and number
abbrev pub read_arguments : State → Reader Tree → ℕ → AbilityMark → ℕ → Reader Tree
read_arguments s read_type loc k b = reader.◌>>=◌ (read_trees (arity s (Builtin b)) read_type) (λ ts. give (apply_tree loc k (Builtin b) ts))

pub record NumericRule (s : State) (b : ℕ) : Type 0 where
  -- (1) join and subtype, the variable on either side
  pub on_the_left : (depth : ℕ) (case : TypingCase) (v loc var other : ℕ) (k : AbilityMark) (tys : List ℕ) → num_loc s v ≡ Some loc → get s v ≡ None → other < count s → type_at s var ≡ Var v → type_at s other ≡ Apply k (Builtin b) tys
      → join_impl (suc depth) s case var other ≡ taken_or_shown s v var other var other (fits (need_of s v) (Builtin b))
  pub on_the_right : (depth : ℕ) (case : TypingCase) (v loc var other : ℕ) (k : AbilityMark) (tys : List ℕ) → num_loc s v ≡ Some loc → get s v ≡ None → other < count s → type_at s var ≡ Var v → type_at s other ≡ Apply k (Builtin b) tys
      → join_impl (suc depth) s case other var ≡ taken_or_shown s v var other other var (fits (need_of s v) (Builtin b))
  -- (2) NC, of every kind
  pub constrained : (c : Constraint) (loc ty : ℕ) (k : AbilityMark) (tys : List ℕ) → Numeric c loc ty → (unfold_type s (spanned s ty)).value ≡ Apply k (Builtin b) tys
      → solve_constraint s c ≡ ok (if is_numeric (Builtin b) then [] else failure s 1 loc (unfold_type s (spanned s ty)))
  -- (3) a mark without drop, in a record and in a state
  pub read : (read_type : Reader Tree) (loc : ℕ) (k : AbilityMark) (bytes after_mark after_number : Bytes) → read_mark bytes ≡ got k after_mark → byte after_mark ≡ got b after_number → is_name s (Builtin b) ≡ true → has_drop k ≡ false
      → read_apply s read_type loc byte Builtin malformed bytes ≡ (if is_numeric (Builtin b) then not_read malformed else read_arguments s read_type loc k b after_number)
  pub kept : (k : AbilityMark) (places : Places) → has_drop k ≡ false
      → shape_allowed s (Apply k (Builtin b) places) ≡ is_mark k && is_name s (Builtin b) && not (is_numeric (Builtin b)) && places_fit s (Builtin b) places

-- ---- the list

-- 01's and 02's integer types, by their numbers as builtins
pub data IsInteger : ℕ → Type 0 where
  u8 : IsInteger 2
  u64 : IsInteger 3
  u128 : IsInteger 4
  u16 : IsInteger 7
  u32 : IsInteger 8
  u256 : IsInteger 9

pub integers_are : (b : ℕ) → (is_numeric (Builtin b) ≡ true) ↔ IsInteger b
unfolding is_numeric integers any_of
integers_are b = (λ e. one 2 u8 _ (one 3 u64 _ (one 4 u128 _ (one 7 u16 _ (one 8 u32 _ (one 9 u256 _ (λ n. never (cc))))))) e, there)
  where
    -- b is i, or among those that follow
    one : (i : ℕ) → IsInteger i → (rest : Bool) → (rest ≡ true → IsInteger b) → ◌≡◌ {A = Bool} (elim (eqb b i) [ true ↦ true | false ↦ rest ]) true → IsInteger b
    one i is rest other e = go (eqb b i) refl e
      where
        go : (c : Bool) → eqb b i ≡ c → ◌≡◌ {A = Bool} (elim c [ true ↦ true | false ↦ rest ]) true → IsInteger b
        go true p q = subst IsInteger (sym (eqb-true b i p)) is
        go false p q = other q

    there : {n : ℕ} → IsInteger n → is_numeric (Builtin n) ≡ true
    there u8 = refl
    there u64 = refl
    there u128 = refl
    there u16 = refl
    there u32 = refl
    there u256 = refl

-- ---- (1)

numbered : (s : State) (v loc : ℕ) → num_loc s v ≡ Some loc → is_num_var s v ≡ true
unfolding is_num_var
numbered s v loc e = rw (e, is_num_var) refl

-- of any type that is no variable
checked_shape : (s : State) (v loc other : ℕ) → num_loc s v ≡ Some loc → as_var (type_at s other) ≡ None → check_num_tvar s v other ≡ num_shape (need_of s v) (type_at s other)
unfolding check_num_tvar
checked_shape s v loc other marked plain = ap (λ (x : Bool). not x || check_num_tvar' s (need_of s v) other) (numbered s v loc marked) ∙ check_plain s (need_of s v) other plain

-- 01's list, with 02's need: `!`, `_` and the integer types that have so many bits
pub data Takes (need : ℕ) : TypeValue → Type 0 where
  takes_anything : Takes need Anything
  takes_error : Takes need UnresolvedError
  takes_integer : {k : AbilityMark} {b : ℕ} {tys : List ℕ} → IsInteger b → need ≤ width b → Takes need (Apply k (Builtin b) tys)

-- no list and no struct is an integer type
numeric_name : (need : ℕ) (k : AbilityMark) (n : TypeName) (tys : List ℕ) → fits need n ≡ true → Takes need (Apply k n tys)
unfolding fits is_numeric
numeric_name need k (Multiple len) tys e = never (cc)
numeric_name need k (Builtin b) tys e = let p = fits_parts need b e in takes_integer ((integers_are b).0 p.0) p.1
numeric_name need k (ModuleType m) tys e = never (cc)

takes : (need : ℕ) (t : TypeValue) → (num_shape need t ≡ true) ↔ Takes need t
unfolding num_shape
takes need t = (there t, back)
  where
    there : (t : TypeValue) → num_shape need t ≡ true → Takes need t
    there UnitType e = never (cc)
    there (Ref m p) e = never (cc)
    there (Param id a) e = never (cc)
    there (Apply k n tys) e = numeric_name need k n tys e
    there (Var v) e = never (cc)
    there Anything e = takes_anything
    there UnresolvedError e = takes_error

    back : {t : TypeValue} → Takes need t → num_shape need t ≡ true
    back takes_anything = refl
    back takes_error = refl
    back (takes_integer {b = b} i l) = fits_from need b ((integers_are b).1 i) l

-- 01's rule where it stands, at the binding, of any type that is no variable: a numeric variable takes just these
pub numeric_takes : (s : State) (v loc other : ℕ) → num_loc s v ≡ Some loc → as_var (type_at s other) ≡ None → (check_num_tvar s v other ≡ true) ↔ Takes (need_of s v) (type_at s other)
numeric_takes s v loc other marked plain = rw (checked_shape s v loc other marked plain) (takes (need_of s v) (type_at s other))

-- .. any other is turned down, whichever arm or merge binds it
pub numeric_refuses : (s : State) (at v loc other : ℕ) → num_loc s v ≡ Some loc → as_var (type_at s other) ≡ None → ¬ Takes (need_of s v) (type_at s other) → join_bind_tvar s at v other ≡ ok (s, false)
unfolding join_bind_tvar
numeric_refuses s at v loc other marked plain none = by (check_num_tvar s v other) refl
  where
    by : (x : Bool) → check_num_tvar s v other ≡ x → join_bind_tvar s at v other ≡ ok (s, false)
    by true e = absurd (none ((numeric_takes s v loc other marked plain).0 e))
    by false e = rw e refl

module _ (s : State) (v loc other b : ℕ) (k : AbilityMark) (tys : List ℕ) (marked : num_loc s v ≡ Some loc) (is : type_at s other ≡ Apply k (Builtin b) tys) where
  checked : check_num_tvar s v other ≡ fits (need_of s v) (Builtin b)
  unfolding as_var num_shape
  checked = checked_shape s v loc other marked (ap as_var is) ∙ ap (num_shape (need_of s v)) is

  not_used : tys ≡ [] → used (suc other) s v other ≡ false
  unfolding used is_var any_of parts as_var
  not_used e = rw (is, e) refl

  binds : (at : ℕ) (x : Bool) → fits (need_of s v) (Builtin b) ≡ x → (x ≡ true → tys ≡ []) → join_bind_tvar s at v other ≡ (if x then ok (insert s v other, true) else ok (s, false))
  unfolding join_bind_tvar is_anything
  binds at true e none_there = rw (checked, e, not_used (none_there refl), is) refl
  binds at false e none_there = rw (checked, e) refl

  joins : (lhs rhs var : ℕ) (x : Bool) → fits (need_of s v) (Builtin b) ≡ x → (x ≡ true → tys ≡ []) → join_unbound s lhs rhs var v other ≡ taken_or_shown s v var other lhs rhs x
  unfolding join_unbound taken_or_shown ◌>>=◌
  joins lhs rhs var true e h = rw (binds (loc_of s var) true e h) refl
  joins lhs rhs var false e h = rw (binds (loc_of s var) false e h) refl

  on_left : (depth : ℕ) (case : TypingCase) (var : ℕ) (x : Bool) → fits (need_of s v) (Builtin b) ≡ x → (x ≡ true → tys ≡ []) → get s v ≡ None → type_at s var ≡ Var v
      → join_impl (suc depth) s case var other ≡ taken_or_shown s v var other var other x
  unfolding join_impl join_arm arm
  on_left depth case var x e h free at = rw (at, is, free, join_arm) (joins var other var x e h)

  on_right : (depth : ℕ) (case : TypingCase) (var : ℕ) (x : Bool) → fits (need_of s v) (Builtin b) ≡ x → (x ≡ true → tys ≡ []) → get s v ≡ None → type_at s var ≡ Var v
      → join_impl (suc depth) s case other var ≡ taken_or_shown s v var other other var x
  unfolding join_impl join_arm arm
  on_right depth case var x e h free at = rw (is, at, free, join_arm) (joins other var var x e h)

-- ---- (2)

integer : (s : State) (loc ty b : ℕ) (k : AbilityMark) (tys : List ℕ) → (unfold_type s (spanned s ty)).value ≡ Apply k (Builtin b) tys
    → solve s is_integer 1 loc ty ≡ (if is_numeric (Builtin b) then [] else failure s 1 loc (unfold_type s (spanned s ty)))
unfolding solve is_integer
integer s loc ty b k tys e = ap (λ (x : TypeValue). if is_integer x then [] else failure s 1 loc (unfold_type s (spanned s ty))) e

solved : (s : State) (c : Constraint) (loc ty b : ℕ) (k : AbilityMark) (tys : List ℕ) → Numeric c loc ty → (unfold_type s (spanned s ty)).value ≡ Apply k (Builtin b) tys
    → solve_constraint s c ≡ ok (if is_numeric (Builtin b) then [] else failure s 1 loc (unfold_type s (spanned s ty)))
unfolding solve_constraint
solved s c loc ty b k tys numeric e = ap ok (integer s loc ty b k tys e)
solved s c loc ty b k tys bits e = ap ok (integer s loc ty b k tys e)
solved s c loc ty b k tys ordered e = ap ok (integer s loc ty b k tys e)

-- ---- (3)

-- without drop a mark fits just where the name is no integer type's
without_drop : (b : ℕ) (k : AbilityMark) → has_drop k ≡ false → mark_fits k (Builtin b) ≡ not (is_numeric (Builtin b))
unfolding mark_fits
without_drop b k e = rw e (by (is_numeric (Builtin b)))
  where
    by : (x : Bool) → not x || false ≡ not x
    by true = refl
    by false = refl

module _ (s : State) (m : Reader Tree) (loc b : ℕ) (k : AbilityMark) (bytes after_mark after_number : Bytes) (e : read_mark bytes ≡ got k after_mark) (f : byte after_mark ≡ got b after_number) (n : is_name s (Builtin b) ≡ true) where
  tested : read_apply s m loc byte Builtin malformed bytes ≡ (if not (mark_fits k (Builtin b)) then refuse malformed else read_arguments s m loc k b) after_number
  unfolding read_apply reader.◌>>=◌ go_on
  tested = rw (e, f, n) refl

  fits_or_not : (x : Bool) → mark_fits k (Builtin b) ≡ not x → read_apply s m loc byte Builtin malformed bytes ≡ (if x then not_read malformed else read_arguments s m loc k b after_number)
  unfolding refuse
  fits_or_not true g = tested ∙ rw g refl
  fits_or_not false g = tested ∙ rw g refl

-- ---- the rule

pub numeric_rule : (s : State) → sound s ≡ true → (b : ℕ) → NumericRule s b
unfolding shape_allowed fits
numeric_rule s h b = record {
  on_the_left = λ depth case v loc var other k tys num free l at is. on_left s v loc other b k tys num is depth case var (fits (need_of s v) (Builtin b)) refl (λ e. plain other k tys l is (and_l (is_numeric (Builtin b)) _ e)) free at;
  on_the_right = λ depth case v loc var other k tys num free l at is. on_right s v loc other b k tys num is depth case var (fits (need_of s v) (Builtin b)) refl (λ e. plain other k tys l is (and_l (is_numeric (Builtin b)) _ e)) free at;
  constrained = λ c loc ty k tys n e. solved s c loc ty b k tys n e;
  read = λ m loc k bytes l l' e f n d. fits_or_not s m loc b k bytes l l' e f n (is_numeric (Builtin b)) (without_drop b k d);
  kept = λ k places e. ap (λ (x : Bool). is_mark k && is_name s (Builtin b) && x && places_fit s (Builtin b) places) (without_drop b k e);
}
  where
    -- an integer type has no arguments
    plain : (other : ℕ) (k : AbilityMark) (tys : List ℕ) → other < count s → type_at s other ≡ Apply k (Builtin b) tys → is_numeric (Builtin b) ≡ true → tys ≡ []
    plain other k tys l is e = no_arguments s (Builtin b) tys e ((facts s h).arity other k (Builtin b) tys l is)
