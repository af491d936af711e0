-- The arms of references and of named types, by their guards; those of a variable or an error beside the other shapes. Assumes nothing.
use mathlib.Core.Path.{◌≡◌, refl, sym, ap, ◌∙◌}
use mathlib.Core.Bool.{Bool, true, false, ◌&&◌}
use mathlib.Core.List.{List, [], ◌∷◌}
use Prim.Native.Nat.{ℕ}
use denote.Enum.Declared.{tag_of}
use types.Run.{OneOf}
use Rattle.definition.specs.Types.{State}
use Rattle.definition.specs.Store.{with_args}
use Rattle.definition.specs.Join as j
use Rattle.definition.specs.Join.{arm, join_arm, join_refs, join_mut, join_loc, join_applies, same_name, same_mark, is_multiple}
use Rattle.names.specs.Names.{mark_of, name_of}
use Rattle.names.specs.declared.TVar.{TVar}
use Rattle.names.specs.declared.TParamID.{TParamID}
use Rattle.std.specs.Prelude.{Option, None, Some}
use Rattle.std.specs.Option.{option_eq}
use Rattle.names.specs.declared.AbilitySet.{AbilitySet}
use Rattle.names.specs.declared.TypeName.{TypeName}
use Rattle.names.specs.declared.TypeName.TheVariants.{Multiple, Builtin, ModuleType}
use Rattle.names.specs.contracts.TypeNamePartialEq.TheImpl.{eq-value as name_eq}
use Rattle.names.specs.contracts.AbilitySetPartialEq.TheImpl.{eq-value as set_eq}
use Rattle.table.specs.State.{shape_of}
use Rattle.table.specs.declared.Shape.{Shape}
use Rattle.table.specs.declared.Shape.TheVariants.{Unit as UnitS, Ref, Param, Apply, Var, Anything, UnresolvedError}
use Rattle.table.specs.contracts.Shape.{the_type}
use Rattle.table.specs.declared.Applied.{Applied}
use Rattle.shapes.proofs.Tags.{other_shapes}
use Rattle.definition.specs.Links.{LinksImpl, links_arm, links_applies}
use Rattle.arms.specs.Arms.{by_arm, links_by_arm, ArmBelow, Takes, other_arm, Unlike}
use Rattle.arms.specs.declared.Arm.{Arm}
use Rattle.arms.specs.declared.Arm.TheVariants.{Lhs, Rhs, Refs, Applies, VarLhs, VarRhs, SubtypeError, ArityMismatch, Incompatible, Disagree}

-- ---- references

pub join_left_mut : (m : Bool) (t1 t2 : ℕ) → Takes j.Join (Ref true t1) (Ref m t2) (Refs false m t1 t2)
unfolding arm join_arm by_arm with_args join_refs join_mut join_loc links_arm links_by_arm
join_left_mut m t1 t2 = record { is = λ J s l r. refl; links = λ J L s l r. refl; below = λ args n a b. (a, b) }

pub join_left_imm : (m : Bool) (t1 t2 : ℕ) → Takes j.Join (Ref false t1) (Ref m t2) (Refs m false t1 t2)
unfolding arm join_arm by_arm with_args join_refs join_mut join_loc links_arm links_by_arm
join_left_imm m t1 t2 = record { is = λ J s l r. refl; links = λ J L s l r. refl; below = λ args n a b. (a, b) }

pub subtype_left_mut : (m : Bool) (t1 t2 : ℕ) → Takes j.Subtype (Ref true t1) (Ref m t2) (Refs false m t1 t2)
unfolding arm join_arm by_arm with_args join_refs join_mut join_loc links_arm links_by_arm
subtype_left_mut true t1 t2 = record { is = λ J s l r. refl; links = λ J L s l r. refl; below = λ args n a b. (a, b) }
subtype_left_mut false t1 t2 = record { is = λ J s l r. refl; links = λ J L s l r. refl; below = λ args n a b. (a, b) }

pub subtype_both_imm : (t1 t2 : ℕ) → Takes j.Subtype (Ref false t1) (Ref false t2) (Refs false false t1 t2)
unfolding arm join_arm by_arm with_args join_refs join_mut join_loc links_arm links_by_arm
subtype_both_imm t1 t2 = record { is = λ J s l r. refl; links = λ J L s l r. refl; below = λ args n a b. (a, b) }

pub subtype_imm_mut : (t1 t2 : ℕ) → Takes j.Subtype (Ref false t1) (Ref true t2) SubtypeError
unfolding arm join_arm by_arm with_args join_refs join_mut links_arm links_by_arm
subtype_imm_mut t1 t2 = record { is = λ J s l r. refl; links = λ J L s l r. refl; below = λ args n a b. tt }

-- ---- named types

-- `==` on names and on marks
pub names_same : (a b : TypeName) → name_eq.it a b ≡ same_name (name_of a) (name_of b)
unfolding same_name
names_same (Multiple a) (Multiple b) = refl
names_same (Multiple a) (Builtin b) = refl
names_same (Multiple a) (ModuleType b) = refl
names_same (Builtin a) (Multiple b) = refl
names_same (Builtin a) (Builtin b) = refl
names_same (Builtin a) (ModuleType b) = refl
names_same (ModuleType a) (Multiple b) = refl
names_same (ModuleType a) (Builtin b) = refl
names_same (ModuleType a) (ModuleType b) = refl

pub marks_same : (a b : Option AbilitySet) → option_eq set_eq.it a b ≡ same_mark (mark_of a) (mark_of b)
unfolding same_mark
marks_same None None = refl
marks_same None (Some b) = refl
marks_same (Some a) None = refl
marks_same (Some a) (Some b) = refl

and_false : (a b : Bool) → a && b && false ≡ false
and_false true true = refl
and_false true false = refl
and_false false b = refl

pub not_multiple : (n : TypeName) → ((x : ℕ) → n ≡ Multiple x → ⊥) → is_multiple (name_of n) ≡ false
unfolding is_multiple
not_multiple (Multiple x) h = absurd (h x refl)
not_multiple (Builtin b) h = refl
not_multiple (ModuleType m) h = refl

module _ (a1 a2 : Applied) (case : j.TypingCase) where
  module _ (p : name_eq.it a1.n a2.n ≡ true) where
    names : same_name (name_of a1.n) (name_of a2.n) ≡ true
    names = sym (names_same a1.n a2.n) ∙ p

    pub applies_same : option_eq set_eq.it a1.k a2.k ≡ true → Takes case (Apply a1) (Apply a2) (Applies a1 a2)
    unfolding arm join_arm by_arm with_args join_applies links_arm links_by_arm links_applies
    applies_same q = let r = sym (marks_same a1.k a2.k) ∙ q in record { is = λ J s l r'. rw (names, r, and_false); links = λ J L s l r'. rw (names, r); below = λ args n a b. (a, b) }

    pub applies_disagree : option_eq set_eq.it a1.k a2.k ≡ false → Takes case (Apply a1) (Apply a2) Disagree
    unfolding arm join_arm by_arm with_args join_applies links_arm links_by_arm links_applies
    applies_disagree q = let r = sym (marks_same a1.k a2.k) ∙ q in record { is = λ J s l r'. rw (names, r, and_false); links = λ J L s l r'. rw (names, r); below = λ args n a b. tt }

  module _ (p : name_eq.it a1.n a2.n ≡ false) where
    names_not : same_name (name_of a1.n) (name_of a2.n) ≡ false
    names_not = sym (names_same a1.n a2.n) ∙ p

    pub applies_arity : (x1 x2 : ℕ) → a1.n ≡ Multiple x1 → a2.n ≡ Multiple x2 → Takes case (Apply a1) (Apply a2) ArityMismatch
    unfolding arm join_arm by_arm with_args join_applies is_multiple links_arm links_by_arm links_applies
    applies_arity x1 x2 e1 e2 =
        let m1 : is_multiple (name_of a1.n) ≡ true = rw e1 refl in
        let m2 : is_multiple (name_of a2.n) ≡ true = rw e2 refl in
        record { is = λ J s l r. rw (names_not, m1, m2); links = λ J L s l r. rw names_not; below = λ args n a b. tt }

    pub applies_other_left : ((x : ℕ) → a1.n ≡ Multiple x → ⊥) → Takes case (Apply a1) (Apply a2) Incompatible
    unfolding arm join_arm by_arm with_args join_applies links_arm links_by_arm links_applies
    applies_other_left h = let m = not_multiple a1.n h in record { is = λ J s l r. rw (names_not, m); links = λ J L s l r. rw names_not; below = λ args n a b. tt }

    pub applies_other_right : (x1 : ℕ) → a1.n ≡ Multiple x1 → ((x : ℕ) → a2.n ≡ Multiple x → ⊥) → Takes case (Apply a1) (Apply a2) Incompatible
    unfolding arm join_arm by_arm with_args join_applies is_multiple links_arm links_by_arm links_applies
    applies_other_right x1 e1 h =
        let m1 : is_multiple (name_of a1.n) ≡ true = rw e1 refl in
        let m2 = not_multiple a2.n h in
        record { is = λ J s l r. rw (names_not, m1, m2); links = λ J L s l r. rw names_not; below = λ args n a b. tt }

-- ---- the other shapes beside a variable or an error

-- types of these shapes take the definition's arm x
abbrev ArmIs : Shape → Shape → j.Arm → Type 0
ArmIs lhs rhs x = (s : State) → arm (with_args s (shape_of lhs)) (with_args s (shape_of rhs)) ≡ x

by_own : (case : j.TypingCase) (lhs rhs : Shape) (a : Arm) (x : j.Arm) → ArmIs lhs rhs x → ((J : j.JoinImpl) (s : State) (l r : ℕ) → join_arm J s case l r x ≡ by_arm J s case l r a)
    → ((J : j.JoinImpl) (L : LinksImpl) (s : State) (l r : ℕ) → links_arm J L s case l r x ≡ links_by_arm J L s case l r a)
    → ((args : List ℕ) (n : ℕ) → ArmBelow args n a) → Takes case lhs rhs a
by_own case lhs rhs a x u f h g = record { is = λ J s l r. ap (λ (x : j.Arm). join_arm J s case l r x) (u s) ∙ f J s l r; links = λ J L s l r. ap (λ (x : j.Arm). links_arm J L s case l r x) (u s) ∙ h J L s l r; below = λ args n p q. g args n }

abbrev other_tags : List ℕ
other_tags = 0 ∷ 1 ∷ 2 ∷ 3 ∷ 6 ∷ []

module _ (case : j.TypingCase) where
  pub var_other : (id : TVar) (rhs : Shape) → OneOf other_tags (tag_of the_type rhs) → Takes case (Var id) rhs (VarLhs id)
  unfolding arm join_arm by_arm with_args links_arm links_by_arm
  var_other id rhs k =
      by_own case (Var id) rhs (VarLhs id) (j.VarL id.0)
      (other_shapes other_tags (λ rhs. ArmIs (Var id) rhs (j.VarL id.0)) (λ s. refl) (λ m t s. refl) (λ p c s. refl) (λ a s. refl) tt tt (λ s. refl) rhs k)
      (λ J s l r. refl) (λ J L s l r. refl) (λ args n. tt)

  pub error_other : (rhs : Shape) → OneOf other_tags (tag_of the_type rhs) → Takes case UnresolvedError rhs Rhs
  unfolding arm join_arm by_arm with_args links_arm links_by_arm
  error_other rhs k =
      by_own case UnresolvedError rhs Rhs j.ErrorL
      (other_shapes other_tags (λ rhs. ArmIs UnresolvedError rhs j.ErrorL) (λ s. refl) (λ m t s. refl) (λ p c s. refl) (λ a s. refl) tt tt (λ s. refl) rhs k)
      (λ J s l r. refl) (λ J L s l r. refl) (λ args n. tt)

-- ---- a type that is no variable, `_` or error, beside one of another shape

plain_arm : (rhs : Shape) → ((v : TVar) → rhs ≡ Var v → ⊥) → (rhs ≡ Anything → ⊥) → (rhs ≡ UnresolvedError → ⊥) → (s : State) → other_arm (with_args s (shape_of rhs)) ≡ j.Others
unfolding with_args other_arm
plain_arm UnitS v a e s = refl
plain_arm (Ref m t) v a e s = refl
plain_arm (Param p c) v a e s = refl
plain_arm (Apply t) v a e s = refl
plain_arm (Var x) v a e s = absurd (v x refl)
plain_arm Anything v a e s = absurd (a refl)
plain_arm UnresolvedError v a e s = absurd (e refl)

module _ (case : j.TypingCase) (lhs : Shape) where
  pub other_var : (id : TVar) → Unlike lhs (Var id) → Takes case lhs (Var id) (VarRhs id)
  unfolding join_arm by_arm with_args other_arm links_arm links_by_arm
  other_var id u = by_own case lhs (Var id) (VarRhs id) (j.VarR id.0) u (λ J s l r. refl) (λ J L s l r. refl) (λ args n. tt)

  pub other_anything : Unlike lhs Anything → Takes case lhs Anything Lhs
  unfolding join_arm by_arm with_args other_arm links_arm links_by_arm
  other_anything u = by_own case lhs Anything Lhs j.AnythingR u (λ J s l r. refl) (λ J L s l r. refl) (λ args n. tt)

  pub other_error : Unlike lhs UnresolvedError → Takes case lhs UnresolvedError Lhs
  unfolding join_arm by_arm with_args other_arm links_arm links_by_arm
  other_error u = by_own case lhs UnresolvedError Lhs j.ErrorR u (λ J s l r. refl) (λ J L s l r. refl) (λ args n. tt)

  pub other_plain : (rhs : Shape) → ((v : TVar) → rhs ≡ Var v → ⊥) → (rhs ≡ Anything → ⊥) → (rhs ≡ UnresolvedError → ⊥) → Unlike lhs rhs → Takes case lhs rhs Incompatible
  unfolding join_arm by_arm links_arm links_by_arm
  other_plain rhs v a e u = by_own case lhs rhs Incompatible j.Others (λ s. u s ∙ plain_arm rhs v a e s) (λ J s l r. refl) (λ J L s l r. refl) (λ args n. tt)

pub unit_unlike : (rhs : Shape) → (rhs ≡ UnitS → ⊥) → Unlike UnitS rhs
unfolding arm with_args other_arm
unit_unlike UnitS h s = absurd (h refl)
unit_unlike (Ref m t) h s = refl
unit_unlike (Param p c) h s = refl
unit_unlike (Apply a) h s = refl
unit_unlike (Var v) h s = refl
unit_unlike Anything h s = refl
unit_unlike UnresolvedError h s = refl

pub ref_unlike : (mut1 : Bool) (t1 : ℕ) (rhs : Shape) → ((m : Bool) (t : ℕ) → rhs ≡ Ref m t → ⊥) → Unlike (Ref mut1 t1) rhs
unfolding arm with_args other_arm
ref_unlike mut1 t1 UnitS h s = refl
ref_unlike mut1 t1 (Ref m t) h s = absurd (h m t refl)
ref_unlike mut1 t1 (Param p c) h s = refl
ref_unlike mut1 t1 (Apply a) h s = refl
ref_unlike mut1 t1 (Var v) h s = refl
ref_unlike mut1 t1 Anything h s = refl
ref_unlike mut1 t1 UnresolvedError h s = refl

pub param_unlike : (id1 : TParamID) (a1 : AbilitySet) (rhs : Shape) → ((p : TParamID) (c : AbilitySet) → rhs ≡ Param p c → ⊥) → Unlike (Param id1 a1) rhs
unfolding arm with_args other_arm
param_unlike id1 a1 UnitS h s = refl
param_unlike id1 a1 (Ref m t) h s = refl
param_unlike id1 a1 (Param p c) h s = absurd (h p c refl)
param_unlike id1 a1 (Apply a) h s = refl
param_unlike id1 a1 (Var v) h s = refl
param_unlike id1 a1 Anything h s = refl
param_unlike id1 a1 UnresolvedError h s = refl

pub apply_unlike : (a1 : Applied) (rhs : Shape) → ((a : Applied) → rhs ≡ Apply a → ⊥) → Unlike (Apply a1) rhs
unfolding arm with_args other_arm
apply_unlike a1 UnitS h s = refl
apply_unlike a1 (Ref m t) h s = refl
apply_unlike a1 (Param p c) h s = refl
apply_unlike a1 (Apply a) h s = absurd (h a refl)
apply_unlike a1 (Var v) h s = refl
apply_unlike a1 Anything h s = refl
apply_unlike a1 UnresolvedError h s = refl
