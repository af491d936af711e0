-- The arms that the code tells apart, their guards decided, as what the definition's join_arm gives there. Assumes nothing: these are definitions.
use Rattle.std.specs.Prelude.{◌≡◌, List, ℕ, ◌<◌, if◌then◌else◌}
use Rattle.definition.specs.Types as d
use Rattle.definition.specs.Types.{State, Result, ok, err, refused, ◌>>=◌, abilities_disagree}
use Rattle.definition.specs.Store.{loc_of, args_at, with_args, sp}
use Rattle.definition.specs.Subst.{on_shape}
use Rattle.definition.specs.Join as j
use Rattle.definition.specs.Join.{JoinImpl, VarL, VarR, arm, join_arm, join_tvar, join_impl_types}
use Rattle.definition.specs.Links.{LinksImpl, links_tvar, links_types, links_arm}
use Rattle.names.specs.Names.{mark_of, name_of}
use Rattle.table.specs.State.{shape_of, Below}
use Rattle.table.specs.declared.Shape.{Shape}
use Rattle.table.specs.State.{args_of}
use Rattle.table.specs.declared.Shape.TheVariants.{Apply}
use Rattle.arms.specs.declared.TypingCase.{TypingCase}
use Rattle.arms.specs.declared.TypingCase.TheVariants.{Join, Subtype}
use Rattle.arms.specs.declared.Arm.{Arm}
use Rattle.arms.specs.declared.Arm.TheVariants.{Lhs, Rhs, Refs, Applies, Vars, VarLhs, VarRhs, SubtypeError, ArityMismatch, Incompatible, Disagree}

abbrev pub case_of : TypingCase → j.TypingCase
case_of Join = j.Join
case_of Subtype = j.Subtype

-- what join_impl answers by this arm
unfoldable pub by_arm : JoinImpl → State → j.TypingCase → ℕ → ℕ → Arm → Result (State × ℕ)
by_arm join_impl subst case lhs rhs Lhs = ok (subst, lhs)
by_arm join_impl subst case lhs rhs Rhs = ok (subst, rhs)
by_arm join_impl subst case lhs rhs (Refs left mut t1 t2) =
    join_impl subst case t1 t2 >>= (λ r. sp r.0 (if left then loc_of subst lhs else loc_of subst rhs) (d.Ref mut r.1))
by_arm join_impl subst case lhs rhs (Applies a1 a2) =
    join_impl_types join_impl subst case (args_at subst (args_of a1)) (args_at subst (args_of a2))
    >>= (λ r. sp r.0 (loc_of subst rhs) (d.Apply (mark_of a2.k) (name_of a2.n) r.1))
by_arm join_impl subst case lhs rhs (Vars id1 id2) = join_tvar join_impl subst case (loc_of subst lhs) id1.0 (loc_of subst rhs) id2.0
by_arm join_impl subst case lhs rhs (VarLhs id) = join_arm join_impl subst case lhs rhs (VarL id.0)
by_arm join_impl subst case lhs rhs (VarRhs id) = join_arm join_impl subst case lhs rhs (VarR id.0)
by_arm join_impl subst case lhs rhs SubtypeError = err subst (d.SubtypeError lhs rhs)
by_arm join_impl subst case lhs rhs ArityMismatch = err subst (d.ArityMismatch lhs rhs)
by_arm join_impl subst case lhs rhs Incompatible = err subst (d.Incompatible lhs rhs)
by_arm join_impl subst case lhs rhs Disagree = refused abilities_disagree

-- .. and the links that it follows
unfoldable pub links_by_arm : JoinImpl → LinksImpl → State → j.TypingCase → ℕ → ℕ → Arm → ℕ
links_by_arm join_impl links_impl subst case lhs rhs Lhs = 0
links_by_arm join_impl links_impl subst case lhs rhs Rhs = 0
links_by_arm join_impl links_impl subst case lhs rhs (Refs left mut t1 t2) = links_impl subst case t1 t2
links_by_arm join_impl links_impl subst case lhs rhs (Applies a1 a2) = links_types join_impl links_impl subst case (args_at subst (args_of a1)) (args_at subst (args_of a2))
links_by_arm join_impl links_impl subst case lhs rhs (Vars id1 id2) = links_tvar links_impl subst case (loc_of subst lhs) id1.0 (loc_of subst rhs) id2.0
links_by_arm join_impl links_impl subst case lhs rhs (VarLhs id) = links_arm join_impl links_impl subst case lhs rhs (VarL id.0)
links_by_arm join_impl links_impl subst case lhs rhs (VarRhs id) = links_arm join_impl links_impl subst case lhs rhs (VarR id.0)
links_by_arm join_impl links_impl subst case lhs rhs SubtypeError = 0
links_by_arm join_impl links_impl subst case lhs rhs ArityMismatch = 0
links_by_arm join_impl links_impl subst case lhs rhs Incompatible = 0
links_by_arm join_impl links_impl subst case lhs rhs Disagree = 0

-- the types that an arm goes on to are below n
abbrev pub ArmBelow : List ℕ → ℕ → Arm → Type 0
ArmBelow args n Lhs = Unit {0}
ArmBelow args n Rhs = Unit {0}
ArmBelow args n (Refs left mut t1 t2) = (t1 < n) × (t2 < n)
ArmBelow args n (Applies a1 a2) = Below args n (shape_of (Apply a1)) × Below args n (shape_of (Apply a2))
ArmBelow args n (Vars id1 id2) = Unit {0}
ArmBelow args n (VarLhs id) = Unit {0}
ArmBelow args n (VarRhs id) = Unit {0}
ArmBelow args n SubtypeError = Unit {0}
ArmBelow args n ArityMismatch = Unit {0}
ArmBelow args n Incompatible = Unit {0}
ArmBelow args n Disagree = Unit {0}

-- types of these shapes take the arm a
pub record Takes (case : j.TypingCase) (lhs rhs : Shape) (a : Arm) : Type 0 where
  pub is : (join_impl : JoinImpl) (subst : State) (l r : ℕ)
      → join_arm join_impl subst case l r (arm (with_args subst (shape_of lhs)) (with_args subst (shape_of rhs))) ≡ by_arm join_impl subst case l r a
  pub links : (join_impl : JoinImpl) (links_impl : LinksImpl) (subst : State) (l r : ℕ)
      → links_arm join_impl links_impl subst case l r (arm (with_args subst (shape_of lhs)) (with_args subst (shape_of rhs))) ≡ links_by_arm join_impl links_impl subst case l r a
  pub below : (args : List ℕ) (n : ℕ) → Below args n (shape_of lhs) → Below args n (shape_of rhs) → ArmBelow args n a

-- the arm of a type that is no variable, `_` or error, beside one of another shape
unfoldable pub other_arm : d.TypeValue → j.Arm
other_arm rhs = on_shape j.Others (λ m t. j.Others) (λ id a. j.Others) (λ k n tys. j.Others) VarR j.AnythingR j.ErrorR rhs

-- lhs is such a type, and rhs is of another shape
abbrev pub Unlike : Shape → Shape → Type 0
Unlike lhs rhs = (s : State) → arm (with_args s (shape_of lhs)) (with_args s (shape_of rhs)) ≡ other_arm (with_args s (shape_of rhs))
