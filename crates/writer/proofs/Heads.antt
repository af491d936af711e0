-- What stands after the tag and the location of each type. Assumes nothing.
use mathlib.Core.Path.{◌≡◌, refl}
use mathlib.Core.Bool.{Bool, true, false}
use mathlib.Core.List.{[], ◌∷◌, ◌++◌}
use Prim.Native.Nat.{ℕ}
use Rattle.std.specs.Int.{from_bool}
use Rattle.definition.specs.Types as d
use Rattle.definition.specs.Write.{Bytes, bool, mark, u16, u32, apply_head, head}
use Rattle.writer.proofs.Put.{Joined}

pub bool_is : (b : Bool) → from_bool b ≡ bool b
unfolding bool
bool_is true = refl
bool_is false = refl

module _ (loc : ℕ) where
  pub ref_is : (m : Bool) (t : ℕ) → Joined (1 ∷ u32 loc) (bool m ∷ []) (head loc (d.Ref m t))
  unfolding head
  ref_is m t = record { is = refl }

  pub param_is : (id abilities : ℕ) → Joined (2 ∷ u32 loc) (u32 id ++ (abilities ∷ [])) (head loc (d.Param id abilities))
  unfolding head u32
  param_is id abilities = record { is = refl }

  pub var_is : (v : ℕ) → Joined (6 ∷ u32 loc) (u16 v) (head loc (d.Var v))
  unfolding head
  var_is v = record { is = refl }

  module _ (k : d.AbilityMark) where
    pub builtin_is : (b : ℕ) → Joined (3 ∷ u32 loc) (mark k ∷ b ∷ []) (apply_head loc k (d.Builtin b))
    unfolding apply_head
    builtin_is b = record { is = refl }

    pub multiple_is : (n : ℕ) → Joined (4 ∷ u32 loc) (mark k ∷ n ∷ []) (apply_head loc k (d.Multiple n))
    unfolding apply_head
    multiple_is n = record { is = refl }

    pub module_is : (n : ℕ) → Joined (5 ∷ u32 loc) (mark k ∷ u16 n) (apply_head loc k (d.ModuleType n))
    unfolding apply_head
    module_is n = record { is = refl }

pub one_more : (a : ℕ) (b : Bytes) → Joined (a ∷ []) b (a ∷ b)
one_more a b = record { is = refl }

pub apart : (a b : Bytes) → Joined a b (a ++ b)
apart a b = record { is = refl }
