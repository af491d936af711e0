-- What XP answers, told from the state in which its type is placed, level by level and without refusals. Assumes nothing: these are definitions.
use Rattle.std.specs.Prelude.{◌++◌, ◌%◌, get_or}
use Rattle.definition.specs.Types.{Bool, true, false, List, [], None, Some, ℕ, zero, suc, TypeName, Multiple, Builtin, ModuleType, Shape, UnitType, Ref, Param, Apply, Var, Anything, UnresolvedError, TypeValue, Spanned, State, Result, ok, ◌>>=◌}
use Rattle.definition.specs.Store.{spanned, any_of}
use Rattle.definition.specs.Subst.{as_var, parts, unfold_type, goes_on_to}
use Rattle.definition.specs.Write.{Bytes, head, each}
use Rattle.definition.specs.Expand.{uninferred, expand_type}
use Rattle.theorems.specs.ReadySpelled.{led}
use Rattle.expand.specs.declared.Half.{Half}
use Rattle.expand.specs.declared.Half.TheVariants.{Types, Codes}

-- the payload of XP of node t, as the definition gives it
unfoldable pub expanded_bytes : State → ℕ → Result Bytes
expanded_bytes s t = do
  x ← expand_type s t
  ok (x.type ++ x.codes)

-- ---- 17

unfoldable pub keeps_mark : TypeName → Bool
keeps_mark (Multiple n) = false
keeps_mark (Builtin b) = true
keeps_mark (ModuleType n) = false

-- a list or a struct with a mark
unfoldable pub is_marked : TypeValue → Bool
is_marked UnitType = false
is_marked (Ref m t) = false
is_marked (Param id a) = false
is_marked (Apply None n tys) = false
is_marked (Apply (Some set) n tys) = elim (keeps_mark n) [ true ↦ false | false ↦ true ]
is_marked (Var v) = false
is_marked Anything = false
is_marked UnresolvedError = false

-- reading the type comes to one in n levels
unfoldable pub marked_in : ℕ → State → ℕ → Bool
marked_in zero s t = false
marked_in (suc n) s t = elim (is_marked (unfold_type s (spanned s t)).value) [ true ↦ true | false ↦ any_of (λ p. marked_in n s p) (goes_on_to s t) ]

-- ---- the bytes

-- an unbound variable becomes `!`, a name without mark gets its set
unfoldable pub finally : {A : Type 0} → ℕ → Shape A → Shape A
finally set UnitType = UnitType
finally set (Ref m t) = Ref m t
finally set (Param id a) = Param id a
finally set (Apply None n tys) = Apply (Some set) n tys
finally set (Apply (Some k) n tys) = Apply (Some k) n tys
finally set (Var v) = UnresolvedError
finally set Anything = Anything
finally set UnresolvedError = UnresolvedError

-- a type without its parts, or its code
unfoldable pub own : Half → ℕ → Spanned TypeValue → Bytes
own Types set t = head t.loc (finally set t.value)
own Codes set t = elim (as_var t.value) [ None ↦ [] | Some v ↦ uninferred t.loc ]

-- n levels of a type, each node with the set that `set` gives it, or its codes
unfoldable pub told : Half → (ℕ → ℕ) → ℕ → State → ℕ → Bytes
told half set zero s t = []
told half set (suc n) s t = own half (set t) (led s (spanned s t)) ++ each (λ p. told half set n s p) (parts (led s (spanned s t)).value)

-- the set that the table has of a node
abbrev pub set_in : List ℕ → ℕ → ℕ
set_in sets t = get_or sets t 0 % 256
