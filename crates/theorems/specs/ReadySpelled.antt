-- What RD and CN answer, told from the state that they start from: ready_tvars's type spelled, though no node is made. Assumes nothing: these are definitions.
use Rattle.std.specs.Prelude.{◌∷◌, ◌++◌, ◌+◌, ◌&&◌, if◌then◌else◌}
use Rattle.definition.specs.Types.{Bool, true, false, List, [], Option, None, Some, ℕ, zero, suc, length, leb, UnitType, Ref, Param, Apply, Var, Anything, UnresolvedError, TypeValue, Spanned, State, max_nodes, max_args, full, runs_into_itself}
use Rattle.definition.specs.Types.{Result, ok, refused, ◌>>=◌}
use Rattle.definition.specs.Store.{count, spanned, get, args_of}
use Rattle.definition.specs.Subst.{as_var, parts, forward_tvar, reaches_itself}
use Rattle.definition.specs.Write.{Bytes, head, write}
use Rattle.definition.specs.Trees.{Tree}
use Rattle.definition.specs.Record.{Record, RD, CN}
use Rattle.definition.specs.Canonical.{numbered, meet_in, Spelled, spell_each, canonical}

-- ---- how a type is spelled: as it stands, or as all that agree with it are

pub data Spelling : Type 0 where
  Located Canonical : Spelling

-- the record that is answered so
abbrev pub spelled_record : Spelling → Tree → Record
spelled_record Located t = RD t
spelled_record Canonical t = CN t

-- of a type that was read out
unfoldable pub spelled : Spelling → State → ℕ → Bytes
spelled Located s ty = write s ty
spelled Canonical s ty = canonical s ty

-- a type without its parts, where these variables were met before it
unfoldable pub head_by : Spelling → List ℕ → ℕ → TypeValue → Bytes
head_by Located met loc t = head loc t
head_by Canonical met loc t = head 0 (numbered met t)

-- .. and those that were met after it: as a type stands, its variables have numbers of their own
unfoldable pub met_by : Spelling → List ℕ → TypeValue → List ℕ
met_by Located met t = met
met_by Canonical met t = meet_in met t

-- with its parts, spelled so
unfoldable pub spelled_with : Spelling → (List ℕ → ℕ → Spelled) → List ℕ → ℕ → TypeValue → Spelled
spelled_with how part met loc t = let below = spell_each part (met_by how met t) (parts t) in record { bytes = head_by how met loc t ++ below.bytes; met = below.met }

-- ---- where a type leads

-- an open variable is its chain's end, where it stands; a bound one is its binding, at the binding's location
unfoldable pub led_var : State → ℕ → ℕ → Option ℕ → Spanned TypeValue
led_var s loc last binding = elim binding [ None ↦ record { loc = loc; value = Var last } | Some ty ↦ spanned s ty ]

unfoldable pub led : State → Spanned TypeValue → Spanned TypeValue
led s t = elim (as_var t.value) [ None ↦ t | Some v ↦ led_var s t.loc (forward_tvar s v) (get s (forward_tvar s v)) ]

-- n levels of parts
unfoldable pub spell_led : Spelling → ℕ → State → List ℕ → ℕ → Spelled
spell_led how zero s met ty = record { bytes = []; met = met }
spell_led how (suc n) s met ty = spelled_with how (λ met p. spell_led how n s met p) met (led s (spanned s ty)).loc (led s (spanned s ty)).value

abbrev pub led_bytes : Spelling → ℕ → State → ℕ → Bytes
led_bytes how n s ty = (spell_led how n s [] ty).bytes

unfoldable pub total : (ℕ → ℕ) → List ℕ → ℕ
total f [] = 0
total f (t ∷ ts) = f t + total f ts

-- a sum over the types that are spelled
unfoldable pub summed : (TypeValue → ℕ) → ℕ → State → ℕ → ℕ
summed f zero s ty = 0
summed f (suc n) s ty = f (led s (spanned s ty)).value + total (λ p. summed f n s p) (parts (led s (spanned s ty)).value)

-- a type with parts is made anew, and so is an open variable
unfoldable pub new_nodes : TypeValue → ℕ
new_nodes t = elim t [ Ref m p ↦ 1 | Apply k n tys ↦ 1 | Var v ↦ 1 | UnitType ↦ 0 | Param id a ↦ 0 | Anything ↦ 0 | UnresolvedError ↦ 0 ]

unfoldable pub new_places : TypeValue → ℕ
new_places t = length (args_of t)

unfoldable pub head_size : TypeValue → ℕ
head_size t = length (head 0 t)

unfoldable pub one : TypeValue → ℕ
one t = 1

-- what is taken of the tables fits in them
unfoldable pub room_for : State → ℕ → ℕ → Bool
room_for s nodes places = leb (count s + nodes) max_nodes && leb (length s.args + places) max_args

-- a level for each node is enough where nothing reaches itself
unfoldable pub spell_ready : Spelling → State → ℕ → Result Bytes
spell_ready how s ty = elim (reaches_itself s ty) [
  | true ↦ refused runs_into_itself
  | false ↦ if room_for s (summed new_nodes (count s) s ty) (summed new_places (count s) s ty) then ok (led_bytes how (count s) s ty) else refused full
]

-- .. as the answer in state s, which stays
unfoldable pub with_state : State → Result Bytes → Result (State × Bytes)
with_state s m = do
  b ← m
  ok (s, b)
