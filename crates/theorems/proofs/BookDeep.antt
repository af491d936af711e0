-- What is claimed beside the Book's own: subtype and join of all types without variables, and how much space and depth suffice. Assumes nothing: these are definitions.
use mathlib.Core.Path.{◌≡◌}
use mathlib.Core.Bool.{Bool, true, false}
use Prim.Native.Nat.{ℕ, suc, ◌+◌, ◌*◌, ◌≤◌}
use lib.ListN.{length}
use Rattle.definition.specs.Types.{TypeName, State, max_nodes, max_args, max_vars, max_depth, Refusal, full, abilities_disagree, refused}
use Rattle.definition.specs.Store.{count, taken}
use Rattle.definition.specs.Join.{join, subtype}
use Rattle.definition.specs.Constraints.{num_vars, solve_constraints}
use Rattle.definition.specs.Book.{MoveType, unit, reference, parameter, tuple, named, MoveTypes, no_types, ◌and◌, BookSubtype, Denotes, SubtypeRule, JoinRule}

-- ---- core.rs's relation: the Book's rules at every depth, so that it also speaks of types that the Book does not allow

pub data MutAs : Bool → Bool → Type 0 where
  as_itself : {m : Bool} → MutAs m m
  as_imm : MutAs true false

mutual
  pub data DeepSubtype : MoveType → MoveType → Type 0 where
    units : DeepSubtype unit unit
    references : {m m' : Bool} {t t' : MoveType} → MutAs m m' → DeepSubtype t t' → DeepSubtype (reference m t) (reference m' t')
    parameters : {id : ℕ} → DeepSubtype (parameter id) (parameter id)
    in_tuples : {ts us : MoveTypes} → DeepSubtypes ts us → DeepSubtype (tuple ts) (tuple us)
    in_arguments : {n : TypeName} {ts us : MoveTypes} → DeepSubtypes ts us → DeepSubtype (named n ts) (named n us)

  pub data DeepSubtypes : MoveTypes → MoveTypes → Type 0 where
    deep_no_more : DeepSubtypes no_types no_types
    deep_each : {t u : MoveType} {ts us : MoveTypes} → DeepSubtype t u → DeepSubtypes ts us → DeepSubtypes (◌and◌ t ts) (◌and◌ u us)

-- ---- space and depth

-- space and depth enough for a join with T on the left: a node and a place for each tag of T, and a call for each level
abbrev mutual
  pub size : MoveType → ℕ
  size unit = 1
  size (reference m T) = suc (size T)
  size (parameter id) = 1
  size (tuple Ts) = suc (sizes Ts)
  size (named n Ts) = suc (sizes Ts)

  pub sizes : MoveTypes → ℕ
  sizes no_types = 0
  sizes (◌and◌ T Ts) = size T + sizes Ts

mutual
  pub data Levels : ℕ → MoveType → Type 0 where
    unit_level : {d : ℕ} → Levels (suc d) unit
    reference_level : {d : ℕ} {m : Bool} {T : MoveType} → Levels d T → Levels (suc d) (reference m T)
    parameter_level : {d id : ℕ} → Levels (suc d) (parameter id)
    tuple_level : {d : ℕ} {Ts : MoveTypes} → AllLevels d Ts → Levels (suc d) (tuple Ts)
    named_level : {d : ℕ} {n : TypeName} {Ts : MoveTypes} → AllLevels d Ts → Levels (suc d) (named n Ts)

  pub data AllLevels : ℕ → MoveTypes → Type 0 where
    no_levels : {d : ℕ} → AllLevels d no_types
    each_level : {d : ℕ} {T : MoveType} {Ts : MoveTypes} → Levels d T → AllLevels d Ts → AllLevels d (◌and◌ T Ts)

pub record JoinRoom (s : State) (depth : ℕ) (T : MoveType) : Type 0 where
  pub nodes_left : count s + size T ≤ max_nodes
  pub places_left : length s.args + size T ≤ max_args
  pub levels : Levels depth T

-- for each numeric variable SV takes at most five nodes and two variables
abbrev pub numeric : State → ℕ
numeric s = length (num_vars 0 s.vars)

-- ---- the claims. proofs/Book.antt: they hold of every sound state

pub record DeepBook (s : State) : Type 0 where
  pub subtype_deep : (l r : ℕ) (L R : MoveType) → Denotes s l L → Denotes s r R → SubtypeRule DeepSubtype s l r L R
  pub join_deep : (l r : ℕ) (L R : MoveType) → Denotes s l L → Denotes s r R → JoinRule DeepSubtype s l r L R
  -- what the Book allows is allowed between all types
  pub book_deep : (L R : MoveType) → BookSubtype L R → DeepSubtype L R
  -- with room enough only disagreeing marks are refused
  pub subtype_room : (l r : ℕ) (L R : MoveType) → Denotes s l L → Denotes s r R → JoinRoom s max_depth L → (x : Refusal) → subtype s l r ≡ refused x → x ≡ abilities_disagree
  pub join_room : (l r : ℕ) (L R : MoveType) → Denotes s l L → Denotes s r R → JoinRoom s max_depth L → (x : Refusal) → join s l r ≡ refused x → x ≡ abilities_disagree
  -- .. and SV is not refused with 7
  pub literal_room : count s + 5 * numeric s ≤ max_nodes → taken s + 2 * numeric s ≤ max_vars → solve_constraints s ≡ refused full → ⊥
