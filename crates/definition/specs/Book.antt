-- What the Move Book says of subtyping, of integer literals and of abilities, in its own terms, and what that claims of subtype, join and SV. Assumes nothing: these are definitions.
use Rattle.std.specs.Prelude.{◌≤◌, ◌≢◌, ◌↔◌, ◌≡◌, ◌∷◌, ◌<◌}
use Rattle.definition.specs.Types.{Bool, true, false, List, [], None, Some, ℕ, length, get_or, TypeName, Multiple, Builtin, ModuleType, AbilityMark, TypeValue, UnitType, Ref, Param, Apply, Var, Anything, UnresolvedError}
use Rattle.definition.specs.Types.{State, TypingError, SubtypeError, Incompatible, ArityMismatch, Refusal, full, too_deep, runs_into_itself, abilities_disagree, mark_contradicted, Result, ok, err, refused}
use Rattle.definition.specs.Store.{count, type_at, get, num_loc}
use Rattle.definition.specs.Subst.{forward_tvar, unfold_type}
use Rattle.definition.specs.Join.{is_multiple, join, subtype}
use Rattle.definition.specs.Instantiate.{struct_tparams}
use Rattle.definition.specs.Abilities.{has, struct_abilities, infer_abilities}
use Rattle.definition.specs.Constraints.{is_integer, default_of, solve_constraints}
use Rattle.definition.specs.Rank.{RunsIntoItself}
use Rattle.definition.specs.Write.{Bytes}

-- ---- Move's types: no variables, no `_` or `!`, no locations, no ability marks
mutual
  pub data MoveType : Type 0 where
    -- (). core.rs tells it from an expression list of count 0, which is a tuple here
    unit : MoveType
    -- &mut T (true) and &T (false)
    reference : Bool → MoveType → MoveType
    parameter : ℕ → MoveType
    tuple : MoveTypes → MoveType
    -- a builtin or a struct, with its type arguments
    named : TypeName → MoveTypes → MoveType

  pub data MoveTypes : Type 0 where
    no_types : MoveTypes
    ◌and◌ : MoveType → MoveTypes → MoveTypes

-- ---- the Book's rules
mutual
  pub data BookSubtype : MoveType → MoveType → Type 0 where
    itself : {t : MoveType} → BookSubtype t t
    -- References: a &mut T can be used where a &T is wanted
    mut_as_imm : {t : MoveType} → BookSubtype (reference true t) (reference false t)
    -- Tuples: element by element, of equal count
    tuples : {ts us : MoveTypes} → BookSubtypes ts us → BookSubtype (tuple ts) (tuple us)

  pub data BookSubtypes : MoveTypes → MoveTypes → Type 0 where
    no_more : BookSubtypes no_types no_types
    each : {t u : MoveType} {ts us : MoveTypes} → BookSubtype t u → BookSubtypes ts us → BookSubtypes (◌and◌ t ts) (◌and◌ u us)

-- where the Book lets references and tuples stand: under no reference, in no type argument, and no tuple in a tuple
mutual
  pub data Base : MoveType → Type 0 where
    base_parameter : {id : ℕ} → Base (parameter id)
    base_named : {n : TypeName} {ts : MoveTypes} → Bases ts → Base (named n ts)

  pub data Bases : MoveTypes → Type 0 where
    base_none : Bases no_types
    base_each : {t : MoveType} {ts : MoveTypes} → Base t → Bases ts → Bases (◌and◌ t ts)

pub data Single : MoveType → Type 0 where
  single_base : {t : MoveType} → Base t → Single t
  single_reference : {m : Bool} {t : MoveType} → Base t → Single (reference m t)

pub data Singles : MoveTypes → Type 0 where
  single_none : Singles no_types
  single_each : {t : MoveType} {ts : MoveTypes} → Single t → Singles ts → Singles (◌and◌ t ts)

pub data BookType : MoveType → Type 0 where
  book_unit : BookType unit
  book_single : {t : MoveType} → Single t → BookType t
  -- of two elements or more
  book_tuple : {t u : MoveType} {ts : MoveTypes} → Single t → Single u → Singles ts → BookType (tuple (◌and◌ t (◌and◌ u ts)))

-- ---- nodes as Move's types
mutual
  -- the node t of the state is the type T
  pub data Denotes (s : State) : ℕ → MoveType → Type 0 where
    is_unit : {t : ℕ} → type_at s t ≡ UnitType → Denotes s t unit
    is_reference : {t p : ℕ} {m : Bool} {T : MoveType} → type_at s t ≡ Ref m p → Denotes s p T → Denotes s t (reference m T)
    is_parameter : {t id a : ℕ} → type_at s t ≡ Param id a → Denotes s t (parameter id)
    is_tuple : {t n : ℕ} {k : AbilityMark} {ps : List ℕ} {Ts : MoveTypes} → type_at s t ≡ Apply k (Multiple n) ps → Denote s ps Ts → Denotes s t (tuple Ts)
    is_named : {t : ℕ} {k : AbilityMark} {n : TypeName} {ps : List ℕ} {Ts : MoveTypes} → type_at s t ≡ Apply k n ps → is_multiple n ≡ false → Denote s ps Ts → Denotes s t (named n Ts)

  pub data Denote (s : State) : List ℕ → MoveTypes → Type 0 where
    are_none : Denote s [] no_types
    are_each : {p : ℕ} {ps : List ℕ} {T : MoveType} {Ts : MoveTypes} → Denotes s p T → Denote s ps Ts → Denote s (p ∷ ps) (◌and◌ T Ts)

-- ---- the Book's abilities
pub data Ability : Type 0 where
  copy drop store key : Ability

-- a declared set is the sum of these
abbrev pub bit : Ability → ℕ
bit a = elim a [ copy ↦ 1 | drop ↦ 2 | store ↦ 4 | key ↦ 8 ]

abbrev pub InSet : Ability → ℕ → Type 0
InSet a set = has set (bit a) ≡ true

-- what a type needs of its arguments: for key store, for each other ability itself
abbrev pub needed : Ability → Ability
needed a = elim a [ copy ↦ copy | drop ↦ drop | store ↦ store | key ↦ store ]

pub data NotKey : Ability → Type 0 where
  is_copy : NotKey copy
  is_drop : NotKey drop
  is_store : NotKey store

-- what a name has if its arguments have what is needed
pub data Declares (s : State) : TypeName → Ability → Type 0 where
  list_declares : {n : ℕ} {a : Ability} → NotKey a → Declares s (Multiple n) a
  signer_declares : {b : ℕ} → b ≡ 1 → Declares s (Builtin b) drop
  -- integers, bool, address and vectors
  builtin_declares : {b : ℕ} {a : Ability} → b ≢ 1 → NotKey a → Declares s (Builtin b) a
  struct_declares : {n : ℕ} {a : Ability} → InSet a (struct_abilities s n) → Declares s (ModuleType n) a

-- parameter i of a struct is phantom: its byte is 16 or more
pub data Phantom (s : State) : TypeName → ℕ → Type 0 where
  is_phantom : {n i : ℕ} → 16 ≤ get_or (struct_tparams s n) i 0 → Phantom s (ModuleType n) i

-- the type has the ability. A bound variable is its binding
pub data Has (s : State) : Ability → TypeValue → Type 0 where
  unit_has : {a : Ability} → NotKey a → Has s a UnitType
  reference_copy : {m : Bool} {t : ℕ} → Has s copy (Ref m t)
  reference_drop : {m : Bool} {t : ℕ} → Has s drop (Ref m t)
  parameter_has : {a : Ability} {id set : ℕ} → InSet a set → Has s a (Param id set)
  -- of a name without a mark, every argument has what is needed, phantom ones left out
  named_has : {a : Ability} {n : TypeName} {tys : List ℕ} → Declares s n a → ((i : ℕ) → i < length tys → ¬ Phantom s n i → Has s (needed a) (type_at s (get_or tys i 0))) → Has s a (Apply None n tys)
  bound_has : {a : Ability} {v t : ℕ} → get s v ≡ Some t → Has s a (type_at s t) → Has s a (Var v)
  -- the Book knows no marks, unbound variables, `_` and `!`: core.rs takes a mark as it is, and gives the others every ability
  marked_has : {a : Ability} {set : ℕ} {n : TypeName} {tys : List ℕ} → InSet a set → Has s a (Apply (Some set) n tys)
  open_has : {a : Ability} {v : ℕ} → get s v ≡ None → Has s a (Var v)
  any_has : {a : Ability} → Has s a Anything
  error_has : {a : Ability} → Has s a UnresolvedError

-- ---- the claims
-- errors 1, 2 and 3
pub data Mismatch : TypingError → Type 0 where
  no_subtype : {l r : ℕ} → Mismatch (SubtypeError l r)
  incompatible : {l r : ℕ} → Mismatch (Incompatible l r)
  other_count : {l r : ℕ} → Mismatch (ArityMismatch l r)

-- 7, 8 and 10: of space, of depth, and of ability marks the Book says nothing
pub data CutShort : Refusal → Type 0 where
  no_space : CutShort full
  no_depth : CutShort too_deep
  other_marks : CutShort abilities_disagree

-- a call is cut short, or succeeds with Yes, or fails by 1, 2 or 3 with No
pub data ComesTo {B : Type 0} (Yes : State → B → Type 0) (No : Type 0) : Result (State × B) → Type 0 where
  succeeds : {s : State} {b : B} → Yes s b → ComesTo Yes No (ok (s, b))
  fails : {s : State} {e : TypingError} → No → Mismatch e → ComesTo Yes No (err s e)
  cut_short : {x : Refusal} → CutShort x → ComesTo Yes No (refused x)

abbrev pub Relation : Type 1
Relation = MoveType → MoveType → Type 0

-- T is the least type of which both L and R are subtypes
pub record Least (Sub : Relation) (L R T : MoveType) : Type 0 where
  pub above_left : Sub L T
  pub above_right : Sub R T
  pub least : (U : MoveType) → Sub L U → Sub R U → Sub T U

-- subtype succeeds, with the right type, just where the left type is a subtype of it
unfoldable pub SubtypeRule : Relation → State → ℕ → ℕ → MoveType → MoveType → Type 0
SubtypeRule Sub s l r L R = ComesTo (λ s' t. Sub L R × Denotes s' t R) (¬ Sub L R) (subtype s l r)

-- join succeeds, with the least common supertype, just where there is one
unfoldable pub JoinRule : Relation → State → ℕ → ℕ → MoveType → MoveType → Type 0
JoinRule Sub s l r L R = ComesTo (λ s' t. (T : MoveType) × Least Sub L R T × Denotes s' t T) ((U : MoveType) → Sub L U → Sub R U → ⊥) (join s l r)

-- 7; and 9 and 16, which ability constraints bring (theorems/proofs/SolveRefused.antt)
pub data SVRefused : Refusal → Type 0 where
  sv_full : SVRefused full
  sv_itself : SVRefused runs_into_itself
  sv_contradicted : SVRefused mark_contradicted

-- after SV the variable v unfolds to the type t; SV fails by none of 1 to 4, and is refused with 7, 9 and 16 only
unfoldable pub LiteralRule : ℕ → TypeValue → Result (State × Bytes) → Type 0
LiteralRule v t (ok (s, failures)) = (loc : ℕ) → (unfold_type s (record { loc = loc; value = Var v })).value ≡ t
LiteralRule v t (err s e) = ⊥
LiteralRule v t (refused x) = SVRefused x

-- theorems/proofs/Book.antt: it holds of every sound state. How much space and depth suffice: theorems/proofs/BookDeep.antt
pub record TheBook (s : State) : Type 0 where
  pub subtype_book : (l r : ℕ) (L R : MoveType) → Denotes s l L → Denotes s r R → BookType L → SubtypeRule BookSubtype s l r L R
  pub join_book : (l r : ℕ) (L R : MoveType) → Denotes s l L → Denotes s r R → BookType L → BookType R → JoinRule BookSubtype s l r L R
  -- Integers: the type of a literal that nothing decides is taken to be u64, with the mark that core.rs gives it; R-7: or wider, if it needs more than 64 bits
  pub literal : (v loc : ℕ) → num_loc s v ≡ Some loc → get s (forward_tvar s v) ≡ None → LiteralRule v (default_of s v) (solve_constraints s)
  -- .. and that of a literal that is decided stays as it is
  pub decided_literal : (v loc : ℕ) (t : TypeValue) → (unfold_type s (record { loc = loc; value = Var v })).value ≡ t → is_integer t ≡ true → LiteralRule v t (solve_constraints s)
  -- Abilities: a type that does not run into itself has those that the Book gives it, and no others
  pub abilities_are : (t : ℕ) → t < count s → ¬ RunsIntoItself s (type_at s t) → (a : Ability) → InSet a (infer_abilities s t) ↔ Has s a (type_at s t)
