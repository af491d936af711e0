-- 02, R-5: the type that XP shows and the locations of its codes, from 02's sentences and not from `expand`; and what is claimed of XP's answers. Assumes nothing: these are definitions.
use mathlib.Core.List.{Memᴰ}
use Rattle.std.specs.Prelude.{◌↔◌, ◌≢◌, ◌≤◌, ◌<◌, ◌≡◌, ◌∷◌, ◌++◌, ◌+◌}
use Rattle.definition.specs.Types.{Bool, true, List, [], Option, None, Some, ℕ, suc, length, TypeName, Multiple, Builtin, ModuleType, AbilityMark, TypeValue, UnitType, Ref, Param, Apply, Var, Anything, UnresolvedError, State, full, max_nodes, max_args, ok, refused, runs_into_itself, already_expanded, Result}
use Rattle.definition.specs.Store.{count, type_at, loc_of, get}
use Rattle.definition.specs.Subst.{as_var, parts}
use Rattle.definition.specs.Write.{Bytes, IsBytes, u32, head}
use Rattle.definition.specs.Reader.{got}
use Rattle.definition.specs.Trees.{Tree, unit_tree, anything_tree, error_tree, ref_tree, param_tree, apply_tree, var_tree, Trees, no_trees, ◌then◌}
use Rattle.definition.specs.Record.{XP, read_record}
use Rattle.definition.specs.Build.{build}
use Rattle.definition.specs.Sound.{sound}
use Rattle.definition.specs.Step.{usable, step}
use Rattle.definition.specs.Book.{Ability, InSet, Has}
use Rattle.definition.specs.Expand.{Expanded, expand_type}
use Rattle.definition.specs.Rank.{RunsIntoItself}

-- ---- the final type
-- a variable's content: what the end of its chain holds
pub data Content (s : State) : ℕ → Option ℕ → Type 0 where
  no_content : {v : ℕ} → get s v ≡ None → Content s v None
  content : {v p : ℕ} → get s v ≡ Some p → as_var (type_at s p) ≡ None → Content s v (Some p)
  content_on : {v w p : ℕ} {c : Option ℕ} → get s v ≡ Some p → type_at s p ≡ Var w → Content s w c → Content s v c

-- the set of just the abilities that the Book gives the type as it stands
pub record SetOf (s : State) (x : TypeValue) (set : ℕ) : Type 0 where
  pub is_a_set : set ≤ 15
  pub exactly : (a : Ability) → InSet a set ↔ Has s a x

-- the type at node t, of shape x and location l, as it is finally, and the locations of its codes
mutual
  pub data Finally (s : State) : ℕ → TypeValue → Tree → List ℕ → Type 0 where
    final_unit : {t l : ℕ} → loc_of s t ≡ l → Finally s t UnitType (unit_tree l) []
    final_any : {t l : ℕ} → loc_of s t ≡ l → Finally s t Anything (anything_tree l) []
    final_error : {t l : ℕ} → loc_of s t ≡ l → Finally s t UnresolvedError (error_tree l) []
    final_param : {t l id a : ℕ} → loc_of s t ≡ l → Finally s t (Param id a) (param_tree l id a) []
    final_ref : {t l p : ℕ} {m : Bool} {T : Tree} {ls : List ℕ} → loc_of s t ≡ l → Finally s p (type_at s p) T ls → Finally s t (Ref m p) (ref_tree l m T) ls
    -- a variable is replaced by its content; an unbound one becomes `!` and adds a code, both where it stands
    final_bound : {t v p : ℕ} {T : Tree} {ls : List ℕ} → Content s v (Some p) → Finally s p (type_at s p) T ls → Finally s t (Var v) T ls
    final_open : {t l v : ℕ} → loc_of s t ≡ l → Content s v None → Finally s t (Var v) (error_tree l) (l ∷ [])
    -- a name without mark gets its set; a marked builtin keeps its mark
    final_name : {t l set : ℕ} {n : TypeName} {ps : List ℕ} {Ts : Trees} {ls : List ℕ} → loc_of s t ≡ l → SetOf s (Apply None n ps) set → AllFinally s ps Ts ls → Finally s t (Apply None n ps) (apply_tree l (Some set) n Ts) ls
    final_builtin : {t l set b : ℕ} {ps : List ℕ} {Ts : Trees} {ls : List ℕ} → loc_of s t ≡ l → AllFinally s ps Ts ls → Finally s t (Apply (Some set) (Builtin b) ps) (apply_tree l (Some set) (Builtin b) Ts) ls

  pub data AllFinally (s : State) : List ℕ → Trees → List ℕ → Type 0 where
    final_none : AllFinally s [] no_trees []
    final_each : {p : ℕ} {ps : List ℕ} {T : Tree} {Ts : Trees} {ls ms all : List ℕ} → Finally s p (type_at s p) T ls → AllFinally s ps Ts ms → ls ++ ms ≡ all → AllFinally s (p ∷ ps) (◌then◌ T Ts) all

-- ---- as bytes
unfoldable mutual
  pub spelled : Tree → Bytes
  spelled (unit_tree loc) = head loc UnitType
  spelled (anything_tree loc) = head loc Anything
  spelled (error_tree loc) = head loc UnresolvedError
  spelled (ref_tree loc m t) = head loc (Ref m 0) ++ spelled t
  spelled (param_tree loc id a) = head loc (Param id a)
  spelled (apply_tree loc k n ts) = head loc (Apply k n []) ++ spelled_all ts
  spelled (var_tree loc v) = head loc (Var v)

  pub spelled_all : Trees → Bytes
  spelled_all no_trees = []
  spelled_all (◌then◌ t ts) = spelled t ++ spelled_all ts

unfoldable pub codes_of : List ℕ → Bytes
codes_of [] = []
codes_of (loc ∷ ls) = 5 ∷ u32 loc ++ codes_of ls

-- ---- of a final type
-- no variable, and a mark on every name
mutual
  pub data Whole : Tree → Type 0 where
    whole_unit : {l : ℕ} → Whole (unit_tree l)
    whole_any : {l : ℕ} → Whole (anything_tree l)
    whole_error : {l : ℕ} → Whole (error_tree l)
    whole_param : {l id a : ℕ} → Whole (param_tree l id a)
    whole_ref : {l : ℕ} {m : Bool} {T : Tree} → Whole T → Whole (ref_tree l m T)
    whole_name : {l set : ℕ} {n : TypeName} {Ts : Trees} → AllWhole Ts → Whole (apply_tree l (Some set) n Ts)

  pub data AllWhole : Trees → Type 0 where
    whole_none : AllWhole no_trees
    whole_each : {T : Tree} {Ts : Trees} → Whole T → AllWhole Ts → AllWhole (◌then◌ T Ts)

-- a list or a struct is in it
mutual
  pub data Contains : Tree → Type 0 where
    a_list : {l n : ℕ} {k : AbilityMark} {Ts : Trees} → Contains (apply_tree l k (Multiple n) Ts)
    a_struct : {l n : ℕ} {k : AbilityMark} {Ts : Trees} → Contains (apply_tree l k (ModuleType n) Ts)
    in_ref : {l : ℕ} {m : Bool} {T : Tree} → Contains T → Contains (ref_tree l m T)
    in_argument : {l : ℕ} {k : AbilityMark} {n : TypeName} {Ts : Trees} → SomeContain Ts → Contains (apply_tree l k n Ts)

  pub data SomeContain : Trees → Type 0 where
    in_first : {T : Tree} {Ts : Trees} → Contains T → SomeContain (◌then◌ T Ts)
    in_later : {T : Tree} {Ts : Trees} → SomeContain Ts → SomeContain (◌then◌ T Ts)

abbrev pub NoReference : Tree → Type 0
NoReference (unit_tree l) = Unit {0}
NoReference (anything_tree l) = Unit {0}
NoReference (error_tree l) = Unit {0}
NoReference (ref_tree l m t) = ⊥
NoReference (param_tree l id a) = Unit {0}
NoReference (apply_tree l k n ts) = Unit {0}
NoReference (var_tree l v) = Unit {0}

-- nested at most n deep, and no reference right under a reference
mutual
  pub data Nested : ℕ → Tree → Type 0 where
    n_unit : {n l : ℕ} → Nested (suc n) (unit_tree l)
    n_any : {n l : ℕ} → Nested (suc n) (anything_tree l)
    n_error : {n l : ℕ} → Nested (suc n) (error_tree l)
    n_param : {n l id a : ℕ} → Nested (suc n) (param_tree l id a)
    n_var : {n l v : ℕ} → Nested (suc n) (var_tree l v)
    n_ref : {n l : ℕ} {m : Bool} {T : Tree} → NoReference T → Nested n T → Nested (suc n) (ref_tree l m T)
    n_name : {n l : ℕ} {k : AbilityMark} {c : TypeName} {Ts : Trees} → AllNested n Ts → Nested (suc n) (apply_tree l k c Ts)

  pub data AllNested : ℕ → Trees → Type 0 where
    n_none : {n : ℕ} → AllNested n no_trees
    n_each : {n : ℕ} {T : Tree} {Ts : Trees} → Nested n T → AllNested n Ts → AllNested n (◌then◌ T Ts)

-- the locations of the `!` in it, from left to right
unfoldable mutual
  pub errors : Tree → List ℕ
  errors (unit_tree l) = []
  errors (anything_tree l) = []
  errors (error_tree l) = l ∷ []
  errors (ref_tree l m t) = errors t
  errors (param_tree l id a) = []
  errors (apply_tree l k n ts) = errors_all ts
  errors (var_tree l v) = []

  pub errors_all : Trees → List ℕ
  errors_all no_trees = []
  errors_all (◌then◌ t ts) = errors t ++ errors_all ts

-- the locations of the `!` that are written in a type, bindings followed
mutual
  pub data Written (s : State) : ℕ → TypeValue → List ℕ → Type 0 where
    no_error_unit : {t : ℕ} → Written s t UnitType []
    no_error_any : {t : ℕ} → Written s t Anything []
    no_error_param : {t id a : ℕ} → Written s t (Param id a) []
    error_written : {t l : ℕ} → loc_of s t ≡ l → Written s t UnresolvedError (l ∷ [])
    written_ref : {t p : ℕ} {m : Bool} {ks : List ℕ} → Written s p (type_at s p) ks → Written s t (Ref m p) ks
    written_bound : {t v p : ℕ} {ks : List ℕ} → Content s v (Some p) → Written s p (type_at s p) ks → Written s t (Var v) ks
    no_error_open : {t v : ℕ} → Content s v None → Written s t (Var v) []
    written_name : {t : ℕ} {k : AbilityMark} {n : TypeName} {ps : List ℕ} {ks : List ℕ} → AllWritten s ps ks → Written s t (Apply k n ps) ks

  pub data AllWritten (s : State) : List ℕ → List ℕ → Type 0 where
    written_none : AllWritten s [] []
    written_each : {p : ℕ} {ps ks ms all : List ℕ} → Written s p (type_at s p) ks → AllWritten s ps ms → ks ++ ms ≡ all → AllWritten s (p ∷ ps) all

-- a list is made of two, each in its order
pub data Splits : List ℕ → List ℕ → List ℕ → Type 0 where
  split_none : Splits [] [] []
  split_left : {l : ℕ} {ls ks all : List ℕ} → Splits ls ks all → Splits (l ∷ ls) ks (l ∷ all)
  split_right : {k : ℕ} {ls ks all : List ℕ} → Splits ls ks all → Splits ls (k ∷ ks) (k ∷ all)

-- ---- 9 and 17
-- answered, or 17
pub data Came : Result Expanded → Type 0 where
  came_ok : {x : Expanded} → Came (ok x)
  came_17 : Came (refused already_expanded)

-- a list or struct that has an ability mark
pub data Marked : TypeValue → Type 0 where
  marked_list : {set n : ℕ} {tys : List ℕ} → Marked (Apply (Some set) (Multiple n) tys)
  marked_struct : {set n : ℕ} {tys : List ℕ} → Marked (Apply (Some set) (ModuleType n) tys)

-- reading the shape comes to a marked one
pub data ReachesMarked (S : State) : TypeValue → Type 0 where
  is_marked : {x : TypeValue} → Marked x → ReachesMarked S x
  through_binding : {v t : ℕ} → get S v ≡ Some t → ReachesMarked S (type_at S t) → ReachesMarked S (Var v)
  through_part : {x : TypeValue} {p : ℕ} → Memᴰ p (parts x) → ReachesMarked S (type_at S p) → ReachesMarked S x

-- ---- what is claimed
-- the walk over a type that does not run into itself is answered, or 17: no other refusal
unfoldable pub ExpandComes : State → Type 0
ExpandComes s = sound s ≡ true → (t : ℕ) → t < count s → ¬ RunsIntoItself s (type_at s t) → Came (expand_type s t)

-- 9 just where it runs into a variable that reaches itself
unfoldable pub ExpandNine : State → Type 0
ExpandNine s = sound s ≡ true → (t : ℕ) → t < count s → (expand_type s t ≡ refused runs_into_itself) ↔ RunsIntoItself s (type_at s t)

-- else 17 just where reading it comes to a marked list or struct
unfoldable pub ExpandSeventeen : State → Type 0
ExpandSeventeen s = sound s ≡ true → (t : ℕ) → t < count s → ¬ RunsIntoItself s (type_at s t) → (expand_type s t ≡ refused already_expanded) ↔ ReachesMarked s (type_at s t)

-- XP's type is placed as this node, is finally this tree, and is shown so
pub record Shown (s : State) (tree : Tree) (p : Bytes) : Type 0 where
  pub placed : State
  pub node : ℕ
  pub build_gives : build tree s ≡ ok (placed, node)
  pub final : Tree
  pub locations : List ℕ
  pub is_final : Finally placed node (type_at placed node) final locations
  pub payload_is : p ≡ spelled final ++ codes_of locations

-- every answer 0
unfoldable pub ExpandsAs02 : State → Type 0
ExpandsAs02 s = (bytes : Bytes) (buffer : ℕ) (tree : Tree) → read_record s bytes ≡ got (XP tree) [] → (step s bytes buffer).number ≡ 0 → Shown s tree ((step s bytes buffer).payload)

-- one final type at most
unfoldable pub FinalOnce : State → Type 0
FinalOnce s = (t : ℕ) (x : TypeValue) (T T' : Tree) (ls ls' : List ℕ) → Finally s t x T ls → Finally s t x T' ls' → (T ≡ T') × (ls ≡ ls')

-- what placing a tree takes: a node a tag, and a place an argument
unfoldable mutual
  pub nodes_for : Tree → ℕ
  nodes_for (unit_tree l) = 1
  nodes_for (anything_tree l) = 1
  nodes_for (error_tree l) = 1
  nodes_for (ref_tree l m t) = suc (nodes_for t)
  nodes_for (param_tree l id a) = 1
  nodes_for (apply_tree l k n ts) = suc (nodes_for_all ts)
  nodes_for (var_tree l v) = 1

  pub nodes_for_all : Trees → ℕ
  nodes_for_all no_trees = 0
  nodes_for_all (◌then◌ t ts) = nodes_for t + nodes_for_all ts

unfoldable mutual
  pub places_for : Tree → ℕ
  places_for (unit_tree l) = 0
  places_for (anything_tree l) = 0
  places_for (error_tree l) = 0
  places_for (ref_tree l m t) = places_for t
  places_for (param_tree l id a) = 0
  places_for (apply_tree l k n ts) = places_for_all ts
  places_for (var_tree l v) = 0

  -- one for the argument, and those below it
  pub places_for_all : Trees → ℕ
  places_for_all no_trees = 0
  places_for_all (◌then◌ t ts) = suc (places_for t + places_for_all ts)

abbrev pub RoomFor : State → Tree → Type 0
RoomFor s tree = (count s + nodes_for tree ≤ max_nodes) × (length s.args + places_for tree ≤ max_args)

-- placing finds no room exactly where so much is not left
unfoldable pub Placing : State → Type 0
Placing s = (tree : Tree) → (build tree s ≡ refused full) ↔ (¬ RoomFor s tree)

-- 7 exactly if placing the type finds no room
unfoldable pub XPSeven : State → Type 0
XPSeven s = (bytes : Bytes) (buffer : ℕ) (tree : Tree) → usable s bytes buffer ≡ true → read_record s bytes ≡ got (XP tree) [] → ((step s bytes buffer).number ≡ 7) ↔ (build tree s ≡ refused full)

-- no variable is left, and every name has a mark
unfoldable pub FinalWhole : State → Type 0
FinalWhole s = (t : ℕ) (x : TypeValue) (T : Tree) (ls : List ℕ) → Finally s t x T ls → Whole T

-- a final type that fits a record is read back from it, under the same declarations
unfoldable pub ExpandedReads : State → State → Type 0
ExpandedReads s s' = (bytes : Bytes) (buffer : ℕ) (tree : Tree) (p : Bytes) → IsBytes bytes → read_record s bytes ≡ got (XP tree) [] → sound s ≡ true → (x : Shown s tree p) → s.structs ≡ s'.structs
    → Nested 64 x.final → length (spelled x.final) ≤ 4094 → read_record s' (88 ∷ 80 ∷ spelled x.final) ≡ got (XP x.final) []

-- XP of it, where there is room to read it: 17 if a list or struct is in it, else the same bytes and no code
unfoldable pub ExpandAgain : State → State → Type 0
ExpandAgain s s' = (bytes : Bytes) (buffer buffer' : ℕ) (tree : Tree) (p : Bytes) → IsBytes bytes → read_record s bytes ≡ got (XP tree) [] → sound s ≡ true → (x : Shown s tree p) → s.structs ≡ s'.structs
    → Nested 64 x.final → length (spelled x.final) ≤ 4094 → usable s' (88 ∷ 80 ∷ spelled x.final) buffer' ≡ true → build x.final s' ≢ refused full
    → (Contains x.final → (step s' (88 ∷ 80 ∷ spelled x.final) buffer').number ≡ 17)
    × (¬ Contains x.final → ((step s' (88 ∷ 80 ∷ spelled x.final) buffer').number ≡ 0) × ((step s' (88 ∷ 80 ∷ spelled x.final) buffer').payload ≡ spelled x.final))

-- the `!` of the final type are those that have a code and those that are written, and no others
unfoldable pub FinalCodes : State → Type 0
FinalCodes s = (t : ℕ) (x : TypeValue) (T : Tree) (ls : List ℕ) → Finally s t x T ls → (ks : List ℕ) × Written s t x ks × Splits ls ks (errors T)
