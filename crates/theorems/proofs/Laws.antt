-- What the operations of the state do to what is read of it. Assumes nothing.
-- Change by change: a new node, then changes that keep nodes and argument places, each with what is read after it.
use mathlib.Core.Path.{◌≡◌, refl, ap, ◌∙◌, subst, sym}
use mathlib.Core.Logic.{◌≢◌}
use mathlib.Core.List.{List, [], ◌∷◌, ◌++◌, Memᴰ}
use Rattle.std.specs.Prelude.{Option, None, Some, if◌then◌else◌}
use Prim.Native.Nat.{ℕ, zero, suc, ◌+◌, ◌≤◌, ◌<◌}
use native.Mathlib.Omega.{arith}
use lib.ListN.{length, get_or, set, take, drop, length-append, length-set, length-drop, get_or-append, get_or-eq_default}
use lib.Seq.{get_or-append_seam, get_or-set_same, get_or-set_other, take-append-le, drop-append-le, drop_at}
use Rattle.definition.specs.Types.{Shape, UnitType, Ref, Param, Apply, Var, Anything, UnresolvedError, TypeValue, Places}
use Rattle.definition.specs.Types.{Cell, unbound, State, Constraint, AbilityConstraint, NumericConstraint, BitsConstraint, OrderedConstraint, BaseTypeConstraint, SingleTypeConstraint}
use Rattle.definition.specs.Store.{nowhere, count, taken, node, args_at, with_args, args_of, stored, type_at, get, insert, with_vars, with_node, with_var, num_loc, need_of, with_need}
use Rattle.definition.specs.Subst.{next_of, mark_one, mark_chain, set_num_var}
use Rattle.definition.specs.Join.{merge_num, is_num_var, larger}
use mathlib.Core.Bool.{Bool, true, false}
use lib.Dec.{leb, leb→le, le→leb, eqb→eq, T}
use Rattle.definition.specs.Sound.{need_allowed}

-- ---- a new node

-- the places of a node lie below the used count
abbrev pub PlacesIn : State → Shape Places → Type 0
PlacesIn s UnitType = Unit {0}
PlacesIn s (Ref m t) = Unit {0}
PlacesIn s (Param id a) = Unit {0}
PlacesIn s (Apply k n p) = p.first + p.many ≤ length s.args
PlacesIn s (Var v) = Unit {0}
PlacesIn s Anything = Unit {0}
PlacesIn s UnresolvedError = Unit {0}

pub count_with_node : (s : State) (l : ℕ) (sh : TypeValue) → count (with_node s l sh) ≡ suc (count s)
unfolding with_node
count_with_node s l sh = length-append s.nodes _ ∙ omega arith

take_drop_more : (l m : List ℕ) (i n : ℕ) → i + n ≤ length l → take n (drop i (l ++ m)) ≡ take n (drop i l)
take_drop_more l m i n h = rw (drop-append-le i l m (omega arith)) (take-append-le n (drop i l) m (rw length-drop (omega arith)))

pub node_old : (s : State) (l : ℕ) (sh : TypeValue) (i : ℕ) → i < count s → node (with_node s l sh) i ≡ node s i
unfolding node with_node
node_old s l sh i h = get_or-append s.nodes _ nowhere i h

args_more : (s : State) (l : ℕ) (sh : TypeValue) (p : Places) → p.first + p.many ≤ length s.args → args_at (with_node s l sh) p ≡ args_at s p
unfolding args_at with_node
args_more s l sh p h = take_drop_more s.args (args_of sh) p.first p.many h

with_args_more : (s : State) (l : ℕ) (sh : TypeValue) (x : Shape Places) → PlacesIn s x → with_args (with_node s l sh) x ≡ with_args s x
unfolding with_args
with_args_more s l sh UnitType h = refl
with_args_more s l sh (Ref m t) h = refl
with_args_more s l sh (Param id a) h = refl
with_args_more s l sh (Apply k n p) h = rw (args_more s l sh p h) refl
with_args_more s l sh (Var v) h = refl
with_args_more s l sh Anything h = refl
with_args_more s l sh UnresolvedError h = refl

places_more : (s : State) (l : ℕ) (sh : TypeValue) (x : Shape Places) → PlacesIn s x → PlacesIn (with_node s l sh) x
unfolding with_node
places_more s l sh UnitType h = tt
places_more s l sh (Ref m t) h = tt
places_more s l sh (Param id a) h = tt
places_more s l sh (Apply k n p) h = omega (arith, length-append s.args (args_of sh))
places_more s l sh (Var v) h = tt
places_more s l sh Anything h = tt
places_more s l sh UnresolvedError h = tt

pub value_old : (s : State) (l : ℕ) (sh : TypeValue) (i : ℕ) → i < count s → PlacesIn s (node s i).value → type_at (with_node s l sh) i ≡ type_at s i
unfolding type_at
value_old s l sh i h p = rw (node_old s l sh i h) (with_args_more s l sh (node s i).value p)

pub places_old : (s : State) (l : ℕ) (sh : TypeValue) (i : ℕ) → i < count s → PlacesIn s (node s i).value → PlacesIn (with_node s l sh) (node (with_node s l sh) i).value
places_old s l sh i h p = rw (node_old s l sh i h) (places_more s l sh (node s i).value p)

pub node_new : (s : State) (l : ℕ) (sh : TypeValue) → node (with_node s l sh) (count s) ≡ record { loc = l; value = stored (length s.args) sh }
unfolding node with_node
node_new s l sh = get_or-append_seam s.nodes _ [] nowhere

take_length : (l : List ℕ) → take (length l) l ≡ l
take_length [] = refl
take_length (x ∷ l) = ap (λ (m : List ℕ). x ∷ m) (take_length l)

args_new : (s : State) (l : ℕ) (sh : TypeValue) (tys : List ℕ) → args_of sh ≡ tys → args_at (with_node s l sh) (record { first = length s.args; many = length tys }) ≡ tys
unfolding args_at with_node
args_new s l sh tys e = rw (e, drop_at s.args tys (length s.args) refl) (take_length tys)

with_args_new : (s : State) (l : ℕ) (sh sh' : TypeValue) → sh ≡ sh' → with_args (with_node s l sh) (stored (length s.args) sh') ≡ sh'
unfolding with_args stored args_of
with_args_new s l sh UnitType e = refl
with_args_new s l sh (Ref m t) e = refl
with_args_new s l sh (Param id a) e = refl
with_args_new s l sh (Apply k n tys) e = rw (args_new s l sh tys (rw e refl)) refl
with_args_new s l sh (Var v) e = refl
with_args_new s l sh Anything e = refl
with_args_new s l sh UnresolvedError e = refl

pub value_new : (s : State) (l : ℕ) (sh : TypeValue) → type_at (with_node s l sh) (count s) ≡ sh
unfolding type_at
value_new s l sh = rw (node_new s l sh) (with_args_new s l sh sh refl)

stored_places : (s : State) (l : ℕ) (sh sh' : TypeValue) → sh ≡ sh' → PlacesIn (with_node s l sh) (stored (length s.args) sh')
unfolding with_node stored args_of
stored_places s l sh UnitType e = tt
stored_places s l sh (Ref m t) e = tt
stored_places s l sh (Param id a) e = tt
stored_places s l sh (Apply k n tys) e = rw e (omega (arith, length-append s.args tys))
stored_places s l sh (Var v) e = tt
stored_places s l sh Anything e = tt
stored_places s l sh UnresolvedError e = tt

pub places_new : (s : State) (l : ℕ) (sh : TypeValue) → PlacesIn (with_node s l sh) (node (with_node s l sh) (count s)).value
places_new s l sh = rw (node_new s l sh) (stored_places s l sh sh refl)

pub get_with_node : (s : State) (l : ℕ) (sh : TypeValue) (v : ℕ) → get (with_node s l sh) v ≡ get s v
unfolding get with_node
get_with_node s l sh v = refl

pub taken_with_node : (s : State) (l : ℕ) (sh : TypeValue) → taken (with_node s l sh) ≡ taken s
unfolding with_node
taken_with_node s l sh = refl

-- ---- a change that keeps nodes and argument places

-- what is read of the nodes depends on them and on the argument places alone
pub record SameNodes (s s' : State) : Type 0 where
  pub same_nodes : s'.nodes ≡ s.nodes
  pub same_args : s'.args ≡ s.args

module _ {s s' : State} (h : SameNodes s s') where
  node_same : (i : ℕ) → node s' i ≡ node s i
  unfolding node
  node_same i = rw h.same_nodes refl

  with_args_same : (x : Shape Places) → with_args s' x ≡ with_args s x
  unfolding with_args args_at
  with_args_same UnitType = refl
  with_args_same (Ref m t) = refl
  with_args_same (Param id a) = refl
  with_args_same (Apply k n p) = rw h.same_args refl
  with_args_same (Var v) = refl
  with_args_same Anything = refl
  with_args_same UnresolvedError = refl

  places_in_same : (x : Shape Places) → PlacesIn s x → PlacesIn s' x
  places_in_same UnitType p = tt
  places_in_same (Ref m t) p = tt
  places_in_same (Param id a) p = tt
  places_in_same (Apply k n q) p = rw h.same_args p
  places_in_same (Var v) p = tt
  places_in_same Anything p = tt
  places_in_same UnresolvedError p = tt

  pub value_same : (i : ℕ) → type_at s' i ≡ type_at s i
  unfolding type_at
  value_same i = rw (node_same i) (with_args_same (node s i).value)

  pub count_same : count s' ≡ count s
  count_same = ap length h.same_nodes

  pub places_same : (i : ℕ) → PlacesIn s (node s i).value → PlacesIn s' (node s' i).value
  places_same i p = rw (node_same i) (places_in_same (node s i).value p)

pub vars_nodes : (s : State) (vs : List Cell) → SameNodes s (with_vars s vs)
unfolding with_vars
vars_nodes s vs = record { same_nodes = refl; same_args = refl }

pub insert_nodes : (s : State) (v t : ℕ) → SameNodes s (insert s v t)
unfolding insert
insert_nodes s v t = vars_nodes s _

pub value_insert : (s : State) (v t i : ℕ) → type_at (insert s v t) i ≡ type_at s i
value_insert s v t i = value_same (insert_nodes s v t) i

pub count_insert : (s : State) (v t : ℕ) → count (insert s v t) ≡ count s
count_insert s v t = count_same (insert_nodes s v t)

-- ---- the declarations stay

pub structs_node : (s : State) (l : ℕ) (sh : TypeValue) → (with_node s l sh).structs ≡ s.structs
unfolding with_node
structs_node s l sh = refl

pub structs_vars : (s : State) (vs : List Cell) → (with_vars s vs).structs ≡ s.structs
unfolding with_vars
structs_vars s vs = refl

pub structs_insert : (s : State) (v t : ℕ) → (insert s v t).structs ≡ s.structs
unfolding insert
structs_insert s v t = structs_vars s _

-- ---- the constraints are on nodes

abbrev pub type_on : Constraint → ℕ
type_on (AbilityConstraint loc ty abilities) = ty
type_on (NumericConstraint loc ty) = ty
type_on (BitsConstraint loc ty) = ty
type_on (OrderedConstraint loc ty) = ty
type_on (BaseTypeConstraint loc ty) = ty
type_on (SingleTypeConstraint loc ty) = ty

pub record OnNodes (s : State) : Type 0 where
  pub on : (c : Constraint) → Memᴰ c s.constraints → type_on c < count s

pub on_nodes : {s s' : State} → s'.constraints ≡ s.constraints → count s ≤ count s' → OnNodes s → OnNodes s'
on_nodes e h o = record { on = λ c m. omega (arith, o.on c (subst (λ l. Memᴰ c l) e m)) }

pub constraints_node : (s : State) (l : ℕ) (sh : TypeValue) → (with_node s l sh).constraints ≡ s.constraints
unfolding with_node
constraints_node s l sh = refl

pub constraints_vars : (s : State) (vs : List Cell) → (with_vars s vs).constraints ≡ s.constraints
unfolding with_vars
constraints_vars s vs = refl

pub constraints_insert : (s : State) (v t : ℕ) → (insert s v t).constraints ≡ s.constraints
unfolding insert
constraints_insert s v t = constraints_vars s _

pub constraints_with_var : (s : State) → (with_var s).constraints ≡ s.constraints
unfolding with_var
constraints_with_var s = constraints_vars s _

-- ---- variables

pub get_beyond : (s : State) (v : ℕ) → taken s ≤ v → get s v ≡ None
unfolding get
get_beyond s v h = ap (λ (c : Cell). c.binding) (get_or-eq_default s.vars unbound h)

pub getD_snoc : (l : List Cell) (v : ℕ) → get_or (l ++ (unbound ∷ [])) v unbound ≡ get_or l v unbound
getD_snoc [] zero = refl
getD_snoc [] (suc v) = refl
getD_snoc (c ∷ l) zero = refl
getD_snoc (c ∷ l) (suc v) = getD_snoc l v

pub get_with_var : (s : State) (v : ℕ) → get (with_var s) v ≡ get s v
unfolding get with_var with_vars
get_with_var s v = ap (λ (c : Cell). c.binding) (getD_snoc s.vars v)

pub with_var_nodes : (s : State) → SameNodes s (with_var s)
unfolding with_var
with_var_nodes s = vars_nodes s _

pub structs_with_var : (s : State) → (with_var s).structs ≡ s.structs
unfolding with_var
structs_with_var s = structs_vars s _

pub taken_with_var : (s : State) → taken (with_var s) ≡ suc (taken s)
unfolding with_var with_vars
taken_with_var s = length-append s.vars _ ∙ omega arith

pub get_insert_same : (s : State) (v t : ℕ) → v < taken s → get (insert s v t) v ≡ Some t
unfolding get insert with_vars
get_insert_same s v t h = ap (λ (c : Cell). c.binding) (get_or-set_same s.vars v _ unbound h)

pub get_insert_other : (s : State) (v t w : ℕ) → w ≢ v → get (insert s v t) w ≡ get s w
unfolding get insert with_vars
get_insert_other s v t w h = ap (λ (c : Cell). c.binding) (get_or-set_other s.vars v w _ unbound h)

pub taken_insert : (s : State) (v t : ℕ) → taken (insert s v t) ≡ taken s
unfolding insert with_vars
taken_insert s v t = length-set s.vars v _

-- ---- what a variable has, after a cell is set

pub set_field : {B : Type 0} (p : Cell → B) (l : List Cell) (v : ℕ) (c : Cell) (w : ℕ) → p c ≡ p (get_or l v unbound) → p (get_or (set l v c) w unbound) ≡ p (get_or l w unbound)
set_field p [] v c w e = refl
set_field p (d ∷ l) zero c zero e = e
set_field p (d ∷ l) zero c (suc w) e = refl
set_field p (d ∷ l) (suc v) c zero e = refl
set_field p (d ∷ l) (suc v) c (suc w) e = set_field p l v c w e

pub set_holds : (P : Cell → Type 0) (l : List Cell) (v : ℕ) (c : Cell) (w : ℕ) → P (get_or l w unbound) → (v < length l → P c) → P (get_or (set l v c) w unbound)
set_holds P [] v c w h k = h
set_holds P (d ∷ l) zero c zero h k = k (omega arith)
set_holds P (d ∷ l) zero c (suc w) h k = h
set_holds P (d ∷ l) (suc v) c zero h k = h
set_holds P (d ∷ l) (suc v) c (suc w) h k = set_holds P l v c w h (λ i. k (omega arith))

pub need_with_node : (s : State) (l : ℕ) (sh : TypeValue) (v : ℕ) → need_of (with_node s l sh) v ≡ need_of s v
unfolding need_of with_node
need_with_node s l sh v = refl

pub num_with_node : (s : State) (l : ℕ) (sh : TypeValue) (v : ℕ) → num_loc (with_node s l sh) v ≡ num_loc s v
unfolding num_loc with_node
num_with_node s l sh v = refl

pub need_with_var : (s : State) (v : ℕ) → need_of (with_var s) v ≡ need_of s v
unfolding need_of with_var with_vars
need_with_var s v = ap (λ (c : Cell). c.need) (getD_snoc s.vars v)

pub num_with_var : (s : State) (v : ℕ) → num_loc (with_var s) v ≡ num_loc s v
unfolding num_loc with_var with_vars
num_with_var s v = ap (λ (c : Cell). c.numeric) (getD_snoc s.vars v)

pub need_insert : (s : State) (v t w : ℕ) → need_of (insert s v t) w ≡ need_of s w
unfolding need_of insert with_vars
need_insert s v t w = set_field (λ (c : Cell). c.need) s.vars v _ w refl

pub num_insert : (s : State) (v t w : ℕ) → num_loc (insert s v t) w ≡ num_loc s w
unfolding num_loc insert with_vars
num_insert s v t w = set_field (λ (c : Cell). c.numeric) s.vars v _ w refl

pub need_beyond : (s : State) (v : ℕ) → taken s ≤ v → need_of s v ≡ 0
unfolding need_of
need_beyond s v h = ap (λ (c : Cell). c.need) (get_or-eq_default s.vars unbound {n = v} h)

pub is_num_same : (s s' : State) (v : ℕ) → num_loc s' v ≡ num_loc s v → is_num_var s' v ≡ is_num_var s v
unfolding is_num_var
is_num_same s s' v e = ap (λ (o : Option ℕ). elim o [ None ↦ false | Some loc ↦ true ]) e

pub num_beyond : (s : State) (v : ℕ) → taken s ≤ v → is_num_var s v ≡ false
unfolding is_num_var num_loc
num_beyond s v h = ap (λ (c : Cell). elim c.numeric [ None ↦ false | Some loc ↦ true ]) (get_or-eq_default s.vars unbound {n = v} h)

pub is_num_of : (s : State) (v : ℕ) → is_num_var s v ≡ true → (elim (num_loc s v) [ None ↦ false | Some loc ↦ true ]) ≡ true
unfolding is_num_var
is_num_of s v h = h

-- ---- marks

-- every need is one that a sound state may have
unfoldable pub NeedsIn : State → Type 0
NeedsIn s = (v : ℕ) → need_allowed (num_loc s v) (need_of s v) ≡ true

pub needs_same : (s s' : State) → ((v : ℕ) → num_loc s' v ≡ num_loc s v) → ((v : ℕ) → need_of s' v ≡ need_of s v) → NeedsIn s → NeedsIn s'
unfolding NeedsIn
needs_same s s' f g h v = rw (f v, g v) (h v)

-- an unmarked variable needs nothing
none_needs : (o : Option ℕ) (n : ℕ) → o ≡ None → need_allowed o n ≡ true → n ≡ 0
unfolding need_allowed
none_needs None n e h = eqb→eq n 0 (subst (λ (b : Bool). T b) (sym h) tt)
none_needs (Some loc) n e h = cc

need_most : (o : Option ℕ) (n : ℕ) → need_allowed o n ≡ true → leb n 256 ≡ true
unfolding need_allowed
need_most None n h = rw (none_needs None n refl h) refl
need_most (Some loc) n h = h

pub needs_most : (s : State) → NeedsIn s → (v : ℕ) → leb (need_of s v) 256 ≡ true
unfolding NeedsIn
needs_most s h v = need_most (num_loc s v) (need_of s v) (h v)

-- bindings, nodes and places are as they were; marks stay, and needs are ones that a sound state may have
pub record SameButMarks (s s' : State) : Type 0 where
  pub m_nodes : SameNodes s s'
  pub m_get : (v : ℕ) → get s' v ≡ get s v
  pub m_taken : taken s' ≡ taken s
  pub m_structs : s'.structs ≡ s.structs
  pub m_constraints : s'.constraints ≡ s.constraints
  pub m_num : (v : ℕ) → is_num_var s v ≡ true → is_num_var s' v ≡ true
  pub m_most : NeedsIn s → NeedsIn s'

marks_refl : (s : State) → SameButMarks s s
marks_refl s = record { m_nodes = record { same_nodes = refl; same_args = refl }; m_get = λ v. refl; m_taken = refl; m_structs = refl; m_constraints = refl; m_num = λ v h. h; m_most = λ h. h }

marks_trans : {s s' s'' : State} → SameButMarks s s' → SameButMarks s' s'' → SameButMarks s s''
marks_trans a b = record {
  m_nodes = record { same_nodes = b.m_nodes.same_nodes ∙ a.m_nodes.same_nodes; same_args = b.m_nodes.same_args ∙ a.m_nodes.same_args };
  m_get = λ v. b.m_get v ∙ a.m_get v;
  m_taken = b.m_taken ∙ a.m_taken;
  m_structs = b.m_structs ∙ a.m_structs;
  m_constraints = b.m_constraints ∙ a.m_constraints;
  m_num = λ v h. b.m_num v (a.m_num v h);
  m_most = λ h. b.m_most (a.m_most h);
}

need_mark_one : (s : State) (v loc w : ℕ) → need_of (mark_one s v loc) w ≡ need_of s w
unfolding need_of mark_one with_vars
need_mark_one s v loc w = set_field (λ (c : Cell). c.need) s.vars v _ w refl

abbrev Marked : Cell → Type 0
Marked c = (elim c.numeric [ None ↦ false | Some loc ↦ true ]) ≡ true

num_mark_one : (s : State) (v loc w : ℕ) → is_num_var s w ≡ true → is_num_var (mark_one s v loc) w ≡ true
unfolding is_num_var num_loc mark_one with_vars
num_mark_one s v loc w h = set_holds Marked s.vars v _ w h (λ i. refl)

num_mark_self : (s : State) (v loc : ℕ) → v < taken s → is_num_var (mark_one s v loc) v ≡ true
unfolding is_num_var num_loc mark_one with_vars
num_mark_self s v loc h = ap (λ (c : Cell). elim c.numeric [ None ↦ false | Some loc ↦ true ]) (get_or-set_same s.vars v _ unbound h)

abbrev CellIn : Cell → Type 0
CellIn c = need_allowed c.numeric c.need ≡ true

most_mark_one : (s : State) (v loc : ℕ) → NeedsIn s → NeedsIn (mark_one s v loc)
unfolding NeedsIn need_of num_loc mark_one with_vars need_allowed
most_mark_one s v loc h w = set_holds CellIn s.vars v _ w (h w) (λ i. need_most (num_loc s v) (need_of s v) (h v))

pub one_marks : (s : State) (v loc : ℕ) → SameButMarks s (mark_one s v loc)
unfolding mark_one get with_vars
one_marks s v loc = record {
  m_nodes = record { same_nodes = refl; same_args = refl };
  m_get = λ w. set_field (λ (c : Cell). c.binding) s.vars v _ w refl;
  m_taken = length-set s.vars v _;
  m_structs = refl;
  m_constraints = refl;
  m_num = num_mark_one s v loc;
  m_most = most_mark_one s v loc;
}

chain_marks : (n : ℕ) (s : State) (v loc : ℕ) → SameButMarks s (mark_chain n s v loc)
unfolding mark_chain
chain_marks zero s v loc = marks_refl s
chain_marks (suc n) s v loc = go (next_of s v) (λ next. chain_marks n (mark_one s v loc) next loc)
  where
    go : (o : Option ℕ) → ((next : ℕ) → SameButMarks (mark_one s v loc) (mark_chain n (mark_one s v loc) next loc))
        → SameButMarks s (elim o [ None ↦ mark_one s v loc | Some next ↦ mark_chain n (mark_one s v loc) next loc ])
    go None f = one_marks s v loc
    go (Some next) f = marks_trans (one_marks s v loc) (f next)

pub num_marks : (s : State) (v loc : ℕ) → SameButMarks s (set_num_var s v loc)
unfolding set_num_var
num_marks s v loc = chain_marks _ s v loc

-- a need beside the mark
pub need_marks : (s : State) (v n : ℕ) → (v < taken s → need_allowed (num_loc s v) n ≡ true) → SameButMarks s (with_need s v n)
unfolding with_need get need_of is_num_var num_loc with_vars NeedsIn
need_marks s v n k = record {
  m_nodes = record { same_nodes = refl; same_args = refl };
  m_get = λ w. set_field (λ (c : Cell). c.binding) s.vars v _ w refl;
  m_taken = length-set s.vars v _;
  m_structs = refl;
  m_constraints = refl;
  m_num = λ w e. ap (λ (o : Option ℕ). elim o [ None ↦ false | Some loc ↦ true ]) (set_field (λ (c : Cell). c.numeric) s.vars v _ w refl) ∙ e;
  m_most = λ f w. set_holds CellIn s.vars v _ w (f w) k;
}

pub need_set_num : (s : State) (v loc w : ℕ) → need_of (set_num_var s v loc) w ≡ need_of s w
unfolding set_num_var mark_chain
need_set_num s v loc w = go (taken s) s v
  where
    go : (n : ℕ) (s : State) (v : ℕ) → need_of (mark_chain n s v loc) w ≡ need_of s w
    go zero s v = refl
    go (suc n) s v = on (next_of s v) (λ next. go n (mark_one s v loc) next ∙ need_mark_one s v loc w)
      where
        on : (o : Option ℕ) → ((next : ℕ) → need_of (mark_chain n (mark_one s v loc) next loc) w ≡ need_of s w) → need_of (elim o [ None ↦ mark_one s v loc | Some next ↦ mark_chain n (mark_one s v loc) next loc ]) w ≡ need_of s w
        on None f = need_mark_one s v loc w
        on (Some next) f = f next

-- the variable itself is marked
pub num_set_self : (s : State) (v loc : ℕ) → v < taken s → is_num_var (set_num_var s v loc) v ≡ true
unfolding set_num_var mark_chain
num_set_self s v loc h = go (taken s) h
  where
    go : (n : ℕ) → v < n → is_num_var (mark_chain n s v loc) v ≡ true
    go zero i = absurd (omega arith)
    go (suc n) i = on (next_of s v)
      where
        on : (o : Option ℕ) → is_num_var (elim o [ None ↦ mark_one s v loc | Some next ↦ mark_chain n (mark_one s v loc) next loc ]) v ≡ true
        on None = num_mark_self s v loc h
        on (Some next) = (chain_marks n (mark_one s v loc) next loc).m_num v (num_mark_self s v loc h)

allowed_marked : (o : Option ℕ) (n : ℕ) → (elim o [ None ↦ false | Some loc ↦ true ]) ≡ true → leb n 256 ≡ true → need_allowed o n ≡ true
unfolding need_allowed
allowed_marked None n h k = absurd (clash h)
  where
    clash : false ≡ true → ⊥
    clash e = subst (λ (b : Bool). T b) (sym e) tt
allowed_marked (Some loc) n h k = k

pub allowed_of : (s : State) (v n : ℕ) → is_num_var s v ≡ true → leb n 256 ≡ true → need_allowed (num_loc s v) n ≡ true
unfolding is_num_var
allowed_of s v n h k = allowed_marked (num_loc s v) n h k

-- a mark with its need, on a variable that had none
pub literal_marks : (s : State) (v loc n : ℕ) → leb n 256 ≡ true → SameButMarks s (with_need (set_num_var s v loc) v n)
literal_marks s v loc n k = let m = num_marks s v loc in
    marks_trans m (need_marks (set_num_var s v loc) v n (λ h. allowed_of (set_num_var s v loc) v n (num_set_self s v loc (omega (arith, m.m_taken))) k))

pub merge_marks : (s : State) (a b : Option ℕ) (n f : ℕ) → leb n 256 ≡ true → SameButMarks s (merge_num s a b n f)
unfolding merge_num
merge_marks s a (Some l) n f k = literal_marks s f l n k
merge_marks s (Some l) None n f k = literal_marks s f l n k
merge_marks s None None n f k = marks_refl s

-- no other variable's need changes
pub literal_others : (s : State) (v loc n w : ℕ) → w ≢ v → need_of (with_need (set_num_var s v loc) v n) w ≡ need_of s w
unfolding need_of with_need with_vars
literal_others s v loc n w d = ap (λ (c : Cell). c.need) (get_or-set_other (set_num_var s v loc).vars v w _ unbound d) ∙ need_set_num s v loc w

pub merge_others : (s : State) (a b : Option ℕ) (n f w : ℕ) → w ≢ f → need_of (merge_num s a b n f) w ≡ need_of s w
unfolding merge_num
merge_others s a (Some l) n f w d = literal_others s f l n w d
merge_others s (Some l) None n f w d = literal_others s f l n w d
merge_others s None None n f w d = refl

-- of any need
literal_nodes : (s : State) (v loc n : ℕ) → SameNodes s (with_need (set_num_var s v loc) v n)
unfolding with_need
literal_nodes s v loc n =
    let m = (num_marks s v loc).m_nodes in
    let k = vars_nodes (set_num_var s v loc) _ in
    record { same_nodes = k.same_nodes ∙ m.same_nodes; same_args = k.same_args ∙ m.same_args }

pub merge_nodes : (s : State) (a b : Option ℕ) (n f : ℕ) → SameNodes s (merge_num s a b n f)
unfolding merge_num
merge_nodes s a (Some l) n f = literal_nodes s f l n
merge_nodes s (Some l) None n f = literal_nodes s f l n
merge_nodes s None None n f = (marks_refl s).m_nodes

-- ---- the larger need

-- it is one of the two
larger_one : (P : ℕ → Type 0) (a b : ℕ) → P a → P b → P (larger a b)
unfolding larger
larger_one P a b h k = go (leb a b)
  where
    go : (c : Bool) → P (if c then b else a)
    go true = k
    go false = h

pub larger_most : (a b : ℕ) → leb a 256 ≡ true → leb b 256 ≡ true → leb (larger a b) 256 ≡ true
larger_most a b h k = larger_one (λ n. leb n 256 ≡ true) a b h k

pub larger_least : (a b c : ℕ) → a ≤ c → b ≤ c → larger a b ≤ c
larger_least a b c h k = larger_one (λ n. n ≤ c) a b h k

pub larger_l : (a b : ℕ) → a ≤ larger a b
unfolding larger
larger_l a b = go (leb a b) refl
  where
    go : (c : Bool) → leb a b ≡ c → a ≤ (if c then b else a)
    go true e = leb→le a b (subst (λ (c : Bool). T c) (sym e) tt)
    go false e = omega arith

pub larger_r : (a b : ℕ) → b ≤ larger a b
unfolding larger
larger_r a b = go (leb a b) refl
  where
    clash : T (leb a b) → leb a b ≡ false → ⊥
    clash t e = subst (λ (c : Bool). T c) e t

    go : (c : Bool) → leb a b ≡ c → b ≤ (if c then b else a)
    go true e = omega arith
    go false e = elim (native.Mathlib.Decide.dec_lt a b) [ yes l ↦ absurd (clash (le→leb a b (omega arith)) e) | no l ↦ omega arith ]

-- ---- the need of a merge

larger_zero : larger 0 0 ≡ 0
unfolding larger
larger_zero = refl

pub larger_none : (a b : ℕ) → a ≡ 0 → b ≡ 0 → larger a b ≡ 0
larger_none a b d e = rw (d, e) larger_zero

need_set : (s : State) (v n : ℕ) → v < taken s → need_of (with_need s v n) v ≡ n
unfolding need_of with_need with_vars
need_set s v n h = ap (λ (c : Cell). c.need) (get_or-set_same s.vars v _ unbound h)

pub literal_need : (s : State) (v loc n : ℕ) → v < taken s → need_of (with_need (set_num_var s v loc) v n) v ≡ n
literal_need s v loc n h = need_set (set_num_var s v loc) v n (omega (arith, (num_marks s v loc).m_taken))

-- the fresh variable needs what the ends need
pub merge_need : (s s' : State) (e1 e2 f : ℕ) → NeedsIn s → f < taken s' → larger (need_of s e1) (need_of s e2) ≤ need_of (merge_num s' (num_loc s e1) (num_loc s e2) (larger (need_of s e1) (need_of s e2)) f) f
unfolding merge_num NeedsIn
merge_need s s' e1 e2 f h i = go (num_loc s e1) (num_loc s e2) refl refl
  where
    n : ℕ
    n = larger (need_of s e1) (need_of s e2)

    set : (loc : ℕ) → n ≤ need_of (with_need (set_num_var s' f loc) f n) f
    set loc = omega (arith, literal_need s' f loc n i)

    go : (a b : Option ℕ) → num_loc s e1 ≡ a → num_loc s e2 ≡ b → n ≤ need_of (merge_num s' a b n f) f
    go a (Some loc) d e = set loc
    go (Some loc) None d e = set loc
    go None None d e = omega (arith, larger_none (need_of s e1) (need_of s e2) (none_needs (num_loc s e1) (need_of s e1) d (h e1)) (none_needs (num_loc s e2) (need_of s e2) e (h e2)))

-- .. and no more
pub merge_at_most : (s : State) (a b : Option ℕ) (n f : ℕ) → f < taken s → need_of s f ≡ 0 → need_of (merge_num s a b n f) f ≤ n
unfolding merge_num
merge_at_most s a (Some l) n f h e = omega (arith, literal_need s f l n h)
merge_at_most s (Some l) None n f h e = omega (arith, literal_need s f l n h)
merge_at_most s None None n f h e = omega arith
