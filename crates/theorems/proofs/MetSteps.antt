-- What a numeric variable is bound to: a numeric variable that needs no less, `!`, or an integer type that has the bits. Assumes nothing.
-- `Held` says it of every variable of a state. Each step of a run but SN's keeps it: new nodes and variables, marks on an unbound variable, a binding that the numeric check passed, the two of a merge.
use mathlib.Core.Path.{◌≡◌, refl, sym, ap, ◌∙◌}
use mathlib.Core.Logic.{◌≢◌, ◌⊎◌, inl, inr}
use mathlib.Core.Bool.{Bool, true, false, not, ◌||◌}
use mathlib.Core.List.{List, [], ◌∷◌, Memᴰ}
use Rattle.std.specs.Prelude.{Option, None, Some}
use Prim.Native.Nat.{ℕ, zero, suc, ◌≤◌, ◌<◌}
use native.Mathlib.Decide.{ℕ_discrete}
use native.Mathlib.Omega.{arith}
use lib.Seq.{get_or-set_other}
use lib.Dec.{leb, eqb, leb→le, eqb→eq}
use Rattle.definition.specs.Types.{Multiple, Builtin, ModuleType, TypeValue, UnitType, Ref, Param, Apply, Var, Anything, UnresolvedError, Cell, unbound, State}
use Rattle.definition.specs.Store.{any_of, taken, type_at, get, num_loc, need_of, insert, with_need, with_vars, with_node, with_var}
use Rattle.definition.specs.Subst.{next_of, as_var, is_anything, mark_one, mark_chain, set_num_var}
use Rattle.definition.specs.Join.{integers, is_numeric, is_num_var, width, fits, num_shape, check_num_tvar', check_num_tvar, merge_num}
use Rattle.definition.specs.Demand.{FitsNeed, fits_error, fits_integer}
use Rattle.theorems.proofs.Laws.{SameButMarks, set_field, is_num_same, num_insert, need_insert, num_with_node, need_with_node, num_with_var, need_with_var, literal_need, need_set_num, num_set_self, num_marks, literal_marks, literal_others}
use Rattle.theorems.proofs.Laws.{value_old, get_with_node, get_with_var, with_var_nodes, value_same, get_insert_same, get_insert_other, value_insert, taken_insert}
use Rattle.theorems.proofs.LawsChains.{next_none}
use Rattle.theorems.proofs.DemandTracks.{never}
use Rattle.theorems.proofs.DemandOrder.{Sound}
use Rattle.theorems.proofs.SoundFacts.{and_l, and_r, test}
use Rattle.definition.specs.Types.{TypeName}

pub data Holds (S : State) (need : ℕ) : TypeValue → Type 0 where
  holds_var : {w : ℕ} → is_num_var S w ≡ true → need ≤ need_of S w → Holds S need (Var w)
  holds_fit : {T : TypeValue} → FitsNeed need T → Holds S need T

unfoldable pub Held : State → Type 0
Held S = (v t : ℕ) → is_num_var S v ≡ true → get S v ≡ Some t → Holds S (need_of S v) (type_at S t)

module _ (S S' : State) (num : (w : ℕ) → is_num_var S w ≡ true → is_num_var S' w ≡ true) (need : (w : ℕ) → is_num_var S w ≡ true → need_of S w ≤ need_of S' w) where
  holds_on : (n : ℕ) (T : TypeValue) → Holds S n T → Holds S' n T
  holds_on n T (holds_var {w = w} h l) = holds_var (num w h) (omega (arith, need w h))
  holds_on n T (holds_fit h) = holds_fit h

  -- each binding is a new one that is held, or an old one of a variable that was marked
  abbrev BoundBefore : ℕ → ℕ → Type 0
  BoundBefore v t = (is_num_var S v ≡ true) × (get S v ≡ Some t) × (need_of S' v ≡ need_of S v) × (type_at S' t ≡ type_at S t)

  held_on : ((v t : ℕ) → is_num_var S' v ≡ true → get S' v ≡ Some t → Holds S' (need_of S' v) (type_at S' t) ⊎ BoundBefore v t) → Held S → Held S'
  unfolding Held
  held_on k h v t n e = go (k v t n e)
    where
      go : Holds S' (need_of S' v) (type_at S' t) ⊎ BoundBefore v t → Holds S' (need_of S' v) (type_at S' t)
      go (inl p) = p
      go (inr (a, b, c, d)) = rw (c, d) (holds_on (need_of S v) (type_at S t) (h v t a b))

-- no variable needs anything
unfoldable pub NoNeeds : State → Type 0
NoNeeds S = (v : ℕ) → need_of S v ≡ 0

pub none_at : (S : State) → NoNeeds S → (v : ℕ) → need_of S v ≡ 0
unfolding NoNeeds
none_at S h v = h v

-- what a step keeps
pub record Keeps (S S' : State) : Type 0 where
  pub held : Held S → Held S'
  pub bare : NoNeeds S → NoNeeds S'

-- the two, by name
pub data Claim : Type 0 where
  is_held is_bare : Claim

unfoldable pub Claimed : Claim → State → Type 0
Claimed is_held S = Held S
Claimed is_bare S = NoNeeds S

pub keeps_claim : {S S' : State} → Keeps S S' → (q : Claim) → Claimed q S → Claimed q S'
unfolding Claimed
keeps_claim k is_held h = k.held h
keeps_claim k is_bare h = k.bare h

pub keeps_trans : {S S' S'' : State} → Keeps S S' → Keeps S' S'' → Keeps S S''
keeps_trans a b = record { held = λ h. b.held (a.held h); bare = λ h. b.bare (a.bare h) }

-- ---- nodes, variables, constraints: what a variable has stays

pub held_same : (S S' : State) → ((v t : ℕ) → get S v ≡ Some t → type_at S' t ≡ type_at S t) → ((v : ℕ) → get S' v ≡ get S v) → ((v : ℕ) → num_loc S' v ≡ num_loc S v) → ((v : ℕ) → need_of S' v ≡ need_of S v) → Keeps S S'
unfolding NoNeeds
held_same S S' kept g num need = record {
  bare = λ h v. need v ∙ h v;
  held = held_on S S' (λ w h. is_num_same S S' w (num w) ∙ h) (λ w h. omega (arith, need w))
      (λ v t n e. let d : get S v ≡ Some t = sym (g v) ∙ e in inr (sym (is_num_same S S' v (num v)) ∙ n, d, need v, kept v t d));
}

module _ {ar : TypeName → ℕ} {S : State} (s : Sound ar S) where
  pub held_node : (l : ℕ) (sh : TypeValue) → Keeps S (with_node S l sh)
  held_node l sh = held_same S (with_node S l sh) (λ v t e. value_old S l sh t (s.bind_in v t e) (s.places_in t (s.bind_in v t e))) (get_with_node S l sh) (num_with_node S l sh) (need_with_node S l sh)

  pub held_var : Keeps S (with_var S)
  held_var = held_same S (with_var S) (λ v t e. value_same (with_var_nodes S) t) (get_with_var S) (num_with_var S) (need_with_var S)

-- ---- a mark, with or without a need, on a variable without binding

module _ {S S' : State} (m : SameButMarks S S') (f : ℕ) (free : get S f ≡ None) (num : (w : ℕ) → w ≢ f → num_loc S' w ≡ num_loc S w) (need : (w : ℕ) → w ≢ f → need_of S' w ≡ need_of S w) (grows : need_of S f ≤ need_of S' f) where
  held_marks : Held S → Held S'
  held_marks = held_on S S' m.m_num (λ w h. elim (ℕ_discrete w f) [ yes d ↦ rw d grows | no d ↦ omega (arith, need w d) ])
      (λ v t n e.
      let b : get S v ≡ Some t = sym (m.m_get v) ∙ e in
      let d : v ≢ f = λ d. never (let c : get S f ≡ Some t = rw d at b in cc) in
      inr (sym (is_num_same S S' v (num v d)) ∙ n, b, need v d, value_same m.m_nodes t))

num_mark_other : (s : State) (f loc w : ℕ) → w ≢ f → num_loc (mark_one s f loc) w ≡ num_loc s w
unfolding num_loc mark_one with_vars
num_mark_other s f loc w d = ap (λ (c : Cell). c.numeric) (get_or-set_other s.vars f w _ unbound d)

-- it is the chain's end, so no other variable is marked
num_set_other : (s : State) (f loc w : ℕ) → get s f ≡ None → w ≢ f → num_loc (set_num_var s f loc) w ≡ num_loc s w
unfolding set_num_var mark_chain
num_set_other s f loc w g d = go (taken s)
  where
    go : (n : ℕ) → num_loc (mark_chain n s f loc) w ≡ num_loc s w
    go zero = refl
    go (suc n) = on (next_of s f) (next_none s f g)
      where
        on : (o : Option ℕ) → o ≡ None → num_loc (elim o [ None ↦ mark_one s f loc | Some next ↦ mark_chain n (mark_one s f loc) next loc ]) w ≡ num_loc s w
        on None e = num_mark_other s f loc w d
        on (Some next) e = never (cc)

num_with_need : (s : State) (f n w : ℕ) → num_loc (with_need s f n) w ≡ num_loc s w
unfolding num_loc with_need with_vars
num_with_need s f n w = set_field (λ (c : Cell). c.numeric) s.vars f _ w refl

pub held_num : (s : State) (f loc : ℕ) → get s f ≡ None → Keeps s (set_num_var s f loc)
unfolding NoNeeds
held_num s f loc g = record { bare = λ h v. need_set_num s f loc v ∙ h v; held = held_marks (num_marks s f loc) f g (λ w d. num_set_other s f loc w g d) (λ w d. need_set_num s f loc w) (omega (arith, need_set_num s f loc f)) }

pub bare_num : (s : State) (v loc : ℕ) → NoNeeds s → NoNeeds (set_num_var s v loc)
unfolding NoNeeds
bare_num s v loc h w = need_set_num s v loc w ∙ h w

pub num_literal_other : (s : State) (f loc n w : ℕ) → get s f ≡ None → w ≢ f → num_loc (with_need (set_num_var s f loc) f n) w ≡ num_loc s w
num_literal_other s f loc n w g d = num_with_need (set_num_var s f loc) f n w ∙ num_set_other s f loc w g d

pub held_literal : (s : State) (f loc n : ℕ) → get s f ≡ None → need_of s f ≡ 0 → leb n 256 ≡ true → Held s → Held (with_need (set_num_var s f loc) f n)
held_literal s f loc n g z k = held_marks (literal_marks s f loc n k) f g (λ w d. num_literal_other s f loc n w g d) (λ w d. literal_others s f loc n w d) (omega (arith, z))

bare_literal : (s : State) (f loc n : ℕ) → f < taken s → (NoNeeds s → n ≡ 0) → NoNeeds s → NoNeeds (with_need (set_num_var s f loc) f n)
unfolding NoNeeds
bare_literal s f loc n i y h w = elim (ℕ_discrete w f) [
  | yes d ↦ rw d (literal_need s f loc n i ∙ y h)
  | no d ↦ literal_others s f loc n w d ∙ h w
]

-- the fresh variable of a merge
pub held_merge : (s : State) (a b : Option ℕ) (n f : ℕ) → get s f ≡ None → need_of s f ≡ 0 → f < taken s → leb n 256 ≡ true → (NoNeeds s → n ≡ 0) → Keeps s (merge_num s a b n f)
unfolding merge_num
held_merge s a (Some l) n f g z i k y = record { held = held_literal s f l n g z k; bare = bare_literal s f l n i y }
held_merge s (Some l) None n f g z i k y = record { held = held_literal s f l n g z k; bare = bare_literal s f l n i y }
held_merge s None None n f g z i k y = record { held = λ h. h; bare = λ h. h }

pub num_merge_other : (s : State) (a b : Option ℕ) (n f w : ℕ) → get s f ≡ None → w ≢ f → num_loc (merge_num s a b n f) w ≡ num_loc s w
unfolding merge_num
num_merge_other s a (Some l) n f w g d = num_literal_other s f l n w g d
num_merge_other s (Some l) None n f w g d = num_literal_other s f l n w g d
num_merge_other s None None n f w g d = refl

-- .. is numeric if an end is
literal_numeric : (s : State) (f loc n : ℕ) → f < taken s → is_num_var (with_need (set_num_var s f loc) f n) f ≡ true
literal_numeric s f loc n h = is_num_same (set_num_var s f loc) (with_need (set_num_var s f loc) f n) f (num_with_need (set_num_var s f loc) f n f) ∙ num_set_self s f loc h

pub merge_numeric_1 : (s : State) (a b : Option ℕ) (n f : ℕ) → f < taken s → (elim a [ None ↦ false | Some loc ↦ true ]) ≡ true → is_num_var (merge_num s a b n f) f ≡ true
unfolding merge_num
merge_numeric_1 s a (Some l) n f h e = literal_numeric s f l n h
merge_numeric_1 s (Some l) None n f h e = literal_numeric s f l n h
merge_numeric_1 s None None n f h e = never (cc)

pub merge_numeric_2 : (s : State) (a b : Option ℕ) (n f : ℕ) → f < taken s → (elim b [ None ↦ false | Some loc ↦ true ]) ≡ true → is_num_var (merge_num s a b n f) f ≡ true
unfolding merge_num
merge_numeric_2 s a (Some l) n f h e = literal_numeric s f l n h
merge_numeric_2 s (Some l) None n f h e = never (cc)
merge_numeric_2 s None None n f h e = never (cc)

-- ---- bindings

pub held_insert : (S : State) (v t : ℕ) → v < taken S → (is_num_var S v ≡ true → Holds S (need_of S v) (type_at S t)) → Keeps S (insert S v t)
unfolding NoNeeds
held_insert S v t i p = record {
  bare = λ h w. need_insert S v t w ∙ h w;
  held = held_on S (insert S v t) num need (λ w u n e. elim (ℕ_discrete w v) [
    | yes d ↦ inl (here w u n e d)
    | no d ↦ inr (sym (is_num_same S (insert S v t) w (num_insert S v t w)) ∙ n, sym (get_insert_other S v t w d) ∙ e, need_insert S v t w, value_insert S v t u)
  ]);
}
  where
    num : (w : ℕ) → is_num_var S w ≡ true → is_num_var (insert S v t) w ≡ true
    num w h = is_num_same S (insert S v t) w (num_insert S v t w) ∙ h

    need : (w : ℕ) → is_num_var S w ≡ true → need_of S w ≤ need_of (insert S v t) w
    need w h = omega (arith, need_insert S v t w)

    here : (w u : ℕ) → is_num_var (insert S v t) w ≡ true → get (insert S v t) w ≡ Some u → w ≡ v → Holds (insert S v t) (need_of (insert S v t) w) (type_at (insert S v t) u)
    here w u n e d =
        let a : get (insert S v t) v ≡ Some u = rw d at e in
        let b = get_insert_same S v t i in
        let c : u ≡ t = cc in
        let k : is_num_var S v ≡ true = sym (is_num_same S (insert S v t) v (num_insert S v t v)) ∙ (rw d at n) in
        rw (need_insert S v t w, value_insert S v t u, c, d) (holds_on S (insert S v t) num need (need_of S v) (type_at S t) (p k))

-- both ends of a merge, to the fresh variable
pub held_tie : (S : State) (e1 n1 e2 n2 f : ℕ) → e1 < taken S → e2 < taken S → type_at S n1 ≡ Var f → type_at S n2 ≡ Var f → (is_num_var S e1 ≡ true → is_num_var S f ≡ true) → (is_num_var S e2 ≡ true → is_num_var S f ≡ true)
    → need_of S e1 ≤ need_of S f → need_of S e2 ≤ need_of S f → Keeps S (insert (insert S e1 n1) e2 n2)
held_tie S e1 n1 e2 n2 f i j a b num1 num2 need1 need2 =
    let S' = insert S e1 n1 in
    keeps_trans (held_insert S e1 n1 i (λ k. rw a (holds_var (num1 k) need1)))
    (held_insert S' e2 n2 (omega (arith, taken_insert S e1 n1)) (λ k. rw (value_insert S e1 n1 n2, b) (
    holds_var (is_num_same S S' f (num_insert S e1 n1 f) ∙ num2 (sym (is_num_same S S' e2 (num_insert S e1 n1 e2)) ∙ k)) (omega (arith, need_insert S e1 n1 e2, need_insert S e1 n1 f)))))

-- ---- the numeric check

member : (b : ℕ) (l : List ℕ) → any_of (λ i. eqb b i) l ≡ true → Memᴰ b l
unfolding any_of
member b [] h = never (cc)
member b (x ∷ l) h = go (eqb b x) refl h (λ k. member b l k)
  where
    go : (c : Bool) → eqb b x ≡ c → (elim c [ true ↦ true | false ↦ any_of (λ i. eqb b i) l ]) ≡ true → (any_of (λ i. eqb b i) l ≡ true → Memᴰ b l) → Memᴰ b (x ∷ l)
    go true e k f = Memᴰ.head (eqb→eq b x (test e))
    go false e k f = Memᴰ.tail (f k)

pub numeric_member : (b : ℕ) → is_numeric (Builtin b) ≡ true → Memᴰ b integers
unfolding is_numeric
numeric_member b h = member b integers h

-- a builtin that the check takes
pub fits_parts : (need b : ℕ) → fits need (Builtin b) ≡ true → (is_numeric (Builtin b) ≡ true) × (need ≤ width b)
unfolding fits
fits_parts need b h = (and_l (is_numeric (Builtin b)) _ h, leb→le need (width b) (test (and_r (is_numeric (Builtin b)) _ h)))

fits_shape : (n : ℕ) (T : TypeValue) → num_shape n T ≡ true → is_anything T ≡ false → FitsNeed n T
unfolding num_shape is_anything fits is_numeric
fits_shape n UnitType h a = never (cc)
fits_shape n (Ref m t) h a = never (cc)
fits_shape n (Param id s) h a = never (cc)
fits_shape n (Apply k (Builtin b) tys) h a = let p = fits_parts n b h in fits_integer (numeric_member b p.0) p.1
fits_shape n (Apply k (Multiple len) tys) h a = never (cc)
fits_shape n (Apply k (ModuleType m) tys) h a = never (cc)
fits_shape n (Var v) h a = never (cc)
fits_shape n Anything h a = never (cc)
fits_shape n UnresolvedError h a = fits_error

-- what join_bind_tvar binds
pub held_bind : (S : State) (v ty : ℕ) → v < taken S → as_var (type_at S ty) ≡ None → is_anything (type_at S ty) ≡ false → check_num_tvar S v ty ≡ true → Keeps S (insert S v ty)
unfolding check_num_tvar check_num_tvar'
held_bind S v ty i e a c = held_insert S v ty i (λ n.
    let k : check_num_tvar' S (need_of S v) ty ≡ true = unnot (is_num_var S v) (check_num_tvar' S (need_of S v) ty) n c in
    holds_fit (fits_shape (need_of S v) (type_at S ty) (rw (e, check_num_tvar') at k) a))
  where
    unnot : (b x : Bool) → b ≡ true → not b || x ≡ true → x ≡ true
    unnot true x e h = h
    unnot false x e h = never (cc)
