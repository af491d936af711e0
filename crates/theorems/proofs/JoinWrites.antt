-- A join's result is written in at least five bytes less than its two types are, so a JN or SU whose join succeeds answers 0, and a JL too. Assumes nothing.
-- First how many bytes a type is written in, by its node; then the arms of a join, each over an inner join whose result is so much shorter; then the induction on the depth.
use mathlib.Core.Path.{◌≡◌, refl, ap, ◌∙◌, subst}
use mathlib.Core.Bool.{Bool, true, not, ◌&&◌}
use mathlib.Core.List.{List, [], ◌∷◌}
use Rattle.std.specs.Prelude.{Option, None, Some}
use Prim.Native.Nat.{ℕ, zero, suc, ◌+◌, ◌≤◌, ◌<◌}
use native.Mathlib.Omega.{arith}
use lib.ListN.{length, length-append}
use lib.Dec.{eqb}
use Rattle.definition.specs.Types.{TypeName, Multiple, Builtin, ModuleType, AbilityMark, TypeValue, UnitType, Ref, Param, Apply, Var, Anything, UnresolvedError, State, Result, ok}
use Rattle.definition.specs.Store.{count, type_at, loc_of, sp}
use Rattle.definition.specs.Subst.{parts}
use Rattle.definition.specs.Join.{TypingCase, JoinImpl, join_impl_types, join_mut, join_loc, join_refs, same_name, same_mark, is_multiple, join_applies, join_arm, join_impl, Arm}
use Rattle.definition.specs.Write.{u16, u32, apply_head, head, each, write}
use Rattle.definition.specs.Sound.{sound}
use Rattle.theorems.proofs.Laws.{value_new, structs_node}
use Rattle.theorems.proofs.DemandTracks.{Tracks, t_any, t_var, t_fit, fits_solid_l, solid_var, any_var}
use Rattle.theorems.proofs.DemandOrder.{All, All_map, Sound, nodes_of}
use Rattle.theorems.proofs.DemandSteps.{quiet_node}
use Rattle.theorems.proofs.LawsPost.{Grown, grown_refl, Post, p_ok, p_err, p_refused, post_map, bind_post, if_post}
use Rattle.theorems.proofs.SoundRoom.{with_room, sp_room}
use Rattle.theorems.proofs.DemandCalls.{quiet_grown, Joined, Good}
use Rattle.theorems.proofs.DemandMain.{Took, took_any_l, took_any_r, took_units, took_refs, took_params, took_applies, took_vars, took_var_l, took_var_r, took_error_l, took_error_r, took_others, took, in_later, join_impl_good}
use Rattle.theorems.proofs.SoundFacts.{facts}
use Rattle.theorems.proofs.TotalFuel.{write_at}
use Rattle.theorems.proofs.MetSteps.{held_node}

-- ---- how many bytes a type is written in

unfoldable pub wrote : State → ℕ → ℕ
wrote S t = length (write S t)

unfoldable pub wrote_all : State → List ℕ → ℕ
wrote_all S [] = 0
wrote_all S (t ∷ ts) = wrote S t + wrote_all S ts

unfoldable pub name_size : TypeName → ℕ
name_size (Multiple n) = 7
name_size (Builtin b) = 7
name_size (ModuleType n) = 8

unfoldable pub head_size : TypeValue → ℕ
head_size UnitType = 5
head_size (Ref m t) = 6
head_size (Param id a) = 10
head_size (Apply k n tys) = name_size n
head_size (Var v) = 7
head_size Anything = 5
head_size UnresolvedError = 5

apply_length : (loc : ℕ) (k : AbilityMark) (n : TypeName) → length (apply_head loc k n) ≡ name_size n
unfolding apply_head u32 u16 name_size
apply_length loc k (Multiple n) = refl
apply_length loc k (Builtin b) = refl
apply_length loc k (ModuleType n) = refl

head_length : (loc : ℕ) (L : TypeValue) → length (head loc L) ≡ head_size L
unfolding head u32 u16 head_size
head_length loc UnitType = refl
head_length loc (Ref m t) = refl
head_length loc (Param id a) = refl
head_length loc (Apply k n tys) = apply_length loc k n
head_length loc (Var v) = refl
head_length loc Anything = refl
head_length loc UnresolvedError = refl

-- at least a tag and a location
name_least : (n : TypeName) → 5 ≤ name_size n
unfolding name_size
name_least (Multiple n) = omega arith
name_least (Builtin b) = omega arith
name_least (ModuleType n) = omega arith

head_least : (L : TypeValue) → 5 ≤ head_size L
unfolding head_size
head_least UnitType = omega arith
head_least (Ref m t) = omega arith
head_least (Param id a) = omega arith
head_least (Apply k n tys) = name_least n
head_least (Var v) = omega arith
head_least Anything = omega arith
head_least UnresolvedError = omega arith

each_length : (S : State) (ts : List ℕ) → length (each (λ p. write S p) ts) ≡ wrote_all S ts
unfolding each wrote wrote_all
each_length S [] = refl
each_length S (t ∷ ts) = length-append (write S t) (each (λ p. write S p) ts) ∙ ap (λ (n : ℕ). length (write S t) + n) (each_length S ts)

module _ {ar : TypeName → ℕ} {S : State} (s : Sound ar S) where
  pub wrote_is : (t : ℕ) → t < count S → wrote S t ≡ head_size (type_at S t) + wrote_all S (parts (type_at S t))
  unfolding wrote
  wrote_is t h =
      let a = head_length (loc_of S t) (type_at S t) in
      let b = each_length S (parts (type_at S t)) in
      ap length (write_at s t h) ∙ length-append (head (loc_of S t) (type_at S t)) (each (λ p. write S p) (parts (type_at S t))) ∙ rw (a, b) refl

  pub wrote_least : (t : ℕ) → t < count S → 5 ≤ wrote S t
  wrote_least t h = omega (arith, wrote_is t h, head_least (type_at S t))

  pub wrote_of : (t : ℕ) (L : TypeValue) → type_at S t ≡ L → t < count S → wrote S t ≡ head_size L + wrote_all S (parts L)
  wrote_of t L e h = rw e at (wrote_is t h)

  pub var_wrote : (t v : ℕ) → type_at S t ≡ Var v → t < count S → wrote S t ≡ 7
  unfolding parts wrote_all head_size
  var_wrote t v e h = wrote_of t (Var v) e h

  pub ref_wrote : (t : ℕ) (m : Bool) (p : ℕ) → type_at S t ≡ Ref m p → t < count S → wrote S t ≡ 6 + wrote S p
  unfolding parts wrote_all head_size
  ref_wrote t m p e h = omega (arith, wrote_of t (Ref m p) e h)

  pub apply_wrote : (t : ℕ) (k : AbilityMark) (n : TypeName) (ps : List ℕ) → type_at S t ≡ Apply k n ps → t < count S → wrote S t ≡ name_size n + wrote_all S ps
  unfolding parts head_size
  apply_wrote t k n ps e h = wrote_of t (Apply k n ps) e h

-- a type is written in as many bytes where there are more nodes
all_kept : (S S' : State) (P : ℕ → Type 0) → ((p : ℕ) → P p → wrote S' p ≡ wrote S p) → (ps : List ℕ) → All P ps → wrote_all S' ps ≡ wrote_all S ps
unfolding wrote_all
all_kept S S' P f [] a = refl
all_kept S S' P f (p ∷ ps) a = rw (f p a.0, all_kept S S' P f ps a.1) refl

module _ {ar : TypeName → ℕ} {S S' : State} (s : Sound ar S) (s' : Sound ar S') (g : Grown S S') where
  kept_below : (k t : ℕ) → t < k → t < count S → wrote S' t ≡ wrote S t
  kept_below zero t h i = absurd (omega arith)
  kept_below (suc k) t h i =
      let a = all_kept S S' (λ p. p < t) (λ p l. kept_below k p (omega arith) (omega arith)) (parts (type_at S t)) (s.parts_below t i) in
      omega (arith, a, wrote_is s t i, wrote_of s' t (type_at S t) (g.g_kept t i) (omega (arith, g.g_nodes)))

  pub wrote_kept : (t : ℕ) → t < count S → wrote S' t ≡ wrote S t
  wrote_kept t i = kept_below (suc t) t (omega arith) i

  pub wrote_all_kept : (ts : List ℕ) → All (λ t. t < count S) ts → wrote_all S' ts ≡ wrote_all S ts
  wrote_all_kept ts a = all_kept S S' (λ t. t < count S) (λ t i. wrote_kept t i) ts a

-- ---- results

pub post_both : {B : Type 0} {ar : TypeName → ℕ} {S : State} {P Q : State → B → Type 0} {m : Result (State × B)} → Post ar S P m → Post ar S Q m → Post ar S (λ s b. P s b × Q s b) m
post_both (p_ok g p) (p_ok h q) = p_ok g (p, q)
post_both (p_err g n) q = p_err g n
post_both p_refused q = p_refused

pub post_is : {B : Type 0} {ar : TypeName → ℕ} {S : State} {P : State → B → Type 0} {m : Result (State × B)} {s : State} {b : B} → Post ar S P m → m ≡ ok (s, b) → P s b
post_is {B} {ar} {S} {P} {s = s} {b = b} p e = go (subst (λ (y : Result (State × B)). Post ar S P y) e p)
  where
    go : Post ar S P (ok (s, b)) → P s b
    go (p_ok g q) = q

-- a new node, whatever its parts
pub sp_value : {ar : TypeName → ℕ} {S : State} → Sound ar S → (l : ℕ) (sh : TypeValue) → Post ar S (λ S' t. type_at S' t ≡ sh) (sp S l sh)
sp_value {ar} {S} s l sh = with_room (Post ar S (λ S' t. type_at S' t ≡ sh)) (sp_room S l sh) (λ e. p_ok (quiet_grown (quiet_node s l sh) (structs_node S l sh) (held_node s l sh)) (value_new S l sh)) p_refused

-- ---- the arms of a join

abbrev Narrow : State → ℕ → ℕ → State → ℕ → Type 0
Narrow S l r S' t = wrote S' t + 5 ≤ wrote S l + wrote S r

-- .. if what is left is sound and has t
abbrev NarrowIn : (TypeName → ℕ) → State → ℕ → ℕ → State → ℕ → Type 0
NarrowIn ar S l r S' t = Sound ar S' → t < count S' → Narrow S l r S' t

abbrev Slim : (TypeName → ℕ) → JoinImpl → Type 0
Slim ar join = (S : State) (c : TypingCase) (l r : ℕ) → Sound ar S → l < count S → r < count S → Post ar S (Narrow S l r) (join S c l r)

record SlimAll (ar : TypeName → ℕ) (S : State) (ls rs : List ℕ) (S' : State) (ts : List ℕ) : Type 0 where
  pub sound : Sound ar S'
  pub ts_in : All (λ t. t < count S') ts
  pub narrow : wrote_all S' ts ≤ wrote_all S ls + wrote_all S rs

tracks_var : {S : State} {x r v : ℕ} → Tracks S x r → type_at S x ≡ Var v → (w : ℕ) × (type_at S r ≡ Var w)
tracks_var (t_any e) d = any_var e d
tracks_var (t_var {w = w} ex er a b) d = (w, er)
tracks_var (t_fit r f) d = solid_var (fits_solid_l f) d

module _ {ar : TypeName → ℕ} (join : JoinImpl) (g : Good ar join) (w : Slim ar join) where
  types_slim : {S : State} → Sound ar S → (c : TypingCase) (ls rs : List ℕ) → All (λ p. p < count S) ls → All (λ p. p < count S) rs → Post ar S (SlimAll ar S ls rs) (join_impl_types join S c ls rs)
  unfolding join_impl_types wrote_all
  types_slim {S} s c [] rs al ar' = p_ok {b = []} (grown_refl S) (record { sound = s; ts_in = tt; narrow = omega arith })
  types_slim {S} s c (l ∷ ls) [] al ar' = p_ok {b = []} (grown_refl S) (record { sound = s; ts_in = tt; narrow = omega arith })
  types_slim {S} s c (l ∷ ls) (r ∷ rs) al ar' =
      bind_post _ (post_both (g S c l r s al.0 ar'.0) (w S c l r s al.0 ar'.0)) (λ S1 t g1 j.
      bind_post _ (types_slim j.0.sound c ls rs (in_later g1.g_nodes ls al.1) (in_later g1.g_nodes rs ar'.1)) (λ S2 ts g2 k.
      p_ok {b = t ∷ ts} (grown_refl S2) (record {
        sound = k.sound;
        ts_in = (omega (arith, j.0.t_in, g2.g_nodes), k.ts_in);
        narrow = omega (arith, j.1, k.narrow, wrote_kept j.0.sound k.sound g2 t j.0.t_in, wrote_all_kept s j.0.sound g1 ls al.1, wrote_all_kept s j.0.sound g1 rs ar'.1);
      })))

  module _ {S : State} (s : Sound ar S) (c : TypingCase) (l r : ℕ) (l_in : l < count S) (r_in : r < count S) where
    slim_right : Post ar S (NarrowIn ar S l r) (ok (S, r))
    slim_right = p_ok {b = r} (grown_refl S) (λ s' i. omega (arith, wrote_least s l l_in))

    slim_left : Post ar S (NarrowIn ar S l r) (ok (S, l))
    slim_left = p_ok {b = l} (grown_refl S) (λ s' i. omega (arith, wrote_least s r r_in))

    refs_slim : (m1 : Bool) (t1 : ℕ) (m2 : Bool) (t2 : ℕ) → type_at S l ≡ Ref m1 t1 → type_at S r ≡ Ref m2 t2 → (o : Option Bool) → Post ar S (NarrowIn ar S l r) (join_refs join S c l r m1 t1 m2 t2 o)
    unfolding join_refs parts
    refs_slim m1 t1 m2 t2 el er None = p_err (grown_refl S) (nodes_of s)
    refs_slim m1 t1 m2 t2 el er (Some m) =
        let b1 : t1 < l = (rw el at (s.parts_below l l_in)).0 in
        let b2 : t2 < r = (rw er at (s.parts_below r r_in)).0 in
        bind_post _ (post_both (g S c t1 t2 s (omega arith) (omega arith)) (w S c t1 t2 s (omega arith) (omega arith))) (λ S1 t g1 j.
        post_map (λ S2 n g2 e s2 i. omega (arith, j.1, ref_wrote s l m1 t1 el l_in, ref_wrote s r m2 t2 er r_in, ref_wrote s2 n m t e i, wrote_kept j.0.sound s2 g2 t j.0.t_in))
        (sp_value j.0.sound (join_loc c m1 m2 (loc_of S l) (loc_of S r)) (Ref m t)))

    applies_slim : (k1 : AbilityMark) (n1 : TypeName) (tys1 : List ℕ) (k2 : AbilityMark) (n2 : TypeName) (tys2 : List ℕ) → type_at S l ≡ Apply k1 n1 tys1 → type_at S r ≡ Apply k2 n2 tys2
        → Post ar S (NarrowIn ar S l r) (join_applies join S c l r k1 n1 tys1 k2 n2 tys2)
    unfolding join_applies parts
    applies_slim k1 n1 tys1 k2 n2 tys2 el er =
        if_post (is_multiple n1 && is_multiple n2 && not (same_name n1 n2)) (λ e. p_err (grown_refl S) (nodes_of s)) (λ e.
        if_post (not (same_name n1 n2)) (λ e. p_err (grown_refl S) (nodes_of s)) (λ en.
        if_post (not (same_mark k1 k2)) (λ e. p_refused) (λ ek.
        let b1 : All (λ p. p < l) tys1 = rw el at (s.parts_below l l_in) in
        let b2 : All (λ p. p < r) tys2 = rw er at (s.parts_below r r_in) in
        bind_post _ (types_slim s c tys1 tys2 (All_map (λ p h. omega arith) tys1 b1) (All_map (λ p h. omega arith) tys2 b2)) (λ S1 ts g1 j.
        post_map (λ S2 n g2 e s2 i. omega (arith, j.narrow, name_least n1, apply_wrote s l k1 n1 tys1 el l_in, apply_wrote s r k2 n2 tys2 er r_in, apply_wrote s2 n k2 n2 ts e i, wrote_all_kept j.sound s2 g2 ts j.ts_in))
        (sp_value j.sound (loc_of S r) (Apply k2 n2 ts))))))

    -- where a type is a variable, the result is one
    var_slim : {m : Result (State × ℕ)} (x v : ℕ) → x < count S → type_at S x ≡ Var v → wrote S x + 5 ≤ wrote S l + wrote S r
        → ((S' : State) (t : ℕ) → Joined ar S l r S' t → Tracks S' x t) → Post ar S (Joined ar S l r) m → Post ar S (NarrowIn ar S l r) m
    var_slim x v x_in e n f p = post_map (λ S' t g j s' i.
        let is = tracks_var (f S' t j) (g.g_kept x x_in ∙ e) in
        omega (arith, var_wrote s x v e x_in, var_wrote s' t is.0 is.1 i)) p

    arm_slim : {a : Arm} → Took (type_at S l) (type_at S r) a → Post ar S (Joined ar S l r) (join_arm join S c l r a) → Post ar S (NarrowIn ar S l r) (join_arm join S c l r a)
    unfolding join_arm
    arm_slim (took_any_l e) p = slim_right
    arm_slim (took_any_r e) p = slim_left
    arm_slim (took_units el er) p = slim_right
    arm_slim (took_refs {m1 = m1} {m2 = m2} {t1 = t1} {t2 = t2} el er) p = refs_slim m1 t1 m2 t2 el er (join_mut c m1 m2)
    arm_slim (took_params {id1 = id1} {id2 = id2} el er) p = if_post (eqb id1 id2) (λ e. slim_right) (λ e. p_err (grown_refl S) (nodes_of s))
    arm_slim (took_applies {k1 = k1} {k2 = k2} {n1 = n1} {n2 = n2} {tys1 = tys1} {tys2 = tys2} el er) p = applies_slim k1 n1 tys1 k2 n2 tys2 el er
    arm_slim (took_vars {id1 = id1} {id2 = id2} el er) p = var_slim l id1 l_in el (omega (arith, wrote_least s r r_in)) (λ S' t j. j.left) p
    arm_slim (took_var_l {id = id} el h) p = var_slim l id l_in el (omega (arith, wrote_least s r r_in)) (λ S' t j. j.left) p
    arm_slim (took_var_r {id = id} h er) p = var_slim r id r_in er (omega (arith, wrote_least s l l_in)) (λ S' t j. j.right) p
    arm_slim (took_error_l e h) p = slim_right
    arm_slim (took_error_r h e) p = slim_left
    arm_slim took_others p = p_err (grown_refl S) (nodes_of s)

-- ---- the main lemma

pub join_impl_slim : {ar : TypeName → ℕ} (depth : ℕ) → Slim ar (join_impl depth)
unfolding join_impl
join_impl_slim zero S c l r s l_in r_in = p_refused
join_impl_slim (suc depth) S c l r s l_in r_in =
    let p = join_impl_good (suc depth) S c l r s l_in r_in in
    post_map (λ S' t g x. x.1 x.0.sound x.0.t_in)
    (post_both p (arm_slim (λ s c l r. join_impl depth s c l r) (λ S c l r s l_in r_in. join_impl_good depth S c l r s l_in r_in) (λ S c l r s l_in r_in. join_impl_slim depth S c l r s l_in r_in) s c l r l_in r_in (took (type_at S l) (type_at S r)) p))

pub join_writes_no_more : (depth : ℕ) (s : State) (case : TypingCase) (lhs rhs : ℕ) → sound s ≡ true → lhs < count s → rhs < count s → (s' : State) (t : ℕ) → join_impl depth s case lhs rhs ≡ ok (s', t)
    → length (write s' t) + 5 ≤ length (write s lhs) + length (write s rhs)
unfolding wrote
join_writes_no_more depth s case lhs rhs h l_in r_in s' t e = post_is (join_impl_slim depth s case lhs rhs (facts s h) l_in r_in) e
