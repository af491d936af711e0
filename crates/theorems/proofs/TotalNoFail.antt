-- The joins of solve_constraints give none of 1 to 4: core.rs unwraps them. No variable comes to reach itself by them, and one alone of the old ones is bound. Assumes nothing.
-- First an integer type, which any open variable takes; then the merge with a variable bound to it; then the list of numeric variables. `Sure`: no error is met, and a success has what is claimed.
use mathlib.Core.Path.{◌≡◌, refl, sym, ◌∙◌, subst, ap}
use mathlib.Core.Logic.{◌≢◌, ◌⊎◌, inl, inr}
use mathlib.Core.Bool.{Bool, true, false, not, ◌||◌}
use mathlib.Core.List.{List, [], ◌∷◌}
use Rattle.std.specs.Prelude.{Option, None, Some, if◌then◌else◌}
use Prim.Native.Nat.{ℕ, suc, ◌+◌, ◌*◌, ◌<◌, ◌≤◌}
use native.Mathlib.Omega.{arith}
use lib.ListN.{length}
use Rattle.definition.specs.Types.{TypeName, TypeValue, UnitType, Ref, Param, Apply, Var, Anything, UnresolvedError, State, max_depth, Refusal, Result, ok, refused, ◌>>=◌, Builtin}
use Rattle.definition.specs.Store.{count, taken, type_at, loc_of, spanned, get, num_loc, insert, args_of, sp, next_tvar, any_of, need_of}
use Rattle.definition.specs.Subst.{as_var, is_anything, parts, forward_tvar, unfold_var, unfold_type}
use Rattle.definition.specs.Join.{integers, TypingCase, Join, is_numeric, is_num_var, num_shape, check_num_tvar', check_num_tvar, is_var, used, join_bind_tvar, type_of, join_tvar, arm, join_unbound, join_arm, join_impl, join, width, fits, larger, merge_num}
use Rattle.definition.specs.Abilities.{primitives}
use Rattle.definition.specs.Constraints.{num_vars, undecided, default_num_var, default_num_vars, solve_constraints, default_builtin, default_integer, default_of}
use Rattle.definition.specs.Sound.{sound}
use Rattle.theorems.proofs.SolveInTurn.{solve_cases}
use Rattle.theorems.proofs.SoundFacts.{facts}
use Rattle.theorems.proofs.Laws.{get_beyond, get_insert_same, get_insert_other, value_insert, taken_insert, merge_at_most, larger_least, needs_most, need_insert}
use Rattle.theorems.proofs.LawsChains.{next_none, next_some, ends_same}
use Rattle.theorems.proofs.DemandTracks.{never, here, ends_stop, ends_det, solid}
use Rattle.theorems.proofs.DemandMerge.{Ready, tied, val, tkn, get_rest, sound_tied, need_tied}
use Rattle.theorems.proofs.DemandCalm.{Calm, calm_refl, calm_trans, calm_same, calm_insert, calm_tied, Dead, dead_leaf}
use Rattle.theorems.proofs.DemandOrder.{Sound, chain, ends_in}
use Rattle.theorems.proofs.DemandSteps.{Quiet, quiet_refl, quiet_trans, quiet_bind, sound_bind}
use Rattle.theorems.proofs.TotalTakes.{Takes, TakesAnd, takes_ok, takes_full, took_none, took_insert, took_marks, took_trans, takes_from, takes_more, takes_map, takes_eq, takes_bind, takes_post, sp_takes, next_takes, type_of_takes}
use Rattle.theorems.proofs.LawsPost.{grown_refl, Post, p_ok, post_map}
use Rattle.theorems.proofs.DemandCalls.{NewNode, sp_post, next_tvar_post, var_ok, marks_alone, quiet_marked, sound_marked, marked_in, ready_of}
use Rattle.theorems.proofs.DemandWent.{Went, any_ok, PostS, ps_ok}
use Rattle.theorems.proofs.DemandRecords.{NoErr, no_ok, no_refused, no_bind}
use Rattle.theorems.proofs.MetSteps.{fits_parts}
use Rattle.theorems.proofs.DemandRuns.{Declared, declared_on, Below, below_on, num_vars_below, default_went, default_ok}
use lib.Dec.{leb}
use Rattle.theorems.proofs.Soundness.{and, le_test}

-- no error is met, and a success has P
pub data Sure {A : Type 0} (P : A → Type 0) : Result A → Type 0 where
  sure_ok : {a : A} → P a → Sure P (ok a)
  sure_refused : {x : Refusal} → Sure P (refused x)

pub sure_no : {A : Type 0} {P : A → Type 0} {m : Result A} → Sure P m → NoErr m
sure_no (sure_ok p) = no_ok
sure_no sure_refused = no_refused

pub sure_is : {A : Type 0} {P : A → Type 0} {m : Result A} {a : A} → Sure P m → m ≡ ok a → P a
sure_is {P = P} (sure_ok {a = b} p) e = subst P (cc) p
sure_is sure_refused e = never (cc)

pub sure_map : {A : Type 0} {P Q : A → Type 0} {m : Result A} → ((a : A) → P a → Q a) → Sure P m → Sure Q m
sure_map f (sure_ok {a = a} p) = sure_ok (f a p)
sure_map f sure_refused = sure_refused

pub sure_bind : {A B : Type 0} {P : A → Type 0} {Q : B → Type 0} {m : Result A} (f : A → Result B) → Sure P m → ((a : A) → P a → Sure Q (f a)) → Sure Q (m >>= f)
unfolding ◌>>=◌
sure_bind f (sure_ok {a = a} p) h = h a p
sure_bind f sure_refused h = sure_refused

pub takes_sure : {A : Type 0} {S : State} {n v : ℕ} {after : A → State} {P : A → Type 0} {m : Result A} → Takes S n v after P m → Sure P m
takes_sure (takes_ok t p) = sure_ok p
takes_sure (takes_full f) = sure_refused

pub sure_eq : {A C : Type 0} {Q : C → Type 0} {m : Result A} (a : A) (f : A → Result C) → m ≡ ok a → Sure Q (f a) → Sure Q (m >>= f)
unfolding ◌>>=◌
sure_eq a f e h = rw e h

takes_none : {A : Type 0} {S : State} {n v : ℕ} {after : A → State} {Q : A → Type 0} (o : Option ℕ) {x : Result A} (f : ℕ → Result A) → o ≡ None → Takes S n v after Q x → Takes {A = A} S n v after Q (elim o [ None ↦ x | Some t ↦ f t ])
takes_none None f e h = h
takes_none (Some t) f e h = never (cc)

pub sure_none : {A : Type 0} {Q : A → Type 0} (o : Option ℕ) {x : Result A} (f : ℕ → Result A) → o ≡ None → Sure Q x → Sure {A = A} Q (elim o [ None ↦ x | Some t ↦ f t ])
sure_none None f e h = h
sure_none (Some t) f e h = never (cc)

-- no variable comes to reach itself; of the variables of S, only e has another binding in S'
pub record CalmAt (S : State) (e : ℕ) (S' : State) : Type 0 where
  pub calm : Calm S S'
  pub only : (x : ℕ) → x < taken S → x ≢ e → get S' x ≡ get S x

-- ---- an integer type

-- an integer type, with the mark that SV gives it
abbrev pub integer : ℕ → TypeValue
integer b = Apply (Some 7) (Builtin b) []

-- the builtin b is an integer type with so many bits
abbrev pub HasBits : ℕ → ℕ → Type 0
HasBits b need = fits need (Builtin b) ≡ true

pub fits_from : (need b : ℕ) → is_numeric (Builtin b) ≡ true → need ≤ width b → HasBits b need
unfolding fits
fits_from need b n l = and n (le_test need (width b) l)

pub bits_fewer : (b m n : ℕ) → m ≤ n → HasBits b n → HasBits b m
bits_fewer b m n l h = let p = fits_parts n b h in fits_from m b p.0 (omega (arith, p.1))

-- SV's choice has the bits that are needed, up to 256
pub default_has : (need : ℕ) → leb need 256 ≡ true → HasBits (default_builtin need) need
unfolding default_builtin fits is_numeric any_of integers width
default_has need h = go (leb need 64) refl (leb need 128) refl
  where
    go : (a : Bool) → leb need 64 ≡ a → (b : Bool) → leb need 128 ≡ b → fits need (Builtin (if a then 3 else if b then 4 else 9)) ≡ true
    go true e b d = e
    go false e true d = d
    go false e false d = h

-- a variable that needs no more takes it
num_int : (S : State) (need l b : ℕ) → type_at S l ≡ integer b → HasBits b need → check_num_tvar' S need l ≡ true
unfolding check_num_tvar' as_var num_shape
num_int S need l b e f = rw (e, check_num_tvar') (rw e f)

num_ok : (S : State) (v l b : ℕ) → type_at S l ≡ integer b → HasBits b (need_of S v) → check_num_tvar S v l ≡ true
unfolding check_num_tvar
num_ok S v l b e f = rw (num_int S (need_of S v) l b e f) (go (is_num_var S v))
  where
    go : (b : Bool) → not b || true ≡ true
    go true = refl
    go false = refl

used_no : (S : State) (v l b : ℕ) → type_at S l ≡ integer b → used (suc l) S v l ≡ false
unfolding used as_var is_var any_of parts
used_no S v l b e = rw e refl

bind_ok : (S : State) (loc v l b : ℕ) → type_at S l ≡ integer b → HasBits b (need_of S v) → join_bind_tvar S loc v l ≡ ok (insert S v l, true)
unfolding join_bind_tvar is_anything
bind_ok S loc v l b e f = rw (num_ok S v l b e f, used_no S v l b e, e) refl

-- it leads to no variable
dead_int : (S : State) (L : TypeValue) (b : ℕ) → L ≡ integer b → Dead S L
unfolding as_var parts
dead_int S L b e = rw e (dead_leaf S (integer b) refl refl)

Open : State → ℕ → Type 0
Open S t = (type_at S t ≡ Anything) ⊎ (type_at S t ≡ UnresolvedError)

-- with an open type it is itself the join
join_open : (n : ℕ) (S : State) (l t b : ℕ) → type_at S l ≡ integer b → Open S t → join_impl (suc n) S Join l t ≡ ok (S, l)
unfolding join_impl join_arm arm Open
join_open n S l t b e (inl d) = rw (e, d) refl
join_open n S l t b e (inr d) = rw (e, d) refl

-- ---- the merge with a variable that is bound to it

-- what the chain end e is bound to, if anything, is `!`
OpenEnd : State → ℕ → Type 0
OpenEnd S e = (get S e ≡ None) ⊎ ((t : ℕ) × (get S e ≡ Some t) × (type_at S t ≡ UnresolvedError))

record OpenType (ar : TypeName → ℕ) (S S' : State) (t : ℕ) : Type 0 where
  sound : Sound ar S'
  quiet : Quiet S S'
  same_vars : taken S' ≡ taken S
  t_in : t < count S'
  is_open : Open S' t
  same_get : (v : ℕ) → get S' v ≡ get S v

open_type : {ar : TypeName → ℕ} {S : State} → Sound ar S → (loc e : ℕ) → OpenEnd S e → Post ar S (OpenType ar S) (type_of S loc e)
unfolding type_of Open OpenEnd
open_type s loc e (inl g) = rw (g, type_of) (post_map (λ S' t w p. record { sound = p.sound; quiet = p.quiet; same_vars = p.same_vars; t_in = p.t_in; is_open = inl p.is; same_get = p.same_get }) (sp_post s loc Anything any_ok))
open_type {S = S} s loc e (inr (t, g, d)) = rw (g, type_of) (p_ok (grown_refl S) (record { sound = s; quiet = quiet_refl S; same_vars = refl; t_in = s.bind_in e t g; is_open = inr d; same_get = λ v. refl }))

abbrev J : ℕ → State → TypingCase → ℕ → ℕ → Result (State × ℕ)
J n = λ s c l r. join_impl (suc n) s c l r

open_on : (S S' : State) (t : ℕ) → Open S t → type_at S' t ≡ type_at S t → Open S' t
unfolding Open
open_on S S' t (inl e) d = inl (d ∙ e)
open_on S S' t (inr e) d = inr (d ∙ e)

type_bound : (S : State) (loc e v l : ℕ) → e ≡ v → get S v ≡ Some l → type_of S loc e ≡ ok (S, l)
unfolding type_of
type_bound S loc e v l d g = rw (d, g, type_of) refl

merge_takes : {ar : TypeName → ℕ} {S : State} (n : ℕ) → Sound ar S → (loc1 new loc2 v l k : ℕ) → new < taken S → v < taken S → get S new ≡ Some l → need_of S new ≡ 0 → type_at S l ≡ integer k → HasBits k (need_of S (forward_tvar S v)) → OpenEnd S (forward_tvar S v)
    → TakesAnd S 3 1 (λ s t. Calm S s × ((w : ℕ) → w < taken S → w ≢ new → w ≢ forward_tvar S v → get s w ≡ get S w)) (join_tvar (J n) S Join loc1 new loc2 v)
unfolding join_tvar as_var args_of ◌>>=◌
merge_takes {ar} {S} n s loc1 new loc2 v l k i j g bare u fit op =
    let e1 = forward_tvar S new in
    let e2 = forward_tvar S v in
    let l_in = s.bind_in new l g in
    let same1 : e1 ≡ new = ends_det (chain s new i) (here (next_some S new l g ∙ rw u refl)) in
    let type1 : type_of S loc1 e1 ≡ ok (S, l) = type_bound S loc1 e1 new l same1 g in
    rw type1 (
    takes_post 2 1 _ (type_of_takes S loc2 e2) (open_type s loc2 e2 op) (λ Sb T2 gb b.
    takes_post 2 0 _ (next_takes Sb) (next_tvar_post b.sound) (λ Sc f gc w.
    let need = larger (need_of S e1) (need_of S e2) in
    let m = marks_alone s e1 e2 w in
    let most : need_of (merge_num Sc (num_loc S e1) (num_loc S e2) need f) f ≤ need_of S e2 = omega (
      arith,
      merge_at_most Sc (num_loc S e1) (num_loc S e2) need f w.f_in w.no_need,
      larger_least (need_of S e1) (need_of S e2) (need_of S e2) (omega (arith, bare, ap (need_of S) same1)) (omega arith),
    ) in
    takes_from (took_marks m) (
    takes_post 1 0 _ (sp_takes _ loc1 (Var f) refl) (sp_post (sound_marked s e1 e2 w) loc1 (Var f) (var_ok f (marked_in s e1 e2 w))) (λ Sd n1 gd p.
    takes_post 0 0 _ (sp_takes Sd loc2 (Var f) refl) (sp_post p.sound loc2 (Var f) (var_ok f (omega (arith, w.f_in, m.m_taken, p.same_vars)))) (λ Se n2 ge q.
    let qb : Quiet Sb Se = quiet_trans (quiet_marked s e1 e2 w) (quiet_trans p.quiet q.quiet) in
    let y : Ready ar S Se e1 e2 f n1 n2 = ready_of s e1 e2 w b.quiet p q (ends_stop (chain s new i)) (ends_stop (chain s v j)) (ends_in s i (chain s new i)) (ends_in s j (chain s v j)) in
    let same : (x : ℕ) → get Se x ≡ get S x = λ x. q.same_get x ∙ p.same_get x ∙ m.m_get x ∙ w.same_get x ∙ b.same_get x in
    let vl : type_at (tied y) l ≡ integer k = val y l ∙ y.quiet.q_kept l l_in ∙ u in
    let vo : Open (tied y) T2 = open_on Sb (tied y) T2 b.is_open (val y T2 ∙ qb.q_kept T2 b.t_in) in
    let gf : get (tied y) f ≡ None = get_rest y f (λ d. omega (arith, y.in1, y.new)) (λ d. omega (arith, y.in2, y.new)) ∙ same f ∙ get_beyond S f y.new in
    let f_in : f < taken (tied y) = omega (arith, tkn y, y.f_in) in
    let c : Calm S (insert (tied y) f l) =
    calm_trans (calm_same s Se y.quiet.q_kept same) (calm_trans (calm_tied y gf) (calm_insert (sound_tied y) f l f_in (dead_int (insert (tied y) f l) (type_at (tied y) l) k vl))) in
    let only : (x : ℕ) → x < taken S → x ≢ new → x ≢ e2 → get (insert (tied y) f l) x ≡ get S x =
    λ x h a d. get_insert_other (tied y) f l x (λ k. omega (arith, y.new)) ∙ get_rest y x (λ k. a (k ∙ same1)) d ∙ same x in
    let has : HasBits k (need_of (tied y) f) = bits_fewer k (need_of (tied y) f) (need_of S e2) (omega (arith, need_tied y f, p.same_need f, q.same_need f, most)) fit in
    takes_eq _ _ (join_open n (tied y) l T2 k vl vo) (takes_none (get (tied y) f) _ gf (takes_eq _ _ (bind_ok (tied y) loc2 f l k vl has)
    (takes_ok (took_trans (took_insert Se e1 n1) (took_trans (took_insert (insert Se e1 n1) e2 n2) (took_insert (tied y) f l))) (c, only))))))))))

-- ---- solve_constraints

-- a variable that unfolds to `_` or `!` has an open end
unfold_open : {ar : TypeName → ℕ} (S : State) → Sound ar S → (v loc : ℕ) → undecided (unfold_type S (record { loc = loc; value = Var v })).value ≡ true → OpenEnd S (forward_tvar S v)
unfolding unfold_type unfold_var as_var OpenEnd undecided is_anything spanned
unfold_open S s v loc e = go (get S (forward_tvar S v)) refl e
  where
    shape : (t : ℕ) → get S (forward_tvar S v) ≡ Some t → (x : TypeValue) → type_at S t ≡ x → undecided x ≡ true → type_at S t ≡ UnresolvedError
    shape t g UnitType d u = never (cc)
    shape t g (Ref m p) d u = never (cc)
    shape t g (Param id a) d u = never (cc)
    shape t g (Apply k n ts) d u = never (cc)
    shape t g (Var w) d u = never (cc)
    shape t g Anything d u = never (let z : true ≡ false = rw d at (s.bind_known (forward_tvar S v) t g) in cc)
    shape t g UnresolvedError d u = d

    go : (o : Option ℕ) → get S (forward_tvar S v) ≡ o → undecided (unfold_var S loc o).value ≡ true → (get S (forward_tvar S v) ≡ None) ⊎ ((t : ℕ) × (get S (forward_tvar S v) ≡ Some t) × (type_at S t ≡ UnresolvedError))
    go None g u = inl g
    go (Some t) g u = inr (t, g, shape t g (type_at S t) refl u)

-- it stays open as long as the chain and the end's binding stay
open_end_on : (S S' : State) (e : ℕ) → OpenEnd S e → get S' e ≡ get S e → ((t : ℕ) → get S e ≡ Some t → type_at S' t ≡ type_at S t) → OpenEnd S' e
unfolding OpenEnd
open_end_on S S' e (inl g) d k = inl (d ∙ g)
open_end_on S S' e (inr (t, g, u)) d k = inr (t, d ∙ g, k t g ∙ u)

join_takes : {ar : TypeName → ℕ} {S : State} (n : ℕ) → Sound ar S → (l r v k : ℕ) → l < count S → type_at S l ≡ integer k → type_at S r ≡ Var v → v < taken S → HasBits k (need_of S (forward_tvar S v)) → OpenEnd S (forward_tvar S v)
    → TakesAnd S 3 2 (λ s t. CalmAt S (forward_tvar S v) s) (join_impl (suc (suc n)) S Join l r)
unfolding join_impl join_arm arm join_unbound
join_takes {ar} {S} n s l r v k l_in u w v_in fit op = rw (u, w) (go (get S v) refl)
  where
    hard : solid (type_at S l) ≡ true
    hard = rw u refl

    go : (o : Option ℕ) → get S v ≡ o → TakesAnd {B = ℕ} S 3 2 (λ s t. CalmAt S (forward_tvar S v) s) (elim o [
      | None ↦ join_unbound S l r r v l
      | Some t ↦ next_tvar S >>= (λ (x : State × ℕ). join_tvar (J n) (insert x.0 x.1 l) Join (loc_of x.0 l) x.1 (loc_of x.0 r) v)
    ])
    go None g = takes_eq _ _ (bind_ok S (loc_of S r) v l k u (subst (λ (x : ℕ). HasBits k (need_of S x)) (ends_det (chain s v v_in) (here (next_none S v g))) fit)) (takes_ok (took_trans (took_insert S v l) (took_none (insert S v l) 3 2)) (record {
      calm = calm_insert s v l v_in (dead_int (insert S v l) (type_at S l) k u);
      only = λ x h a. get_insert_other S v l x (λ d. a (d ∙ sym (ends_det (chain s v v_in) (here (next_none S v g)))));
    }))
    go (Some t) g = takes_post 3 1 _ (next_takes S) (next_tvar_post s) (λ S1 f g1 p.
        let l1 : l < count S1 = omega (arith, p.quiet.q_nodes) in
        let h1 : solid (type_at S1 l) ≡ true = rw (p.quiet.q_kept l l_in) hard in
        let u1 : type_at S1 l ≡ integer k = p.quiet.q_kept l l_in ∙ u in
        let q2 = quiet_bind p.sound f l p.free p.f_in l1 h1 in
        let s2 = sound_bind p.sound f l p.free p.f_in l1 h1 in
        let c : Calm S (insert S1 f l) = calm_trans (calm_same s S1 p.quiet.q_kept p.same_get) (calm_insert p.sound f l p.f_in (dead_int (insert S1 f l) (type_at S1 l) k u1)) in
        let q : Quiet S (insert S1 f l) = quiet_trans p.quiet q2 in
        let e = forward_tvar S v in
        let e_in : e < taken S = ends_in s v_in (chain s v v_in) in
        let same : forward_tvar (insert S1 f l) v ≡ e = ends_det (chain s2 v (omega (arith, q.q_vars))) (ends_same q.q_next (chain s v v_in)) in
        takes_from (took_insert S1 f l) (takes_map (λ a d. record {
          calm = calm_trans c d.0;
          only = λ x h k. d.1 x (omega (arith, q.q_vars)) (λ y. omega (arith, p.is)) (λ y. k (y ∙ same)) ∙ get_insert_other S1 f l x (λ y. omega (arith, p.is)) ∙ p.same_get x;
        }) (
        merge_takes n s2 (loc_of S1 l) f (loc_of S1 r) v l k (omega (arith, p.f_in, taken_insert S1 f l)) (omega (arith, q.q_vars))
        (get_insert_same S1 f l p.f_in) (need_insert S1 f l f ∙ p.no_need) (value_insert S1 f l l ∙ u1)
        (subst (λ (x : ℕ). HasBits k x) (sym (ap (need_of (insert S1 f l)) same ∙ need_insert S1 f l e ∙ p.same_need e)) fit)
        (rw same (open_end_on S (insert S1 f l) e op (get_insert_other S1 f l e (λ d. omega (arith, p.is)) ∙ p.same_get e) (λ t g. q.q_kept t (s.bind_in e t g)))))))

-- the integer chosen and the variable v are placed, and joined
pub placed_takes : {ar : TypeName → ℕ} {S S1 S2 : State} → Sound ar S → (v loc l r : ℕ) → v < taken S → undecided (unfold_type S (record { loc = loc; value = Var v })).value ≡ true
    → NewNode ar S (default_of S v) S1 l → NewNode ar S1 (Var v) S2 r → TakesAnd S2 3 2 (λ s t. CalmAt S2 (forward_tvar S v) s) (join S2 l r)
unfolding join max_depth default_of default_integer primitives
placed_takes {S = S} {S2 = S2} s v loc l r h e p q =
    let q02 : Quiet S S2 = quiet_trans p.quiet q.quiet in
    let same : forward_tvar S2 v ≡ forward_tvar S v = ends_det (chain q.sound v (omega (arith, q02.q_vars))) (ends_same q02.q_next (chain s v h)) in
    let op : OpenEnd S2 (forward_tvar S2 v) = rw same (open_end_on S S2 (forward_tvar S v) (unfold_open S s v loc e) (q.same_get (forward_tvar S v) ∙ p.same_get (forward_tvar S v)) (λ t g. q02.q_kept t (s.bind_in (forward_tvar S v) t g))) in
    let has : HasBits (default_builtin (need_of S (forward_tvar S v))) (need_of S2 (forward_tvar S2 v)) =
    subst (λ (n : ℕ). HasBits (default_builtin (need_of S (forward_tvar S v))) n) (sym (ap (need_of S2) same ∙ q.same_need (forward_tvar S v) ∙ p.same_need (forward_tvar S v))) (default_has (need_of S (forward_tvar S v)) (needs_most S s.needs_in (forward_tvar S v))) in
    takes_map (λ x c. subst (λ (w : ℕ). CalmAt S2 w x.0) same c) (join_takes 254 q.sound l r v (default_builtin (need_of S (forward_tvar S v))) (omega (arith, p.t_in, q.quiet.q_nodes)) (q.quiet.q_kept l p.t_in ∙ p.is) q.is (omega (arith, q02.q_vars)) has op)

pub new_calm : {ar : TypeName → ℕ} {S S' : State} {sh : TypeValue} {t : ℕ} → Sound ar S → NewNode ar S sh S' t → Calm S S'
new_calm {S' = S'} s p = calm_same s S' p.quiet.q_kept p.same_get

-- one numeric variable: at most five nodes and two variables
pub default_takes : {ar : TypeName → ℕ} {S : State} → Sound ar S → Declared ar S → (v loc : ℕ) → v < taken S → Takes S 5 2 (λ s. s) (CalmAt S (forward_tvar S v)) (default_num_var S v loc)
unfolding default_num_var args_of default_of default_integer
default_takes {ar} {S} s d v loc h = go (undecided _) refl
  where
    go : (b : Bool) → undecided (unfold_type S (record { loc = loc; value = Var v })).value ≡ b → Takes {A = State} S 5 2 (λ s. s) (CalmAt S (forward_tvar S v)) (elim b [
      | false ↦ ok S
      | true ↦ sp S loc (default_of S v) >>= (λ (x : State × ℕ). sp x.0 loc (Var v) >>= (λ (y : State × ℕ). join y.0 x.1 y.1 >>= (λ (z : State × ℕ). ok z.0)))
    ])
    go false e = takes_ok (took_none S 5 2) (record { calm = calm_refl S; only = λ x i c. refl })
    go true e = takes_post 4 2 _ (sp_takes S loc (default_of S v) refl) (sp_post s loc (default_of S v) (default_ok d S v)) (λ S1 l g1 p.
        takes_post 3 2 _ (sp_takes S1 loc (Var v) refl) (sp_post p.sound loc (Var v) (var_ok v (omega (arith, p.same_vars)))) (λ S2 r g2 q.
        takes_bind 0 0 _ (placed_takes s v loc l r h e p q) (λ z c. takes_ok (took_none z.0 0 0) (record {
          calm = calm_trans (new_calm s p) (calm_trans (new_calm p.sound q) c.calm);
          only = λ x i k. c.only x (omega (arith, q.same_vars, p.same_vars)) k ∙ q.same_get x ∙ p.same_get x;
        }))))

pub default_sure : {ar : TypeName → ℕ} {S : State} → Sound ar S → Declared ar S → (v loc : ℕ) → v < taken S → Sure (CalmAt S (forward_tvar S v)) (default_num_var S v loc)
default_sure s d v loc h = takes_sure (default_takes s d v loc h)

-- all of them: SV is refused with 7 only, and not at all where there is space
pub defaults_take : {ar : TypeName → ℕ} (l : List (ℕ × ℕ)) {S : State} → Sound ar S → Declared ar S → Below (taken S) l → Takes S (5 * length l) (2 * length l) (λ s. s) (λ s. Unit {0}) (default_num_vars S l)
unfolding default_num_vars ◌>>=◌
defaults_take [] {S} s d h = takes_ok (took_none S 0 0) tt
defaults_take {ar} ((v, loc) ∷ l) {S} s d h =
    takes_more (omega arith) (omega arith) (go (default_takes s d v loc h.0) (default_went v loc s d h.0) (λ S1 s1 d1 h1. defaults_take l s1 d1 h1))
  where
    go : {m : Result State} → Takes S 5 2 (λ s. s) (CalmAt S (forward_tvar S v)) m → PostS ar S (Went ar S) m
        → ((S1 : State) → Sound ar S1 → Declared ar S1 → Below (taken S1) l → Takes S1 (5 * length l) (2 * length l) (λ s. s) (λ s. Unit {0}) (default_num_vars S1 l))
        → Takes S (5 + 5 * length l) (2 + 2 * length l) (λ s. s) (λ s. Unit {0}) (m >>= λ (x : State). default_num_vars x l)
    go (takes_ok {a = S1} t p) (ps_ok g w) f = takes_from t (f S1 w.sound (declared_on d g) (below_on w.above.more_vars l h.1))
    go (takes_full n) p f = takes_full (λ r. n (record { nodes_left = omega (arith, r.nodes_left); vars_left = omega (arith, r.vars_left); places_fit = r.places_fit }))

pub no_defaults : {ar : TypeName → ℕ} (l : List (ℕ × ℕ)) {S : State} → Sound ar S → Declared ar S → Below (taken S) l → NoErr (default_num_vars S l)
no_defaults l s d h = sure_no (takes_sure (defaults_take l s d h))

-- SV answers none of 1 to 4
pub solve_never_fails : (S : State) → sound S ≡ true → NoErr (solve_constraints S)
unfolding solve_constraints
solve_never_fails S h = let s = facts S h in no_bind _ (no_defaults (num_vars 0 S.vars) s (λ n. refl) (num_vars_below 0 S.vars (taken S) (omega arith))) (λ S1. solve_cases S1 NoErr (λ failures. no_ok) no_refused no_refused)
