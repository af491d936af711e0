-- In a sound state the bounds on chains, substitution and instantiation are enough: more steps give the same, and none is turned down for want of them. Assumes nothing.
-- First chains, which are short (TotalChains). Then walks down a type, whose nodes fall: two runs with enough steps have one outcome (`Settled`).
use mathlib.Core.Path.{◌≡◌, refl, sym, ap, ◌∙◌}
use mathlib.Core.Bool.{Bool, true, false}
use mathlib.Core.List.{List, [], ◌∷◌}
use Rattle.std.specs.Prelude.{Option, None, Some}
use Prim.Native.Nat.{ℕ, zero, suc, ◌≤◌, ◌<◌}
use native.Mathlib.Omega.{arith}
use lib.ListN.{length}
use Rattle.definition.specs.Types.{TypeName, AbilityMark, TypeValue, UnitType, Ref, Param, Apply, Var, Anything, UnresolvedError, State, TypingError, Refusal, no_argument, Result, ok, err, refused, ◌>>=◌}
use Rattle.definition.specs.Store.{count, taken, type_at, loc_of, sp, map_types}
use Rattle.definition.specs.Subst.{parts, next_of, forward, forward_tvar, mark_one, mark_chain, set_num_var}
use Rattle.definition.specs.TParams.{TParamSubst, arg_of, subst_value, subst_down, subst_tparams}
use Rattle.definition.specs.Instantiate.{tparam_constraints, instantiate_type_args, instantiate_apply, instantiate_value, instantiate_down, instantiate}
use Rattle.definition.specs.Sound.{sound}
use Rattle.theorems.proofs.Laws.{one_marks, value_same}
use Rattle.theorems.proofs.LawsChains.{Within, w_here, w_hop, within_ends, within_more, within_same, next_agree}
use Rattle.theorems.proofs.DemandTracks.{ends_det}
use Rattle.theorems.proofs.DemandOrder.{All, Sound, chain, chain_within, next_in_range}
use Rattle.theorems.proofs.DemandSteps.{NodeOk}
use Rattle.theorems.proofs.LawsPost.{Grown, grown_refl, grown_trans, Post, p_ok, p_err}
use Rattle.theorems.proofs.DemandCalls.{sp_post}
use Rattle.theorems.proofs.SoundFacts.{facts}
use Rattle.theorems.proofs.TotalChains.{chains_short}
use Rattle.theorems.proofs.DemandWent.{PostS, ps_ok, add_went, ref_ok, apply_ok}
use Rattle.theorems.proofs.DemandRuns.{Declared, declared_on, tparams_many, make_tparams_went, instantiate_down_went}
use Rattle.theorems.proofs.TotalWalk.{RunTime, eleven, twelve}
use Rattle.theorems.proofs.TotalLate.{Late, fine, wrong, down, sp_late, add_late, make_tvar_late, tparams_late, join_args_late}

-- ---- chains

module _ {ar : TypeName → ℕ} {S : State} (s : Sound ar S) where
  -- a chain has fewer steps than there are variables
  pub chain_short : (n : ℕ) → taken S ≡ suc n → (v : ℕ) → v < taken S → Within S n v
  chain_short n e v h = chains_short S (taken S) (λ w i. chain_within s w i) (λ w u d. next_in_range s w u d) n e v h

  forward_same : (v : ℕ) → v < taken S → (n : ℕ) → taken S ≤ n → forward n S v ≡ forward_tvar S v
  forward_same v h n l = ends_det (within_ends (within_more (chain_within s v h) n l)) (chain s v h)

marked_next : (S : State) (v loc w : ℕ) → next_of (mark_one S v loc) w ≡ next_of S w
marked_next S v loc w = let m = one_marks S v loc in next_agree S (mark_one S v loc) w (m.m_get w) (λ t e. value_same m.m_nodes t)

mark_levels : (n : ℕ) (S : State) (v loc : ℕ) → Within S n v → (a b : ℕ) → n < a → n < b → mark_chain a S v loc ≡ mark_chain b S v loc
unfolding mark_chain
mark_levels n S v loc d zero b h i = absurd (omega arith)
mark_levels n S v loc d (suc a) zero h i = absurd (omega arith)
mark_levels n S v loc (w_here e) (suc a) (suc b) h i = rw (e, mark_chain) refl
mark_levels (suc n) S v loc (w_hop {w = w} e d) (suc a) (suc b) h i = rw (e, mark_chain) (mark_levels n (mark_one S v loc) w loc (within_same (marked_next S v loc) d) a b (omega arith) (omega arith))

pub one_more : (n v : ℕ) → v < n → (k : ℕ) × (n ≡ suc k)
one_more zero v h = absurd (omega arith)
one_more (suc n) v h = (n, refl)

pub forward_enough : (S : State) → sound S ≡ true → (v : ℕ) → v < taken S → (n : ℕ) → taken S ≤ n → forward n S v ≡ forward_tvar S v
forward_enough S h v i n l = forward_same (facts S h) v i n l

pub mark_enough : (S : State) → sound S ≡ true → (v loc : ℕ) → v < taken S → (n : ℕ) → taken S ≤ n → mark_chain n S v loc ≡ set_num_var S v loc
unfolding set_num_var
mark_enough S h v loc i n l = let k = one_more (taken S) v i in mark_levels k.0 S v loc (chain_short (facts S h) k.0 k.1 v i) n (taken S) (omega (arith, k.1)) (omega (arith, k.1))

-- ---- walks down a type

-- one outcome of two runs, and no 9
data Settled {A : Type 0} (P : A → Type 0) : Result A → Result A → Type 0 where
  s_ok : {a : A} → P a → Settled P (ok a) (ok a)
  s_err : {s : State} {e : TypingError} → Settled P (err s e) (err s e)
  s_refused : {x : Refusal} → RunTime false x → Settled P (refused x) (refused x)

settled_same : {A : Type 0} {P : A → Type 0} {m m' : Result A} → Settled P m m' → m ≡ m'
settled_same (s_ok p) = refl
settled_same s_err = refl
settled_same (s_refused r) = refl

settled_late : {A : Type 0} {P : A → Type 0} {m m' : Result A} → Settled P m m' → Late false m
settled_late (s_ok p) = fine
settled_late s_err = wrong
settled_late (s_refused r) = down r

settled_bind : {A B : Type 0} {P : A → Type 0} {Q : B → Type 0} {m m' : Result A} (f f' : A → Result B) → Settled P m m' → ((a : A) → P a → Settled Q (f a) (f' a)) → Settled Q (m >>= f) (m' >>= f')
unfolding ◌>>=◌
settled_bind f f' (s_ok {a = a} p) h = h a p
settled_bind f f' s_err h = s_err
settled_bind f f' (s_refused r) h = s_refused r

abbrev Always : {A : Type 0} → A → Type 0
Always a = Unit {0}

late_settled : {A : Type 0} {m : Result A} → Late false m → Settled Always m m
late_settled fine = s_ok tt
late_settled wrong = s_err
late_settled (down r) = s_refused r

-- with what is known of the outcome
post_settled : {B : Type 0} {ar : TypeName → ℕ} {S : State} {P : State → B → Type 0} {Q : State × B → Type 0} {R : State × B → Type 0} {m m' : Result (State × B)} → Settled Q m m' → Post ar S P m
    → ((s : State) (b : B) → Grown S s → P s b → R (s, b)) → Settled R m m'
post_settled (s_ok q) (p_ok g p) f = s_ok (f _ _ g p)
post_settled s_err (p_err g n) f = s_err
post_settled (s_refused r) p f = s_refused r

postS_settled : {ar : TypeName → ℕ} {S : State} {P R : State → Type 0} {m : Result State} → Late false m → PostS ar S P m → ((s : State) → Grown S s → P s → R s) → Settled R m m
postS_settled fine (ps_ok {s = s} g p) f = s_ok (f s g p)
postS_settled wrong p f = s_err
postS_settled (down r) p f = s_refused r

-- sound, and above S₀
record Good (ar : TypeName → ℕ) (S₀ S : State) : Type 0 where
  is_sound : Sound ar S
  grown : Grown S₀ S

good_on : {ar : TypeName → ℕ} {S₀ S S' : State} → Good ar S₀ S → Grown S S' → Sound ar S' → Good ar S₀ S'
good_on g h s = record { is_sound = s; grown = grown_trans g.grown h }

record One (ar : TypeName → ℕ) (S₀ S : State) (a : State × ℕ) : Type 0 where
  good : Good ar S₀ a.0
  more : count S ≤ count a.0
  t_in : a.1 < count a.0

record Many (ar : TypeName → ℕ) (S₀ S : State) (n : ℕ) (a : State × List ℕ) : Type 0 where
  good : Good ar S₀ a.0
  more : count S ≤ count a.0
  ts_in : All (λ t. t < count a.0) a.1
  many : length a.1 ≡ n

abbrev Walk : Type 0
Walk = State → ℕ → Result (State × ℕ)

-- two walks agree on what P says
abbrev Agree : (TypeName → ℕ) → State → (ℕ → Type 0) → Walk → Walk → Type 0
Agree ar S₀ P f f' = (S : State) (t : ℕ) → Good ar S₀ S → P t → Settled (One ar S₀ S) (f S t) (f' S t)

module _ {ar : TypeName → ℕ} {S₀ : State} where
  sp_settled : {S : State} → Good ar S₀ S → (l : ℕ) (sh : TypeValue) → NodeOk ar S sh → Settled (One ar S₀ S) (sp S l sh) (sp S l sh)
  sp_settled {S} g l sh o = post_settled (late_settled (sp_late false S l sh)) (sp_post g.is_sound l sh o) (λ S' t h p. record { good = good_on g h p.sound; more = h.g_nodes; t_in = p.t_in })

  map_settled : (f f' : Walk) (P : ℕ → Type 0) → Agree ar S₀ P f f' → (ts : List ℕ) (S : State) → Good ar S₀ S → All P ts → Settled (Many ar S₀ S (length ts)) (map_types f S ts) (map_types f' S ts)
  unfolding map_types
  map_settled f f' P h [] S g a = s_ok (record { good = g; more = omega arith; ts_in = tt; many = refl })
  map_settled f f' P h (t ∷ ts) S g a = settled_bind _ _ (h S t g a.0) (λ x p. settled_bind _ _ (map_settled f f' P h ts x.0 p.good a.1) (λ y q. s_ok (record {
    good = q.good;
    more = omega (arith, p.more, q.more);
    ts_in = (omega (arith, p.t_in, q.more), q.ts_in);
    many = ap suc q.many;
  })))

settled_map : {A : Type 0} {P Q : A → Type 0} {m m' : Result A} → ((a : A) → P a → Q a) → Settled P m m' → Settled Q m m'
settled_map f (s_ok {a = a} p) = s_ok (f a p)
settled_map f s_err = s_err
settled_map f (s_refused r) = s_refused r

one_from : {ar : TypeName → ℕ} {S₀ S S' : State} → count S ≤ count S' → (a : State × ℕ) → One ar S₀ S' a → One ar S₀ S a
one_from h a o = record { good = o.good; more = omega (arith, o.more); t_in = o.t_in }

module _ {ar : TypeName → ℕ} {S₀ : State} (s₀ : Sound ar S₀) where
  itself : {S : State} (t : ℕ) → t < count S₀ → Good ar S₀ S → One ar S₀ S (S, t)
  itself t h g = record { good = g; more = omega arith; t_in = omega (arith, g.grown.g_nodes) }

  ref_below : (t p : ℕ) (m : Bool) → t < count S₀ → type_at S₀ t ≡ Ref m p → p < t
  unfolding parts
  ref_below t p m h e = (rw e at (s₀.parts_below t h)).0

  args_below : (t : ℕ) {k : AbilityMark} {n : TypeName} (ps : List ℕ) → t < count S₀ → type_at S₀ t ≡ Apply k n ps → All (λ p. p < t) ps
  unfolding parts
  args_below t ps h e = rw e at (s₀.parts_below t h)

  -- ---- subst_tparams

  module _ (sub : TParamSubst) (args : (id arg : ℕ) → arg_of sub id ≡ Some arg → arg < count S₀) where
    subst_level : (f f' : Walk) (t : ℕ) → t < count S₀ → Agree ar S₀ (λ p. p < t) f f' → (S : State) → Good ar S₀ S → (x : TypeValue) → type_at S₀ t ≡ x
        → Settled (One ar S₀ S) (subst_value f sub S t (loc_of S t) x) (subst_value f' sub S t (loc_of S t) x)
    unfolding subst_value
    subst_level f f' t h ag S g UnitType e = s_ok (itself t h g)
    subst_level f f' t h ag S g UnresolvedError e = s_ok (itself t h g)
    subst_level f f' t h ag S g Anything e = s_ok (itself t h g)
    subst_level f f' t h ag S g (Var v) e = s_refused eleven
    subst_level f f' t h ag S g (Ref m p) e = settled_bind _ _ (ag S p g (ref_below t p m h e)) (λ a q. settled_map (one_from q.more) (sp_settled q.good (loc_of S t) (Ref m a.1) (ref_ok m a.1 q.t_in)))
    subst_level f f' t h ag S g (Param id b) e = go (arg_of sub id) refl
      where
        go : (o : Option ℕ) → arg_of sub id ≡ o → Settled {A = State × ℕ} (One ar S₀ S) (elim o [ None ↦ refused no_argument | Some arg ↦ ok (S, arg) ]) (elim o [ None ↦ refused no_argument | Some arg ↦ ok (S, arg) ])
        go None d = s_refused twelve
        go (Some arg) d = s_ok (itself arg (args id arg d) g)
    subst_level f f' t h ag S g (Apply k n tys) e = settled_bind _ _ (map_settled f f' _ ag tys S g (args_below t tys h e)) (λ a q.
        settled_map (one_from q.more) (sp_settled q.good (loc_of S t) (Apply k n a.1) (apply_ok k n a.1 q.ts_in (q.many ∙ s₀.arity t k n tys h e))))

    subst_levels : (n m : ℕ) (S : State) (t : ℕ) → Good ar S₀ S → t < count S₀ → t < n → t < m → Settled (One ar S₀ S) (subst_down n sub S t) (subst_down m sub S t)
    unfolding subst_down
    subst_levels zero m S t g h i j = absurd (omega arith)
    subst_levels (suc n) zero S t g h i j = absurd (omega arith)
    subst_levels (suc n) (suc m) S t g h i j =
        rw (g.grown.g_kept t h) (subst_level (λ s t. subst_down n sub s t) (λ s t. subst_down m sub s t) t h (λ S p g l. subst_levels n m S p g (omega arith) (omega arith) (omega arith)) S g (type_at S₀ t) refl)

  -- ---- instantiate

  module _ (d₀ : Declared ar S₀) where
    instantiate_level : (f f' : Walk) (t : ℕ) → t < count S₀ → Agree ar S₀ (λ p. p < t) f f' → (S : State) → Good ar S₀ S → (x : TypeValue) → type_at S₀ t ≡ x
        → Settled Always (instantiate_value f S t (loc_of S t) x) (instantiate_value f' S t (loc_of S t) x)
    unfolding instantiate_value instantiate_apply instantiate_type_args
    instantiate_level f f' t h ag S g UnitType e = s_ok tt
    instantiate_level f f' t h ag S g UnresolvedError e = s_ok tt
    instantiate_level f f' t h ag S g Anything e = late_settled (make_tvar_late false S (loc_of S t))
    instantiate_level f f' t h ag S g (Var v) e = s_refused eleven
    instantiate_level f f' t h ag S g (Param id b) e = s_ok tt
    instantiate_level f f' t h ag S g (Ref m p) e =
        settled_bind _ _ (postS_settled {R = Good ar S₀} (add_late false S _) (add_went g.is_sound _ (omega (arith, ref_below t p m h e, g.grown.g_nodes))) (λ s i w. good_on g i w.sound)) (λ s g1.
        settled_bind _ _ (ag s p g1 (ref_below t p m h e)) (λ a q. late_settled (sp_late false a.0 (loc_of S t) (Ref m a.1))))
    instantiate_level f f' t h ag S g (Apply k n tys) e =
        let many : length tys ≡ length (tparam_constraints S n) = s₀.arity t k n tys h e ∙ sym (declared_on d₀ g.grown n) ∙ sym (tparams_many S n) in
        settled_bind _ _ (settled_bind {Q = Always} _ _ (post_settled {R = λ a. Good ar S₀ a.0} (late_settled (tparams_late false S (loc_of S t) n tys)) (make_tparams_went (loc_of S t) n tys _ g.is_sound many) (λ s b i w. good_on g i w.sound)) (λ a g1.
        settled_bind _ _ (map_settled f f' _ ag tys a.0 g1 (args_below t tys h e)) (λ c q. late_settled (join_args_late false c.0 a.1 c.1)))) (λ a q. late_settled (sp_late false a.0 (loc_of S t) (Apply k n a.1)))

    instantiate_levels : (n m : ℕ) (S : State) (t : ℕ) → Good ar S₀ S → t < count S₀ → t < n → t < m → Settled (One ar S₀ S) (instantiate_down n S t) (instantiate_down m S t)
    unfolding instantiate_down
    instantiate_levels zero m S t g h i j = absurd (omega arith)
    instantiate_levels (suc n) zero S t g h i j = absurd (omega arith)
    instantiate_levels (suc n) (suc m) S t g h i j = post_settled {Q = Always}
        (rw (g.grown.g_kept t h) (instantiate_level (λ s t. instantiate_down n s t) (λ s t. instantiate_down m s t) t h (λ S p g l. instantiate_levels n m S p g (omega arith) (omega arith) (omega arith)) S g (type_at S₀ t) refl))
        (instantiate_down_went (suc n) S t g.is_sound (declared_on d₀ g.grown) (omega (arith, g.grown.g_nodes)))
        (λ s u k w. record { good = good_on g k w.sound; more = k.g_nodes; t_in = w.t_in })

good_refl : {ar : TypeName → ℕ} {S : State} → Sound ar S → Good ar S S
good_refl {S = S} s = record { is_sound = s; grown = grown_refl S }

-- any number of levels above the type's number gives what subst_tparams gives, and that is never 9
pub subst_enough : (S : State) → sound S ≡ true → (sub : TParamSubst) → ((id arg : ℕ) → arg_of sub id ≡ Some arg → arg < count S) → (t : ℕ) → t < count S → (n : ℕ) → t < n
    → (subst_down n sub S t ≡ subst_tparams sub S t) × Late false (subst_tparams sub S t)
unfolding subst_tparams
subst_enough S h sub args t i n l = let s = facts S h in (
  settled_same (subst_levels s sub args n (suc t) S t (good_refl s) i l (omega arith)),
  settled_late (subst_levels s sub args (suc t) n S t (good_refl s) i (omega arith) l),
)

pub instantiate_enough : (S : State) → sound S ≡ true → (t : ℕ) → t < count S → (n : ℕ) → t < n → (instantiate_down n S t ≡ instantiate S t) × Late false (instantiate S t)
unfolding instantiate
instantiate_enough S h t i n l = let s = facts S h in (
  settled_same (instantiate_levels s (λ n. refl) n (suc t) S t (good_refl s) i l (omega arith)),
  settled_late (instantiate_levels s (λ n. refl) (suc t) n S t (good_refl s) i (omega arith) l),
)
