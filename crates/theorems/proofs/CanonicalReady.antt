-- R-12: what ready_tvars hands back stands for the read type: no bound variable is in it; and it takes as many nodes as the read type has tags, at most, and as many places. Assumes nothing.
-- By the calls that are left; the state that the type is read in stays the one before all of them.
use mathlib.Core.Path.{◌≡◌, refl, sym, ap, ◌∙◌, subst}
use mathlib.Core.Bool.{Bool, true, false}
use mathlib.Core.List.{List, [], ◌∷◌}
use Rattle.std.specs.Prelude.{Option, None, Some}
use Prim.Native.Nat.{ℕ, zero, suc, ◌+◌, ◌*◌, ◌≤◌, ◌<◌}
use native.Mathlib.Omega.{arith}
use lib.ListN.{length}
use Rattle.definition.specs.Types.{AbilityMark, TypeName, TypeValue, Ref, Apply, Var, State, runs_into_itself, Result, ok, refused, ◌>>=◌}
use Rattle.definition.specs.Store.{count, taken, type_at, loc_of, get, args_of, sp, map_types}
use Rattle.definition.specs.Subst.{as_var, parts, next_of, forward, forward_tvar, reaches_itself, ready_value, ready, ready_tvars}
use Rattle.definition.specs.Rank.{ReadType, any, unresolved, unit, open_var, parameter, reference, named, ReadTypes, no_types, ◌and◌}
use Rattle.definition.specs.Rank.{Reads, reads_unit, reads_reference, reads_parameter, reads_named, reads_bound, reads_open, reads_any, reads_error, ReadsAll, reads_none, reads_each}
use Rattle.definition.specs.Agree.{tags, tags_all, places, places_all}
use Rattle.theorems.proofs.Laws.{value_new}
use Rattle.theorems.proofs.LawsChains.{as_var_is, next_some, next_none, ends_same}
use Rattle.theorems.proofs.DemandTracks.{ends_det}
use Rattle.theorems.proofs.DemandOrder.{All, All_map, Sound, chain, ends_in as end_taken}
use Rattle.theorems.proofs.DemandSteps.{NodeOk}
use Rattle.theorems.proofs.DemandCalls.{var_ok}
use Rattle.theorems.proofs.DemandWent.{ref_ok, apply_ok}
use Rattle.theorems.proofs.ReadyTold.{Grown, grown_refl, grown_trans, added_refl, Reads as Gives, made, no_place, onward, bind, mapped, weaker, as_many, sp_reads}
use Rattle.theorems.proofs.CanonicalSpelled.{Stands, st_unit, st_any, st_error, st_param, st_var, st_ref, st_named, AllStand, st_none, st_each}

-- ---- a chain followed to its end

-- what reading a variable comes to: its open end, or what its end holds
data AtEnd (S : State) (v end : ℕ) (r : ReadType) : Type 0 where
  at_open : get S end ≡ None → r ≡ open_var end → AtEnd S v end r
  at_bound : {T : ℕ} → get S end ≡ Some T → Reads S (type_at S T) r → AtEnd S v end r

at_itself : (S : State) (v : ℕ) {r : ReadType} → Reads S (Var v) r → AtEnd S v v r
at_itself S v (reads_bound g d) = at_bound g d
at_itself S v (reads_open g) = at_open g refl

at_end : (S : State) (n v : ℕ) {r : ReadType} → Reads S (Var v) r → AtEnd S v (forward n S v) r
unfolding forward
at_end S zero v d = at_itself S v d
at_end S (suc n) v {r} d = go (at_itself S v d) (λ w x. at_end S n w x)
  where
    moved : (w e : ℕ) → AtEnd S w e r → AtEnd S v e r
    moved w e (at_open g q) = at_open g q
    moved w e (at_bound g q) = at_bound g q

    onward : (t : ℕ) → get S v ≡ Some t → Reads S (type_at S t) r → (o : Option ℕ) → as_var (type_at S t) ≡ o → ((w : ℕ) → Reads S (Var w) r → AtEnd S w (forward n S w) r) → AtEnd S v (elim o [ None ↦ v | Some next ↦ forward n S next ]) r
    onward t g x None e k = at_bound g x
    onward t g x (Some w) e k = moved w (forward n S w) (k w (subst (λ (y : TypeValue). Reads S y r) (as_var_is (type_at S t) w e) x))

    go : AtEnd S v v r → ((w : ℕ) → Reads S (Var w) r → AtEnd S w (forward n S w) r) → AtEnd S v (elim (next_of S v) [ None ↦ v | Some next ↦ forward n S next ]) r
    go (at_bound {T = t} g x) k = rw (next_some S v t g) (onward t g x (as_var (type_at S t)) refl k)
    go (at_open g q) k = rw (next_none S v g) (at_open g q)

-- ---- a type that stands stays, when nodes are added

module _ {ar : TypeName → ℕ} {S S' : State} (s : Sound ar S) (a : Grown ar S S') where
  mutual
    unfolding parts

    pub stays : {x : TypeValue} {r : ReadType} → Stands S x r → All (λ p. p < count S) (parts x) → Stands S' x r
    stays st_unit h = st_unit
    stays st_any h = st_any
    stays st_error h = st_error
    stays st_param h = st_param
    stays st_var h = st_var
    stays (st_ref {t = t} {r = r} d) h = st_ref (subst (λ (y : TypeValue). Stands S' y r) (sym (a.quiet.q_kept t h.0)) (stays d (All_map {P = λ p. p < t} (λ p l. omega (arith, h.0, l)) (parts (type_at S t)) (s.parts_below t h.0))))
    stays (st_named d) h = st_named (all_stay d h)

    all_stay : {ts : List ℕ} {rs : ReadTypes} → AllStand S ts rs → All (λ p. p < count S) ts → AllStand S' ts rs
    all_stay st_none h = st_none
    all_stay (st_each {t = t} {r = r} d ds) h = st_each (subst (λ (y : TypeValue). Stands S' y r) (sym (a.quiet.q_kept t h.0)) (stays d (All_map {P = λ p. p < t} (λ p l. omega (arith, h.0, l)) (parts (type_at S t)) (s.parts_below t h.0)))) (all_stay ds h.1)

  pub node_stays : (t : ℕ) → t < count S → {r : ReadType} → Stands S (type_at S t) r → Stands S' (type_at S' t) r
  node_stays t h {r} d = subst (λ (y : TypeValue). Stands S' y r) (sym (a.quiet.q_kept t h)) (stays d (All_map {P = λ p. p < t} (λ p l. omega (arith, h, l)) (parts (type_at S t)) (s.parts_below t h)))

-- ---- what stands for a read type

abbrev pub StandsFor : ReadType → State → ℕ → Type 0
StandsFor r S t = (t < count S) × Stands S (type_at S t) r

-- so many that stand for these
abbrev pub AllFor : ℕ → ReadTypes → State → List ℕ → Type 0
AllFor many rs S ts = All (λ t. t < count S) ts × (length ts ≡ many) × AllStand S ts rs

module _ {ar : TypeName → ℕ} where
  pub node_stands : {S : State} → Sound ar S → (l : ℕ) (x : TypeValue) → NodeOk ar S x → {r : ReadType} → Stands S x r → All (λ p. p < count S) (parts x) → Gives ar (StandsFor r) S 1 (length (args_of x)) (sp S l x)
  node_stands {S} s l x o {r} d h = weaker (sp_reads s l x o) (λ S' t a e.
      let value : type_at S' t ≡ x = rw (e.0, e.1) (value_new S l x) in (omega (arith, e.1, a.nodes_are), subst (λ (y : TypeValue). Stands S' y r) (sym value) (stays s a.grown d h)))

  pub ref_stands : {S : State} (l : ℕ) (m : Bool) {r : ReadType} (n k : ℕ) {x : Result (State × ℕ)} → Gives ar (StandsFor r) S n k x → Gives ar (StandsFor (reference m r)) S (n + 1) (k + 0) (x >>= (λ (y : State × ℕ). sp y.0 l (Ref m y.1)))
  unfolding parts args_of
  ref_stands l m n k g = bind n k 1 0 _ g (λ S1 u a i. node_stands a.grown.sound_after l (Ref m u) (ref_ok m u i.0) (st_ref i.1) (i.0, tt))

  pub named_stands : {S : State} (l : ℕ) (k : AbilityMark) (name : TypeName) (many : ℕ) {rs : ReadTypes} (n p : ℕ) {x : Result (State × List ℕ)} → many ≡ ar name → Gives ar (AllFor many rs) S n p x
      → Gives ar (StandsFor (named k name rs)) S (n + 1) (p + many) (x >>= (λ (y : State × List ℕ). sp y.0 l (Apply k name y.1)))
  unfolding parts args_of
  named_stands l k name many n p e g = bind n p 1 many _ g (λ S1 us a i.
      as_many 1 1 (length us) many refl i.1 (node_stands a.grown.sound_after l (Apply k name us) (apply_ok k name us i.0 (i.1 ∙ e)) (st_named i.2) i.0))

  pub none_stand : {S : State} → Sound ar S → Gives ar (AllFor 0 no_types) S 0 0 (ok (S, []))
  none_stand s = made (added_refl s) (tt, refl, st_none)

  -- a node that stands, before a list
  pub next_to : {S : State} {many u : ℕ} {r : ReadType} {rs : ReadTypes} (n p : ℕ) {m : Result (State × List ℕ)} → Sound ar S → StandsFor r S u → Gives ar (AllFor many rs) S n p m
      → Gives ar (AllFor (suc many) (◌and◌ r rs)) S n p (m >>= (λ (y : State × List ℕ). ok (y.0, u ∷ y.1)))
  next_to {u = u} n p s i g = mapped (λ (us : List ℕ). u ∷ us) g (λ S2 us b j. ((omega (arith, i.0, b.grown.quiet.q_nodes), j.0), ap suc j.1, st_each (node_stays s b.grown u i.0 i.1) j.2))

-- ---- ready_tvars

-- the nodes that are made for it: a type without parts stays, but for a variable
unfoldable mutual
  pub news : ReadType → ℕ
  news any = 0
  news unresolved = 0
  news unit = 0
  news (open_var v) = 1
  news (parameter id a) = 0
  news (reference m r) = news r + 1
  news (named k n rs) = news_all rs + 1

  pub news_all : ReadTypes → ℕ
  news_all no_types = 0
  news_all (◌and◌ r rs) = news r + news_all rs

mutual
  unfolding news tags

  pub news_few : (r : ReadType) → news r ≤ tags r
  news_few any = omega arith
  news_few unresolved = omega arith
  news_few unit = omega arith
  news_few (open_var v) = omega arith
  news_few (parameter id a) = omega arith
  news_few (reference m r) = omega (arith, news_few r)
  news_few (named k n rs) = omega (arith, all_news_few rs)

  all_news_few : (rs : ReadTypes) → news_all rs ≤ tags_all rs
  all_news_few no_types = omega arith
  all_news_few (◌and◌ r rs) = omega (arith, news_few r, all_news_few rs)

-- the places below a list, without those of the list itself, which its node takes
unfoldable pub below : ReadTypes → ℕ
below no_types = 0
below (◌and◌ r rs) = places r + below rs

-- what stands for r, or 9
pub data Resolved (ar : TypeName → ℕ) (S : State) (r : ReadType) : Result (State × ℕ) → Type 0 where
  resolved : {m : Result (State × ℕ)} → Gives ar (StandsFor r) S (news r) (places r) m → Resolved ar S r m
  ran_in : Resolved ar S r (refused runs_into_itself)

data AllResolved (ar : TypeName → ℕ) (S : State) (many : ℕ) (rs : ReadTypes) : Result (State × List ℕ) → Type 0 where
  all_resolved : {m : Result (State × List ℕ)} → Gives ar (AllFor many rs) S (news_all rs) (below rs) m → AllResolved ar S many rs m
  all_ran_in : AllResolved ar S many rs (refused runs_into_itself)

module _ {ar : TypeName → ℕ} where
  first_of : {S : State} {many : ℕ} {r : ReadType} {rs : ReadTypes} {m : Result (State × ℕ)} (f : State → Result (State × List ℕ)) → Resolved ar S r m → ((S1 : State) → Grown ar S S1 → AllResolved ar S1 many rs (f S1))
      → AllResolved ar S (suc many) (◌and◌ r rs) (m >>= (λ (x : State × ℕ). f x.0 >>= (λ (y : State × List ℕ). ok (y.0, x.1 ∷ y.1))))
  unfolding ◌>>=◌ news below
  first_of {S} {many} {r} {rs} f (resolved (made {S' = S1} {x = u} a i)) g = second (f S1) (g S1 a.grown)
    where
      second : (m : Result (State × List ℕ)) → AllResolved ar S1 many rs m → AllResolved ar S (suc many) (◌and◌ r rs) (m >>= (λ (y : State × List ℕ). ok (y.0, u ∷ y.1)))
      second m (all_resolved j) = all_resolved (onward (news r) (places r) (news_all rs) (below rs) a (next_to _ _ a.grown.sound_after i j))
      second (refused x) all_ran_in = all_ran_in
  first_of f (resolved (no_place d)) g = all_resolved (no_place (λ w. d (omega (arith, w.0), omega (arith, w.1))))
  first_of f ran_in g = all_ran_in

  module _ {S₀ : State} (s₀ : Sound ar S₀) where
    -- the calls below give what they should
    abbrev Good : (State → ℕ → Result (State × ℕ)) → Type 0
    Good f = (S : State) → Grown ar S₀ S → (t : ℕ) → t < count S₀ → (r : ReadType) → Reads S₀ (type_at S₀ t) r → Resolved ar S r (f S t)

    parts_of : (f : State → ℕ → Result (State × ℕ)) → Good f → {ts : List ℕ} {rs : ReadTypes} → ReadsAll S₀ ts rs → All (λ p. p < count S₀) ts → (S : State) → Grown ar S₀ S → AllResolved ar S (length ts) rs (map_types f S ts)
    unfolding map_types news below
    parts_of f g reads_none h S a = all_resolved (none_stand a.sound_after)
    parts_of f g (reads_each {t = t} {ts = ts} {r = r} d ds) h S a = first_of (λ S1. map_types f S1 ts) (g S a t h.0 r d) (λ S1 b. parts_of f g ds h.1 S1 (grown_trans a b))

    places_are : {ts : List ℕ} {rs : ReadTypes} → ReadsAll S₀ ts rs → below rs + length ts ≡ places_all rs
    unfolding places below
    places_are reads_none = refl
    places_are (reads_each ds d) = omega (arith, places_are d)

    -- a node that is handed back
    handed : (S : State) → Grown ar S₀ S → (t : ℕ) → t < count S₀ → (x : TypeValue) → type_at S₀ t ≡ x → {r : ReadType} → Stands S x r → Gives ar (StandsFor r) S 0 0 (ok (S, t))
    handed S a t h x e {r} d = made (added_refl a.sound_after) (omega (arith, h, a.quiet.q_nodes), subst (λ (y : TypeValue). Stands S y r) (sym (a.quiet.q_kept t h ∙ e)) d)

    -- a reference or a named type built anew
    ref_built : (S : State) (l : ℕ) (m : Bool) {r : ReadType} {x : Result (State × ℕ)} → Resolved ar S r x → Resolved ar S (reference m r) (x >>= (λ (y : State × ℕ). sp y.0 l (Ref m y.1)))
    unfolding ◌>>=◌ news places
    ref_built S l m {r} (resolved g) = resolved (as_many _ _ _ _ refl (omega arith) (ref_stands l m (news r) (places r) g))
    ref_built S l m ran_in = ran_in

    named_built : (S : State) (l : ℕ) (k : AbilityMark) (name : TypeName) (n : ℕ) {rs : ReadTypes} {x : Result (State × List ℕ)} → n ≡ ar name → below rs + n ≡ places_all rs → AllResolved ar S n rs x
        → Resolved ar S (named k name rs) (x >>= (λ (y : State × List ℕ). sp y.0 l (Apply k name y.1)))
    unfolding ◌>>=◌ news places
    named_built S l k name n {rs} e b (all_resolved g) = resolved (as_many _ _ _ _ refl b (named_stands l k name n (news_all rs) (below rs) e g))
    named_built S l k name n e b all_ran_in = ran_in

    module _ (f : State → ℕ → Result (State × ℕ)) (g : Good f) (S : State) (a : Grown ar S₀ S) (t : ℕ) (h : t < count S₀) where
      same_end : (v : ℕ) → v < taken S₀ → forward_tvar S v ≡ forward_tvar S₀ v
      same_end v i = ends_det (chain a.sound_after v (omega (arith, i, a.quiet.q_vars))) (ends_same a.quiet.q_next (chain s₀ v i))

      abbrev on_from : ℕ → Option ℕ → Result (State × ℕ)
      on_from end o = elim o [ None ↦ sp S (loc_of S t) (Var end) | Some T ↦ f S T ]

      end_level : (v : ℕ) → v < taken S₀ → (r : ReadType) → AtEnd S₀ v (forward_tvar S₀ v) r → Resolved ar S r (on_from (forward_tvar S₀ v) (get S₀ (forward_tvar S₀ v)))
      unfolding parts news places args_of
      end_level v i r (at_open o q) = rw (o, q) (resolved (node_stands a.sound_after (loc_of S t) (Var (forward_tvar S₀ v)) (var_ok (forward_tvar S₀ v) (omega (arith, end_taken s₀ i (chain s₀ v i), a.quiet.q_vars))) st_var tt))
      end_level v i r (at_bound {T = T} o d) = rw o (g S a T (s₀.bind_in (forward_tvar S₀ v) T o) r d)

      var_level : (v : ℕ) → v < taken S₀ → (r : ReadType) → AtEnd S₀ v (forward_tvar S₀ v) r → Resolved ar S r (on_from (forward_tvar S v) (get S (forward_tvar S v)))
      var_level v i r d = subst (λ (e : ℕ). Resolved ar S r (on_from e (get S e))) (sym (same_end v i))
          (subst (λ (o : Option ℕ). Resolved ar S r (on_from (forward_tvar S₀ v) o)) (sym (a.same_get (forward_tvar S₀ v))) (end_level v i r d))

      inside : (x : TypeValue) → type_at S₀ t ≡ x → All (λ p. p < count S₀) (parts x)
      inside x e = subst (λ (y : TypeValue). All (λ p. p < count S₀) (parts y)) e (All_map {P = λ p. p < t} (λ p l. omega (arith, h, l)) (parts (type_at S₀ t)) (s₀.parts_below t h))

      level : (x : TypeValue) → type_at S₀ t ≡ x → {r : ReadType} → Reads S₀ x r → Resolved ar S r (ready_value f S t (loc_of S t) x)
      unfolding ready_value parts forward_tvar news places
      level x e reads_unit = resolved (handed S a t h x e st_unit)
      level x e reads_any = resolved (handed S a t h x e st_any)
      level x e reads_error = resolved (handed S a t h x e st_error)
      level x e reads_parameter = resolved (handed S a t h x e st_param)
      level x e (reads_reference {m = m} {t = p} {r = r} d) = ref_built S (loc_of S t) m (g S a p (inside (Ref m p) e).0 r d)
      level x e (reads_named {k = k} {n = n} {ts = ts} ds) = named_built S (loc_of S t) k n (length ts) (s₀.arity t k n ts h e) (places_are ds) (parts_of f g ds (inside (Apply k n ts) e) S a)
      level x e (reads_bound {v = v} {r = r} q d) = var_level v (s₀.var_in t v h e) r (at_end S₀ (taken S₀) v (reads_bound q d))
      level x e (reads_open {v = v} q) = var_level v (s₀.var_in t v h e) (open_var v) (at_end S₀ (taken S₀) v (reads_open q))

    ready_stands : (n : ℕ) → Good (λ S t. ready n S t)
    unfolding ready
    ready_stands zero S a t h r d = ran_in
    ready_stands (suc n) S a t h r d = rw (a.quiet.q_kept t h) (level (λ S t. ready n S t) (ready_stands n) S a t h (type_at S₀ t) refl d)

-- RD's node stands for the type that is read
pub ready_reads : {ar : TypeName → ℕ} {S : State} → Sound ar S → (t : ℕ) → t < count S → (r : ReadType) → Reads S (type_at S t) r → Resolved ar S r (ready_tvars S t)
unfolding ready_tvars
ready_reads {ar} {S} s t h r d = go (reaches_itself S t)
  where
    go : (b : Bool) → Resolved ar S r (elim b [ true ↦ refused runs_into_itself | false ↦ ready (2 * count S) S t ])
    go true = ran_in
    go false = ready_stands s (2 * count S) S (grown_refl s) t h r d
