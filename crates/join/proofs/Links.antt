-- The links that the operand walk, the argument walk and the merge follow, as laws that follow the code. Assumes nothing.
use mathlib.Core.Path.{◌≡◌, refl, sym, ap, ◌∙◌}
use mathlib.Core.Bool.{Bool}
use mathlib.Core.List.{List, [], ◌∷◌}
use Rattle.std.specs.Prelude.{Option, None, Some, Ok, Err}
use Rattle.std.specs.Prelude as core
use Rattle.std.proofs.lemmas.List.{drop_more, drop_all}
use Prim.Native.Nat.{ℕ, zero, suc, ◌+◌, ◌-◌, ◌*◌, ◌<◌, ◌≤◌}
use native.Mathlib.Numerals.{sub-one}
use native.Mathlib.Omega.{arith}
use lib.ListN.{length, get_or, drop}
use Rattle.definition.specs.Types as d
use Rattle.definition.specs.Types.{Struct, Result, ok, err, refused, ◌>>=◌, too_deep}
use Rattle.definition.specs.Store.{type_at, loc_of, args_at, with_structs, get, insert, next_tvar}
use Rattle.definition.specs.Join as j
use Rattle.definition.specs.Join.{VarL, VarR, arm, join_impl, join_tvar, join_unbound}
use Rattle.definition.specs.Subst.{links}
use Rattle.definition.specs.Links.{LinksImpl, links_after, merge_opens, links_tvar, links_types, links_fresh, links_arm, links_impl}
use Rattle.theorems.proofs.Links.{merge_is}
use Rattle.names.specs.declared.TVar.{TVar}
use Rattle.table.specs.State.{Any, outcome, seen, args_of}
use Rattle.table.specs.Did.{held, tables, Became, Did}
use Rattle.table.specs.declared.Node.{Node}
use Rattle.table.specs.declared.Applied.{Applied}
use Rattle.table.specs.declared.state.State.{State}
use Rattle.table.specs.declared.state.Stop.{Stop}
use Rattle.table.specs.declared.state.Stop.TheVariants.{Failed, Refused}
use Rattle.table.proofs.Grown.{loc_is, value_is}
use Rattle.table.proofs.Walk.{placed_length}
use Rattle.table.specs.Rows.{places}
use Rattle.arms.specs.Arms.{case_of, links_by_arm}
use Rattle.arms.specs.declared.TypingCase.{TypingCase}
use Rattle.arms.specs.declared.Arm.{Arm}
use Rattle.arms.specs.declared.Arm.TheVariants.{Lhs, Rhs, Refs, Applies, Vars, VarLhs, VarRhs, SubtypeError, ArityMismatch, Incompatible, Disagree}
use Rattle.merge.specs.Merge.{ThenMerge, Inner, open_tvar, open_types, open_ends, opened, Opens, show_both, close_tvar, meet_tvar, met, Meets, FewFor, Follows}
use Rattle.merge.specs.declared.Merging.{Merging}
use Rattle.join.specs.declared.Types.{Types}
use Rattle.join.proofs.Args.{inner, Gathering, is1, is2}
use Rattle.join.proofs.Operands.{Chosen}

abbrev pub inner_links : ℕ → LinksImpl
inner_links left = λ s c l r. links_impl left s c l r

-- ---- links that are handed on

few_any : {A : Type 0} (r : core.Result A Stop) (a n : ℕ) → n ≤ 2048 * a → FewFor r a n
few_any (Ok x) a n l = l
few_any (Err e) a n l = tt

-- none are followed
pub follows_none : {A : Type 0} {s v : State} {x : core.Result A Stop} {n : ℕ} (g : d.State → ℕ) → ((ds : List Struct) → 0 ≡ g (held s ds)) → n ≤ 2048 * s.used.vars → s.used.vars ≤ v.used.vars → Follows s v x n n g
follows_none {v = v} {x = x} {n = n} g e l m = record { is = λ ds. let z = e ds in omega (arith, z); few = few_any x v.used.vars n (omega arith) }

module _ {A : Type 0} {s t v : State} {n n' : ℕ} {f : d.State → ℕ} (g : d.State → ℕ) (e : (ds : List Struct) → f (held t ds) ≡ g (held s ds)) where
  -- .. by what comes last
  pub follows_last : {x : core.Result A Stop} → Follows t v x n n' f → Follows s v x n n' g
  follows_last a = record { is = λ ds. rw (← e ds) (a.is ds); few = a.few }

  module _ {B : Type 0} where
    -- .. by what fails
    pub follows_fail : {p : State} {x : Stop} {y : core.Result B Stop} → Follows {A = A} t p (Err x) n n' f → y ≡ Err x → Follows s v y n n' g
    follows_fail a q = rw q record { is = λ ds. rw (← e ds) (a.is ds); few = tt }

    -- .. by what is not the last
    pub follows_then : {p : State} {x : A} {y : core.Result B Stop} → Follows t p (Ok x) n n' f → p.used.vars ≤ v.used.vars → Follows s v y n n' g
    follows_then {p} {y = y} a l = let z : n' ≤ 2048 * p.used.vars = a.few in record { is = λ ds. rw (← e ds) (a.is ds); few = few_any y v.used.vars n' (omega arith) }

-- ---- where something follows

none_after : (F : d.State × ℕ → ℕ) (e : Stop) (x : d.State) → links_after (outcome (Err e) x) F ≡ 0
unfolding links_after outcome
none_after F (Failed e) x = refl
none_after F (Refused r) x = refl

module _ {s t : State} {f : d.State → Result (d.State × ℕ)} (F : d.State × ℕ → ℕ) (ds : List Struct) where
  pub after_ok : {p : ℕ} → Became Any s t (outcome (Ok p)) f → links_after (f (held s ds)) F ≡ F (held t ds, p)
  unfolding links_after outcome
  after_ok a = ap (λ (m : Result (d.State × ℕ)). links_after m F) (sym (a.step.is ds tt))

  pub after_err : (e : Stop) → Became Any s t (outcome (Err e)) f → links_after (f (held s ds)) F ≡ 0
  after_err e a = ap (λ (m : Result (d.State × ℕ)). links_after m F) (sym (a.step.is ds tt)) ∙ none_after F e (held t ds)

-- ---- the merge

-- what goes on after a merge was opened
abbrev OpenedLinks : core.Result Merging Stop → d.State → (d.State → ℕ → ℕ → ℕ) → ℕ
OpenedLinks (Ok m) x F = F x m.ty1 m.ty2
OpenedLinks (Err e) x F = 0

-- told by what an inner call that is refused, and one that fails, make of it
opened_by : (r : core.Result Merging Stop) (T : d.State) (F : d.State → ℕ → ℕ → ℕ) (M : Result (d.State × ℕ × ℕ × ℕ × ℕ))
    → opened r T (λ s a b c e. refused too_deep) ≡ (M >>= λ (o : d.State × ℕ × ℕ × ℕ × ℕ). refused too_deep)
    → opened r T (λ s a b c e. err s (d.SubtypeError a b)) ≡ (M >>= λ (o : d.State × ℕ × ℕ × ℕ × ℕ). err o.0 (d.SubtypeError o.1 o.2))
    → links_after M (λ (o : d.State × ℕ × ℕ × ℕ × ℕ). F o.0 o.1 o.2) ≡ OpenedLinks r T F
unfolding opened outcome ◌>>=◌ links_after
opened_by (Ok m) T F (ok o) e0 e1 =
    let a : T ≡ o.0 = cc in
    let b : m.ty1 ≡ o.1 = cc in
    let c : m.ty2 ≡ o.2 = cc in
    rw (a, b, c) refl
opened_by (Ok m) T F (err s x) e0 e1 = cc
opened_by (Ok m) T F (refused x) e0 e1 = cc
opened_by (Err (Failed x)) T F (ok o) e0 e1 = cc
opened_by (Err (Refused x)) T F (ok o) e0 e1 = cc
opened_by (Err e) T F (err s x) e0 e1 = refl
opened_by (Err e) T F (refused x) e0 e1 = refl

module _ (loc1 id1 loc2 id2 : ℕ) where
  -- join_tvar, whatever the inner call is, opens the merge as the definition's own part does
  opens_as : (J : j.JoinImpl) (s : d.State)
      → open_tvar (λ s ty1 ty2 new var2. J s j.Join ty1 ty2 >>= (λ x. close_tvar x.0 ty1 id1 ty2 loc2 id2 new var2 x.1)) s loc1 id1 loc2 id2 ≡ join_tvar J s j.Join loc1 id1 loc2 id2
  unfolding open_tvar open_types open_ends close_tvar show_both join_tvar
  opens_as J s = refl

  module _ {s t : State} {r : core.Result Merging Stop} (a : Opens s t r (λ x k. open_tvar k x loc1 id1 loc2 id2)) where
    opens_links : (F : d.State → ℕ → ℕ → ℕ) (ds : List Struct) → links_after (merge_opens (held s ds) loc1 id1 loc2 id2) (λ (o : d.State × ℕ × ℕ × ℕ × ℕ). F o.0 o.1 o.2) ≡ OpenedLinks r (held t ds) F
    unfolding ◌>>=◌
    opens_links F ds =
        let by : (J : j.JoinImpl) → _ = λ J. ap (λ (g : Inner → Result (d.State × ℕ)). g (λ s ty1 ty2 new var2. J s j.Join ty1 ty2 >>= (λ x. close_tvar x.0 ty1 id1 ty2 loc2 id2 new var2 x.1))) (a.changed.step.is ds tt)
        ∙ opens_as J (held s ds) ∙ merge_is J (held s ds) j.Join loc1 id1 loc2 id2 in
        opened_by r (held t ds) F (merge_opens (held s ds) loc1 id1 loc2 id2) (by (λ s c l r. refused too_deep)) (by (λ s c l r. err s (d.SubtypeError l r)))

abbrev both_chains : ℕ → ℕ → d.State → ℕ
both_chains id1 id2 = λ z. links z id1 + links z id2

abbrev tvar_links : ℕ → j.TypingCase → ℕ → ℕ → ℕ → ℕ → d.State → ℕ
tvar_links left case loc1 id1 loc2 id2 = λ z. links_tvar (inner_links left) z case loc1 id1 loc2 id2

module _ (left : ℕ) (case : j.TypingCase) (loc1 id1 loc2 id2 : ℕ) {s t : State} {n m : ℕ} where
  -- it is not opened
  pub tvar_links_err : {x : Stop} {y : core.Result ℕ Stop} → Opens s t (Err x) (λ x k. open_tvar k x loc1 id1 loc2 id2) → Follows {A = Merging} s t (Err x) n m (both_chains id1 id2) → y ≡ Err x → Follows s t y n m (tvar_links left case loc1 id1 loc2 id2)
  unfolding links_tvar
  tvar_links_err o a q = follows_fail (tvar_links left case loc1 id1 loc2 id2) (λ ds. let z = opens_links loc1 id1 loc2 id2 o (λ s a b. links_impl left s case a b) ds in omega (arith, z)) a q

  -- and the inner call
  module _ {g : Merging} (o : Opens s t (Ok g) (λ x k. open_tvar k x loc1 id1 loc2 id2)) (a : Follows {A = Merging} s t (Ok g) n m (both_chains id1 id2)) {v : State} {p : ℕ} where
    both_and : {x : core.Result ℕ Stop} → Follows t v x m p (λ z. links_impl left z case g.ty1 g.ty2) → (ds : List Struct) → p ≡ n + tvar_links left case loc1 id1 loc2 id2 (held s ds)
    unfolding links_tvar
    both_and b ds = let z = opens_links loc1 id1 loc2 id2 o (λ s a b. links_impl left s case a b) ds in let x = a.is ds in let y = b.is ds in omega (arith, x, y, z)

    pub tvar_links_fail : {w : State} {x : Stop} {y : core.Result ℕ Stop} → Follows {A = ℕ} t v (Err x) m p (λ z. links_impl left z case g.ty1 g.ty2) → y ≡ Err x → Follows s w y n p (tvar_links left case loc1 id1 loc2 id2)
    tvar_links_fail b q = rw q record { is = both_and b; few = tt }

    pub tvar_links_then : {w : State} {x : ℕ} {y : core.Result ℕ Stop} → Follows {A = ℕ} t v (Ok x) m p (λ z. links_impl left z case g.ty1 g.ty2) → v.used.vars ≤ w.used.vars → Follows s w y n p (tvar_links left case loc1 id1 loc2 id2)
    tvar_links_then {w} {y = y} b l = let z : p ≤ 2048 * v.used.vars = b.few in record { is = both_and b; few = few_any y w.used.vars p (omega arith) }

-- ---- a variable meets another type

abbrev MetLinks : core.Result (Option TVar) Stop → d.State → (d.State → ℕ → ℕ) → ℕ
MetLinks (Ok None) x F = 0
MetLinks (Ok (Some v)) x F = F x v.0
MetLinks (Err e) x F = 0

met_by : (var other : ℕ) (r : core.Result (Option TVar) Stop) (T : d.State) (F : d.State → ℕ → ℕ) (o : Option ℕ) (U M : Result (d.State × ℕ))
    → met var r T (λ s n. refused too_deep) ≡ elim o [ None ↦ U | Some y ↦ (M >>= λ (x : d.State × ℕ). refused too_deep) ]
    → met var r T (λ s n. err s (d.RecursiveType n)) ≡ elim o [ None ↦ U | Some y ↦ (M >>= λ (x : d.State × ℕ). err (insert x.0 x.1 other) (d.RecursiveType x.1)) ]
    → elim o [ None ↦ 0 | Some y ↦ links_after M (λ (x : d.State × ℕ). F (insert x.0 x.1 other) x.1) ] ≡ MetLinks r T F
unfolding met outcome ◌>>=◌ links_after
met_by var other (Ok None) T F None U M e0 e1 = refl
met_by var other (Ok (Some v)) T F None U M e0 e1 = cc
met_by var other (Err e) T F None U M e0 e1 = refl
met_by var other (Ok None) T F (Some y) U (ok x) e0 e1 = cc
met_by var other (Ok (Some v)) T F (Some y) U (ok x) e0 e1 =
    let a : T ≡ insert x.0 x.1 other = cc in
    let b : v.0 ≡ x.1 = cc in
    rw (a, b) refl
met_by var other (Err (Failed z)) T F (Some y) U (ok x) e0 e1 = cc
met_by var other (Err (Refused z)) T F (Some y) U (ok x) e0 e1 = cc
met_by var other (Ok None) T F (Some y) U (err s x) e0 e1 = refl
met_by var other (Ok (Some v)) T F (Some y) U (err s x) e0 e1 = cc
met_by var other (Err z) T F (Some y) U (err s x) e0 e1 = refl
met_by var other (Ok None) T F (Some y) U (refused x) e0 e1 = refl
met_by var other (Ok (Some v)) T F (Some y) U (refused x) e0 e1 = cc
met_by var other (Err z) T F (Some y) U (refused x) e0 e1 = refl

meets_links : {s t : State} {var : ℕ} {r : core.Result (Option TVar) Stop} (lhs rhs id other : ℕ) → Meets s t var r (λ x k. meet_tvar k x lhs rhs var id other) → (F : d.State → ℕ → ℕ) (ds : List Struct)
    → elim (get (held s ds) id) [ None ↦ 0 | Some y ↦ links_fresh (held s ds) (λ z new. F (insert z new other) new) ] ≡ MetLinks r (held t ds) F
unfolding meet_tvar links_fresh
meets_links {s} {t} {var} {r} lhs rhs id other a F ds =
    met_by var other r (held t ds) F (get (held s ds) id) (join_unbound (held s ds) lhs rhs var id other) (next_tvar (held s ds))
    (ap (λ (g : ThenMerge → Result (d.State × ℕ)). g (λ s n. refused too_deep)) (a.changed.step.is ds tt))
    (ap (λ (g : ThenMerge → Result (d.State × ℕ)). g (λ s n. err s (d.RecursiveType n))) (a.changed.step.is ds tt))

-- ---- the operand walk

pub deep_links : (left : ℕ) (case : j.TypingCase) (s : d.State) (lhs rhs : ℕ) → left ≡ 0 → 0 ≡ links_impl left s case lhs rhs
unfolding links_impl
deep_links left case s lhs rhs e = rw e refl

links_more : (left : ℕ) (case : j.TypingCase) (s : d.State) (lhs rhs : ℕ) → (left ≡ 0 → ⊥) → links_arm (inner (left - 1)) (inner_links (left - 1)) s case lhs rhs (arm (type_at s lhs) (type_at s rhs)) ≡ links_impl left s case lhs rhs
unfolding links_impl
links_more zero case s lhs rhs h = absurd (h refl)
links_more (suc n) case s lhs rhs h = rw (sub-one (suc n)) refl

-- the arms below which no merge is
abbrev Silent : Arm → Type 0
Silent Lhs = Unit {0}
Silent Rhs = Unit {0}
Silent (Refs side mut t1 t2) = ⊥
Silent (Applies t1 t2) = ⊥
Silent (Vars id1 id2) = ⊥
Silent (VarLhs id) = ⊥
Silent (VarRhs id) = ⊥
Silent SubtypeError = Unit {0}
Silent ArityMismatch = Unit {0}
Silent Incompatible = Unit {0}
Silent Disagree = Unit {0}

silent_is : (J : j.JoinImpl) (L : LinksImpl) (s : d.State) (case : j.TypingCase) (lhs rhs : ℕ) (b : Arm) → Silent b → 0 ≡ links_by_arm J L s case lhs rhs b
unfolding links_by_arm
silent_is J L s case lhs rhs Lhs q = refl
silent_is J L s case lhs rhs Rhs q = refl
silent_is J L s case lhs rhs (Refs side mut t1 t2) q = absurd q
silent_is J L s case lhs rhs (Applies t1 t2) q = absurd q
silent_is J L s case lhs rhs (Vars id1 id2) q = absurd q
silent_is J L s case lhs rhs (VarLhs id) q = absurd q
silent_is J L s case lhs rhs (VarRhs id) q = absurd q
silent_is J L s case lhs rhs SubtypeError q = refl
silent_is J L s case lhs rhs ArityMismatch q = refl
silent_is J L s case lhs rhs Incompatible q = refl
silent_is J L s case lhs rhs Disagree q = refl

module _ {left : ℕ} {case : TypingCase} {s : State} {lhs rhs : ℕ} {l r : Node} {a : Arm} (h : Chosen left case s lhs rhs l r a) where
  abbrev impl_links : d.State → ℕ
  impl_links = λ z. links_impl left z (case_of case) lhs rhs

  links_by : (b : Arm) → a ≡ b → (ds : List Struct) → links_by_arm (inner (left - 1)) (inner_links (left - 1)) (held s ds) (case_of case) lhs rhs b ≡ links_impl left (held s ds) (case_of case) lhs rhs
  links_by b e ds =
      rw (← e)
      (sym (h.takes.links (inner (left - 1)) (inner_links (left - 1)) (held s ds) lhs rhs)
      ∙ (rw (value_is (held s ds) lhs l (h.lhs_is ds), value_is (held s ds) rhs r (h.rhs_is ds)) (links_more left (case_of case) (held s ds) lhs rhs h.more)))

  pub silent : (b : Arm) → a ≡ b → Silent b → {x : core.Result ℕ Stop} {n : ℕ} → n ≤ 2048 * s.used.vars → Follows s s x n n impl_links
  silent b e q f = follows_none impl_links (λ ds. silent_is (inner (left - 1)) (inner_links (left - 1)) (held s ds) (case_of case) lhs rhs b q ∙ links_by b e ds) f (omega arith)

  pub refs_links : {side mut : Bool} {t1 t2 : ℕ} → a ≡ Refs side mut t1 t2 → (ds : List Struct) → links_impl (left - 1) (held s ds) (case_of case) t1 t2 ≡ impl_links (held s ds)
  unfolding links_by_arm
  refs_links {side} {mut} {t1} {t2} e ds = links_by (Refs side mut t1 t2) e ds

  pub applies_links : {t1 t2 : Applied} → a ≡ Applies t1 t2 → (ds : List Struct)
      → links_types (inner (left - 1)) (inner_links (left - 1)) (held s ds) (case_of case) (args_at (held s ds) (args_of t1)) (args_at (held s ds) (args_of t2)) ≡ impl_links (held s ds)
  unfolding links_by_arm
  applies_links {t1} {t2} e ds = links_by (Applies t1 t2) e ds

  pub vars_links : {id1 id2 : TVar} → a ≡ Vars id1 id2 → (ds : List Struct) → links_tvar (inner_links (left - 1)) (held s ds) (case_of case) l.loc id1.0 r.loc id2.0 ≡ impl_links (held s ds)
  unfolding links_by_arm
  vars_links {id1} {id2} e ds = rw (loc_is (held s ds) lhs l (h.lhs_is ds), loc_is (held s ds) rhs r (h.rhs_is ds)) (links_by (Vars id1 id2) e ds)

  module _ {id : TVar} {t : State} {x : core.Result (Option TVar) Stop} where
    pub left_links : a ≡ VarLhs id → Meets s t lhs x (λ z k. meet_tvar k z lhs rhs lhs id.0 rhs) → (ds : List Struct)
        → MetLinks x (held t ds) (λ z new. links_tvar (inner_links (left - 1)) z (case_of case) l.loc id.0 r.loc new) ≡ impl_links (held s ds)
    unfolding links_by_arm links_arm
    left_links e m ds =
        rw (loc_is (held s ds) lhs l (h.lhs_is ds), loc_is (held s ds) rhs r (h.rhs_is ds))
        (sym (meets_links lhs rhs id.0 rhs m (λ z new. links_tvar (inner_links (left - 1)) z (case_of case) (loc_of (held s ds) lhs) id.0 (loc_of (held s ds) rhs) new) ds) ∙ links_by (VarLhs id) e ds)

    pub right_links : a ≡ VarRhs id → Meets s t rhs x (λ z k. meet_tvar k z lhs rhs rhs id.0 lhs) → (ds : List Struct)
        → MetLinks x (held t ds) (λ z new. links_tvar (inner_links (left - 1)) z (case_of case) l.loc new r.loc id.0) ≡ impl_links (held s ds)
    unfolding links_by_arm links_arm
    right_links e m ds =
        rw (loc_is (held s ds) lhs l (h.lhs_is ds), loc_is (held s ds) rhs r (h.rhs_is ds))
        (sym (meets_links lhs rhs id.0 lhs m (λ z new. links_tvar (inner_links (left - 1)) z (case_of case) (loc_of (held s ds) lhs) new (loc_of (held s ds) rhs) id.0) ds) ∙ links_by (VarRhs id) e ds)

-- ---- the argument walk

abbrev args_in : State → Applied → List ℕ
args_in s t = args_at (tables s) (args_of t)

abbrev all_links : ℕ → j.TypingCase → Applied → Applied → d.State → ℕ
all_links left case t1 t2 = λ x. links_types (inner left) (inner_links left) x case (args_at x (args_of t1)) (args_at x (args_of t2))

-- n₀ links were followed before the loop, and n after i arguments; the rest follow the rest
pub record Summing (left : ℕ) (case : j.TypingCase) (t1 t2 : Applied) (s₀ s : State) (n₀ n i : ℕ) : Type 0 where
  pub is : (ds : List Struct) → n + links_types (inner left) (inner_links left) (held s ds) case (drop i (args_in s₀ t1)) (drop i (args_in s₀ t2)) ≡ n₀ + links_types (inner left) (inner_links left) (held s₀ ds) case (args_in s₀ t1) (args_in s₀ t2)
  pub few : n ≤ 2048 * s.used.vars

module _ {left : ℕ} {case : j.TypingCase} {t1 t2 : Applied} {s₀ : State} {n₀ : ℕ} where
  pub sum_none : n₀ ≤ 2048 * s₀.used.vars → Summing left case t1 t2 s₀ s₀ n₀ n₀ 0
  sum_none l = record { is = λ ds. refl; few = l }

  module _ {many : ℕ} {s : State} {tys : List ℕ} {i n : ℕ} (g : Gathering left case t1 t2 many s₀ s tys i) (u : Summing left case t1 t2 s₀ s n₀ n i) where
    long1 : length (args_in s₀ t1) ≡ t1.many
    long1 = placed_length s₀.words.now s₀.used t1.first t1.many g.args1.placed

    long2 : length (args_in s₀ t2) ≡ t2.many
    long2 = placed_length s₀.words.now s₀.used t2.first t2.many g.args2.placed

    module _ (lt : i < many) {ty1 ty2 : ℕ}
        (read1 : (ds : List Struct) (m : ℕ) → i < m → ty1 ≡ get_or (args_at (held s ds) (places t1.first m)) i 0)
        (read2 : (ds : List Struct) (m : ℕ) → i < m → ty2 ≡ get_or (args_at (held s ds) (places t2.first m)) i 0) where
      goes_on : (ds : List Struct) → links_types (inner left) (inner_links left) (held s ds) case (drop i (args_in s₀ t1)) (drop i (args_in s₀ t2))
          ≡ links_impl left (held s ds) case ty1 ty2
          + links_after (join_impl left (held s ds) case ty1 ty2) (λ (r : d.State × ℕ). links_types (inner left) (inner_links left) r.0 case (drop (i + 1) (args_in s₀ t1)) (drop (i + 1) (args_in s₀ t2)))
      unfolding links_types
      goes_on ds =
          rw (drop_more (args_in s₀ t1) i 0 (omega (arith, g.fewer, long1)), drop_more (args_in s₀ t2) i 0 (omega (arith, g.fewer, long2)), is1 g lt read1 read2, is2 g lt read1 read2) refl

      pub sum_err : {t : State} {n' : ℕ} {e : Stop} {r : core.Result Types Stop} → Did s t (Err e) (λ x. join_impl left x case ty1 ty2) → Follows {A = ℕ} s t (Err e) n n' (λ x. links_impl left x case ty1 ty2) → r ≡ Err e
          → Follows s₀ t r n₀ n' (all_links left case t1 t2)
      unfolding args_at seen with_structs
      sum_err {e = e} step a q = rw q record {
        is = λ ds.
            let x = goes_on ds in
            let y = after_err (λ (r : d.State × ℕ). links_types (inner left) (inner_links left) r.0 case (drop (i + 1) (args_in s₀ t1)) (drop (i + 1) (args_in s₀ t2))) ds e step.changed in
            let z = u.is ds in
            let w = a.is ds in
            omega (arith, x, y, z, w);
        few = tt;
      }

      pub sum_more : {t : State} {n' p : ℕ} → Did s t (Ok p) (λ x. join_impl left x case ty1 ty2) → Follows {A = ℕ} s t (Ok p) n n' (λ x. links_impl left x case ty1 ty2) → Summing left case t1 t2 s₀ t n₀ n' (i + 1)
      sum_more {t} step a = record {
        is = λ ds.
            let x = goes_on ds in
            let y = after_ok (λ (r : d.State × ℕ). links_types (inner left) (inner_links left) r.0 case (drop (i + 1) (args_in s₀ t1)) (drop (i + 1) (args_in s₀ t2))) ds step.changed in
            let z = u.is ds in
            let w = a.is ds in
            omega (arith, x, y, z, w);
        few = a.few;
      }

    none_left : many ≤ i → (s : d.State) → links_types (inner left) (inner_links left) s case (drop i (args_in s₀ t1)) (drop i (args_in s₀ t2)) ≡ 0
    unfolding links_types
    none_left no_more s = by (drop i (args_in s₀ t1)) (drop i (args_in s₀ t2)) (λ l. drop_all i (args_in s₀ t1) (omega (arith, l, long1))) (λ l. drop_all i (args_in s₀ t2) (omega (arith, l, long2)))
      where
        by : (l m : List ℕ) → (t1.many ≤ i → l ≡ []) → (t2.many ≤ i → m ≡ []) → links_types (inner left) (inner_links left) s case l m ≡ 0
        by [] m a b = refl
        by (x ∷ l) [] a b = refl
        by (x ∷ l) (y ∷ m) a b = elim (native.Mathlib.Decide.dec_le t1.many i) [ yes k ↦ absurd (let z = a k in cc) | no k ↦ absurd (let z = b (omega (arith, g.fewer)) in cc) ]

    pub sum_all : many ≤ i → {r : core.Result Types Stop} → Follows s₀ s r n₀ n (all_links left case t1 t2)
    unfolding args_at seen with_structs
    sum_all no_more {r} = record { is = λ ds. let x = u.is ds in let y = none_left no_more (held s ds) in omega (arith, x, y); few = few_any r s.used.vars n u.few }
