-- Steps after which no variable reaches itself if none did before: bindings that lead to nothing bound. Assumes nothing.
-- `Calm` goes from step to step. A binding keeps it where what is bound to meets no bound variable (`Dead`); the merge ties two chain ends to an unbound one.
use mathlib.Core.Path.{◌≡◌, refl, sym, ap, ◌∙◌, subst}
use mathlib.Core.Logic.{◌⊎◌, inl, inr}
use mathlib.Core.List.Memᴰ
use mathlib.Core.List.{[], Memᴰ}
use Rattle.std.specs.Prelude.{None, Some}
use Prim.Native.Nat.{ℕ, ◌<◌}
use native.Mathlib.Decide.{ℕ_discrete}
use native.Mathlib.Omega.{arith}
use Rattle.definition.specs.Types.{TypeName, TypeValue, Var, State}
use Rattle.definition.specs.Store.{count, taken, type_at, get, insert}
use Rattle.definition.specs.Subst.{as_var, parts}
use Rattle.definition.specs.Rank.{Meets, meets_it, meets_bound, meets_part, NoneReachesItself}
use Rattle.theorems.proofs.Laws.{get_insert_same, get_insert_other, value_insert}
use Rattle.theorems.proofs.DemandTracks.{never, nonvar_var}
use Rattle.theorems.proofs.DemandOrder.{Sound}
use Rattle.theorems.proofs.DemandMerge.{Ready, tied, val, tied_cases}
use Rattle.theorems.proofs.TotalFinite.{all_at}

pub record Calm (S S' : State) : Type 0 where
  pub none_still : NoneReachesItself S → NoneReachesItself S'

pub calm_refl : (S : State) → Calm S S
calm_refl S = record { none_still = λ n. n }

pub calm_trans : {S S' S'' : State} → Calm S S' → Calm S' S'' → Calm S S''
calm_trans a b = record { none_still = λ n. b.none_still (a.none_still n) }

-- reading the shape meets no bound variable
abbrev pub Dead : State → TypeValue → Type 0
Dead S L = (v t : ℕ) → get S v ≡ Some t → ¬ Meets S v L

pub dead_leaf : (S : State) (L : TypeValue) → as_var L ≡ None → parts L ≡ [] → Dead S L
dead_leaf S L e n v t g (meets_it) = nonvar_var {v = v} e refl
dead_leaf S L e n v t g (meets_bound {w = w} g' m) = nonvar_var {v = w} e refl
dead_leaf S L e n v t g (meets_part {p = p} i m) = let j : Memᴰ p [] = rw n at i in Memᴰ.not-nil j

pub dead_open : (S : State) (w : ℕ) → get S w ≡ None → Dead S (Var w)
unfolding parts
dead_open S w e v t g meets_it = never (cc)
dead_open S w e v t g (meets_bound g' m) = never (cc)
dead_open S w e v t g (meets_part i m) = Memᴰ.not-nil i

module _ {ar : TypeName → ℕ} {S S' : State} (s : Sound ar S) (kept : (i : ℕ) → i < count S → type_at S' i ≡ type_at S i)
    (bindings : (v t : ℕ) → get S' v ≡ Some t → (get S v ≡ Some t) ⊎ Dead S' (type_at S' t)) where
  back : {v t : ℕ} {L : TypeValue} → get S' v ≡ Some t → Meets S' v L → (q : ℕ) → q < count S → type_at S q ≡ L → Meets S v L
  back b meets_it q h e = meets_it
  back {v} {t} b (meets_bound {w = w} {t = u} g m) q h e = elim (bindings w u g) [
    | inl g' ↦ let l : u < count S = s.bind_in w u g' in meets_bound g' (subst (λ (x : TypeValue). Meets S v x) (kept u l) (back b m u l (sym (kept u l))))
    | inr d ↦ absurd (d v t b m)
  ]
  back {v} {t} {L} b (meets_part {p = p} i m) q h e =
      let l : p < q = all_at (λ x. x < q) (parts (type_at S q)) (s.parts_below q h) p (rw e i) in
      let l' : p < count S = omega arith in
      meets_part i (subst (λ (x : TypeValue). Meets S v x) (kept p l') (back b m p l' (sym (kept p l'))))

  kept_none : NoneReachesItself S → NoneReachesItself S'
  kept_none n v t = elim (bindings v t.binding t.bound) [
    | inl g ↦ let l : t.binding < count S = s.bind_in v t.binding g in
        n v (record { binding = t.binding; bound = g; again = subst (λ (x : TypeValue). Meets S v x) (kept t.binding l) (back t.bound t.again t.binding l (sym (kept t.binding l))) })
    | inr d ↦ d v t.binding t.bound t.again
  ]

  pub calm : Calm S S'
  calm = record { none_still = kept_none }

-- bindings as they were
pub calm_same : {ar : TypeName → ℕ} {S : State} → Sound ar S → (S' : State) → ((i : ℕ) → i < count S → type_at S' i ≡ type_at S i) → ((v : ℕ) → get S' v ≡ get S v) → Calm S S'
calm_same s S' kept same = calm s kept (λ v t g. inl (sym (same v) ∙ g))

pub insert_cases : (S : State) (v t w u : ℕ) → v < taken S → get (insert S v t) w ≡ Some u → (u ≡ t) ⊎ (get S w ≡ Some u)
insert_cases S v t w u h e = elim (ℕ_discrete w v) [
  | yes d ↦ inl (let a : get (insert S v t) v ≡ Some u = rw d at e in let b = get_insert_same S v t h in cc)
  | no d ↦ inr (sym (get_insert_other S v t w d) ∙ e)
]

-- a binding to what meets no bound variable
pub calm_insert : {ar : TypeName → ℕ} {S : State} → Sound ar S → (v t : ℕ) → v < taken S → Dead (insert S v t) (type_at S t) → Calm S (insert S v t)
calm_insert {S = S} s v t h d = calm s (λ i l. value_insert S v t i) (λ w u e. elim (insert_cases S v t w u h e) [
  | inl c ↦ inr (subst (λ (x : TypeValue). Dead (insert S v t) x) (sym (value_insert S v t u ∙ ap (type_at S) c)) d)
  | inr g ↦ inl g
])

-- both chain ends bound to a variable without binding
pub calm_tied : {ar : TypeName → ℕ} {S P : State} {e1 e2 f n1 n2 : ℕ} (y : Ready ar S P e1 e2 f n1 n2) → get (tied y) f ≡ None → Calm P (tied y)
calm_tied {P = P} {f = f} {n1 = n1} {n2 = n2} y free = calm y.sound (λ i l. val y i) (λ w u e. elim (tied_cases y w u e) [
  | inl c ↦ inr (at_f u (val y u ∙ ap (type_at P) c ∙ y.is1))
  | inr (inl c) ↦ inr (at_f u (val y u ∙ ap (type_at P) c ∙ y.is2))
  | inr (inr g) ↦ inl g
])
  where
    at_f : (u : ℕ) → type_at (tied y) u ≡ Var f → Dead (tied y) (type_at (tied y) u)
    at_f u e = subst (λ (x : TypeValue). Dead (tied y) x) (sym e) (dead_open (tied y) f free)
