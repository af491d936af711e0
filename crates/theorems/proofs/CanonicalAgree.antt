-- R-12: numbering by first appearance, as a renaming of a read type's variables. Two read types are numbered alike exactly if they agree. Assumes nothing.
use mathlib.Core.Path.{◌≡◌, refl, sym, ap, ◌∙◌, subst}
use mathlib.Core.Logic.{◌↔◌, ◌⊎◌, inl, inr}
use mathlib.Core.Bool.{Bool, true, false}
use mathlib.Core.List.{List, [], ◌∷◌, ◌++◌, map, map-append, Memᴰ}
use Prim.Native.Nat.{ℕ, suc}
use lib.ListN.{get_or}
use lib.Dec.{eqb}
use borrow.Author.Tests.{eqb-true, eqb-false, eq-eqb, ne_eqb}
use Rattle.std.specs.Prelude.{if◌then◌else◌}
use Rattle.definition.specs.Rank.{ReadType, any, unresolved, unit, open_var, parameter, reference, named, ReadTypes, no_types, ◌and◌}
use Rattle.definition.specs.Canonical.{number_of, meet}
use Rattle.definition.specs.Agree.{rename, rename_all, variables, variables_all, Agree, meet_all, met_in}

-- ---- renamings

mutual
  unfolding rename rename_all

  pub rename_twice : (f g : ℕ → ℕ) (r : ReadType) → rename g (rename f r) ≡ rename (λ v. g (f v)) r
  rename_twice f g any = refl
  rename_twice f g unresolved = refl
  rename_twice f g unit = refl
  rename_twice f g (open_var v) = refl
  rename_twice f g (parameter id a) = refl
  rename_twice f g (reference m r) = ap (λ (x : ReadType). reference m x) (rename_twice f g r)
  rename_twice f g (named k n rs) = ap (λ (x : ReadTypes). named k n x) (renames_twice f g rs)

  renames_twice : (f g : ℕ → ℕ) (rs : ReadTypes) → rename_all g (rename_all f rs) ≡ rename_all (λ v. g (f v)) rs
  renames_twice f g no_types = refl
  renames_twice f g (◌and◌ r rs) = rw (rename_twice f g r, renames_twice f g rs) refl

mutual
  unfolding rename rename_all variables variables_all

  pub rename_on : (f g : ℕ → ℕ) (r : ReadType) → ((v : ℕ) → Memᴰ v (variables r) → f v ≡ g v) → rename f r ≡ rename g r
  rename_on f g any h = refl
  rename_on f g unresolved h = refl
  rename_on f g unit h = refl
  rename_on f g (open_var v) h = ap open_var (h v (mathlib.Core.List.Memᴰ.head refl))
  rename_on f g (parameter id a) h = refl
  rename_on f g (reference m r) h = ap (λ (x : ReadType). reference m x) (rename_on f g r h)
  rename_on f g (named k n rs) h = ap (λ (x : ReadTypes). named k n x) (renames_on f g rs h)

  renames_on : (f g : ℕ → ℕ) (rs : ReadTypes) → ((v : ℕ) → Memᴰ v (variables_all rs) → f v ≡ g v) → rename_all f rs ≡ rename_all g rs
  renames_on f g no_types h = refl
  renames_on f g (◌and◌ r rs) h = rw (rename_on f g r (λ v m. h v (mathlib.Core.List.Memᴰ.append_left (variables_all rs) m)), renames_on f g rs (λ v m. h v (mathlib.Core.List.Memᴰ.append_right (variables r) m))) refl

mutual
  unfolding rename rename_all

  pub rename_none : (r : ReadType) → rename (λ v. v) r ≡ r
  rename_none any = refl
  rename_none unresolved = refl
  rename_none unit = refl
  rename_none (open_var v) = refl
  rename_none (parameter id a) = refl
  rename_none (reference m r) = ap (λ (x : ReadType). reference m x) (rename_none r)
  rename_none (named k n rs) = ap (λ (x : ReadTypes). named k n x) (renames_none rs)

  renames_none : (rs : ReadTypes) → rename_all (λ v. v) rs ≡ rs
  renames_none no_types = refl
  renames_none (◌and◌ r rs) = rw (rename_none r, renames_none rs) refl

mutual
  unfolding rename rename_all variables variables_all

  pub variables_renamed : (f : ℕ → ℕ) (r : ReadType) → variables (rename f r) ≡ map f (variables r)
  variables_renamed f any = refl
  variables_renamed f unresolved = refl
  variables_renamed f unit = refl
  variables_renamed f (open_var v) = refl
  variables_renamed f (parameter id a) = refl
  variables_renamed f (reference m r) = variables_renamed f r
  variables_renamed f (named k n rs) = all_renamed f rs

  all_renamed : (f : ℕ → ℕ) (rs : ReadTypes) → variables_all (rename_all f rs) ≡ map f (variables_all rs)
  all_renamed f no_types = refl
  all_renamed f (◌and◌ r rs) = rw (variables_renamed f r, all_renamed f rs) (sym (map-append f (variables r) (variables_all rs)))

-- ---- the variables met

pub meet_here : (met : List ℕ) (v : ℕ) → Memᴰ v (meet met v)
unfolding meet
meet_here [] v = mathlib.Core.List.Memᴰ.head refl
meet_here (w ∷ met) v = go (eqb w v) refl (meet_here met v)
  where
    go : (b : Bool) → eqb w v ≡ b → Memᴰ v (meet met v) → Memᴰ v (if b then w ∷ met else w ∷ meet met v)
    go true e m = mathlib.Core.List.Memᴰ.head (sym (eqb-true w v e))
    go false e m = mathlib.Core.List.Memᴰ.tail m

pub meet_keeps : (met : List ℕ) (v w : ℕ) → Memᴰ w met → Memᴰ w (meet met v)
unfolding meet
meet_keeps [] v w m = absurd (mathlib.Core.List.Memᴰ.not-nil m)
meet_keeps (x ∷ met) v w m = go (eqb x v) (mathlib.Core.List.Memᴰ.cases_cons m) (λ n. meet_keeps met v w n)
  where
    go : (b : Bool) → (w ≡ x) ⊎ Memᴰ w met → (Memᴰ w met → Memᴰ w (meet met v)) → Memᴰ w (if b then x ∷ met else x ∷ meet met v)
    go true c h = m
    go false (inl e) h = mathlib.Core.List.Memᴰ.head e
    go false (inr n) h = mathlib.Core.List.Memᴰ.tail (h n)

-- met is v, or was there
meet_cases : (met : List ℕ) (v w : ℕ) → Memᴰ w (meet met v) → (w ≡ v) ⊎ Memᴰ w met
unfolding meet
meet_cases [] v w m = mathlib.Core.List.Memᴰ.cases_cons m
meet_cases (x ∷ met) v w m = go (eqb x v) (λ n. meet_cases met v w n) m
  where
    later : ((w ≡ v) ⊎ Memᴰ w met) → (w ≡ v) ⊎ Memᴰ w (x ∷ met)
    later (inl e) = inl e
    later (inr k) = inr (mathlib.Core.List.Memᴰ.tail k)

    first : (Memᴰ w (meet met v) → (w ≡ v) ⊎ Memᴰ w met) → (w ≡ x) ⊎ Memᴰ w (meet met v) → (w ≡ v) ⊎ Memᴰ w (x ∷ met)
    first h (inl e) = inr (mathlib.Core.List.Memᴰ.head e)
    first h (inr n) = later (h n)

    go : (b : Bool) → (Memᴰ w (meet met v) → (w ≡ v) ⊎ Memᴰ w met) → Memᴰ w (if b then x ∷ met else x ∷ meet met v) → (w ≡ v) ⊎ Memᴰ w (x ∷ met)
    go true h n = inr n
    go false h n = first h (mathlib.Core.List.Memᴰ.cases_cons n)

pub all_keeps : (met vs : List ℕ) (w : ℕ) → Memᴰ w met → Memᴰ w (meet_all met vs)
all_keeps met [] w m = m
all_keeps met (v ∷ vs) w m = all_keeps (meet met v) vs w (meet_keeps met v w m)

pub all_here : (met vs : List ℕ) (w : ℕ) → Memᴰ w vs → Memᴰ w (meet_all met vs)
all_here met [] w m = absurd (mathlib.Core.List.Memᴰ.not-nil m)
all_here met (v ∷ vs) w m = elim (mathlib.Core.List.Memᴰ.cases_cons m) [
  | inl e ↦ all_keeps (meet met v) vs w (subst (λ (x : ℕ). Memᴰ x (meet met v)) (sym e) (meet_here met v))
  | inr n ↦ all_here (meet met v) vs w n
]

all_cases : (met vs : List ℕ) (w : ℕ) → Memᴰ w (meet_all met vs) → Memᴰ w met ⊎ Memᴰ w vs
all_cases met [] w m = inl m
all_cases met (v ∷ vs) w m = go (all_cases (meet met v) vs w m)
  where
    first : (w ≡ v) ⊎ Memᴰ w met → Memᴰ w met ⊎ Memᴰ w (v ∷ vs)
    first (inl e) = inr (mathlib.Core.List.Memᴰ.head e)
    first (inr n) = inl n

    go : Memᴰ w (meet met v) ⊎ Memᴰ w vs → Memᴰ w met ⊎ Memᴰ w (v ∷ vs)
    go (inl n) = first (meet_cases met v w n)
    go (inr n) = inr (mathlib.Core.List.Memᴰ.tail n)

-- at its number stands the variable
pub number_back : (l : List ℕ) (v : ℕ) → Memᴰ v l → get_or l (number_of l v) 0 ≡ v
unfolding number_of
number_back [] v m = absurd (mathlib.Core.List.Memᴰ.not-nil m)
number_back (w ∷ l) v m = go (eqb w v) refl (mathlib.Core.List.Memᴰ.cases_cons m) (λ n. number_back l v n)
  where
    go : (b : Bool) → eqb w v ≡ b → (v ≡ w) ⊎ Memᴰ v l → (Memᴰ v l → get_or l (number_of l v) 0 ≡ v) → get_or (w ∷ l) (if b then 0 else suc (number_of l v)) 0 ≡ v
    go true e c h = eqb-true w v e
    go false e (inl d) h = absurd (eqb-false w v e (sym d))
    go false e (inr n) h = h n

-- ---- numbering does not change under a one_to_one renaming

number_map : (f : ℕ → ℕ) (l : List ℕ) (v : ℕ) → ((w : ℕ) → Memᴰ w l → f w ≡ f v → w ≡ v) → number_of (map f l) (f v) ≡ number_of l v
unfolding number_of
number_map f [] v h = refl
number_map f (w ∷ l) v h = go (eqb w v) refl (number_map f l v (λ x m. h x (mathlib.Core.List.Memᴰ.tail m)))
  where
    go : (b : Bool) → eqb w v ≡ b → number_of (map f l) (f v) ≡ number_of l v → (if eqb (f w) (f v) then 0 else suc (number_of (map f l) (f v))) ≡ (if b then 0 else suc (number_of l v))
    go true e d = rw (eq-eqb (f w) (f v) (ap f (eqb-true w v e))) refl
    go false e d = rw (ne_eqb (f w) (f v) (λ q. eqb-false w v e (h w (mathlib.Core.List.Memᴰ.head refl) q))) (ap suc d)

meet_map : (f : ℕ → ℕ) (l : List ℕ) (v : ℕ) → ((w : ℕ) → Memᴰ w l → f w ≡ f v → w ≡ v) → meet (map f l) (f v) ≡ map f (meet l v)
unfolding meet
meet_map f [] v h = refl
meet_map f (w ∷ l) v h = go (eqb w v) refl (meet_map f l v (λ x m. h x (mathlib.Core.List.Memᴰ.tail m)))
  where
    go : (b : Bool) → eqb w v ≡ b → meet (map f l) (f v) ≡ map f (meet l v) → (if eqb (f w) (f v) then f w ∷ map f l else f w ∷ meet (map f l) (f v)) ≡ map f (if b then w ∷ l else w ∷ meet l v)
    go true e d = rw (eq-eqb (f w) (f v) (ap f (eqb-true w v e))) refl
    go false e d = rw (ne_eqb (f w) (f v) (λ q. eqb-false w v e (h w (mathlib.Core.List.Memᴰ.head refl) q))) (ap (λ (x : List ℕ). f w ∷ x) d)

-- P of all that is met
all_map : (P : ℕ → Type 0) (f : ℕ → ℕ) → ((v w : ℕ) → P v → P w → f v ≡ f w → v ≡ w) → (met vs : List ℕ) → ((w : ℕ) → Memᴰ w met → P w) → ((w : ℕ) → Memᴰ w vs → P w)
    → meet_all (map f met) (map f vs) ≡ map f (meet_all met vs)
all_map P f inj met [] p q = refl
all_map P f inj met (v ∷ vs) p q =
    ap (λ (l : List ℕ). meet_all l (map f vs)) (meet_map f met v (λ w m e. inj w v (p w m) (q v (mathlib.Core.List.Memᴰ.head refl)) e)) ∙ all_map P f inj (meet met v) vs more (λ w m. q w (mathlib.Core.List.Memᴰ.tail m))
  where
    more : (w : ℕ) → Memᴰ w (meet met v) → P w
    more w m = elim (meet_cases met v w m) [ inl e ↦ subst P (sym e) (q v (mathlib.Core.List.Memᴰ.head refl)) | inr n ↦ p w n ]

-- ---- the type as numbered

abbrev pub numbered : ReadType → ReadType
numbered r = rename (λ v. number_of (met_in r) v) r

pub in_met : (r : ReadType) (v : ℕ) → Memᴰ v (variables r) → Memᴰ v (met_in r)
in_met r v m = all_here [] (variables r) v m

pub from_map : (f : ℕ → ℕ) (l : List ℕ) (x : ℕ) → Memᴰ x (map f l) → (v : ℕ) × Memᴰ v l × x ≡ f v
from_map f [] x m = absurd (mathlib.Core.List.Memᴰ.not-nil m)
from_map f (v ∷ l) x m = go (mathlib.Core.List.Memᴰ.cases_cons m) (λ n. from_map f l x n)
  where
    go : (x ≡ f v) ⊎ Memᴰ x (map f l) → (Memᴰ x (map f l) → (w : ℕ) × Memᴰ w l × x ≡ f w) → (w : ℕ) × Memᴰ w (v ∷ l) × x ≡ f w
    go (inl e) h = (v, mathlib.Core.List.Memᴰ.head refl, e)
    go (inr n) h = let y = h n in (y.0, mathlib.Core.List.Memᴰ.tail y.1, y.2)

into_map : (f : ℕ → ℕ) (l : List ℕ) (v : ℕ) → Memᴰ v l → Memᴰ (f v) (map f l)
into_map f [] v m = absurd (mathlib.Core.List.Memᴰ.not-nil m)
into_map f (w ∷ l) v m = elim (mathlib.Core.List.Memᴰ.cases_cons m) [ inl e ↦ mathlib.Core.List.Memᴰ.head (ap f e) | inr n ↦ mathlib.Core.List.Memᴰ.tail (into_map f l v n) ]

module _ (r r' : ReadType) (e : numbered r ≡ numbered r') where
  back : ℕ → ℕ
  back v = get_or (met_in r') (number_of (met_in r) v) 0

  -- a variable of r' has the number
  partner : (v : ℕ) → Memᴰ v (variables r) → (v' : ℕ) × Memᴰ v' (variables r') × number_of (met_in r) v ≡ number_of (met_in r') v'
  partner v m =
      let n : Memᴰ (number_of (met_in r) v) (map (λ v. number_of (met_in r) v) (variables r)) = into_map (λ v. number_of (met_in r) v) (variables r) v m in
      let vars : map (λ v. number_of (met_in r) v) (variables r) ≡ map (λ v. number_of (met_in r') v) (variables r') =
      sym (variables_renamed (λ v. number_of (met_in r) v) r) ∙ ap variables e ∙ variables_renamed (λ v. number_of (met_in r') v) r'
      in
      from_map (λ v. number_of (met_in r') v) (variables r') (number_of (met_in r) v) (subst (λ (l : List ℕ). Memᴰ (number_of (met_in r) v) l) vars n)

  to_agree : Agree r r'
  unfolding back
  to_agree = record {
    renaming = back;
    one_to_one = λ v w m n q.
        let x = partner v m in
        let y = partner w n in
        let bv : back v ≡ x.0 = ap (λ (i : ℕ). get_or (met_in r') i 0) x.2 ∙ number_back (met_in r') x.0 (in_met r' x.0 x.1) in
        let bw : back w ≡ y.0 = ap (λ (i : ℕ). get_or (met_in r') i 0) y.2 ∙ number_back (met_in r') y.0 (in_met r' y.0 y.1) in
        let same : number_of (met_in r) v ≡ number_of (met_in r) w = x.2 ∙ ap (λ (i : ℕ). number_of (met_in r') i) (sym bv ∙ q ∙ bw) ∙ sym y.2 in
        sym (number_back (met_in r) v (in_met r v m)) ∙ ap (λ (i : ℕ). get_or (met_in r) i 0) same ∙ number_back (met_in r) w (in_met r w n);
    renamed =
        sym (rename_twice (λ v. number_of (met_in r) v) (λ i. get_or (met_in r') i 0) r) ∙ ap (λ (x : ReadType). rename (λ i. get_or (met_in r') i 0) x) e
        ∙ rename_twice (λ v. number_of (met_in r') v) (λ i. get_or (met_in r') i 0) r'
        ∙ rename_on _ (λ v. v) r' (λ v m. number_back (met_in r') v (in_met r' v m)) ∙ rename_none r';
  }

from_agree : (r r' : ReadType) → Agree r r' → numbered r ≡ numbered r'
from_agree r r' a = go r' a.renamed
  where
    f : ℕ → ℕ
    f = a.renaming

    none_met : (w : ℕ) → Memᴰ w [] → Memᴰ w (variables r)
    none_met w m = absurd (mathlib.Core.List.Memᴰ.not-nil m)

    met_is : met_in (rename f r) ≡ map f (met_in r)
    met_is = ap (λ (l : List ℕ). meet_all [] l) (variables_renamed f r) ∙ all_map (λ w. Memᴰ w (variables r)) f (λ v w m n q. a.one_to_one v w m n q) [] (variables r) none_met (λ w m. m)

    is_variable : (w : ℕ) → Memᴰ w (met_in r) → Memᴰ w (variables r)
    is_variable w m = elim (all_cases [] (variables r) w m) [ inl n ↦ absurd (mathlib.Core.List.Memᴰ.not-nil n) | inr n ↦ n ]

    go : (x : ReadType) → rename f r ≡ x → numbered r ≡ numbered x
    go x e = subst (λ (y : ReadType). numbered r ≡ numbered y) e (
        rename_on (λ v. number_of (met_in r) v) (λ v. number_of (met_in (rename f r)) (f v)) r
        (λ v m. sym (ap (λ (l : List ℕ). number_of l (f v)) met_is ∙ number_map f (met_in r) v (λ w n q. a.one_to_one w v (is_variable w n) m q)))
        ∙ sym (rename_twice f (λ v. number_of (met_in (rename f r)) v) r))

-- numbered alike exactly if they agree
pub numbered_alike : (r r' : ReadType) → (numbered r ≡ numbered r') ↔ Agree r r'
numbered_alike r r' = (λ e. to_agree r r' e, λ a. from_agree r r' a)

-- ---- to agree is to be of one class

pub agree_refl : (r : ReadType) → Agree r r
agree_refl r = (numbered_alike r r).0 refl

pub agree_sym : (r r' : ReadType) → Agree r r' → Agree r' r
agree_sym r r' a = (numbered_alike r' r).0 (sym ((numbered_alike r r').1 a))

pub agree_trans : (r r' r'' : ReadType) → Agree r r' → Agree r' r'' → Agree r r''
agree_trans r r' r'' a b = (numbered_alike r r'').0 ((numbered_alike r r').1 a ∙ (numbered_alike r' r'').1 b)
