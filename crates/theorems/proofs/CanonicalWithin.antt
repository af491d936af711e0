-- R-12: what CN spells of a record that was read in a sound state is within its fields, so that it is read in one way. Assumes nothing.
use mathlib.Core.Path.{◌≡◌, refl, ap, ◌∙◌}
use mathlib.Core.Bool.{Bool, true, false}
use mathlib.Core.List.Memᴰ
use mathlib.Core.List.{List, [], ◌∷◌, Memᴰ}
use Prim.Native.Nat.{ℕ, suc, ◌+◌, ◌≤◌, ◌<◌}
use native.Mathlib.Omega.{arith}
use lib.ListN.{length, length-append, length-map}
use lib.Dec.{eqb, ltb, ltb→lt}
use Rattle.std.specs.Prelude.{if◌then◌else◌}
use Rattle.definition.specs.Types.{State, TypeValue, TypeName, Multiple, Builtin, ModuleType, AbilityMark}
use Rattle.definition.specs.Store.{type_at}
use Rattle.definition.specs.Rank.{ReadType, any, unresolved, unit, open_var, parameter, reference, named, ReadTypes, no_types, ◌and◌}
use Rattle.definition.specs.Trees.{arity, is_set}
use Rattle.definition.specs.Sound.{is_u32}
use Rattle.definition.specs.Canonical.{number_of, meet}
use Rattle.definition.specs.Agree.{rename, rename_all, variables, variables_all, meet_all, met_in}
use Rattle.theorems.proofs.SoundFacts.{and_l, and_r, test}
use Rattle.theorems.proofs.SoundRanges.{ShapeIn, Named}
use Rattle.theorems.proofs.EraseWrite.{NameFits, Fits, Fitting}
use Rattle.theorems.proofs.CanonicalAgree.{numbered as as_numbered, variables_renamed}
use Rattle.theorems.proofs.CanonicalBytes.{plain, plains, NameIn, how_many, Within, in_any, in_error, in_unit, in_var, in_param, in_ref, in_named, AllWithin, in_none, in_each}
use Rattle.theorems.proofs.CanonicalSpelled.{Stands, st_unit, st_any, st_error, st_param, st_var, st_ref, st_named, AllStand, st_none, st_each}

-- ---- numbers are few

number_few : (l : List ℕ) (v : ℕ) → number_of l v ≤ length l
unfolding number_of
number_few [] v = omega arith
number_few (w ∷ l) v = go (eqb w v) (number_few l v)
  where
    go : (b : Bool) → number_of l v ≤ length l → (if b then 0 else suc (number_of l v)) ≤ suc (length l)
    go true h = omega arith
    go false h = omega (arith, h)

meet_few : (l : List ℕ) (v : ℕ) → length (meet l v) ≤ suc (length l)
unfolding meet
meet_few [] v = omega arith
meet_few (w ∷ l) v = go (eqb w v) (meet_few l v)
  where
    go : (b : Bool) → length (meet l v) ≤ suc (length l) → length (if b then w ∷ l else w ∷ meet l v) ≤ suc (suc (length l))
    go true h = omega arith
    go false h = omega (arith, h)

all_few : (l vs : List ℕ) → length (meet_all l vs) ≤ length l + length vs
all_few l [] = omega arith
all_few l (v ∷ vs) = omega (arith, all_few (meet l v) vs, meet_few l v)

mutual
  unfolding variables variables_all plain plains

  few_variables : (r : ReadType) → length (variables r) ≤ length (plain r)
  few_variables any = omega arith
  few_variables unresolved = omega arith
  few_variables unit = omega arith
  few_variables (open_var v) = omega arith
  few_variables (parameter id a) = omega arith
  few_variables (reference m r) = omega (arith, few_variables r)
  few_variables (named k (Builtin b) rs) = omega (arith, few_in_all rs)
  few_variables (named k (Multiple n) rs) = omega (arith, few_in_all rs)
  few_variables (named k (ModuleType n) rs) = omega (arith, few_in_all rs)

  few_in_all : (rs : ReadTypes) → length (variables_all rs) ≤ length (plains rs)
  few_in_all no_types = omega arith
  few_in_all (◌and◌ r rs) = omega (arith, few_variables r, few_in_all rs, length-append (variables r) (variables_all rs), length-append (plain r) (plains rs))

-- no more than the bytes
pub numbers_few : (r : ReadType) (v : ℕ) → number_of (met_in r) v ≤ length (plain (as_numbered r))
numbers_few r v =
    let f : ℕ → ℕ = λ w. number_of (met_in r) w in
    omega (arith, number_few (met_in r) v, all_few [] (variables r), few_variables (as_numbered r), ap (λ (l : List ℕ). length l) (variables_renamed f r), length-map (variables r) f)

-- ---- fields as a sound state has them

how_many_stand : {s : State} {ts : List ℕ} {rs : ReadTypes} → AllStand s ts rs → (f : ℕ → ℕ) → (ar : TypeName → ℕ) → how_many ar (rename_all f rs) ≡ length ts
unfolding rename_all
how_many_stand st_none f ar = refl
how_many_stand (st_each d ds) f ar = ap suc (how_many_stand ds f ar)

name_in : (ar : TypeName → ℕ) (n : TypeName) → NameFits n → NameIn ar n
name_in ar (Builtin b) h = tt
name_in ar (Multiple n) h = tt
name_in ar (ModuleType n) h = h

module _ (S s : State) (w : Fitting S s) (fields : (t : ℕ) → ShapeIn S (type_at s t)) (f : ℕ → ℕ) where
  mutual
    unfolding rename rename_all variables variables_all is_u32

    within : {x : TypeValue} {r : ReadType} → Stands s x r → Fits S x → ShapeIn S x → ((v : ℕ) → Memᴰ v (variables r) → f v < 65536) → Within (arity S) (rename f r)
    within st_unit h i b = in_unit
    within st_any h i b = in_any
    within st_error h i b = in_error
    within (st_param {id = id} {a = a}) h i b = in_param (ltb→lt id 4294967296 (test (and_l (ltb id 4294967296) (is_set a) i)))
    within (st_var {v = v}) h i b = in_var (b v (Memᴰ.head refl))
    within (st_ref {t = t} d) h i b = in_ref (within d (w.fits t) (fields t) b)
    within (st_named {n = n} ds) h i b = in_named (name_in (arity S) n h.1) (how_many_stand ds f (arity S) ∙ h.0) (all_within ds b)

    all_within : {ts : List ℕ} {rs : ReadTypes} → AllStand s ts rs → ((v : ℕ) → Memᴰ v (variables_all rs) → f v < 65536) → AllWithin (arity S) (rename_all f rs)
    all_within st_none b = in_none
    all_within (st_each {t = t} {r = r} {rs = rs} d ds) b = in_each (within d (w.fits t) (fields t) (λ v m. b v (Memᴰ.append_left (variables_all rs) m))) (all_within ds (λ v m. b v (Memᴰ.append_right (variables r) m)))

-- ---- names and sets as a record may have them

mutual
  pub data Shaped (S : State) : ReadType → Type 0 where
    sh_any : Shaped S any
    sh_error : Shaped S unresolved
    sh_unit : Shaped S unit
    sh_var : {v : ℕ} → Shaped S (open_var v)
    sh_param : {id a : ℕ} → is_set a ≡ true → Shaped S (parameter id a)
    sh_ref : {m : Bool} {r : ReadType} → Shaped S r → Shaped S (reference m r)
    sh_named : {k : AbilityMark} {n : TypeName} {rs : ReadTypes} → Named S k n → AllShaped S rs → Shaped S (named k n rs)

  pub data AllShaped (S : State) : ReadTypes → Type 0 where
    sh_none : AllShaped S no_types
    sh_each : {r : ReadType} {rs : ReadTypes} → Shaped S r → AllShaped S rs → AllShaped S (◌and◌ r rs)

module _ (S s : State) (fields : (t : ℕ) → ShapeIn S (type_at s t)) (f : ℕ → ℕ) where
  mutual
    unfolding rename rename_all

    pub shaped : {x : TypeValue} {r : ReadType} → Stands s x r → ShapeIn S x → Shaped S (rename f r)
    shaped st_unit i = sh_unit
    shaped st_any i = sh_any
    shaped st_error i = sh_error
    shaped (st_param {id = id} {a = a}) i = sh_param (and_r (is_u32 id) (is_set a) i)
    shaped st_var i = sh_var
    shaped (st_ref {t = t} d) i = sh_ref (shaped d (fields t))
    shaped (st_named ds) i = sh_named i (all_shaped ds)

    all_shaped : {ts : List ℕ} {rs : ReadTypes} → AllStand s ts rs → AllShaped S (rename_all f rs)
    all_shaped st_none = sh_none
    all_shaped (st_each {t = t} d ds) = sh_each (shaped d (fields t)) (all_shaped ds)

-- of a spelling that fits a payload
pub numbered_within : (S s : State) → Fitting S s → ((t : ℕ) → ShapeIn S (type_at s t)) → (t : ℕ) {r : ReadType} → Stands s (type_at s t) r → length (plain (as_numbered r)) ≤ 4096 → Within (arity S) (as_numbered r)
numbered_within S s w fields t {r} d h = within S s w fields (λ v. number_of (met_in r) v) d (w.fits t) (fields t) (λ v m. omega (arith, numbers_few r v, h))
