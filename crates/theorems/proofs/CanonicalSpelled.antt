-- R-12: what CN writes of a type without bound variables is the read type, numbered by first appearance, as bytes; so two such spellings are equal exactly if the types agree. Assumes nothing.
use mathlib.Core.Path.{◌≡◌, refl, sym, ap, ◌∙◌, subst}
use mathlib.Core.Logic.{◌↔◌, ◌⊎◌, inl, inr}
use mathlib.Core.Bool.{Bool, true, false}
use mathlib.Core.List.Memᴰ
use mathlib.Core.List.{List, [], ◌∷◌, ◌++◌, Memᴰ, append-nil}
use Prim.Native.Nat.{ℕ, zero, suc, ◌<◌}
use native.Mathlib.Omega.{arith}
use lib.Dec.{eqb}
use borrow.Author.Tests.{eqb-false, eq-eqb}
use Rattle.std.specs.Prelude.{if◌then◌else◌}
use Rattle.definition.specs.Types.{State, TypeValue, UnitType, Ref, Param, Apply, Var, Anything, UnresolvedError, TypeName, Multiple, Builtin, ModuleType, AbilityMark}
use Rattle.definition.specs.Store.{count, type_at}
use Rattle.definition.specs.Subst.{as_var, parts}
use Rattle.definition.specs.Rank.{ReadType, any, unresolved, unit, open_var, parameter, reference, named, ReadTypes, no_types, ◌and◌}
use Rattle.definition.specs.Write.{Bytes, u16, u32, apply_head, head}
use Rattle.definition.specs.Canonical.{number_of, meet, meet_in, numbered, Spelled, spell_each, spell, canonical}
use Rattle.definition.specs.Agree.{rename, rename_all, variables, variables_all, Agree, meet_all, met_in}
use Rattle.theorems.proofs.DemandOrder.{All}
use Rattle.theorems.proofs.CanonicalAgree.{meet_here, meet_keeps, numbered as as_numbered, numbered_alike}
use Rattle.theorems.proofs.CanonicalBytes.{plain, plains, Within, plain_once}

-- ---- numbers once given stay

-- M begins with the variables of l, in their order
abbrev Goes_on : List ℕ → List ℕ → Type 0
Goes_on l M = (v : ℕ) → Memᴰ v l → number_of M v ≡ number_of l v

head_number : (w v : ℕ) (l : List ℕ) (b : Bool) → eqb w v ≡ b → number_of (w ∷ l) v ≡ (if b then 0 else suc (number_of l v))
unfolding number_of
head_number w v l b e = rw e refl

first_number : (v : ℕ) → number_of [] v ≡ 0
unfolding number_of
first_number v = refl

number_meet : (l : List ℕ) (v : ℕ) → number_of (meet l v) v ≡ number_of l v
unfolding meet
number_meet [] v = head_number v v [] true (eq-eqb v v refl) ∙ sym (first_number v)
number_meet (w ∷ l) v = go (eqb w v) refl (number_meet l v)
  where
    go : (b : Bool) → eqb w v ≡ b → number_of (meet l v) v ≡ number_of l v → number_of (if b then w ∷ l else w ∷ meet l v) v ≡ number_of (w ∷ l) v
    go true e d = refl
    go false e d = head_number w v (meet l v) false e ∙ ap suc d ∙ sym (head_number w v l false e)

meet_goes_on : (l : List ℕ) (v : ℕ) → Goes_on l (meet l v)
unfolding meet
meet_goes_on [] v w m = absurd (Memᴰ.not-nil m)
meet_goes_on (x ∷ l) v w m = go (eqb x v) (eqb x w) refl (Memᴰ.cases_cons m) (λ n. meet_goes_on l v w n)
  where
    later : (c : Bool) → eqb x w ≡ c → (w ≡ x) ⊎ Memᴰ w l → (Memᴰ w l → number_of (meet l v) w ≡ number_of l w) → number_of (x ∷ meet l v) w ≡ number_of (x ∷ l) w
    later true e d h = head_number x w (meet l v) true e ∙ sym (head_number x w l true e)
    later false e (inl d) h = absurd (eqb-false x w e (sym d))
    later false e (inr n) h = head_number x w (meet l v) false e ∙ ap suc (h n) ∙ sym (head_number x w l false e)

    go : (b c : Bool) → eqb x w ≡ c → (w ≡ x) ⊎ Memᴰ w l → (Memᴰ w l → number_of (meet l v) w ≡ number_of l w) → number_of (if b then x ∷ l else x ∷ meet l v) w ≡ number_of (x ∷ l) w
    go true c e d h = refl
    go false c e d h = later c e d h

all_goes_on : (l vs M : List ℕ) → Goes_on (meet_all l vs) M → Goes_on l M
all_goes_on l [] M h w m = h w m
all_goes_on l (v ∷ vs) M h w m = all_goes_on (meet l v) vs M h w (meet_keeps l v w m) ∙ meet_goes_on l v w m

meet_append : (l xs ys : List ℕ) → meet_all l (xs ++ ys) ≡ meet_all (meet_all l xs) ys
meet_append l [] ys = refl
meet_append l (x ∷ xs) ys = meet_append (meet l x) xs ys

-- ---- a type without bound variables
mutual
  pub data Stands (s : State) : TypeValue → ReadType → Type 0 where
    st_unit : Stands s UnitType unit
    st_any : Stands s Anything any
    st_error : Stands s UnresolvedError unresolved
    st_param : {id a : ℕ} → Stands s (Param id a) (parameter id a)
    st_var : {v : ℕ} → Stands s (Var v) (open_var v)
    st_ref : {m : Bool} {t : ℕ} {r : ReadType} → Stands s (type_at s t) r → Stands s (Ref m t) (reference m r)
    st_named : {k : AbilityMark} {n : TypeName} {ts : List ℕ} {rs : ReadTypes} → AllStand s ts rs → Stands s (Apply k n ts) (named k n rs)

  pub data AllStand (s : State) : List ℕ → ReadTypes → Type 0 where
    st_none : AllStand s [] no_types
    st_each : {t : ℕ} {ts : List ℕ} {r : ReadType} {rs : ReadTypes} → Stands s (type_at s t) r → AllStand s ts rs → AllStand s (t ∷ ts) (◌and◌ r rs)

-- the bytes x of a type read as r, with the variables met before it
record SpellsAs (met : List ℕ) (x : Spelled) (vs : List ℕ) (bytes : (ℕ → ℕ) → Bytes) : Type 0 where
  met_is : x.met ≡ meet_all met vs
  bytes_are : (M : List ℕ) → Goes_on (meet_all met vs) M → x.bytes ≡ bytes (λ v. number_of M v)

named_plain : (k : AbilityMark) (n : TypeName) (rs : ReadTypes) → apply_head 0 k n ++ plains rs ≡ plain (named k n rs)
unfolding apply_head u16 u32 plain
named_plain k (Builtin b) rs = refl
named_plain k (Multiple b) rs = refl
named_plain k (ModuleType b) rs = refl

All_of : (P Q : ℕ → Type 0) → ((p : ℕ) → P p → Q p) → (ts : List ℕ) → All P ts → All Q ts
All_of P Q h [] a = tt
All_of P Q h (t ∷ ts) a = (h t a.0, All_of P Q h ts a.1)

same_bytes : {met : List ℕ} {x y : Spelled} {vs : List ℕ} {bytes : (ℕ → ℕ) → Bytes} → x ≡ y → SpellsAs met y vs bytes → SpellsAs met x vs bytes
same_bytes {met} {x} {y} {vs} {bytes} e p = subst (λ (z : Spelled). SpellsAs met z vs bytes) (sym e) p

module _ (s : State) (below : (t : ℕ) → All (λ p. p < t) (parts (type_at s t))) where
  abbrev level_of : ℕ → List ℕ → TypeValue → Spelled
  level_of n met x = record {
    bytes = head 0 (numbered met x) ++ (spell_each (λ m p. spell n s m p) (meet_in met x) (parts x)).bytes;
    met = (spell_each (λ m p. spell n s m p) (meet_in met x) (parts x)).met;
  }

  level_is : (n t : ℕ) (met : List ℕ) → spell (suc n) s met t ≡ level_of n met (type_at s t)
  unfolding spell
  level_is n t met = refl

  level_at : (n t : ℕ) (met : List ℕ) (x : TypeValue) → type_at s t ≡ x → spell (suc n) s met t ≡ level_of n met x
  level_at n t met x e = level_is n t met ∙ ap (λ (y : TypeValue). level_of n met y) e

  parts_in : (n t : ℕ) (x : TypeValue) → type_at s t ≡ x → t < suc n → All (λ p. p < n) (parts x)
  parts_in n t x e h = subst (λ (y : TypeValue). All (λ p. p < n) (parts y)) e (All_of (λ p. p < t) (λ p. p < n) (λ p q. omega (arith, q, h)) (parts (type_at s t)) (below t))

  ref_in : (n t : ℕ) (m : Bool) (p : ℕ) → type_at s t ≡ Ref m p → t < suc n → p < n
  unfolding parts
  ref_in n t m p e h = (parts_in n t (Ref m p) e h).0

  named_in : (n t : ℕ) (k : AbilityMark) (name : TypeName) (ts : List ℕ) → type_at s t ≡ Apply k name ts → t < suc n → All (λ p. p < n) ts
  unfolding parts
  named_in n t k name ts e h = parts_in n t (Apply k name ts) e h

  -- one level, by what its parts are spelled as
  unit_level : (n : ℕ) (met : List ℕ) → SpellsAs met (level_of n met UnitType) (variables unit) (λ f. plain (rename f unit))
  unfolding numbered meet_in as_var parts spell_each head u32 plain rename variables
  unit_level n met = record { met_is = refl; bytes_are = λ M h. refl }

  any_level : (n : ℕ) (met : List ℕ) → SpellsAs met (level_of n met Anything) (variables any) (λ f. plain (rename f any))
  unfolding numbered meet_in as_var parts spell_each head u32 plain rename variables
  any_level n met = record { met_is = refl; bytes_are = λ M h. refl }

  error_level : (n : ℕ) (met : List ℕ) → SpellsAs met (level_of n met UnresolvedError) (variables unresolved) (λ f. plain (rename f unresolved))
  unfolding numbered meet_in as_var parts spell_each head u32 plain rename variables
  error_level n met = record { met_is = refl; bytes_are = λ M h. refl }

  param_level : (n id a : ℕ) (met : List ℕ) → SpellsAs met (level_of n met (Param id a)) (variables (parameter id a)) (λ f. plain (rename f (parameter id a)))
  unfolding numbered meet_in as_var parts spell_each head u32 plain rename variables
  param_level n id a met = record { met_is = refl; bytes_are = λ M h. refl }

  var_bytes : (i j : ℕ) → i ≡ j → head 0 (Var i) ++ [] ≡ plain (open_var j)
  unfolding head u16 u32 plain
  var_bytes i j e = ap (λ (k : ℕ). plain (open_var k)) e

  var_level : (n v : ℕ) (met : List ℕ) → SpellsAs met (level_of n met (Var v)) (variables (open_var v)) (λ f. plain (rename f (open_var v)))
  unfolding numbered meet_in as_var parts spell_each rename variables
  var_level n v met = record { met_is = refl; bytes_are = λ M h. var_bytes (number_of met v) (number_of M v) (sym (h v (meet_here met v) ∙ number_meet met v)) }

  ref_bytes : (m : Bool) (t : ℕ) (l : Bytes) (r : ReadType) → l ≡ plain r → head 0 (Ref m t) ++ (l ++ []) ≡ plain (reference m r)
  unfolding head u32 plain
  ref_bytes m t l r e = rw (append-nil l, e) refl

  ref_level : (n t : ℕ) (m : Bool) (r : ReadType) (met : List ℕ) → SpellsAs met (spell n s met t) (variables r) (λ f. plain (rename f r))
      → SpellsAs met (level_of n met (Ref m t)) (variables (reference m r)) (λ f. plain (rename f (reference m r)))
  unfolding numbered meet_in as_var parts spell_each rename variables
  ref_level n t m r met p = record { met_is = p.met_is; bytes_are = λ M h. ref_bytes m t (spell n s met t).bytes (rename (λ v. number_of M v) r) (p.bytes_are M h) }

  named_level : (n : ℕ) (k : AbilityMark) (name : TypeName) (ts : List ℕ) (rs : ReadTypes) (met : List ℕ) → SpellsAs met (spell_each (λ m p. spell n s m p) met ts) (variables_all rs) (λ f. plains (rename_all f rs))
      → SpellsAs met (level_of n met (Apply k name ts)) (variables (named k name rs)) (λ f. plain (rename f (named k name rs)))
  unfolding numbered meet_in as_var parts head rename variables
  named_level n k name ts rs met p = record {
    met_is = p.met_is;
    bytes_are = λ M h. ap (λ (l : Bytes). apply_head 0 k name ++ l) (p.bytes_are M h) ∙ named_plain k name (rename_all (λ v. number_of M v) rs);
  }

  none_level : (n : ℕ) (met : List ℕ) → SpellsAs met (spell_each (λ m p. spell n s m p) met []) (variables_all no_types) (λ f. plains (rename_all f no_types))
  unfolding spell_each plains rename_all variables_all
  none_level n met = record { met_is = refl; bytes_are = λ M h. refl }

  each_level : (n t : ℕ) (ts : List ℕ) (r : ReadType) (rs : ReadTypes) (met : List ℕ) → SpellsAs met (spell n s met t) (variables r) (λ f. plain (rename f r))
      → SpellsAs (spell n s met t).met (spell_each (λ m p. spell n s m p) (spell n s met t).met ts) (variables_all rs) (λ f. plains (rename_all f rs))
      → SpellsAs met (spell_each (λ m p. spell n s m p) met (t ∷ ts)) (variables_all (◌and◌ r rs)) (λ f. plains (rename_all f (◌and◌ r rs)))
  unfolding spell_each plains rename_all variables_all
  each_level n t ts r rs met p q =
      let together : meet_all (spell n s met t).met (variables_all rs) ≡ meet_all met (variables r ++ variables_all rs) =
      ap (λ (l : List ℕ). meet_all l (variables_all rs)) p.met_is ∙ sym (meet_append met (variables r) (variables_all rs))
      in
      record {
        met_is = q.met_is ∙ together;
        bytes_are = λ M h.
            let later : Goes_on (meet_all (spell n s met t).met (variables_all rs)) M = subst (λ (l : List ℕ). Goes_on l M) (sym together) h in
            let first : Goes_on (meet_all met (variables r)) M = subst (λ (l : List ℕ). Goes_on l M) p.met_is (all_goes_on (spell n s met t).met (variables_all rs) M later) in
            rw (p.bytes_are M first, q.bytes_are M later) refl;
      }

  mutual
    spelled : {x : TypeValue} {r : ReadType} → Stands s x r → (n t : ℕ) → t < n → type_at s t ≡ x → (met : List ℕ) → SpellsAs met (spell n s met t) (variables r) (λ f. plain (rename f r))
    spelled st_unit zero t h e met = absurd (omega (arith, h))
    spelled st_any zero t h e met = absurd (omega (arith, h))
    spelled st_error zero t h e met = absurd (omega (arith, h))
    spelled st_param zero t h e met = absurd (omega (arith, h))
    spelled st_var zero t h e met = absurd (omega (arith, h))
    spelled (st_ref d) zero t h e met = absurd (omega (arith, h))
    spelled (st_named d) zero t h e met = absurd (omega (arith, h))
    spelled st_unit (suc n) t h e met = same_bytes (level_at n t met _ e) (unit_level n met)
    spelled st_any (suc n) t h e met = same_bytes (level_at n t met _ e) (any_level n met)
    spelled st_error (suc n) t h e met = same_bytes (level_at n t met _ e) (error_level n met)
    spelled (st_param {id = id} {a = a}) (suc n) t h e met = same_bytes (level_at n t met _ e) (param_level n id a met)
    spelled (st_var {v = v}) (suc n) t h e met = same_bytes (level_at n t met _ e) (var_level n v met)
    spelled (st_ref {m = m} {t = p} {r = r} d) (suc n) t h e met = same_bytes (level_at n t met _ e) (ref_level n p m r met (spelled d n p (ref_in n t m p e h) refl met))
    spelled (st_named {k = k} {n = name} {ts = ts} {rs = rs} d) (suc n) t h e met = same_bytes (level_at n t met _ e) (named_level n k name ts rs met (spelled_all d n (named_in n t k name ts e h) met))

    spelled_all : {ts : List ℕ} {rs : ReadTypes} → AllStand s ts rs → (n : ℕ) → All (λ p. p < n) ts → (met : List ℕ) → SpellsAs met (spell_each (λ m p. spell n s m p) met ts) (variables_all rs) (λ f. plains (rename_all f rs))
    spelled_all st_none n a met = none_level n met
    spelled_all (st_each {t = t} {ts = ts} {r = r} {rs = rs} d ds) n a met = each_level n t ts r rs met (spelled d n t a.0 refl met) (spelled_all ds n a.1 (spell n s met t).met)

-- ---- two spellings

-- canonical, of a type without bound variables in a state whose parts are smaller
pub canonical_is : (s : State) → ((t : ℕ) → All (λ p. p < t) (parts (type_at s t))) → (t : ℕ) → t < count s → {r : ReadType} → Stands s (type_at s t) r → canonical s t ≡ plain (as_numbered r)
unfolding canonical
canonical_is s below t h {r} d = (spelled s below d (suc (count s)) t (omega (arith, h)) refl []).bytes_are (met_in r) (λ v m. refl)

-- equal exactly if the types agree
pub spellings_agree : (ar : TypeName → ℕ) (r r' : ReadType) → Within ar (as_numbered r) → Within ar (as_numbered r') → (plain (as_numbered r) ≡ plain (as_numbered r')) ↔ Agree r r'
spellings_agree ar r r' w w' = (λ e. (numbered_alike r r').0 (ap (λ (x : ReadType × Bytes). x.0) (plain_once ar w w' [] [] (ap (λ (l : Bytes). l ++ []) e))), λ a. ap plain ((numbered_alike r r').1 a))
