-- CN's spelling: it has no locations, and is as long as what RD writes. Assumes nothing.
use mathlib.Core.Path.{◌≡◌, refl, sym, ap, ◌∙◌}
use mathlib.Core.List.{List, [], ◌∷◌}
use Prim.Native.Nat.{ℕ, zero, suc, ◌+◌}
use lib.ListN.{length, length-append}
use Rattle.definition.specs.Types.{State, TypeValue, UnitType, Ref, Param, Apply, Var, Anything, UnresolvedError, TypeName, Multiple, Builtin, ModuleType, AbilityMark}
use Rattle.definition.specs.Store.{count, type_at, loc_of, spanned}
use Rattle.definition.specs.Subst.{parts}
use Rattle.definition.specs.Write.{Bytes, u16, u32, apply_head, head, each, write_down, write_spanned, write}
use Rattle.definition.specs.Canonical.{numbered, meet_in, Spelled, spell_each, spell, canonical}
use Rattle.theorems.proofs.Erase.{erase, count_erase, value_erase}

-- ---- R-4

each_same : (f g : List ℕ → ℕ → Spelled) → ((met : List ℕ) (t : ℕ) → f met t ≡ g met t) → (met ts : List ℕ) → spell_each f met ts ≡ spell_each g met ts
unfolding spell_each
each_same f g h met [] = refl
each_same f g h met (t ∷ ts) = rw (h met t, each_same f g h (g met t).met ts) refl

module _ (s : State) where
  spell_erase : (n : ℕ) (met : List ℕ) (t : ℕ) → spell n (erase s) met t ≡ spell n s met t
  unfolding spell
  spell_erase zero met t = refl
  spell_erase (suc n) met t = rw (value_erase s t, each_same _ _ (λ m p. spell_erase n m p) (meet_in met (type_at s t)) (parts (type_at s t))) refl

  pub canonical_erase : (t : ℕ) → canonical (erase s) t ≡ canonical s t
  unfolding canonical
  canonical_erase t = ap (λ (n : ℕ). (spell (suc n) (erase s) [] t).bytes) (count_erase s) ∙ ap (λ (x : Spelled). x.bytes) (spell_erase (suc (count s)) [] t)

-- ---- as long as RD's payload

add_same : {a b c d : ℕ} → a ≡ b → c ≡ d → a + c ≡ b + d
add_same p q = rw (p, q) refl

name_length : (loc : ℕ) (k : AbilityMark) (n : TypeName) → length (apply_head 0 k n) ≡ length (apply_head loc k n)
unfolding apply_head u16 u32
name_length loc k (Multiple len) = refl
name_length loc k (Builtin b) = refl
name_length loc k (ModuleType m) = refl

head_length : (loc : ℕ) (met : List ℕ) (t : TypeValue) → length (head 0 (numbered met t)) ≡ length (head loc t)
unfolding head numbered u16 u32
head_length loc met UnitType = refl
head_length loc met (Ref m t) = refl
head_length loc met (Param id a) = refl
head_length loc met (Apply k n tys) = name_length loc k n
head_length loc met (Var v) = refl
head_length loc met Anything = refl
head_length loc met UnresolvedError = refl

each_length : (f : List ℕ → ℕ → Spelled) (g : ℕ → Bytes) → ((met : List ℕ) (t : ℕ) → length (f met t).bytes ≡ length (g t)) → (met ts : List ℕ) → length (spell_each f met ts).bytes ≡ length (each g ts)
unfolding spell_each each
each_length f g h met [] = refl
each_length f g h met (t ∷ ts) = length-append (f met t).bytes (spell_each f (f met t).met ts).bytes
    ∙ add_same (h met t) (each_length f g h (f met t).met ts) ∙ sym (length-append (g t) (each g ts))

spell_length : (n : ℕ) (s : State) (met : List ℕ) (t : ℕ) → length (spell n s met t).bytes ≡ length (write_down n s (spanned s t))
unfolding spell write_down spanned
spell_length zero s met t = refl
spell_length (suc n) s met t =
    let below : ℕ → Bytes = λ p. write_down n s (spanned s p) in
    length-append (head 0 (numbered met (type_at s t))) _
    ∙ add_same (head_length (loc_of s t) met (type_at s t)) (each_length _ below (λ m p. spell_length n s m p) (meet_in met (type_at s t)) (parts (type_at s t)))
    ∙ sym (length-append (head (loc_of s t) (type_at s t)) _)

-- 14 falls together
pub canonical_length : (s : State) (t : ℕ) → length (canonical s t) ≡ length (write s t)
unfolding canonical write write_spanned
canonical_length s t = spell_length (suc (count s)) s [] t
