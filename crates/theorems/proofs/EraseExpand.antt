-- XP's type and codes with all locations set to 0 are those that it shows, with their location fields set to 0. Assumes nothing.
-- Its payload is told apart by the declared arities, so that it is the state of a record that was read (`Fitting` in EraseWrite).
use mathlib.Core.Path.{◌≡◌, refl, sym, ap, ◌∙◌}
use mathlib.Core.Bool.{Bool, true, false}
use mathlib.Core.List.{List, [], ◌∷◌, ◌++◌, append_assoc, append-nil}
use Rattle.std.specs.Prelude.{Option, None, Some}
use Prim.Native.Nat.{ℕ, zero, suc, ◌*◌}
use lib.ListN.{length, replicate}
use Rattle.definition.specs.Types.{TypeName, Multiple, Builtin, ModuleType, UnitType, Ref, Param, Apply, Var, Anything, UnresolvedError, TypeValue, State, Refusal, runs_into_itself, Result, ok, refused, ◌>>=◌}
use Rattle.definition.specs.Store.{count, type_at, loc_of, get}
use Rattle.definition.specs.Subst.{parts, forward_tvar, reaches_itself}
use Rattle.definition.specs.Write.{Bytes, u32, head}
use Rattle.definition.specs.Abilities.{infer_abilities}
use Rattle.definition.specs.Expand.{Expanded, uninferred, expand_types, under, expand_marked, expand_value, expand as expand_down, expand_type}
use Rattle.definition.specs.Locations.{Part, type, codes, loc_field, expand, blank}
use Rattle.theorems.proofs.Erase.{erase, count_erase, value_erase, loc_erase}
use Rattle.theorems.proofs.EraseJoin.{end_get, itself_erase}
use Rattle.theorems.proofs.EraseAbilities.{abilities_erase}
use Rattle.theorems.proofs.EraseWrite.{Fits, head_type, Fitting}

module _ (S : State) where
  -- the bytes of x with locations set to 0 are those of x', whatever follows; `row` is what is awaited for its type
  pub record BlankedTo (row : List Part) (x x' : Expanded) : Type 0 where
    pub type_is : (rest : Bytes) (more : List Part) → blank S (x.type ++ rest) (row ++ more) ≡ x'.type ++ blank S rest more
    pub codes_are : (rest : Bytes) → blank S (x.codes ++ rest) (codes ∷ []) ≡ x'.codes ++ blank S rest (codes ∷ [])

  pub data Both (row : List Part) : Result Expanded → Result Expanded → Type 0 where
    both_ok : {x x' : Expanded} → BlankedTo row x x' → Both row (ok x) (ok x')
    both_refused : {e : Refusal} → Both row (refused e) (refused e)

  -- ---- types one after the other

  rows_blank : (row : List Part) (a b a' b' : Bytes) → ((rest : Bytes) (more : List Part) → blank S (a ++ rest) (type ∷ more) ≡ a' ++ blank S rest more)
      → ((rest : Bytes) (more : List Part) → blank S (b ++ rest) (row ++ more) ≡ b' ++ blank S rest more)
      → (rest : Bytes) (more : List Part) → blank S ((a ++ b) ++ rest) (type ∷ row ++ more) ≡ (a' ++ b') ++ blank S rest more
  rows_blank row a b a' b' p q rest more = rw (append_assoc a b rest, append_assoc a' b' (blank S rest more)) (p (b ++ rest) (row ++ more) ∙ ap (λ (l : Bytes). a' ++ l) (q rest more))

  codes_blank : (a b a' b' : Bytes) → ((rest : Bytes) → blank S (a ++ rest) (codes ∷ []) ≡ a' ++ blank S rest (codes ∷ [])) → ((rest : Bytes) → blank S (b ++ rest) (codes ∷ []) ≡ b' ++ blank S rest (codes ∷ []))
      → (rest : Bytes) → blank S ((a ++ b) ++ rest) (codes ∷ []) ≡ (a' ++ b') ++ blank S rest (codes ∷ [])
  codes_blank a b a' b' p q rest = rw (append_assoc a b rest, append_assoc a' b' (blank S rest (codes ∷ []))) (p (b ++ rest) ∙ ap (λ (l : Bytes). a' ++ l) (q rest))

  abbrev after_both : Expanded → Expanded → Expanded
  after_both first rest = record { type = first.type ++ rest.type; codes = first.codes ++ rest.codes }

  then_both : {row : List Part} {m m' n n' : Result Expanded} → Both (type ∷ []) m m' → Both row n n'
      → Both (type ∷ row) (m >>= λ (first : Expanded). n >>= λ (rest : Expanded). ok (after_both first rest)) (m' >>= λ (first : Expanded). n' >>= λ (rest : Expanded). ok (after_both first rest))
  unfolding ◌>>=◌
  then_both {row} (both_ok {x = x} {x' = x'} p) (both_ok {x = y} {x' = y'} q) = both_ok (record {
    type_is = rows_blank row x.type y.type x'.type y'.type p.type_is q.type_is;
    codes_are = codes_blank x.codes y.codes x'.codes y'.codes p.codes_are q.codes_are;
  })
  then_both (both_ok p) both_refused = both_refused
  then_both both_refused q = both_refused

  types_both : (f f' : ℕ → Result Expanded) → ((t : ℕ) → Both (type ∷ []) (f t) (f' t)) → (ts : List ℕ) → Both (replicate (length ts) type) (expand_types f ts) (expand_types f' ts)
  unfolding expand_types
  types_both f f' h [] = both_ok (record { type_is = λ rest more. refl; codes_are = λ rest. refl })
  types_both f f' h (t ∷ ts) = then_both (h t) (types_both f f' h ts)

  -- ---- one level

  under_blank : (l : ℕ) (x : TypeValue) → Fits S x → (a a' : Expanded) → BlankedTo (replicate (length (parts x)) type) a a'
      → BlankedTo (type ∷ []) (record { type = head l x ++ a.type; codes = a.codes }) (record { type = head 0 x ++ a'.type; codes = a'.codes })
  under_blank l x h a a' p = record {
    type_is = λ rest more. rw (append_assoc (head l x) a.type rest, append_assoc (head 0 x) a'.type (blank S rest more)) (
        head_type S l x h (a.type ++ rest) more ∙ ap (λ (b : Bytes). head 0 x ++ b) (p.type_is rest more));
    codes_are = p.codes_are;
  }

  under_both : (l : ℕ) (x : TypeValue) → Fits S x → {m m' : Result Expanded} → Both (replicate (length (parts x)) type) m m' → Both (type ∷ []) (under (head l x) m) (under (head 0 x) m')
  unfolding under ◌>>=◌
  under_both l x h (both_ok {x = a} {x' = a'} p) = both_ok (under_blank l x h a a' p)
  under_both l x h both_refused = both_refused

  leaf_blank : (l : ℕ) (x : TypeValue) → Fits S x → length (parts x) ≡ 0 → BlankedTo (type ∷ []) (record { type = head l x; codes = [] }) (record { type = head 0 x; codes = [] })
  leaf_blank l x h e = record { type_is = λ rest more. head_type S l x h rest more ∙ ap (λ (n : ℕ). head 0 x ++ blank S rest (replicate n type ++ more)) e; codes_are = λ rest. refl }

  leaf_both : (l : ℕ) (x : TypeValue) → Fits S x → length (parts x) ≡ 0 → Both (type ∷ []) (ok (record { type = head l x; codes = [] })) (ok (record { type = head 0 x; codes = [] }))
  leaf_both l x h e = both_ok (leaf_blank l x h e)

  open_both : (l : ℕ) → Both (type ∷ []) (ok (record { type = head l UnresolvedError; codes = uninferred l })) (ok (record { type = head 0 UnresolvedError; codes = uninferred 0 }))
  unfolding uninferred u32 blank expand loc_field parts
  open_both l = both_ok (record { type_is = λ rest more. head_type S l UnresolvedError tt rest more; codes_are = λ rest. refl })

  marked_both : (n : TypeName) {row : List Part} {m m' : Result Expanded} → Both row m m' → Both row (expand_marked n m) (expand_marked n m')
  unfolding expand_marked
  marked_both (Builtin b) p = p
  marked_both (Multiple len) p = both_refused
  marked_both (ModuleType m) p = both_refused

  module _ (s : State) (f f' : ℕ → Result Expanded) (h : (t : ℕ) → Both (type ∷ []) (f t) (f' t)) where
    var_both : (l : ℕ) (o o' : Option ℕ) → o' ≡ o → Both (type ∷ []) (elim o [ None ↦ ok (record { type = head l UnresolvedError; codes = uninferred l }) | Some t ↦ f t ])
        (elim o' [ None ↦ ok (record { type = head 0 UnresolvedError; codes = uninferred 0 }) | Some t ↦ f' t ])
    var_both l None o' e = rw e (open_both l)
    var_both l (Some t) o' e = rw e (h t)

    name_both : (l set set' : ℕ) (n : TypeName) (tys : List ℕ) → set' ≡ set → Fits S (Apply None n tys)
        → Both (type ∷ []) (under (head l (Apply (Some set) n tys)) (expand_types f tys)) (under (head 0 (Apply (Some set') n tys)) (expand_types f' tys))
    unfolding parts
    name_both l set set' n tys e q = rw e (under_both l (Apply (Some set) n tys) q (types_both f f' h tys))

    value_both : (ty l : ℕ) (x : TypeValue) → Fits S x → Both (type ∷ []) (expand_value f s ty l x) (expand_value f' (erase s) ty 0 x)
    unfolding expand_value parts
    value_both ty l UnitType q = leaf_both l UnitType tt refl
    value_both ty l UnresolvedError q = leaf_both l UnresolvedError tt refl
    value_both ty l Anything q = leaf_both l Anything tt refl
    value_both ty l (Param id a) q = leaf_both l (Param id a) tt refl
    value_both ty l (Ref m t) q = under_both l (Ref m t) tt (one (h t))
      where
        one : {m m' : Result Expanded} → Both (type ∷ []) m m' → Both (replicate 1 type) m m'
        one p = p
    value_both ty l (Var v) q = var_both l (get s (forward_tvar s v)) (get (erase s) (forward_tvar (erase s) v)) (end_get s v)
    value_both ty l (Apply (Some set) n tys) q = marked_both n (under_both l (Apply (Some set) n tys) q (types_both f f' h tys))
    value_both ty l (Apply None n tys) q = name_both l (infer_abilities s ty) (infer_abilities (erase s) ty) n tys (abilities_erase s ty) q

  module _ (s : State) (w : Fitting S s) where
    down_both : (n ty : ℕ) → Both (type ∷ []) (expand_down n s ty) (expand_down n (erase s) ty)
    unfolding expand_down
    down_both zero ty = both_refused
    down_both (suc n) ty = rw (value_erase s ty, loc_erase s ty) (value_both s (λ t. expand_down n s t) (λ t. expand_down n (erase s) t) (λ t. down_both n t) ty (loc_of s ty) (type_at s ty) (w.fits ty))

    tested_both : (n n' ty : ℕ) (b b' : Bool) → b' ≡ b → n' ≡ n
        → Both (type ∷ []) (elim b [ true ↦ refused runs_into_itself | false ↦ expand_down (2 * n) s ty ]) (elim b' [ true ↦ refused runs_into_itself | false ↦ expand_down (2 * n') (erase s) ty ])
    tested_both n n' ty true b' e e' = rw e both_refused
    tested_both n n' ty false b' e e' = rw (e, e') (down_both (2 * n) ty)

    pub type_both : (ty : ℕ) → Both (type ∷ []) (expand_type s ty) (expand_type (erase s) ty)
    unfolding expand_type
    type_both ty = tested_both (count s) (count (erase s)) ty (reaches_itself s ty) (reaches_itself (erase s) ty) (itself_erase s ty) (count_erase s)

  -- the payload
  pub whole_blank : {x x' : Expanded} → BlankedTo (type ∷ []) x x' → x'.type ++ x'.codes ≡ blank S (x.type ++ x.codes) (type ∷ codes ∷ [])
  unfolding blank
  whole_blank {x} {x'} p = sym (p.type_is x.codes (codes ∷ []) ∙ ap (λ (b : Bytes). x'.type ++ b) (ends (p.codes_are [])))
    where
      ends : blank S (x.codes ++ []) (codes ∷ []) ≡ x'.codes ++ [] → blank S x.codes (codes ∷ []) ≡ x'.codes
      ends e = rw (append-nil x.codes, append-nil x'.codes) at e
