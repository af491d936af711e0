-- make_tparams and the joins as walks over places, and the declarations that words and bytes hold. Assumes nothing.
use mathlib.Core.Path.{◌≡◌, refl, sym, ap, ◌∙◌}
use mathlib.Core.Bool.{Bool, true, false}
use mathlib.Core.List.{List, [], ◌∷◌}
use Prim.Native.Nat.{ℕ, zero, suc, ◌≤◌, ◌<◌, ◌%◌, min}
use native.Mathlib.Omega.{arith}
use native.Mathlib.Decide.{dec_lt}
use borrow.Author.Tests.{eq-eqb, ne_eqb}
use lib.ListN.{length, get_or, take, length-take, length-map, length-replicate, get_or-replicate, get_or-map, get_or-eq_default}
use lib.Seq.{get_or-take}
use lib.Dec.{eqb}
use Rattle.definition.specs.Types as d
use Rattle.std.specs.Prelude.{if◌then◌else◌}
use Rattle.definition.specs.Types.{State, Struct, Result, ok, AbilityConstraint, Multiple, Builtin, ModuleType, ◌>>=◌}
use Rattle.definition.specs.Store.{loc_of, sp, add_constraint, with_structs}
use Rattle.definition.specs.Join.{join}
use Rattle.definition.specs.Instantiate.{make_tvar, tvar_constraint, builtin_tparams, struct_tparams, tparam_constraints, make_tparams, join_args}
use Rattle.table.specs.Rows.{struct_table}
use Rattle.table.specs.State.{seen}
use Rattle.table.specs.declared.Used.{Used}
use Rattle.table.proofs.Steps.{bind_ok, bind_assoc}
use Rattle.table.proofs.Walk.{range, rest, just_list, zip_types, zip_is, sp_apply}
use Rattle.table.specs.Known.{Known}
use Rattle.instantiate.specs.Known.{Numbered, ability_at}
use Rattle.instantiate.specs.Args.{make_tparam, joined}

-- ---- as walks over places

-- argument i gets its variable
unfoldable pub tparam_by : ℕ → d.TypeName → List ℕ → List (List ℕ) → State → ℕ → Result (State × ℕ)
tparam_by loc n tys params s i = make_tparam s loc n (get_or tys i 0) (ability_at params n i)

-- variable i is joined with argument i
unfoldable pub join_by : List ℕ → List ℕ → State → ℕ → Result (State × ℕ)
join_by tvars tys s i = join s (get_or tvars i 0) (get_or tys i 0)

abbrev cons : ℕ → State × List ℕ → Result (State × List ℕ)
cons t p = ok (p.0, t ∷ p.1)

tparam_then : {A : Type 0} (s : State) (loc : ℕ) (n : d.TypeName) (ty c : ℕ) (g : State × ℕ → Result A)
    → (make_tparam s loc n ty c >>= g) ≡ (make_tvar s (loc_of s ty) >>= (λ p. add_constraint p.0 (AbilityConstraint loc p.1 c) >>= (λ s. add_constraint s (tvar_constraint n loc p.1) >>= (λ s. g (s, p.1)))))
unfolding make_tparam ◌>>=◌
tparam_then s loc n ty c g =
    bind_assoc (make_tvar s (loc_of s ty)) _ g
    ∙ ap (λ (h : State × ℕ → Result _). make_tvar s (loc_of s ty) >>= h) (λ i p. listed p.0 p.1 i)
  where
    listed : (s : State) (t : ℕ) → (add_constraint s (AbilityConstraint loc t c) >>= (λ s. add_constraint s (tvar_constraint n loc t) >>= (λ s. ok (s, t))) >>= g)
        ≡ (add_constraint s (AbilityConstraint loc t c) >>= (λ s. add_constraint s (tvar_constraint n loc t) >>= (λ s. g (s, t))))
    listed s t =
        bind_assoc (add_constraint s (AbilityConstraint loc t c)) _ g
        ∙ ap (λ (h : State → Result _). add_constraint s (AbilityConstraint loc t c) >>= h) (λ i s. bind_assoc (add_constraint s (tvar_constraint n loc t)) (λ s. ok (s, t)) g i)

-- both lists are gone through together
tparams_zip : (loc : ℕ) (n : d.TypeName) (l m : List ℕ) (s : State) → zip_types (λ s ty c. make_tparam s loc n ty c) s l m ≡ make_tparams s loc n l m
unfolding zip_types make_tparams
tparams_zip loc n [] m s = refl
tparams_zip loc n (x ∷ l) [] s = refl
tparams_zip loc n (x ∷ l) (y ∷ m) s =
    ap (λ (g : State × ℕ → Result (State × List ℕ)). make_tparam s loc n x y >>= g) (λ i r. tparams_zip loc n l m r.0 i >>= cons r.1)
    ∙ tparam_then s loc n x y (λ r. make_tparams r.0 loc n l m >>= cons r.1)

joins_zip : (l m : List ℕ) (s : State) → zip_types join s l m ≡ join_args s l m
unfolding zip_types join_args
joins_zip [] m s = refl
joins_zip (x ∷ l) [] s = refl
joins_zip (x ∷ l) (y ∷ m) s = ap (λ (g : State × ℕ → Result (State × List ℕ)). join s x y >>= g) (λ i r. joins_zip l m r.0 i >>= cons r.1)

pub tparams_are : (loc : ℕ) (n : d.TypeName) (tys abilities : List ℕ) (params : List (List ℕ)) (k : ℕ) (s : State) → k ≡ min (length tys) (length abilities) → ((i : ℕ) → i < length abilities → get_or abilities i 0 ≡ ability_at params n i)
    → rest (tparam_by loc n tys params) just_list [] (range 0 k) s ≡ make_tparams s loc n tys abilities
unfolding tparam_by
tparams_are loc n tys abilities params k s e q =
    zip_is (λ s ty c. make_tparam s loc n ty c) (tparam_by loc n tys params) just_list k tys abilities s e (λ i s lt. ap (λ (c : ℕ). make_tparam s loc n (get_or tys i 0) c) (q i (omega arith)))
    ∙ bind_ok (zip_types (λ s ty c. make_tparam s loc n ty c) s tys abilities)
    ∙ tparams_zip loc n tys abilities s

-- the joins of the first a of tvars and the first b of tys, then the node
pub joins_are : (loc : ℕ) (k : d.AbilityMark) (n : d.TypeName) (tvars tys : List ℕ) (a b c : ℕ) (s : State) → a ≤ length tvars → b ≤ length tys → c ≡ min a b
    → rest (join_by tvars tys) (sp_apply loc k n) [] (range 0 c) s ≡ joined loc k n (take a tvars) (take b tys) s
unfolding joined sp_apply join_by
joins_are loc k n tvars tys a b c s p q e =
    zip_is join (join_by tvars tys) (sp_apply loc k n) c (take a tvars) (take b tys) s (rw (length-take, length-take) (omega arith))
    (λ i s lt. rw (get_or-take a tvars i 0 (omega arith), get_or-take b tys i 0 (omega arith)) refl)
    ∙ ap (λ (m : Result (State × List ℕ)). m >>= (λ r. sp r.0 loc (d.Apply k n r.1))) (joins_zip (take a tvars) (take b tys) s)

-- ---- the declarations that words and bytes hold

module _ (w : List ℕ) (u : Used) (params : List (List ℕ)) (ds : List Struct) (k : Known w u params ds) where
  pub ability_is : (n : d.TypeName) (i : ℕ) → i < length (tparam_constraints (seen w u ds) n) → get_or (tparam_constraints (seen w u ds) n) i 0 ≡ ability_at params n i
  unfolding tparam_constraints ability_at struct_tparams builtin_tparams seen with_structs
  ability_is (Multiple len) i lt = get_or-replicate len i 0 0 (omega (arith, length-replicate {A = ℕ} len 0))
  ability_is (Builtin b) i lt = by (eqb b 5)
    where
      one : (i : ℕ) → get_or {A = ℕ} (0 ∷ []) i 0 ≡ 0
      one zero = refl
      one (suc i) = refl

      by : (c : Bool) → get_or {A = ℕ} (if c then 0 ∷ [] else []) i 0 ≡ 0
      by true = one i
      by false = refl
  ability_is (ModuleType n) i lt =
      get_or-map (λ p. p % 16) (get_or ds n struct_table.blank).params i 0 ∙ ap (λ (x : ℕ). x % 16) (sym (k.bytes n i (rw (length-map (get_or ds n struct_table.blank).params (λ p. p % 16)) at lt)))

  pub is_numbered : u.structs ≤ 256 → (n : d.TypeName) (i : ℕ) → i < length (tparam_constraints (seen w u ds) n) → Numbered n
  unfolding tparam_constraints struct_tparams seen with_structs
  is_numbered few (Multiple len) i lt = tt
  is_numbered few (Builtin b) i lt = tt
  is_numbered few (ModuleType n) i lt = by (dec_lt n 256)
    where
      by : Dec (n < 256) → n < 256
      by (yes y) = y
      by (no no_row) =
          let e : get_or ds n struct_table.blank ≡ struct_table.blank = get_or-eq_default ds struct_table.blank (omega (arith, k.rows.many)) in
          absurd (omega (arith, rw (length-map (get_or ds n struct_table.blank).params (λ p. p % 16), e) at lt))

-- ---- how many parameters a name has

module _ (w : List ℕ) (u : Used) (ds : List Struct) where
  pub count_multiple : (len : ℕ) → len ≡ length (tparam_constraints (seen w u ds) (Multiple len))
  unfolding tparam_constraints
  count_multiple len = sym (length-replicate {A = ℕ} len 0)

  pub count_builtin : (b r : ℕ) → r ≡ length (builtin_tparams b) → r ≡ length (tparam_constraints (seen w u ds) (Builtin b))
  unfolding tparam_constraints
  count_builtin b r e = e

  pub count_struct : (n r : ℕ) → r ≡ length (get_or ds n struct_table.blank).params → r ≡ length (tparam_constraints (seen w u ds) (ModuleType n))
  unfolding tparam_constraints struct_tparams seen with_structs
  count_struct n r e = e ∙ sym (length-map (get_or ds n struct_table.blank).params (λ p. p % 16))

-- a vector has one parameter, no other builtin has any
pub builtin_one : (b : ℕ) → b ≡ 5 → 1 ≡ length (builtin_tparams b)
unfolding builtin_tparams
builtin_one b e = rw (eq-eqb _ _ e) refl

pub builtin_none : (b : ℕ) → (b ≡ 5 → ⊥) → 0 ≡ length (builtin_tparams b)
unfolding builtin_tparams
builtin_none b e = rw (ne_eqb _ _ e) refl
