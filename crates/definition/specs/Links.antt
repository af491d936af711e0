-- 02, R-9: how many bindings, from variable to variable, the merges of a join follow up to its answer. Join's join_impl, arm by arm; the names are its.
-- Assumes nothing: these are definitions.
-- Changed from the source that NOTICE names: ported to Rattle.
use Rattle.std.specs.Prelude.{◌&&◌, ◌∷◌, ◌+◌, if◌then◌else◌}
use Rattle.definition.specs.Types.{List, [], None, Some, ℕ, zero, suc, eqb, TypeName, AbilityMark, Var, State, max_depth, Incompatible, RecursiveType, Result, ok, err, refused, ◌>>=◌}
use Rattle.definition.specs.Store.{type_at, loc_of, get, num_loc, need_of, insert, sp, next_tvar}
use Rattle.definition.specs.Subst.{forward_tvar, links}
use Rattle.definition.specs.Join.{TypingCase, Join, join_bind_tvar, JoinImpl, type_of, merge_num, larger, shown, Arm, AnythingL, AnythingR, Units, Refs, Params, Applies, Vars, VarL, VarR, ErrorL, ErrorR, Others, arm, join_mut, same_name, same_mark, join_impl}

-- links_impl, one call deeper
abbrev pub LinksImpl : Type 0
LinksImpl = State → TypingCase → ℕ → ℕ → ℕ

-- what goes on where m succeeds; after an error or a refusal nothing does
unfoldable pub links_after : {A : Type 0} → Result A → (A → ℕ) → ℕ
links_after (ok a) f = f a
links_after (err s e) f = 0
links_after (refused x) f = 0

-- ---- join_tvar, in two
-- up to its inner call: the state that this starts in, its two types, the fresh variable and the result's node
unfoldable pub merge_opens : State → ℕ → ℕ → ℕ → ℕ → Result (State × ℕ × ℕ × ℕ × ℕ)
merge_opens subst loc1 id1 loc2 id2 = do
  let last_id1 = forward_tvar subst id1
  let last_id2 = forward_tvar subst id2
  let num_loc_1 = num_loc subst last_id1
  let num_loc_2 = num_loc subst last_id2
  let need = larger (need_of subst last_id1) (need_of subst last_id2)
  (subst, ty1) ← type_of subst loc1 last_id1
  (subst, ty2) ← type_of subst loc2 last_id2
  (subst, new_tvar) ← next_tvar subst
  (subst, var1) ← sp (merge_num subst num_loc_1 num_loc_2 need new_tvar) loc1 (Var new_tvar)
  (subst, var2) ← sp subst loc2 (Var new_tvar)
  ok (insert (insert subst last_id1 var1) last_id2 var2, ty1, ty2, new_tvar, var2)

-- .. and after it
unfoldable pub merge_closes : ℕ → ℕ → ℕ → State × ℕ × ℕ × ℕ × ℕ → State × ℕ → Result (State × ℕ)
merge_closes id1 loc2 id2 (opened, ty1, ty2, new_tvar, var2) (subst, new_ty) = elim (get subst new_tvar) [
  | Some t ↦ err subst (RecursiveType (loc_of subst t))
  | None ↦ do
    (subst, bound) ← join_bind_tvar subst loc2 new_tvar new_ty
    if bound then ok (subst, var2) else do
      (subst, ty1) ← shown subst ty1 id1
      (subst, ty2) ← shown subst ty2 id2
      err subst (Incompatible ty1 ty2)
]

-- ---- the count
-- both chains of the merge, and then the inner join's
unfoldable pub links_tvar : LinksImpl → State → TypingCase → ℕ → ℕ → ℕ → ℕ → ℕ
links_tvar links_impl subst case loc1 id1 loc2 id2 =
    links subst id1 + links subst id2 + links_after (merge_opens subst loc1 id1 loc2 id2) (λ (opened : State × ℕ × ℕ × ℕ × ℕ). links_impl opened.0 case opened.1 opened.2)

unfoldable pub links_types : JoinImpl → LinksImpl → State → TypingCase → List ℕ → List ℕ → ℕ
links_types join_impl links_impl subst case [] tys2 = 0
links_types join_impl links_impl subst case (ty1 ∷ tys1) [] = 0
links_types join_impl links_impl subst case (ty1 ∷ tys1) (ty2 ∷ tys2) =
    links_impl subst case ty1 ty2 + links_after (join_impl subst case ty1 ty2) (λ (r : State × ℕ). links_types join_impl links_impl r.0 case tys1 tys2)

unfoldable pub links_applies : JoinImpl → LinksImpl → State → TypingCase → AbilityMark → TypeName → List ℕ → AbilityMark → TypeName → List ℕ → ℕ
links_applies join_impl links_impl subst case k1 n1 tys1 k2 n2 tys2 =
    if same_name n1 n2 && same_mark k1 k2 then links_types join_impl links_impl subst case tys1 tys2 else 0

-- a bound variable meets a type: the fresh one that takes it has no links
unfoldable pub links_fresh : State → (State → ℕ → ℕ) → ℕ
links_fresh subst f = links_after (next_tvar subst) (λ (r : State × ℕ). f r.0 r.1)

unfoldable pub links_arm : JoinImpl → LinksImpl → State → TypingCase → ℕ → ℕ → Arm → ℕ
links_arm join_impl links_impl subst case lhs rhs AnythingL = 0
links_arm join_impl links_impl subst case lhs rhs AnythingR = 0
links_arm join_impl links_impl subst case lhs rhs Units = 0
links_arm join_impl links_impl subst case lhs rhs (Refs mut1 t1 mut2 t2) = elim (join_mut case mut1 mut2) [ None ↦ 0 | Some mut ↦ links_impl subst case t1 t2 ]
links_arm join_impl links_impl subst case lhs rhs (Params id1 id2) = 0
links_arm join_impl links_impl subst case lhs rhs (Applies k1 n1 tys1 k2 n2 tys2) = links_applies join_impl links_impl subst case k1 n1 tys1 k2 n2 tys2
links_arm join_impl links_impl subst case lhs rhs (Vars id1 id2) = if eqb id1 id2 then 0 else links_tvar links_impl subst case (loc_of subst lhs) id1 (loc_of subst rhs) id2
links_arm join_impl links_impl subst case lhs rhs (VarL id) = elim (get subst id) [
  | None ↦ 0
  | Some t ↦ links_fresh subst (λ s new_tvar. links_tvar links_impl (insert s new_tvar rhs) case (loc_of subst lhs) id (loc_of subst rhs) new_tvar)
]
links_arm join_impl links_impl subst case lhs rhs (VarR id) = elim (get subst id) [
  | None ↦ 0
  | Some t ↦ links_fresh subst (λ s new_tvar. links_tvar links_impl (insert s new_tvar lhs) case (loc_of subst lhs) new_tvar (loc_of subst rhs) id)
]
links_arm join_impl links_impl subst case lhs rhs ErrorL = 0
links_arm join_impl links_impl subst case lhs rhs ErrorR = 0
links_arm join_impl links_impl subst case lhs rhs Others = 0

unfoldable pub links_impl : ℕ → State → TypingCase → ℕ → ℕ → ℕ
links_impl zero subst case lhs rhs = 0
links_impl (suc depth) subst case lhs rhs =
    links_arm (λ s c l r. join_impl depth s c l r) (λ s c l r. links_impl depth s c l r) subst case lhs rhs (arm (type_at subst lhs) (type_at subst rhs))

unfoldable pub join_links : State → ℕ → ℕ → ℕ
join_links subst lhs rhs = links_impl max_depth subst Join lhs rhs
