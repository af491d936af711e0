-- R-9 with R-4: the links that a join follows ask no location (`links_impl_erase`, `join_links_erase`). Assumes nothing.
use mathlib.Core.Path.{◌≡◌, refl, ap, ◌∙◌}
use mathlib.Core.List.{List, [], ◌∷◌}
use Prim.Native.Nat.{ℕ, zero, suc}
use Rattle.definition.specs.Types.{Var, State, max_depth, Result}
use Rattle.definition.specs.Store.{taken, type_at, loc_of, get, num_loc, need_of, insert}
use Rattle.definition.specs.Subst.{next_of, forward_tvar, forward_links, links, as_var, links_of}
use Rattle.definition.specs.Join.{TypingCase, Join, JoinImpl, larger, merge_num, join_mut, join_impl}
use Rattle.definition.specs.Join.{Arm, AnythingL, AnythingR, Units, Refs, Params, Applies, Vars, VarL, VarR, ErrorL, ErrorR, Others, arm}
use Rattle.definition.specs.Links.{LinksImpl, merge_opens, links_after, links_tvar, links_types, links_applies, links_fresh, links_arm, links_impl, join_links}
use Rattle.theorems.proofs.Erase.{erase, taken_erase, value_erase, loc_erase, get_erase, num_erase, need_erase, insert_erase, Erased, er_ok, er_err, er_refused, er_bind, sp_erase, next_erase, opt_same}
use Rattle.theorems.proofs.EraseJoin.{next_of_erase, end_erase, type_of_erase, sp_from, merge_erase, both_bound, join_impl_erase}

forward_links_erase : (s : State) (n v : ℕ) → forward_links n (erase s) v ≡ forward_links n s v
unfolding forward_links
forward_links_erase s zero v = refl
forward_links_erase s (suc n) v = opt_same (next_of s v) (next_of (erase s) v) (next_of_erase s v) refl (λ next. ap suc (forward_links_erase s n next))

pub links_erase : (s : State) (v : ℕ) → links (erase s) v ≡ links s v
unfolding links
links_erase s v = ap (λ n. forward_links n (erase s) v) (taken_erase s) ∙ forward_links_erase s (taken s) v

pub links_of_erase : (s : State) (ty : ℕ) → links_of (erase s) ty ≡ links_of s ty
unfolding links_of
links_of_erase s ty = opt_same (as_var (type_at s ty)) (as_var (type_at (erase s) ty)) (ap as_var (value_erase s ty)) refl (λ id. links_erase s id)

after_erase : {A B : Type 0} {h : A → B} {m : Result A} {m' : Result B} → Erased h m m' → (F : A → ℕ) (G : B → ℕ) → ((a : A) → G (h a) ≡ F a) → links_after m' G ≡ links_after m F
unfolding links_after
after_erase (er_ok {a = a} e) F G k = ap G e ∙ k a
after_erase (er_err e d) F G k = refl
after_erase er_refused F G k = refl

abbrev Opened : Type 0
Opened = State × ℕ × ℕ × ℕ × ℕ

abbrev with_opened : Opened → Opened
with_opened o = (erase o.0, o.1, o.2, o.3, o.4)

opened_eq : (s s' : State) (a b c d : ℕ) → s ≡ s' → ◌≡◌ {A = Opened} (s, a, b, c, d) (s', a, b, c, d)
opened_eq s s' a b c d e = rw e refl

opens_erase : (s : State) (l1 l1' id1 l2 l2' id2 : ℕ) → l1' ≡ 0 → l2' ≡ 0 → Erased with_opened (merge_opens s l1 id1 l2 id2) (merge_opens (erase s) l1' id1 l2' id2)
unfolding merge_opens
opens_erase s l1 l1' id1 l2 l2' id2 z1 z2 = rw (end_erase s id1, end_erase s id2, num_erase s (forward_tvar s id1), num_erase s (forward_tvar s id2), need_erase s (forward_tvar s id1), need_erase s (forward_tvar s id2)) (
    let need = larger (need_of s (forward_tvar s id1)) (need_of s (forward_tvar s id2)) in
    let end1 = forward_tvar s id1 in
    let end2 = forward_tvar s id2 in
    er_bind _ _ (type_of_erase s l1 l1' end1 z1) (λ x1.
    er_bind _ _ (type_of_erase x1.0 l2 l2' end2 z2) (λ x2.
    er_bind _ _ (next_erase x2.0) (λ x3.
    er_bind _ _ (sp_from (merge_num x3.0 (num_loc s end1) (num_loc s end2) need x3.1) _ (merge_erase x3.0 (num_loc s end1) (num_loc s end2) need x3.1) l1 l1' (Var x3.1) z1) (λ x4.
    er_bind _ _ (sp_erase x4.0 l2 l2' (Var x3.1) z2) (λ x5.
    er_ok (opened_eq _ _ x1.1 x2.1 x3.1 x5.1 (both_bound x5.0 end1 x4.1 end2 x5.1))))))))

abbrev AlikeLinks : LinksImpl → Type 0
AlikeLinks L = (s : State) (c : TypingCase) (l r : ℕ) → L (erase s) c l r ≡ L s c l r

module _ (d : ℕ) (h : AlikeLinks (λ s c l r. links_impl d s c l r)) where
  abbrev J : JoinImpl
  J s c l r = join_impl d s c l r

  abbrev L : LinksImpl
  L s c l r = links_impl d s c l r

  tvar_erase : (s : State) (c : TypingCase) (l1 l1' id1 l2 l2' id2 : ℕ) → l1' ≡ 0 → l2' ≡ 0 → links_tvar L (erase s) c l1' id1 l2' id2 ≡ links_tvar L s c l1 id1 l2 id2
  unfolding links_tvar
  tvar_erase s c l1 l1' id1 l2 l2' id2 z1 z2 =
      let e = after_erase (opens_erase s l1 l1' id1 l2 l2' id2 z1 z2) (λ (o : Opened). links_impl d o.0 c o.1 o.2) (λ (o : Opened). links_impl d o.0 c o.1 o.2) (λ o. h o.0 c o.1 o.2) in
      rw (links_erase s id1, links_erase s id2, e) refl

  types_erase : (s : State) (c : TypingCase) (ts us : List ℕ) → links_types J L (erase s) c ts us ≡ links_types J L s c ts us
  unfolding links_types
  types_erase s c [] us = refl
  types_erase s c (t ∷ ts) [] = refl
  types_erase s c (t ∷ ts) (u ∷ us) =
      let e = after_erase (join_impl_erase d s c t u) (λ (r : State × ℕ). links_types J L r.0 c ts us) (λ (r : State × ℕ). links_types J L r.0 c ts us) (λ x. types_erase x.0 c ts us) in
      rw (h s c t u, e) refl

  arm_erase : (s : State) (c : TypingCase) (l r : ℕ) (a : Arm) → links_arm J L (erase s) c l r a ≡ links_arm J L s c l r a
  unfolding links_arm links_applies links_fresh
  arm_erase s c l r AnythingL = refl
  arm_erase s c l r AnythingR = refl
  arm_erase s c l r Units = refl
  arm_erase s c l r (Refs m1 t1 m2 t2) = opt_same (join_mut c m1 m2) (join_mut c m1 m2) refl refl (λ m. h s c t1 t2)
  arm_erase s c l r (Params id1 id2) = refl
  arm_erase s c l r (Applies k1 n1 ts1 k2 n2 ts2) = rw (types_erase s c ts1 ts2) refl
  arm_erase s c l r (Vars id1 id2) = rw (tvar_erase s c (loc_of s l) (loc_of (erase s) l) id1 (loc_of s r) (loc_of (erase s) r) id2 (loc_erase s l) (loc_erase s r)) refl
  arm_erase s c l r (VarL id) = opt_same (get s id) (get (erase s) id) (get_erase s id) refl (λ t.
      after_erase (next_erase s) (λ (x : State × ℕ). links_tvar L (insert x.0 x.1 r) c (loc_of s l) id (loc_of s r) x.1) (λ (x : State × ℕ). links_tvar L (insert x.0 x.1 r) c (loc_of (erase s) l) id (loc_of (erase s) r) x.1)
      (λ x. ap (λ q. links_tvar L q c (loc_of (erase s) l) id (loc_of (erase s) r) x.1) (insert_erase x.0 x.1 r) ∙ tvar_erase (insert x.0 x.1 r) c (loc_of s l) (loc_of (erase s) l) id (loc_of s r) (loc_of (erase s) r) x.1 (loc_erase s l) (loc_erase s r)))
  arm_erase s c l r (VarR id) = opt_same (get s id) (get (erase s) id) (get_erase s id) refl (λ t.
      after_erase (next_erase s) (λ (x : State × ℕ). links_tvar L (insert x.0 x.1 l) c (loc_of s l) x.1 (loc_of s r) id) (λ (x : State × ℕ). links_tvar L (insert x.0 x.1 l) c (loc_of (erase s) l) x.1 (loc_of (erase s) r) id)
      (λ x. ap (λ q. links_tvar L q c (loc_of (erase s) l) x.1 (loc_of (erase s) r) id) (insert_erase x.0 x.1 l) ∙ tvar_erase (insert x.0 x.1 l) c (loc_of s l) (loc_of (erase s) l) x.1 (loc_of s r) (loc_of (erase s) r) id (loc_erase s l) (loc_erase s r)))
  arm_erase s c l r ErrorL = refl
  arm_erase s c l r ErrorR = refl
  arm_erase s c l r Others = refl

pub links_impl_erase : (depth : ℕ) → AlikeLinks (λ s c l r. links_impl depth s c l r)
unfolding links_impl
links_impl_erase zero s c l r = refl
links_impl_erase (suc depth) s c l r = rw (value_erase s l, value_erase s r) (arm_erase depth (λ s c l r. links_impl_erase depth s c l r) s c l r (arm (type_at s l) (type_at s r)))

pub join_links_erase : (s : State) (l r : ℕ) → join_links (erase s) l r ≡ join_links s l r
unfolding join_links
join_links_erase s l r = links_impl_erase max_depth s Join l r
