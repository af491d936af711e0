-- The variable arm of check_num_tvar_ is never reached: no type that join_bind_tvar gets is a variable. Assumes nothing.
use mathlib.Core.Path.{◌≡◌, refl}
use Rattle.std.specs.Prelude.{None}
use Prim.Native.Nat.{ℕ, ◌<◌}
use Rattle.definition.specs.Types.{TypeName, TypeValue, State}
use Rattle.definition.specs.Store.{count, taken, type_at}
use Rattle.definition.specs.Subst.{as_var, forward_tvar}
use Rattle.definition.specs.Join.{TypingCase, VarL, VarR, arm, Arm, num_shape, check_num_tvar', type_of, join_impl}
use Rattle.theorems.proofs.DemandTracks.{never, solid_nonvar}
use Rattle.theorems.proofs.DemandOrder.{Sound}
use Rattle.theorems.proofs.LawsPost.{Post, post_map}
use Rattle.theorems.proofs.DemandCalls.{type_of_post}
use Rattle.theorems.proofs.DemandMain.{Took, took, took_any_l, took_any_r, took_units, took_refs, took_params, took_applies, took_vars, took_var_l, took_var_r, took_error_l, took_error_r, took_others, join_impl_good}

-- of what is no variable the check looks at the type alone
pub check_plain : (S : State) (need ty : ℕ) → as_var (type_at S ty) ≡ None → check_num_tvar' S need ty ≡ num_shape need (type_at S ty)
unfolding check_num_tvar'
check_plain S need ty e = rw (e, check_num_tvar') refl

-- an arm that binds an unbound variable at once: the other type is none
left_at : {L R : TypeValue} {a : Arm} (id : ℕ) → Took L R a → a ≡ VarL id → as_var R ≡ None
left_at id (took_any_l e) d = never (cc)
left_at id (took_any_r e) d = never (cc)
left_at id (took_units a b) d = never (cc)
left_at id (took_refs a b) d = never (cc)
left_at id (took_params a b) d = never (cc)
left_at id (took_applies a b) d = never (cc)
left_at id (took_vars a b) d = never (cc)
left_at {R = R} id (took_var_l a h) d = solid_nonvar R h
left_at id (took_var_r h a) d = never (cc)
left_at id (took_error_l a h) d = never (cc)
left_at id (took_error_r h a) d = never (cc)
left_at id took_others d = never (cc)

right_at : {L R : TypeValue} {a : Arm} (id : ℕ) → Took L R a → a ≡ VarR id → as_var L ≡ None
right_at id (took_any_l e) d = never (cc)
right_at id (took_any_r e) d = never (cc)
right_at id (took_units a b) d = never (cc)
right_at id (took_refs a b) d = never (cc)
right_at id (took_params a b) d = never (cc)
right_at id (took_applies a b) d = never (cc)
right_at id (took_vars a b) d = never (cc)
right_at id (took_var_l a h) d = never (cc)
right_at {L = L} id (took_var_r h a) d = solid_nonvar L h
right_at id (took_error_l a h) d = never (cc)
right_at id (took_error_r h a) d = never (cc)
right_at id took_others d = never (cc)

pub left_plain : (L R : TypeValue) (id : ℕ) → arm L R ≡ VarL id → as_var R ≡ None
left_plain L R id e = left_at id (took L R) e

pub right_plain : (L R : TypeValue) (id : ℕ) → arm L R ≡ VarR id → as_var L ≡ None
right_plain L R id e = right_at id (took L R) e

-- a merge joins what the two chain ends have, which is no variable ..
pub end_plain : {ar : TypeName → ℕ} {S : State} → Sound ar S → (loc v : ℕ) → v < taken S → Post ar S (λ S' t. as_var (type_at S' t) ≡ None) (type_of S loc (forward_tvar S v))
end_plain s loc v h = post_map (λ S' t g p. p.plain) (type_of_post s loc _ (s.chains v h))

-- .. and binds the fresh variable to the join of two types that are none, which is none
pub join_plain : {ar : TypeName → ℕ} {S : State} → Sound ar S → (depth : ℕ) (c : TypingCase) (l r : ℕ) → l < count S → r < count S → as_var (type_at S l) ≡ None → as_var (type_at S r) ≡ None
    → Post ar S (λ S' t. as_var (type_at S' t) ≡ None) (join_impl depth S c l r)
join_plain {S = S} s depth c l r i j e d = post_map (λ S' t g p. p.plain e d) (join_impl_good depth S c l r s i j)
