-- `writer::write_head` meets its contract. Assumes nothing.
use mathlib.Core.List.{[], ◌∷◌}
use Rattle.definition.specs.Write.{head, u16, u32}
use Rattle.writer.proofs.Put.{first_fits, rest_fits, both_wrote}
use Rattle.writer.proofs.Heads.{bool_is, ref_is, param_is, var_is, apart}
use Rattle.writer.proofs.write_head.Goals as goal

pub put_tag-requires : goal.put_tag-requires
unfolding head u32
put_tag-requires c = rw c.in-Unit.is at c.requires.1

pub put_tag-next-requires : goal.put_tag-next-requires
unfolding u32
put_tag-next-requires c = first_fits _ _ _ (ref_is c.args.loc c.in-Ref.mutable c.in-Ref.field-1) _ _ (rw c.in-Ref.is at c.requires.1)

pub put_bytes-requires : goal.put_bytes-requires
put_bytes-requires c = rest_fits _ _ _ (ref_is c.args.loc c.in-Ref.mutable c.in-Ref.field-1) _ _ (rw c.in-Ref.is at c.requires.1) _ _ c.put_tag-next.ensures

pub put_tag-next-requires-in-Param : goal.put_tag-next-requires-in-Param
unfolding u32
put_tag-next-requires-in-Param c = first_fits _ _ _ (param_is c.args.loc c.in-Param.id.0 c.in-Param.abilities.0) _ _ (rw c.in-Param.is at c.requires.1)

pub put_u32-last-requires : goal.put_u32-last-requires
unfolding u32
put_u32-last-requires c =
    let after = rest_fits _ _ _ (param_is c.args.loc c.in-Param.id.0 c.in-Param.abilities.0) _ _ (rw c.in-Param.is at c.requires.1) _ _ c.put_tag-next-in-Param.ensures in
    first_fits _ _ _ (apart (u32 c.in-Param.id.0) (c.in-Param.abilities.0 ∷ [])) _ _ after

pub put_bytes-requires-in-Param : goal.put_bytes-requires-in-Param
put_bytes-requires-in-Param c =
    let after = rest_fits _ _ _ (param_is c.args.loc c.in-Param.id.0 c.in-Param.abilities.0) _ _ (rw c.in-Param.is at c.requires.1) _ _ c.put_tag-next-in-Param.ensures in
    rest_fits _ _ _ (apart (u32 c.in-Param.id.0) (c.in-Param.abilities.0 ∷ [])) _ _ after _ _ c.put_u32-last.ensures

pub write_apply-requires : goal.write_apply-requires
unfolding head
write_apply-requires c = let r = rw c.in-Apply.is at c.requires in (r.0.0, (r.0.1, r.1))

pub put_tag-next-requires-in-Var : goal.put_tag-next-requires-in-Var
unfolding u32
put_tag-next-requires-in-Var c = first_fits _ _ _ (var_is c.args.loc c.in-Var.v.0) _ _ (rw c.in-Var.is at c.requires.1)

pub put_u16-requires : goal.put_u16-requires
unfolding u16
put_u16-requires c = rest_fits _ _ _ (var_is c.args.loc c.in-Var.v.0) _ _ (rw c.in-Var.is at c.requires.1) _ _ c.put_tag-next-in-Var.ensures

pub put_tag-requires-in-Anything : goal.put_tag-requires-in-Anything
unfolding head u32
put_tag-requires-in-Anything c = rw c.in-Anything.is at c.requires.1

pub put_tag-requires-in-UnresolvedError : goal.put_tag-requires-in-UnresolvedError
unfolding head u32
put_tag-requires-in-UnresolvedError c = rw c.in-UnresolvedError.is at c.requires.1

pub returns-in-Unit : goal.returns-in-Unit
unfolding head
returns-in-Unit c = rw c.in-Unit.is c.put_tag.ensures

pub returns-in-Ref : goal.returns-in-Ref
returns-in-Ref c =
    rw c.in-Ref.is (both_wrote _ _ _ (ref_is c.args.loc c.in-Ref.mutable c.in-Ref.field-1) _ _ (rw c.in-Ref.is at c.requires.1) _ _ c.put_tag-next.ensures _ _ (rw (c.from.ensures, bool_is c.in-Ref.mutable) at c.put_bytes.ensures))

pub returns-in-Param : goal.returns-in-Param
returns-in-Param c =
    let fits = rw c.in-Param.is at c.requires.1 in
    let told = param_is c.args.loc c.in-Param.id.0 c.in-Param.abilities.0 in
    let after = rest_fits _ _ _ told _ _ fits _ _ c.put_tag-next-in-Param.ensures in
    rw c.in-Param.is (both_wrote _ _ _ told _ _ fits _ _ c.put_tag-next-in-Param.ensures _ _
    (both_wrote _ _ _ (apart (u32 c.in-Param.id.0) (c.in-Param.abilities.0 ∷ [])) _ _ after _ _ c.put_u32-last.ensures _ _ c.put_bytes-in-Param.ensures))

pub returns-in-Apply : goal.returns-in-Apply
unfolding head
returns-in-Apply c = rw c.in-Apply.is c.write_apply.ensures

pub returns-in-Var : goal.returns-in-Var
returns-in-Var c =
    rw c.in-Var.is (both_wrote _ _ _ (var_is c.args.loc c.in-Var.v.0) _ _ (rw c.in-Var.is at c.requires.1) _ _ c.put_tag-next-in-Var.ensures _ _ (rw c.from-in-Var.ensures.0 at c.put_u16.ensures))

pub returns-in-Anything : goal.returns-in-Anything
unfolding head
returns-in-Anything c = rw c.in-Anything.is c.put_tag-in-Anything.ensures

pub returns-in-UnresolvedError : goal.returns-in-UnresolvedError
unfolding head
returns-in-UnresolvedError c = rw c.in-UnresolvedError.is c.put_tag-in-UnresolvedError.ensures
