-- `writer::write_apply` meets its contract. Assumes nothing.
use Rattle.definition.specs.Write.{mark, u16, u32}
use Rattle.names.specs.Names.{mark_of}
use Rattle.writer.proofs.Put.{first_fits, rest_fits, both_wrote}
use Rattle.writer.proofs.Heads.{builtin_is, multiple_is, module_is, one_more}
use Rattle.writer.proofs.write_apply.Goals as goal

pub put_tag-next-requires : goal.put_tag-next-requires
unfolding u32
put_tag-next-requires c = first_fits _ _ _ (builtin_is c.args.loc (mark_of c.args.k) c.in-Builtin.b) _ _ (rw c.in-Builtin.is at c.requires.1.1)

pub put_bytes-requires : goal.put_bytes-requires
put_bytes-requires c = rest_fits _ _ _ (builtin_is c.args.loc (mark_of c.args.k) c.in-Builtin.b) _ _ (rw c.in-Builtin.is at c.requires.1.1) _ _ c.put_tag-next.ensures

pub put_tag-next-requires-in-Multiple : goal.put_tag-next-requires-in-Multiple
unfolding u32
put_tag-next-requires-in-Multiple c = first_fits _ _ _ (multiple_is c.args.loc (mark_of c.args.k) c.in-Multiple.count) _ _ (rw c.in-Multiple.is at c.requires.1.1)

pub put_bytes-requires-in-Multiple : goal.put_bytes-requires-in-Multiple
put_bytes-requires-in-Multiple c = rest_fits _ _ _ (multiple_is c.args.loc (mark_of c.args.k) c.in-Multiple.count) _ _ (rw c.in-Multiple.is at c.requires.1.1) _ _ c.put_tag-next-in-Multiple.ensures

pub put_tag-next-requires-in-ModuleType : goal.put_tag-next-requires-in-ModuleType
unfolding u32
put_tag-next-requires-in-ModuleType c = first_fits _ _ _ (module_is c.args.loc (mark_of c.args.k) c.in-ModuleType.s) _ _ (rw c.in-ModuleType.is at c.requires.1.1)

pub put_bytes-last-requires : goal.put_bytes-last-requires
put_bytes-last-requires c = first_fits _ _ _ (one_more (mark (mark_of c.args.k)) (u16 c.in-ModuleType.s)) _ _ ((rest_fits _ _ _ (module_is c.args.loc (mark_of c.args.k) c.in-ModuleType.s) _ _ (rw c.in-ModuleType.is at c.requires.1.1) _ _ c.put_tag-next-in-ModuleType.ensures))

pub put_u16-requires : goal.put_u16-requires
unfolding u16
put_u16-requires c =
    let after = rest_fits _ _ _ (module_is c.args.loc (mark_of c.args.k) c.in-ModuleType.s) _ _ (rw c.in-ModuleType.is at c.requires.1.1) _ _ c.put_tag-next-in-ModuleType.ensures in
    rest_fits _ _ _ (one_more c.mark_byte-m.result (u16 c.in-ModuleType.s)) _ _ after _ _ c.put_bytes-last.ensures

pub returns-in-Builtin : goal.returns-in-Builtin
returns-in-Builtin c =
    rw c.in-Builtin.is (both_wrote _ _ _ (builtin_is c.args.loc (mark_of c.args.k) c.in-Builtin.b) _ _ (rw c.in-Builtin.is at c.requires.1.1) _ _ c.put_tag-next.ensures _ _ (rw c.mark_byte-m.ensures at c.put_bytes.ensures))

pub returns-in-Multiple : goal.returns-in-Multiple
returns-in-Multiple c =
    rw c.in-Multiple.is (both_wrote _ _ _ (multiple_is c.args.loc (mark_of c.args.k) c.in-Multiple.count) _ _ (rw c.in-Multiple.is at c.requires.1.1) _ _ c.put_tag-next-in-Multiple.ensures _ _ (rw c.mark_byte-m.ensures at c.put_bytes-in-Multiple.ensures))

pub returns-in-ModuleType : goal.returns-in-ModuleType
returns-in-ModuleType c =
    let fits = rw c.in-ModuleType.is at c.requires.1.1 in
    let told = module_is c.args.loc (mark_of c.args.k) c.in-ModuleType.s in
    let after = rest_fits _ _ _ told _ _ fits _ _ c.put_tag-next-in-ModuleType.ensures in
    rw c.in-ModuleType.is (both_wrote _ _ _ told _ _ fits _ _ c.put_tag-next-in-ModuleType.ensures _ _
    (both_wrote _ _ _ (one_more (mark (mark_of c.args.k)) (u16 c.in-ModuleType.s)) _ _ after _ _ (rw c.mark_byte-m.ensures at c.put_bytes-last.ensures) _ _ c.put_u16.ensures))
