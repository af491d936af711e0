-- `log_lines::end_line` meets its contract. Assumes nothing.
use Rattle.log_lines.proofs.Text.{payload_room, last_room, wrote_end}
use Rattle.log_lines.proofs.end_line.Goals as goal

pub write_payload-b-requires : goal.write_payload-b-requires
write_payload-b-requires c = payload_room c.args.number c.args.len c.args.log.now c.args.at c.requires.one_digit c.requires.room.0 c.requires.room.1 (rw c.from.ensures at c.write_decimal-a.ensures)

pub put-requires : goal.put-requires
put-requires c = last_room c.args.number c.args.len c.args.log.now c.args.at c.requires.one_digit c.requires.room.0 c.requires.room.1 (rw c.from.ensures at c.write_decimal-a.ensures) c.write_payload-b.ensures

pub returns : goal.returns
returns c = wrote_end c.args.number c.args.len c.args.log.now c.args.at c.requires.one_digit c.requires.room.0 c.requires.room.1 (rw c.from.ensures at c.write_decimal-a.ensures) c.write_payload-b.ensures c.put.ensures
