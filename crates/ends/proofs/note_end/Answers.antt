-- `ends::note_end` meets its contract. Assumes nothing.
use Rattle.ends.proofs.Ends.{meets_end, noted_more}
use Rattle.ends.proofs.note_end.Goals as goal

pub note_chain-requires : goal.note_chain-requires
note_chain-requires g c = let p = c.requires in
    let m = meets_end _ c.meet.ensures _ c.in-Some.is in
    (noted_more _ p.1 m.0, m.1.1)
