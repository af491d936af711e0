-- `keep::keep_listed` meets its contract. Assumes nothing.
use mathlib.Core.Path.{refl}
use Rattle.keep.proofs.Marking.{none_set}
use Rattle.keep.proofs.Clearing.{reaching}
use Rattle.keep.proofs.Keeping.{listed_known, keeps}
use Rattle.keep.proofs.keep_listed.Goals as goal

pub staying-m-requires : goal.staying-m-requires
staying-m-requires g c = (c.requires.0, (reaching c.args.st.now c.requires.1.1.0, c.requires.1.0))

pub mark_places-requires : goal.mark_places-requires
mark_places-requires g c = (c.staying-m.ensures.long_nodes, (refl, λ i. none_set 4097 i))

pub slide_rows-requires : goal.slide_rows-requires
slide_rows-requires g c = record {
  as_sound = c.requires.1.1.0;
  known = listed_known _ c.requires.0 c.requires.1.0.0 c.requires.1.0.1;
  stays = c.staying-m.ensures;
  placed = c.mark_places.ensures;
  numbered = c.number_all-new.ensures;
}

pub returns : goal.returns
returns g c = keeps (record {
  as_sound = c.requires.1.1.0;
  known = listed_known _ c.requires.0 c.requires.1.0.0 c.requires.1.0.1;
  stays = c.staying-m.ensures;
  placed = c.mark_places.ensures;
  numbered = c.number_all-new.ensures;
}) c.slide_rows.ensures c.write_survivors-len.ensures
