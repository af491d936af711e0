-- `keep::reach::staying` meets its contract. Assumes nothing.
use Rattle.keep.proofs.reach.staying.Given as goal

abbrev pub ghost-mark_reached : goal.ghost-mark_reached
ghost-mark_reached g a = g.listed
