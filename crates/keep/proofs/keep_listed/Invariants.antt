-- `keep::keep_listed` meets its contract. Assumes nothing.
use Rattle.keep.proofs.keep_listed.Given as goal

abbrev pub ghost-staying : goal.ghost-staying
ghost-staying g a = g.listed

abbrev pub ghost-slide_rows : goal.ghost-slide_rows
ghost-slide_rows g a = g.listed
