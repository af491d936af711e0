-- The words at entry go on to the call. Assumes nothing.
use Rattle.step.proofs.rest_from.Given as goal

abbrev pub ghost-go_back : goal.ghost-go_back
ghost-go_back g a = g.w0
