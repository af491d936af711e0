-- The words of before go on to `go_back`. Assumes nothing.
use Rattle.answer.proofs.settle_refusal.Given as goal

abbrev pub ghost-go_back : goal.ghost-go_back
ghost-go_back g a = g.w0
