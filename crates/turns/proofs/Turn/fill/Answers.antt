-- `turns::Turn::fill` meets its contract: what it took is what its one read took. Assumes nothing.
use Rattle.std.proofs.Common.{rules}
use Rattle.turns.proofs.Taken.{took_moved}
use Rattle.turns.proofs.Turn.fill.Goals as goal

pub returns-clause-took : goal.returns-clause-took
returns-clause-took g c = took_moved c.args.self _ _ _ _ _ _ c.moved.ensures c.read_behind-got.ensures.took (search rules)
