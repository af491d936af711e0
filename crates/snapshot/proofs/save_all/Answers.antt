-- `snapshot::save_all` meets its contract. Assumes nothing.
use Rattle.std.proofs.Common.{arith, rules, ◌≤◌}
use Rattle.std.proofs.lemmas.List.{places}
use Rattle.snapshot.proofs.Saving.{copied_all}
use Rattle.snapshot.proofs.save_all.Goals as goal

pub copy_words-requires : goal.copy_words-requires
copy_words-requires g c =
    let few : c.used.result.vars ≤ 1024 = rw c.used.ensures (g.S.ReadState.state c.args.st.now).lay.vars in
    search (rules, places, few)

pub returns : goal.returns
returns g c =
    let few : c.used.result.vars ≤ 1024 = rw c.used.ensures (g.S.ReadState.state c.args.st.now).lay.vars in
    rw (← c.used.ensures, ← c.words.ensures) (copied_all _ _ _ _ _ (omega arith) (search (rules, places, few)) c.copy_words.ensures)
