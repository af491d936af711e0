-- The whole program, from a reader whose bytes are known: it ends, and writes their log. Assumes nothing.
use mathlib.Core.Path.{◌≡◌, sym, ap, ◌∙◌}
use mathlib.Core.Bool.{false}
use mathlib.Core.List.{List}
use Prim.Native.Nat.{ℕ, ◌≤◌}
use native.Mathlib.Omega.{arith}
use lib.ListN.{length, length-append}
use Rattle.std.specs.Prelude.{Option, Some, None}
use Rattle.std.specs.Io.KnownBytes.{Consumes}
use Rattle.turns.specs.declared.Stage.{Stage}
use Rattle.turns.specs.Filling.{lost}
use Rattle.joinlog.specs.Turns.{Program, WritesLog}

taken_few : (left' : Option (List ℕ)) (known input : List ℕ) → Consumes (Some known) left' input → length input ≤ length known
taken_few None known input c = absurd c
taken_few (Some later) known input c = omega (arith, ap (λ (l : List ℕ). length l) c, length-append input later)

pub program_log : {left' held held' : Option (List ℕ)} {stage : Stage} (left : Option (List ℕ)) → Program left left' held held' stage → lost stage ≡ false → WritesLog left held held'
program_log None p o = tt
program_log {left'} (Some known) p o = λ is few.
    let run = p.run in
    run.log (run.ran.ends (omega (arith, few, taken_few left' known run.ran.input run.took.front))) (sym (ap lost p.stands) ∙ o) is
