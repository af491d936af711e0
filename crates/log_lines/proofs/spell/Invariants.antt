-- `log_lines::spell` meets its contract. Assumes nothing.
use Rattle.std.proofs.Common.{◌≡◌, ◌++◌, ◌*◌, ◌<◌, ℕ, get_or, take, drop}
use Rattle.definition.specs.Job.{hexadecimal}
use Rattle.log_lines.proofs.spell.Given as goal

-- The bytes from k on are spelled; those before them stand as they stood.
abbrev pub invariant-loop-k : goal.invariant-loop-k
invariant-loop-k l = record {
  bytes : (i : ℕ) → get_or l.text i 0 < 256;
  is : l.text ≡ take (2 * l.k) l.initial.text ++ hexadecimal (drop l.k (take l.len l.initial.text));
}
