-- Ends of a record's bytes. Assumes nothing.
use mathlib.Core.Path.{◌≡◌, refl, ap, ◌∙◌}
use Prim.Native.Nat.{◌+◌, ◌-◌, ◌≤◌}
use native.Mathlib.Omega.{arith}
use lib.ListN.{length, drop, length-drop}
use lib.Seq.{drop-drop}
use Rattle.definition.specs.Write.{Bytes}
use Rattle.cursor.specs.Words.{Within}

-- nothing was read
pub within_all : {l : Bytes} → Within l l
within_all = record { from = 0; is = refl }

-- .. and then more
pub within_then : {l l' l'' : Bytes} → Within l l' → Within l' l'' → Within l l''
within_then {l} a b = record { from = a.from + b.from; is = b.is ∙ ap (λ (m : Bytes). drop b.from m) a.is ∙ drop-drop b.from a.from l }

pub within_shorter : {l l' : Bytes} → Within l l' → length l' ≤ length l
within_shorter {l} {l'} w = let e : length l' ≡ length l - w.from = ap length w.is ∙ length-drop w.from l in omega arith
