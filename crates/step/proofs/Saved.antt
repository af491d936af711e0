-- From a state whose variables were saved to that before it: words and counts are the same. Assumes nothing.
use mathlib.Core.Path.{◌∙◌}
use mathlib.Core.Bool.{Bool}
use mathlib.Core.List.{List}
use Prim.Native.Nat.{ℕ}
use Rattle.definition.specs.Write.{Bytes}
use Rattle.table.specs.declared.state.State.{State as Table}
use Rattle.snapshot.specs.Noted.{SavesAll}
use Rattle.step.specs.declared.Stepped.{Stepped}
use Rattle.step.specs.Trusted.{Steps, Splits, StandsIn}

module _ {s m : Table} {saved : List ℕ} (a : SavesAll s m saved) where
  pub stands_now : {params : List (List ℕ)} → StandsIn s params → StandsIn m params
  stands_now st = rw (a.words, a.used) st

  pub steps_before : {whole : Bool} {params : List (List ℕ)} {stream : Bytes} {at : ℕ} {buf : Bytes} {t : Table} {params' : List (List ℕ)} {buf' : Bytes} {r : Stepped}
      → Steps whole m params stream at buf t params' buf' r → Steps whole s params stream at buf t params' buf' r
  steps_before k =
      record {
        same = k.same ∙ a.name;
        stands = k.stands;
        few = k.few;
        buffer = k.buffer;
        within = k.within;
        is = rw (a.words, a.used) at k.is;
        rest = rw (a.words, a.used) at k.rest;
      }

  pub splits_before : {params : List (List ℕ)} {stream : Bytes} {t : Table} {n : ℕ} → Splits m params stream t n → Splits s params stream t n
  splits_before k =
      record {
        same = k.same ∙ a.name;
        words = k.words ∙ a.words;
        used = k.used ∙ a.used;
        within = k.within;
        rest = rw (a.words, a.used) at k.rest;
      }
