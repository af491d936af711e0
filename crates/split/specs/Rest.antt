-- The stream after one record, outright, whatever is lent. Assumes nothing: these are definitions.
use Rattle.std.specs.Prelude.{true, false, List, ℕ}
use Rattle.definition.specs.Write.{Bytes}
use Rattle.definition.specs.Step.{step_stream, job_buffer}
use Rattle.sound.specs.Lent.{decode, lent_sound}

-- all of it on 5, 6, 15 and 18
unfoldable pub rest_of : List ℕ → List (List ℕ) → Bytes → Bytes
rest_of w params stream = elim (lent_sound w params) [ true ↦ (step_stream (decode w params) stream job_buffer).1 | false ↦ stream ]
