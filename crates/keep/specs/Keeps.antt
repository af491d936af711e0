-- What KP asks of the words, and what it leaves in them and in the buffer. Assumes nothing: these are definitions.
use mathlib.Core.List.{Memᴰ}
use Rattle.std.specs.Prelude.{◌≡◌, true, Bool, List, ℕ, ◌≤◌, ◌<◌}
use Rattle.definition.specs.Types.{Struct}
use Rattle.definition.specs.Sound.{sound}
use Rattle.definition.specs.Keep.{reach, cleared, survivors}
use Rattle.table.specs.Did.{held, tables, Linked}
use Rattle.table.specs.declared.state.State.{State}
use Rattle.table.specs.declared.Touched.TheVariants.{Any}
use Rattle.writer.specs.Bytes.{Wrote}
use Rattle.keep.specs.Marked.{Stays}
use Rattle.keep.specs.Numbered.{AllNumbered}
use Rattle.keep.specs.Placed.{PlacesMarked}
use Rattle.keep.specs.declared.marks.Marks.{Marks}
use Rattle.keep.specs.declared.numbers.Numbers.{Numbers}

-- with some declarations the state is a sound one
pub record AsSound (s : State) : Type 0 where
  pub structs : List Struct
  pub is_sound : sound (held s structs) ≡ true

-- what stays is marked and has its new numbers
pub record Ready (s : State) (listed : List ℕ) (m : Marks) (places : List Bool) (new : Numbers) : Type 0 where
  pub as_sound : AsSound s
  pub known : (v : ℕ) → Memᴰ v listed → v < s.used.vars
  pub stays : Stays (tables s) listed m
  pub placed : PlacesMarked (tables s) m.nodes s.used.nodes places
  pub numbered : AllNumbered m places new

-- s became t, which lends the same words and declares the same: they hold what KP leaves
pub record Clears (s t : State) (listed : List ℕ) : Type 0 where
  pub same : Linked s t
  pub touched : t.touched ≡ Any
  pub structs : (tables t).structs ≡ (tables s).structs
  pub is : (ds : List Struct) → held t ds ≡ cleared (held s ds) listed

-- .. and the survivors' pairs stand in front of the buffer
pub record Keeps (s t : State) (listed buf buf' : List ℕ) (len : ℕ) : Type 0 where
  pub clears : Clears s t listed
  pub few : len ≤ 4096
  pub wrote : (ds : List Struct) → Wrote buf 0 (survivors (reach (held s ds) listed).vars) buf' len
