-- The run of a record that is read and placed: what it starts from, and what its answer leaves in words, parameter bytes and buffer. Assumes nothing: these are definitions.
use Rattle.std.specs.Prelude.{◌≡◌, List, ◌++◌, ℕ, ◌≤◌, take, drop}
use Rattle.definition.specs.Types.{ok}
use Rattle.definition.specs.Store.{taken}
use Rattle.definition.specs.Trees.{arity}
use Rattle.definition.specs.Record.{Record}
use Rattle.definition.specs.Step as step
use Rattle.definition.specs.Step.{most_of, apart, reply}
use Rattle.theorems.proofs.SoundRead.{RecordIn, FineRecord}
use Rattle.table.specs.State.{view, seen}
use Rattle.table.specs.Did.{tables}
use Rattle.table.specs.declared.Used.{Used}
use Rattle.table.specs.declared.state.State.{State}
use Rattle.sound.specs.Lent.{structs_of, encode_params}
use Rattle.snapshot.specs.Snap.{Since}
use Rattle.snapshot.specs.Noted.{Noted}
use Rattle.fields.specs.Noded.{Noded, place_record}
use Rattle.payload.specs.declared.Answer.{Answer}
use Rattle.keep.specs.Keeps.{Keeps}
use Rattle.step.specs.Trusted.{held, held_by, Stands}

-- the answer a is r: the payload, of at most `most` bytes, stands in front of the buffer, and its state is what words and bytes hold, the bytes being just its declarations'
pub record Replied (most : ℕ) (buf : List ℕ) (t : State) (params' : List (List ℕ)) (buf' : List ℕ) (r : Answer) (a : step.Answer) : Type 0 where
  pub bytes : params' ≡ encode_params (held_by t params')
  pub few : r.len ≤ most
  pub rest : buf' ≡ take r.len buf' ++ drop r.len buf
  pub is : a ≡ record { number = r.number; payload = take r.len buf'; state = held_by t params' }

-- the record x of a sound state, held in w₀ with the counts `entry` and saved in these rows, is placed in s: n is left to run
pub record Begun (w₀ : List ℕ) (entry : Used) (rows : List ℕ) (params : List (List ℕ)) (s : State) (x : Record) (n : Noded) : Type 0 where
  pub stands : Stands w₀ entry params
  pub saved : s.saved ≡ entry.vars
  pub since : Since w₀ entry (record { words = rows; touched = s.touched }) s.words.now s.used
  pub structs : (tables s).structs ≡ (view w₀ entry).structs
  pub fields : RecordIn (held w₀ entry params) x
  pub names : FineRecord (arity (held w₀ entry params)) (taken (held w₀ entry params)) x
  pub placed : place_record x (held w₀ entry params) ≡ ok (seen s.words.now s.used (structs_of w₀ params entry.structs), n)

-- .. some record
pub record Begins (w₀ : List ℕ) (entry : Used) (rows : List ℕ) (params : List (List ℕ)) (s : State) (n : Noded) : Type 0 where
  pub what : Record
  pub from : Begun w₀ entry rows params s what n

-- r answers that record, and the saved rows, which became rows', stand but for the noted
pub record Ends (w₀ : List ℕ) (entry : Used) (rows : List ℕ) (params : List (List ℕ)) (s : State) (n : Noded) (buf : List ℕ) (t : State) (params' : List (List ℕ)) (rows' buf' : List ℕ) (r : Answer) : Type 0 where
  pub name : t.words.ghost_name ≡ s.words.ghost_name
  pub noted : Noted t rows'
  pub is : (x : Record) → Begun w₀ entry rows params s x n → Replied (most_of (apart x)) buf t params' buf' r (reply (held w₀ entry params) x)

-- s became t by KP of these, and r is 0: the pairs stand in front of the buffer
pub record KeptBy (s t : State) (listed buf buf' : List ℕ) (r : Answer) : Type 0 where
  pub keeps : Keeps s t listed buf buf' r.len
  pub number : r.number ≡ 0
