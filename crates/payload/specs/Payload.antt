-- What an answer shows, and its number, length and rows. Assumes nothing: these are definitions.
use Rattle.std.specs.Prelude.{◌≡◌, Bool, List, [], ◌++◌, ℕ, ◌<◌, ◌≤◌, length, Option, None, Some}
use Rattle.definition.specs.Types as d
use Rattle.definition.specs.Types.{State}
use Rattle.definition.specs.Write.{Bytes, u16, u32, head, write}
use Rattle.table.specs.declared.Used.{Used}
use Rattle.writer.specs.Bytes.{Wrote}
use Rattle.payload.specs.declared.Show.{Show}
use Rattle.payload.specs.declared.Show.TheVariants.{Nothing, Number, Variable, Node, Anything, Location, Two, Four}
use Rattle.payload.specs.declared.Answer.{Answer}

-- the payload, of a success with the number t
unfoldable pub shown : Show → ℕ → State → Bytes
shown Nothing t s = []
shown Number n s = u16 n
shown (Variable loc) v s = head loc (d.Var v)
shown Node t s = write s t
shown (Anything loc) t s = head loc d.Anything
shown (Location loc) t s = u32 loc
shown (Two a b) t s = write s a ++ write s b
shown (Four a b c e) t s = u32 a ++ u32 b ++ u32 c ++ u32 e

-- what stands behind it: nothing, or a count
abbrev pub tail_bytes : Option ℕ → Bytes
tail_bytes None = []
tail_bytes (Some n) = u32 n

-- the nodes or the variable that are shown are in use
abbrev pub Shows : Used → Show → ℕ → Type 0
Shows u Nothing t = Unit {0}
Shows u Number n = Unit {0}
Shows u (Variable loc) v = v < u.vars
Shows u Node t = t < u.nodes
Shows u (Anything loc) t = Unit {0}
Shows u (Location loc) t = Unit {0}
Shows u (Two a b) t = (a < u.nodes) × (b < u.nodes)
Shows u (Four a b c e) t = Unit {0}

-- the payload was written, if it is not too long; else the buffer is as it was
abbrev pub Paid : Bytes → List ℕ → List ℕ → Option ℕ → Type 0
Paid p buf buf' None = (4096 < length p) × (buf' ≡ buf)
Paid p buf buf' (Some len) = (length p ≤ 4096) × Wrote buf 0 p buf' len

abbrev pub reply : ℕ → ℕ → Used → Bool → Answer
reply number len used kept = record { number = number; len = len; used = used; kept = kept }
