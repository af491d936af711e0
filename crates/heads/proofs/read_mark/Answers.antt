-- `heads::read_mark` meets its contract. Assumes nothing.
use Rattle.std.proofs.Common.{rules, ◌≡◌, Option, Some, None, Result, ℕ, refl, ap, ◌∙◌}
use Rattle.std.specs.Option.{ok_or}
use Rattle.definition.specs.Types as d
use Rattle.definition.specs.Types.{malformed}
use Rattle.definition.specs.Write.{Bytes}
use Rattle.definition.specs.Reader.{Reader, got, byte, ◌>>=◌, go_on, give, refuse}
use Rattle.definition.specs.Trees.{mark_of, read_mark}
use Rattle.names.specs.Names.{mark_of as mark-is}
use Rattle.names.specs.declared.AbilitySet.{AbilitySet}
use Rattle.cursor.specs.Words.{read_as}
use Rattle.refusals.specs.declared.Refusal.{Refusal}
use Rattle.refusals.specs.declared.Refusal.TheVariants.{Malformed}
use Rattle.heads.specs.Fields.{marked}
use Rattle.heads.proofs.read_mark.Goals as goal

pub returns-in_err-byte-clause-is : goal.returns-in_err-byte-clause-is
unfolding read_mark ◌>>=◌ go_on
returns-in_err-byte-clause-is c = search rules

abbrev pick : Option d.AbilityMark → Reader d.AbilityMark
pick o = elim o [ None ↦ refuse malformed | Some k ↦ give k ]

picked : (o : Option (Option AbilitySet)) (m : Bytes) → read_as mark-is (ok_or o Malformed) m ≡ pick (marked o) m
unfolding give refuse
picked (Some k) m = refl
picked None m = refl

step : (o : Option (Option AbilitySet)) (x : ℕ) (l m : Bytes) (r : Result (Option AbilitySet) Refusal) → marked o ≡ mark_of x → got x m ≡ byte l → r ≡ ok_or o Malformed → read_as mark-is r m ≡ read_mark l
unfolding read_mark ◌>>=◌ go_on
step o x l m r e f q = rw q (picked o m ∙ ap (λ (k : Option d.AbilityMark). pick k m) e ∙ rw (← f) refl)

pub returns-clause-is : goal.returns-clause-is
returns-clause-is c = step _ _ _ _ _ (rw c.from.ensures at c.mark_of.ensures) (rw c.in_ok-byte.was at c.u8.ensures.is) c.ok_or.ensures.value
