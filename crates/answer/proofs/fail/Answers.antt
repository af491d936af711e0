-- `answer::fail` meets its contract. Assumes nothing.
use Rattle.definition.specs.Types as d
use Rattle.definition.specs.Step.{number_of_error}
use Rattle.definition.specs.Write.{write_error}
use mathlib.Core.Path.{refl}
use Rattle.payload.specs.Payload.{shown}
use Rattle.answer.proofs.fail.Goals as goal

pub fail_with-requires-clause-shows : goal.fail_with-requires-clause-shows
fail_with-requires-clause-shows c = let p = c.requires in (rw c.in-SubtypeError.is at p.types_in.0, p.types_in.1)

pub fail_with-requires-in-Incompatible-clause-shows : goal.fail_with-requires-in-Incompatible-clause-shows
fail_with-requires-in-Incompatible-clause-shows c = let p = c.requires in (rw c.in-Incompatible.is at p.types_in.0, p.types_in.1)

pub fail_with-requires-in-ArityMismatch-clause-shows : goal.fail_with-requires-in-ArityMismatch-clause-shows
fail_with-requires-in-ArityMismatch-clause-shows c = let p = c.requires in (rw c.in-ArityMismatch.is at p.types_in.0, p.types_in.1)

pub returns-in-SubtypeError : goal.returns-in-SubtypeError
unfolding number_of_error write_error shown
returns-in-SubtypeError c = rw c.in-SubtypeError.is (c.fail_with.ensures (d.SubtypeError _ _) refl (λ s. refl))

pub returns-in-Incompatible : goal.returns-in-Incompatible
unfolding number_of_error write_error shown
returns-in-Incompatible c = rw c.in-Incompatible.is (c.fail_with-in-Incompatible.ensures (d.Incompatible _ _) refl (λ s. refl))

pub returns-in-ArityMismatch : goal.returns-in-ArityMismatch
unfolding number_of_error write_error shown
returns-in-ArityMismatch c = rw c.in-ArityMismatch.is (c.fail_with-in-ArityMismatch.ensures (d.ArityMismatch _ _) refl (λ s. refl))

pub returns-in-RecursiveType : goal.returns-in-RecursiveType
unfolding number_of_error write_error shown
returns-in-RecursiveType c = rw c.in-RecursiveType.is (c.fail_with-in-RecursiveType.ensures (d.RecursiveType _) refl (λ s. refl))
