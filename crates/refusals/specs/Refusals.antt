-- What the refusals stand for in the definition. Assumes nothing: these are definitions.
use Rattle.definition.specs.Types as d
use Rattle.refusals.specs.declared.Refusal.{Refusal}
use Rattle.refusals.specs.declared.Refusal.TheVariants.{Malformed, UnknownName, Full, TooDeep, RunsIntoItself, AbilitiesDisagree, OpenVariable, NoArgument, ParameterTwice}
use Rattle.refusals.specs.declared.Refusal.TheVariants.{AnswerTooLong, UnsoundState, MarkContradicted, AlreadyExpanded, DoubledReference}

abbrev pub refusal_of : Refusal → d.Refusal
refusal_of Malformed = d.malformed
refusal_of UnknownName = d.unknown_name
refusal_of Full = d.full
refusal_of TooDeep = d.too_deep
refusal_of RunsIntoItself = d.runs_into_itself
refusal_of AbilitiesDisagree = d.abilities_disagree
refusal_of OpenVariable = d.open_variable
refusal_of NoArgument = d.no_argument
refusal_of ParameterTwice = d.parameter_twice
refusal_of AnswerTooLong = d.answer_too_long
refusal_of UnsoundState = d.unsound_state
refusal_of MarkContradicted = d.mark_contradicted
refusal_of AlreadyExpanded = d.already_expanded
refusal_of DoubledReference = d.doubled_reference
