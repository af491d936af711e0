-- The substitution that the code makes, as the definition has it. Assumes nothing: these are definitions.
use Rattle.std.specs.Prelude.{Option, None, Some}
use Rattle.definition.specs.Types.{Result, ok, refused, parameter_twice}
use Rattle.definition.specs.TParams as d
use Rattle.tparams.specs.declared.substitution.TParamSubst.{TParamSubst}
use Rattle.tparams.specs.Pairs.{pairs}

-- the code's substitution, as the definition has it
abbrev pub subst_of : TParamSubst → d.TParamSubst
subst_of s = pairs s.ids s.args 0 s.many

-- the substitution that was made; none: an id stands in the pairs twice
abbrev pub made : Option TParamSubst → Result d.TParamSubst
made (Some s) = ok (subst_of s)
made None = refused parameter_twice
