-- Marks and names of types as the definition has them. Assumes nothing: these are definitions.
use Rattle.std.specs.Prelude.{Option, None, Some}
use Rattle.definition.specs.Types as d
use Rattle.names.specs.declared.AbilitySet.{AbilitySet}
use Rattle.names.specs.declared.TypeName.{TypeName}
use Rattle.names.specs.declared.TypeName.TheVariants.{Multiple, Builtin, ModuleType}

abbrev pub mark_of : Option AbilitySet → d.AbilityMark
mark_of None = None
mark_of (Some a) = Some a.0

abbrev pub name_of : TypeName → d.TypeName
name_of (Multiple n) = d.Multiple n
name_of (Builtin b) = d.Builtin b
name_of (ModuleType n) = d.ModuleType n
