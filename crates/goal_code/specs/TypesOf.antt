-- The types of a procedure's arguments and results, by the facts of its predicate.
use Rattle.bam_code.specs.declared.arg_type.ArgType.{ArgType}
use Rattle.bam_code.specs.declared.arg_type.ArgType.TheVariants as arg
use Rattle.bam_code.specs.declared.result_type.ResultType.{ResultType}
use Rattle.bam_code.specs.declared.result_type.ResultType.TheVariants as filled
use Rattle.type_lattice.specs.declared.fact.Fact.{Fact}
use Rattle.type_lattice.specs.declared.fact.Fact.TheVariants as fact
use Rattle.type_lattice.specs.Facts.{strip}

-- of an argument that is no result, of which this is so at each call
abbrev pub type_of_argument : Fact → ArgType
type_of_argument fact.Bot = arg.Full
type_of_argument fact.Out = arg.Any
type_of_argument fact.Full = arg.Full
type_of_argument fact.GroundDirect = arg.GroundDirect
type_of_argument fact.Ground = arg.Ground
type_of_argument fact.Direct = arg.Direct
type_of_argument fact.Nonvar = arg.Nonvar
type_of_argument fact.Any = arg.Any

-- of what is so at each success
abbrev pub type_of_result : Fact → ResultType
type_of_result fact.Bot = filled.Full
type_of_result fact.Out = filled.Any
type_of_result fact.Full = filled.Full
type_of_result fact.GroundDirect = filled.GroundDirect
type_of_result fact.Ground = filled.Ground
type_of_result fact.Direct = filled.Direct
type_of_result fact.Nonvar = filled.Nonvar
type_of_result fact.Any = filled.Any

-- of an argument of this type; of one that is no result only the term is spoken of
abbrev pub result_type : ArgType → Fact → ResultType
result_type arg.Out success = type_of_result success
result_type _ success = type_of_result (strip success)
