-- What the declared types of arguments, results and holes say.
use Rattle.std.specs.Prelude.{Option, Some, None}
use Rattle.bam_code.specs.declared.arg_type.ArgType.{ArgType}
use Rattle.bam_code.specs.declared.arg_type.ArgType.TheVariants as arg
use Rattle.bam_code.specs.declared.hole_type.HoleType.{HoleType}
use Rattle.bam_code.specs.declared.hole_type.HoleType.TheVariants as hole
use Rattle.bam_code.specs.declared.known.Known.{Known}
use Rattle.bam_code.specs.declared.result_type.ResultType.{ResultType}
use Rattle.bam_code.specs.declared.result_type.ResultType.TheVariants as filled
use Rattle.bam_code.specs.declared.word_type.WordType.{WordType}
use Rattle.bam_code.specs.declared.word_type.WordType.TheVariants as word
use Rattle.bam_types.specs.WordTypes.{strip_word}

-- the type of an argument's word; none for a result
abbrev pub argument_word : ArgType → Option WordType
argument_word arg.Full = Some word.Full
argument_word arg.GroundDirect = Some word.GroundDirect
argument_word arg.Ground = Some word.Ground
argument_word arg.Direct = Some word.Direct
argument_word arg.Nonvar = Some word.Nonvar
argument_word arg.Any = Some word.Any
argument_word arg.Out = None
argument_word arg.Bar = Some word.Bar

-- the type of what a procedure fills into the hole of a result
abbrev pub result_word : ResultType → WordType
result_word filled.Full = word.Full
result_word filled.GroundDirect = word.GroundDirect
result_word filled.Ground = word.Ground
result_word filled.Direct = word.Direct
result_word filled.Nonvar = word.Nonvar
result_word filled.Any = word.Any
result_word filled.Bar = word.Bar

-- what a procedure says at its return of the term of another argument
abbrev pub result_known : ResultType → Known
result_known declared = strip_word (result_word declared)

-- the type of what is filled into a hole
abbrev pub hole_word : HoleType → WordType
hole_word hole.Full = word.Full
hole_word hole.GroundDirect = word.GroundDirect
hole_word hole.Ground = word.Ground
hole_word hole.Direct = word.Direct
hole_word hole.Nonvar = word.Nonvar
hole_word hole.Any = word.Any
