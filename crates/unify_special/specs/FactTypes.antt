-- What is known of words and of terms by their facts.
use Rattle.bam_code.specs.declared.hole_type.HoleType.{HoleType}
use Rattle.bam_code.specs.declared.hole_type.HoleType.TheVariants as hole
use Rattle.bam_code.specs.declared.known.Known.{Known}
use Rattle.bam_code.specs.declared.known.Known.TheVariants as known
use Rattle.bam_code.specs.declared.result_type.ResultType.{ResultType}
use Rattle.bam_code.specs.declared.result_type.ResultType.TheVariants as res
use Rattle.bam_code.specs.declared.word_type.WordType.{WordType}
use Rattle.bam_code.specs.declared.word_type.WordType.TheVariants as word
use Rattle.type_lattice.specs.declared.fact.Fact.{Fact}
use Rattle.type_lattice.specs.declared.fact.Fact.TheVariants as fact

-- the type of a word of which this is so
abbrev pub word_of : Fact → WordType
word_of fact.Bot = word.Full
word_of fact.Out = word.Any
word_of fact.Full = word.Full
word_of fact.GroundDirect = word.GroundDirect
word_of fact.Ground = word.Ground
word_of fact.Direct = word.Direct
word_of fact.Nonvar = word.Nonvar
word_of fact.Any = word.Any

-- what is filled into a hole for a term of which this is so
abbrev pub hole_of : Fact → HoleType
hole_of fact.Bot = hole.Full
hole_of fact.Out = hole.Any
hole_of fact.Full = hole.Full
hole_of fact.GroundDirect = hole.GroundDirect
hole_of fact.Ground = hole.Ground
hole_of fact.Direct = hole.Direct
hole_of fact.Nonvar = hole.Nonvar
hole_of fact.Any = hole.Any

-- the type of what is filled into the hole of a result
abbrev pub filled_of : ResultType → WordType
filled_of res.Full = word.Full
filled_of res.GroundDirect = word.GroundDirect
filled_of res.Ground = word.Ground
filled_of res.Direct = word.Direct
filled_of res.Nonvar = word.Nonvar
filled_of res.Any = word.Any
filled_of res.Bar = word.Bar

-- what is known of the term where this is so
abbrev pub known_of : Fact → Known
known_of fact.Bot = known.Ground
known_of fact.Out = known.Any
known_of fact.Full = known.Ground
known_of fact.GroundDirect = known.Ground
known_of fact.Ground = known.Ground
known_of fact.Direct = known.Nonvar
known_of fact.Nonvar = known.Nonvar
known_of fact.Any = known.Any
