-- The words of the text: modes, types, operations and comparisons.
use Rattle.std.specs.Prelude.{ℕ, List, codes}
use Rattle.aq_term.specs.declared.mode.Mode.{Mode}
use Rattle.aq_term.specs.declared.mode.Mode.TheVariants as mode
use Rattle.bam_code.specs.declared.arg_type.ArgType.{ArgType}
use Rattle.bam_code.specs.declared.arg_type.ArgType.TheVariants as arg_type
use Rattle.bam_code.specs.declared.result_type.ResultType.{ResultType}
use Rattle.bam_code.specs.declared.result_type.ResultType.TheVariants as result_type
use Rattle.bam_code.specs.declared.hole_type.HoleType.{HoleType}
use Rattle.bam_code.specs.declared.hole_type.HoleType.TheVariants as hole_type
use Rattle.bam_code.specs.declared.known.Known.{Known}
use Rattle.bam_code.specs.declared.known.Known.TheVariants as known
use Rattle.bam_code.specs.declared.arith_op.ArithOp.{ArithOp}
use Rattle.bam_code.specs.declared.arith_op.ArithOp.TheVariants as arith_op
use Rattle.bam_code.specs.declared.comparison.Comparison.{Comparison}
use Rattle.bam_code.specs.declared.comparison.Comparison.TheVariants as comparison
use Rattle.bam_code.specs.declared.sameness.Sameness.{Sameness}
use Rattle.bam_code.specs.declared.sameness.Sameness.TheVariants as sameness

abbrev pub mode_word : Mode → List ℕ
mode_word mode.Ground = codes "ground"
mode_word mode.Nonvar = codes "nonvar"
mode_word mode.Out = codes "out"
mode_word mode.Any = codes "any"

abbrev pub arg_type_word : ArgType → List ℕ
arg_type_word arg_type.Full = codes "full"
arg_type_word arg_type.GroundDirect = codes "gdirect"
arg_type_word arg_type.Ground = codes "ground"
arg_type_word arg_type.Direct = codes "direct"
arg_type_word arg_type.Nonvar = codes "nonvar"
arg_type_word arg_type.Any = codes "any"
arg_type_word arg_type.Out = codes "out"
arg_type_word arg_type.Bar = codes "bar"

abbrev pub result_type_word : ResultType → List ℕ
result_type_word result_type.Full = codes "full"
result_type_word result_type.GroundDirect = codes "gdirect"
result_type_word result_type.Ground = codes "ground"
result_type_word result_type.Direct = codes "direct"
result_type_word result_type.Nonvar = codes "nonvar"
result_type_word result_type.Any = codes "any"
result_type_word result_type.Bar = codes "bar"

abbrev pub hole_type_word : HoleType → List ℕ
hole_type_word hole_type.Full = codes "full"
hole_type_word hole_type.GroundDirect = codes "gdirect"
hole_type_word hole_type.Ground = codes "ground"
hole_type_word hole_type.Direct = codes "direct"
hole_type_word hole_type.Nonvar = codes "nonvar"
hole_type_word hole_type.Any = codes "any"

abbrev pub known_word : Known → List ℕ
known_word known.Any = codes "any"
known_word known.Nonvar = codes "nonvar"
known_word known.Ground = codes "ground"

abbrev pub arith_op_word : ArithOp → List ℕ
arith_op_word arith_op.Add = codes "add"
arith_op_word arith_op.Subtract = codes "sub"
arith_op_word arith_op.Multiply = codes "mul"
arith_op_word arith_op.Quotient = codes "quot"
arith_op_word arith_op.Remainder = codes "rem"
arith_op_word arith_op.Modulo = codes "mod"
arith_op_word arith_op.ShiftLeft = codes "shl"
arith_op_word arith_op.ShiftRight = codes "shr"
arith_op_word arith_op.And = codes "and"
arith_op_word arith_op.Or = codes "or"

abbrev pub comparison_word : Comparison → List ℕ
comparison_word comparison.Less = codes "lt"
comparison_word comparison.AtMost = codes "le"
comparison_word comparison.Greater = codes "gt"
comparison_word comparison.AtLeast = codes "ge"
comparison_word comparison.Equal = codes "eq"
comparison_word comparison.NotEqual = codes "ne"

abbrev pub sameness_word : Sameness → List ℕ
sameness_word sameness.Same = codes "eq"
sameness_word sameness.Different = codes "ne"
