use Rattle.std.proofs.Common.{◌≡◌, ◌++◌, drop}
use Rattle.bam_text.specs.CodeText.{args_text}
use Rattle.bam_text.proofs.print.args.Given as goal

abbrev pub invariant-loop-arg : goal.invariant-loop-arg
invariant-loop-arg l = l.output ++ args_text (drop l.arg-index l.args) ≡ l.fn.output ++ args_text l.args
