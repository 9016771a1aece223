use Rattle.std.proofs.Common.{◌≡◌, ◌++◌, drop}
use Rattle.bam_text.specs.CodeText.{results_text}
use Rattle.bam_text.proofs.print.results.Given as goal

abbrev pub invariant-loop-one : goal.invariant-loop-one
invariant-loop-one l = l.output ++ results_text (drop l.one-index l.results) ≡ l.fn.output ++ results_text l.results
