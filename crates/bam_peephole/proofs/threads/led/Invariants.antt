use Rattle.std.proofs.Common.{◌≡◌, ◌++◌, List, reverse, vec_len}
use Rattle.bam_code.specs.declared.line.Line.{Line}
use Rattle.bam_peephole.specs.Follows.{Follows}
use Rattle.bam_peephole.specs.Threaded.{led, thread}
use Rattle.bam_peephole.proofs.threads.led.Given as goal

abbrev pub invariant-loop-line : goal.invariant-loop-line
invariant-loop-line l =
    (rest : List Line) × (l.lines.items ++ rest ≡ l.fn.lines.items) × (reverse l.led.items ≡ led rest) × Follows (thread rest) l.threads

abbrev pub decreases-loop-line : goal.decreases-loop-line
decreases-loop-line l = vec_len l.lines
