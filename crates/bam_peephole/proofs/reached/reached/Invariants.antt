use Rattle.std.proofs.Common.{◌≡◌, ◌++◌, List, true}
use Rattle.bam_code.specs.declared.line.Line.{Line}
use Rattle.bam_peephole.specs.Reach.{named_in}
use Rattle.bam_peephole.specs.Reached.{nothing_named, reached_lines}
use Rattle.bam_peephole.proofs.reached.reached.Given as goal

abbrev pub invariant-loop-line : goal.invariant-loop-line
invariant-loop-line l = record {
  ahead : (rest : List Line) → reached_lines true nothing_named (l.yielded ++ rest) ≡ l.reached.items ++ reached_lines l.reach.goes_on (named_in l.reach) rest;
  behind : l.reached.items ≡ reached_lines true nothing_named l.yielded;
}
