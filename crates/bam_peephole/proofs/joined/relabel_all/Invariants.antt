use Rattle.std.proofs.Common.{◌≡◌, ◌++◌, drop, map, take}
use Rattle.bam_peephole.specs.Relabeled.{from_the_end, relabeled}
use Rattle.bam_peephole.proofs.joined.relabel_all.Given as goal

abbrev pub invariant-loop-line : goal.invariant-loop-line
invariant-loop-line l =
    l.line-items ≡ map (relabeled (from_the_end l.numbers.count)) (take l.line-index l.initial.line-items) ++ drop l.line-index l.initial.line-items
