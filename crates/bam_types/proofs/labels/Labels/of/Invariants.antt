use Rattle.std.proofs.Common.{◌≡◌, ◌++◌, drop}
use Rattle.bam_types.specs.Labels.{label_places}
use Rattle.bam_types.proofs.labels.Labels.of.Given as goal

abbrev pub invariant-loop-at : goal.invariant-loop-at
invariant-loop-at l = l.found.items ++ label_places l.at (drop l.at l.lines) ≡ label_places 0 l.lines
