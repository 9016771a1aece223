use Rattle.std.proofs.Common.{◌≡◌, ◌++◌, IsTrue, reverse, vec_len}
use Rattle.bam_peephole.specs.Acts.{acts}
use Rattle.bam_peephole.specs.Clean.{is_clean}
use Rattle.bam_peephole.proofs.joined.joined.Given as goal

abbrev pub invariant-loop-line : goal.invariant-loop-line
invariant-loop-line l = record {
  clean : IsTrue (is_clean (reverse l.kept.items));
  acts : acts (l.lines.items ++ reverse l.kept.items) ≡ acts l.fn.lines.items;
}

abbrev pub decreases-loop-line : goal.decreases-loop-line
decreases-loop-line l = vec_len l.lines
