use Rattle.std.proofs.Common.{arith, rules}
use Rattle.std.proofs.lemmas.Grind.{common_steps}
use Rattle.std.proofs.lemmas.List.Edits.{map_over_more}
use Rattle.bam_peephole.specs.Relabeled.{from_the_end, relabeled}
use Rattle.bam_peephole.proofs.joined.relabel_all.Goals as goal

pub loop-line-preserved : goal.loop-line-preserved
loop-line-preserved c =
    rw c.relabel.ensures (first_of (search (rules, map_over_more (relabeled (from_the_end c.args.numbers.count))), grind (arith, common_steps, map_over_more (relabeled (from_the_end c.args.numbers.count)))))
