use Rattle.std.proofs.Common.{arith, rules}
use Rattle.std.proofs.lemmas.Grind.{common_steps}
use Rattle.std.proofs.lemmas.List.Edits.{map_over_more}
use Rattle.bam_types.specs.Weakening.{pass_place}
use Rattle.bam_types.proofs.places.Places.pass.Goals as goal

pub loop-place-preserved : goal.loop-place-preserved
loop-place-preserved c =
    rw c.passed_place.ensures (first_of (search (rules, map_over_more (pass_place c.args.identity)), grind (arith, common_steps, map_over_more (pass_place c.args.identity))))
