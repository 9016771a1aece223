use Rattle.std.proofs.Common.{arith, rules}
use Rattle.std.proofs.lemmas.Grind.{common_steps}
use Rattle.std.proofs.Math.Seq.{map-set_same}
use Rattle.flow_equations.proofs.facts.Facts.reach.Goals as goal
use Rattle.flow_equations.proofs.facts.Facts.reach.Goals.{in-Some, in-None}

pub returns-clause-shape : goal.returns-clause-shape
returns-clause-shape c =
    elim c.match-get_mut.branch [
      | in-Some w ↦ rw w.self-inside-is (grind (arith, common_steps, map-set_same))
      | in-None w ↦ rw w.self-inside-is (search rules)
    ]
