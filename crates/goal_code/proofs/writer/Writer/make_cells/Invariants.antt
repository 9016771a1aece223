use Rattle.std.proofs.Common.{◌≡◌}
use Rattle.goal_code.specs.Passed.{KeepsOut}
use Rattle.unify_special.specs.Steps.{moves_of, steps_of}
use Rattle.goal_code.proofs.writer.Writer.make_cells.Given as goal

abbrev pub invariant-loop-variable : goal.invariant-loop-variable
invariant-loop-variable l = record {
  steps : steps_of l.self.draft.lines ≡ steps_of l.fn.self.draft.lines;
  moves : moves_of l.self.draft.lines ≡ moves_of l.fn.self.draft.lines;
  facts : l.self.picture.facts ≡ l.fn.self.picture.facts;
  stays : KeepsOut l.fn.self.picture.facts l.fn.self.picture.places l.self.picture.places;
}
