use Rattle.std.proofs.Common.{◌≡◌, ◌++◌, drop}
use Rattle.goal_code.specs.Passed.{hole_lines, holes_for, holes_from}
use Rattle.unify_special.specs.Steps.{steps_of}
use Rattle.goal_code.proofs.writer.Writer.make_holes.Given as goal

abbrev pub invariant-loop-number : goal.invariant-loop-number
invariant-loop-number l = record {
  lines : l.self.draft.lines ++ holes_from l.number (drop l.number l.operands) ≡ l.fn.self.draft.lines ++ holes_for l.operands;
  holes : hole_lines l.self.draft.lines ++ holes_from l.number (drop l.number l.operands) ≡ hole_lines l.fn.self.draft.lines ++ holes_for l.operands;
  steps : steps_of l.self.draft.lines ≡ steps_of l.fn.self.draft.lines;
}
