use Rattle.std.proofs.Common.{◌≡◌, vec_len}
use Rattle.std.specs.Prelude.{IsTrue}
use Rattle.goal_code.specs.Alone.{EachIsAlone}
use Rattle.goal_code.proofs.writer.Writer.selection.Given as goal

abbrev pub invariant-loop-key : goal.invariant-loop-key
invariant-loop-key l = record {
  lines : l.self.draft.lines ≡ l.fn.self.draft.lines;
  own : l.self.own.now ≡ l.fn.self.own.now;
  argument : l.selection.argument ≡ l.argument;
  alone : IsTrue l.plan.det → EachIsAlone l.selection;
  labels : vec_len l.selection.labels ≡ l.key-index;
}
