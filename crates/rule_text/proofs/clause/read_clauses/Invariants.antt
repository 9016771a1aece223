use Rattle.std.proofs.Common.{length}
use Rattle.source_meaning.specs.RuleProgram.{clauses_of}
use Rattle.rule_text.proofs.ClauseReads.{ClausesSoFar}
use Rattle.rule_text.proofs.clause.read_clauses.Given as goal

abbrev pub invariant-loop-rest : goal.invariant-loop-rest
invariant-loop-rest l = ClausesSoFar l.text (clauses_of l.clauses.items) l.rest

abbrev pub decreases-loop-rest : goal.decreases-loop-rest
decreases-loop-rest l = length l.rest
