use Rattle.std.proofs.Common.{sym}
use Rattle.source_program.proofs.DefinedLemmas.{is_builtin-of, is_builtin-none}
use Rattle.source_program.proofs.body_goal.is_builtin.Goals as goal

pub returns-in-Some : goal.returns-in-Some
returns-in-Some c = sym (is_builtin-of c.in-Some.field-0 _ _ c.in-Some.ensures.found.0 c.in-Some.ensures.found.1)

pub returns-in-None : goal.returns-in-None
returns-in-None c = sym (is_builtin-none _ _ (λ b e f. let bad = c.in-None.ensures.all b e f in cc))
