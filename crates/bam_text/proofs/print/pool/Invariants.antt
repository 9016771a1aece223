use Rattle.std.proofs.Common.{◌≡◌, ◌++◌, drop, map}
use Rattle.aq_term.specs.PlainOf.{plain}
use Rattle.bam_text.specs.CodeText.{section_text, pool_text}
use Rattle.bam_text.proofs.print.pool.Given as goal

abbrev pub invariant-loop-term : goal.invariant-loop-term
invariant-loop-term l =
    l.output ++ section_text (pool_text l.atoms) (map plain (drop l.term-index l.pool)) ≡ l.fn.output ++ section_text (pool_text l.atoms) (map plain l.pool)
