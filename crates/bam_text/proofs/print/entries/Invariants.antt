use Rattle.std.proofs.Common.{◌≡◌, ◌++◌, drop}
use Rattle.bam_text.specs.CodeText.{section_text, entry_text}
use Rattle.bam_text.proofs.print.entries.Given as goal

abbrev pub invariant-loop-one : goal.invariant-loop-one
invariant-loop-one l =
    l.output ++ section_text (entry_text l.atoms) (drop l.one-index l.entries) ≡ l.fn.output ++ section_text (entry_text l.atoms) l.entries
