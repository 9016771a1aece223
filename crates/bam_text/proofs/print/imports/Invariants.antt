use Rattle.std.proofs.Common.{◌≡◌, ◌++◌, drop}
use Rattle.bam_text.specs.CodeText.{section_text, import_text}
use Rattle.bam_text.proofs.print.imports.Given as goal

abbrev pub invariant-loop-one : goal.invariant-loop-one
invariant-loop-one l =
    l.output ++ section_text (import_text l.atoms) (drop l.one-index l.imports) ≡ l.fn.output ++ section_text (import_text l.atoms) l.imports
