use Rattle.std.proofs.Common.{take}
use Rattle.std.specs.Prelude.{All}
use Rattle.source_program.specs.Forms.{HasModes}
use Rattle.source_program.proofs.TextLemmas.{SoFar}
use Rattle.source_program.proofs.gathering.Forms.of.Given as goal

abbrev pub invariant-loop-index : goal.invariant-loop-index
invariant-loop-index l = record {
  so_far : SoFar (take l.index l.read-items) l.forms.entries l.forms.clauses.items l.declared;
  modes : All HasModes l.forms.entries;
}
