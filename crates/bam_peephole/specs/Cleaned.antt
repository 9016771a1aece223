-- A procedure before and after it is cleaned.
use Rattle.std.specs.Prelude.{◌≡◌, IsTrue, true}
use Rattle.bam_code.specs.declared.procedure.Proc.{Proc}
use Rattle.bam_peephole.specs.Acts.{acts}
use Rattle.bam_peephole.specs.Clean.{is_clean}
use Rattle.bam_peephole.specs.Reached.{nothing_named, reached_lines}
use Rattle.bam_peephole.specs.Threaded.{led}

-- nothing that is left does nothing, and all that a run may come to and that does something is left, in its order
pub record IsCleaned (before after : Proc) : Type 0 where
  pub signature : after.signature ≡ before.signature
  pub clean : IsTrue (is_clean after.lines)
  pub acts : acts after.lines ≡ acts (reached_lines true nothing_named (led before.lines))
