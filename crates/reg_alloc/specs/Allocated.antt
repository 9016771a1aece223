-- Procedures with other registers from r64 on.
use Rattle.std.specs.Prelude.{◌≡◌, ℕ, ◌<◌, ◌≤◌}
use Rattle.std.specs.List.{AllZip}
use Rattle.bam_code.specs.declared.procedure.Proc.{Proc}
use Rattle.reg_alloc.specs.Renamed.{IsRenamed}

-- some renaming of the registers from r64 on gives the lines after, one for each line before
pub record IsAllocated (before after : Proc) : Type 0 where
  pub new : ℕ → ℕ
  pub signature : after.signature ≡ before.signature
  pub low : (r : ℕ) → r < 64 → new r ≡ r
  pub high : (r : ℕ) → 64 ≤ r → 64 ≤ new r
  pub lines : AllZip (IsRenamed new) before.lines after.lines
