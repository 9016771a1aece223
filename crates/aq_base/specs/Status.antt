use Rattle.std.specs.Prelude.{ℕ}
use Rattle.aq_base.specs.declared.status.Status.{Status}
use Rattle.aq_base.specs.declared.status.Status.TheVariants as status

-- the exit code of a status
abbrev pub code_of : Status → ℕ
code_of status.Solved = 0
code_of status.NoSolution = 1
code_of status.Raised = 2
code_of status.StepLimit = 3
code_of status.AreaLimit = 4
code_of status.Refused = 5
code_of status.BadWords = 6
code_of status.Memory = 7
code_of status.ReadFault = 8
code_of status.WriteFault = 9
