-- What a fault of joining names.
use Rattle.std.specs.Prelude.{◌≤◌}
use Rattle.part_link.specs.declared.join_fault.JoinFault.{JoinFault}
use Rattle.part_link.specs.declared.join_fault.JoinFault.TheVariants as fault

-- procedures and imports are counted from 1
abbrev pub IsJoinFault : JoinFault → Type 0
IsJoinFault (fault.Name number) = 1 ≤ number
IsJoinFault (fault.Import number) = 1 ≤ number
IsJoinFault fault.Memory = Unit {0}
