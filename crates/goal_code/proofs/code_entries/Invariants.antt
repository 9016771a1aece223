use Rattle.std.proofs.Common.{◌≡◌, map, take}
use Rattle.goal_code.specs.CodeEntries.{code_entry}
use Rattle.goal_code.proofs.code_entries.Given as goal

abbrev pub invariant-loop-entry : goal.invariant-loop-entry
invariant-loop-entry l = l.copies ≡ map code_entry (take l.entry-index l.entries)
