use Rattle.std.proofs.Common.{◌≤◌, ◌+◌, length}
use Rattle.part_link.proofs.parts.read_parts.Given as goal

abbrev pub invariant-loop-code : goal.invariant-loop-code
invariant-loop-code l = record {
  first : 1 ≤ l.part;
  counted : l.part + length l.rest ≤ 1 + length l.bytes;
}

abbrev pub decreases-loop-code : goal.decreases-loop-code
decreases-loop-code l = length l.rest
