use Rattle.std.proofs.Common.{◌≡◌, map}
use Rattle.source_program.specs.Keys.{Key}
use Rattle.source_program.specs.KeySets.{is_among}
use Rattle.source_program.specs.TextKeys.{clause_key_row}
use Rattle.source_program.proofs.gathering.Gathered.of.Given as goal

abbrev pub invariant-loop-named : goal.invariant-loop-named
invariant-loop-named l = (k : Key) → is_among l.gathered.keys k ≡ is_among (map clause_key_row l.yielded) k
