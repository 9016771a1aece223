use Rattle.std.proofs.Common.{◌<◌, ◌^◌}
use Rattle.prolog_tokens.proofs.scan.character_of.Given as goal

abbrev pub invariant-loop-byte : goal.invariant-loop-byte
invariant-loop-byte l = l.code < 2 ^ 32
