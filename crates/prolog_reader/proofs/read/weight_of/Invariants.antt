use Rattle.std.proofs.Common.{◌≡◌, take}
use Rattle.prolog_tokens.specs.Scan.{total_weight}
use Rattle.prolog_reader.proofs.read.weight_of.Given as goal

abbrev pub invariant-loop-placed : goal.invariant-loop-placed
invariant-loop-placed l = l.weight ≡ total_weight (take l.placed-index l.tokens)
