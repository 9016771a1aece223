use Rattle.std.proofs.Common.{◌≡◌, map, length}
use Rattle.std.specs.String.{string_bytes}
use Rattle.aquarius_top.specs.Options.{none_given, options_from}
use Rattle.aquarius_top.proofs.command.read_options.Given as goal

abbrev pub invariant-loop-option : goal.invariant-loop-option
invariant-loop-option l = record {
  reads : options_from (map string_bytes l.options) none_given ≡ options_from (map string_bytes l.rest) l.given;
}

abbrev pub decreases-loop-option : goal.decreases-loop-option
decreases-loop-option l = length l.rest
