use Rattle.std.proofs.Common.{◌≡◌, take}
use Rattle.dcg_rules.proofs.build.with_lists.Given as goal

abbrev pub invariant-loop-argument : goal.invariant-loop-argument
invariant-loop-argument l = l.items.items ≡ take l.argument-index l.arguments
