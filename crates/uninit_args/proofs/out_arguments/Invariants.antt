use Rattle.std.proofs.Common.{◌≡◌, ◌++◌, drop}
use Rattle.uninit_args.specs.Results.{outs_from, outs_of}
use Rattle.uninit_args.proofs.out_arguments.Given as goal

abbrev pub invariant-loop-argument : goal.invariant-loop-argument
invariant-loop-argument l = l.outs.items ++ outs_from l.argument (drop l.argument l.call) ≡ outs_of l.call
