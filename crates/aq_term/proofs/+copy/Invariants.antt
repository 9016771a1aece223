use Rattle.std.proofs.Common.{◌≡◌, take}
use Rattle.aq_term.proofs.+copy.Given as goal

abbrev pub invariant-args::Args::copy-loop-term : goal.invariant-args::Args::copy-loop-term
invariant-args::Args::copy-loop-term l = l.items.items ≡ take l.term-index l.term-items
