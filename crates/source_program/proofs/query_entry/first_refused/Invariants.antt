use Rattle.std.proofs.Common.{◌≡◌, ◌+◌, map, get_or, nat_eq, length}
use Rattle.aq_term.specs.PlainOf.{plain}
use Rattle.source_program.specs.Modes.{first_refused}
use Rattle.source_program.proofs.query_entry.first_refused.Given as goal

abbrev pub invariant-loop-argument : goal.invariant-loop-argument
invariant-loop-argument l = record {
  number : l.number + length l.argument-iterator.a.rest.now ≡ length l.arguments;
  rest : first_refused (λ v. nat_eq (get_or l.counts.counts.items v 0) 1) 0 l.modes (map plain l.arguments)
      ≡ first_refused (λ v. nat_eq (get_or l.counts.counts.items v 0) 1) l.number l.argument-iterator.b.rest.now (map plain l.argument-iterator.a.rest.now);
}
