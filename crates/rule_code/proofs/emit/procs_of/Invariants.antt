use Rattle.std.proofs.Common.{◌≡◌, false, filter, map, slice_index_or, take}
use Rattle.rule_code.specs.CodeOf.{proc_of}
use Rattle.rule_code.specs.Compiled.{predicate_with}
use Rattle.rule_code.specs.Passes.{row_at}
use Rattle.rule_code.proofs.emit.procs_of.Given as goal

abbrev pub invariant-loop-name : goal.invariant-loop-name
invariant-loop-name l =
    l.procs.items ≡ map (λ name. proc_of (predicate_with name (row_at l.rows name.name.number))) (filter (λ name. slice_index_or l.reached name.name.number false) (take l.name-index l.order))
