use Rattle.std.proofs.Common.{◌≡◌, map, take}
use Rattle.flow_equations.specs.Shape.{due_shape, shape_of, unreached}
use Rattle.flow_equations.proofs.facts.Facts.bottom.Given as goal

abbrev pub invariant-loop-predicate : goal.invariant-loop-predicate
invariant-loop-predicate l = record {
  facts : l.items.items ≡ map unreached (take l.predicate-index l.predicates);
  shape : map shape_of l.items.items ≡ map due_shape (take l.predicate-index l.predicates);
}
