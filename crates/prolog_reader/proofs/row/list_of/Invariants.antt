use Rattle.std.proofs.Common.{◌≡◌, map, vec_len}
use Rattle.aq_term.specs.PlainOf.{plain}
use Rattle.prolog_reader.specs.Lists.{list_term}
use Rattle.prolog_reader.proofs.row.list_of.Given as goal

abbrev pub invariant-loop-item : goal.invariant-loop-item
invariant-loop-item l = list_term (map plain l.items.items) l.list ≡ list_term (map plain l.initial.items.items) l.initial.list

abbrev pub decreases-loop-item : goal.decreases-loop-item
decreases-loop-item l = vec_len l.items
