use Rattle.std.proofs.Common.{List, ap, sym, ◌∙◌, map}
use Rattle.aq_term.specs.PlainOf.{plain}
use Rattle.aq_term.specs.declared.term.Term.{Term}
use Rattle.prolog_reader.specs.Lists.{list_term}
use Rattle.prolog_reader.proofs.ListLemmas.{list_term_last}
use Rattle.prolog_reader.proofs.row.list_of.Goals as goal

pub loop-item-preserved : goal.loop-item-preserved
loop-item-preserved c =
    rw (c.from_vec.ensures, c.in_ok-cell.ensures.items)
    (list_term_last c.pop.new.self.items c.in-Some.item c.loop-item.list
    ∙ ap (λ (l : List Term). list_term (map plain l) c.loop-item.list) (sym c.in-Some.ensures.items)
    ∙ c.loop-item.invariant)
