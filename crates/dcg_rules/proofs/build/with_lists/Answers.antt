use Rattle.std.proofs.Common.{◌≡◌, ◌++◌, ◌∷◌, [], arith}
use Rattle.std.proofs.lemmas.Grind.{common_steps}
use Rattle.aq_term.specs.declared.term.Term.TheVariants as term
use Rattle.dcg_rules.proofs.GrammarLemmas.{with_lists_of_items}
use Rattle.dcg_rules.proofs.build.with_lists.Goals as goal

pub returns : goal.returns
returns c =
    let e : c.push-3.new.self.items ≡ (c.args.arguments.now ++ term.Var c.args.from ∷ []) ++ term.Var c.args.to ∷ [] =
    grind (arith, common_steps)
    in rw (c.from_vec.ensures, e) (with_lists_of_items _ _ _ _)
