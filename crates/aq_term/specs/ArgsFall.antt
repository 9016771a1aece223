-- The arguments of an argument have fewer nodes than the arguments.
use Rattle.std.specs.Prelude.{◌≡◌, ◌≤◌, max, List, [], ◌∷◌, map, sum_by, refl}
use Rattle.std.proofs.Common.{arith}
use Rattle.std.proofs.lemmas.List.Sums.{sum_by-cons}
use denote.Param.Weighed.{most}
use Rattle.term_meaning.specs.Plain.{Plain, nodes, nodes_of_all, plains}
use Rattle.aq_term.specs.PlainOf.{plain}
use Rattle.aq_term.specs.declared.term.Term.{Term}
use Rattle.aq_term.specs.declared.term.Term.TheVariants as term
use Rattle.aq_term.specs.declared.args.Args.TheInside.{Inside}
use Rattle.aq_term.specs.declared.args.Args.TheDeep.{deep-Term}

nodes_of_all-sum : (ts : List Plain) → nodes_of_all (plains ts) ≡ sum_by nodes ts
nodes_of_all-sum [] = refl
nodes_of_all-sum (t ∷ ts) = rw (nodes_of_all-sum ts, sum_by-cons) refl

deep_le-nodes : (t : Term) → deep-Term t ≤ nodes (plain t)
deep_le-nodes (term.Var n) = omega arith
deep_le-nodes (term.Int z) = omega arith
deep_le-nodes (term.Atom a) = omega arith
deep_le-nodes (term.Compound a ts) = omega (arith, nodes_of_all-sum ts)

most_le-nodes : (ts : List Term) → most deep-Term ts ≤ sum_by nodes (map plain ts)
most_le-nodes [] = omega arith
most_le-nodes (t ∷ ts) =
    omega (arith, deep_le-nodes t, most_le-nodes ts, sum_by-cons nodes (plain t) (map plain ts))

pub args_fall : (a : Inside) → max (most deep-Term a.items.items) 0 ≤ sum_by nodes (map plain a.items.items)
args_fall a = omega (arith, most_le-nodes a.items.items)
