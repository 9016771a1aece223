-- Groups of clauses that share no key, and operands with more behind them.
use Rattle.std.proofs.Common.{◌≡◌, ℕ, ◌<◌, ◌≤◌, List, [], ◌∷◌, ◌++◌, length, get_or, take, vec_len, refl, ap, subst, sym}
use Rattle.aq_term.specs.declared.term.Term.{Term}
use Rattle.goal_code.specs.Alone.{IsAlone}
use Rattle.goal_code.specs.Passed.{operand_for, operands_for}
use Rattle.goal_code.specs.declared.arguments.Operand.{Operand}
use Rattle.goal_code.specs.declared.selection.Group.{Group}
use Rattle.goal_code.specs.declared.selection.Groups.{Groups}
use Rattle.type_lattice.specs.declared.fact.Fact.{Fact}
use Rattle.type_lattice.specs.declared.fact.Fact.TheVariants as fact
use Rattle.unify_special.specs.declared.place.Place.{Place}

-- the group at a place has one clause at most
pub single_at : (groups : Groups) (i : ℕ) (group : Group) → IsAlone groups → i < length groups.groups.items → group ≡ get_or groups.groups.items i group
    → vec_len group.labels ≤ 1
single_at groups i group alone h is = subst (λ g. vec_len g.labels ≤ 1) (sym is) (alone.single i group h)

pub operands_front : (places : List Place) (ts : List Term) (successes : List Fact) (more : List Operand)
    → take (length ts) (operands_for places ts successes ++ more) ≡ operands_for places ts successes
operands_front places [] successes [] = refl
operands_front places [] successes (first ∷ more) = refl
operands_front places (t ∷ ts) [] more = ap (λ l. operand_for places t fact.Any ∷ l) (operands_front places ts [] more)
operands_front places (t ∷ ts) (success ∷ successes) more = ap (λ l. operand_for places t success ∷ l) (operands_front places ts successes more)

pub operands_all : (places : List Place) (ts : List Term) (successes : List Fact)
    → take (length ts) (operands_for places ts successes) ≡ operands_for places ts successes
operands_all places [] successes = refl
operands_all places (t ∷ ts) [] = ap (λ l. operand_for places t fact.Any ∷ l) (operands_all places ts [])
operands_all places (t ∷ ts) (success ∷ successes) = ap (λ l. operand_for places t success ∷ l) (operands_all places ts successes)
