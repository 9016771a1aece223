-- The keys of clauses.
use Rattle.std.specs.Prelude.{ℕ, ◌==◌, cond, min, List, [], ◌∷◌, Option, Some, None, length}
use Rattle.aq_term.specs.declared.functor.Functor.{Functor}
use Rattle.aq_term.specs.declared.term.Term.{Term}
use Rattle.aq_term.specs.declared.term.Term.TheVariants as term
use Rattle.kernel_ir.specs.declared.kernel_clause.KernelClause.{KernelClause}
use Rattle.kernel_ir.specs.declared.kernel_goal.KernelGoal.{KernelGoal}
use Rattle.kernel_ir.specs.declared.kernel_goal.KernelGoal.TheVariants as goal
use Rattle.determinism.specs.declared.key.Key.{Key}
use Rattle.determinism.specs.declared.key.Key.TheVariants as key

-- the constant or the functor of a term that is no variable; a compound has at most 255 arguments
abbrev pub key_of : Term → Option Key
key_of (term.Var n) = None
key_of (term.Int z) = Some (key.Int z)
key_of (term.Atom a) = Some (key.Atom a)
key_of (term.Compound a ts) = Some (key.Functor (record { name = a; arity = min (length ts) 255 }))

-- the first of two keys, or the second where there is no first
abbrev pub first_of : Option Key → Option Key → Option Key
first_of (Some k) other = Some k
first_of None other = other

-- the key at an argument by the unifications that the goals begin with
abbrev pub head_key : ℕ → List KernelGoal → Option Key
head_key i [] = None
head_key i (goal.Unify v t ∷ gs) = first_of (cond (v == i) (key_of t) None) (head_key i gs)
head_key i (g ∷ gs) = None

abbrev pub clause_key : ℕ → KernelClause → Option Key
clause_key i c = head_key i c.goals
