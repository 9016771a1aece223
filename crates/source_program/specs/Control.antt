-- The parts of a control construct: they are smaller than the term that they stand in, and goals where that term is one.
use Rattle.std.specs.Prelude.{ℕ, ◌+◌, max, Option, None}
use Rattle.aq_base.specs.declared.refusal.FormKind.{FormKind}
use Rattle.source_program.specs.ClauseFaults.{first_of, body_fault, goal_fault}
use Rattle.source_program.specs.Arguments.{most_called, called}
use Rattle.term_meaning.specs.Plain.{nodes}
use Rattle.aq_term.specs.PlainOf.{plain}
use Rattle.source_program.specs.declared.body_goal.Control.{Control}
use Rattle.source_program.specs.declared.body_goal.Control.TheVariants as control

-- the nodes of all parts
abbrev pub nodes_of_parts : Control → ℕ
nodes_of_parts (control.And a b) = nodes (plain a.now) + nodes (plain b.now)
nodes_of_parts (control.Or a b) = nodes (plain a.now) + nodes (plain b.now)
nodes_of_parts (control.IfThen a b) = nodes (plain a.now) + nodes (plain b.now)
nodes_of_parts (control.Not a) = nodes (plain a.now)
nodes_of_parts (control.Catch a b c) = nodes (plain a.now) + nodes (plain b.now) + nodes (plain c.now)
nodes_of_parts (control.Throw a) = nodes (plain a.now)
nodes_of_parts control.Other = 0

-- the first fault of the parts; a goal of this name with so many arguments where there is no construct
abbrev pub fault_of_parts : Control → ℕ → ℕ → Option FormKind
fault_of_parts (control.And a b) n arity = first_of (body_fault (plain a.now)) (body_fault (plain b.now))
fault_of_parts (control.Or a b) n arity = first_of (body_fault (plain a.now)) (body_fault (plain b.now))
fault_of_parts (control.IfThen a b) n arity = first_of (body_fault (plain a.now)) (body_fault (plain b.now))
fault_of_parts (control.Not a) n arity = body_fault (plain a.now)
fault_of_parts (control.Catch a b c) n arity = first_of (body_fault (plain a.now)) (body_fault (plain c.now))
fault_of_parts (control.Throw a) n arity = None
fault_of_parts control.Other n arity = goal_fault n arity

-- the most arguments of a call in the parts
abbrev pub called_in_parts : Control → ℕ → ℕ → ℕ
called_in_parts (control.And a b) n arity = max (most_called (plain a.now)) (most_called (plain b.now))
called_in_parts (control.Or a b) n arity = max (most_called (plain a.now)) (most_called (plain b.now))
called_in_parts (control.IfThen a b) n arity = max (most_called (plain a.now)) (most_called (plain b.now))
called_in_parts (control.Not a) n arity = most_called (plain a.now)
called_in_parts (control.Catch a b c) n arity = max (most_called (plain a.now)) (most_called (plain c.now))
called_in_parts (control.Throw a) n arity = 0
called_in_parts control.Other n arity = called n arity
