-- One step of a source program's run, depth first, clauses in text order, goals from left to right. Names bind nothing, so
-- a state keeps no substitution, and no goal here cuts, so a goal keeps no depth.
use Rattle.std.specs.Prelude.{List, [], ◌∷◌, ◌++◌, map, if◌then◌else◌}
use Rattle.std.specs.Str.{bytes_eq}
use Rattle.run_meaning.specs.Machine.{Step, went, ended}
use Rattle.run_meaning.specs.Event.{Event, solution}
use Rattle.source_meaning.specs.Program.{Name, Clause, Program}

-- a call, or a call whose clauses are being tried: the bodies of those that are left, in text order
pub data Goal : Type 0 where
  call : (name : Name) → Goal
  try : (bodies : List (List Name)) → Goal

-- what is to be done, and the choices, newest first: each is what is to be done in the state that it saved, whose own
-- choices are those behind it
pub record State : Type 0 where
  pub goals : List Goal
  pub choices : List (List Goal)

-- no choice is left, or a name without clauses was called, which raises its existence error
pub data Ending : Type 0 where
  exhausted : Ending
  undefined : (name : Name) → Ending

-- a query of a name has no variables, so a solution has no values
abbrev pub Seen : Type 0
Seen = Event (Unit {0})

abbrev pub SourceStep : Type 0
SourceStep = Step Seen Ending State

-- the bodies of a name's clauses, in text order
abbrev pub bodies_of : Name → List Clause → List (List Name)
bodies_of name [] = []
bodies_of name (clause ∷ clauses) =
    if bytes_eq clause.head name then clause.body ∷ bodies_of name clauses else bodies_of name clauses

-- the newest choice is taken, or there is none and the run is over
abbrev pub back : List Seen → List (List Goal) → SourceStep
back events [] = ended events 1 exhausted
back events (goals ∷ choices) = went events 1 (record { goals = goals; choices = choices })

-- a call: its clauses are tried, or it has none
abbrev pub called : Name → List (List Name) → List Goal → List (List Goal) → SourceStep
called name [] rest choices = ended [] 1 (undefined name)
called name (body ∷ bodies) rest choices = went [] 1 (record { goals = try (body ∷ bodies) ∷ rest; choices = choices })

-- the first clause that is left is entered; where there are others, a choice keeps them
abbrev pub tried : List (List Name) → List Goal → List (List Goal) → SourceStep
tried [] rest choices = back [] choices
tried (body ∷ []) rest choices = went [] 1 (record { goals = map call body ++ rest; choices = choices })
tried (body ∷ next ∷ bodies) rest choices =
    went [] 1 (record { goals = map call body ++ rest; choices = (try (next ∷ bodies) ∷ rest) ∷ choices })

-- the step by the first goal; with none, the state is a solution
abbrev pub step_on : List Clause → List Goal → List (List Goal) → SourceStep
step_on clauses [] choices = back (solution tt ∷ []) choices
step_on clauses (call name ∷ rest) choices = called name (bodies_of name clauses) rest choices
step_on clauses (try bodies ∷ rest) choices = tried bodies rest choices

abbrev pub source_step : Program → State → SourceStep
source_step program state = step_on program.clauses state.goals state.choices

-- where the run of a query begins
abbrev pub query_state : Name → State
query_state name = record { goals = call name ∷ []; choices = [] }
