-- Programs in which each name that may be called has a clause.
use Rattle.std.specs.Prelude.{◌≢◌, List, [], ◌∷◌}
use Rattle.source_meaning.specs.Program.{Name, Clause, Program}
use Rattle.source_meaning.specs.SourceStep.{bodies_of}

-- each of these names is so
abbrev pub AllNames : (Name → Type 0) → List Name → Type 0
AllNames P [] = Unit {0}
AllNames P (name ∷ names) = P name × AllNames P names

-- each name that one of these clauses calls is so
abbrev pub AllCalls : (Name → Type 0) → List Clause → Type 0
AllCalls P [] = Unit {0}
AllCalls P (clause ∷ clauses) = AllNames P clause.body × AllCalls P clauses

-- a name has a clause
abbrev pub HasClause : List Clause → Name → Type 0
HasClause clauses name = bodies_of name clauses ≢ []

-- the entry's name has a clause, and each name that any clause calls has one
abbrev pub Closed : Program → Type 0
Closed program = HasClause program.clauses program.entry × AllCalls (HasClause program.clauses) program.clauses
