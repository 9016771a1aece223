-- Which arguments of a query the modes of an entry take.
use Rattle.std.specs.Prelude.{ℕ, ◌+◌, ◌<◌, ◌≡◌, Bool, true, false, not, nat_eq, cond, List, [], ◌∷◌, Option, Some, None, All, length, get_or, set, slice_get}
use Rattle.aq_term.specs.PlainOf.{plain, capped}
use Rattle.aq_term.specs.declared.entry.Entry.{Entry}
use Rattle.aq_term.specs.declared.mode.Mode.{Mode}
use Rattle.aq_term.specs.declared.mode.Mode.TheVariants as mode
use Rattle.aq_term.specs.declared.read_term.ReadTerm.{ReadTerm}
use Rattle.term_meaning.specs.Plain.{Plain, variable, integer, atom, compound, items, plains, variables, variables_of_all, is_ground}
use Rattle.source_program.specs.EntryFor.{IsEntryFor}

-- how often a variable stands in a list of variables
abbrev pub occurrences : ℕ → List ℕ → ℕ
occurrences v [] = 0
occurrences v (w ∷ ws) = cond (nat_eq v w) 1 0 + occurrences v ws

abbrev is_variable : Plain → Bool
is_variable (variable n) = true
is_variable (integer z) = false
is_variable (atom n) = false
is_variable (compound n ts) = false

-- the term is a variable for which this holds
abbrev is_variable_with : (ℕ → Bool) → Plain → Bool
is_variable_with single (variable n) = single n
is_variable_with single (integer z) = false
is_variable_with single (atom n) = false
is_variable_with single (compound n ts) = false

-- an argument of this mode may be this term, where `single` tells of each variable whether it stands once in the query
abbrev pub is_taken : (ℕ → Bool) → Mode → Plain → Bool
is_taken single mode.Ground t = is_ground t
is_taken single mode.Nonvar t = not (is_variable t)
is_taken single mode.Out t = is_variable_with single t
is_taken single mode.Any t = true

-- the number of the first argument that its mode refuses, where `before` arguments stand before these
abbrev pub first_refused : (ℕ → Bool) → ℕ → List Mode → List Plain → Option ℕ
first_refused single before [] ts = None
first_refused single before (m ∷ ms) [] = None
first_refused single before (m ∷ ms) (t ∷ ts) = cond (is_taken single m t) (first_refused single (before + 1) ms ts) (Some (before + 1))

-- the variable stands once in these variables
abbrev pub stands_once : List ℕ → ℕ → Bool
stands_once vs v = nat_eq (occurrences v vs) 1

-- the arguments of a query
abbrev pub arguments : Plain → List Plain
arguments (variable n) = []
arguments (integer z) = []
arguments (atom n) = []
arguments (compound n ts) = items ts

-- the number, from 1, of the first argument of the query that its mode refuses
abbrev pub refused_argument : List Mode → Plain → Option ℕ
refused_argument ms query = first_refused (stands_once (variables query)) 0 ms (arguments query)

-- each variable of the query has a name
abbrev pub AreNamed : ReadTerm → Type 0
AreNamed query = All (λ v. v < length query.names) (variables (plain query.term))

-- the entry is the query's, and takes all its arguments
abbrev pub IsTakenBy : Plain → Entry → Type 0
IsTakenBy query entry = IsEntryFor query entry × (refused_argument entry.modes query ≡ None)

-- an entry is the query's, and this is the first argument that its mode refuses
abbrev pub IsRefusedAt : Plain → List Entry → ℕ → Type 0
IsRefusedAt query entries argument =
    (place : ℕ) × (entry : Entry) × (slice_get entries place ≡ Some entry) × IsEntryFor query entry × (refused_argument entry.modes query ≡ Some argument)

-- how often each variable was met, and then these variables, each number as far as a `u64` tells it
abbrev pub counted : List ℕ → List ℕ → List ℕ
counted [] counts = counts
counted (v ∷ vs) counts = counted vs (set counts v (capped (get_or counts v 0 + 1)))

-- each variable of the arguments is below a number
abbrev pub AreUnder : ℕ → List Plain → Type 0
AreUnder n ts = All (λ v. v < n) (variables_of_all (plains ts))

-- the entry has this name and takes all these arguments
abbrev pub IsTakenCall : ℕ → List Plain → Entry → Type 0
IsTakenCall name ts entry =
    (name ≡ entry.name.number) × (length ts ≡ entry.arity) × (first_refused (stands_once (variables_of_all (plains ts))) 0 entry.modes ts ≡ None)

-- the entry has this name and as many arguments, and this is the first that its mode refuses
abbrev pub IsRefusedCall : ℕ → List Plain → Entry → ℕ → Type 0
IsRefusedCall name ts entry argument =
    (name ≡ entry.name.number) × (length ts ≡ entry.arity) × (first_refused (stands_once (variables_of_all (plains ts))) 0 entry.modes ts ≡ Some argument)
