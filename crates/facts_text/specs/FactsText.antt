-- How the facts of predicates are spelled, a line for each that is called.
use Rattle.std.specs.Prelude.{ℕ, ◌==◌, true, List, [], ◌∷◌, ◌++◌, codes, length, nat_lt, if◌then◌else◌}
use Rattle.std.specs.Fmt.{decimal}
use Rattle.aq_term.specs.declared.proc_name.ProcName.{ProcName}
use Rattle.term_meaning.specs.Plain.{atom}
use Rattle.term_text.specs.Written.{term_text}
use Rattle.type_lattice.specs.declared.fact.Fact.{Fact}
use Rattle.type_lattice.specs.declared.fact.Fact.TheVariants as fact
use Rattle.flow_equations.specs.declared.predicate_facts.PredicateFacts.{PredicateFacts}

abbrev pub fact_word : Fact → List ℕ
fact_word fact.Bot = codes "bot"
fact_word fact.Out = codes "out"
fact_word fact.Full = codes "full"
fact_word fact.GroundDirect = codes "gdirect"
fact_word fact.Ground = codes "ground"
fact_word fact.Direct = codes "direct"
fact_word fact.Nonvar = codes "nonvar"
fact_word fact.Any = codes "any"

abbrev pub words_of : List Fact → List ℕ
words_of [] = []
words_of (first ∷ facts) = 32 ∷ fact_word first ++ words_of facts

-- of an auxiliary predicate its number, and how many arguments it has
abbrev pub part_text : ProcName → List ℕ
part_text p = if p.part == 0 then [] else 35 ∷ decimal p.part ++ 47 ∷ decimal p.width

abbrev pub name_text : List (List ℕ) → ProcName → List ℕ
name_text texts p = term_text texts true 1200 (atom p.name.number) ++ 47 ∷ decimal p.arity ++ part_text p

-- a barrier is the one argument that has no fact
abbrev pub barrier_text : PredicateFacts → List ℕ
barrier_text p = if nat_lt (length p.call) p.name.width then codes " bar" else []

abbrev pub line_text : List (List ℕ) → PredicateFacts → List ℕ
line_text texts p =
    name_text texts p.name ++ codes " call" ++ words_of p.call ++ barrier_text p
    ++ codes " success" ++ words_of p.success ++ barrier_text p ++ 10 ∷ []

abbrev pub lines_text : List (List ℕ) → List PredicateFacts → List ℕ
lines_text texts [] = []
lines_text texts (first ∷ predicates) =
    (if first.reached then line_text texts first else []) ++ lines_text texts predicates
