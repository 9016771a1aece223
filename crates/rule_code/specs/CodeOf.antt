-- The code of rules without arguments.
use Rattle.std.specs.Prelude.{◌≡◌, ℕ, ◌+◌, cond, List, [], ◌∷◌, ◌++◌, Option, Some, None}
use Rattle.bam_meaning.specs.Linked.{same_name}
use Rattle.aq_term.specs.declared.proc_name.ProcName.{ProcName}
use Rattle.bam_code.specs.declared.line.Line.{Line}
use Rattle.bam_code.specs.declared.line.Line.TheVariants as line
use Rattle.bam_code.specs.declared.target.Target.TheVariants as target
use Rattle.bam_code.specs.declared.procedure.Proc.{Proc}
use Rattle.rule_code.specs.CodeAt.{Body}

-- a predicate: its name, and the bodies of its clauses in text order, of which there is at least one
pub record Predicate : Type 0 where
  pub name : ProcName
  pub first : Body
  pub others : List Body

-- the first goal, and then the others: calls within a frame, and the last goal without it
abbrev pub calls_lines : ProcName → Body → List Line
calls_lines first [] = line.Deallocate ∷ line.Exec first ∷ []
calls_lines first (next ∷ body) = line.Call first ∷ calls_lines next body

-- a clause: a fact returns, one goal is gone to, and more goals have a frame
abbrev pub clause_lines : Body → List Line
clause_lines [] = line.Return ∷ []
clause_lines (only ∷ []) = line.Exec only ∷ []
clause_lines (first ∷ next ∷ body) = line.Allocate 1 ∷ calls_lines first (next ∷ body)

-- the clauses that a choice tries later, the alternatives being numbered from a number on
abbrev pub later_lines : ℕ → Body → List Body → List Line
later_lines number body [] = line.Alt number None [] ∷ line.Trust ∷ clause_lines body
later_lines number body (next ∷ bodies) =
    line.Alt number None [] ∷ line.Retry (target.Label (number + 1)) ∷ (clause_lines body ++ later_lines (number + 1) next bodies)

-- the clauses of a predicate
abbrev pub predicate_lines : Body → List Body → List Line
predicate_lines body [] = clause_lines body
predicate_lines body (next ∷ bodies) =
    line.Try 0 (target.Label 0) ∷ (clause_lines body ++ later_lines 0 next bodies)

-- a predicate's procedure, which has no arguments
abbrev pub proc_of : Predicate → Proc
proc_of predicate = record { signature = record { name = predicate.name; args = []; results = [] }; lines = predicate_lines predicate.first predicate.others }

-- the first predicate of a name
abbrev pub predicate_of : List Predicate → ProcName → Option Predicate
predicate_of [] name = None
predicate_of (predicate ∷ predicates) name =
    cond (same_name predicate.name name) (Some predicate) (predicate_of predicates name)

-- a name that has clauses
pub record HasClauses (predicates : List Predicate) (name : ProcName) : Type 0 where
  pub predicate : Predicate
  pub found : predicate_of predicates name ≡ Some predicate

-- each goal of a body is so
abbrev pub AllGoals : (ProcName → Type 0) → Body → Type 0
AllGoals P [] = Unit {0}
AllGoals P (name ∷ body) = P name × AllGoals P body

abbrev pub AllBodies : (ProcName → Type 0) → List Body → Type 0
AllBodies P [] = Unit {0}
AllBodies P (body ∷ bodies) = AllGoals P body × AllBodies P bodies

abbrev pub AllPredicates : (ProcName → Type 0) → List Predicate → Type 0
AllPredicates P [] = Unit {0}
AllPredicates P (predicate ∷ predicates) =
    AllGoals P predicate.first × AllBodies P predicate.others × AllPredicates P predicates
