-- The code of rules has lines alone that the machine knows.
use Rattle.std.proofs.Common.{ℕ, ◌+◌, List, [], ◌∷◌, ◌++◌, map, refl}
use Rattle.aq_term.specs.declared.proc_name.ProcName.{ProcName}
use Rattle.bam_code.specs.declared.line.Line.{Line}
use Rattle.bam_meaning.specs.Linked.{PlainLines, PlainProcs}
use Rattle.rule_code.specs.CodeAt.{Body}
use Rattle.rule_code.specs.CodeOf.{Predicate, calls_lines, clause_lines, later_lines, predicate_lines, proc_of}

plain-append : (xs ys : List Line) → PlainLines xs → PlainLines ys → PlainLines (xs ++ ys)
plain-append [] ys front rest = rest
plain-append (x ∷ xs) ys front rest = (front.0, plain-append xs ys front.1 rest)

calls_plain : (first : ProcName) (body : Body) → PlainLines (calls_lines first body)
calls_plain first [] = (refl, (refl, tt))
calls_plain first (next ∷ body) = (refl, calls_plain next body)

clause_plain : (body : Body) → PlainLines (clause_lines body)
clause_plain [] = (refl, tt)
clause_plain (only ∷ []) = (refl, tt)
clause_plain (first ∷ next ∷ body) = (refl, calls_plain first (next ∷ body))

later_plain : (number : ℕ) (body : Body) (bodies : List Body) → PlainLines (later_lines number body bodies)
later_plain number body [] = (refl, (refl, clause_plain body))
later_plain number body (next ∷ bodies) =
    (refl, (refl, plain-append (clause_lines body) (later_lines (number + 1) next bodies) (clause_plain body) (later_plain (number + 1) next bodies)))

predicate_plain : (body : Body) (bodies : List Body) → PlainLines (predicate_lines body bodies)
predicate_plain body [] = clause_plain body
predicate_plain body (next ∷ bodies) =
    (refl, plain-append (clause_lines body) (later_lines 0 next bodies) (clause_plain body) (later_plain 0 next bodies))

pub procs_plain : (predicates : List Predicate) → PlainProcs (map proc_of predicates)
procs_plain [] = tt
procs_plain (predicate ∷ predicates) = (predicate_plain predicate.first predicate.others, procs_plain predicates)
