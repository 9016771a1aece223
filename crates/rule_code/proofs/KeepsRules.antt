-- The linked code of rules has their events.
use Rattle.std.proofs.Common.{ℕ, List, [], ◌∷◌, refl, sym, subst}
use Rattle.aq_term.specs.declared.proc_name.ProcName.{ProcName}
use Rattle.source_meaning.specs.SourceStep as source
use Rattle.bam_code.specs.declared.procedure.Proc.{Proc}
use Rattle.bam_meaning.specs.Instruction.{Instruction, answer, fail}
use Rattle.bam_meaning.specs.State.{State, ANSWER, start_at}
use Rattle.bam_meaning.specs.Linked.{linked, linked_procs, name_place, proc_place}
use Rattle.rule_code.specs.CodeAt.{PredicateAt}
use Rattle.rule_code.specs.CodeOf.{HasClauses}
use Rattle.rule_code.specs.Law.{CodeKeepsRules}
use Rattle.rule_code.proofs.Simulation.{At, at_call, answers, none, Compiled, ahead, behind}
use Rattle.rule_code.proofs.Placement.{Segment, segment_self, found_there}

pub code_keeps_rules : CodeKeepsRules
code_keeps_rules program predicates name_of code is rules name has =
    let image : List Instruction = linked code in
    let places : ProcName → ℕ = name_place code in
    let known : ProcName → Type 0 = HasClauses predicates in
    let whole : Segment image 2 (linked_procs places code.procs 2) = segment_self (answer ∷ fail ∷ []) (linked_procs places code.procs 2) in
    let segment = subst (λ (procs : List Proc). Segment image 2 (linked_procs places procs 2)) is whole in
    let compiled : (q : ProcName) → known q → Compiled program image places known name_of q = λ q clauses.
    record {
      body = clauses.predicate.first;
      bodies = clauses.predicate.others;
      clauses_are = rules.clauses_are q clauses.predicate clauses.found;
      code_there = subst (λ (procs : List Proc). PredicateAt image places known (proc_place procs q 2) clauses.predicate.first clauses.predicate.others) (sym is) (found_there image places known predicates 2 q clauses.predicate clauses.found rules.closed segment);
    } in
    let s : source.State = source.query_state (name_of name) in
    let m : State = start_at (places name) in
    let at : At program image places known name_of s m = at_call name has ANSWER [] [] [] [] 0 answers none in (
      (λ n. let by = ahead program image places known name_of refl refl compiled n s m at in (by.k, by.same_events, by.same_end)),
      (λ k. let by = behind program image places known name_of refl refl compiled k s m at in (by.n, by.prefix, by.same_end)),
    )
