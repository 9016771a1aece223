-- The definitions on small programs.
use Rattle.std.proofs.Common.{◌≡◌, List, [], ◌∷◌, false, inl, inr, refl}
use Rattle.std.specs.Prelude.{codes}
use Rattle.run_meaning.specs.Machine.{Finishes}
use Rattle.run_meaning.specs.Event.{solution}
use Rattle.run_meaning.specs.Written.{body, closed, true_lines}
use Rattle.source_meaning.specs.Program.{Clause, Program, fact}
use Rattle.source_meaning.specs.RuleText.{is_name, is_gap, WrittenClause, IsRuleText}
use Rattle.source_meaning.specs.SourceStep.{Seen, exhausted, undefined, source_step, query_state}

-- the facts p, q, p
abbrev three_facts : Program
three_facts = record { entry = codes "p"; clauses = fact (codes "p") ∷ fact (codes "q") ∷ fact (codes "p") ∷ [] }

-- the query p has two solutions, and the run is over after five steps
pub two_solutions : Finishes (source_step three_facts) (query_state (codes "p")) (solution tt ∷ solution tt ∷ []) exhausted
two_solutions = record { steps = 5; work = 5; is_over = refl }

-- and is written as two answers and the ending
abbrev two_events : List Seen
two_events = solution tt ∷ solution tt ∷ []

pub written_example : closed (body (λ _. true_lines) two_events) (codes "no") ≡ codes "true\n;\ntrue\n;\nno\n"
written_example = refl

-- p :- q, r. with two facts q and a fact r: a solution for each q
abbrev rule_program : Program
rule_program = record { entry = codes "p"; clauses = record { head = codes "p"; body = codes "q" ∷ codes "r" ∷ [] } ∷ fact (codes "q") ∷ fact (codes "q") ∷ fact (codes "r") ∷ [] }

pub rule_solutions : Finishes (source_step rule_program) (query_state (codes "p")) (solution tt ∷ solution tt ∷ []) exhausted
rule_solutions = record { steps = 11; work = 11; is_over = refl }

-- a name without clauses raises
pub undefined_example : Finishes (source_step three_facts) (query_state (codes "r")) [] (undefined (codes "r"))
undefined_example = record { steps = 1; work = 1; is_over = refl }

-- the rules of the program above as a text, with comments in front and behind
abbrev written : Clause → WrittenClause
written clause = record { clause = clause; layout = codes " " }

abbrev rules_written : List WrittenClause
rules_written =
    written (record { head = codes "p"; body = codes "q" ∷ codes "r" ∷ [] })
    ∷ written (fact (codes "q"))
    ∷ written (fact (codes "q"))
    ∷ record { clause = fact (codes "r"); layout = codes "%\n" }
    ∷ []

pub rules_text : IsRuleText (codes "% a\n:- entry(p).\np :- q, r. q. q. r.%\n") rule_program
rules_text =
    record {
      lead = codes "% a\n";
      layout = codes "\n";
      clauses = rules_written;
      text_is = refl;
      lead_is = refl;
      entry_is_name = refl;
      layout_is = refl;
      apart = inr (λ none. let bad : ⊥ = cc in bad);
      clauses_are_written = (
        refl,
        refl,
        inr (λ none. let bad : ⊥ = cc in bad),
        (
          refl,
          refl,
          inr (λ none. let bad : ⊥ = cc in bad),
          (refl, refl, inr (λ none. let bad : ⊥ = cc in bad), (refl, refl, inl refl, tt)),
        ),
      );
      clauses_are = refl;
    }

-- an entry alone, with nothing behind it, is the program without clauses
pub entry_text : IsRuleText (codes ":- entry(p).") (record { entry = codes "p"; clauses = [] })
entry_text =
    record {
      lead = [];
      layout = [];
      clauses = [];
      text_is = refl;
      lead_is = refl;
      entry_is_name = refl;
      layout_is = refl;
      apart = inl refl;
      clauses_are_written = tt;
      clauses_are = refl;
    }

-- a name with a meaning of its own, one with a capital in front, and none
pub no_names : (is_name (codes "true") ≡ false) × (is_name (codes "Q") ≡ false) × (is_name [] ≡ false)
no_names = (refl, refl, refl)

-- a comment without the end of its line, and a tab, are no layout
pub no_gaps : (is_gap (codes " % a") ≡ false) × (is_gap (codes "\t") ≡ false)
no_gaps = (refl, refl)
