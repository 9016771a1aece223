-- The law that code of rules without arguments has the events of the rules, both ways.
use Rattle.std.specs.Prelude.{◌≡◌, ℕ, List, ◌∷◌, map, Some}
use Rattle.run_meaning.specs.Machine.{after, over, IsPrefix}
use Rattle.aq_base.specs.declared.limits.Limits.{Limits}
use Rattle.aq_term.specs.declared.proc_name.ProcName.{ProcName}
use Rattle.source_meaning.specs.Program.{Name, Program}
use Rattle.source_meaning.specs.SourceStep as source
use Rattle.bam_code.specs.declared.code.Code.{Code}
use Rattle.bam_meaning.specs.Instruction.{Instruction}
use Rattle.bam_meaning.specs.State.{State, start_at}
use Rattle.bam_meaning.specs.Step.{Ending, exhausted, step}
use Rattle.bam_meaning.specs.Limited.{finished, Budgeted, limited}
use Rattle.bam_meaning.specs.Linked.{linked, name_place}
use Rattle.rule_code.specs.CodeOf.{Predicate, proc_of, predicate_of, HasClauses, AllPredicates}

-- the predicates hold the program's clauses, names standing for texts, and each name that a body calls has clauses
pub record AreRules (program : Program) (predicates : List Predicate) (name_of : ProcName → Name) : Type 0 where
  pub closed : AllPredicates (HasClauses predicates) predicates
  pub clauses_are : (name : ProcName) (predicate : Predicate) → predicate_of predicates name ≡ Some predicate
      → source.bodies_of (name_of name) program.clauses ≡ map (map name_of) (predicate.first ∷ predicate.others)

-- for each number of the rules' steps some number of the code's steps has the same events, and is over where they are
abbrev pub CodeFollows : Program → List Instruction → source.State → State → Type 0
CodeFollows program image s m =
    (n : ℕ) → (k : ℕ) × ((after (step image) k m).events ≡ (after (source.source_step program) n s).events) × ((ending : source.Ending) → (after (source.source_step program) n s).stand ≡ over ending → (ending ≡ source.exhausted) × ((after (step image) k m).stand ≡ over exhausted))

-- for each number of the code's steps the rules have these events among their first ones, and are over where the code is
abbrev pub RulesCover : Program → List Instruction → source.State → State → Type 0
RulesCover program image s m =
    (k : ℕ) → (n : ℕ) × IsPrefix (after (step image) k m).events (after (source.source_step program) n s).events × ((ending : Ending) → (after (step image) k m).stand ≡ over ending → (ending ≡ exhausted) × ((after (source.source_step program) n s).stand ≡ over source.exhausted) × ((after (step image) k m).events ≡ (after (source.source_step program) n s).events))

-- the linked code of the predicates has the events of the rules, both ways, for each query of a name with clauses
abbrev pub CodeKeepsRules : Type 0
CodeKeepsRules =
    (program : Program) (predicates : List Predicate) (name_of : ProcName → Name) (code : Code) → code.procs ≡ map proc_of predicates → AreRules program predicates name_of → (name : ProcName) → HasClauses predicates name → CodeFollows program (linked code) (source.query_state (name_of name)) (start_at (name_place code name)) × RulesCover program (linked code) (source.query_state (name_of name)) (start_at (name_place code name))

-- what holds of each number of steps under limits: their events are among the first of the rules, no step is wrong, and a
-- run that is over by itself has all events of the rules, which are over too
abbrev pub LimitedKeeps : Program → Limits → List Instruction → source.State → Budgeted → Type 0
LimitedKeeps program limits image s b =
    (k : ℕ) → (n : ℕ) × IsPrefix (after (limited limits image) k b).events (after (source.source_step program) n s).events × ((ending : Ending) → (after (limited limits image) k b).stand ≡ over (finished ending) → (ending ≡ exhausted) × ((after (source.source_step program) n s).stand ≡ over source.exhausted) × ((after (limited limits image) k b).events ≡ (after (source.source_step program) n s).events))

-- the linked code of the predicates, run under limits, has the first events of the rules and is never wrong
abbrev pub LimitedCodeKeepsRules : Type 0
LimitedCodeKeepsRules =
    (program : Program) (predicates : List Predicate) (name_of : ProcName → Name) (code : Code) → code.procs ≡ map proc_of predicates → AreRules program predicates name_of → (name : ProcName) → HasClauses predicates name → (limits : Limits) (left : ℕ) → LimitedKeeps program limits (linked code) (source.query_state (name_of name)) (record { left = left; state = start_at (name_place code name) })
