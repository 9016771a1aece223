-- The laws of the code of a program: it has the events of the program, both ways, and under limits its first ones.
use Rattle.std.specs.Prelude.{◌≡◌, ℕ, List, Some, length, slice_get}
use Rattle.aq_base.specs.declared.limits.Limits.{Limits}
use Rattle.source_meaning.specs.Program.{Name, Program}
use Rattle.source_meaning.specs.SourceStep as source
use Rattle.bam_code.specs.declared.code.Code.{Code}
use Rattle.bam_meaning.specs.State.{start_at}
use Rattle.bam_meaning.specs.Finished.{NeverWrong}
use Rattle.bam_meaning.specs.Linked.{linked, entry_places}
use Rattle.rule_code.specs.Compiled.{IsCompiled}
use Rattle.rule_code.specs.Law.{CodeFollows, RulesCover, LimitedKeeps}

-- there is one entry
abbrev pub CompiledCodeHasEntry : Type 0
CompiledCodeHasEntry =
    (texts : List Name) (program : Program) (code : Code) → IsCompiled texts program code → length (entry_places code) ≡ 1

-- from the entry's place the code has the events of the query of the entry's name, both ways
abbrev pub CompiledCodeKeepsRules : Type 0
CompiledCodeKeepsRules =
    (texts : List Name) (program : Program) (code : Code) → IsCompiled texts program code → (place : ℕ) → slice_get (entry_places code) 0 ≡ Some place → CodeFollows program (linked code) (source.query_state program.entry) (start_at place) × RulesCover program (linked code) (source.query_state program.entry) (start_at place)

-- under any limits the code is never wrong from the entry's place, and its events are among the first of the rules, and
-- all of them where the run is over by itself
abbrev pub CompiledCodeRuns : Type 0
CompiledCodeRuns =
    (texts : List Name) (program : Program) (code : Code) → IsCompiled texts program code → (place : ℕ) → slice_get (entry_places code) 0 ≡ Some place → (limits : Limits) (left : ℕ) → NeverWrong limits (linked code) (record { left = left; state = start_at place }) × LimitedKeeps program limits (linked code) (source.query_state program.entry) (record { left = left; state = start_at place })
