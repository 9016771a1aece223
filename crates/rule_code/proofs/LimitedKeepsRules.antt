-- Under limits the code of rules has their first events.
use Rattle.std.proofs.Common.{◌≡◌, List, sym, subst, ◌∙◌}
use Rattle.run_meaning.specs.Machine.{after, over, Stand, IsPrefix}
use Rattle.run_meaning.specs.Event.{Event}
use Rattle.source_meaning.specs.SourceStep as source
use Rattle.bam_meaning.specs.Instruction.{Instruction}
use Rattle.bam_meaning.specs.State.{State, start_at}
use Rattle.bam_meaning.specs.Step.{step}
use Rattle.bam_meaning.specs.Limited.{Stop, Budgeted}
use Rattle.bam_meaning.specs.Linked.{linked, name_place}
use Rattle.bam_meaning.proofs.LimitedLaws.{StandsAs, agrees}
use Rattle.rule_code.specs.Law.{LimitedCodeKeepsRules}
use Rattle.rule_code.proofs.KeepsRules.{code_keeps_rules}

pub limited_code_keeps_rules : LimitedCodeKeepsRules
limited_code_keeps_rules program predicates name_of code is rules name has limits left = λ k.
    let image : List Instruction = linked code in
    let m : State = start_at (name_place code name) in
    let b : Budgeted = record { left = left; state = m } in
    let by = agrees limits image k left m in
    let cover = (code_keeps_rules program predicates name_of code is rules name has).1 by.m in (
      cover.0,
      subst (λ (events : List (Event (Unit {0}))). IsPrefix events (after (source.source_step program) cover.0 (source.query_state (name_of name))).events) by.events cover.1,
      (λ ending is_over.
          let own : (after (step image) by.m m).stand ≡ over ending = subst (λ (stand : Stand Stop Budgeted). StandsAs stand (after (step image) by.m m).stand) is_over by.stands in
          let ends = cover.2 ending own in
          (ends.0, ends.1, sym by.events ∙ ends.2)),
    )
