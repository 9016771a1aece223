use Rattle.std.proofs.Common.{◌≡◌, true, false, Some, ◌∙◌, rules}
use Rattle.std.specs.String.{string_bytes}
use Rattle.aquarius_top.specs.Options.{is_show, with_option, with_show}
use Rattle.aquarius_top.proofs.OptionSteps.{option_taken, show_taken}
use Rattle.aquarius_top.proofs.command.read_options.Goals as goal

pub loop-option-preserved-then-eq : goal.loop-option-preserved-then-eq
loop-option-preserved-then-eq c =
    let shows : is_show (string_bytes c.in-Some.option.now) ≡ true = search rules in
    let takes : with_show c.loop-option.given ≡ Some c.in_ok-given.given = search rules in
    record {
      reads = c.loop-option.invariant.reads
          ∙ show_taken string_bytes c.loop-option.rest.now c.in-Some.behind.now c.in-Some.option.now c.loop-option.given c.in_ok-given.given
          c.in-Some.ensures.cases.0 shows takes;
    }

pub loop-option-preserved : goal.loop-option-preserved
loop-option-preserved c =
    let other : is_show (string_bytes c.in-Some.option.now) ≡ false = search rules in
    let takes : with_option (string_bytes c.in-Some.option.now) (string_bytes c.in_ok-number.number.now) c.loop-option.given
    ≡ Some c.in_ok-given-2.given = search rules in
    record {
      reads = c.loop-option.invariant.reads
          ∙ option_taken string_bytes c.loop-option.rest.now c.in-Some.behind.now c.in_ok-number.behind.now c.in-Some.option.now
          c.in_ok-number.number.now c.loop-option.given c.in_ok-given-2.given c.in-Some.ensures.cases.0 c.in_ok-number.ensures.cases.0 other takes;
    }
