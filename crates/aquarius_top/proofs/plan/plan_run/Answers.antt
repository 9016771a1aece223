use Rattle.std.proofs.Common.{◌≡◌, ◌≢◌, sym, subst}
use Rattle.source_meaning.specs.Program.{Name}
use Rattle.source_meaning.specs.RuleProgram.{program_of}
use Rattle.aquarius_top.specs.Reply.{not_entry}
use Rattle.aquarius_top.specs.Chosen.{Chosen}
use Rattle.aquarius_top.proofs.ReplyRows.{not_read, not_within, not_closed, differ, alike}
use Rattle.aquarius_top.proofs.plan.plan_run.Goals as goal

pub plan_by_front-requires-clause-none : goal.plan_by_front-requires-clause-none
plan_by_front-requires-clause-none c =
    let none = rw c.in_default.is at c.in_ok-program.ensures in not_read c.args.query.now c.args.text.now none

pub plan_by_front-requires-then-not-is_within-clause-none :
    goal.plan_by_front-requires-then-not-is_within-clause-none
plan_by_front-requires-then-not-is_within-clause-none c =
    let reads = rw c.in-Some.is at c.in_ok-program.ensures in
    not_within c.args.query.now c.args.text.now (program_of c.in-Some.program) reads (sym c.if-not-is_within.ensures)

pub plan_by_front-requires-in_default-2-clause-none :
    goal.plan_by_front-requires-in_default-2-clause-none
plan_by_front-requires-in_default-2-clause-none c =
    let reads = rw c.in-Some.is at c.in_ok-program.ensures in
    let none = rw c.in_default-2.is at c.in_ok-image.ensures in
    not_closed c.args.query.now c.args.text.now (program_of c.in-Some.program) reads none

pub returns-then-ne : goal.returns-then-ne
returns-then-ne c =
    let reads = rw c.in-Some.is at c.in_ok-program.ensures in
    let image = rw c.in-Some-2.is at c.in_ok-image.ensures in
    let other : c.args.query.now ≢ c.as_bytes.result.now = differ c.args.query.now c.as_bytes.result.now c.if-ne.ensures in
    let P : Name → Type 0 = λ entry. c.args.query.now ≢ entry in
    λ limits. not_entry c.requires (sym c.if-not-is_name.ensures) (program_of c.in-Some.program)
    (record { reads = reads; closed = image.compiled.closed; within = sym c.if-not-is_within.ensures })
    (subst P c.as_bytes.ensures.value other)

pub returns : goal.returns
returns c =
    let reads = rw c.in-Some.is at c.in_ok-program.ensures in
    let image = rw c.in-Some-2.is at c.in_ok-image.ensures in
    let same : c.args.query.now ≡ c.as_bytes.result.now = alike c.args.query.now c.as_bytes.result.now c.if-ne.ensures in
    let P : Name → Type 0 = λ entry. c.args.query.now ≡ entry in
    record {
      program = program_of c.in-Some.program;
      chosen = Chosen.rules (sym c.if-not-is_name.ensures)
          (record { reads = reads; closed = image.compiled.closed; within = sym c.if-not-is_within.ensures })
          (subst P c.as_bytes.ensures.value same);
      is_image = image;
    }
