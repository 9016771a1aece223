use Rattle.std.proofs.Common.{◌≡◌, ◌≤◌, ℕ, List, Some, length, sym, ap, subst, ◌∙◌, arith}
use Rattle.std.specs.Prelude.{codes}
use Rattle.aq_base.specs.Refusal.{line_of}
use Rattle.aq_base.specs.declared.limits.Limits.{Limits}
use Rattle.aq_base.specs.declared.status.Status.TheVariants as status
use Rattle.aquarius_top.specs.Words.{Asked, command_of}
use Rattle.aquarius_top.specs.Plan.{IsTask}
use Rattle.aquarius_top.specs.Ran.{Runs}
use Rattle.aquarius_top.specs.Reply.{Replies, Answers, AnswersInPart, bad_words, IsWritten}
use Rattle.aquarius_top.proofs.Bounds.{run_bounded, compiled_bounded, exec_bounded}
use Rattle.aquarius_top.proofs.ReplyRows.{whole_answers, front_answers, line_replies, run_replies, refused_replies, printed_replies, analysed_replies, accepted_replies, joined_replies, compiled_asked, exec_asked}
use Rattle.aquarius_top.proofs.top.perform.Goals as goal

pub run_image-requires-clause-env : goal.run_image-requires-clause-env
run_image-requires-clause-env g c =
    let known = subst (IsTask c.requires.0 c.requires.1) c.in-Run.is c.requires.2 in
    let bounded = run_bounded c.requires.0 c.requires.1 known.0 c.in-Run.image c.in-Run.limits known.1 known.2 in
    bounded.0

pub run_ready-requires-clause-env : goal.run_ready-requires-clause-env
run_ready-requires-clause-env g c =
    let known = subst (IsTask c.requires.0 c.requires.1) c.in-Compiled.is c.requires.2 in
    let bounded = compiled_bounded c.requires.0 c.requires.1 known.0 c.in-Compiled.limits known.1 known.2 in
    bounded.0

pub exec_code-requires-clause-env : goal.exec_code-requires-clause-env
exec_code-requires-clause-env g c =
    let known = subst (IsTask c.requires.0 c.requires.1) c.in-Exec.is c.requires.2 in
    let bounded = exec_bounded c.requires.0 known.0 c.in-Exec.limits known.1 known.2 in
    bounded.0

pub run_image-requires-clause-choice : goal.run_image-requires-clause-choice
run_image-requires-clause-choice g c =
    let known = subst (IsTask c.requires.0 c.requires.1) c.in-Run.is c.requires.2 in
    let bounded = run_bounded c.requires.0 c.requires.1 known.0 c.in-Run.image c.in-Run.limits known.1 known.2 in
    bounded.1

pub run_ready-requires-clause-choice : goal.run_ready-requires-clause-choice
run_ready-requires-clause-choice g c =
    let known = subst (IsTask c.requires.0 c.requires.1) c.in-Compiled.is c.requires.2 in
    let bounded = compiled_bounded c.requires.0 c.requires.1 known.0 c.in-Compiled.limits known.1 known.2 in
    bounded.1

pub exec_code-requires-clause-choice : goal.exec_code-requires-clause-choice
exec_code-requires-clause-choice g c =
    let known = subst (IsTask c.requires.0 c.requires.1) c.in-Exec.is c.requires.2 in
    let bounded = exec_bounded c.requires.0 known.0 c.in-Exec.limits known.1 known.2 in
    bounded.1

pub run_image-requires-clause-heap : goal.run_image-requires-clause-heap
run_image-requires-clause-heap g c =
    let known = subst (IsTask c.requires.0 c.requires.1) c.in-Run.is c.requires.2 in
    let bounded = run_bounded c.requires.0 c.requires.1 known.0 c.in-Run.image c.in-Run.limits known.1 known.2 in
    bounded.2

pub run_ready-requires-clause-heap : goal.run_ready-requires-clause-heap
run_ready-requires-clause-heap g c =
    let known = subst (IsTask c.requires.0 c.requires.1) c.in-Compiled.is c.requires.2 in
    let bounded = compiled_bounded c.requires.0 c.requires.1 known.0 c.in-Compiled.limits known.1 known.2 in
    bounded.2

pub exec_code-requires-clause-heap : goal.exec_code-requires-clause-heap
exec_code-requires-clause-heap g c =
    let known = subst (IsTask c.requires.0 c.requires.1) c.in-Exec.is c.requires.2 in
    let bounded = exec_bounded c.requires.0 known.0 c.in-Exec.limits known.1 known.2 in
    bounded.2

pub run_image-requires-clause-trail : goal.run_image-requires-clause-trail
run_image-requires-clause-trail g c =
    let known = subst (IsTask c.requires.0 c.requires.1) c.in-Run.is c.requires.2 in
    let bounded = run_bounded c.requires.0 c.requires.1 known.0 c.in-Run.image c.in-Run.limits known.1 known.2 in
    bounded.3

pub run_ready-requires-clause-trail : goal.run_ready-requires-clause-trail
run_ready-requires-clause-trail g c =
    let known = subst (IsTask c.requires.0 c.requires.1) c.in-Compiled.is c.requires.2 in
    let bounded = compiled_bounded c.requires.0 c.requires.1 known.0 c.in-Compiled.limits known.1 known.2 in
    bounded.3

pub exec_code-requires-clause-trail : goal.exec_code-requires-clause-trail
exec_code-requires-clause-trail g c =
    let known = subst (IsTask c.requires.0 c.requires.1) c.in-Exec.is c.requires.2 in
    let bounded = exec_bounded c.requires.0 known.0 c.in-Exec.limits known.1 known.2 in
    bounded.3

pub run_image-requires-clause-work : goal.run_image-requires-clause-work
run_image-requires-clause-work g c =
    let known = subst (IsTask c.requires.0 c.requires.1) c.in-Run.is c.requires.2 in
    let bounded = run_bounded c.requires.0 c.requires.1 known.0 c.in-Run.image c.in-Run.limits known.1 known.2 in
    bounded.4

pub run_ready-requires-clause-work : goal.run_ready-requires-clause-work
run_ready-requires-clause-work g c =
    let known = subst (IsTask c.requires.0 c.requires.1) c.in-Compiled.is c.requires.2 in
    let bounded = compiled_bounded c.requires.0 c.requires.1 known.0 c.in-Compiled.limits known.1 known.2 in
    bounded.4

pub exec_code-requires-clause-work : goal.exec_code-requires-clause-work
exec_code-requires-clause-work g c =
    let known = subst (IsTask c.requires.0 c.requires.1) c.in-Exec.is c.requires.2 in
    let bounded = exec_bounded c.requires.0 known.0 c.in-Exec.limits known.1 known.2 in
    bounded.4

pub returns-in-BadWords-clause-done : goal.returns-in-BadWords-clause-done
returns-in-BadWords-clause-done g c = λ words text is reply.
    whole_answers (IsWritten (codes "bad words\n") status.BadWords) words text c.write_line.result
    (g.K.Sink.taken c.args.sink.now) (g.K.Sink.taken c.write_line.new.sink)
    (line_replies words text (codes "bad words\n") status.BadWords (bad_words (subst (IsTask words text) c.in-BadWords.is is)))
    c.write_line.ensures.done reply

pub returns-in-BadWords-clause-write : goal.returns-in-BadWords-clause-write
returns-in-BadWords-clause-write g c = λ fault.
    let wrote = c.write_line.ensures.write fault in (
      wrote.0,
      λ words text is.
          front_answers (IsWritten (codes "bad words\n") status.BadWords) words text
          (g.K.Sink.taken c.args.sink.now) (g.K.Sink.taken c.write_line.new.sink)
          (line_replies words text (codes "bad words\n") status.BadWords (bad_words (subst (IsTask words text) c.in-BadWords.is is)))
          wrote.1,
    )

pub returns-in-Refused-clause-done : goal.returns-in-Refused-clause-done
returns-in-Refused-clause-done g c = λ words text is reply.
    let known = subst (IsTask words text) c.in-Refused.is is in
    whole_answers (IsWritten (line_of c.in-Refused.cause) status.Refused) words text c.write_refusal.result
    (g.K.Sink.taken c.args.sink.now) (g.K.Sink.taken c.write_refusal.new.sink)
    (line_replies words text (line_of c.in-Refused.cause) status.Refused (refused_replies words text known.0 c.in-Refused.cause known.1 known.2))
    c.write_refusal.ensures.done reply

pub returns-in-Refused-clause-write : goal.returns-in-Refused-clause-write
returns-in-Refused-clause-write g c = λ fault.
    let wrote = c.write_refusal.ensures.write fault in (
      wrote.0,
      λ words text is.
          let known = subst (IsTask words text) c.in-Refused.is is in
          front_answers (IsWritten (line_of c.in-Refused.cause) status.Refused) words text
          (g.K.Sink.taken c.args.sink.now) (g.K.Sink.taken c.write_refusal.new.sink)
          (line_replies words text (line_of c.in-Refused.cause) status.Refused (refused_replies words text known.0 c.in-Refused.cause known.1 known.2))
          wrote.1,
    )

pub returns-in-Run-clause-done : goal.returns-in-Run-clause-done
returns-in-Run-clause-done g c = λ words text is reply.
    let known = subst (IsTask words text) c.in-Run.is is in
    whole_answers (Runs c.in-Run.image c.in-Run.limits) words text c.run_image.result
    (g.K.Sink.taken c.args.sink.now) (g.K.Sink.taken c.run_image.new.sink)
    (run_replies words text known.0 c.in-Run.image c.in-Run.limits known.1 known.2)
    c.run_image.ensures.done reply

pub returns-in-Run-clause-write : goal.returns-in-Run-clause-write
returns-in-Run-clause-write g c = λ fault.
    let wrote = c.run_image.ensures.write fault in (
      wrote.0,
      λ words text is.
          let known = subst (IsTask words text) c.in-Run.is is in
          front_answers (Runs c.in-Run.image c.in-Run.limits) words text
          (g.K.Sink.taken c.args.sink.now) (g.K.Sink.taken c.run_image.new.sink)
          (run_replies words text known.0 c.in-Run.image c.in-Run.limits known.1 known.2)
          wrote.1,
    )

pub returns-in-Accepted-clause-done : goal.returns-in-Accepted-clause-done
returns-in-Accepted-clause-done g c = λ words text is reply.
    let known = subst (IsTask words text) c.in-Accepted.is is in
    whole_answers (IsWritten (codes "accepted\n") status.Solved) words text c.write_line-in-Accepted.result
    (g.K.Sink.taken c.args.sink.now) (g.K.Sink.taken c.write_line-in-Accepted.new.sink)
    (line_replies words text (codes "accepted\n") status.Solved (accepted_replies words text known.0 known.1 known.2))
    c.write_line-in-Accepted.ensures.done reply

pub returns-in-Accepted-clause-write : goal.returns-in-Accepted-clause-write
returns-in-Accepted-clause-write g c = λ fault.
    let wrote = c.write_line-in-Accepted.ensures.write fault in (
      wrote.0,
      λ words text is.
          let known = subst (IsTask words text) c.in-Accepted.is is in
          front_answers (IsWritten (codes "accepted\n") status.Solved) words text
          (g.K.Sink.taken c.args.sink.now) (g.K.Sink.taken c.write_line-in-Accepted.new.sink)
          (line_replies words text (codes "accepted\n") status.Solved (accepted_replies words text known.0 known.1 known.2))
          wrote.1,
    )

pub returns-in-Printed-clause-done : goal.returns-in-Printed-clause-done
returns-in-Printed-clause-done g c = λ words text is reply.
    let known = subst (IsTask words text) c.in-Printed.is is in
    let same : c.in-Printed.code.items ≡ c.deref-in-Printed.result.now = sym c.deref-in-Printed.ensures.value in
    let replies : Replies words text c.deref-in-Printed.result.now status.Solved =
    subst (λ (line : List ℕ). Replies words text line status.Solved) same (printed_replies words text known.0 c.in-Printed.code.items known.1 known.2) in
    whole_answers (IsWritten c.deref-in-Printed.result.now status.Solved) words text c.write_line-in-Printed.result
    (g.K.Sink.taken c.args.sink.now) (g.K.Sink.taken c.write_line-in-Printed.new.sink)
    (line_replies words text c.deref-in-Printed.result.now status.Solved replies)
    c.write_line-in-Printed.ensures.done reply

pub returns-in-Printed-clause-write : goal.returns-in-Printed-clause-write
returns-in-Printed-clause-write g c = λ fault.
    let wrote = c.write_line-in-Printed.ensures.write fault in (
      wrote.0,
      λ words text is.
          let known = subst (IsTask words text) c.in-Printed.is is in
          let same : c.in-Printed.code.items ≡ c.deref-in-Printed.result.now = sym c.deref-in-Printed.ensures.value in
          let replies : Replies words text c.deref-in-Printed.result.now status.Solved =
          subst (λ (line : List ℕ). Replies words text line status.Solved) same (printed_replies words text known.0 c.in-Printed.code.items known.1 known.2) in
          front_answers (IsWritten c.deref-in-Printed.result.now status.Solved) words text
          (g.K.Sink.taken c.args.sink.now) (g.K.Sink.taken c.write_line-in-Printed.new.sink)
          (line_replies words text c.deref-in-Printed.result.now status.Solved replies)
          wrote.1,
    )

pub returns-in-Analysed-clause-done : goal.returns-in-Analysed-clause-done
returns-in-Analysed-clause-done g c = λ words text is reply.
    let known = subst (IsTask words text) c.in-Analysed.is is in
    let same : c.in-Analysed.facts.items ≡ c.deref-in-Analysed.result.now = sym c.deref-in-Analysed.ensures.value in
    let replies : Replies words text c.deref-in-Analysed.result.now status.Solved =
    subst (λ (line : List ℕ). Replies words text line status.Solved) same (analysed_replies words text known.0 c.in-Analysed.facts.items known.1 known.2) in
    whole_answers (IsWritten c.deref-in-Analysed.result.now status.Solved) words text c.write_line-in-Analysed.result
    (g.K.Sink.taken c.args.sink.now) (g.K.Sink.taken c.write_line-in-Analysed.new.sink)
    (line_replies words text c.deref-in-Analysed.result.now status.Solved replies)
    c.write_line-in-Analysed.ensures.done reply

pub returns-in-Analysed-clause-write : goal.returns-in-Analysed-clause-write
returns-in-Analysed-clause-write g c = λ fault.
    let wrote = c.write_line-in-Analysed.ensures.write fault in (
      wrote.0,
      λ words text is.
          let known = subst (IsTask words text) c.in-Analysed.is is in
          let same : c.in-Analysed.facts.items ≡ c.deref-in-Analysed.result.now = sym c.deref-in-Analysed.ensures.value in
          let replies : Replies words text c.deref-in-Analysed.result.now status.Solved =
          subst (λ (line : List ℕ). Replies words text line status.Solved) same (analysed_replies words text known.0 c.in-Analysed.facts.items known.1 known.2) in
          front_answers (IsWritten c.deref-in-Analysed.result.now status.Solved) words text
          (g.K.Sink.taken c.args.sink.now) (g.K.Sink.taken c.write_line-in-Analysed.new.sink)
          (line_replies words text c.deref-in-Analysed.result.now status.Solved replies)
          wrote.1,
    )

pub returns-in-Joined-clause-done : goal.returns-in-Joined-clause-done
returns-in-Joined-clause-done g c = λ words text is reply.
    let known = subst (IsTask words text) c.in-Joined.is is in
    let same : c.in-Joined.text.items ≡ c.deref-in-Joined.result.now = sym c.deref-in-Joined.ensures.value in
    let replies : Replies words text c.deref-in-Joined.result.now status.Solved =
    subst (λ (line : List ℕ). Replies words text line status.Solved) same (joined_replies words text known.0 c.in-Joined.text.items known.1 known.2) in
    whole_answers (IsWritten c.deref-in-Joined.result.now status.Solved) words text c.write_line-in-Joined.result
    (g.K.Sink.taken c.args.sink.now) (g.K.Sink.taken c.write_line-in-Joined.new.sink)
    (line_replies words text c.deref-in-Joined.result.now status.Solved replies)
    c.write_line-in-Joined.ensures.done reply

pub returns-in-Joined-clause-write : goal.returns-in-Joined-clause-write
returns-in-Joined-clause-write g c = λ fault.
    let wrote = c.write_line-in-Joined.ensures.write fault in (
      wrote.0,
      λ words text is.
          let known = subst (IsTask words text) c.in-Joined.is is in
          let same : c.in-Joined.text.items ≡ c.deref-in-Joined.result.now = sym c.deref-in-Joined.ensures.value in
          let replies : Replies words text c.deref-in-Joined.result.now status.Solved =
          subst (λ (line : List ℕ). Replies words text line status.Solved) same (joined_replies words text known.0 c.in-Joined.text.items known.1 known.2) in
          front_answers (IsWritten c.deref-in-Joined.result.now status.Solved) words text
          (g.K.Sink.taken c.args.sink.now) (g.K.Sink.taken c.write_line-in-Joined.new.sink)
          (line_replies words text c.deref-in-Joined.result.now status.Solved replies)
          wrote.1,
    )

pub returns-in-Compiled-clause-done : goal.returns-in-Compiled-clause-done
returns-in-Compiled-clause-done g c = λ words text is reply.
    let known = subst (IsTask words text) c.in-Compiled.is is in
    Answers.ran_code (compiled_asked words text known.0 c.in-Compiled.limits known.1 known.2)

pub returns-in-Compiled-clause-write : goal.returns-in-Compiled-clause-write
returns-in-Compiled-clause-write g c = λ fault. (
  c.run_ready.ensures.write fault,
  λ words text is.
      let known = subst (IsTask words text) c.in-Compiled.is is in
      AnswersInPart.ran_code (compiled_asked words text known.0 c.in-Compiled.limits known.1 known.2),
)

pub returns-in-Exec-clause-done : goal.returns-in-Exec-clause-done
returns-in-Exec-clause-done g c = λ words text is reply.
    let known = subst (IsTask words text) c.in-Exec.is is in
    Answers.ran_code (exec_asked words text known.0 c.in-Exec.limits known.1 known.2)

pub returns-in-Exec-clause-write : goal.returns-in-Exec-clause-write
returns-in-Exec-clause-write g c = λ fault. (
  c.exec_code.ensures.write fault,
  λ words text is.
      let known = subst (IsTask words text) c.in-Exec.is is in
      AnswersInPart.ran_code (exec_asked words text known.0 c.in-Exec.limits known.1 known.2),
)
