use Rattle.std.proofs.Common.{◌≡◌, ℕ, List, [], ◌++◌, Option, None, Some, ap, ◌∙◌, Err, append-nil, arith}
use Rattle.std.specs.Io.KnownBytes.{Consumes, IsAtEnd}
use Rattle.aquarius_top.specs.Reply.{IsTold}
use Rattle.aquarius_top.specs.Words.{asking_of}
use Rattle.aquarius_top.proofs.ReplyRows.{long_refused, told_text}
use Rattle.aquarius_top.proofs.top.read_for.Goals as goal

-- what is read to the end is the whole text
whole_text : (told new : Option (List ℕ)) (text : List ℕ) → Consumes told new text → IsAtEnd new → IsTold told text
whole_text None new text consumed ended = tt
whole_text (Some left) None text consumed ended = absurd consumed
whole_text (Some left) (Some rest) text consumed ended =
    consumed ∙ ap (λ (more : List ℕ). text ++ more) ended ∙ append-nil text

pub returns-in-Err-TooLong-clause-task : goal.returns-in-Err-TooLong-clause-task
returns-in-Err-TooLong-clause-task g c =
    let front = c.in-Err-TooLong.ensures.too_long (ap Err c.in-Err-TooLong.field-0-is) in
    let told = told_text _ _ front.0 front.1 in
    (told.0, told.1, long_refused (asking_of c.args.command.now) told.0 c.requires (let long = front.2 in let longer = told.2 in omega arith))

pub returns-in_ok-task_on-in-Ok-clause-task : goal.returns-in_ok-task_on-in-Ok-clause-task
returns-in_ok-task_on-in-Ok-clause-task g c =
    let read = c.in-Ok.ensures.read in
    (c.in-Ok.text.items, whole_text _ _ c.in-Ok.text.items read.0 read.1, c.in_ok-task_on-in-Ok.ensures)
