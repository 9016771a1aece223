use Rattle.std.proofs.Common.{◌≡◌, ◌∙◌, ◌++◌, ◌∷◌, [], List, refl, reverse, append_assoc, append-nil, sym, ap, arith}
use Rattle.std.proofs.lemmas.Grind.{common_steps}
use Rattle.bam_code.specs.declared.line.Line.{Line}
use Rattle.bam_peephole.specs.Threaded.{led, led_line, thread}
use Rattle.bam_peephole.proofs.threads.led.Goals as goal

pub loop-line-init : goal.loop-line-init
loop-line-init c =
    let none : c.in_ok-led.led.items ≡ [] = c.in_ok-led.ensures.items in
    ([], append-nil c.args.lines.items, rw none refl, c.new-threads.ensures)

pub loop-line-preserved : goal.loop-line-preserved
loop-line-preserved c =
    let rest = c.loop-line.invariant.0 in
    let line = c.in-Some.line in
    let all : c.pop.new.self.items ++ line ∷ rest ≡ c.args.lines.items = sym (append_assoc c.pop.new.self.items (line ∷ []) rest) ∙ (rw (← c.in-Some.ensures.items) c.loop-line.invariant.1) in
    let more : c.push.new.self.items ≡ c.loop-line.led.items ++ c.in_ok-take.field-0 ∷ [] = grind (arith, common_steps) in
    let front : reverse (c.loop-line.led.items ++ c.in_ok-take.field-0 ∷ []) ≡ c.in_ok-take.field-0 ∷ reverse c.loop-line.led.items = grind (arith, common_steps) in
    (line ∷ rest, all, rw (more, front, c.loop-line.invariant.2, c.in_ok-take.ensures.line (thread rest) c.loop-line.invariant.3) refl, c.in_ok-take.ensures.after (thread rest) c.loop-line.invariant.3)

pub returns : goal.returns
returns c =
    let none : c.loop-line.lines.items ≡ [] = grind (arith, common_steps) in
    let whole : c.loop-line.invariant.0 ≡ c.args.lines.items = rw none at c.loop-line.invariant.1 in
    rw (c.reverse.ensures.items, c.loop-line.invariant.2, whole) refl
