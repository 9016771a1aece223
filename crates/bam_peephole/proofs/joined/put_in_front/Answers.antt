use Rattle.std.proofs.Common.{◌≡◌, ◌++◌, ◌∷◌, [], reverse, arith}
use Rattle.std.proofs.lemmas.Grind.{common_steps}
use Rattle.bam_peephole.specs.NewNumbers.{new_number}
use Rattle.bam_peephole.proofs.ActsLemmas.{acts-relabeled}
use Rattle.bam_peephole.proofs.joined.put_in_front.Goals as goal

pub returns-in_ok-push-clause-acts : goal.returns-in_ok-push-clause-acts
returns-in_ok-push-clause-acts c =
    let more : c.push.new.self.items ≡ c.args.kept.now.items ++ c.relabel.new.line ∷ [] = grind (arith, common_steps) in
    let front : reverse (c.args.kept.now.items ++ c.relabel.new.line ∷ []) ≡ c.relabel.new.line ∷ reverse c.args.kept.now.items = grind (arith, common_steps) in
    rw (more, front, c.relabel.ensures) (acts-relabeled (new_number c.note.new.self) c.args.line (reverse c.args.kept.now.items))
