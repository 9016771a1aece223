use Rattle.std.proofs.Common.{◌≡◌, ◌∙◌, ◌++◌, ◌∷◌, [], List, refl, true, append_assoc, append-nil, sym, ap}
use Rattle.bam_code.specs.declared.line.Line.{Line}
use Rattle.bam_peephole.specs.Reach.{named_in}
use Rattle.bam_peephole.specs.Reached.{nothing_named, reached_lines}
use Rattle.bam_peephole.proofs.ReachedLemmas.{reached-same}
use Rattle.bam_peephole.proofs.reached.reached.Goals as goal

pub loop-line-init : goal.loop-line-init
loop-line-init c = record {
  ahead = λ rest. rw (c.in_ok-reached.ensures.items, c.new-reach.ensures.goes_on) (sym (reached-same true nothing_named (named_in c.new-reach.result) rest c.new-reach.ensures.named));
  behind = c.in_ok-reached.ensures.items;
}

pub loop-line-preserved : goal.loop-line-preserved
loop-line-preserved c =
    let ahead : (rest : List Line) → reached_lines true nothing_named ((c.loop-line.yielded ++ c.in-Some.line ∷ []) ++ rest) ≡ c.put.new.reached.items ++ reached_lines c.put.new.self.goes_on (named_in c.put.new.self) rest =
    λ rest. ap (reached_lines true nothing_named) (append_assoc c.loop-line.yielded (c.in-Some.line ∷ []) rest) ∙ c.loop-line.invariant.ahead (c.in-Some.line ∷ rest) ∙ c.in_ok-put.ensures rest in
    record {
      ahead = ahead;
      behind = sym (append-nil c.put.new.reached.items) ∙ sym (ahead []) ∙ ap (reached_lines true nothing_named) (append-nil (c.loop-line.yielded ++ c.in-Some.line ∷ []));
    }
