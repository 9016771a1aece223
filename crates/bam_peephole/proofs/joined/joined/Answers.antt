use Rattle.std.proofs.Common.{◌≡◌, ◌∙◌, [], reverse, arith}
use Rattle.std.proofs.lemmas.Grind.{common_steps}
use Rattle.bam_peephole.specs.Relabeled.{from_the_end}
use Rattle.bam_peephole.proofs.ActsLemmas.{acts-map, acts-over}
use Rattle.bam_peephole.proofs.CleanLemmas.{is_clean-relabeled}
use Rattle.bam_peephole.proofs.joined.joined.Goals as goal

pub loop-line-preserved : goal.loop-line-preserved
loop-line-preserved c = record {
  clean = c.in_ok-put_in_front.ensures.clean c.loop-line.invariant.clean;
  acts = acts-over c.pop.new.self.items c.in-Some.line (reverse c.loop-line.kept.items) (reverse c.put_in_front.new.kept.items) c.in_ok-put_in_front.ensures.acts ∙ (rw (← c.in-Some.ensures.items) c.loop-line.invariant.acts);
}

pub returns : goal.returns
returns c =
    let none : c.loop-line.lines.items ≡ [] = grind (arith, common_steps) in
    record {
      clean = rw (c.relabel_all.ensures, is_clean-relabeled c.count.result c.reverse.new.self.items, c.reverse.ensures.items) c.loop-line.invariant.clean;
      acts = rw (c.relabel_all.ensures, acts-map (from_the_end c.count.result) c.reverse.new.self.items, c.reverse.ensures.items) (rw none at c.loop-line.invariant.acts);
    }
