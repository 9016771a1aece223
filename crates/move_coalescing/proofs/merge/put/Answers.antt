use Rattle.std.proofs.Common.{◌≡◌, ◌++◌, ◌∷◌, [], reverse, arith}
use Rattle.std.proofs.lemmas.Grind.{common_steps}
use Rattle.move_coalescing.proofs.OutlineLemmas.{only_kept, only_merged, same_length}
use Rattle.move_coalescing.proofs.merge.put.Goals as goal

pub returns-then-merge : goal.returns-then-merge
returns-then-merge c = record {
  moves = only_merged c.args.before.now.items c.merge.new.before.items (reverse c.args.kept.now.items) c.args.line c.merge.ensures.outlines (c.merge.ensures.moves c.if-merge.true);
  count = same_length c.args.before.now.items c.merge.new.before.items c.merge.ensures.outlines;
}

pub returns-in_ok-push : goal.returns-in_ok-push
returns-in_ok-push c =
    let more : c.push.new.self.items ≡ c.args.kept.now.items ++ c.args.line ∷ [] = grind (arith, common_steps) in
    record {
      moves = rw more (only_kept c.args.before.now.items c.merge.new.before.items c.args.kept.now.items c.args.line c.merge.ensures.outlines);
      count = same_length c.args.before.now.items c.merge.new.before.items c.merge.ensures.outlines;
    }
