use Rattle.move_coalescing.proofs.OutlineLemmas.{only_last}
use Rattle.move_coalescing.proofs.reloads.Saved.put.Goals as goal

pub returns-then-is_reload : goal.returns-then-is_reload
returns-then-is_reload c = only_last c.args.kept.now.items c.args.line (c.is_reload.ensures c.if-is_reload.true)
