use Rattle.std.proofs.Common.{arith, rules}
use Rattle.std.proofs.lemmas.Grind.{common_steps}
use Rattle.std.proofs.lemmas.List.Edits.{map_over_more}
use Rattle.reg_alloc.specs.NewNumber.{new_number}
use Rattle.reg_alloc.specs.Renamed.{renamed_item}
use Rattle.reg_alloc.proofs.rename.rename_each.Goals as goal

pub loop-item-preserved : goal.loop-item-preserved
loop-item-preserved c =
    rw c.renamed_item.ensures (first_of (search (rules, map_over_more (renamed_item (new_number c.args.renaming.now))), grind (arith, common_steps, map_over_more (renamed_item (new_number c.args.renaming.now)))))
