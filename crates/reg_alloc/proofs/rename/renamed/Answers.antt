use Rattle.std.proofs.Common.{◌≡◌, ◌++◌, ◌∷◌, [], arith}
use Rattle.std.proofs.lemmas.Grind.{common_steps}
use Rattle.bam_code.specs.declared.line.Line.{Line}
use Rattle.reg_alloc.specs.NewNumber.{new_number}
use Rattle.reg_alloc.specs.Renamed.{IsRenamed}
use Rattle.reg_alloc.proofs.ZipLemmas.{AllZip-push}
use Rattle.reg_alloc.proofs.rename.renamed.Goals as goal

pub loop-line-preserved : goal.loop-line-preserved
loop-line-preserved c =
    let more : c.push.new.self.items ≡ c.loop-line.renamed.items ++ c.renamed_line.result ∷ [] = grind (arith, common_steps) in
    rw more (AllZip-push (IsRenamed (new_number c.args.renaming.now)) c.loop-line.yielded c.loop-line.renamed.items c.in-Some.line c.renamed_line.result c.loop-line.invariant c.renamed_line.ensures)
