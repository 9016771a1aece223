use Rattle.bam_text.proofs.NewLines.{new_lines_after}
use Rattle.bam_text.proofs.text_lines.split_line.Goals as goal

pub returns-clause-fewer : goal.returns-clause-fewer
returns-clause-fewer c =
    rw (c.split_at.ensures.back) (new_lines_after c.args.bytes.now c.in_ok-end.end c.in_ok-end.ensures.ends)
