use Rattle.std.proofs.Common.{sym, ◌∙◌}
use Rattle.bam_peephole.specs.Threaded.{in_front}
use Rattle.bam_peephole.proofs.ThreadLemmas.{led_line-in_front}
use Rattle.bam_peephole.proofs.threads.Threads.take.Goals as goal

pub returns : goal.returns
returns c = record {
  line = λ thread follows. c.led_line.ensures (in_front c.args.line thread) (c.in_ok-pass.ensures thread follows) ∙ led_line-in_front thread c.args.line;
  after = λ thread follows. c.in_ok-pass.ensures thread follows;
}
