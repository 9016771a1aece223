-- The line that is passed does not change where it leads.
use Rattle.std.proofs.Common.{◌≡◌, List, [], ◌∷◌, ◌++◌, refl, arith}
use Rattle.bam_code.specs.declared.line.Line.{Line}
use Rattle.bam_peephole.specs.Threaded.{Thread, in_front, led_line}

pub led_line-in_front : (thread : Thread) (l : Line) → led_line (in_front l thread) l ≡ led_line thread l
led_line-in_front thread l = grind arith
