-- What is noted of where jumps lead.
use Rattle.std.specs.Prelude.{◌≡◌, nat_eq, unwrap_or}
use Rattle.std.specs.HashMap.{get}
use Rattle.bam_code.specs.declared.target.Target.{Target}
use Rattle.bam_code.specs.declared.target.Target.TheVariants as target
use Rattle.bam_peephole.specs.declared.threads.Threads.{Threads}
use Rattle.bam_peephole.specs.Threaded.{Thread}

abbrev pub noted_end : Threads → Target → Target
noted_end threads (target.Label number) = unwrap_or (get nat_eq threads.ends number) (target.Label number)
noted_end threads target.Fails = target.Fails

pub record Follows (thread : Thread) (threads : Threads) : Type 0 where
  pub jumps : (t : Target) → noted_end threads t ≡ thread.jump t
  pub arrives : (t : Target) → unwrap_or threads.behind t ≡ thread.arrive t
