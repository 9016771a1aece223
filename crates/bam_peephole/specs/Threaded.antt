-- Where jumps lead in the end.
use Rattle.std.specs.Prelude.{Bool, false, cond, ℕ, nat_eq, List, [], ◌∷◌}
use Rattle.bam_code.specs.declared.line.Line.{Line}
use Rattle.bam_code.specs.declared.line.Line.TheVariants as line
use Rattle.bam_code.specs.declared.target.Target.{Target}
use Rattle.bam_code.specs.declared.target.Target.TheVariants as target
use Rattle.bam_peephole.specs.Clean.{is_source}

-- where jumps lead that stand in front of some lines, and where a run leads that comes to these lines by a jump to a target
pub record Thread : Type 0 where
  pub jump : Target → Target
  pub arrive : Target → Target

abbrev pub is_number : ℕ → Target → Bool
is_number number (target.Label other) = nat_eq other number
is_number number target.Fails = false

-- in front of one label more
abbrev pub past_label : ℕ → Thread → Thread
past_label number thread = record {
  jump = λ t. cond (is_number number t) (thread.arrive (target.Label number)) (thread.jump t);
  arrive = λ t. thread.arrive (target.Label number);
}

-- in front of one line more
abbrev pub in_front : Line → Thread → Thread
in_front (line.Label number frame items) thread = past_label number thread
in_front (line.Jump to) thread = record { jump = thread.jump; arrive = λ t. thread.jump to }
in_front (line.Move into from) thread = record {
  jump = thread.jump;
  arrive = λ t. cond (is_source into from) (thread.arrive t) t;
}
in_front _ thread = record { jump = thread.jump; arrive = λ t. t }

abbrev pub thread : List Line → Thread
thread [] = record { jump = λ t. t; arrive = λ t. t }
thread (line ∷ lines) = in_front line (thread lines)

abbrev pub led_line : Thread → Line → Line
led_line thread (line.Jump to) = line.Jump (thread.jump to)
led_line thread other = other

-- the lines with each jump to where it leads in the end
abbrev pub led : List Line → List Line
led [] = []
led (line ∷ lines) = led_line (thread lines) line ∷ led lines
