-- Which lines do something.
use Rattle.std.specs.Prelude.{Bool, true, false, ◌&&◌, not, ℕ, nat_eq, List, [], ◌∷◌, Option, Some, None, is_some}
use Rattle.bam_code.specs.declared.line.Line.{Line}
use Rattle.bam_code.specs.declared.line.Line.TheVariants as line
use Rattle.bam_code.specs.declared.place.Place.{Place}
use Rattle.bam_code.specs.declared.place.Place.TheVariants as at_place
use Rattle.bam_code.specs.declared.procedure.Proc.{Proc}
use Rattle.bam_code.specs.declared.signature.Signature.{Signature}
use Rattle.bam_code.specs.declared.source.Source.{Source}
use Rattle.bam_code.specs.declared.source.Source.TheVariants as source
use Rattle.bam_code.specs.declared.target.Target.{Target}
use Rattle.bam_code.specs.declared.target.Target.TheVariants as target
use Rattle.bam_peephole.specs.LineLabels.{plain_label}

abbrev pub is_source : Place → Source → Bool
is_source (at_place.Register into) (source.Register from) = nat_eq into from
is_source (at_place.Slot into) (source.Slot from) = nat_eq into from
is_source _ _ = false

-- a `move` of a place to itself
abbrev pub moves_in_place : Line → Bool
moves_in_place (line.Move into from) = is_source into from
moves_in_place _ = false

abbrev pub leads_to : Option ℕ → Target → Bool
leads_to (Some behind) (target.Label number) = nat_eq number behind
leads_to _ _ = false

-- a `jump` to the label of this number
abbrev pub jumps_to : Option ℕ → Line → Bool
jumps_to behind (line.Jump target) = leads_to behind target
jumps_to behind _ = false

-- a line that does something, in front of the label of this number
abbrev pub is_needed : Option ℕ → Line → Bool
is_needed behind line = not (moves_in_place line) && not (jumps_to behind line) && not (is_some (plain_label line) && is_some behind)

-- the number of the label that stands first
abbrev pub label_behind : List Line → Option ℕ
label_behind [] = None
label_behind (line ∷ lines) = plain_label line

-- no `move` of a place to itself, no `jump` to the label directly behind it, and no two labels side by side
abbrev pub is_clean : List Line → Bool
is_clean [] = true
is_clean (line ∷ lines) = is_needed (label_behind lines) line && is_clean lines

abbrev pub signature_of : Proc → Signature
signature_of proc = proc.signature
