-- The rule of types.
use Rattle.std.specs.Prelude.{Bool, true, false, ◌&&◌, ◌||◌, ℕ, List, Option, Some, None, is_some}
use Rattle.std.specs.List.{list_all}
use Rattle.term_meaning.specs.Plain.{Plain}
use Rattle.bam_code.specs.declared.line.Line.{Line}
use Rattle.bam_code.specs.declared.line.Line.TheVariants as line
use Rattle.bam_code.specs.declared.place_type.PlaceType.{PlaceType}
use Rattle.bam_code.specs.declared.place_type.PlaceType.TheVariants as place
use Rattle.bam_code.specs.declared.source.Source.{Source}
use Rattle.bam_code.specs.declared.source.Source.TheVariants as source
use Rattle.bam_code.specs.declared.switch_target.SwitchTarget.{SwitchTarget}
use Rattle.bam_code.specs.declared.switch_target.SwitchTarget.TheVariants as switch_target
use Rattle.bam_code.specs.declared.word_type.WordType.{WordType}
use Rattle.bam_code.specs.declared.word_type.WordType.TheVariants as word
use Rattle.bam_types.specs.declared.held.Held.{Held}
use Rattle.bam_types.specs.declared.operand.Operand.{Operand}
use Rattle.bam_types.specs.declared.state.State.{State}
use Rattle.bam_types.specs.Operands.{operand, reads}
use Rattle.bam_types.specs.PlaceRules.{loaded_from}
use Rattle.bam_types.specs.PlaceTypes.{place_below, deref_place}
use Rattle.bam_types.specs.States.{register}
use Rattle.bam_types.specs.WordTypes.{word_below}

-- the type that a switch needs: where it never goes on with a reference, `*`, no reference may be there
abbrev pub switched : SwitchTarget → WordType
switched switch_target.Never = word.Direct
switched (switch_target.Label number) = word.Head
switched switch_target.Fails = word.Head

abbrev pub operand_below : Option Operand → WordType → Bool
operand_below None word = false
operand_below (Some read) word = place_below read.holds (place.Word word)

-- what is read is of this type
abbrev pub is_below : List Plain → State → Source → WordType → Bool
is_below pool state from word = operand_below (operand state pool from) word

-- what is read from both is
abbrev pub are_below : List Plain → State → Source → Source → WordType → Bool
are_below pool state left right word = is_below pool state left word && is_below pool state right word

abbrev pub is_place : Source → Bool
is_place (source.Register number) = true
is_place (source.Slot number) = true
is_place _ = false

-- a cell can be loaded from what is read
abbrev pub loads : State → Source → Bool
loads state (source.Register number) = is_some (loaded_from state number)
loads state _ = false

abbrev pub is_part_type : PlaceType → Bool
is_part_type (place.Part word) = true
is_part_type _ = false

abbrev pub is_part_operand : Option Operand → Bool
is_part_operand None = false
is_part_operand (Some read) = is_part_type read.holds

-- what is read is a structure with an unfilled hole
abbrev pub is_part : List Plain → State → Source → Bool
is_part pool state from = is_part_operand (operand state pool from)

abbrev pub reads_term : List Plain → State → Option Source → Bool
reads_term pool state None = true
reads_term pool state (Some from) = is_below pool state from word.Any

-- a place of the second type may be filled into one of the first
abbrev pub fits_hole : PlaceType → PlaceType → Bool
fits_hole (place.Hole wanted) (place.Part word) = word_below word wanted
fits_hole (place.Hole wanted) with = place_below (deref_place with) (place.Word wanted)
fits_hole _ with = false

abbrev pub fits_held : Option Held → Option Operand → Bool
fits_held None with = false
fits_held (Some held) None = false
fits_held (Some held) (Some with) = fits_hole held.holds with.holds

-- the rule
abbrev pub keeps_tag : List Plain → State → Line → Bool
keeps_tag pool state (line.Deref register from) = is_place from && is_below pool state from word.Any
keeps_tag pool state (line.Load register from cell) = loads state from
keeps_tag pool state (line.Push from) = is_below pool state from word.Any || is_part pool state from
keeps_tag pool state (line.Bind register with) =
    is_below pool state (source.Register register) word.Var && is_below pool state with word.Any
keeps_tag pool state (line.Unify register with) =
    are_below pool state (source.Register register) with word.Any
keeps_tag pool state (line.Switch register reference atom integer list structure) =
    is_below pool state (source.Register register) (switched reference)
keeps_tag pool state (line.Match register constant other) = is_below pool state (source.Register register) word.Direct
keeps_tag pool state (line.Functor register functor other) = is_below pool state (source.Register register) word.Direct
keeps_tag pool state (line.Cut from) = is_below pool state from word.Bar
keeps_tag pool state (line.Arith operation register left right) =
    are_below pool state left right word.Int
keeps_tag pool state (line.Less comparison left right) =
    are_below pool state left right word.Int
keeps_tag pool state (line.Eval register expression) = is_below pool state expression word.Any
keeps_tag pool state (line.Same sameness left right) =
    are_below pool state left right word.Any
keeps_tag pool state (line.Builtin builtin) = list_all (reads_term pool state) (reads (line.Builtin builtin))
keeps_tag pool state (line.Raise from) = is_below pool state from word.Any
keeps_tag pool state (line.Fill number with) = fits_held (register state number) (operand state pool with)
keeps_tag pool state _ = true
