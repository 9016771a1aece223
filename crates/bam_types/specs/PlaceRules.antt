-- The rules of the frame, of what is unset, of slots and of indices.
use Rattle.std.specs.Prelude.{Bool, true, false, ◌&&◌, ◌||◌, not, ℕ, nat_lt, nat_le, List, Option, Some, None, is_some, is_none}
use Rattle.std.specs.List.{list_all, list_any}
use Rattle.term_meaning.specs.Plain.{Plain}
use Rattle.aq_term.specs.declared.functor.Functor.{Functor}
use Rattle.bam_code.specs.declared.line.Line.{Line}
use Rattle.bam_code.specs.declared.line.Line.TheVariants as line
use Rattle.bam_code.specs.declared.place.Place.{Place}
use Rattle.bam_code.specs.declared.place.Place.TheVariants as at_place
use Rattle.bam_code.specs.declared.place_type.PlaceType.{PlaceType}
use Rattle.bam_code.specs.declared.place_type.PlaceType.TheVariants as place
use Rattle.bam_code.specs.declared.source.Source.{Source}
use Rattle.bam_code.specs.declared.source.Source.TheVariants as source
use Rattle.bam_code.specs.declared.word_type.WordType.{WordType}
use Rattle.bam_code.specs.declared.word_type.WordType.TheVariants as word
use Rattle.bam_types.specs.declared.held.Held.{Held}
use Rattle.bam_types.specs.declared.places_rules.Loaded.{Loaded}
use Rattle.bam_types.specs.declared.places_rules.Loaded.TheVariants as loaded
use Rattle.bam_types.specs.declared.state.State.{State}
use Rattle.bam_types.specs.Operands.{operand, reads, is_slot}
use Rattle.bam_types.specs.States.{register, slot, has_slot}
use Rattle.bam_types.specs.WordTypes.{is_list_cell}

abbrev pub written_slot : Place → Option ℕ
written_slot (at_place.Register number) = None
written_slot (at_place.Slot number) = Some number

-- the slot that a line writes
abbrev pub writes_slot : Line → Option ℕ
writes_slot (line.Move into from) = written_slot into
writes_slot _ = None

abbrev pub reads_slot : Option Source → Bool
reads_slot None = false
reads_slot (Some from) = is_slot from

-- a line names a slot, label items aside
abbrev pub names_slot : Line → Bool
names_slot line = is_some (writes_slot line) || list_any reads_slot (reads line)

-- the rule of the frame
abbrev pub keeps_frame : State → Line → Bool
keeps_frame state (line.Call name) = is_some state.frame
keeps_frame state line.Deallocate = is_some state.frame
keeps_frame state (line.Allocate size) = is_none state.frame
keeps_frame state (line.Exec name) = is_none state.frame
keeps_frame state line.Return = is_none state.frame
keeps_frame state (line.Try registers alternative) = is_none state.frame
keeps_frame state (line.Catch registers ball) = is_none state.frame
keeps_frame state line = is_some state.frame || not (names_slot line)

abbrev pub is_set : List Plain → State → Option Source → Bool
is_set pool state None = true
is_set pool state (Some from) = is_some (operand state pool from)

-- the rule of what is unset: each operand that is read is set
abbrev pub keeps_set : List Plain → State → Line → Bool
keeps_set pool state line = list_all (is_set pool state) (reads line)

abbrev pub is_unset_slot : State → Option ℕ → Bool
is_unset_slot state None = true
is_unset_slot state (Some number) = is_none (slot state number)

-- the rule of slots: one that is written was unset
abbrev pub keeps_slot : State → Line → Bool
keeps_slot state line = is_unset_slot state (writes_slot line)

abbrev pub is_slot_there : State → Option ℕ → Bool
is_slot_there state None = true
is_slot_there state (Some number) = has_slot state number

-- the rule of indices, but for `load`: a slot that is written is within the frame
abbrev pub keeps_index : State → Line → Bool
keeps_index state line = is_slot_there state (writes_slot line)

-- what a word is made of, where its type says that it is a list cell or a structure
abbrev pub made_of : WordType → Option Loaded
made_of word.ListCell = Some loaded.ListCell
made_of word.GroundListCell = Some loaded.ListCell
made_of word.FullListCell = Some loaded.ListCell
made_of (word.Structure functor) = Some (loaded.Structure functor)
made_of (word.GroundStructure functor) = Some (loaded.Structure functor)
made_of (word.FullStructure functor) = Some (loaded.Structure functor)
made_of _ = None

abbrev pub made_of_type : PlaceType → Option Loaded
made_of_type (place.Word word) = made_of word
made_of_type _ = None

abbrev pub made_of_held : Option Held → Option Loaded
made_of_held None = None
made_of_held (Some held) = made_of_type held.holds

-- what the word of a register is made of
abbrev pub loaded_from : State → ℕ → Option Loaded
loaded_from state number = made_of_held (register state number)

-- the cell is there: 0 and 1 of a list cell, 1 to the arity of a structure
abbrev pub has_cell : Option Loaded → ℕ → Bool
has_cell None cell = false
has_cell (Some loaded.ListCell) cell = nat_lt cell 2
has_cell (Some (loaded.Structure functor)) cell = nat_lt 0 cell && nat_le cell functor.arity

abbrev pub has_loaded : State → Source → ℕ → Bool
has_loaded state (source.Register number) cell = has_cell (loaded_from state number) cell
has_loaded state _ cell = true

-- the rule of the index of `load`
abbrev pub keeps_cell : State → Line → Bool
keeps_cell state (line.Load register from cell) = has_loaded state from cell
keeps_cell state _ = true
