-- The labels of a procedure, and what a line is tested against besides the state.
use Rattle.std.specs.Prelude.{Bool, true, false, cond, ◌&&◌, ℕ, ◌+◌, nat_eq, nat_lt, List, [], ◌∷◌, count_by, Option, Some, None, is_some, is_none, option_and_then, slice_get}
use Rattle.std.specs.List.{list_all}
use Rattle.term_meaning.specs.Plain.{Plain}
use Rattle.aq_term.specs.declared.proc_name.ProcName.{ProcName}
use Rattle.bam_code.specs.declared.item.Item.{Item}
use Rattle.bam_code.specs.declared.item.Item.TheVariants as item
use Rattle.bam_code.specs.declared.line.Line.{Line}
use Rattle.bam_code.specs.declared.line.Line.TheVariants as line
use Rattle.bam_code.specs.declared.place.Place.{Place}
use Rattle.bam_code.specs.declared.place.Place.TheVariants as at_place
use Rattle.bam_code.specs.declared.signature.Signature.{Signature}
use Rattle.bam_code.specs.declared.target.Target.{Target}
use Rattle.bam_code.specs.declared.target.Target.TheVariants as target
use Rattle.bam_types.specs.declared.labels.LabelKind.{LabelKind}
use Rattle.bam_types.specs.declared.labels.LabelKind.TheVariants as kind
use Rattle.bam_types.specs.declared.labels.LabelLine.{LabelLine}

-- a label of any kind, with what holds there
pub record Label : Type 0 where
  pub kind : LabelKind
  pub number : ℕ
  pub frame : Option ℕ
  pub items : List Item

abbrev pub label_seen : LabelLine → Label
label_seen label = record { kind = label.kind; number = label.number; frame = label.frame; items = label.items.now }

abbrev pub label : LabelKind → ℕ → Option ℕ → List Item → Label
label kind number frame items = record { kind = kind; number = number; frame = frame; items = items }

-- the label that a line is
abbrev pub label_of : Line → Option Label
label_of (line.Label number frame items) = Some (label kind.Label number frame items)
label_of (line.Alt number frame items) = Some (label kind.Alternative number frame items)
label_of (line.Ball number frame items) = Some (label kind.Ball number frame items)
label_of _ = None

abbrev pub is_label : LabelKind → Bool
is_label kind.Label = true
is_label kind.Alternative = false
is_label kind.Ball = false

abbrev pub is_alternative : LabelKind → Bool
is_alternative kind.Label = false
is_alternative kind.Alternative = true
is_alternative kind.Ball = false

abbrev pub is_ball : LabelKind → Bool
is_ball kind.Label = false
is_ball kind.Alternative = false
is_ball kind.Ball = true

-- an item of a slot
abbrev pub is_slot_place : Place → Bool
is_slot_place (at_place.Register number) = false
is_slot_place (at_place.Slot number) = true

abbrev pub is_slot_item : Item → Bool
is_slot_item (item.Argument argument known) = false
is_slot_item (item.Place place holds mark) = is_slot_place place

-- how many slots are listed
abbrev pub slots_listed : List Item → ℕ
slots_listed items = count_by is_slot_item items

-- no frame, and no slot is listed
abbrev pub is_frameless : Label → Bool
is_frameless label = is_none label.frame && nat_eq (slots_listed label.items) 0

-- no register from this number on
abbrev pub is_place_below : ℕ → Place → Bool
is_place_below registers (at_place.Register number) = nat_lt number registers
is_place_below registers (at_place.Slot number) = true

abbrev pub is_item_below : ℕ → Item → Bool
is_item_below registers (item.Argument argument known) = true
is_item_below registers (item.Place place holds mark) = is_place_below registers place

abbrev pub has_registers_below : Label → ℕ → Bool
has_registers_below label registers = list_all (is_item_below registers) label.items

-- the places of the lines that are labels of any kind, from a number on
abbrev pub label_places : ℕ → List Line → List ℕ
label_places at [] = []
label_places at (line ∷ lines) = cond (is_some (label_of line)) (at ∷ label_places (at + 1) lines) (label_places (at + 1) lines)

-- what a line of a procedure is tested against: the pool, the signatures of callees, the procedure's own signature, its lines, and
-- the places of its labels
pub record Within : Type 0 where
  pub pool : List Plain
  pub callee : ProcName → Option Signature
  pub signature : Signature
  pub lines : List Line
  pub labels : List ℕ

-- the label of a number
abbrev pub label_at : List Line → Option ℕ → Option Label
label_at lines None = None
label_at lines (Some at) = option_and_then label_of (slice_get lines at)

abbrev pub numbered : Within → ℕ → Option Label
numbered within number = label_at within.lines (slice_get within.labels number)

-- the label that a target names
abbrev pub target_label : Within → Target → Option Label
target_label within (target.Label number) = numbered within number
target_label within target.Fails = None
