-- How operands are spelled. Names are texts of a table; an atom that is not of the table is spelled as the empty one.
use Rattle.std.specs.Prelude.{ℕ, ◌==◌, List, [], ◌∷◌, ◌++◌, Option, Some, None, codes, if◌then◌else◌, slice_get, unwrap_or}
use Rattle.std.specs.Fmt.{decimal, signed_decimal}
use Rattle.aq_term.specs.declared.functor.Functor.{Functor}
use Rattle.aq_term.specs.declared.proc_name.ProcName.{ProcName}
use Rattle.aq_term.specs.declared.builtin.Builtin.{Builtin}
use Rattle.aq_term.specs.Builtins.{name_of, arity_of}
use Rattle.term_meaning.specs.Plain.{Plain, Plains, variable, integer, atom, compound, none, more}
use Rattle.bam_code.specs.declared.place.Place.{Place}
use Rattle.bam_code.specs.declared.place.Place.TheVariants as place
use Rattle.bam_code.specs.declared.source.Source.{Source}
use Rattle.bam_code.specs.declared.source.Source.TheVariants as source
use Rattle.bam_code.specs.declared.constant.Constant.{Constant}
use Rattle.bam_code.specs.declared.constant.Constant.TheVariants as constant
use Rattle.bam_code.specs.declared.target.Target.{Target}
use Rattle.bam_code.specs.declared.target.Target.TheVariants as target
use Rattle.bam_code.specs.declared.switch_target.SwitchTarget.{SwitchTarget}
use Rattle.bam_code.specs.declared.switch_target.SwitchTarget.TheVariants as switch_target
use Rattle.bam_code.specs.declared.word_type.WordType.{WordType}
use Rattle.bam_code.specs.declared.word_type.WordType.TheVariants as word_type
use Rattle.bam_code.specs.declared.place_type.PlaceType.{PlaceType}
use Rattle.bam_code.specs.declared.place_type.PlaceType.TheVariants as place_type
use Rattle.bam_code.specs.declared.known.Known.{Known}
use Rattle.bam_code.specs.declared.item.Item.{Item}
use Rattle.bam_code.specs.declared.item.Item.TheVariants as item
use Rattle.term_text.specs.Spelling.{in_quotes}
use Rattle.bam_text.specs.Words.{known_word}

-- the texts of names, by number
abbrev pub Texts : Type 0
Texts = List (List ℕ)

abbrev pub atom_text : Texts → ℕ → List ℕ
atom_text texts number = in_quotes (unwrap_or (slice_get texts number) [])

abbrev pub register_text : ℕ → List ℕ
register_text number = 114 ∷ decimal number

abbrev pub slot_text : ℕ → List ℕ
slot_text number = 121 ∷ decimal number

abbrev pub place_text : Place → List ℕ
place_text (place.Register number) = register_text number
place_text (place.Slot number) = slot_text number

abbrev pub pool_entry_text : ℕ → List ℕ
pool_entry_text number = 35 ∷ decimal number

abbrev pub source_text : Texts → Source → List ℕ
source_text texts (source.Register number) = register_text number
source_text texts (source.Slot number) = slot_text number
source_text texts (source.Int value) = signed_decimal value
source_text texts (source.Atom name) = atom_text texts name.number
source_text texts (source.Pool number) = pool_entry_text number

abbrev pub constant_text : Texts → Constant → List ℕ
constant_text texts (constant.Int value) = signed_decimal value
constant_text texts (constant.Atom name) = atom_text texts name.number

abbrev pub functor_text : Texts → Functor → List ℕ
functor_text texts functor = atom_text texts functor.name.number ++ 47 ∷ decimal functor.arity

abbrev pub builtin_text : Texts → Builtin → List ℕ
builtin_text texts builtin = atom_text texts (name_of builtin) ++ 47 ∷ decimal (arity_of builtin)

-- an auxiliary predicate has its part and its width besides
abbrev pub name_text : Texts → ProcName → List ℕ
name_text texts name =
    atom_text texts name.name.number ++ 47 ∷ decimal name.arity
    ++ (if name.part == 0 then [] else 35 ∷ decimal name.part ++ 47 ∷ decimal name.width)

abbrev pub target_text : Target → List ℕ
target_text (target.Label number) = decimal number
target_text target.Fails = codes "-"

abbrev pub switch_target_text : SwitchTarget → List ℕ
switch_target_text (switch_target.Label number) = decimal number
switch_target_text switch_target.Fails = codes "-"
switch_target_text switch_target.Never = codes "*"

abbrev pub frame_text : Option ℕ → List ℕ
frame_text None = codes "-"
frame_text (Some slots) = 102 ∷ decimal slots

abbrev pub word_type_text : Texts → WordType → List ℕ
word_type_text texts word_type.Any = codes "any"
word_type_text texts word_type.Head = codes "head"
word_type_text texts word_type.Var = codes "var"
word_type_text texts word_type.Nonvar = codes "nonvar"
word_type_text texts word_type.Direct = codes "direct"
word_type_text texts word_type.Ground = codes "ground"
word_type_text texts word_type.GroundDirect = codes "gdirect"
word_type_text texts word_type.Full = codes "full"
word_type_text texts word_type.Int = codes "int"
word_type_text texts word_type.Atom = codes "atm"
word_type_text texts word_type.ListCell = codes "lst"
word_type_text texts word_type.GroundListCell = codes "glst"
word_type_text texts word_type.FullListCell = codes "flst"
word_type_text texts (word_type.Structure functor) = codes "str:" ++ functor_text texts functor
word_type_text texts (word_type.GroundStructure functor) = codes "gstr:" ++ functor_text texts functor
word_type_text texts (word_type.FullStructure functor) = codes "fstr:" ++ functor_text texts functor
word_type_text texts word_type.Bar = codes "bar"

abbrev pub place_type_text : Texts → PlaceType → List ℕ
place_type_text texts (place_type.Word type) = word_type_text texts type
place_type_text texts (place_type.Hole type) = codes "hole:" ++ word_type_text texts type
place_type_text texts (place_type.Part type) = codes "part:" ++ word_type_text texts type
place_type_text texts (place_type.Cell type) = codes "cell:" ++ word_type_text texts type

abbrev pub mark_text : Option ℕ → List ℕ
mark_text None = []
mark_text (Some argument) = codes "=a" ++ decimal argument

abbrev pub argument_item_text : ℕ → Known → List ℕ
argument_item_text argument known = 97 ∷ decimal argument ++ 58 ∷ known_word known

abbrev pub place_item_text : Texts → Place → PlaceType → Option ℕ → List ℕ
place_item_text texts place holds mark = place_text place ++ 58 ∷ place_type_text texts holds ++ mark_text mark

abbrev pub item_text : Texts → Item → List ℕ
item_text texts (item.Argument argument known) = argument_item_text argument known
item_text texts (item.Place place holds mark) = place_item_text texts place holds mark

-- each item after a space
abbrev pub items_text : Texts → List Item → List ℕ
items_text texts [] = []
items_text texts (first ∷ items) = 32 ∷ item_text texts first ++ items_text texts items

-- a ground term; a variable is in none, and is spelled by nothing
abbrev mutual
  pub ground_text : Texts → Plain → List ℕ
  ground_text texts (variable n) = []
  ground_text texts (integer z) = signed_decimal z
  ground_text texts (atom n) = atom_text texts n
  ground_text texts (compound n ts) = atom_text texts n ++ later_text texts 40 ts

  -- each argument after a byte, which is `,` from the second one on, and the closing bracket
  pub later_text : Texts → ℕ → Plains → List ℕ
  later_text texts before none = 41 ∷ []
  later_text texts before (more t ts) = before ∷ ground_text texts t ++ later_text texts 44 ts

-- the arguments of a compound in brackets; there is at least one
abbrev pub arguments_text : Texts → Plains → List ℕ
arguments_text texts ts = later_text texts 40 ts
