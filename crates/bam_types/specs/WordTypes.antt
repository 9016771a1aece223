-- What types of words say, and their order.
use Rattle.std.specs.Prelude.{Bool, true, false, ◌&&◌, nat_eq}
use Rattle.aq_term.specs.declared.functor.Functor.{Functor}
use Rattle.bam_code.specs.declared.known.Known.{Known}
use Rattle.bam_code.specs.declared.known.Known.TheVariants as known
use Rattle.bam_code.specs.declared.word_type.WordType.{WordType}
use Rattle.bam_code.specs.declared.word_type.WordType.TheVariants as word

abbrev pub same_functor : Functor → Functor → Bool
same_functor f g = nat_eq f.name.number g.name.number && nat_eq f.arity g.arity

-- it stands for a term
abbrev pub is_term : WordType → Bool
is_term word.Bar = false
is_term _ = true

-- dereferenced it is no reference
abbrev pub is_nonvar : WordType → Bool
is_nonvar word.Any = false
is_nonvar word.Head = false
is_nonvar word.Var = false
is_nonvar word.Bar = false
is_nonvar _ = true

-- it is no reference
abbrev pub is_direct : WordType → Bool
is_direct word.Any = false
is_direct word.Head = false
is_direct word.Var = false
is_direct word.Nonvar = false
is_direct word.Ground = false
is_direct word.Bar = false
is_direct _ = true

-- it is a reference to an unbound cell, or no reference
abbrev pub is_head : WordType → Bool
is_head word.Head = true
is_head word.Var = true
is_head t = is_direct t

-- it is a reference to an unbound cell
abbrev pub is_var : WordType → Bool
is_var word.Var = true
is_var _ = false

-- no unbound cell is reachable from it
abbrev pub is_ground : WordType → Bool
is_ground word.Ground = true
is_ground word.GroundDirect = true
is_ground word.Full = true
is_ground word.Int = true
is_ground word.Atom = true
is_ground word.GroundListCell = true
is_ground word.FullListCell = true
is_ground (word.GroundStructure f) = true
is_ground (word.FullStructure f) = true
is_ground _ = false

-- no reference is reachable from it, and it is none
abbrev pub is_full : WordType → Bool
is_full word.Full = true
is_full word.Int = true
is_full word.Atom = true
is_full word.FullListCell = true
is_full (word.FullStructure f) = true
is_full _ = false

abbrev pub is_int : WordType → Bool
is_int word.Int = true
is_int _ = false

abbrev pub is_atom : WordType → Bool
is_atom word.Atom = true
is_atom _ = false

abbrev pub is_list_cell : WordType → Bool
is_list_cell word.ListCell = true
is_list_cell word.GroundListCell = true
is_list_cell word.FullListCell = true
is_list_cell _ = false

-- it is a structure of this functor
abbrev pub is_structure : Functor → WordType → Bool
is_structure f (word.Structure g) = same_functor f g
is_structure f (word.GroundStructure g) = same_functor f g
is_structure f (word.FullStructure g) = same_functor f g
is_structure f _ = false

abbrev pub is_bar : WordType → Bool
is_bar word.Bar = true
is_bar _ = false

-- whether each word of the first type is of the second
abbrev pub word_below : WordType → WordType → Bool
word_below t word.Any = is_term t
word_below t word.Head = is_head t
word_below t word.Var = is_var t
word_below t word.Nonvar = is_nonvar t
word_below t word.Direct = is_direct t
word_below t word.Ground = is_ground t
word_below t word.GroundDirect = is_ground t && is_direct t
word_below t word.Full = is_full t
word_below t word.Int = is_int t
word_below t word.Atom = is_atom t
word_below t word.ListCell = is_list_cell t
word_below t word.GroundListCell = is_list_cell t && is_ground t
word_below t word.FullListCell = is_list_cell t && is_full t
word_below t (word.Structure f) = is_structure f t
word_below t (word.GroundStructure f) = is_structure f t && is_ground t
word_below t (word.FullStructure f) = is_structure f t && is_full t
word_below t word.Bar = is_bar t

-- what a type says of the term alone
abbrev pub strip_word : WordType → Known
strip_word word.Any = known.Any
strip_word word.Head = known.Any
strip_word word.Var = known.Any
strip_word word.Nonvar = known.Nonvar
strip_word word.Direct = known.Nonvar
strip_word word.Ground = known.Ground
strip_word word.GroundDirect = known.Ground
strip_word word.Full = known.Ground
strip_word word.Int = known.Ground
strip_word word.Atom = known.Ground
strip_word word.ListCell = known.Nonvar
strip_word word.GroundListCell = known.Ground
strip_word word.FullListCell = known.Ground
strip_word (word.Structure f) = known.Nonvar
strip_word (word.GroundStructure f) = known.Ground
strip_word (word.FullStructure f) = known.Ground
strip_word word.Bar = known.Any

-- the type of a word whose term is known to hold no variable
abbrev pub with_ground : WordType → WordType
with_ground word.Any = word.Ground
with_ground word.Var = word.Ground
with_ground word.Nonvar = word.Ground
with_ground word.Head = word.GroundDirect
with_ground word.Direct = word.GroundDirect
with_ground word.ListCell = word.GroundListCell
with_ground (word.Structure f) = word.GroundStructure f
with_ground t = t

-- the type of a word whose term is known to be no variable
abbrev pub with_nonvar : WordType → WordType
with_nonvar word.Any = word.Nonvar
with_nonvar word.Var = word.Nonvar
with_nonvar word.Head = word.Direct
with_nonvar t = t

-- the type of a word of whose term this is known
abbrev pub word_with : WordType → Known → WordType
word_with t known.Any = t
word_with t known.Nonvar = with_nonvar t
word_with t known.Ground = with_ground t

-- the type of the dereferenced word
abbrev pub deref_word : WordType → WordType
deref_word word.Any = word.Head
deref_word word.Nonvar = word.Direct
deref_word word.Ground = word.GroundDirect
deref_word t = t

-- the type after it was seen that the word is no reference
abbrev pub made_direct : WordType → WordType
made_direct word.Any = word.Direct
made_direct word.Head = word.Direct
made_direct word.Var = word.Direct
made_direct word.Nonvar = word.Direct
made_direct word.Ground = word.GroundDirect
made_direct t = t

-- the type after cells were bound
abbrev pub weakened : WordType → WordType
weakened word.Head = word.Any
weakened word.Var = word.Any
weakened t = t

-- so much is known in either way
abbrev pub both_known : Known → Known → Known
both_known known.Any k = k
both_known known.Ground k = known.Ground
both_known known.Nonvar known.Ground = known.Ground
both_known known.Nonvar known.Any = known.Nonvar
both_known known.Nonvar known.Nonvar = known.Nonvar

-- what is known first says what is known second
abbrev pub follows : Known → Known → Bool
follows k known.Any = true
follows known.Any known.Nonvar = false
follows _ known.Nonvar = true
follows known.Ground known.Ground = true
follows _ known.Ground = false

-- the type of a list cell of whose parts this is so
abbrev pub list_cell_type : Bool → Bool → WordType
list_cell_type _ true = word.FullListCell
list_cell_type true false = word.GroundListCell
list_cell_type false false = word.ListCell

-- the type of a structure of whose arguments this is so
abbrev pub structure_type : Functor → Bool → Bool → WordType
structure_type f _ true = word.FullStructure f
structure_type f true false = word.GroundStructure f
structure_type f false false = word.Structure f
