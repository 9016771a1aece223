-- The reader as a machine over the words of a clause, whose stack has the newest frame first.
use Rattle.std.specs.Prelude.{ℕ, ℤ, pos, neg_ℤ, ◌==◌, ◌&&◌, Bool, true, false, if◌then◌else◌, nat_lt, nat_le, List, [], ◌∷◌, Option, Some, None, is_some}
use Rattle.std.specs.Option.{option_and_then, option_map}
use Rattle.aq_term.specs.declared.atom.Atom.{Atom}
use Rattle.aq_term.specs.declared.term.Term.{Term}
use Rattle.aq_term.specs.declared.term.Term.TheVariants as term
use Rattle.prolog_reader.specs.declared.symbol.Symbol.{Symbol}
use Rattle.prolog_reader.specs.declared.symbol.InfixLimits.{InfixLimits}
use Rattle.prolog_reader.specs.declared.symbol.PrefixLimits.{PrefixLimits}
use Rattle.prolog_reader.specs.declared.word.Word.{Word}
use Rattle.prolog_reader.specs.declared.word.Word.TheVariants as word
use Rattle.prolog_reader.specs.declared.built.TermFault.TheVariants as fault
use Rattle.prolog_reader.specs.declared.built.Built.{Built}
use Rattle.prolog_reader.specs.declared.built.Built.TheVariants.{Whole, Faulty}
use Rattle.prolog_reader.specs.declared.frame.Frame.{Frame}
use Rattle.prolog_reader.specs.declared.frame.Frame.TheVariants as frame
use Rattle.prolog_reader.specs.declared.operand.Operand.{Operand}
use Rattle.prolog_reader.specs.declared.machine.State.{State}
use Rattle.prolog_reader.specs.declared.machine.State.TheVariants as state
use Rattle.prolog_reader.specs.declared.enclosed.Enclosed.{Enclosed}
use Rattle.prolog_reader.specs.Words.{next_begins, infix_symbol}
use Rattle.prolog_reader.specs.Terms.{simple, unary, binary, nil_name, curly_name}
use Rattle.prolog_reader.specs.Values.{no_row, with_argument, with_element, compound_of, list_of}
use Rattle.prolog_reader.specs.Limits.{frame_most}

-- the greatest priority of the term that is read now
abbrev pub most_of : List Frame → ℕ
most_of [] = 1200
most_of (f ∷ fs) = frame_most f

abbrev pub closed : Built → Operand
closed b = record { built = b; priority = 0 }

-- a state and the stack with it, or nothing where the words are no term
abbrev pub Made : Type 0
Made = Option (State × List Frame)

-- a term that ends where it stands, in its frame, and the stack below
abbrev pub enclose_of : List Frame → Built → Enclosed × List Frame
enclose_of [] b = (record { frame = None; built = b }, [])
enclose_of (frame.Infix name p m left ∷ fs) b = enclose_of fs (binary name left b)
enclose_of (frame.Prefix name p m ∷ fs) b = enclose_of fs (unary name b)
enclose_of (frame.Brackets ∷ fs) b = (record { frame = Some frame.Brackets; built = b }, fs)
enclose_of (frame.Curly ∷ fs) b = (record { frame = Some frame.Curly; built = b }, fs)
enclose_of (frame.Arguments name row ∷ fs) b = (record { frame = Some (frame.Arguments name row); built = b }, fs)
enclose_of (frame.Elements row ∷ fs) b = (record { frame = Some (frame.Elements row); built = b }, fs)
enclose_of (frame.Tail row ∷ fs) b = (record { frame = Some (frame.Tail row); built = b }, fs)

-- whether an infix operator may follow an operand of a priority, where a term of priority at most `most` is due
abbrev pub fits : InfixLimits → ℕ → ℕ → Bool
fits limits left most = nat_le limits.priority most && nat_le left limits.left

abbrev pub infix_frame : Atom → InfixLimits → Built → Frame
infix_frame name limits b = frame.Infix name limits.priority limits.right b

-- the stack with the operator, or the term that ends before it
abbrev pub Begun : Type 0
Begun = Option Enclosed × List Frame

abbrev pub begun : Atom → InfixLimits → ℕ → List Frame → Built → Begun
begun name limits left [] b =
    if fits limits left 1200 then (None, infix_frame name limits b ∷ []) else (Some (record { frame = None; built = b }), [])
begun name limits left (frame.Infix before p m other ∷ fs) b =
    if fits limits left m then (None, infix_frame name limits b ∷ frame.Infix before p m other ∷ fs)
    else begun name limits p fs (binary before other b)
begun name limits left (frame.Prefix before p m ∷ fs) b =
    if fits limits left m then (None, infix_frame name limits b ∷ frame.Prefix before p m ∷ fs)
    else begun name limits p fs (unary before b)
begun name limits left (frame.Brackets ∷ fs) b =
    if fits limits left 1200 then (None, infix_frame name limits b ∷ frame.Brackets ∷ fs)
    else (Some (record { frame = Some frame.Brackets; built = b }), fs)
begun name limits left (frame.Curly ∷ fs) b =
    if fits limits left 1200 then (None, infix_frame name limits b ∷ frame.Curly ∷ fs)
    else (Some (record { frame = Some frame.Curly; built = b }), fs)
begun name limits left (frame.Arguments f row ∷ fs) b =
    if fits limits left 999 then (None, infix_frame name limits b ∷ frame.Arguments f row ∷ fs)
    else (Some (record { frame = Some (frame.Arguments f row); built = b }), fs)
begun name limits left (frame.Elements row ∷ fs) b =
    if fits limits left 999 then (None, infix_frame name limits b ∷ frame.Elements row ∷ fs)
    else (Some (record { frame = Some (frame.Elements row); built = b }), fs)
begun name limits left (frame.Tail row ∷ fs) b =
    if fits limits left 999 then (None, infix_frame name limits b ∷ frame.Tail row ∷ fs)
    else (Some (record { frame = Some (frame.Tail row); built = b }), fs)

-- integers
abbrev pub positive : ℕ → Built
positive n = if nat_le n 9223372036854775807 then simple (term.Int (pos n)) else Faulty fault.IntRange

abbrev pub negative : ℕ → Built
negative n = if nat_le n 9223372036854775808 then simple (term.Int (neg_ℤ (pos n))) else Faulty fault.IntRange

abbrev pub signed : Option Word → List Frame → Made
signed None fs = None
signed (Some (word.Integer n)) fs = Some (state.Skip (closed (negative n)), fs)
signed (Some word.WideInteger) fs = Some (state.Skip (closed (Faulty fault.IntRange)), fs)
signed (Some (word.Name s)) fs = None
signed (Some (word.Sign s)) fs = None
signed (Some (word.Functor s)) fs = None
signed (Some (word.Variable n)) fs = None
signed (Some word.Open) fs = None
signed (Some word.Close) fs = None
signed (Some word.OpenList) fs = None
signed (Some word.CloseList) fs = None
signed (Some word.OpenCurly) fs = None
signed (Some word.CloseCurly) fs = None
signed (Some (word.Comma s)) fs = None
signed (Some word.Bar) fs = None
signed (Some word.End) fs = None

abbrev pub atom_of : Atom → List Frame → Made
atom_of name fs = Some (state.After (closed (simple (term.Atom name))), fs)

abbrev pub applied : Atom → PrefixLimits → List Frame → Made
applied name prefix fs =
    if nat_lt (most_of fs) prefix.priority then None
    else Some (state.Due, frame.Prefix name prefix.priority prefix.operand ∷ fs)

abbrev pub applied_or : Symbol → Option PrefixLimits → List Frame → Made
applied_or s (Some prefix) fs = applied s.name prefix fs
applied_or s None fs = if is_some s.infix then None else atom_of s.name fs

abbrev pub named : Symbol → Option Word → List Frame → Made
named s next fs = if next_begins next then applied_or s s.prefix fs else atom_of s.name fs

abbrev pub is_close_list : Option Word → Bool
is_close_list (Some word.CloseList) = true
is_close_list _ = false

abbrev pub is_close_curly : Option Word → Bool
is_close_curly (Some word.CloseCurly) = true
is_close_curly _ = false

abbrev pub skipped : Atom → List Frame → Made
skipped name fs = Some (state.Skip (closed (simple (term.Atom name))), fs)

-- the word where an operand is due
abbrev pub due : Word → Option Word → List Frame → Made
due (word.Name s) next fs = named s next fs
due (word.Sign s) next fs = signed next fs
due (word.Functor s) next fs = Some (state.Bracket, frame.Arguments s.name no_row ∷ fs)
due (word.Variable n) next fs = Some (state.After (closed (simple (term.Var n))), fs)
due (word.Integer n) next fs = Some (state.After (closed (positive n)), fs)
due word.WideInteger next fs = Some (state.After (closed (Faulty fault.IntRange)), fs)
due word.Open next fs = Some (state.Due, frame.Brackets ∷ fs)
due word.OpenList next fs =
    if is_close_list next then skipped nil_name fs else Some (state.Due, frame.Elements no_row ∷ fs)
due word.OpenCurly next fs =
    if is_close_curly next then skipped curly_name fs else Some (state.Due, frame.Curly ∷ fs)
due word.Close next fs = None
due word.CloseList next fs = None
due word.CloseCurly next fs = None
due (word.Comma s) next fs = None
due word.Bar next fs = None
due word.End next fs = None

abbrev pub after_closed : Built → List Frame → Made
after_closed b fs = Some (state.After (closed b), fs)

-- `)` behind a term
abbrev pub round : Option Frame → Built → List Frame → Made
round (Some frame.Brackets) b fs = after_closed b fs
round (Some (frame.Arguments name row)) b fs = after_closed (compound_of name (with_argument row b)) fs
round None b fs = None
round (Some (frame.Infix name p m left)) b fs = None
round (Some (frame.Prefix name p m)) b fs = None
round (Some frame.Curly) b fs = None
round (Some (frame.Elements row)) b fs = None
round (Some (frame.Tail row)) b fs = None

-- `]` behind a term
abbrev pub square : Option Frame → Built → List Frame → Made
square (Some (frame.Elements row)) b fs = after_closed (list_of (with_element row b) (simple (term.Atom nil_name))) fs
square (Some (frame.Tail row)) b fs = after_closed (list_of row b) fs
square None b fs = None
square (Some (frame.Infix name p m left)) b fs = None
square (Some (frame.Prefix name p m)) b fs = None
square (Some frame.Brackets) b fs = None
square (Some frame.Curly) b fs = None
square (Some (frame.Arguments name row)) b fs = None

-- `}` behind a term
abbrev pub curly : Option Frame → Built → List Frame → Made
curly (Some frame.Curly) b fs = after_closed (unary curly_name b) fs
curly None b fs = None
curly (Some (frame.Infix name p m left)) b fs = None
curly (Some (frame.Prefix name p m)) b fs = None
curly (Some frame.Brackets) b fs = None
curly (Some (frame.Arguments name row)) b fs = None
curly (Some (frame.Elements row)) b fs = None
curly (Some (frame.Tail row)) b fs = None

-- `|` behind a term
abbrev pub bar : Option Frame → Built → List Frame → Made
bar (Some (frame.Elements row)) b fs = Some (state.Due, frame.Tail (with_element row b) ∷ fs)
bar None b fs = None
bar (Some (frame.Infix name p m left)) b fs = None
bar (Some (frame.Prefix name p m)) b fs = None
bar (Some frame.Brackets) b fs = None
bar (Some frame.Curly) b fs = None
bar (Some (frame.Arguments name row)) b fs = None
bar (Some (frame.Tail row)) b fs = None

-- `,` between arguments or elements
abbrev pub separated : Option Frame → Built → List Frame → Made
separated (Some (frame.Arguments name row)) b fs = Some (state.Due, frame.Arguments name (with_argument row b) ∷ fs)
separated (Some (frame.Elements row)) b fs = Some (state.Due, frame.Elements (with_element row b) ∷ fs)
separated None b fs = None
separated (Some (frame.Infix name p m left)) b fs = None
separated (Some (frame.Prefix name p m)) b fs = None
separated (Some frame.Brackets) b fs = None
separated (Some frame.Curly) b fs = None
separated (Some (frame.Tail row)) b fs = None

abbrev pub is_comma : Word → Bool
is_comma (word.Comma s) = true
is_comma _ = false

abbrev pub settled : Word → Begun → Made
settled w (None, fs) = Some (state.Due, fs)
settled w (Some e, fs) = if is_comma w then separated e.frame e.built fs else None

abbrev pub infix_or : Word → Symbol → Option InfixLimits → Operand → List Frame → Made
infix_or w s None o fs = None
infix_or w s (Some limits) o fs = settled w (begun s.name limits o.priority fs o.built)

abbrev pub infix_of : Word → Option Symbol → Operand → List Frame → Made
infix_of w None o fs = None
infix_of w (Some s) o fs = infix_or w s s.infix o fs

abbrev pub ended : (Option Frame → Built → List Frame → Made) → Enclosed × List Frame → Made
ended close (e, fs) = close e.frame e.built fs

-- the word behind an operand
abbrev pub after : Operand → Word → List Frame → Made
after o word.Close fs = ended round (enclose_of fs o.built)
after o word.CloseList fs = ended square (enclose_of fs o.built)
after o word.CloseCurly fs = ended curly (enclose_of fs o.built)
after o word.Bar fs = ended bar (enclose_of fs o.built)
after o (word.Name s) fs = infix_of (word.Name s) (Some s) o fs
after o (word.Sign s) fs = infix_of (word.Sign s) (Some s) o fs
after o (word.Functor s) fs = infix_of (word.Functor s) (Some s) o fs
after o (word.Comma s) fs = infix_of (word.Comma s) (Some s) o fs
after o (word.Variable n) fs = None
after o (word.Integer n) fs = None
after o word.WideInteger fs = None
after o word.Open fs = None
after o word.OpenList fs = None
after o word.OpenCurly fs = None
after o word.End fs = None

abbrev pub step : State → Word → Option Word → List Frame → Made
step state.Due w next fs = due w next fs
step (state.After o) w next fs = after o w fs
step (state.Skip o) w next fs = Some (state.After o, fs)
step state.Bracket w next fs = Some (state.Due, fs)

abbrev pub first_of : List Word → Option Word
first_of [] = None
first_of (w ∷ ws) = Some w

-- the state behind all words
abbrev pub run : List Word → State → List Frame → Made
run [] s fs = Some (s, fs)
run (w ∷ ws) s fs = option_and_then (λ made. run ws made.0 made.1) (step s w (first_of ws) fs)

abbrev pub whole : Enclosed × List Frame → Option Built
whole (e, fs) = if is_some e.frame then None else Some e.built

-- what the words are, where they end here
abbrev pub finished : State × List Frame → Option Built
finished (state.After o, fs) = whole (enclose_of fs o.built)
finished (state.Due, fs) = None
finished (state.Skip o, fs) = None
finished (state.Bracket, fs) = None

-- what the words are, or nothing where they are no term
abbrev pub read_of : List Word → Option Built
read_of ws = option_and_then finished (run ws state.Due [])
