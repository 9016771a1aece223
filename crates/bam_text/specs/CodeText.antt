-- How a whole code is spelled. Each line ends with one new line.
use Rattle.std.specs.Prelude.{ℕ, ◌||◌, Bool, true, false, List, [], ◌∷◌, ◌++◌, codes, if◌then◌else◌}
use Rattle.std.specs.Fmt.{decimal}
use Rattle.aq_term.specs.declared.entry.Entry.{Entry}
use Rattle.aq_term.specs.declared.mode.Mode.{Mode}
use Rattle.term_meaning.specs.Plain.{Plain}
use Rattle.bam_code.specs.declared.arg_type.ArgType.{ArgType}
use Rattle.bam_code.specs.declared.result_type.ResultType.{ResultType}
use Rattle.bam_code.specs.declared.source.Source.{Source}
use Rattle.bam_code.specs.declared.source.Source.TheVariants as source
use Rattle.bam_code.specs.declared.line.Line.{Line}
use Rattle.bam_code.specs.declared.line.Line.TheVariants as line
use Rattle.bam_code.specs.declared.signature.Signature.{Signature}
use Rattle.bam_code.specs.declared.procedure.Proc.{Proc}
use Rattle.bam_code.specs.declared.code.Code.{Code}
use Rattle.bam_text.specs.Words.{mode_word, arg_type_word, result_type_word}
use Rattle.bam_text.specs.Operands.{Texts, atom_text, name_text, ground_text}
use Rattle.bam_text.specs.LineText.{line_text}

-- a line, and its new line
abbrev pub ended : List ℕ → List ℕ
ended text = text ++ 10 ∷ []

abbrev pub modes_text : List Mode → List ℕ
modes_text [] = []
modes_text (first ∷ modes) = 32 ∷ mode_word first ++ modes_text modes

abbrev pub entry_text : Texts → Entry → List ℕ
entry_text texts entry =
    ended (codes "entry " ++ atom_text texts entry.name.number ++ 47 ∷ decimal entry.arity ++ modes_text entry.modes)

abbrev pub args_text : List ArgType → List ℕ
args_text [] = []
args_text (first ∷ args) = 32 ∷ arg_type_word first ++ args_text args

abbrev pub results_text : List ResultType → List ℕ
results_text [] = []
results_text (first ∷ results) = 32 ∷ result_type_word first ++ results_text results

-- a signature after its word and a space
abbrev pub signature_text : Texts → Signature → List ℕ
signature_text texts signature =
    ended (name_text texts signature.name ++ args_text signature.args ++ codes " ->" ++ results_text signature.results)

abbrev pub import_text : Texts → Signature → List ℕ
import_text texts signature = codes "import " ++ signature_text texts signature

abbrev pub pool_text : Texts → Plain → List ℕ
pool_text texts term = ended (codes "pool " ++ ground_text texts term)

abbrev pub lines_text : Texts → List Line → List ℕ
lines_text texts [] = []
lines_text texts (first ∷ lines) = ended (line_text texts first) ++ lines_text texts lines

abbrev pub proc_text : Texts → Proc → List ℕ
proc_text texts proc =
    codes "proc " ++ signature_text texts proc.signature ++ lines_text texts proc.lines ++ ended (codes "end")

-- all items of a section
abbrev pub section_text : {A : Type 0} → (A → List ℕ) → List A → List ℕ
section_text text [] = []
section_text text (first ∷ items) = text first ++ section_text text items

-- a place is raised, and no constant
abbrev pub is_place : Source → Bool
is_place (source.Register number) = true
is_place (source.Slot number) = true
is_place _ = false

-- the line catches a ball, or raises a place
unfoldable pub catches : Line → Bool
catches (line.Ball number frame items) = true
catches (line.Catch registers ball) = true
catches line.Uncatch = true
catches (line.Raise from) = is_place from
catches _ = false

abbrev pub some_catches : List Line → Bool
some_catches [] = false
some_catches (first ∷ lines) = catches first || some_catches lines

abbrev pub some_proc_catches : List Proc → Bool
some_proc_catches [] = false
some_proc_catches (proc ∷ procs) = some_catches proc.lines || some_proc_catches procs

-- the first line: the second version exactly where some line catches
abbrev pub first_line : List Proc → List ℕ
first_line procs = if some_proc_catches procs then codes "bam 2\n" else codes "bam 1\n"

abbrev pub code_text : Texts → Code → List ℕ
code_text texts code =
    first_line code.procs ++ section_text (entry_text texts) code.entries ++ section_text (import_text texts) code.imports
    ++ section_text (pool_text texts) code.pool ++ section_text (proc_text texts) code.procs
