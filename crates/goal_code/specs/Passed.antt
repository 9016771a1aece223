-- How the arguments of a call are passed, and which variables are put into cells before.
use Rattle.std.specs.Prelude.{◌≡◌, ℕ, ◌+◌, Bool, true, false, min, List, [], ◌∷◌, Option, Some, None, filter}
use Rattle.aq_term.specs.declared.term.Term.{Term}
use Rattle.aq_term.specs.declared.term.Term.TheVariants as term
use Rattle.bam_code.specs.declared.line.Line.{Line}
use Rattle.bam_code.specs.declared.line.Line.TheVariants as line
use Rattle.bam_code.specs.declared.source.Source.{Source}
use Rattle.bam_code.specs.declared.source.Source.TheVariants as source
use Rattle.flow_equations.specs.Env.{Env, changed, fact_of}
use Rattle.flow_equations.specs.FactRules.{seen}
use Rattle.goal_code.specs.declared.arguments.Operand.{Operand}
use Rattle.goal_code.specs.declared.arguments.Operand.TheVariants as operand
use Rattle.type_lattice.specs.declared.fact.Fact.{Fact}
use Rattle.type_lattice.specs.declared.fact.Fact.TheVariants as fact
use Rattle.unify_special.specs.FactTypes.{hole_of}
use Rattle.unify_special.specs.Places.{place_of}
use Rattle.unify_special.specs.declared.place.Place.{Place}
use Rattle.unify_special.specs.declared.place.Place.TheVariants as place

-- a variable that stands nowhere is a result of the callee, of which this is so at its success
abbrev pub operand_at : Place → Fact → Operand
operand_at place.Nowhere success = operand.Hole (hole_of success)
operand_at (place.Register number) success = operand.Word (source.Register number)
operand_at (place.Slot number) success = operand.Word (source.Slot number)
operand_at (place.Boxed number) success = operand.Boxed number

abbrev pub operand_for : List Place → Term → Fact → Operand
operand_for places (term.Var v) success = operand_at (place_of places v) success
operand_for places (term.Int z) success = operand.Word (source.Int z)
operand_for places (term.Atom a) success = operand.Word (source.Atom a)
operand_for places (term.Compound a ts) success = operand.Hole (hole_of success)

-- anything is so of an argument past the end of the facts
abbrev pub operands_for : List Place → List Term → List Fact → List Operand
operands_for places [] successes = []
operands_for places (t ∷ ts) [] = operand_for places t fact.Any ∷ operands_for places ts []
operands_for places (t ∷ ts) (success ∷ successes) = operand_for places t success ∷ operands_for places ts successes

-- the own depth, where it stands somewhere
abbrev pub depth_operands : Option Source → List Operand
depth_operands None = []
depth_operands (Some depth) = operand.Word depth ∷ []

-- no procedure has an argument past 255
abbrev pub register_for : ℕ → ℕ
register_for number = min number 65535

-- a new hole in the register of an argument that is passed as one
abbrev pub hole_in : ℕ → Operand → Option Line
hole_in register (operand.Hole holds) = Some (line.Hole register holds)
hole_in register _ = None

abbrev pub with_hole : Option Line → List Line → List Line
with_hole None lines = lines
with_hole (Some hole) lines = hole ∷ lines

-- for arguments from this number on
abbrev pub holes_from : ℕ → List Operand → List Line
holes_from number [] = []
holes_from number (first ∷ rest) = with_hole (hole_in (register_for number) first) (holes_from (number + 1) rest)

-- one for each
abbrev pub holes_for : List Operand → List Line
holes_for operands = holes_from 0 operands

abbrev pub is_hole_line : Line → Bool
is_hole_line (line.Hole register holds) = true
is_hole_line _ = false

-- those of the lines that make a hole
abbrev pub hole_lines : List Line → List Line
hole_lines lines = filter is_hole_line lines

-- a variable that is no result of the callee is put into a cell where it was out
abbrev pub passed_one : Env → Term → Option Fact → Env
passed_one env (term.Var v) (Some fact.Out) = env
passed_one env (term.Var v) call = changed seen env v
passed_one env t call = env

abbrev pub passed : Env → List Term → List Fact → Env
passed env [] calls = env
passed env (t ∷ ts) [] = passed (passed_one env t None) ts []
passed env (t ∷ ts) (call ∷ calls) = passed (passed_one env t (Some call)) ts calls

-- one line where the variable stands nowhere and is out no more, into this register
abbrev pub cell_lines : Fact → Place → ℕ → List Line
cell_lines fact.Out place register = []
cell_lines _ place.Nowhere register = line.Fresh register ∷ []
cell_lines _ place register = []

-- variables that are out stand where they stood
abbrev pub KeepsOut : Env → List Place → List Place → Type 0
KeepsOut facts before after = (v : ℕ) → fact_of facts v ≡ fact.Out → place_of after v ≡ place_of before v
