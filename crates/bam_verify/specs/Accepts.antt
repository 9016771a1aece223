-- Which code is accepted, and else the first place that breaks a rule.
use Rattle.std.specs.Prelude.{cond, ℕ, ◌+◌, nat_eq, List, [], ◌∷◌, length, Option, Some, None}
use Rattle.aq_term.specs.declared.entry.Entry.{Entry}
use Rattle.aq_term.specs.declared.proc_name.ProcName.{ProcName}
use Rattle.aq_term.specs.declared.rule.Rule.{Rule}
use Rattle.aq_term.specs.declared.rule.Rule.TheVariants as rule
use Rattle.bam_code.specs.declared.code.Code.{Code}
use Rattle.bam_code.specs.declared.line.Line.{Line}
use Rattle.bam_code.specs.declared.procedure.Proc.{Proc}
use Rattle.bam_code.specs.declared.signature.Signature.{Signature}
use Rattle.bam_types.specs.declared.state.State.{State}
use Rattle.bam_types.specs.Callees.{callee_of_name, procedure_of_name}
use Rattle.bam_types.specs.Effects.{after}
use Rattle.bam_types.specs.Enter.{start}
use Rattle.bam_types.specs.EntryRule.{keeps_entry}
use Rattle.bam_types.specs.Labels.{Within, label_places}
use Rattle.bam_types.specs.Rules.{broken}
use Rattle.bam_verify.specs.declared.broken.Broken.{Broken}
use Rattle.bam_verify.specs.declared.reject.Reject.{Reject}

-- what the lines of a procedure are tested against
abbrev pub within_proc : (ProcName → Option Signature) → Code → Proc → Within
within_proc callee code proc = record {
  pool = code.pool;
  callee = callee;
  signature = proc.signature;
  lines = proc.lines;
  labels = label_places 0 proc.lines;
}

-- the line at a place from 0, where it breaks a rule, and else the first of the later ones that does
abbrev pub or_later : ℕ → Option Rule → Option Broken → Option Broken
or_later at None later = later
or_later at (Some rule) later = Some record { line = at + 1; rule = rule }

-- the first of these lines, from a place on, that breaks a rule in the state that the lines before it leave
unfoldable pub broken_from : Within → State → ℕ → List Line → Option Broken
broken_from within state at [] = None
broken_from within state at (line ∷ lines) =
    or_later at (broken within state at line) (broken_from within (after within state line) (at + 1) lines)

-- the first of the lines of a procedure that does. A procedure without lines breaks the rule of the flow
abbrev pub broken_lines : Within → List Line → Option Broken
broken_lines within lines =
    cond (nat_eq (length lines) 0) (Some record { line = 1; rule = rule.Flow }) (broken_from within (start within.signature) 0 lines)

-- the first line of a procedure that breaks a rule
abbrev pub broken_proc : (ProcName → Option Signature) → Code → Proc → Option Broken
broken_proc callee code proc = broken_lines (within_proc callee code proc) proc.lines

-- the first of these entries, from a number on, that breaks the rule of entries
abbrev pub broken_entries : (ProcName → Option Signature) → ℕ → List Entry → Option Broken
broken_entries procedure at [] = None
broken_entries procedure at (entry ∷ entries) =
    cond (keeps_entry procedure entry) (broken_entries procedure (at + 1) entries) (Some record { line = at + 1; rule = rule.Entry })

abbrev pub reject_at : ℕ → Option Broken → Option Reject → Option Reject
reject_at proc None later = later
reject_at proc (Some broken) later = Some record { proc = proc; line = broken.line; rule = broken.rule }

-- the first line of these procedures, from a number on, that breaks a rule
abbrev pub broken_procs : (ProcName → Option Signature) → Code → ℕ → List Proc → Option Reject
broken_procs callee code number [] = None
broken_procs callee code number (proc ∷ procs) =
    reject_at (number + 1) (broken_proc callee code proc) (broken_procs callee code (number + 1) procs)

-- the first entry, or else the first line, that breaks a rule. A code is accepted where there is none
abbrev pub first_reject : Code → Option Reject
first_reject code =
    reject_at 0 (broken_entries (procedure_of_name code) 0 code.entries) (broken_procs (callee_of_name code) code 0 code.procs)
