use Rattle.std.proofs.Common.{◌≡◌, drop, None}
use Rattle.aq_term.specs.declared.proc_name.ProcName.{ProcName}
use Rattle.bam_types.specs.Callees.{last_of, placed}
use Rattle.bam_types.proofs.callees.import_places.Given as goal

abbrev pub invariant-loop-number : goal.invariant-loop-number
invariant-loop-number l =
    (name : ProcName) → last_of (drop l.number l.imports) name l.number (placed l.places name) ≡ last_of l.imports name 0 None
