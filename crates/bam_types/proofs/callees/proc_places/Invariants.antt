use Rattle.std.proofs.Common.{◌≡◌, drop, map, None}
use Rattle.aq_term.specs.declared.proc_name.ProcName.{ProcName}
use Rattle.bam_types.specs.Callees.{last_of, placed, signature_of}
use Rattle.bam_types.proofs.callees.proc_places.Given as goal

abbrev pub invariant-loop-number : goal.invariant-loop-number
invariant-loop-number l =
    (name : ProcName) → last_of (map signature_of (drop l.number l.procs)) name l.number (placed l.places name) ≡ last_of (map signature_of l.procs) name 0 None
