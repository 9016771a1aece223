use Rattle.std.proofs.Common.{◌≡◌, drop}
use Rattle.bam_types.specs.Callees.{procedure_in}
use Rattle.bam_verify.specs.Accepts.{broken_entries}
use Rattle.bam_verify.proofs.entries.broken_among.Given as goal

abbrev pub invariant-loop-at : goal.invariant-loop-at
invariant-loop-at l =
    broken_entries (procedure_in l.callees l.code) l.at (drop l.at l.entries) ≡ broken_entries (procedure_in l.callees l.code) 0 l.entries
