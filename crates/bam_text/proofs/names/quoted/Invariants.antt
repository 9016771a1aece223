use Rattle.std.proofs.Common.{◌<◌, length}
use Rattle.bam_text.proofs.names.quoted.Given as goal

abbrev pub invariant-loop-text : goal.invariant-loop-text
invariant-loop-text l = length l.fields < length l.fn.fields

abbrev pub decreases-loop-text : goal.decreases-loop-text
decreases-loop-text l = length l.fields
