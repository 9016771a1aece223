-- What contracts see of a scope.
use Rattle.bam_types.specs.declared.scope.Scope.{Scope}
use Rattle.bam_types.specs.Callees.{callee_in}
use Rattle.bam_types.specs.Labels.{Within}

abbrev pub within_of : Scope → Within
within_of scope = record {
  pool = scope.code.now.pool;
  callee = callee_in scope.callees.now scope.code.now;
  signature = scope.signature.now;
  lines = scope.lines.now;
  labels = scope.labels.now;
}
