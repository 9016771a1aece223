use Rattle.rule_code.proofs.CompiledLaws.{compiled_code_runs}
use Rattle.rule_code.proofs.law.compiled_code_runs.Goals as goal

pub returns : goal.returns
returns c = compiled_code_runs
