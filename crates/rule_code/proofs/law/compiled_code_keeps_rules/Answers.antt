use Rattle.rule_code.proofs.CompiledLaws.{compiled_code_has_entry, compiled_code_keeps_rules}
use Rattle.rule_code.proofs.law.compiled_code_keeps_rules.Goals as goal

pub returns-clause-entry : goal.returns-clause-entry
returns-clause-entry c = compiled_code_has_entry

pub returns-clause-keeps : goal.returns-clause-keeps
returns-clause-keeps c = compiled_code_keeps_rules
