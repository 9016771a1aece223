use Rattle.rule_code.proofs.KeepsRules.{code_keeps_rules}
use Rattle.rule_code.proofs.law.code_keeps_rules.Goals as goal

pub returns : goal.returns
returns c = code_keeps_rules
