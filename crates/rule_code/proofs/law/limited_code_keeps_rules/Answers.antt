use Rattle.rule_code.proofs.LimitedKeepsRules.{limited_code_keeps_rules}
use Rattle.rule_code.proofs.law.limited_code_keeps_rules.Goals as goal

pub returns : goal.returns
returns c = limited_code_keeps_rules
