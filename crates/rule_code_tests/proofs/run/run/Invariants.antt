use Rattle.rule_code_tests.proofs.run.run.Given as goal

abbrev pub ghosts-to_end : goal.ghosts-to_end
ghosts-to_end a = record { name = a.blank.name; parts = a.blank.parts }
