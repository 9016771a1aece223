use Rattle.machine_terms.proofs.evaluate.resume.Given as goal

abbrev pub decreases-waiting : goal.decreases-waiting
decreases-waiting l = l.at
