use Rattle.bam_meaning.proofs.FinishedLaws.{each_run_finishes, runs_finish_once}
use Rattle.bam_meaning.proofs.laws.limited_runs_finish.Goals as goal

pub returns-clause-finishes : goal.returns-clause-finishes
returns-clause-finishes c = each_run_finishes

pub returns-clause-once : goal.returns-clause-once
returns-clause-once c = runs_finish_once
