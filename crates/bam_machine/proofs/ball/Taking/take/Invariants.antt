use Rattle.bam_machine.proofs.ball.Taking.take.Given as goal

abbrev pub decreases-arguments : goal.decreases-arguments
decreases-arguments l = l.left
