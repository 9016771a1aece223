use Rattle.std.proofs.Common.{◌+◌, ◌*◌}
use Rattle.made_programs.proofs.body.+body.Given as goal

abbrev pub decreases-put_body : goal.decreases-put_body
decreases-put_body l = 3 * l.depth + 1

abbrev pub decreases-put_step : goal.decreases-put_step
decreases-put_step l = 3 * l.depth

abbrev pub decreases-put_catch : goal.decreases-put_catch
decreases-put_catch l = 3 * l.depth + 2

abbrev pub decreases-put_parts : goal.decreases-put_parts
decreases-put_parts l = 3 * l.depth + 2
