use Rattle.std.proofs.Common.{rules}
use Rattle.race_script.proofs.course.Course.stand_alike.Goals as goal

pub returns : goal.returns
returns g c = search rules steps 100000
