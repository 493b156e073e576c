use Rattle.std.proofs.Common.{rules}
use Rattle.race_requests.proofs.board.stands_in.Goals as goal

pub returns-then-choice-gt0 : goal.returns-then-choice-gt0
returns-then-choice-gt0 c = search rules steps 300000
