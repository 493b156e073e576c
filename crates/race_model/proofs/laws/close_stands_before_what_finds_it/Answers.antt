use Rattle.race_model.proofs.laws.close_stands_before_what_finds_it.Goals as goal
use Rattle.race_model.proofs.ChannelOrder.{close_first}

pub returns : goal.returns
returns c = λ caps legal. close_first caps c.args._events.now legal
