use Rattle.race_model.proofs.laws.send_stands_before_its_receive.Goals as goal
use Rattle.race_model.proofs.ChannelOrder.{send_first}

pub returns : goal.returns
returns c = λ caps legal. send_first caps c.args._events.now legal
