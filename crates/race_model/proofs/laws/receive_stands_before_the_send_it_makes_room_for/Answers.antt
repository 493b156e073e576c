use Rattle.race_model.proofs.laws.receive_stands_before_the_send_it_makes_room_for.Goals as goal
use Rattle.race_model.proofs.ChannelOrder.{receive_first}

pub returns : goal.returns
returns c = λ caps legal. receive_first caps c.args._events.now legal
