-- The queue is as long as the word says.
use Rattle.std.proofs.Common.{◌∙◌, sym, ap, length}
use Rattle.race_legal.{specs.ReplayState.{ReplayState, queue_in}, proofs.ChannelWords.buffered_is}
use Rattle.race_legal.proofs.replay.Replay.buffered.Goals as goal

pub returns : goal.returns
returns g c declarations past S =
    c.buffered.ensures
    ∙ ap (λ (k : ReplayState). length (queue_in k.channels c.args.chan)) c.self.view_is
    ∙ sym (buffered_is declarations c.args.self.now past S c.args.chan c.requires)
