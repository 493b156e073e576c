use Rattle.std.proofs.Common.{List, ◌+◌, ◌∷◌, [], length, ap, ◌∙◌, length-append}
use Rattle.race_records.specs.Declarations.{capacity_of}
use Rattle.race_clock.{specs.ClocksState.{ChannelState, channel_of, first_channel}, proofs.Opening.each_more}
use Rattle.race_clock.proofs.clocks.first_channels.Goals as goal

pub loop-chan-preserved : goal.loop-chan-preserved
loop-chan-preserved g c = record {
  len = ap length c.in_ok-push.ensures.items ∙ length-append c.loop-chan.channels.items (c.new.result ∷ []) ∙ ap (λ n. n + 1) c.loop-chan.invariant.len;
  each = λ d less.
      ap (λ (channels : List ChannelState). channel_of channels d) c.in_ok-push.ensures.items
      ∙ each_more c.loop-chan.channels.items
      (λ d. first_channel (capacity_of c.args.decls.now.declarations d)) c.loop-chan.chan c.new.result c.loop-chan.invariant.len c.loop-chan.invariant.each
      (c.new.ensures ∙ ap first_channel c.capacity.ensures) d less;
}
