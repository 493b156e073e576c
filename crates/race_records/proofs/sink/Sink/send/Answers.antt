use Rattle.std.proofs.Common.{◌-◌, ◌==◌, not, length, take, drop, ◌∙◌, arith, length-drop, length-take}
use Rattle.race_records.{specs.Devices.{writer_of, sink_failures}, proofs.DeviceLemmas.{Appends-sent, counted-taken}}
use Rattle.race_records.proofs.sink.Sink.send.Goals as goal

pub loop-sent-preserved : goal.loop-sent-preserved
loop-sent-preserved g c =
    let bytes = c.args.bytes.now in
    let sent = c.loop-sent.sent in
    let rest = take (length bytes - sent) (drop sent bytes) in
    let held = g.W.Write.contents in
    record {
      within = let bound = c.in-Ok.ensures.bound in
          omega (arith, bound, length-take (length bytes - sent) (drop sent bytes), length-drop sent bytes, c.loop-sent-test.true);
      out = Appends-sent (held (writer_of c.args.self.now)) (held (writer_of c.loop-sent.self))
          (held (writer_of c.write.new.self)) bytes sent c.in-Ok.taken c.loop-sent.invariant.out c.in-Ok.ensures.bytes;
      calm = c.in-Ok.ensures.failures ∙ counted-taken c.in-Ok.taken (sink_failures c.loop-sent.self) (not (length rest == 0)) c.if-taken-eq0.false
          ∙ c.loop-sent.invariant.calm;
    }
