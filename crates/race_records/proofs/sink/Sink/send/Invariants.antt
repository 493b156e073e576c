use Rattle.std.{proofs.Common.{◌≡◌, ◌-◌, ◌≤◌, length, take}, specs.Io.KnownBytes.Appends}
use Rattle.race_records.specs.Devices.{writer_of, sink_failures}
use Rattle.race_records.proofs.sink.Sink.send.Given as goal

-- the bytes before `sent` are out, and no write has failed
abbrev pub invariant-loop-sent : goal.invariant-loop-sent
invariant-loop-sent g l = record {
  within : l.sent ≤ length l.bytes;
  out : Appends (g.W.Write.contents (writer_of l.initial.self)) (g.W.Write.contents (writer_of l.self)) (take l.sent l.bytes);
  calm : sink_failures l.self ≡ sink_failures l.initial.self;
}

abbrev pub decreases-loop-sent : goal.decreases-loop-sent
decreases-loop-sent g l = length l.bytes - l.sent
