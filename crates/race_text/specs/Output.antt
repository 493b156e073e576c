-- How a text was written.
use Rattle.std.specs.{Prelude.{◌≡◌, ℕ, List, Option, Result, OnOk, OnErr, IfErr}, Bool.⊤, Io.KnownBytes.Appends}
use Rattle.race_records.specs.declared.sink.{Sink.Sink, WriteFault.WriteFault}
use Rattle.race_records.specs.{Devices.{written, sink_failures, one_more}, Page.IsCutOff}

-- how a call ended that was to write the text: all of it is out and no write failed, or a write failed and only a front is out, whose length
-- the fault tells
pub record Writes {W : Type 0} (contents : W → Option (List ℕ)) (result : Result ⊤ WriteFault) (sink sink_now : Sink W) (text : List ℕ) : Type 0 where
  pub ok : OnOk result (Appends (written contents sink) (written contents sink_now) text)
  pub sent : IfErr result (λ fault. IsCutOff (written contents sink) (written contents sink_now) fault.sent text)
  pub calm : OnOk result (sink_failures sink_now ≡ sink_failures sink)
  pub failed : OnErr result (sink_failures sink_now ≡ one_more (sink_failures sink))
