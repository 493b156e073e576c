use Rattle.std.proofs.Common.{◌≡◌, ◌<◌, vec_len}
use Rattle.race_records.specs.Devices.{unread, source_reads, source_failures, more_by}
use Rattle.race_tool.specs.Input.{HasRead, IsRoom}
use Rattle.race_text.specs.Fed.{IsFed as Stands, IsReady}
use Rattle.race_tool.proofs.input.read_kept.Given as goal

-- the blocks so far were fed and kept, one read a turn, and no read failed
abbrev pub invariant-loop : goal.invariant-loop
invariant-loop g l = record {
  fed : HasRead g.G.Grammar.causes (unread g.R.Read.remaining l.initial.source) (unread g.R.Read.remaining l.source)
      (Stands g.G.Grammar.causes (g.G.Grammar.stands_for g.G.Grammar.at_start) l.reader) l.counter;
  kept : g.K.Keeper.has_kept l.keeper fed.bytes;
  first : l.counter ≡ 0 → source_reads l.source ≡ source_reads l.initial.source;
  reads : 0 < l.counter → source_reads l.source ≡ more_by l.counter (source_reads l.initial.source);
  calm : source_failures l.source ≡ source_failures l.initial.source;
  room : IsRoom (vec_len l.block);
  ready : IsReady (g.G.Grammar.stands_for g.G.Grammar.at_start) l.reader;
}
