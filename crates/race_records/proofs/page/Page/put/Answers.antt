use Rattle.std.proofs.{Common.arith, lemmas.Grind.common_steps}
use Rattle.race_records.proofs.PageLemmas.{cut_off_more}
use Rattle.race_records.proofs.page.Page.put.Goals as goal

pub returns-in-Err : goal.returns-in-Err
returns-in-Err g c = record {
  ok = tt;
  sent = λ start text printed. cut_off_more start (g.W.Write.contents c.flush.new.sink.writer)
      c.in-Err.fault.sent text c.args.bytes.now (c.in-Err.ensures.sent start text printed);
  calm = tt;
  failed = c.in-Err.ensures.failed;
  waits = grind (arith, common_steps);
}
