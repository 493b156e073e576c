-- What is told of what was judged and of what was read.
use Rattle.race_text.specs.Stream.{StandsFor}
use Rattle.race_tool.proofs.IntakeLemmas.{judged_beside, refused_before, told_all, told_beside}
use Rattle.race_tool.proofs.intake.read_next.Goals as goal

pub returns-in-Ok-clause-judges : goal.returns-in-Ok-clause-judges
returns-in-Ok-clause-judges g c = told_all c.in-Ok.ensures c.read_on.result

pub returns-in-Err-clause-reads : goal.returns-in-Err-clause-reads
returns-in-Err-clause-reads g c = refused_before g.R.Read.remaining c.args.source.now c.args.intake.now

pub returns-clause-reads : goal.returns-clause-reads
returns-clause-reads g c = record {
  each = λ k was.
      let both = c.judge_and_read-judged in
      let told = c.first_told.ensures in
      told_beside g.R.Read.remaining (StandsFor k) c.args.source.now both.new.source c.args.intake.now both.new.intake
      both.result.0 both.result.1 c.first_told.result told.refused told.judged told.fault told.stopped (both.ensures.reads.each k was);
}

pub returns-clause-judges : goal.returns-clause-judges
returns-clause-judges g c =
    let both = c.judge_and_read-judged in
    let told = c.first_told.ensures in
    judged_beside _ both.result.0 both.ensures.judges both.result.1 c.first_told.result told.refused told.fault told.stopped
