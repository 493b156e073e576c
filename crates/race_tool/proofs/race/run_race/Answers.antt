use Rattle.race_tool.{specs.Options.picks_asked, proofs.{PromiseLemmas.judges, RaceLemmas.can_be_printed}}
use Rattle.race_tool.proofs.race.run_race.Goals as goal

pub answer-requires-clause-printable : goal.answer-requires-clause-printable
answer-requires-clause-printable g c = λ bytes judged right.
    can_be_printed c.args.run.now.limit (picks_asked c.args.run.now) c.args.check.now.plain bytes judged right.0 right.1

pub returns-clause-judges : goal.returns-clause-judges
returns-clause-judges g c = λ limits.
    judges _ _ _ _ _ _ _ c.args.run.now.limit (picks_asked c.args.run.now) c.args.check.now.plain c.answer.ensures
