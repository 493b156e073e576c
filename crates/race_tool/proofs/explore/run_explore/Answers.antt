use Rattle.race_tool.proofs.ExploreLemmas.{explores}
use Rattle.race_tool.proofs.explore.run_explore.Goals as goal

pub answer-requires-clause-printable : goal.answer-requires-clause-printable
answer-requires-clause-printable g c = λ bytes found right. tt

pub returns-clause-explores : goal.returns-clause-explores
returns-clause-explores g c = λ limits. explores c.args.options.now _ _ _ _ _ _ _ c.answer.ensures
