use Rattle.std.proofs.Common.{Bool, true, false, sym, subst}
use Rattle.race_report.proofs.PrintableLemmas.{races_are_of}
use Rattle.race_tool.specs.Finding.{Checks}
use Rattle.race_tool.proofs.{EngineLemmas.answers_as, PromiseLemmas.checks, StreamedAnswers.{stands_judged, stands_noted}}
use Rattle.race_tool.proofs.check.run_check.Goals as goal

pub answer-requires-clause-printable : goal.answer-requires-clause-printable
answer-requires-clause-printable g c = λ bytes judged right.
    races_are_of judged.trace judged.verdict right.0.has_text.is_trace right.2

pub returns-then-options-clause-checks : goal.returns-then-options-clause-checks
returns-then-options-clause-checks g c = λ limits.
    subst (λ (plain : Bool). Checks plain g.R.Read.remaining g.W.Write.contents c.args.source.now c.answer.new.source c.args.sink.now c.answer.new.sink c.answer.result)
    (sym c.if-options.true)
    (checks _ _ _ _ _ _ _ true (answers_as _ _ _ _ _ _ _ _ _ _ _ _ _ _ _ stands_judged c.answer.ensures))

pub returns-clause-checks : goal.returns-clause-checks
returns-clause-checks g c = λ limits.
    subst (λ (plain : Bool). Checks plain g.R.Read.remaining g.W.Write.contents c.args.source.now c.check_as_read.new.source c.args.sink.now c.check_as_read.new.sink
    c.check_as_read.result) (sym c.if-options.false)
    (checks _ _ _ _ _ _ _ false (answers_as _ _ _ _ _ _ _ _ _ _ _ _ _ _ _ stands_noted c.check_as_read.ensures))
