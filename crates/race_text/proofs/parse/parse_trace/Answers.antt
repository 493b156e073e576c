-- A trace's text is read as one trace alone, and refused for memory alone.
use Rattle.std.proofs.{Common.{sym, ◌∙◌}, lemmas.Result.{IfOk-weaker, IfErr-weaker}}
use Rattle.race_text.proofs.{TextFine.text_is_accepted, TextLaws.equal_texts}
use Rattle.race_text.proofs.parse.parse_trace.Goals as goal

pub returns-clause-only : goal.returns-clause-only
returns-clause-only g c =
    IfOk-weaker c.parse_by.result _ _
    (λ trace has u is. equal_texts u trace is.has_text has.has_text (sym is.printed ∙ has.printed)) c.parse_by.ensures.text

pub returns-clause-accepted : goal.returns-clause-accepted
returns-clause-accepted g c = λ is.
    IfErr-weaker c.parse_by.result _ _ (λ told each. text_is_accepted c.args.bytes.now told each is) c.parse_by.ensures.fault
