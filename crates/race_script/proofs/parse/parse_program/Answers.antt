-- A program's text is read as one program alone, and refused for memory alone.
use Rattle.std.proofs.{Common.{sym, ◌∙◌}, lemmas.Result.{IfOk-weaker, IfErr-weaker}}
use Rattle.race_script.proofs.TextFine.{equal_texts, text_is_accepted}
use Rattle.race_script.proofs.parse.parse_program.Goals as goal

pub returns-clause-only : goal.returns-clause-only
returns-clause-only g c =
    IfOk-weaker c.parse_by.result _ _
    (λ program has u is. equal_texts u program is.program has.program (sym is.printed ∙ has.printed)) c.parse_by.ensures.text

pub returns-clause-accepted : goal.returns-clause-accepted
returns-clause-accepted g c = λ is.
    IfErr-weaker c.parse_by.result _ _ (λ told each. text_is_accepted c.args.bytes.now told each is) c.parse_by.ensures.fault
