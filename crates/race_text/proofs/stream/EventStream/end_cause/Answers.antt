use Rattle.std.proofs.Common.{sym, ap, ◌∙◌}
use Rattle.race_text.{specs.Fault.end_cause, proofs.StreamLemmas.{end_same, text_at_end}}
use Rattle.race_text.proofs.stream.EventStream.end_cause.Goals as goal

pub returns-clause-cause : goal.returns-clause-cause
returns-clause-cause g c = λ past lines S.
    let s = c.args.self.now in
    c.end_cause.ensures ∙ end_same s.reader.has_header s.reader.decls past s.reader.trace c.args.last.now
    ∙ ap (λ ls. end_cause ls c.args.last.now) (sym S.lines_are)

pub returns-clause-text : goal.returns-clause-text
returns-clause-text g c = text_at_end c.args.self.now c.args.last.now
