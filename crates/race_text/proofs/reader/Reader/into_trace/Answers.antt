use Rattle.std.proofs.Common.{sym, subst, ap, ◌∙◌}
use Rattle.race_text.{specs.{Text.HasText, Reader.{IsReading, trace_read}}, proofs.ReaderLemmas.{fresh, read_of}}
use Rattle.race_text.proofs.reader.Reader.into_trace.Goals as goal

pub returns-in-Some-clause-has_text : goal.returns-in-Some-clause-has_text
returns-in-Some-clause-has_text g c =
    let reading = subst (λ b. IsReading b c.args.self.decls c.args.self.trace) c.requires.header c.requires.reading in
    subst HasText (ap (trace_read c.args.self.decls) c.in-Some.is) (read_of c.args.self.decls c.args.self.trace reading).has_text

pub returns-in-None-clause-has_text : goal.returns-in-None-clause-has_text
returns-in-None-clause-has_text g c =
    let reading = subst (λ b. IsReading b c.args.self.decls c.args.self.trace) c.requires.header c.requires.reading in
    let is = fresh c.new.result c.args.self.decls c.new.ensures.decls c.new.ensures.events c.new.ensures.spare in
    subst HasText (ap (trace_read c.args.self.decls) c.in-None.is ∙ sym is) (read_of c.args.self.decls c.args.self.trace reading).has_text
