use Rattle.std.proofs.Common.{◌≡◌, ◌==◌, length, true, false, sym, ap, ◌∙◌, rules}
use Rattle.race_text.specs.{Fault.end_cause, Reader.{trace_read, lines_read}}
use Rattle.race_text.proofs.ParseLemmas.{end_behind, end_header, end_other}
use Rattle.race_text.proofs.reader.Reader.end_cause.Goals as goal

pub returns-then-is_empty : goal.returns-then-is_empty
returns-then-is_empty g c =
    let empty : (length c.args.last.now == 0) ≡ true = search rules in
    sym (ap (λ b. end_cause (lines_read b c.args.self.now.decls c.args.self.now.trace) c.args.last.now) c.if-self.true
    ∙ end_behind (trace_read c.args.self.now.decls c.args.self.now.trace) c.args.last.now true empty)

pub returns-else-is_empty : goal.returns-else-is_empty
returns-else-is_empty g c =
    let some : (length c.args.last.now == 0) ≡ false = search rules in
    sym (ap (λ b. end_cause (lines_read b c.args.self.now.decls c.args.self.now.trace) c.args.last.now) c.if-self.true
    ∙ end_behind (trace_read c.args.self.now.decls c.args.self.now.trace) c.args.last.now false some)

pub returns-in-Some : goal.returns-in-Some
returns-in-Some g c =
    sym (ap (λ b. end_cause (lines_read b c.args.self.now.decls c.args.self.now.trace) c.args.last.now) c.if-self.false
    ∙ end_header c.args.last.now _ (sym c.in-Some.ensures))

pub returns-in-None : goal.returns-in-None
returns-in-None g c =
    sym (ap (λ b. end_cause (lines_read b c.args.self.now.decls c.args.self.now.trace) c.args.last.now) c.if-self.false
    ∙ end_other c.args.last.now (sym c.in-None.ensures))
