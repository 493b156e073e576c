-- No cause at the end: the header was read, and nothing stands behind the last newline.
use Rattle.std.{proofs.Common.{◌≡◌, [], ◌++◌, sym, ap, ◌∙◌, append-nil}, specs.List.flat_map}
use Rattle.race_text.specs.{Text.{text, ended}, Fault.end_cause, Reader.lines_read}
use Rattle.race_text.proofs.ParseLemmas.{end_empty, header_before_end, no_bytes}
use Rattle.race_text.proofs.reader.ReaderGrammar.whole.Goals as goal

pub into_trace-requires-clause-header : goal.into_trace-requires-clause-header
into_trace-requires-clause-header g c =
    header_before_end c.args.self.has_header c.args.self.decls c.args.self.trace c.args.last.now (sym c.in-None.ensures)

pub returns-in-None : goal.returns-in-None
unfolding text
returns-in-None g c = λ _ lines these.
    let known = lines_read c.args.self.has_header c.args.self.decls c.args.self.trace in
    let none : c.args.last.now ≡ [] = no_bytes c.args.last.now (end_empty known c.args.last.now (sym c.in-None.ensures)).0 in
    record {
      no_cause = ap (λ ls. end_cause ls c.args.last.now) these.1 ∙ sym c.in-None.ensures;
      text = record {
        has_text = c.into_trace.ensures.has_text;
        printed = (λ i. flat_map ended (these.1 i) ++ none i) ∙ append-nil (flat_map ended known) ∙ ap (flat_map ended) (sym c.into_trace.ensures.lines);
      };
    }
