-- No cause at the end: the header was read, all bodies have ended, and nothing stands behind the last newline.
use Rattle.std.{proofs.Common.{◌≡◌, [], ◌++◌, sym, ap, subst, ◌∙◌, append-nil}, specs.List.flat_map}
use Rattle.race_text.{specs.Text.ended, proofs.ParseLemmas.no_bytes}
use Rattle.race_script.{specs.{Fault.end_cause, Reader.lines_read, Text.IsTextOf}, proofs.ParseLemmas.end_empty}
use Rattle.race_script.proofs.ReadLemmas.{all_read}
use Rattle.race_script.proofs.reader.ReaderGrammar.whole.Goals as goal

pub into_program-requires-clause-header : goal.into_program-requires-clause-header
into_program-requires-clause-header g c = (all_read c.args.self c.requires.1.stands.0 c.args.last.now (sym c.in-None.ensures)).header

pub into_program-requires-clause-whole : goal.into_program-requires-clause-whole
into_program-requires-clause-whole g c = (all_read c.args.self c.requires.1.stands.0 c.args.last.now (sym c.in-None.ensures)).whole

pub returns-in-None : goal.returns-in-None
returns-in-None g c = λ _ lines these.
    let last = c.args.last.now in
    let known = lines_read c.args.self in
    let all = all_read c.args.self c.requires.1.stands.0 last (sym c.in-None.ensures) in
    let none : last ≡ [] = no_bytes last (end_empty known last (sym c.in-None.ensures)).0 in
    record {
      no_cause = ap (λ ls. end_cause ls last) these.1 ∙ sym c.in-None.ensures;
      text = subst (λ p. IsTextOf p (flat_map ended lines ++ last)) (sym c.into_program.ensures) (record {
        program = all.program;
        printed = (λ i. flat_map ended (these.1 i) ++ none i) ∙ append-nil (flat_map ended known) ∙ all.text;
      });
    }
