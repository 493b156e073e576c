use Rattle.std.proofs.{lemmas.Grind.common_steps, Common.{◌≡◌, ℕ, List, true, Result, Ok, Err, OnOk, MatchResult, sym}}
use Rattle.std.proofs.Common.{ap, subst, ◌∙◌, arith}
use Rattle.race_text.specs.{declared.cause.TextCause.TextCause, Form.first_word, Lines.GoesOn, Owed.owed}
use Rattle.race_script.specs.{Fault.{cause, program_causes}, Form.line_word_in, Reader.{ReadState, draft_read}}
use Rattle.race_script.specs.{Reader.{lines_read, lines_by, IsRead, IsReading, IsReadBy, TakesOrTells}, Text.lines}
use Rattle.race_script.proofs.ReadLemmas.{bad_byte_told, unknown_told}
use Rattle.race_script.proofs.reader.Reader.take_line.Goals as goal

-- behind the header a line goes on behind what was read, or its least cause is told
module _ (s new : ReadState) (header : s.has_header ≡ true) (line : List ℕ) where
  goes_on : (r : Result Unit TextCause) → TakesOrTells s line r new
      → MatchResult r (λ _. GoesOn program_causes (lines_read s) line (lines_read new))
      (λ told. told ≡ owed (cause (lines_read s) line true))
  goes_on (Ok u) takes =
      subst (λ b. GoesOn program_causes (lines_by b (draft_read s)) line (lines_read new)) (sym header)
      (subst (λ b. GoesOn program_causes (lines (draft_read s)) line (lines_by b (draft_read new))) (sym takes.header) takes.goes)
  goes_on (Err told) tells = tells ∙ sym (ap (λ b. owed (cause (lines_by b (draft_read s)) line true)) header)

  reads_on : (r : Result Unit TextCause) → TakesOrTells s line r new → OnOk r (IsReading new)
  reads_on (Ok u) takes = subst (λ b. IsReadBy b new) (sym takes.header) takes.read
  reads_on (Err told) tells = tt

pub returns-then-has_bad_byte-clause-taken : goal.returns-then-has_bad_byte-clause-taken
returns-then-has_bad_byte-clause-taken g c =
    let s = c.args.self.now in
    let header_is : s.has_header ≡ true = ap (λ (x : ReadState). x.has_header) (sym c.self.view_is) ∙ c.if-not-self.false in
    let read : IsRead s = subst (λ b. IsReadBy b s) header_is c.requires in
    sym (ap owed (ap (λ b. cause (lines_by b (draft_read s)) c.args.line.now true) header_is
    ∙ bad_byte_told s read c.args.line.now (sym c.has_bad_byte.ensures ∙ c.if-has_bad_byte.true)))

pub returns-in-None-clause-taken : goal.returns-in-None-clause-taken
returns-in-None-clause-taken g c =
    let s = c.args.self.now in
    let header_is : s.has_header ≡ true = ap (λ (x : ReadState). x.has_header) (sym c.self.view_is) ∙ c.if-not-self.false in
    let read : IsRead s = subst (λ b. IsReadBy b s) header_is c.requires in
    let none = (λ k. line_word_in ((ap (λ (x : ReadState). x.decls.version) (sym c.self.view_is) ∙ sym c.version.ensures) k) (first_word (c.cut_at.ensures k)))
    ∙ sym c.line_word_in.ensures ∙ c.in-None.is in
    sym (ap owed (ap (λ b. cause (lines_by b (draft_read s)) c.args.line.now true) header_is
    ∙ unknown_told s read c.args.line.now (sym c.has_bad_byte.ensures ∙ c.if-has_bad_byte.false) none))

pub take_header-requires-clause-reading : goal.take_header-requires-clause-reading
take_header-requires-clause-reading c = grind (arith, common_steps) steps 300000

pub returns-then-not-self-clause-taken : goal.returns-then-not-self-clause-taken
returns-then-not-self-clause-taken c = grind (arith, common_steps) steps 300000

pub returns-in-Some-clause-taken : goal.returns-in-Some-clause-taken
returns-in-Some-clause-taken g c =
    goes_on c.args.self.now c.take_words.new.self (ap (λ (x : ReadState). x.has_header) (sym c.self.view_is) ∙ c.if-not-self.false)
    c.args.line.now c.take_words.result c.take_words.ensures.taken

pub returns-in-Some-clause-reading : goal.returns-in-Some-clause-reading
returns-in-Some-clause-reading g c =
    reads_on c.args.self.now c.take_words.new.self (ap (λ (x : ReadState). x.has_header) (sym c.self.view_is) ∙ c.if-not-self.false)
    c.args.line.now c.take_words.result c.take_words.ensures.taken
