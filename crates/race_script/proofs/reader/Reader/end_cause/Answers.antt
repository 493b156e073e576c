use Rattle.std.proofs.Common.{◌≡◌, ◌==◌, length, Bool, true, false, sym, ap, refl, ◌∙◌, rules}
use Rattle.race_script.{specs.Reader.ReadState, proofs.HeaderLemmas.{end_at_header, end_of_reader}}
use Rattle.race_script.proofs.reader.Reader.end_cause.Goals as goal

has_header : {s t : ReadState} (b : Bool) → s ≡ t → s.has_header ≡ b → t.has_header ≡ b
has_header b same is = ap (λ (s : ReadState). s.has_header) (sym same) ∙ is

pub returns-in-None : goal.returns-in-None
returns-in-None g c = end_at_header c.args.self.now c.args.last.now _ (has_header false c.self.view_is (let h = c.if-not-self.true in cc)) (sym c.in-None.ensures)

pub returns-in-Some : goal.returns-in-Some
returns-in-Some g c = end_at_header c.args.self.now c.args.last.now _ (has_header false c.self.view_is (let h = c.if-not-self.true in cc)) (sym c.in-Some.ensures)

pub returns-then-not-is_empty : goal.returns-then-not-is_empty
returns-then-not-is_empty g c =
    let some : (length c.args.last.now == 0) ≡ false = search rules in
    end_of_reader c.args.self.now c.args.last.now false _ (has_header true c.self.view_is (let h = c.if-not-self.false in cc)) c.requires some refl

pub returns-then-is_whole : goal.returns-then-is_whole
returns-then-is_whole g c =
    let none : (length c.args.last.now == 0) ≡ true = search rules in
    end_of_reader c.args.self.now c.args.last.now true true (has_header true c.self.view_is (let h = c.if-not-self.false in cc)) c.requires none
    (sym c.is_whole.ensures ∙ c.if-is_whole.true)

pub returns-else-is_whole : goal.returns-else-is_whole
returns-else-is_whole g c =
    let none : (length c.args.last.now == 0) ≡ true = search rules in
    end_of_reader c.args.self.now c.args.last.now true false (has_header true c.self.view_is (let h = c.if-not-self.false in cc)) c.requires none
    (sym c.is_whole.ensures ∙ c.if-is_whole.false)
