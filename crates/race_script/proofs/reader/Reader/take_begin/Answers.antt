use Rattle.std.proofs.Common.{◌≡◌, Some, None, true, is_some, sym, ap, subst, refl, ◌∙◌, if◌then◌else◌}
use Rattle.race_text.specs.{declared.cause.TextCause.TextCause, Owed.owed, Words.parts_left}
use Rattle.race_script.specs.{Fault.words_cause, Form.begin_fields, Reader.{ReadState, TakesSaid}, Reading.begun_in, Text.Begins}
use Rattle.race_script.proofs.{ReadLemmas.{begin_told, said_told, said_taken}, SaidLines.{begun_is_there, is_begun}}
use Rattle.race_script.proofs.{LineLemmas.begins_line, TakingLemmas.begin_taken}
use Rattle.race_script.proofs.reader.Reader.take_begin.Goals as goal

pub returns-in-Some : goal.returns-in-Some
returns-in-Some g c = record {
  taken =
      let s = c.args.self.now in
      let words = parts_left 32 c.args.rest in
      sym (ap owed (begin_told s c.requires.read c.args.line.now words c.in-Some.cause c.requires.words
      (ap (λ (x : ReadState). words_cause x.decls.declarations begin_fields words) (sym c.self.view_is) ∙ sym c.words_cause.ensures ∙ c.in-Some.is)));
}

pub unwrap-goroutine-requires : goal.unwrap-goroutine-requires
unwrap-goroutine-requires g c =
    let words = parts_left 32 c.args.rest in
    let there = begun_is_there c.self.inside.decls.declarations words (sym c.words_cause.ensures ∙ c.in_default.is) in
    subst (λ o. is_some o ≡ true) (sym (c.begun_in.ensures ∙ there.1)) refl

pub returns-then-not-may_begin : goal.returns-then-not-may_begin
returns-then-not-may_begin g c = record {
  taken =
      let s = c.args.self.now in
      let words = parts_left 32 c.args.rest in
      let begun = ap (λ (x : ReadState). begun_in x.decls.declarations words) (sym c.self.view_is) ∙ sym c.begun_in.ensures ∙ c.unwrap-goroutine.ensures in
      sym (ap owed (said_told s c.requires.read c.args.line.now (Begins c.unwrap-goroutine.result) TextCause.BadBlock
      (begins_line s.decls c.requires.read.sound.well_formed c.args.line.now words c.unwrap-goroutine.result c.requires.words begun)
      (ap (λ b. if b then None else Some TextCause.BadBlock) (sym c.may_begin.ensures ∙ c.if-not-may_begin.true))));
}

pub returns : goal.returns
returns g c =
    let s = c.args.self.now in
    let words = parts_left 32 c.args.rest in
    let begun = ap (λ (x : ReadState). begun_in x.decls.declarations words) (sym c.self.view_is) ∙ sym c.begun_in.ensures ∙ c.unwrap-goroutine.ensures in
    let e = c.new.ensures in
    record {
      taken = said_taken s c.requires.read c.args.line.now (Begins c.unwrap-goroutine.result) _
          (begins_line s.decls c.requires.read.sound.well_formed c.args.line.now words c.unwrap-goroutine.result c.requires.words begun)
          (subst (TakesSaid s (Begins c.unwrap-goroutine.result)) (λ k. record {
            has_header = sym (ap (λ (x : ReadState). x.has_header) c.self.view_is ∙ c.requires.header) k;
            decls = (sym c.self.view_is k).decls;
            ended = (sym c.self.view_is k).ended;
            unended = Some (record { requests = sym e.requests k; onces = sym e.onces k });
          }) (begin_taken s c.requires.read.sound c.unwrap-goroutine.result
          (is_begun s.decls c.requires.read.sound.well_formed words c.unwrap-goroutine.result begun).less
          (sym c.may_begin.ensures ∙ c.if-not-may_begin.false)));
    }
