use Rattle.std.proofs.Common.{◌≡◌, Some, is_some, sym, ap, ◌∙◌, option_map}
use Rattle.race_records.specs.Equality.{declared}
use Rattle.race_text.{specs.{Owed.owed, Words.parts_left}, proofs.CauseLemmas.map_some}
use Rattle.race_script.specs.{Fault.words_cause, Form.{on_nil, ask_fields}, Program.Instruction}
use Rattle.race_script.{specs.{Reading.{asked_read, asked_in}, Text.Asks}, proofs.ReadLemmas.{asks_told, said_answered}}
use Rattle.race_script.proofs.{SaidLines.asked_is_there, LineLemmas.{IsSaidLine, asks_line}}
use Rattle.race_script.proofs.reader.Reader.take_asks.Goals as goal

-- what was read, of the declarations that the caller sees
module _ (g : _) (c : goal.After-add-arg-1 g) where
  abbrev asked : Instruction
  asked = asked_read c.unwrap-ask.result

  read : asked_in c.args.self.now.decls.declarations (on_nil c.args.word (parts_left 32 c.args.rest)).0
      (on_nil c.args.word (parts_left 32 c.args.rest)).1 ≡ Some asked
  read =
      (λ k. asked_in (sym c.self.view_is k).decls.declarations (sym c.on_nil-word.ensures k).0 (sym c.on_nil-word.ensures k).1)
      ∙ sym c.asked_in.ensures ∙ ap (option_map asked_read) c.unwrap-ask.ensures

  line_says : IsSaidLine (declared c.args.self.now.decls) c.args.line.now (Asks asked)
  line_says =
      asks_line c.args.self.now.decls c.requires.read.sound.well_formed c.args.line.now c.args.word (parts_left 32 c.args.rest)
      asked c.requires.words read

pub returns-in-Some : goal.returns-in-Some
returns-in-Some g c = record {
  taken = sym (ap owed (asks_told c.args.self.now c.requires.read c.args.line.now c.args.word (parts_left 32 c.args.rest) c.in-Some.cause c.requires.words
      ((λ k. words_cause (sym c.self.view_is k).decls.declarations (ask_fields (sym c.on_nil-word.ensures k).0) (sym c.on_nil-word.ensures k).1)
      ∙ (λ k. words_cause c.self.inside.decls.declarations
      (sym (c.as_slice.ensures.value ∙ c.ask_fields-fields.ensures) k) (parts_left 32 c.on_nil-word.result.1))
      ∙ sym c.words_cause.ensures ∙ c.in-Some.is)));
}

pub unwrap-ask-requires : goal.unwrap-ask-requires
unwrap-ask-requires g c =
    let words = parts_left 32 c.on_nil-word.result.1 in
    let ds = c.self.inside.decls.declarations in
    let none = (λ k. words_cause ds (sym (c.as_slice.ensures.value ∙ c.ask_fields-fields.ensures) k) words) ∙ sym c.words_cause.ensures ∙ c.in_default.is in
    let there = asked_is_there ds c.on_nil-word.result.0 words none in
    ap is_some (map_some asked_read c.asked_in.result there.0 (c.asked_in.ensures ∙ there.1)).1

pub add-requires-clause-known : goal.add-requires-clause-known
add-requires-clause-known g c = (line_says g c).fits.2

pub add-requires-clause-fits : goal.add-requires-clause-fits
add-requires-clause-fits g c = (line_says g c).fits.0

pub add-requires-clause-form : goal.add-requires-clause-form
add-requires-clause-form g c = (line_says g c).fits.1

pub returns : goal.returns
returns g c =
    let s = c.args.self.now in
    let words = parts_left 32 c.args.rest in
    let read = (λ k. asked_in (sym c.self.view_is k).decls.declarations (sym c.on_nil-word.ensures k).0 (sym c.on_nil-word.ensures k).1)
    ∙ sym c.asked_in.ensures ∙ ap (option_map asked_read) c.unwrap-ask.ensures in
    let line = asks_line s.decls c.requires.read.sound.well_formed c.args.line.now c.args.word words (asked_read c.unwrap-ask.result) c.requires.words read in
    record { taken = said_answered s c.requires.read c.args.line.now (Asks (asked_read c.unwrap-ask.result)) c.add.result c.add.new.self line c.add.ensures }
