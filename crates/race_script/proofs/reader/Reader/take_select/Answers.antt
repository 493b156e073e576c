use Rattle.std.{proofs.Common.{sym, ap, ◌∙◌}, specs.Result.result_err}
use Rattle.race_records.specs.Equality.{declared}
use Rattle.race_text.specs.{Owed.owed, Words.parts_left}
use Rattle.race_script.specs.{Program.Instruction, Reading.{asked_at, selected_in}, Text.Asks}
use Rattle.race_script.proofs.{ReadLemmas.{selects_told, said_answered}, LineLemmas.{IsSaidLine, selects_line}}
use Rattle.race_script.proofs.reader.Reader.take_select.Goals.{In-Ok}
use Rattle.race_script.proofs.reader.Reader.take_select.Goals as goal

pub returns-in-Err : goal.returns-in-Err
returns-in-Err g c =
    let told = (λ k. selected_in (sym c.self.view_is k).decls.declarations (sym c.select_words.ensures k)) ∙ sym c.in-Err.ensures in
    let words = parts_left 32 c.args.rest in
    record { taken = sym (ap owed (selects_told c.args.self.now c.requires.read c.args.line.now words c.in-Err.cause c.requires.words (ap result_err told))) }

-- what was read, of the declarations that the caller sees
module _ (g : _) (c : goal.In-Ok g) where
  abbrev asked : Instruction
  asked = asked_at c.in-Ok.ask c.in-Ok.place.now

  line_says : IsSaidLine (declared c.args.self.now.decls) c.args.line.now (Asks asked)
  line_says =
      selects_line c.args.self.now.decls c.requires.read.sound.well_formed c.args.line.now (parts_left 32 c.args.rest) asked c.requires.words
      ((λ k. selected_in (sym c.self.view_is k).decls.declarations (sym c.select_words.ensures k)) ∙ sym c.in-Ok.ensures)

pub add-requires-clause-known : goal.add-requires-clause-known
add-requires-clause-known g c = (line_says g (goal.at.add-requires-clause-known g c).In-Ok).fits.2

pub add-requires-clause-fits : goal.add-requires-clause-fits
add-requires-clause-fits g c = (line_says g (goal.at.add-requires-clause-fits g c).In-Ok).fits.0

pub add-requires-clause-form : goal.add-requires-clause-form
add-requires-clause-form g c = (line_says g (goal.at.add-requires-clause-form g c).In-Ok).fits.1

pub returns-in-Ok : goal.returns-in-Ok
returns-in-Ok g c =
    let line = line_says g (goal.at.returns-in-Ok g c).In-Ok in
    record { taken = said_answered c.args.self.now c.requires.read c.args.line.now _ c.add.result c.add.new.self line c.add.ensures }
