use Rattle.std.proofs.Common.{◌≡◌, sym, subst, ap, ◌∙◌, Some}
use Rattle.race_records.specs.declared.version.Version.{Version}
use Rattle.race_text.specs.{Owed.owed, Reader.{nothing_in, IsReading}}
use Rattle.race_text.proofs.ReaderLemmas.{header_told, header_taken, header_reading}
use Rattle.race_text.proofs.reader.Reader.take_header.Goals as goal

pub returns-in-None-clause-taken : goal.returns-in-None-clause-taken
returns-in-None-clause-taken g c = sym (ap owed (header_told c.args.line.now (sym c.in-None.ensures)))

pub returns-in-Some-One : goal.returns-in-Some-One
returns-in-Some-One g c =
    let reading = subst (λ b. IsReading b c.args.self.now.decls c.args.self.now.trace) c.requires.header c.requires.reading in
    record {
      taken = header_taken Version.One c.args.self.now.decls c.args.self.now.trace reading.0 reading.1 c.args.line.now
          (sym c.in-Some-One.ensures ∙ ap Some c.in-Some-One.field-0-is);
      reading = header_reading Version.One c.args.self.now.decls c.args.self.now.trace reading.0 reading.1;
    }

pub returns-in-Some-Two : goal.returns-in-Some-Two
returns-in-Some-Two g c =
    let reading = subst (λ b. IsReading b c.args.self.now.decls c.args.self.now.trace) c.requires.header c.requires.reading in
    let new = c.keyed.ensures in
    let nothing : c.keyed.result ≡ nothing_in Version.Two =
    λ i. record { version = new.version i; declarations = new.declarations i; places = new.places i } in
    record {
      taken = header_taken Version.Two c.keyed.result c.args.self.now.trace nothing reading.1 c.args.line.now
          (sym c.in-Some-Two.ensures ∙ ap Some c.in-Some-Two.field-0-is);
      reading = header_reading Version.Two c.keyed.result c.args.self.now.trace nothing reading.1;
    }
