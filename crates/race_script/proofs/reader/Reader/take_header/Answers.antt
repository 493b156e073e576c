use Rattle.std.proofs.Common.{Some, sym, ap, subst, ◌∙◌}
use Rattle.race_records.specs.declared.version.Version.{Version}
use Rattle.race_text.specs.Owed.{owed}
use Rattle.race_script.{specs.Reader.{IsEmpty, IsReadBy}, proofs.{HeaderLemmas.begins, ReadLemmas.{header_read, header_taken, header_told}}}
use Rattle.race_script.proofs.reader.Reader.take_header.Goals as goal

pub returns-in-None-clause-taken : goal.returns-in-None-clause-taken
returns-in-None-clause-taken g c = sym (ap owed (header_told c.args.line.now (sym c.in-None.ensures)))

pub returns-in-Some-One : goal.returns-in-Some-One
returns-in-Some-One g c =
    let empty = subst IsEmpty (sym c.self.view_is) (subst (λ b. IsReadBy b c.args.self.now) c.requires.header c.requires.reading) in
    let begun = begins _ Version.One _ empty empty.decls in
    record {
      taken = header_taken _ Version.One begun c.args.line.now (sym c.in-Some-One.ensures ∙ ap Some c.in-Some-One.field-0-is);
      reading = header_read _ Version.One begun;
    }

pub returns-in-Some-Two : goal.returns-in-Some-Two
returns-in-Some-Two g c =
    let empty = subst IsEmpty (sym c.self.view_is) (subst (λ b. IsReadBy b c.args.self.now) c.requires.header c.requires.reading) in
    let new = c.keyed.ensures in
    let begun = begins _ Version.Two c.keyed.result empty
    (λ i. record { version = new.version i; declarations = new.declarations i; places = new.places i }) in
    record {
      taken = header_taken _ Version.Two begun c.args.line.now (sym c.in-Some-Two.ensures ∙ ap Some c.in-Some-Two.field-0-is);
      reading = header_read _ Version.Two begun;
    }
