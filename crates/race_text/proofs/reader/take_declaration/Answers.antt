use Rattle.std.proofs.Common.{sym, ap, ◌∙◌}
use Rattle.race_text.{specs.{Owed.owed, Taking.{state_of, begun}}, proofs.ReaderLemmas.declaration_answered}
use Rattle.race_text.proofs.TraceLemmas.{cause_behind, bad_byte_is_told}
use Rattle.race_text.proofs.reader.take_declaration.Goals as goal

pub returns-then-has_bad_byte : goal.returns-then-has_bad_byte
returns-then-has_bad_byte g c = sym (ap owed (cause_behind (begun c.args.decls.now) c.args.line.now c.requires
    ∙ bad_byte_is_told c.args.decls.now.version (state_of (begun c.args.decls.now)) c.args.line.now (sym c.has_bad_byte.ensures ∙ c.if-has_bad_byte.true)))

pub returns : goal.returns
returns g c =
    let e = c.read_declaration.ensures in
    declaration_answered c.args.decls.now c.read_declaration.new.decls c.args.line.now c.requires (sym c.has_bad_byte.ensures ∙ c.if-has_bad_byte.false)
    c.read_declaration.result e.other e.refused e.allowed e.ok e.added e.same
