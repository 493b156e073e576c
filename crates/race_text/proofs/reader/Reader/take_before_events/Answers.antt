use Rattle.std.proofs.{Common.{sym, subst, ◌∙◌, true, arith}, lemmas.Grind.common_steps}
use Rattle.race_text.specs.{Owed.owed, Taking.IsRead, Text.lines, Fault.cause}
use Rattle.race_text.proofs.ReaderLemmas.{not_declared, fresh}
use Rattle.race_text.proofs.reader.Reader.take_before_events.Goals as goal

pub returns-in-Err-take_event-clause-taken : goal.returns-in-Err-take_event-clause-taken
returns-in-Err-take_event-clause-taken g c =
    let same = not_declared c.args.self.now.decls c.take_declaration.new.decls c.args.line.now c.in-Ok.added c.in-Ok.ensures c.if-added.false in
    let is = fresh c.new-trace.result c.args.self.now.decls
    (c.new-trace.ensures.decls ∙ c.replace.ensures.value ∙ same) c.new-trace.ensures.events c.new-trace.ensures.spare in
    c.in-Err-take_event.ensures.taken ∙ (λ i. owed (cause (lines (is i)) c.args.line.now true))

pub take_event-requires-clause-read : goal.take_event-requires-clause-read
take_event-requires-clause-read g c =
    let same = not_declared c.args.self.now.decls c.take_declaration.new.decls c.args.line.now c.in-Ok.added c.in-Ok.ensures c.if-added.false in
    subst IsRead (sym (fresh c.new-trace.result c.args.self.now.decls
    (c.new-trace.ensures.decls ∙ c.replace.ensures.value ∙ same) c.new-trace.ensures.events c.new-trace.ensures.spare)) c.requires.read

pub returns-in-Ok-take_event-clause-reading : goal.returns-in-Ok-take_event-clause-reading
returns-in-Ok-take_event-clause-reading c = grind (arith, common_steps) steps 2000000

pub returns-in-Ok-take_event-clause-taken : goal.returns-in-Ok-take_event-clause-taken
returns-in-Ok-take_event-clause-taken c = grind (arith, common_steps) steps 2000000

pub returns-then-added-clause-reading : goal.returns-then-added-clause-reading
returns-then-added-clause-reading c = grind (arith, common_steps) steps 2000000
