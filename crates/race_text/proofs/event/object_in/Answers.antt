use Rattle.std.{proofs.Common.{take, sym, ap, ◌∙◌}, specs.Result.result_ok}
use Rattle.race_text.proofs.{FoundLemmas.found_is_declared, UsedNames.named_by_found}
use Rattle.race_text.proofs.event.object_in.Goals as goal

pub is_wanted-requires : goal.is_wanted-requires
is_wanted-requires g c = found_is_declared c.args.decls.now.declarations (take c.args.len c.args.bytes.now) c.in-Some.named (sym c.in-Some.ensures)

pub returns-then-is_wanted : goal.returns-then-is_wanted
returns-then-is_wanted g c =
    sym (ap result_ok (named_by_found c.args.decls.now c.args.kind (take c.args.len c.args.bytes.now) c.in-Some.named c.requires.decls
    (sym c.in-Some.ensures) (sym c.is_wanted.ensures ∙ c.if-is_wanted.true)))
