use Rattle.std.{proofs.Common.{sym, subst, ap, ◌∙◌, Some}, specs.List.slice_get}
use Rattle.race_records.specs.Declarations.{IsWellFormed}
use Rattle.race_text.proofs.GuessLemmas.{adds_nothing, number_is}
use Rattle.race_text.proofs.taking.add_met.Goals as goal

pub returns-in-Some-clause-number : goal.returns-in-Some-clause-number
returns-in-Some-clause-number g c =
    let at = (λ i. slice_get (sym c.decls.ensures.decls i).places c.in-Some.number) ∙ c.in-Some.ensures ∙ ap Some c.as_text.ensures in
    sym (number_is c.args.trace.now.decls c.in-Some.number c.args.place.now (subst IsWellFormed c.decls.ensures.decls c.decls.ensures.well_formed) at)

pub returns-in-Some-clause-decls : goal.returns-in-Some-clause-decls
returns-in-Some-clause-decls g c =
    let at = (λ i. slice_get (sym c.decls.ensures.decls i).places c.in-Some.number) ∙ c.in-Some.ensures ∙ ap Some c.as_text.ensures in
    sym (adds_nothing c.args.trace.now.decls c.in-Some.number c.args.place.now at)
