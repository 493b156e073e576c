use Rattle.std.proofs.Common.{◌<◌, sym, subst}
use Rattle.race_records.specs.{declared.kind.Kind.Kind, Declarations.{DeclsState, count_of, counts_of}}
use Rattle.race_legal.proofs.RangeLemmas.{range_from_fits}
use Rattle.race_verdict.proofs.RangeLemmas.{accessed_in_range}
use Rattle.race_report.proofs.witness_lines.line_words.Goals as goal

pub name-requires : goal.name-requires
name-requires g c =
    let event = c.event-event.result.now in
    subst (λ (d : DeclsState). event.who < count_of Kind.Goroutine d.declarations) (sym c.decls.ensures.decls)
    (range_from_fits c.args.trace.now.decls event c.event-event.ensures.fits).0

pub accessed_name-requires : goal.accessed_name-requires
accessed_name-requires g c =
    let event = c.event-event.result.now in
    accessed_in_range (counts_of c.args.trace.now.decls.declarations) event.op (range_from_fits c.args.trace.now.decls event c.event-event.ensures.fits).1
