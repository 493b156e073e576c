use Rattle.std.proofs.Common.{◌<◌, sym, subst}
use Rattle.race_records.specs.{declared.kind.Kind.Kind, Declarations.{DeclsState, count_of}}
use Rattle.race_legal.proofs.RangeLemmas.{range_from_fits}
use Rattle.race_draw.proofs.words.name_at.Goals as goal

pub name-requires : goal.name-requires
name-requires g c =
    let event = c.event-event.result.now in
    subst (λ (d : DeclsState). event.who < count_of Kind.Goroutine d.declarations) (sym c.decls.ensures.decls)
    (range_from_fits c.args.trace.now.decls event c.event-event.ensures.fits).0
