use Rattle.std.proofs.Common.{◌<◌, IsTrue, subst, sym, length}
use Rattle.race_records.specs.{declared.trace.TheConstants.MAX_EVENTS, Events.fits}
use Rattle.race_hub.proofs.PerformLemmas.{fit_is_taken, not_both}
use Rattle.race_hub.proofs.fields.append.Goals as goal

pub unreachable-requires : goal.unreachable-requires
unreachable-requires g c =
    let same = c.reserve.ensures.unchanged in
    let fit = subst (λ d. IsTrue (fits d c.args.event)) (sym same.decls) c.requires.fits in
    let few = subst (λ es. length es < MAX_EVENTS) (sym same.events) c.requires.few in
    let taken = fit_is_taken c.reserve.new.self c.args.event fit few in
    not_both c.push.result c.in_default-push.field-0 (c.push.ensures.room taken c.in_ok-reserve.ensures.room) c.in_default-push.is
