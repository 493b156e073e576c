use Rattle.std.proofs.Common.{◌∙◌, length, sym, ap, subst, arith, refl}
use Rattle.std.specs.Prelude.{is_some}
use Rattle.race_hub.specs.{HubHolds.hub_state, Logs.logs_in, Recording.AreParts, Finish.IsLeastOther}
use Rattle.race_hub.proofs.FinishLemmas.{end_is}
use Rattle.race_hub.proofs.fields.Fields.recorded.Goals as goal

pub new-requires-clause-parts : goal.new-requires-clause-parts
new-requires-clause-parts g c = subst (AreParts (logs_in c.in-Ok.tracks.items)) c.events.ensures.events c.in-Ok.ensures.parts

pub returns-in-Ok-clause-ok : goal.returns-in-Ok-clause-ok
returns-in-Ok-clause-ok g c =
    let holds = c.requires.holds.0 in
    rw c.new.ensures (record {
      ended = c.requires.ended;
      back = sym c.as_slice.ensures.value ∙ c.in_default.ensures.none refl;
      decls = refl;
      events = refl;
      count = ap length c.in-Ok.ensures.logs ∙ holds.kept.logs ∙ holds.count;
      logs = c.in-Ok.ensures.logs;
      waiting = refl;
    })

pub returns-in-Ok-clause-end : goal.returns-in-Ok-clause-end
returns-in-Ok-clause-end g c =
    let h = hub_state c.args.self in
    let holds = c.requires.holds.0 in
    rw c.new.ensures (record { bad = h.bad; whose = holds.bad_waits; is_end = end_is h c.args.end holds.kept.once c.requires.ended })

pub returns-in-Err-clause-err : goal.returns-in-Err-clause-err
returns-in-Err-clause-err g c =
    let h = hub_state c.args.self in
    let other = subst (IsLeastOther c.in-Err.goroutine h.logs) c.events.ensures.events c.in-Err.ensures.err in
    let within = other.within in
    let len = c.requires.holds.0.kept.logs in
    let count = c.requires.holds.0.count in (
      ap is_some c.requires.ended,
      sym c.as_slice.ensures.value ∙ c.in_default.ensures.none refl,
      omega (arith, within, len, count),
      other,
    )
