use Rattle.std.proofs.Common.{◌∷◌, ◌∙◌, Some, sym, ap, refl, arith, slice_set}
use Rattle.std.proofs.lemmas.Option.{none-some, slice_get-get_or, get_or_from_slice_get}
use Rattle.race_hub.{specs.HubHolds.hub_state, proofs.SubmitLemmas.{taken, first_ready, front_of, room_taken}}
use Rattle.race_hub.proofs.fields.Fields.let_out.Goals as goal

pub index_mut-requires : goal.index_mut-requires
index_mut-requires g c =
    let (within, routine) =
    first_ready (hub_state c.args.self.now) c.remove-who.result c.requires.some c.remove-who.ensures.value c.requires.holds.0.kept in
    let len = c.args.self.now.routines.ok.0 in
    omega (arith, within, len)

pub unreachable-requires : goal.unreachable-requires
unreachable-requires g c =
    let (within, there) =
    first_ready (hub_state c.args.self.now) c.remove-who.result c.requires.some c.remove-who.ensures.value c.requires.holds.0.kept in
    none-some there.0 (sym (sym c.take.ensures.value ∙ c.in_default.is) ∙ c.index_mut.ensures.value
    ∙ get_or_from_slice_get c.args.self.now.routines.items c.remove-who.result.0 (Some there.0) c.index_mut.result.now there.1)

pub take-log-requires : goal.take-log-requires
take-log-requires g c =
    let (within, routine) =
    first_ready (hub_state c.args.self.now) c.remove-who.result c.requires.some c.remove-who.ensures.value c.requires.holds.0.kept in
    let len = c.requires.holds.0.kept.logs in
    omega (arith, within, len)

pub returns : goal.returns
returns g c =
    let h = hub_state c.args.self.now in
    let holds = c.requires.holds.0 in
    let (within, routine) = first_ready h c.remove-who.result c.requires.some c.remove-who.ensures.value holds.kept in
    let front = front_of h.ready c.remove-who.result c.requires.some c.remove-who.ensures.value in
    let fewer = c.remove-who.ensures.len in
    let more = c.push_reserved.ensures.len in
    let room = c.push_reserved.ensures.capacity in
    let before = c.requires.holds.1 in
    rw c.new.ensures (taken (record {
      ready = front ∙ ap (λ rest. c.remove-who.result ∷ rest) (sym c.remove-who.ensures.items);
      routine = slice_get-get_or h.routines c.remove-who.result.0 c.index_mut.result.now within
          ∙ ap Some (sym c.index_mut.ensures.value ∙ sym c.take.ensures.value ∙ c.in-Some.is);
      log = c.take-log.ensures.log;
      asked = refl;
      out = c.push_reserved.ensures.items;
      routines = ap (slice_set h.routines c.remove-who.result.0) c.take.ensures.after;
      logs = c.take-log.ensures.logs;
      same = (refl, refl, refl, refl, refl);
    }) holds (omega (arith, fewer, more, room, before)) (room_taken h c.remove-who.result.0 c.remove-who.result.1 _ c.args.self.now.logs.have_room
    c.take-log.new.self.have_room front holds.kept c.requires.holds.2 c.take-log.ensures.others))
