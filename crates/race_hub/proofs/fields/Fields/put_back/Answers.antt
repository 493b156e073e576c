use Rattle.std.proofs.Common.{◌≡◌, ◌++◌, ◌∷◌, [], ◌∙◌, ◌&&◌, Some, ap, sym, refl, arith, if◌then◌else◌, slice_set}
use Rattle.std.specs.Prelude.{is_none}
use Rattle.race_requests.specs.Sound.{is_bad_among}
use Rattle.race_hub.specs.{Hub.stop_of, HubHolds.hub_state, Submits.{ends_hub, without_first}}
use Rattle.race_hub.proofs.{KeptLemmas.{was_out, out_within}, SubmitLemmas.{submitted, ends_test, room_joined}}
use Rattle.race_hub.proofs.fields.Fields.put_back.Goals as goal

pub index_mut-requires : goal.index_mut-requires
index_mut-requires g c =
    let old = hub_state c.args.self.now in
    let within = out_within old c.args.job.who (was_out old c.args.job c.requires.back) c.requires.holds.0.kept in
    let who = c.park-waiter.ensures.who in
    let len = c.args.self.now.routines.ok.0 in
    omega (arith, within, who, len)

pub put-requires-clause-within : goal.put-requires-clause-within
put-requires-clause-within g c =
    let old = hub_state c.args.self.now in
    let within = out_within old c.args.job.who (was_out old c.args.job c.requires.back) c.requires.holds.0.kept in
    let who = c.park-waiter.ensures.who in
    let len = c.requires.holds.0.kept.logs in
    omega (arith, within, who, len)

pub returns-clause-ok : goal.returns-clause-ok
returns-clause-ok g c =
    let old = hub_state c.args.self.now in
    let w = c.park-waiter.result.0 in
    let park = c.park-waiter.ensures in
    let ends : c.is_bad-bad.result ≡ ends_hub old c.args.job =
    c.is_bad-bad.ensures ∙ ap (λ ws. is_none (stop_of old) && is_bad_among old.decls old.events ws w) c.reserve.ensures.items
    ∙ sym (ends_test old c.args.job w (was_out old c.args.job c.requires.back) park.who park.asked) in
    let room = c.requires.holds.1 in
    let len = c.take_first.ensures.len in
    let cap = c.take_first.ensures.room in (
      ends,
      submitted (record {
        asked = w.asked;
        asks = park.asked;
        waiting = c.push_reserved.ensures.items ∙ ap (λ xs. xs ++ w ∷ []) c.reserve.ensures.items
            ∙ ap (λ n. old.waiting ++ record { who = n; asked = w.asked } ∷ []) park.who;
        out = c.take_first.ensures.numbers ∙ ap (λ n. without_first n old.out) park.who;
        routines = λ i. slice_set old.routines (park.who i) (Some (park.routine i));
        logs = c.put.ensures.logs ∙ (λ i. slice_set old.logs (park.who i) (park.log i));
        bad = c.named-self.ensures ∙ (λ i. if ends i then Some (park.who i) else old.bad);
        same = (refl, refl, refl, refl);
      }) c.requires.back c.requires.holds.0 (omega (arith, room, len, cap)) (rw (c.push_reserved.ensures.items, c.reserve.ensures.items) (room_joined
          old.waiting w c.args.self.now.logs.have_room c.put.new.self.have_room c.requires.holds.2 c.put.ensures.room c.put.ensures.others)),
    )
