-- Small firings are computed, and a wrong state is none.
use Rattle.std.proofs.Common.{◌≡◌, ℕ, ◌++◌, List, [], ◌∷◌, length, Option, Some, None, slice_get, refl, sym, ap, ◌∙◌}
use Rattle.std.proofs.Common.{subst, arith, length-append}
use Rattle.race_records.specs.declared.event.Op.{Op, TheVariants.Go}
use Rattle.race_requests.specs.declared.{choice.Choice.Choice, request.{Answer.Answer, Ask.Ask, Waiter.Waiter}}
use Rattle.race_requests.specs.{Choices.choice, Rows.waits, Table.{IsRow, done_by, told_by}}
use Rattle.race_requests.proofs.{RowLemmas.{by_first, wanted}, ChoiceLemmas.some_is}
use Rattle.race_hub.specs.{Hub.stop_by, Fires.{goes_on, partner_of, begins, started_by}}
use Rattle.race_hub.specs.Firings.{before_go, went, met, AGoIsFired, AMeetIsFired, OpeningIsKept}
use Rattle.race_hub.{specs.Firings.{AFiringIsAnEvent, AStarterIsReadyFirst}, proofs.OpeningLemmas.opening_kept}

pub go_is_fired : AGoIsFired
unfolding stop_by
go_is_fired = record {
  t = choice 0 0 0 0;
  running = refl;
  chosen = refl;
  fires = record {
    w = waits 0 (Ask.Go 1);
    e = went;
    told = Some Answer.Unit;
    partner_told = None;
    asks = refl;
    makes = refl;
    legal = refl;
    row = refl;
    partner_row = refl;
    routine = (11, refl);
    events = refl;
    waiting = refl;
    ready = refl;
    routines = refl;
    logs = refl;
    same = (refl, refl, refl, refl);
  };
}

pub meet_is_fired : AMeetIsFired
unfolding stop_by
meet_is_fired = record {
  t = choice 1 0 1 1;
  running = refl;
  chosen = refl;
  fires = record {
    w = waits 0 (Ask.Send (Some 0) 9);
    e = met;
    told = Some Answer.Unit;
    partner_told = Some (Answer.Value 9);
    asks = refl;
    makes = refl;
    legal = refl;
    row = refl;
    partner_row = ((Answer.Value 9, refl), refl);
    routine = tt;
    events = refl;
    waiting = refl;
    ready = refl;
    routines = refl;
    logs = refl;
    same = (refl, refl, refl, refl);
  };
}

pub firing_is_an_event : (R : Type 0) → AFiringIsAnEvent R
firing_is_an_event R pick h new same fired =
    let more = length-append h.events (fired.fires.e ∷ []) in
    let is = ap length (sym same ∙ fired.fires.events) in
    absurd (omega (arith, more, is))

pub opening_is_kept : (R : Type 0) → OpeningIsKept R
opening_is_kept R decls limit main others = opening_kept decls limit main others

abbrev first_who : List (ℕ × Answer) → ℕ
first_who [] = 0
first_who (r ∷ ready) = r.0

-- who starts another is told that it did
start_told : (h : ℕ) (op : Op) (told : Option Answer) → told_by (Ask.Go h) op ≡ Some told → told ≡ Some Answer.Unit
start_told h (Go g) told row = (wanted g h (Some Answer.Unit) told row).1
start_told h _ told row = absurd cc

pub starter_is_first : AStarterIsReadyFirst
starter_is_first fired =
    let f = fired.fires in
    let chosen : choice 0 0 0 0 ≡ fired.t = some_is fired.chosen in
    let asks : waits 0 (Ask.Go 1) ≡ f.w = some_is (subst (λ (t : Choice). slice_get before_go.waiting t.place ≡ Some f.w) (sym chosen) f.asks) in
    let row = subst (λ (w : Waiter). IsRow w.asked.ask fired.t.offer (done_by f.w.who f.e.op) f.told) (sym asks) f.row in
    let ready : 1 ≡ f.w.who = ap first_who f.ready
    ∙ ap (λ (told : Option Answer). first_who (before_go.ready ++ goes_on (Some f.w) told
    ++ goes_on (partner_of fired.t before_go.waiting) f.partner_told ++ begins (started_by f.e.op)))
    (start_told 1 (done_by f.w.who f.e.op) f.told (by_first fired.t.offer (told_by (Ask.Go 1) (done_by f.w.who f.e.op)) f.told row).1) in
    let who : 0 ≡ f.w.who = ap (λ (w : Waiter). w.who) asks in
    absurd (omega (arith, ready, who))
