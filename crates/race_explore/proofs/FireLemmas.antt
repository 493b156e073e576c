-- A choice that happens in one state happens in another one, where the same requests wait and it makes the same event.
use Rattle.std.proofs.Common.{ℕ, ◌≡◌, ◌==◌, ◌<◌, ◌-◌, ◌++◌, false, if◌then◌else◌}
use Rattle.std.proofs.Common.{List, [], ◌∷◌, length, Option, Some, None, refl, sym, ap, ◌∙◌, subst, arith, slice_get, inl, inr, eq-eqb}
use Rattle.std.proofs.lemmas.{Bool.Decides.nat_tests, Option.{same_Some, slice_get_within}}
use Rattle.std.proofs.Math.Nat.{mod-eq_of_lt}
use Rattle.race_model.specs.{Legal.broken}
use Rattle.race_records.specs.declared.event.{Event.Event}
use Rattle.race_records.specs.Declarations.{capacity_of}
use Rattle.race_requests.specs.declared.{choice.Choice.Choice, request.{Answer.Answer, Waiter.Waiter}}
use Rattle.race_requests.specs.{Choices.{event_of}, Table.{told_at, done_by}}
use Rattle.race_hub.specs.{Hub.{HubState, choices_of, end_of}, Logs.with_step, Kept.IsKept, Firing.HasRows}
use Rattle.race_hub.specs.Fires.{Fires, IsFired, IsPartnerRow, HasRoutine, partner_of, without, without_leaver, goes_on, begins, started_by}
use Rattle.race_hub.proofs.{KeptLemmas.fired_kept, FiringLemmas.picked_rows, PerformLemmas.below_limit}
use Rattle.race_explore.specs.Ways.{choice_count}
use Rattle.race_explore.proofs.WaiterLemmas.{IsIn}
use Rattle.race_explore.proofs.MatchLemmas.{AreSame, MeetTheSame}
use Rattle.race_explore.proofs.{TurnLemmas.unstopped}

positive : (p : ℕ) → 0 < p → (p == 0) ≡ false
positive p some = grind (arith, nat_tests)

-- both choices meet the same request, or nobody
pub same_partner : (ws vs : List Waiter) (t u : Choice) → MeetTheSame ws vs t.partner u.partner → partner_of u vs ≡ partner_of t ws
same_partner ws vs t u (inl (none, none2)) =
    ap (λ b. if b then None else slice_get vs (u.partner - 1)) (eq-eqb u.partner 0 none2)
    ∙ sym (ap (λ b. if b then None else slice_get ws (t.partner - 1)) (eq-eqb t.partner 0 none))
same_partner ws vs t u (inr (some, some2, r, at, at2)) =
    ap (λ b. if b then None else slice_get vs (u.partner - 1)) (positive u.partner some2)
    ∙ at2 ∙ sym at
    ∙ sym (ap (λ b. if b then None else slice_get ws (t.partner - 1)) (positive t.partner some))

module _ {R : Type 0} where
  -- the state once the choice has happened
  abbrev pub fired_hub : HubState R → Choice → Waiter → Event → Option Answer → Option Answer → HubState R
  fired_hub h t w e told partner_told = record {
    decls = h.decls;
    events = h.events ++ e ∷ [];
    limit = h.limit;
    routines = without_leaver (Some w) told h.routines;
    logs = with_step (partner_of t h.waiting) partner_told (with_step (Some w) told h.logs);
    ready = h.ready ++ goes_on (Some w) told ++ goes_on (partner_of t h.waiting) partner_told ++ begins (started_by e.op);
    waiting = without t h.waiting;
    out = h.out;
    bad = h.bad;
  }

  pub fire_like : (h next k : HubState R) (t u : Choice) (f : Fires h t next) → AreSame h.waiting k.waiting t u → event_of k.events k.waiting u ≡ Some f.e
      → broken (capacity_of k.decls.declarations) k.events f.e ≡ None → HasRoutine k.routines (started_by f.e.op)
      → Fires k u (fired_hub k u f.w f.e f.told f.partner_told)
  fire_like h next k t u f same makes legal routine =
      let waiter : same.w ≡ f.w = same_Some same.w f.w (sym same.asks ∙ f.asks) in
      record {
        w = f.w;
        e = f.e;
        told = f.told;
        partner_told = f.partner_told;
        asks = same.asks_too ∙ ap (λ (w : Waiter). Some w) waiter;
        makes = makes;
        legal = legal;
        row = ap (λ k. told_at f.w.asked.ask k (done_by f.w.who f.e.op)) same.offer ∙ f.row;
        partner_row = subst (λ o. IsPartnerRow o (u.partner_offer - 1) f.e.op f.partner_told) (sym (same_partner h.waiting k.waiting t u same.partner))
            (subst (λ q. IsPartnerRow (partner_of t h.waiting) (q - 1) f.e.op f.partner_told) (sym same.partner_offer) f.partner_row);
        routine = routine;
        events = refl;
        waiting = refl;
        ready = refl;
        routines = refl;
        logs = refl;
        same = (refl, refl, refl, refl);
      }

  -- it happens by its number among the choices
  pub record HappensBy (k : HubState R) (u : Choice) (e : Event) (next : HubState R) : Type 0 where
    pub pick : ℕ
    pub within : pick < choice_count k
    pub fired : IsFired pick k next
    pub t_is : fired.t ≡ u
    pub e_is : fired.fires.e ≡ e
    pub kept : IsKept next

  pub rows_there : (pick : ℕ) (k next : HubState R) (f : IsFired pick k next) → HasRows k.waiting f.t f.fires.e
      (picked_rows k pick f.t f.fires.e f.chosen f.fires.makes).told (picked_rows k pick f.t f.fires.e f.chosen f.fires.makes).partner_told
  rows_there pick k next f = (picked_rows k pick f.t f.fires.e f.chosen f.fires.makes).rows

  pub fire_kept : (pick : ℕ) (k next : HubState R) → IsFired pick k next → IsKept k → IsKept next
  fire_kept pick k next f kept =
      let rows = rows_there pick k next f in
      fired_kept k next f.t f.fires rows.partner rows.apart (below_limit k (unstopped k f.running) kept.limited) kept

  pub happens_by : (k next : HubState R) (u : Choice) → end_of k ≡ None → IsKept k → IsIn u (choices_of k) → (f : Fires k u next)
      → HappensBy k u f.e next
  happens_by k next u running kept (i, at) f =
      let within : i < length (choices_of k) = slice_get_within (choices_of k) i u at in
      let fired : IsFired i k next = record {
        t = u;
        running = running;
        chosen = ap (slice_get (choices_of k)) (mod-eq_of_lt within) ∙ at;
        fires = f;
      } in
      record { pick = i; within = within; fired = fired; t_is = refl; e_is = refl; kept = fire_kept i k next fired kept }
