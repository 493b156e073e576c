-- What stays as it is behind an event that neither stops the run nor has this goroutine in it.
use Rattle.std.proofs.Common.{ℕ, suc, ◌≡◌, ◌==◌, ◌++◌, ◌||◌, ◌⊎◌, Bool, true, false, if◌then◌else◌, List, [], ◌∷◌}
use Rattle.std.proofs.Common.{length, Option, Some, None, refl, sym, ap, ◌∙◌, slice_get}
use Rattle.std.proofs.lemmas.{Option.{none-some, same_Some}}
use Rattle.std.specs.Option.{option_or}
use Rattle.race_model.specs.{Events.{starts, is_fault}, State.{started}}
use Rattle.race_model.proofs.{StateSteps.started_push}
use Rattle.race_records.specs.{declared.event.Event.Event}
use Rattle.race_requests.specs.declared.request.{Answer.Answer, Request.Request, Waiter.Waiter}
use Rattle.race_hub.specs.{declared.ending.End.End, Hub.{HubState, stop_by, is_last, is_main_exit}}
use Rattle.race_hub.specs.Fires.{IsFired, partner_of}
use Rattle.race_explore.proofs.WaiterLemmas.{waits_of, waits_append}
use Rattle.race_explore.proofs.AlikeLemmas.{takes, left_in}
use Rattle.race_explore.proofs.SettleLemmas.{Settled}
use Rattle.race_explore.proofs.{FireLemmas.rows_there}
use Rattle.race_explore.proofs.BadLemmas.{or_cases}

-- what is the same at each index is the same list
pub list_same : {X : Type 0} (xs ys : List X) → ((i : ℕ) → slice_get xs i ≡ slice_get ys i) → xs ≡ ys
list_same [] [] same = refl
list_same [] (y ∷ ys) same = absurd (none-some y (same 0))
list_same (x ∷ xs) [] same = absurd (none-some x (sym (same 0)))
list_same (x ∷ xs) (y ∷ ys) same =
    let first : x ≡ y = same_Some x y (same 0) in
    let rest : xs ≡ ys = list_same xs ys (λ i. same (suc i)) in
    λ i. first i ∷ rest i

-- as many events, of which the last doesn't end the run either, stop it no more
pub stops_no_more : (past later : List Event) (limit : ℕ) (bad bad_too : Option ℕ) → stop_by past limit bad ≡ None → length later ≡ length past
    → is_last is_main_exit later ≡ false → is_last (λ e. is_fault e.op) later ≡ false → bad_too ≡ None → stop_by later limit bad_too ≡ None
unfolding stop_by
stops_no_more past later limit bad bad_too on same main fault none =
    let room : (length later == limit) ≡ false =
    ap (λ n. n == limit) same ∙ by (is_last is_main_exit past) (is_last (λ e. is_fault e.op) past) bad (length past == limit) on in
    λ i. if main i then Some End.Main
    else (if fault i then Some End.Fault
    else elim (none i) [ Some g ↦ Some (End.Bad g) | None ↦ if room i then Some End.Limit else None ])
  where
    by : (a b : Bool) (bad : Option ℕ) (full : Bool)
        → ◌≡◌ {A = Option End} (if a then Some End.Main else (if b then Some End.Fault
        else elim bad [ Some g ↦ Some (End.Bad g) | None ↦ if full then Some End.Limit else None ])) None → full ≡ false
    by true b bad full on = absurd (none-some End.Main (sym on))
    by false true bad full on = absurd (none-some End.Fault (sym on))
    by false false (Some g) full on = absurd (none-some (End.Bad g) (sym on))
    by false false None true on = absurd (none-some End.Limit (sym on))
    by false false None false on = refl

-- whom a Go started
pub started_stays : (g : ℕ) (past : List Event) (e : Event) → started g past ≡ true → started g (past ++ e ∷ []) ≡ true
started_stays g past e is = started_push g past e ∙ ap (λ b. b || starts g e.op) is

pub starts_now : (g : ℕ) (past : List Event) (e : Event) → starts g e.op ≡ true → started g (past ++ e ∷ []) ≡ true
starts_now g past e is = started_push g past e ∙ either (started g past) (starts g e.op) is
  where
    either : (a b : Bool) → b ≡ true → (a || b) ≡ true
    either true b is = refl
    either false b is = is

pub started_before : (g : ℕ) (past : List Event) (e : Event) → started g (past ++ e ∷ []) ≡ true → (started g past ≡ true) ⊎ (starts g e.op ≡ true)
started_before g past e is = or_cases (started g past) (starts g e.op) (sym (started_push g past e) ∙ is)

pub not_both : (a b : Bool) → (a ≡ true → b ≡ true → ⊥) → b ≡ true → a ≡ false
not_both true b never is = absurd (never refl is)
not_both false b never is = refl

module _ {R : Type 0} where
  -- who takes no part in an event waits on, and so behind the turns
  pub waits_on_fire : (pick : ℕ) (h next : HubState R) (f : IsFired pick h next) (v : Waiter) → waits_of v.who h.waiting ≡ Some v
      → takes v.who f.fires.w (partner_of f.t h.waiting) ≡ false → waits_of v.who next.waiting ≡ Some v
  waits_on_fire pick h next f v waits free =
      let rows = rows_there pick h next f in
      ap (waits_of v.who) f.fires.waiting ∙ left_in f.t h.waiting f.fires.w f.fires.asks rows.partner rows.apart v.who free ∙ waits

  pub waits_on_settle : (asks : R → Answer → Request → R → Type 0) (h m : HubState R) (asked : List Waiter) → Settled asks h asked m → (v : Waiter)
      → waits_of v.who h.waiting ≡ Some v → waits_of v.who m.waiting ≡ Some v
  waits_on_settle asks h m asked s v waits =
      ap (waits_of v.who) s.waiting ∙ waits_append v.who h.waiting asked ∙ ap (λ o. option_or o (waits_of v.who asked)) waits
