-- Where a run has two independent neighbours, after which something comes, there is one with these the other way round. It ends alike.
use Rattle.std.proofs.Common.{ℕ, ◌≡◌, ◌==◌, ◌++◌, List, [], ◌∷◌, length, map, Option, refl, sym, ap, ◌∙◌, subst, arith}
use Rattle.std.specs.{Prelude.{filter_map, option_to_list}, List.{find, range_with_len}, Option.option_map}
use Rattle.race_records.specs.{declared.{event.Event.Event, kind.Kind.Kind}, Declarations.{DeclsState, count_of}}
use Rattle.race_requests.specs.declared.request.Waiter.{Waiter}
use Rattle.race_hub.specs.{declared.ending.End.End, Finish.IsRecorded, Hub.{HubState, last_event}, Kept.IsKept, Recording.RecordingState}
use Rattle.race_hub.proofs.OpeningLemmas.{opening_kept}
use Rattle.race_record.specs.Serial.{begins}
use Rattle.race_script.specs.{Program.ProgramState, Run.{ScriptState, Asks}}
use Rattle.race_exchange.specs.Exchange.{IsExchanged}
use Rattle.race_explore.specs.declared.stuck.Standing.{Standing}
use Rattle.race_explore.specs.{Standing.{waits_at, failed_at, standing_of}, Walk.{IsRunBy}}
use Rattle.race_explore.proofs.{WayLemmas.comes_way, AlikeLemmas.{end_same}, OpLemmas.last_exchanged}
use Rattle.race_explore.proofs.ExchangeLemmas.{ExchangedWay, exchanged_way, way_comes}

-- whom an end is about
abbrev stand : RecordingState → End → List Standing
stand q end = elim end [
  | End.Main ↦ []
  | End.Fault ↦ option_to_list (failed_at q)
  | End.Bad g ↦ option_to_list (waits_at q g)
  | End.Limit ↦ []
  | End.Deadlock ↦ filter_map (waits_at q) (range_with_len 0 (count_of Kind.Goroutine q.decls.declarations))
]

-- where each goroutine waits for the same, and the same event is the last, those that the end is about stand at the same places
module _ (r s : RecordingState) (decls : r.decls ≡ s.decls)
    (waits : (g : ℕ) → find (λ (w : Waiter). w.who == g) r.waiting ≡ find (λ (w : Waiter). w.who == g) s.waiting)
    (last : last_event r.events ≡ last_event s.events)
  where
    same_place : (g : ℕ) → waits_at r g ≡ waits_at s g
    same_place g = ap (option_map (λ (w : Waiter). record { who = g; place = w.asked.place })) (waits g)

    same_stand : (end : End) → stand r end ≡ stand s end
    same_stand End.Main = refl
    same_stand End.Fault = ap (λ (o : Option Event). option_to_list (option_map (λ (e : Event). record { who = e.who; place = e.place }) o)) last
    same_stand (End.Bad g) = ap option_to_list (same_place g)
    same_stand End.Limit = refl
    same_stand End.Deadlock = λ i. filter_map (λ g. same_place g i) (range_with_len 0 (count_of Kind.Goroutine (decls i).declarations))

module _ (program : ProgramState) (limit : ℕ) (picks : List ℕ) (r : RecordingState) (other : List Event) (is : IsRunBy program limit picks r)
    (x : IsExchanged r.events other)
  where
    abbrev hub : HubState ScriptState
    hub = is.hub

    abbrev last : HubState ScriptState
    last = is.serial.0

    recorded : IsRecorded last r
    recorded = is.serial.2

    kept : IsKept hub
    kept = subst (λ h. IsKept h) (sym is.opens.hub_is) (opening_kept program.decls limit is.opens.main is.opens.others)

    no_events : hub.events ≡ []
    no_events = ap (λ (h : HubState ScriptState). h.events) is.opens.hub_is

    exchanged : ExchangedWay Asks hub last (x.before ++ x.b ∷ x.a ∷ x.next ∷ x.after)
    exchanged =
        let (forks, way) = comes_way Asks picks hub is.serial.1 in
        exchanged_way Asks x.before x.a x.b x.next x.after hub last forks way (ap (λ (h : HubState ScriptState). h.out) is.opens.hub_is) kept x.independent
        (sym recorded.events ∙ x.one_is ∙ sym (ap (λ es. es ++ (x.before ++ x.a ∷ x.b ∷ x.next ∷ x.after)) no_events))

    abbrev run : RecordingState
    run = record {
      decls = exchanged.end.decls;
      events = exchanged.end.events;
      logs = exchanged.end.logs;
      waiting = exchanged.end.waiting;
      end = r.end;
    }

    events_are : run.events ≡ other
    events_are = exchanged.events ∙ ap (λ es. es ++ (x.before ++ x.b ∷ x.a ∷ x.next ∷ x.after)) no_events ∙ sym x.other_is

    is_recorded : IsRecorded exchanged.end run
    is_recorded = record {
      ended = sym (end_same last exchanged.end exchanged.alike) ∙ recorded.ended;
      back = exchanged.alike.out ∙ recorded.back;
      decls = refl;
      events = refl;
      count = exchanged.alike.kept_too.logs ∙ ap length exchanged.alike.routines ∙ sym exchanged.alike.kept.logs ∙ ap length (sym recorded.logs)
          ∙ recorded.count ∙ ap (λ (d : DeclsState). count_of Kind.Goroutine d.declarations) (sym exchanged.alike.decls);
      logs = refl;
      waiting = refl;
    }

    same_decls : r.decls ≡ run.decls
    same_decls = recorded.decls ∙ sym exchanged.alike.decls

    same_last : last_event r.events ≡ last_event run.events
    same_last = ap last_event x.one_is ∙ last_exchanged x.before x.a x.b x.next x.after ∙ ap last_event (sym (events_are ∙ x.other_is))

    pub exchanged_run : (picks2 : List ℕ) × (s : RecordingState) × IsRunBy program limit picks2 s × (r.decls ≡ s.decls) × (s.events ≡ other)
        × (r.end ≡ s.end) × (standing_of r ≡ standing_of s)
    exchanged_run = (
      map (λ f. f.pick) exchanged.forks,
      run,
      record {
        hub = hub;
        opens = is.opens;
        serial = (
          exchanged.end,
          way_comes Asks (map (λ f. f.pick) exchanged.forks) hub [] begins exchanged.way (omega arith) refl,
          is_recorded,
        );
      },
      same_decls,
      events_are,
      refl,
      same_stand r run same_decls (λ g. ap (find (λ (w : Waiter). w.who == g)) recorded.waiting ∙ exchanged.alike.waits g) same_last r.end,
    )
