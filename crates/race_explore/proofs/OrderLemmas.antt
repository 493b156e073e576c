-- Each run has another one with its independent neighbours in order, which ends alike.
use Rattle.std.proofs.Common.{ℕ, ◌≡◌, ◌⊎◌, ◌<◌, ◌+◌, true, false, List, Some, refl, sym, ap, ◌∙◌, subst, inl, inr}
use Rattle.std.proofs.lemmas.Bool.{false≢true}
use Rattle.std.specs.Prelude.{slice_get}
use Rattle.race_records.specs.declared.event.Event.{Event}
use Rattle.race_records.proofs.ListLemmas.{slice_get-within}
use Rattle.race_model.specs.Events.{At}
use Rattle.race_hub.specs.{Finish.IsRecorded, Hub.HubState, Recording.RecordingState}
use Rattle.race_script.specs.{Program.ProgramState, Run.ScriptState}
use Rattle.race_exchange.specs.{Exchange.{IsExchanged, SameButForOrder, IsInOrder, IsFirstTurned}, Independent.are_turned}
use Rattle.race_exchange.proofs.InOrder.{in_order}
use Rattle.race_explore.specs.declared.orders.Orders.{Orders}
use Rattle.race_explore.specs.{Orders.{IsSkipped, IsSameRun}, Looked.Looked, Standing.standing_of}
use Rattle.race_explore.specs.Walk.{IsRunBy, IsSeen, IsSettled, EachRun, EachOrder, EachWanted}
use Rattle.race_explore.proofs.RunExchange.{exchanged_run}

-- what is in order isn't skipped
not_in_order : (events : List Event) (n : ℕ) → IsFirstTurned events n → IsInOrder events → ⊥
not_in_order events n turned order =
    let (next, at) = slice_get-within events n turned.more in
    let at_next : At events (turned.before + 2) next = subst (λ k. At events k next) turned.last_two at in
    false≢true (sym (order turned.before turned.a turned.b next turned.at_a turned.at_b at_next) ∙ turned.turned)

module _ (program : ProgramState) (limit : ℕ) where
  -- a run with these events ends as that one
  pub record EndsAlike (r : RecordingState) (events : List Event) : Type 0 where
    pub picks : List ℕ
    pub run : RecordingState
    pub by_picks : IsRunBy program limit picks run
    pub decls : r.decls ≡ run.decls
    pub events_are : run.events ≡ events
    pub end : r.end ≡ run.end
    pub standing : standing_of r ≡ standing_of run

  still_alike : (r : RecordingState) (one other : List Event) → IsExchanged one other → EndsAlike r one → EndsAlike r other
  still_alike r one other is alike =
      let (picks, run, by_picks, decls, events, end, standing) =
      exchanged_run program limit alike.picks alike.run other alike.by_picks (subst (λ es. IsExchanged es other) (sym alike.events_are) is) in
      record {
        picks = picks;
        run = run;
        by_picks = by_picks;
        decls = alike.decls ∙ decls;
        events_are = events;
        end = alike.end ∙ end;
        standing = alike.standing ∙ standing;
      }

  -- what is recorded of a hub is one recording
  module _ (one_recorded : (h : HubState ScriptState) (r s : RecordingState) → IsRecorded h r → IsRecorded h s → r ≡ s) (seen : List Looked) where
    abbrev pub EachSettled : Orders → Type 0
    EachSettled orders = (picks : List ℕ) (r : RecordingState) → IsRunBy program limit picks r
        → (h : HubState ScriptState) × IsRecorded h r × IsSettled orders h seen

    -- where each run is seen or skipped, those that were wanted are seen
    pub each_wanted : (orders : Orders) → EachSettled orders → EachWanted program limit orders seen
    each_wanted Orders.All each = λ picks r is.
        let (h, recorded, settled) = each picks r is in
        elim settled [
          | inl found ↦ (found.0, found.1, found.2, one_recorded h found.1.run r found.3 recorded)
          | inr skipped ↦ absurd skipped.1
        ]
    each_wanted Orders.One each = λ picks r is.
        let (other, order, alike, sorted) = in_order (EndsAlike r) (still_alike r) r.events
        record { picks = picks; run = r; by_picks = is; decls = refl; events_are = refl; end = refl; standing = refl } in
        let (h, recorded, settled) = each alike.picks alike.run alike.by_picks in
        elim settled [
          | inl found ↦
              let same = one_recorded h found.1.run alike.run found.3 recorded in (
                found.0,
                found.1,
                found.2,
                subst (IsSameRun r) (sym same) (record {
                  decls = alike.decls;
                  events = subst (λ es. SameButForOrder r.events es) (sym alike.events_are) order;
                  end = alike.end;
                  standing = alike.standing;
                }),
              )
          | inr skipped ↦
              absurd (not_in_order h.events skipped.0 skipped.1 (subst IsInOrder (sym alike.events_are ∙ recorded.events) sorted))
        ]
