-- The walk goes on by one run, which is looked at, or is skipped.
use Rattle.std.proofs.Common.{ℕ, Bool, MatchBool, true, false, ◌≡◌, ◌⊎◌, ◌<◌, ◌≤◌, ◌+◌, ◌-◌, ◌++◌, List, [], ◌∷◌, All, length, take, drop}
use Rattle.std.proofs.Common.{Some, None, IsSome, refl, sym, ap, ◌∙◌, arith, subst, inl, inr, length-append}
use Rattle.std.proofs.lemmas.List.{length-take-le, length-drop, take-append-drop}
use Rattle.std.{proofs.lemmas.{List.Elements.{All-push}, Option.slice_get_within}, specs.Prelude.slice_get}
use Rattle.race_records.specs.declared.event.Event.{Event}
use Rattle.race_model.specs.Verdict.{Verdict}
use Rattle.race_hub.specs.{Finish.IsRecorded, Hub.HubState, Recording.RecordingState}
use Rattle.race_record.specs.{declared.noting.Fork.Fork, Serial.TakesTurn}
use Rattle.race_script.specs.{Program.ProgramState, Run.{ScriptState, Asks}}
use Rattle.race_verdict.specs.Traces.{HasVerdict}
use Rattle.race_explore.specs.{Lists.{next_picks, After, HasPicks}, Ways.{choice_count, Happens, IsNumbered, HasStopped}}
use Rattle.race_explore.specs.{declared.{explored.Explored.Explored, orders.Orders.Orders}, Orders.{IsWanted, IsSkipped}}
use Rattle.race_explore.specs.Walk.{trace_of, IsNotedRun, Looked, Counts, IsLooked, ComesTo, IsSettled, IsSkippedRun, AreSkipped, TakesChoices}
use Rattle.race_explore.specs.Walk.{IsEarlier, NoneTwice, IsWalked, IsWalkedOut}
use Rattle.race_explore.specs.{Ends.AreBadEnds, Looked.{Skipped, one_skipped}, Told.AreRacy}
use Rattle.race_explore.proofs.{CutLemmas.{way_events, skipped_front, skipped_within}, ElementLemmas.{at_front, at_end, at_push, all_at}}
use Rattle.race_explore.proofs.{ListLemmas.{after_front, front_picks}, OrderLemmas.each_wanted, TreeLemmas.{split_way, at_end_already, has_event}}
use Rattle.race_explore.proofs.OneStep.{one_turn}
use Rattle.race_explore.proofs.WalkLemmas.{one_ask, one_recorded, one_happens, either, no_turn, no_event, there, by_picks, runs, takes, comes_last}
use Rattle.race_explore.proofs.WalkLemmas.{still_left, follows_on, comes_later, earlier_still, few_still, all_settled}

module _ {A : Type 0} (program : ProgramState) (limit : ℕ) (orders : Orders) (picks : List ℕ) (old : Explored A) (forks : List Fork) (r : RecordingState)
    (walked : IsWalked program limit orders picks old) (run : IsNotedRun program limit picks forks r)
  where
    abbrev last : HubState ScriptState
    last = run.noting.0

    goes : ComesTo run.hub forks last
    goes = (runs program limit orders picks old forks r walked run).0

    stopped : HasStopped last
    stopped = (runs program limit orders picks old forks r walked run).1

    has : HasPicks picks forks
    has = by_picks program limit orders picks old forks r walked run

    its_choices : TakesChoices program limit picks r forks
    its_choices = takes program limit orders picks old forks r walked run

    module _ (verdict : Verdict) where
      abbrev pub seen_now : List Looked
      seen_now = walked.seen ++ record { picks = picks; run = r; verdict = verdict } ∷ []

      stays : (h : HubState ScriptState) → IsSettled orders h walked.seen → IsSettled orders h seen_now
      stays h (inl (k, looked, at, recorded)) = inl (k, looked, at_front walked.seen _ looked k at, recorded)
      stays h (inr skipped) = inr skipped

      arrives : (h : HubState ScriptState) (others rest : List Fork) → others ≡ forks ++ rest → ComesTo last rest h → HasStopped h
          → IsSettled orders h seen_now
      arrives h others rest is way ended =
          inl (
            length walked.seen,
            record { picks = picks; run = r; verdict = verdict },
            at_end walked.seen _,
            subst (λ s. IsRecorded s r) (at_end_already (TakesTurn Asks) Happens choice_count HasStopped (one_turn Asks one_ask) one_happens either no_turn
                no_event there stopped way) run.noting.2,
          )

      none_twice : NoneTwice program limit seen_now
      none_twice i k a b less at there = by (at_push walked.seen _ a i at) (at_push walked.seen _ b k there)
        where
          by : (slice_get walked.seen i ≡ Some a) ⊎ ((i ≡ length walked.seen) × (record { picks = picks; run = r; verdict = verdict } ≡ a))
              → (slice_get walked.seen k ≡ Some b) ⊎ ((k ≡ length walked.seen) × (record { picks = picks; run = r; verdict = verdict } ≡ b))
              → (others : List Fork) × TakesChoices program limit b.picks b.run others × IsEarlier program limit others a
          by (inl at_i) (inl at_k) = walked.none_twice i k a b less at_i at_k
          by (inl at_i) (inr (last_k, is)) = (
            forks,
            subst (λ (l : Looked). TakesChoices program limit l.picks l.run forks) is its_choices,
            all_at (IsEarlier program limit forks) walked.seen (comes_last program limit orders picks old forks r walked run) i a at_i,
          )
          by (inr (last_i, is)) (inl at_k) = let within = slice_get_within walked.seen k b at_k in absurd (omega (arith, within, last_i, less))
          by (inr (last_i, is)) (inr (last_k, is2)) = absurd (omega (arith, last_i, last_k, less))

      module _ (new : Explored A) (right : HasVerdict (trace_of r) verdict) (wanted : IsWanted orders r.events) (made : new.made ≡ old.made + 1)
          (counts : Counts seen_now new) (racy : AreRacy seen_now new.racy.items) (bad : AreBadEnds seen_now new.bad.items)
        where
          all_looked : All (IsLooked program limit) seen_now
          all_looked = All-push (IsLooked program limit) walked.seen _ walked.looked record {
            run = record { hub = run.hub; opens = run.opens; serial = run.serial };
            certified = run.certified;
            verdict = right;
          }

          all_wanted : All (λ looked. IsWanted orders looked.run.events) seen_now
          all_wanted = All-push (λ (looked : Looked). IsWanted orders looked.run.events) walked.seen _ walked.wanted wanted

          no_more_skipped : AreSkipped program limit orders seen_now new
          no_more_skipped =
              let longer : length seen_now ≡ length walked.seen + 1 = length-append walked.seen (record { picks = picks; run = r; verdict = verdict } ∷ []) in
              let before = walked.skipped.made in
              record { skipped = walked.skipped.skipped; made = omega (arith, made, longer, before); each = walked.skipped.each }

          -- a run that was looked at leads on to the next, or the walk is at its end
          pub looks_on : (next : List ℕ) (more : Bool) → MatchBool more (next_picks forks ≡ Some next) (next_picks forks ≡ None)
              → MatchBool more (IsWalked program limit orders next new) (IsWalkedOut program limit orders new)
          looks_on next true is = record {
            seen = seen_now;
            looked = all_looked;
            counts = counts;
            racy = racy;
            bad = bad;
            none_twice = none_twice;
            wanted = all_wanted;
            skipped = no_more_skipped;
            left = still_left program limit orders picks old forks r walked run forks last goes has (λ others after. after) seen_now stays arrives next is;
            follows = follows_on program limit orders picks old forks r walked run forks last goes has (λ others after. after) seen_now stays arrives next is;
            earlier = λ hub h others opens other begins.
                All-push (IsEarlier program limit others) walked.seen _
                (earlier_still program limit orders picks old forks r walked run forks last goes has (λ others after. after) seen_now stays arrives next is
                hub h others opens other begins) (
                  forks,
                  its_choices,
                  comes_later program limit orders picks old forks r walked run forks last goes has (λ others after. after) seen_now stays arrives next is
                      hub h others opens other begins,
                );
            few = subst (λ n. All (λ p. p ≤ n) next) (sym made)
                (few_still program limit orders picks old forks r walked run forks last goes has (λ others after. after) seen_now stays arrives next is);
            more = λ _. inl record {
              before = walked.seen;
              last = record { picks = picks; run = r; verdict = verdict };
              last_is = refl;
              forks = forks;
              takes = its_choices;
              more = subst (λ o. IsSome o) (sym is) refl;
            };
          }
          looks_on next false none = record {
            seen = seen_now;
            looked = all_looked;
            counts = counts;
            racy = racy;
            bad = bad;
            none_twice = none_twice;
            wanted = all_wanted;
            skipped = no_more_skipped;
            each = each_wanted program limit one_recorded seen_now orders
                (all_settled program limit orders picks old forks r walked run forks last goes has (λ others after. after) seen_now stays arrives none);
          }

    -- so it is of a run that is skipped, with its first choices in place of all
    module _ (n : ℕ) (skips : IsSkipped orders r.events n) where
      cut : forks ≡ take n forks ++ drop n forks
      cut = sym (take-append-drop n forks)

      parts : (mid : HubState ScriptState) × ComesTo run.hub (take n forks) mid × ComesTo mid (drop n forks) last
      parts = split_way (TakesTurn Asks) IsNumbered choice_count goes (take n forks) (drop n forks) cut

      opens_empty : run.hub.events ≡ []
      opens_empty = ap (λ (h : HubState ScriptState). h.events) run.opens.hub_is

      -- how many events there are behind some choices
      so_many : (kept : List Fork) (h : HubState ScriptState) → ComesTo run.hub kept h → length h.events ≡ length kept
      so_many kept h way =
          let (more, is, count) = way_events way in
          ap length (is ∙ ap (λ l. l ++ more) opens_empty) ∙ count

      within : n < length forks
      within =
          let all = so_many forks last goes in
          let same : length r.events ≡ length last.events = ap length run.noting.2.events in
          let less = skipped_within orders r.events n skips in
          omega (arith, all, same, less)

      stays_skipped : (h : HubState ScriptState) → IsSettled orders h walked.seen → IsSettled orders h walked.seen
      stays_skipped h settled = settled

      goes_through : (h : HubState ScriptState) (others rest : List Fork) → others ≡ take n forks ++ rest → ComesTo parts.0 rest h → HasStopped h
          → IsSettled orders h walked.seen
      goes_through h others rest is way ended =
          let left : length (drop n forks) ≡ length forks - n = length-drop n forks in
          let some = has_event (TakesTurn Asks) Happens choice_count HasStopped (one_turn Asks one_ask) one_happens either no_turn no_event there
          parts.2 (omega (arith, within, left)) way ended in
          let (back, last_is, back_count) = way_events parts.2 in
          let (more, h_is, count) = way_events way in
          let short : length parts.0.events ≡ n = so_many (take n forks) parts.0 parts.1 ∙ length-take-le n forks (omega (arith, within)) in
          inr (
            n,
            subst (λ l. IsSkipped orders l n) (sym h_is) (skipped_front orders parts.0.events back more n short (omega (arith, some, count))
                (subst (λ l. IsSkipped orders l n) (run.noting.2.events ∙ last_is) skips)),
          )

      first_picks : HasPicks picks (take n forks)
      first_picks = front_picks picks (take n forks) (drop n forks) (subst (HasPicks picks) cut has)

      longer : (others : List Fork) → After (take n forks) others → After forks others
      longer others after = subst (λ l. After l others) (sym cut) (after_front (take n forks) (drop n forks) others after)

      same_counts : Counts walked.seen (one_skipped old)
      same_counts = record {
        runs = walked.counts.runs;
        clean = walked.counts.clean;
        races = walked.counts.races;
        deadlocks = walked.counts.deadlocks;
        faults = walked.counts.faults;
      }

      one_more_skipped : AreSkipped program limit orders walked.seen (one_skipped old)
      one_more_skipped =
          let this : Skipped = record { picks = picks; run = r } in
          let longer : length (walked.skipped.skipped ++ this ∷ []) ≡ length walked.skipped.skipped + 1 = length-append walked.skipped.skipped (this ∷ []) in
          let before = walked.skipped.made in
          record {
            skipped = walked.skipped.skipped ++ this ∷ [];
            made = omega (arith, longer, before);
            each = All-push (IsSkippedRun program limit orders) walked.skipped.skipped this walked.skipped.each
                (record { hub = run.hub; opens = run.opens; serial = run.serial }, (n, skips));
          }

      skips_on_from : (next : List ℕ) (more : Bool) → MatchBool more (next_picks (take n forks) ≡ Some next) (next_picks (take n forks) ≡ None)
          → MatchBool more (IsWalked program limit orders next (one_skipped old)) (IsWalkedOut program limit orders (one_skipped old))
      skips_on_from next true is = record {
        seen = walked.seen;
        looked = walked.looked;
        counts = same_counts;
        racy = walked.racy;
        bad = walked.bad;
        none_twice = walked.none_twice;
        wanted = walked.wanted;
        skipped = one_more_skipped;
        left = still_left program limit orders picks old forks r walked run (take n forks) parts.0 parts.1 first_picks longer walked.seen stays_skipped goes_through
            next is;
        follows = follows_on program limit orders picks old forks r walked run (take n forks) parts.0 parts.1 first_picks longer walked.seen stays_skipped
            goes_through next is;
        earlier = earlier_still program limit orders picks old forks r walked run (take n forks) parts.0 parts.1 first_picks longer walked.seen stays_skipped
            goes_through next is;
        few = few_still program limit orders picks old forks r walked run (take n forks) parts.0 parts.1 first_picks longer walked.seen stays_skipped goes_through
            next is;
        more = λ _. inr record {
          skipped = record { picks = picks; run = r };
          forks = forks;
          takes = its_choices;
          n = n;
          turned = skips;
          more = subst (λ o. IsSome o) (sym is) refl;
        };
      }
      skips_on_from next false none = record {
        seen = walked.seen;
        looked = walked.looked;
        counts = same_counts;
        racy = walked.racy;
        bad = walked.bad;
        none_twice = walked.none_twice;
        wanted = walked.wanted;
        skipped = one_more_skipped;
        each = each_wanted program limit one_recorded walked.seen orders
            (all_settled program limit orders picks old forks r walked run (take n forks) parts.0 parts.1 first_picks longer walked.seen stays_skipped goes_through
            none);
      }

      pub skips_on : (new : Explored A) → new ≡ one_skipped old → (next : List ℕ) (more : Bool)
          → MatchBool more (next_picks (take n forks) ≡ Some next) (next_picks (take n forks) ≡ None)
          → MatchBool more (IsWalked program limit orders next new) (IsWalkedOut program limit orders new)
      skips_on new is next more so =
          subst (λ (e : Explored A). MatchBool more (IsWalked program limit orders next e) (IsWalkedOut program limit orders e)) (sym is)
          (skips_on_from next more so)
