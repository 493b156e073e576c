-- A way of a hub by two independent events, one behind the other, after which something comes: there is one with the two the other way round.
use Rattle.std.proofs.Common.{ℕ, ◌≡◌, ◌-◌, ◌+◌, ◌<◌, ◌++◌, true, List, [], ◌∷◌, length, map, Some}
use Rattle.std.proofs.Common.{refl, sym, ap, ◌∙◌, subst, arith, slice_get, append_assoc, length-append, unwrap_or}
use Rattle.race_records.specs.declared.event.Event.{Event}
use Rattle.race_exchange.specs.Independent.{are_independent}
use Rattle.race_requests.specs.declared.request.{Answer.Answer, Request.Request}
use Rattle.race_hub.specs.{Hub.HubState, Kept.IsKept, Fires.IsFired}
use Rattle.race_record.specs.{declared.noting.Fork.Fork, Serial.{pick_of, Comes, turns, fires}}
use Rattle.race_record.proofs.SerialLemmas.{turn_keeps}
use Rattle.race_explore.specs.Ways.{here, turned, fired, fork_of, choice_count}
use Rattle.race_explore.proofs.{AlikeLemmas.Alike, SettleLemmas.{GoesTo, NextEvent, next_event, nothing_more}, FireLemmas.fire_kept}
use Rattle.race_explore.proofs.{LockstepLemmas.{GoesToo, alike_way}, DiamondLemmas.{TurnedTo, turned_to}, OneStep.{head_is, tail_is}}

-- behind the same events the rest is the same
same_rest : {X : Type 0} (xs ys zs : List X) → xs ++ ys ≡ xs ++ zs → ys ≡ zs
same_rest [] ys zs is = is
same_rest (x ∷ xs) ys zs is = same_rest xs ys zs (tail_is x x (xs ++ ys) (xs ++ zs) is)

longer : {X : Type 0} (all xs : List X) (y : X) (ys : List X) → all ≡ xs ++ y ∷ ys → length xs < length all
longer all xs y ys is = let sum = ap length is ∙ length-append xs (y ∷ ys) in omega (arith, sum)

stands_there : {X : Type 0} (xs : List X) (y : X) (ys : List X) → slice_get (xs ++ y ∷ ys) (length xs) ≡ Some y
stands_there [] y ys = refl
stands_there (x ∷ xs) y ys = stands_there xs y ys

module _ {R : Type 0} (asks : R → Answer → Request → R → Type 0) where
  -- the events of a way come behind those before it
  way_events : {h last : HubState R} {forks : List Fork} → GoesTo asks h forks last → (more : List Event) × (last.events ≡ h.events ++ more)
  way_events {h = h} here = ([], nothing_more h.events)
  way_events {h = h} (turned {b = b} turn way) =
      let (more, is) = way_events way in (more, is ∙ ap (λ es. es ++ more) (turn_keeps asks h b turn).0)
  way_events {h = h} (fired pick fire way) =
      let (more, is) = way_events way in
      (fire.1.1.fires.e ∷ more, is ∙ ap (λ es. es ++ more) fire.1.1.fires.events ∙ append_assoc h.events (fire.1.1.fires.e ∷ []) more)

  -- what is known behind the next event
  record Behind (h last : HubState R) (n : NextEvent asks h last) (x : Event) (rest : List Event) : Type 0 where
    first : n.numbered.1.1.fires.e ≡ x
    events : last.events ≡ n.next.events ++ rest
    behind_it : n.next.events ≡ h.events ++ x ∷ []
    out : n.next.out ≡ []
    kept : IsKept n.next

  behind : (h last : HubState R) (n : NextEvent asks h last) (x : Event) (rest : List Event) → last.events ≡ h.events ++ x ∷ rest → Behind h last n x rest
  behind h last n x rest is =
      let f = n.numbered.1.1 in
      let (decls, limit, out, bad) = f.fires.same in
      let (more, events) = way_events n.way in
      let come : n.next.events ≡ h.events ++ f.fires.e ∷ [] = f.fires.events ∙ ap (λ es. es ++ f.fires.e ∷ []) n.settled.events in
      let all : f.fires.e ∷ more ≡ x ∷ rest =
      same_rest h.events (f.fires.e ∷ more) (x ∷ rest)
      (sym (append_assoc h.events (f.fires.e ∷ []) more) ∙ sym (ap (λ es. es ++ more) come) ∙ sym events ∙ is) in
      let same : f.fires.e ≡ x = head_is f.fires.e x more rest all in
      record {
        first = same;
        events = events ∙ ap (λ es. n.next.events ++ es) (tail_is f.fires.e x more rest all);
        behind_it = come ∙ ap (λ e. h.events ++ e ∷ []) same;
        out = out ∙ n.settled.out;
        kept = fire_kept n.pick n.m n.next f n.kept;
      }

  -- a way with these events to an end that is alike
  pub record ExchangedWay (h last : HubState R) (other : List Event) : Type 0 where
    pub forks : List Fork
    pub end : HubState R
    pub way : GoesTo asks h forks end
    pub alike : Alike last end
    pub events : end.events ≡ h.events ++ other

  module _ (a b next : Event) (after : List Event) (h last : HubState R) (forks : List Fork) (way : GoesTo asks h forks last) (out : h.out ≡ [])
      (kept : IsKept h) (apart : are_independent a b ≡ true) (is : last.events ≡ h.events ++ a ∷ b ∷ next ∷ after)
    where
      n1 : NextEvent asks h last
      n1 = next_event asks way out kept (longer last.events h.events a (b ∷ next ∷ after) is)

      s1 : Behind h last n1 a (b ∷ next ∷ after)
      s1 = behind h last n1 a (b ∷ next ∷ after) is

      n2 : NextEvent asks n1.next last
      n2 = next_event asks n1.way s1.out s1.kept (longer last.events n1.next.events b (next ∷ after) s1.events)

      s2 : Behind n1.next last n2 b (next ∷ after)
      s2 = behind n1.next last n2 b (next ∷ after) s1.events

      n3 : NextEvent asks n2.next last
      n3 = next_event asks n2.way s2.out s2.kept (longer last.events n2.next.events next after s2.events)

      apart_too : are_independent n1.numbered.1.1.fires.e n2.numbered.1.1.fires.e ≡ true
      apart_too = (λ i. are_independent (s1.first i) (s2.first i)) ∙ apart

      turned_way : TurnedTo asks n1.pick n1.m n1.next n2.m n1.numbered.1.1 n2.asked n2.settled n2.pick n2.next n3.m n2.numbered.1.1 n3.asked n3.settled
          n1.numbered.1.0 n1.settled.out n1.kept n2.kept n3.kept n3.numbered.1.1.running apart_too
      turned_way =
          turned_to asks n1.pick n1.m n1.next n2.m n1.numbered.1.1 n2.asked n2.settled n2.pick n2.next n3.m n2.numbered.1.1 n3.asked n3.settled
          n1.numbered.1.0 n1.settled.out n1.kept n2.kept n3.kept n3.numbered.1.1.running apart_too

      rest_way : GoesToo asks n3.m last turned_way.k
      rest_way = alike_way asks (fired n3.pick n3.numbered n3.way) turned_way.k turned_way.alike n3.settled.out

      tail_is_rest : rest_way.more ≡ next ∷ after
      tail_is_rest =
          same_rest n2.next.events rest_way.more (next ∷ after)
          (ap (λ es. es ++ rest_way.more) (sym n3.settled.events) ∙ sym rest_way.events ∙ s2.events)

      begin_is : turned_way.k.events ≡ (h.events ++ b ∷ []) ++ a ∷ []
      begin_is = turned_way.events ∙ (λ i. (n1.settled.events i ++ s2.first i ∷ []) ++ s1.first i ∷ [])

      two_turned : ExchangedWay h last (b ∷ a ∷ next ∷ after)
      two_turned = record {
        forks = turned_way.forks ++ rest_way.forks;
        end = rest_way.end;
        way = n1.before (turned_way.forks ++ rest_way.forks) rest_way.end (turned_way.way rest_way.forks rest_way.end rest_way.way);
        alike = rest_way.alike;
        events = rest_way.events_too ∙ (λ i. begin_is i ++ tail_is_rest i) ∙ append_assoc (h.events ++ b ∷ []) (a ∷ []) (next ∷ after)
            ∙ append_assoc h.events (b ∷ []) (a ∷ next ∷ after);
      }

  pub exchanged_way : (before : List Event) (a b next : Event) (after : List Event) (h last : HubState R) (forks : List Fork) → GoesTo asks h forks last
      → h.out ≡ [] → IsKept h → are_independent a b ≡ true → last.events ≡ h.events ++ (before ++ a ∷ b ∷ next ∷ after)
      → ExchangedWay h last (before ++ b ∷ a ∷ next ∷ after)
  exchanged_way [] a b next after h last forks way out kept apart is = two_turned a b next after h last forks way out kept apart is
  exchanged_way (x ∷ before) a b next after h last forks way out kept apart is =
      let n = next_event asks way out kept (longer last.events h.events x (before ++ a ∷ b ∷ next ∷ after) is) in
      let s = behind h last n x (before ++ a ∷ b ∷ next ∷ after) is in
      let r = exchanged_way before a b next after n.next last n.forks n.way s.out s.kept apart s.events in
      record {
        forks = fork_of (choice_count n.m) n.pick ∷ r.forks;
        end = r.end;
        way = n.before (fork_of (choice_count n.m) n.pick ∷ r.forks) r.end (fired n.pick n.numbered r.way);
        alike = r.alike;
        events = r.events ∙ ap (λ es. es ++ (before ++ b ∷ a ∷ next ∷ after)) s.behind_it
            ∙ append_assoc h.events (x ∷ []) (before ++ b ∷ a ∷ next ∷ after);
      }

  -- a way is a run by its picks
  pub way_comes : (picks : List ℕ) (start : HubState R) (done : List ℕ) {h last : HubState R} {forks : List Fork} → Comes asks picks start h
      → GoesTo asks h forks last → length done + length start.events ≡ length h.events → picks ≡ done ++ map (λ f. f.pick) forks
      → Comes asks picks start last
  way_comes picks start done comes here count is = comes
  way_comes picks start done {h = h} comes (turned {b = b} turn way) count is =
      way_comes picks start done (turns h b comes turn) way (count ∙ ap length (sym (turn_keeps asks h b turn).0)) is
  way_comes picks start done {h = h} comes (fired {b = b} {forks = forks} pick fire way) count is =
      let number : length h.events - length start.events ≡ length done = omega (arith, count) in
      let taken : pick_of picks (length h.events - length start.events) ≡ pick =
      (λ i. unwrap_or (slice_get (is i) (number i)) 0) ∙ ap (λ o. unwrap_or o 0) (stands_there done pick (map (λ (f : Fork). f.pick) forks)) in
      let more = ap length fire.1.1.fires.events ∙ length-append h.events (fire.1.1.fires.e ∷ []) in
      let longer_done = length-append done (pick ∷ []) in
      way_comes picks start (done ++ pick ∷ []) (fires h b comes fire.1.0 (subst (λ p. IsFired p h b) (sym taken) fire.1.1)) way
      (omega (arith, count, more, longer_done)) (is ∙ sym (append_assoc done (pick ∷ []) (map (λ f. f.pick) forks)))
