-- The walk goes on by one run.
use Rattle.std.proofs.Common.{ℕ, Bool, MatchBool, true, false, ◌≡◌, ◌⊎◌, ◌<◌, ◌≤◌, ◌+◌, ◌++◌, ◌^◌, List, [], ◌∷◌, All, length}
use Rattle.std.proofs.Common.{Some, None, IsSome, refl, sym, ap, ◌∙◌, arith, subst, inl, inr, length-append}
use Rattle.std.{proofs.lemmas.{List.Elements.{All-nil, All-cons, All-head, All-tail, All-push, All-weaker}, Option.{none-some, slice_get_within}}, specs.Prelude.slice_get}
use Rattle.race_model.specs.Verdict.{Verdict}
use Rattle.race_requests.specs.declared.request.{Answer.Answer, Request.Request}
use Rattle.race_hub.specs.{Finish.IsRecorded, Hub.{HubState, opening}, Recording.RecordingState}
use Rattle.race_record.specs.{declared.noting.Fork.Fork, Noting.{HaveNext}, Serial.TakesTurn}
use Rattle.race_script.specs.{Program.ProgramState, Run.{ScriptState, Asks, next_step, position_after}}
use Rattle.race_verdict.specs.Traces.{HasVerdict}
use Rattle.race_explore.specs.{Lists.{next_picks, After, IsLeft, HasPicks}, Ways.{Way, choice_count, Happens, IsNumbered, HasStopped}}
use Rattle.race_explore.specs.{declared.orders.Orders.Orders, Orders.IsWanted}
use Rattle.race_explore.specs.Walk.{Opens, IsRunBy, IsNotedRun, Looked, Counts, IsLooked, ComesTo, RunsFrom, IsSettled, IsSkippedRun, TakesChoices, IsEarlier, IsWalked}
use Rattle.race_explore.specs.{declared.explored.Explored.Explored, Ends.AreBadEnds, Lists.Later, Told.AreRacy}
use Rattle.race_explore.proofs.LaterLemmas.{after_later, later_on}
use Rattle.race_explore.proofs.{ListLemmas.{next_cases, none_after, after_is_left}, TreeLemmas.{by_fires, zeros, revisits, through_or_later}}
use Rattle.race_explore.proofs.OneStep.{some_is, head_is, tail_is, one_fired, choice_there, one_turn, turn_or_choice}
use Rattle.race_explore.proofs.WayLemmas.{stopped_runs, notes_way, notes_picks, comes_way}

-- the picks of a run are no greater than those by which it was made, and the next ones are at most one greater
next_few : (n : ℕ) (picks : List ℕ) (forks : List Fork) (next : List ℕ) → HasPicks picks forks → All (λ p. p ≤ n) picks → next_picks forks ≡ Some next
    → All (λ p. p ≤ n + 1) next
next_few n picks [] next has few is = absurd (none-some next is)
next_few n [] (f ∷ forks) next has few is = by (next_cases f forks next is) (λ rest at. next_few n [] forks rest has.1 few at)
  where
    by : ((rest : List ℕ) × (next_picks forks ≡ Some rest) × (next ≡ f.pick ∷ rest)) ⊎ ((next_picks forks ≡ None) × (f.more ≡ true) × (next ≡ (f.pick + 1) ∷ []))
        → ((rest : List ℕ) → next_picks forks ≡ Some rest → All (λ p. p ≤ n + 1) rest) → All (λ p. p ≤ n + 1) next
    by (inl (rest, at, is)) goes =
        let first = has.0 in
        subst (All (λ p. p ≤ n + 1)) (sym is) (All-cons (λ p. p ≤ n + 1) f.pick rest (omega (arith, first)) (goes rest at))
    by (inr (none, more, is)) goes =
        let first = has.0 in
        subst (All (λ p. p ≤ n + 1)) (sym is) (All-cons (λ p. p ≤ n + 1) (f.pick + 1) [] (omega (arith, first)) (All-nil (λ p. p ≤ n + 1)))
next_few n (p ∷ picks) (f ∷ forks) next has few is =
    by (next_cases f forks next is) (λ rest at. next_few n picks forks rest has.1 (All-tail (λ p. p ≤ n) p picks few) at)
  where
    small : f.pick ≤ n
    small = let first = has.0 in let below = All-head (λ p. p ≤ n) p picks few in omega (arith, first, below)

    by : ((rest : List ℕ) × (next_picks forks ≡ Some rest) × (next ≡ f.pick ∷ rest)) ⊎ ((next_picks forks ≡ None) × (f.more ≡ true) × (next ≡ (f.pick + 1) ∷ []))
        → ((rest : List ℕ) → next_picks forks ≡ Some rest → All (λ p. p ≤ n + 1) rest) → All (λ p. p ≤ n + 1) next
    by (inl (rest, at, is)) goes =
        subst (All (λ p. p ≤ n + 1)) (sym is) (All-cons (λ p. p ≤ n + 1) f.pick rest (omega (arith, small)) (goes rest at))
    by (inr (none, more, is)) goes =
        subst (All (λ p. p ≤ n + 1)) (sym is) (All-cons (λ p. p ≤ n + 1) (f.pick + 1) [] (omega (arith, small)) (All-nil (λ p. p ≤ n + 1)))

-- a number comes after each
pub forks_next : (picks : List ℕ) (forks : List Fork) → HasPicks picks forks → HaveNext picks → All (λ f. f.pick + 1 < 2 ^ 64) forks
forks_next picks [] has next = All-nil (λ f. f.pick + 1 < 2 ^ 64)
forks_next [] (f ∷ forks) has next =
    let first = has.0 in
    All-cons (λ f. f.pick + 1 < 2 ^ 64) f forks (omega (arith, first)) (forks_next [] forks has.1 next)
forks_next (p ∷ picks) (f ∷ forks) has next =
    let first = has.0 in
    let below = All-head (λ p. p + 1 < 2 ^ 64) p picks next in
    All-cons (λ f. f.pick + 1 < 2 ^ 64) f forks (omega (arith, first, below))
    (forks_next picks forks has.1 (All-tail (λ p. p + 1 < 2 ^ 64) p picks next))

-- a script asks one thing after an answer
pub one_ask : (old : ScriptState) (answer : Answer) (q p : Request) (r s : ScriptState) → Asks old answer q r → Asks old answer p s → (q ≡ p) × (r ≡ s)
one_ask old answer q p r s a b =
    let question : q ≡ p = some_is q p (sym a.step ∙ b.step) in
    let whole : r.whole ≡ s.whole = a.whole ∙ sym b.whole in
    let position : r.position ≡ s.position =
    a.position ∙ ap (λ (x : Request). position_after (next_step old answer) x.ask) question ∙ sym b.position in
    (question, λ i. record { whole = whole i; position = position i })

-- what is recorded of a hub is one recording
pub one_recorded : (h : HubState ScriptState) (r s : RecordingState) → IsRecorded h r → IsRecorded h s → r ≡ s
one_recorded h r s a b =
    let decls : r.decls ≡ s.decls = a.decls ∙ sym b.decls in
    let events : r.events ≡ s.events = a.events ∙ sym b.events in
    let logs : r.logs ≡ s.logs = a.logs ∙ sym b.logs in
    let waiting : r.waiting ≡ s.waiting = a.waiting ∙ sym b.waiting in
    let end : r.end ≡ s.end = some_is r.end s.end (sym a.ended ∙ b.ended) in
    λ i. record { decls = decls i; events = events i; logs = logs i; waiting = waiting i; end = end i }

-- what is recorded has ended
pub has_stopped : (h : HubState ScriptState) (r : RecordingState) → IsRecorded h r → HasStopped h
has_stopped h r recorded = subst (λ o. IsSome o) (sym recorded.ended) refl

pub one_happens : (pick : ℕ) (a b c : HubState ScriptState) → Happens pick a b → Happens pick a c → b ≡ c
one_happens pick a b c f g = one_fired pick a b c f.1 g.1

pub either : (pick : ℕ) (a b c : HubState ScriptState) → TakesTurn Asks a b → Happens pick a c → ⊥
either pick a b c t f = turn_or_choice Asks a b t f.0

pub no_turn : (a b : HubState ScriptState) → HasStopped a → TakesTurn Asks a b → ⊥
no_turn a b stopped t = stopped_runs a stopped t.running

pub no_event : (pick : ℕ) (a b : HubState ScriptState) → HasStopped a → Happens pick a b → ⊥
no_event pick a b stopped f = stopped_runs a stopped f.1.running

pub there : (pick : ℕ) (a b : HubState ScriptState) → Happens pick a b → 0 < choice_count a
there pick a b f = choice_there pick a b f.1

module _ (program : ProgramState) (limit : ℕ) where
  -- the program opens one hub
  one_opening : (a b : HubState ScriptState) → Opens program limit a → Opens program limit b → a ≡ b
  one_opening a b x y =
      let main = head_is x.main y.main x.others y.others (sym x.all ∙ y.all) in
      let others = tail_is x.main y.main x.others y.others (sym x.all ∙ y.all) in
      x.hub_is ∙ (λ i. opening program.decls limit (main i) (others i)) ∙ sym y.hub_is

  -- before the first run
  pub walk_begins : {A : Type 0} (orders : Orders) (e : Explored A) → Counts [] e → AreRacy [] e.racy.items → AreBadEnds [] e.bad.items → e.made ≡ 0
      → IsWalked program limit orders [] e
  walk_begins orders e counts racy bad none = record {
    seen = [];
    looked = All-nil (IsLooked program limit);
    counts = counts;
    racy = racy;
    bad = bad;
    none_twice = λ i k a b less at there. absurd (none-some a at);
    wanted = All-nil (λ looked. IsWanted orders looked.run.events);
    skipped = record { skipped = []; made = none; each = All-nil (IsSkippedRun program limit orders) };
    left = λ hub h forks opens runs. inr tt;
    follows = λ hub opens. inl refl;
    earlier = λ hub h forks opens runs has. All-nil (IsEarlier program limit forks);
    few = All-nil (λ p. p ≤ e.made);
    more = λ some. absurd (omega (arith, none, some));
  }

  module _ {A : Type 0} (orders : Orders) (picks : List ℕ) (old : Explored A) (forks : List Fork) (r : RecordingState)
      (walked : IsWalked program limit orders picks old) (run : IsNotedRun program limit picks forks r)
    where
      abbrev pub last : HubState ScriptState
      last = run.noting.0

      pub by_picks : HasPicks picks forks
      by_picks = notes_picks Asks picks run.hub run.noting.1

      -- the run is by numbers of choices, to its end
      pub runs : RunsFrom run.hub forks last
      runs = (by (walked.follows run.hub run.opens), stopped)
        where
          stopped : HasStopped run.noting.0
          stopped = has_stopped run.noting.0 r run.noting.2

          by : (picks ≡ []) ⊎ ((others : List Fork) × (h : HubState ScriptState) × ComesTo run.hub others h × (next_picks others ≡ Some picks))
              → ComesTo run.hub forks run.noting.0
          by (inl none) =
              zeros (TakesTurn Asks) Happens choice_count HasStopped (one_turn Asks one_ask) one_happens either no_turn no_event there
              (notes_way Asks picks run.hub run.noting.1) (subst (λ p. HasPicks p forks) none by_picks)
          by (inr (others, h, before, next)) =
              (revisits (TakesTurn Asks) Happens choice_count HasStopped (one_turn Asks one_ask) one_happens either no_turn no_event there picks
              before (notes_way Asks picks run.hub run.noting.1) stopped next by_picks).0

      -- it takes its choices, and comes later than each that was seen
      pub takes : TakesChoices program limit picks r forks
      takes = record { hub = run.hub; last = last; opens = run.opens; runs = runs; recorded = run.noting.2; picks = by_picks }

      pub comes_last : All (IsEarlier program limit forks) walked.seen
      comes_last = walked.earlier run.hub last forks run.opens runs by_picks

      -- by its choices up to a state each run is settled that goes through that state
      module _ (kept : List Fork) (mid : HubState ScriptState) (front : ComesTo run.hub kept mid) (has : HasPicks picks kept)
          (longer : (others : List Fork) → After kept others → After forks others) (now : List Looked)
          (settled : (h : HubState ScriptState) → IsSettled orders h walked.seen → IsSettled orders h now)
          (through : (h : HubState ScriptState) (others rest : List Fork) → others ≡ kept ++ rest → ComesTo mid rest h → HasStopped h → IsSettled orders h now)
        where
          here : (hub h : HubState ScriptState) (others : List Fork) → Opens program limit hub → ComesTo hub others h → ComesTo run.hub others h
          here hub h others opens other = subst (λ s. ComesTo s others h) (one_opening hub run.hub opens run.opens) other

          -- a run that was left to the picks is settled, or comes later
          settled_or_later : (hub h : HubState ScriptState) (others : List Fork) → Opens program limit hub → RunsFrom hub others h
              → IsSettled orders h now ⊎ After kept others
          settled_or_later hub h others opens other = by (walked.left hub h others opens other)
            where
              reached : (rest : List Fork) × (others ≡ kept ++ rest) × ComesTo mid rest h → IsSettled orders h now
              reached (rest, is, way) = through h others rest is way other.1

              seen : ((rest : List Fork) × (others ≡ kept ++ rest) × ComesTo mid rest h) ⊎ After kept others → IsSettled orders h now ⊎ After kept others
              seen (inl goes) = inl (reached goes)
              seen (inr after) = inr after

              by : IsSettled orders h walked.seen ⊎ IsLeft picks others → IsSettled orders h now ⊎ After kept others
              by (inl before) = inl (settled h before)
              by (inr left) =
                  seen (through_or_later (TakesTurn Asks) Happens choice_count HasStopped (one_turn Asks one_ask) one_happens either no_turn no_event there picks
                  has front (here hub h others opens other.0) other.1 left)

          -- with the next picks each run that has them comes later, and what was left is settled or left to these
          module _ (next : List ℕ) (is : next_picks kept ≡ Some next) where
            pub still_left : (hub h : HubState ScriptState) (others : List Fork) → Opens program limit hub → RunsFrom hub others h
                → IsSettled orders h now ⊎ IsLeft next others
            still_left hub h others opens other = by (settled_or_later hub h others opens other)
              where
                by : IsSettled orders h now ⊎ After kept others → IsSettled orders h now ⊎ IsLeft next others
                by (inl done) = inl done
                by (inr after) = inr (after_is_left kept others next after is)

            pub follows_on : (hub : HubState ScriptState) → Opens program limit hub
                → (next ≡ []) ⊎ ((others : List Fork) × (h : HubState ScriptState) × ComesTo hub others h × (next_picks others ≡ Some next))
            follows_on hub opens = inr (kept, mid, subst (λ s. ComesTo s kept mid) (one_opening run.hub hub run.opens opens) front, is)

            pub comes_later : (hub h : HubState ScriptState) (others : List Fork) → Opens program limit hub → RunsFrom hub others h → HasPicks next others
                → Later forks others
            comes_later hub h others opens other begins =
                after_later forks others (longer others
                (revisits (TakesTurn Asks) Happens choice_count HasStopped (one_turn Asks one_ask) one_happens either no_turn no_event there next front
                (by_fires (TakesTurn Asks) Happens choice_count HasStopped (one_turn Asks one_ask) one_happens either no_turn no_event there
                (here hub h others opens other.0)) other.1 is begins).1)

            pub earlier_still : (hub h : HubState ScriptState) (others : List Fork) → Opens program limit hub → RunsFrom hub others h → HasPicks next others
                → All (IsEarlier program limit others) walked.seen
            earlier_still hub h others opens other begins =
                All-weaker (IsEarlier program limit forks) (IsEarlier program limit others)
                (λ looked is. (is.0, is.1, later_on is.0 forks others is.2 (comes_later hub h others opens other begins)))
                walked.seen comes_last

            pub few_still : All (λ p. p ≤ old.made + 1) next
            few_still = next_few old.made picks kept next has walked.few is

          -- where there are no next picks each run is settled
          pub all_settled : next_picks kept ≡ None → (others : List ℕ) (s : RecordingState) → IsRunBy program limit others s
              → (h : HubState ScriptState) × IsRecorded h s × IsSettled orders h now
          all_settled none others s is =
              let (h, comes, recorded) = is.serial in
              let (ways, way) = comes_way Asks others is.hub comes in
              (h, recorded, by h ways (settled_or_later is.hub h ways is.opens (way, has_stopped h s recorded)))
            where
              by : (h : HubState ScriptState) (ways : List Fork) → IsSettled orders h now ⊎ After kept ways → IsSettled orders h now
              by h ways (inl done) = done
              by h ways (inr after) = absurd (none_after kept ways after none)
