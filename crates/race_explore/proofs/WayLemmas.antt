-- The runs of a hub as ways through the tree of its choices.
use Rattle.std.proofs.Common.{ℕ, ◌≡◌, ◌<◌, ◌-◌, ◌%◌, ◌++◌, List, [], ◌∷◌, length, Option, Some, None, IsSome, refl, sym}
use Rattle.std.{proofs.lemmas.Option.none-some, proofs.Math.Nat.mod-mod, proofs.lemmas.Nat.mod_below}
use Rattle.race_requests.specs.declared.request.{Answer.Answer, Request.Request}
use Rattle.race_hub.specs.{Hub.{HubState, end_of}}
use Rattle.race_record.specs.{declared.noting.Fork.Fork, Serial.{pick_of, TakesTurn, Comes, begins, turns, fires}}
use Rattle.race_record.specs.Noting.{fork_at, Notes, no_event, turn, event}
use Rattle.race_explore.specs.{Lists.HasPicks, Ways.{Way, fork_of, here, choice_count, Happens, IsNumbered, HasStopped}}
use Rattle.race_explore.proofs.{OneStep.{choice_there, fired_modulo}, TreeLemmas.{way_turned, way_fired}}

module _ {R : Type 0} where
  pub stopped_runs : (h : HubState R) → HasStopped h → end_of h ≡ None → ⊥
  stopped_runs h stopped runs = by (end_of h) stopped runs
    where
      by : {X : Type 0} (o : Option X) → IsSome o → o ≡ None → ⊥
      by (Some x) some none = none-some x (sym none)
      by None some none = cc

-- one more pick
pub one_more : (picks : List ℕ) (forks : List Fork) (f : Fork) → HasPicks picks forks → f.pick ≡ pick_of picks (length forks) → HasPicks picks (forks ++ f ∷ [])
one_more [] [] f has is = (is, tt)
one_more (p ∷ picks) [] f has is = (is, tt)
one_more [] (g ∷ forks) f has is = (has.0, one_more [] forks f has.1 is)
one_more (p ∷ picks) (g ∷ forks) f has is = (has.0, one_more picks forks f has.1 is)

module _ {R : Type 0} (asks : R → Answer → Request → R → Type 0) (picks : List ℕ) (start : HubState R) where
  -- what is noted is a way, by its picks
  pub notes_way : {forks : List Fork} {h : HubState R} → Notes asks picks start forks h → Way (TakesTurn asks) Happens choice_count start forks h
  notes_way no_event = here
  notes_way (turn forks old new notes taken) = way_turned (TakesTurn asks) Happens choice_count (notes_way notes) taken
  notes_way (event forks old new notes idle fire) =
      way_fired (TakesTurn asks) Happens choice_count (pick_of picks (length forks)) (notes_way notes) (idle, fire)

  pub notes_picks : {forks : List Fork} {h : HubState R} → Notes asks picks start forks h → HasPicks picks forks
  notes_picks no_event = tt
  notes_picks (turn forks old new notes taken) = notes_picks notes
  notes_picks (event forks old new notes idle fire) =
      one_more picks forks (fork_at old (pick_of picks (length forks))) (notes_picks notes) refl

  -- each run is a way by numbers of choices
  pub comes_way : {h : HubState R} → Comes asks picks start h
      → (forks : List Fork) × Way (TakesTurn asks) IsNumbered choice_count start forks h
  comes_way begins = ([], here)
  comes_way (turns old new comes taken) =
      let (forks, way) = comes_way comes in (forks, way_turned (TakesTurn asks) IsNumbered choice_count way taken)
  comes_way (fires old new comes idle fire) =
      let (forks, way) = comes_way comes in
      let pick = pick_of picks (length old.events - length start.events) in
      let number = pick % choice_count old in
      let within : number < choice_count old = mod_below pick (choice_count old) (choice_there pick old new fire) in (
        forks ++ fork_of (choice_count old) number ∷ [],
        way_fired (TakesTurn asks) IsNumbered choice_count number way
            (within, (idle, fired_modulo pick number old new (mod-mod pick (choice_count old)) fire)),
      )
