-- One shard takes each event as soon as it was found legal.
use Rattle.std.proofs.Common.{◌≡◌, ℕ, zero, suc, ◌+◌, ◌<◌, List, [], ◌∷◌, ◌++◌, All, Option, Some, None, map, take, length}
use Rattle.std.proofs.Common.{slice_get, refl, sym, ap, ◌∙◌, subst, arith, append_assoc, length-append}
use Rattle.std.proofs.lemmas.{Option.slice_get_within, List.length-take-le}
use Rattle.race_records.specs.declared.{event.Event.Event, kind.Kind.Kind}
use Rattle.race_records.specs.{Declarations.{DeclsState, count_of, counts_of, capacity_of}, Events.{TraceState, IsTrace}}
use Rattle.race_model.specs.{Legal.IsLegal, Verdict.{Race, Verdict, IsVerdict, AreReportedRaces}}
use Rattle.race_legal.specs.{declared.legality.Illegal.Illegal, ReplayState.{ReplayState, IsInRange}}
use Rattle.race_legal.proofs.Fronts.{take_next}
use Rattle.race_verdict.specs.{Races.{race_of, races_of}, Traces.HasVerdict}
use Rattle.race_shards.specs.Shards.{ShardState, ShardStandsFor, ShardsStandFor, IsNextBlock, Takes}
use Rattle.race_shards.specs.{Telling.{told_below, HavePlaces}, Judging.{AreFed, IsJudged, Accepts, Judges, CanJudge}}
use Rattle.race_shards.proofs.{ShardSteps.{all_one, all_at}, ListSteps.{all_none, all_push}}
use Rattle.race_shards.proofs.{TellSteps.{have_places, told_races}, JudgeSteps.{judges_legal, in_range_all}}
use Rattle.race_legal.specs.StandsFor as legal

module _ (old : ReplayState) (s : ShardState) (block : List Event) where
  -- an event that was found legal may go to the shard
  pub next_alone : (mid new : ReplayState) (t : ShardState) (i : ℕ) (e : Event) → slice_get block i ≡ Some e → CanJudge old (s ∷ []) block
      → Accepts old (take i block) None mid → Accepts old (take (i + 1) block) None new → Takes s (take i block) t → IsNextBlock t (e ∷ [])
  next_alone mid new t i e here can before behind takes =
      let caps = capacity_of can.declarations in
      let less : i < length block = slice_get_within block i e here in
      record {
        declarations = can.declarations;
        n = can.n;
        k = 0;
        past = can.past ++ take i block;
        stands = takes can.declarations can.n 0 can.past (can.fed.stand 0 s refl) (before can.declarations can.past can.fed.replayed).legal;
        follows = record {
          range = all_one (IsInRange (counts_of can.declarations)) e (all_at (IsInRange (counts_of can.declarations)) block i e
              (subst (λ (counts : Kind → ℕ). All (IsInRange counts) block) can.fed.replayed.counts can.range) here);
          legal = subst (IsLegal caps) (ap (λ front. can.past ++ front) (take_next block i e here) ∙ sym (append_assoc can.past (take i block) (e ∷ [])))
              (behind can.declarations can.past can.fed.replayed).legal;
          room = let room = can.room in let len = can.fed.replayed.len in let short = length-take-le i block (omega arith) in
              omega (arith, room, len, less, short, length-append can.past (take i block));
        };
      }

  -- where all were, replay and shard go on
  pub judges_alone : (new : ReplayState) (t : ShardState) → Accepts old block None new → Takes s block t → Judges old (s ∷ []) block None new (t ∷ [])
  judges_alone new t accepts takes = judges_legal old new (s ∷ []) (t ∷ []) block accepts (all_push [] [] s t block (all_none block) takes)

-- the list of one shard, as the code makes it
pub items_alone : {shown pushed first : List ShardState} {t : ShardState} → shown ≡ pushed → pushed ≡ first ++ t ∷ [] → first ≡ [] → shown ≡ t ∷ []
items_alone {shown} {pushed} {first} {t} is made none = is ∙ made ∙ ap (λ (xs : List ShardState). xs ++ t ∷ []) none

-- what was made with the declarations that a trace has
pub replayed_by : {ds es : DeclsState} {old : ReplayState} → ds ≡ es → legal.StandsFor ds.declarations old [] → legal.StandsFor es.declarations old []
replayed_by {ds} {es} {old} is stands = subst (λ (d : DeclsState). legal.StandsFor d.declarations old []) is stands

pub standing_by : {ds es : DeclsState} {s : ShardState} → ds ≡ es → ShardStandsFor ds.declarations 1 0 s [] → ShardStandsFor es.declarations 1 0 s []
standing_by {ds} {es} {s} is stands = subst (λ (d : DeclsState). ShardStandsFor d.declarations 1 0 s []) is stands

-- what is told of these events is told of those
pub judges_these : {es fs : List Event} {o p : Option Illegal} (old : ReplayState) (shards : List ShardState) (new : ReplayState) (shards_now : List ShardState)
    → es ≡ fs → o ≡ p → Judges old shards es o new shards_now → Judges old shards fs p new shards_now
judges_these {es} {fs} {o} {p} old shards new shards_now these is judges =
    subst (λ illegal. Judges old shards fs illegal new shards_now) is (subst (λ (es : List Event). Judges old shards es o new shards_now) these judges)

-- before the first event of a trace
module _ (trace : TraceState) (holds : IsTrace trace) (old : ReplayState) (s : ShardState)
    (replayed : legal.StandsFor trace.decls.declarations old []) (stands : ShardStandsFor trace.decls.declarations 1 0 s []) where
  first_stands : (t : ShardState) (past : List Event) → ShardStandsFor trace.decls.declarations 1 0 t past → ShardsStandFor trace.decls.declarations 1 (t ∷ []) past
  first_stands t past is zero u at = subst (λ (u : ShardState). ShardStandsFor trace.decls.declarations 1 0 u past) (cc at) is
  first_stands t past is (suc k) u at = absurd (let less = slice_get_within (t ∷ []) (suc k) u at in omega (arith, less))

  fed : AreFed trace.decls.declarations 1 old (s ∷ []) []
  fed = record { replayed = replayed; all = refl; some = omega arith; stand = first_stands s [] stands }

  pub can_judge_alone : CanJudge old (s ∷ []) trace.events
  can_judge_alone = record {
    declarations = trace.decls.declarations;
    n = 1;
    past = [];
    fed = fed;
    range = subst (λ (counts : Kind → ℕ). All (IsInRange counts) trace.events) (sym replayed.counts) (in_range_all trace holds);
    room = let len = replayed.len in let limited = holds.limited in omega (arith, len, limited);
  }

  -- behind all its events
  pub judged_alone : (new : ReplayState) (t : ShardState) (illegal : Option Illegal) → Judges old (s ∷ []) trace.events illegal new (t ∷ [])
      → IsJudged trace.decls.declarations 1 new (t ∷ []) trace.events illegal
  judged_alone new t illegal judges = judges trace.decls.declarations 1 [] fed

-- behind a legal trace
module _ (trace : TraceState) (new : ReplayState) (t : ShardState) (done : AreFed trace.decls.declarations 1 new (t ∷ []) trace.events) where
  pub places_alone : (vars : ℕ) → vars ≡ count_of Kind.Var trace.decls.declarations → HavePlaces (t ∷ []) vars
  places_alone vars is = subst (HavePlaces (t ∷ [])) (sym is) (have_places trace.decls.declarations (t ∷ []) trace.events (omega arith) done.stand)

  pub verdict_alone : IsTrace trace → (vars : ℕ) → vars ≡ count_of Kind.Var trace.decls.declarations → (verdict : Verdict) (races : List Race)
      → races ≡ map race_of (races_of (told_below (t ∷ []) vars))
      → ((caps : ℕ → ℕ) (events : List Event) → IsLegal caps events → AreReportedRaces caps events races → IsVerdict caps events verdict) → HasVerdict trace verdict
  verdict_alone holds vars declared verdict races is right =
      right (capacity_of trace.decls.declarations) trace.events done.replayed.legal
      (subst (AreReportedRaces (capacity_of trace.decls.declarations) trace.events)
      (sym (is ∙ ap (λ n. map race_of (races_of (told_below (t ∷ []) n))) declared))
      (told_races trace.decls.declarations (t ∷ []) trace.events (omega arith) done.stand (in_range_all trace holds)))
