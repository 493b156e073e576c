-- Texts that are put one after another.
use Rattle.std.proofs.Common.{◌≡◌, ℕ, ◌+◌, ◌<◌, List, [], ◌∷◌, ◌++◌, take, length, get_or, All, refl, sym, ap, subst, ◌∙◌, append-nil, append_assoc}
use Rattle.std.{proofs.lemmas.{List.take_more, Option.{slice_get_within, slice_get-map, slice_get-get_or}}, specs.Option.option_map}
use Rattle.race_records.specs.Events.{TraceState}
use Rattle.race_legal.specs.declared.legality.Illegal.{Illegal}
use Rattle.race_verdict.specs.declared.{races.Race.Race, verdict.Verdict.Verdict}
use Rattle.race_verdict.specs.{Races.race_of, Traces.{capacities, HasVerdict}, Verdicts.verdict_of}
use Rattle.race_shards.specs.Witness.{RacesInOrder}
use Rattle.race_report.specs.Report.{report}
use Rattle.race_explain.specs.Explained.{HasWordsAfter, IsPutAfter, IsRaceShown, AreRacesShown, IsSaidOf, IsExplained}

-- what is shown, and words after it
pub words_put : (before shown words middle after : List ℕ) → middle ≡ before ++ shown → after ≡ middle ++ words
    → IsPutAfter (HasWordsAfter shown) before after
words_put before shown words middle after is same =
    (shown ++ words, (words, refl), same ∙ ap (λ t. t ++ words) is ∙ append_assoc before shown words)

-- one race more
races_push : (trace : TraceState) (races : List Race) (race : Race) (text one : List ℕ) → AreRacesShown trace races text → IsRaceShown trace race one
    → AreRacesShown trace (races ++ race ∷ []) (text ++ one)
races_push trace [] race text one none shown = (one, [], shown, refl, ap (λ t. t ++ one) none ∙ sym (append-nil one))
races_push trace (r ∷ races) race text one (first, others, is, rest, same) shown =
    (first, others ++ one, is, races_push trace races race others one rest shown, ap (λ t. t ++ one) same ∙ append_assoc first others one)

module _ (trace : TraceState) (races : List Race) (before : List ℕ) where
  pub races_none : IsPutAfter (AreRacesShown trace (take 0 races)) before before
  races_none = ([], refl, sym (append-nil before))

  pub races_more : (i : ℕ) (d : Race) (middle after : List ℕ) → i < length races → IsPutAfter (AreRacesShown trace (take i races)) before middle
      → IsPutAfter (IsRaceShown trace (get_or races i d)) middle after → IsPutAfter (AreRacesShown trace (take (i + 1) races)) before after
  races_more i d middle after less (text, shown, is) (one, also, same) = (
    text ++ one,
    subst (λ (rs : List Race). AreRacesShown trace rs (text ++ one)) (sym (take_more races i d less))
        (races_push trace (take i races) (get_or races i d) text one shown also),
    same ∙ ap (λ t. t ++ one) is ∙ append_assoc before text one,
  )

-- what is said of the verdict, after its report
pub explained_by : {A : Type 0} (trace : TraceState) (verdict : Verdict A) (before after : List ℕ) → before ≡ report trace (verdict_of verdict)
    → IsPutAfter (IsSaidOf trace verdict) before after → IsExplained trace verdict after
explained_by trace verdict before after is said = subst (λ (b : List ℕ). IsPutAfter (IsSaidOf trace verdict) b after) is said

-- a right verdict names an event, and races, of the trace
module _ {A : Type 0} (trace : TraceState) (verdict : Verdict A) (right : HasVerdict trace (verdict_of verdict)) where
  pub illegal_within : (illegal : Illegal) → verdict ≡ Verdict.Illegal illegal → illegal.at < length trace.events
  illegal_within illegal is =
      let broken = subst (λ (v : Verdict A). HasVerdict trace (verdict_of v)) is right in
      slice_get_within trace.events illegal.at broken.0 broken.1

  pub races_in_order : (races : List Race) → verdict ≡ Verdict.Races races → All (RacesInOrder (capacities trace) trace.events) races
  races_in_order races is i d less =
      let legal = subst (λ (v : Verdict A). HasVerdict trace (verdict_of v)) is right in
      let race = get_or races i d in
      let reported = legal.2.each i (race_of race) (slice_get-map race_of races i ∙ ap (option_map race_of) (slice_get-get_or races i d less)) in
      record { legal = legal.0; race = reported.race; in_order = reported.in_order }

-- both accesses of a race are the trace's
module _ (trace : TraceState) (race : Race) (races : RacesInOrder (capacities trace) trace.events race) where
  pub first_within : race.first < length trace.events
  first_within = slice_get_within trace.events race.first races.race.conflict.1.0 races.race.conflict.1.1

  pub second_within : race.second < length trace.events
  second_within = slice_get_within trace.events race.second races.race.conflict.2.0 races.race.conflict.2.1
