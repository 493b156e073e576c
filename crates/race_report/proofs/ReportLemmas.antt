-- The lines of a report, from the words that are put into them.
use Rattle.std.proofs.Common.{◌≡◌, ℕ, take, ◌≤◌, List, [], ◌++◌, length, slice_get, Option, Some, None, map, sym, ap}
use Rattle.std.{proofs.{Common.◌∙◌, lemmas.List.length-map}, specs.List.flat_map}
use Rattle.race_records.{specs.{declared.event.Event.Event, Events.TraceState}, proofs.ListLemmas.flat_map-map}
use Rattle.race_model.specs.Verdict.{Race}
use Rattle.race_text.specs.Text.{goroutine_name, var_name, place_text}
use Rattle.race_verdict.specs.Races.{race_of}
use Rattle.race_report.specs.Report.{races_line, races_text, access_told, access_text, access_word, race_told}
use Rattle.race_report.specs.Report.{race_line}
use Rattle.std.proofs.lemmas.List as lists
use Rattle.race_verdict.specs.declared.races.Race as tool

-- the words for the event at the index
pub access_text_is : (trace : TraceState) (index : ℕ) (e : Event) (what who place : List ℕ) → slice_get trace.events index ≡ Some e
    → what ≡ access_word e.op → who ≡ goroutine_name trace.decls.declarations e.who → place ≡ place_text trace.decls.places e.place
    → access_told what who place index ≡ access_text trace index
unfolding access_text
access_text_is trace index e what who place at is_what is_who is_place =
    (λ i. access_told (is_what i) (is_who i) (is_place i) index) ∙ sym (ap told at)
  where
    told : Option Event → List (List ℕ)
    told o = elim o [
      | None ↦ []
      | Some e ↦ access_told (access_word e.op) (goroutine_name trace.decls.declarations e.who) (place_text trace.decls.places e.place) index
    ]

pub race_line_is : (trace : TraceState) (race : Race) (var : List ℕ) (first second : List (List ℕ)) → var ≡ var_name trace.decls.declarations race.var
    → first ≡ access_text trace race.first → second ≡ access_text trace race.second → race_told var first second ≡ race_line trace race
unfolding race_line
race_line_is trace race var first second named is_first is_second = λ i. race_told (named i) (is_first i) (is_second i)

-- the text of races, as lines and their count
pub races_text_is : (trace : TraceState) (races : List tool.Race)
    → races_text trace (map race_of races) ≡ flat_map (λ r. race_line trace (race_of r)) races ++ races_line (length races)
races_text_is trace races = λ i. flat_map-map (race_line trace) race_of races i ++ races_line (length-map races race_of i)

-- no more than the whole list
pub take_all : {X : Type 0} (xs : List X) (n : ℕ) → length xs ≤ n → take n xs ≡ xs
take_all xs n all = lists.take_all n xs all
