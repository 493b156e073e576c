-- How a run ends in which main doesn't return, and where its goroutines stand then. (Our own)
use Rattle.std.specs.Prelude.{ℕ, ◌==◌, ◌&&◌, Bool, true, false, List, [], Option}
use Rattle.std.specs.{List.{filter_map, find, range_with_len}, Option.{option_map, option_to_list}, Cmp.Lexicographic.pointwise}
use Rattle.race_records.specs.{declared.kind.Kind.Kind, Declarations.count_of}
use Rattle.race_hub.specs.{declared.ending.End.End, Hub.last_event, Recording.RecordingState}
use Rattle.race_explore.specs.declared.stuck.Standing.{Standing}

-- where the goroutine waits, if it does
abbrev pub waits_at : RecordingState → ℕ → Option Standing
waits_at r g = option_map (λ w. record { who = g; place = w.asked.place }) (find (λ w. w.who == g) r.waiting)

-- who did the last event, and where
abbrev pub failed_at : RecordingState → Option Standing
failed_at r = option_map (λ e. record { who = e.who; place = e.place }) (last_event r.events)

-- whom the end is about, and where each stands: in a deadlock all who wait, by their numbers; in a fault who failed; of a bad request who asked
abbrev pub standing_of : RecordingState → List Standing
standing_of r = elim r.end [
  | End.Main ↦ []
  | End.Fault ↦ option_to_list (failed_at r)
  | End.Bad g ↦ option_to_list (waits_at r g)
  | End.Limit ↦ []
  | End.Deadlock ↦ filter_map (waits_at r) (range_with_len 0 (count_of Kind.Goroutine r.decls.declarations))
]

-- both ends are the same
abbrev pub is_same_end : End → End → Bool
is_same_end End.Main End.Main = true
is_same_end End.Fault End.Fault = true
is_same_end (End.Bad g) (End.Bad h) = g == h
is_same_end End.Limit End.Limit = true
is_same_end End.Deadlock End.Deadlock = true
is_same_end _ _ = false

-- the same goroutines stand at the same places
abbrev pub is_same_standing : List Standing → List Standing → Bool
is_same_standing these those = pointwise (λ s t. (s.who == t.who) && (s.place == t.place)) these those
