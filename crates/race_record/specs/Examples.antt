-- A run of main alone, which returns at once, and what is recorded of it: src/examples.rt proves it.
use Rattle.std.specs.Prelude.{ℕ, List, [], ◌∷◌, None}
use Rattle.race_records.specs.{declared.{event.Op.TheVariants.Exit, version.Version.Version}, Declarations.DeclsState}
use Rattle.race_model.specs.Examples.{does}
use Rattle.race_requests.specs.declared.request.{Ask.Ask, Step.Step}
use Rattle.race_hub.specs.{declared.ending.End.End, Hub.{HubState, opening}, Recording.RecordingState}

-- nothing is declared, and main stands at the only place
abbrev pub nothing : DeclsState
nothing = record { version = Version.One; declarations = []; places = (109 ∷ []) ∷ [] }

-- a hub of main alone that makes so many events at most
abbrev pub hub_of : ℕ → HubState (Unit {0})
hub_of limit = opening nothing limit tt []

-- main exits
abbrev pub exits : Step
exits = record { asked = record { ask = Ask.Exit; place = 0 }; told = None }

-- and the run has ended
abbrev pub main_returns : RecordingState
main_returns = record { decls = nothing; events = does 0 Exit ∷ []; logs = (exits ∷ []) ∷ []; waiting = []; end = End.Main }
