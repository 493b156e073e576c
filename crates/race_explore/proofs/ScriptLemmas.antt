-- The scripts of a program, and its run, by what is known of its parts.
use Rattle.std.proofs.Common.{ℕ, ◌≡◌, ◌+◌, ◌++◌, List, [], ◌∷◌, length, map, take, Result, Ok, Err, IfOk, IfErr, sym, ap, subst, ◌∙◌, inr}
use Rattle.std.{proofs.{Common.slice_get, lemmas.List.{map-append}}, specs.Prelude.Some}
use Rattle.race_legal.proofs.Fronts.{take_next}
use Rattle.race_records.specs.Declarations.{DeclsState}
use Rattle.race_requests.specs.declared.request.Request.{Request}
use Rattle.race_hub.specs.{Hub.HubState, Opening.IsOpening, Recording.RecordingState}
use Rattle.race_record.specs.{declared.noting.Fork.Fork, Noting.IsNoting, Recorded.IsRecordingOf, Serial.IsSerial}
use Rattle.race_script.specs.{Certificate.IsCertified, Program.ProgramState, Run.{ScriptState, Asks}}
use Rattle.race_explore.specs.Walk.{scripts_of, Opens, IsNotedRun, IsRefused}

-- so many scripts are made
abbrev pub AreScripts : List (List Request) → ℕ → List ScriptState → Type 0
AreScripts bodies n scripts = scripts ≡ map (λ body. record { whole = body; position = 0 }) (take n bodies)

-- and one more
pub one_more_script : (bodies : List (List Request)) (n : ℕ) (scripts : List ScriptState) (s : ScriptState) → AreScripts bodies n scripts
    → slice_get bodies n ≡ Some s.whole → s.position ≡ 0 → AreScripts bodies (n + 1) (scripts ++ s ∷ [])
one_more_script bodies n scripts s so at position =
    (λ i. so i ++ record { whole = s.whole; position = position i } ∷ [])
    ∙ sym (map-append script_of (take n bodies) (s.whole ∷ []))
    ∙ ap (map script_of) (sym (take_next bodies n s.whole at))
  where
    script_of : List Request → ScriptState
    script_of body = record { whole = body; position = 0 }

-- the hub opens as the program's
pub opens_program : (program : ProgramState) (limit : ℕ) (decls : DeclsState) (scripts : List ScriptState) (hub : HubState ScriptState)
    → decls ≡ program.decls → scripts ≡ scripts_of program → IsOpening decls limit scripts hub → Opens program limit hub
opens_program program limit decls scripts hub decls_are scripts_are opens =
    subst (λ d. IsOpening d limit (scripts_of program) hub) decls_are (subst (λ s. IsOpening decls limit s hub) scripts_are opens)

-- from a new hub no job is out
pub none_out : {R : Type 0} (decls : DeclsState) (limit : ℕ) (routines : List R) (hub : HubState R) → IsOpening decls limit routines hub
    → length hub.out ≡ 0
none_out decls limit routines hub opens = ap (λ h. length h.out) opens.hub_is

module _ (program : ProgramState) (limit : ℕ) (picks : List ℕ) (hub : HubState ScriptState) (opens : Opens program limit hub)
    (r : RecordingState) (serial : IsSerial Asks picks hub r) where
  -- what was recorded follows the program
  pub noted_run : {E : Type 0} (forks : List Fork) (answer : Result RecordingState E) → IsNoting Asks picks hub forks r → IsRecordingOf hub r
      → IfOk answer (λ s. s ≡ r) → IfOk answer (λ s. IsCertified program s) → IfOk answer (λ s. IsNotedRun program limit picks forks s)
  noted_run forks (Ok s) noting recording same certified =
      subst (λ (x : RecordingState). IsNotedRun program limit picks forks x) (sym same) record {
        hub = hub;
        opens = opens;
        noting = noting;
        serial = serial;
        recording = recording;
        certified = subst (λ (x : RecordingState). IsCertified program x) same certified;
      }
  noted_run forks (Err e) noting recording same certified = tt

  -- or it doesn't
  pub refused_run : {E : Type 0} (answer : Result RecordingState E) (e : E) → IfErr answer (λ _. IsCertified program r → ⊥) → answer ≡ Err e
      → IsRefused program limit picks
  refused_run (Ok s) e none is = absurd (cc is)
  refused_run (Err f) e none is = record { hub = hub; opens = opens; refused = inr (r, serial, none) }
