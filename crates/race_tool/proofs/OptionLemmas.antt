-- What is promised of a recording, told of the options by which it is made.
use Rattle.std.proofs.Common.{ℕ, ◌≡◌, List, Option, Some, None, Result, Ok, Err, IfOk, sym, subst}
use Rattle.std.specs.Prelude.{IfSome}
use Rattle.race_requests.specs.declared.request.{Answer.Answer, Request.Request}
use Rattle.race_hub.specs.{Hub.HubState, Recording.RecordingState}
use Rattle.race_record.specs.Serial.{IsSerial}

module _ {R : Type 0} (asks : R → Answer → Request → R → Type 0) (hub : HubState R) {E : Type 0} (answer : Result RecordingState E) (asked : Option (List ℕ)) where
  -- it is made by these picks
  pub by_picks : (picks : List ℕ) → asked ≡ Some picks → IfOk answer (λ r. IsSerial asks picks hub r)
      → IfOk answer (λ r. IfSome asked (λ p. IsSerial asks p hub r))
  by_picks picks is told = subst (λ (o : Option (List ℕ)). IfOk answer (λ r. IfSome o (λ p. IsSerial asks p hub r))) (sym is) told

  -- it is made without picks
  pub without_picks : asked ≡ None → IfOk answer (λ r. IfSome asked (λ p. IsSerial asks p hub r))
  without_picks is = subst (λ (o : Option (List ℕ)). IfOk answer (λ r. IfSome o (λ p. IsSerial asks p hub r))) (sym is) (by answer)
    where
      by : (a : Result RecordingState E) → IfOk a (λ r. IfSome None (λ (p : List ℕ). IsSerial asks p hub r))
      by (Ok r) = tt
      by (Err e) = tt
