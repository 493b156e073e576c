-- A log, and what stands for what was told. (Our own)
use Rattle.std.specs.Prelude.{ℕ, List, [], ◌∷◌, Bool, Option, Some, None}
use Rattle.race_hub.specs.declared.log.{BriefAnswer.BriefAnswer, Told.Told}
use Rattle.race_requests.specs.declared.request.{Answer.Answer, Request.Request, Step.Step}

-- a `Log` as its callers see it: the steps, and whether there is room for one more
pub record LogState : Type 0 where
  pub items : List Step
  pub has_room : Bool

-- what was told, in brief with its value
abbrev pub answer_of : BriefAnswer → ℕ → Option Answer
answer_of BriefAnswer.Nothing value = None
answer_of BriefAnswer.Begin value = Some Answer.Begin
answer_of BriefAnswer.Unit value = Some Answer.Unit
answer_of BriefAnswer.Value value = Some (Answer.Value value)
answer_of BriefAnswer.Closed value = Some Answer.Closed
answer_of (BriefAnswer.Sent offer) value = Some (Answer.Chosen offer None)
answer_of (BriefAnswer.Received offer) value = Some (Answer.Chosen offer (Some value))
answer_of BriefAnswer.DefaultTaken value = Some Answer.DefaultTaken
answer_of BriefAnswer.Run value = Some Answer.Run
answer_of BriefAnswer.AlreadyDone value = Some Answer.AlreadyDone
answer_of (BriefAnswer.Tried is_taken) value = Some (Answer.Tried is_taken)

-- the steps in which this was asked and told, one behind another
abbrev pub steps_of : List Request → List Told → List Step
steps_of (r ∷ asked) (t ∷ told) = record { asked = r; told = answer_of t.answer t.value } ∷ steps_of asked told
steps_of _ _ = []
