-- A goroutine between its turns: what it was told and asked. (Our own)
use Rattle.std.specs.Prelude.{ℕ, List, Option, Some}
use Rattle.race_requests.specs.declared.request.{Answer.Answer, Request.Request, Step.Step}

-- a `Job` as its callers see it: the goroutine, its routine, what it was last told, its log, what it asks and isn't told yet
pub record JobState (R : Type 0) : Type 0 where
  pub who : ℕ
  pub routine : R
  pub answer : Answer
  pub log : List Step
  pub asked : Option Request

-- its routine, which is this one now, has asked
abbrev pub asking : {R : Type 0} → JobState R → R → Request → JobState R
asking job routine request = record { who = job.who; routine = routine; answer = job.answer; log = job.log; asked = Some request }
