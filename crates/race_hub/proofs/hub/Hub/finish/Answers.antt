use Rattle.std.proofs.Common.{◌∙◌, ap, sym, subst}
use Rattle.std.specs.Prelude.{IfOk, IfErr}
use Rattle.race_hub.specs.{Hub.{end_of}, Finish.{IsRecorded, IsMismatch}}
use Rattle.race_hub.proofs.hub.Hub.finish.Goals as goal

pub recorded-requires-clause-ended : goal.recorded-requires-clause-ended
recorded-requires-clause-ended g c = ap end_of c.self.view_is ∙ sym c.end.ensures ∙ c.in-Some.is

pub returns-clause-ok : goal.returns-clause-ok
returns-clause-ok g c = subst (λ h. IfOk c.recorded.result (IsRecorded h)) c.self.view_is c.recorded.ensures.ok

pub returns-clause-err : goal.returns-clause-err
returns-clause-err g c = subst (λ h. IfErr c.recorded.result (IsMismatch h)) c.self.view_is c.recorded.ensures.err
