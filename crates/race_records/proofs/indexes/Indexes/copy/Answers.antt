use Rattle.std.{proofs.{Common.◌∙◌, lemmas.Result.IfOk-from_err}, specs.List.each_same}
use Rattle.race_records.proofs.indexes.Indexes.copy.Goals as goal

pub returns-in_err-clone : goal.returns-in_err-clone
returns-in_err-clone g c = IfOk-from_err _ _ c.from_residual.ensures.0

pub returns-in_err-clone-2 : goal.returns-in_err-clone-2
returns-in_err-clone-2 g c = IfOk-from_err _ _ c.from_residual-in_err-clone-2.ensures.0

pub returns-in_err-clone-3 : goal.returns-in_err-clone-3
returns-in_err-clone-3 g c = IfOk-from_err _ _ c.from_residual-in_err-clone-3.ensures.0

pub returns-in_err-clone-4 : goal.returns-in_err-clone-4
returns-in_err-clone-4 g c = IfOk-from_err _ _ c.from_residual-in_err-clone-4.ensures.0

pub returns-in_err-clone-5 : goal.returns-in_err-clone-5
returns-in_err-clone-5 g c = IfOk-from_err _ _ c.from_residual-in_err-clone-5.ensures.0

pub returns : goal.returns
returns g c =
    (λ i. record {
      goroutines = each_same _ _ c.in_ok-clone.ensures.cases.0 i;
      vars = each_same _ _ c.in_ok-clone-2.ensures.cases.0 i;
      chans = each_same _ _ c.in_ok-clone-3.ensures.cases.0 i;
      locks = each_same _ _ c.in_ok-clone-4.ensures.cases.0 i;
      onces = each_same _ _ c.in_ok-clone-5.ensures.cases.0 i;
    })
    ∙ c.self.view_is
