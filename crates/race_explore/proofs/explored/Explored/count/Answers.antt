use Rattle.std.proofs.Common.{◌++◌, ◌∷◌, ◌≤◌, [], All, List, sym, ◌∙◌, subst}
use Rattle.race_explore.specs.declared.{explored.RacyVariable.RacyVariable, stuck.BadEnd.BadEnd}
use Rattle.race_explore.specs.{Looked.looked_of, Ends.CountsEndOf, Told.AreRacy}
use Rattle.race_explore.proofs.BadEndLemmas.{bad_fits}
use Rattle.race_explore.proofs.explored.Explored.count.Goals as goal

pub returns-clause-racy : goal.returns-clause-racy
returns-clause-racy g c = λ seen are.
    subst (λ (racy : List (RacyVariable g.row.A.Denot)).
    AreRacy (seen ++ looked_of c.args.picks.now c.args.recording.now c.args.verdict.now ∷ []) racy)
    (sym (c.count_run.ensures.racy ∙ c.in_ok-count_bad.ensures.racy)) (c.in_ok-count_races.ensures.racy seen are)

pub count_bad-requires : goal.count_bad-requires
count_bad-requires g c =
    let runs = c.args.self.now.runs in
    bad_fits c.count_races.new.self.bad.items runs c.requires.bounded.runs
    (subst (λ (bad : List (BadEnd g.row.A.Denot)). All (λ (b : BadEnd g.row.A.Denot). b.runs ≤ runs) bad) (sym c.in_ok-count_races.ensures.bad)
    c.requires.few_ends)

pub returns-clause-bad : goal.returns-clause-bad
returns-clause-bad g c =
    subst (λ (old : List (BadEnd g.row.A.Denot)). CountsEndOf c.args.recording.now c.args.picks.now old c.count_run.new.self.bad.items)
    c.in_ok-count_races.ensures.bad
    (subst (λ (new : List (BadEnd g.row.A.Denot)). CountsEndOf c.args.recording.now c.args.picks.now c.count_races.new.self.bad.items new)
    (sym c.count_run.ensures.bad) c.in_ok-count_bad.ensures.bad)
