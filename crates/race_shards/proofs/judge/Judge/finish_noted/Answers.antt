-- The judge hasn't failed, so it stands for a list, and no event of it breaks a rule.
use Rattle.std.proofs.Common.{◌≡◌, ◌<◌, ◌∙◌, List, All, length, arith, map, refl, sym, ap, subst}
use Rattle.race_model.specs.Verdict.{AreReportedRaces}
use Rattle.race_verdict.specs.{declared.report.ReportedRace.ReportedRace, Notes.{race_noted, verdict_noted}}
use Rattle.race_verdict.specs.Races.{race_of, races_of}
use Rattle.race_shards.specs.{Shards.ShardState, Telling.{told_below, HavePlaces, IsNotedBy}}
use Rattle.race_shards.{specs.Judging.{JudgeState, Tells, Notes}, proofs.JudgeSteps.{seen, has_shard, places_of}}
use Rattle.race_shards.proofs.{JudgeSteps.tells_races, NotedSteps.{notes_right, accesses_right}}
use Rattle.race_shards.proofs.judge.Judge.finish_noted.Goals as goal

pub index-requires : goal.index-requires
index-requires g c =
    let some : 0 < length c.self.inside.shards.items = has_shard (seen c.self.inside) c.in_default.is c.self.invariant c.if-self.false in
    omega (arith, some, c.self.inside.shards.ok.0)

pub noted_races-requires-clause-some : goal.noted_races-requires-clause-some
noted_races-requires-clause-some g c =
    let j : JudgeState = seen c.self.inside in
    subst (λ (shards : List ShardState). 0 < length shards) (sym c.as_slice.ensures.value) (has_shard j c.in_default.is c.self.invariant c.if-self.false)

pub noted_races-requires-clause-places : goal.noted_races-requires-clause-places
noted_races-requires-clause-places g c =
    let j : JudgeState = seen c.self.inside in
    subst (λ (shards : List ShardState). HavePlaces shards j.vars) (sym c.as_slice.ensures.value) (places_of j c.in_default.is c.self.invariant c.if-self.false)

pub returns-in-Ok-clause-tells : goal.returns-in-Ok-clause-tells
returns-in-Ok-clause-tells g c =
    let j : JudgeState = seen c.self.inside in
    let races : List ReportedRace = c.in-Ok.races.items in
    let is : map race_noted races ≡ map race_of (races_of (told_below j.shards j.vars)) =
    subst (λ (shards : List ShardState). map race_noted races ≡ map race_of (races_of (told_below shards j.vars))) c.as_slice.ensures.value c.in-Ok.ensures.races in
    subst (λ (j : JudgeState). Tells j (verdict_noted c.of_races.result)) c.self.view_is
    (tells_races j c.in_default.is (verdict_noted c.of_races.result) (races_of (told_below j.shards j.vars)) refl
    (λ caps events legal are. c.of_races.ensures.verdict caps events legal (subst (AreReportedRaces caps events) (sym is) are)))

pub returns-in-Ok-clause-notes : goal.returns-in-Ok-clause-notes
returns-in-Ok-clause-notes g c =
    let j : JudgeState = seen c.self.inside in
    let races : List ReportedRace = c.in-Ok.races.items in
    let all : All (IsNotedBy j.shards j.vars) races =
    subst (λ (shards : List ShardState). All (IsNotedBy shards j.vars) races) c.as_slice.ensures.value c.in-Ok.ensures.noted in
    subst (λ (j : JudgeState). Notes j c.of_races.result) c.self.view_is
    (λ declarations past S. c.of_races.ensures.noted past (sym S.len)
    (c.accesses-accesses.ensures ∙ ap (λ (s : ShardState). s.accesses) c.index.ensures
    ∙ accesses_right j c.in_default.is declarations past S _ (has_shard j c.in_default.is c.self.invariant c.if-self.false))
    (notes_right j c.in_default.is declarations past S races all))
