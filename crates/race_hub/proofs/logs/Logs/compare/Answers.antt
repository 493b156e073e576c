use Rattle.std.proofs.Common.{◌∙◌, length, ap, subst, arith}
use Rattle.race_hub.specs.{Logs.{LogsState}, Finish.IsLeastOther, Tracks.{TrackState, IsFirstOther}}
use Rattle.race_hub.proofs.{TableLemmas.length_map, LogsLemmas.{passed_logs, all_tracked, operands_are, other_is, other_told}}
use Rattle.race_hub.proofs.logs.Logs.compare.Goals.{After-first_other}
use Rattle.race_hub.proofs.logs.Logs.compare.Goals as goal

pub first_other-requires : goal.first_other-requires
first_other-requires g c =
    let len = ap length c.as_slice.ensures.value in
    let old = length_map (λ (t : TrackState). t.log) c.self.inside.tracks.items in
    let same = ap (λ (s : LogsState). length s.logs) c.self.view_is in
    omega (arith, c.requires, len, old, same, c.pass_all.ensures.count)

module _ (g : _) (c : goal.After-first_other g) where
  other : IsFirstOther c.pass_all.new.tracks.items c.args.events.now c.first_other.result
  other = other_told c.args.events.now c.pass_all.new.tracks.items c.as_slice.result.now c.first_other.result c.as_slice.ensures.value c.first_other.ensures
      (all_tracked c.args.events.now c.self.inside.tracks.items c.pass_all.new.tracks.items c.self.invariant c.pass_all.ensures)

pub returns-in-Some-clause-err : goal.returns-in-Some-clause-err
returns-in-Some-clause-err g c =
    let old = c.self.inside.tracks.items in
    let new = c.pass_all.new.tracks.items in
    let other = other g (goal.at.returns-in-Some-clause-err g c).After-first_other in
    subst (λ logs. IsLeastOther c.in-Some.goroutine logs c.args.events.now)
    (passed_logs c.args.events.now old new c.pass_all.ensures ∙ ap (λ (s : LogsState). s.logs) c.self.view_is)
    (other_is c.args.events.now new c.in-Some.goroutine (subst (IsFirstOther new c.args.events.now) c.in-Some.is other))

pub returns-in-None-clause-logs : goal.returns-in-None-clause-logs
returns-in-None-clause-logs g c =
    passed_logs c.args.events.now c.self.inside.tracks.items c.pass_all.new.tracks.items c.pass_all.ensures ∙ ap (λ (s : LogsState). s.logs) c.self.view_is

pub returns-in-None-clause-parts : goal.returns-in-None-clause-parts
returns-in-None-clause-parts g c =
    let other = other g (goal.at.returns-in-None-clause-parts g c).After-first_other in
    operands_are c.args.events.now c.pass_all.new.tracks.items (subst (IsFirstOther c.pass_all.new.tracks.items c.args.events.now) c.in-None.is other)
