use Rattle.std.proofs.Common.{◌≡◌, ◌<◌, All, Some, None, map, sym, ap, ◌∙◌, subst, arith}
use Rattle.std.proofs.lemmas.List.Elements.{All-push}
use Rattle.race_verdict.specs.{declared.report.ReportedRace.ReportedRace, Notes.race_noted, Races.{race_of, races_of}}
use Rattle.race_shards.{specs.Telling.{race_told, told_below, IsNotedBy}, proofs.TellSteps.{noted_some, told_none}}
use Rattle.race_shards.proofs.races.noted_races.Goals.{in-Some+in_ok-push, in_default}
use Rattle.race_shards.proofs.races.noted_races.Goals as goal

pub loop-var-preserved : goal.loop-var-preserved
loop-var-preserved g c =
    let shards = c.args.shards.now in
    let var = c.loop-var.var in
    let less : var < c.args.vars = omega arith in
    record {
      races = elim c.match-noted.branch [
        | in-Some+in_ok-push w ↦
            let r : ReportedRace = record { var = var; first = w.in-Some.first; second = w.in-Some.second } in
            let told : race_told shards var ≡ Some (record { var = var; first = r.first.at; second = r.second.at }) = sym w.in-Some.ensures.race in
            ap (λ v. map race_noted v.items) w.races-is ∙ ap (map race_noted) w.in_ok-push.ensures.items
            ∙ noted_some shards var c.loop-var.races.items r told c.loop-var.invariant.races
        | in_default w ↦
            let told : race_told shards var ≡ None = sym w.in_default.ensures.race in
            ap (λ v. map race_noted v.items) w.races-is ∙ c.loop-var.invariant.races ∙ ap (map race_of) (sym (told_none shards var told))
      ];
      noted = elim c.match-noted.branch [
        | in-Some+in_ok-push w ↦
            let r : ReportedRace = record { var = var; first = w.in-Some.first; second = w.in-Some.second } in
            subst (All (IsNotedBy shards c.args.vars)) (sym (ap (λ v. v.items) w.races-is ∙ w.in_ok-push.ensures.items))
            (All-push (IsNotedBy shards c.args.vars) c.loop-var.races.items r c.loop-var.invariant.noted (less, sym w.in-Some.ensures.noted))
        | in_default w ↦ subst (All (IsNotedBy shards c.args.vars)) (sym (ap (λ v. v.items) w.races-is)) c.loop-var.invariant.noted
      ];
    }

pub returns-clause-races : goal.returns-clause-races
returns-clause-races g c =
    let all : c.loop-var.var ≡ c.args.vars = omega arith in
    subst (λ n. map race_noted c.loop-var.races.items ≡ map race_of (races_of (told_below c.args.shards.now n))) all c.loop-var.invariant.races
